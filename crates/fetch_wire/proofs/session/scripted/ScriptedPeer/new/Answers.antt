use Rattle.std.proofs.Common.{refl}
use Rattle.fetch_wire.proofs.Pieces.{all_pieces}
use Rattle.fetch_wire.proofs.session.scripted.ScriptedPeer.new.Goals as goal

pub returns-clause-told : goal.returns-clause-told
returns-clause-told c = rw (c.new.ensures.items, all_pieces c.args.pieces.items, c.new-2.ensures) refl

pub returns-clause-pieces : goal.returns-clause-pieces
returns-clause-pieces c = all_pieces c.args.pieces.items
