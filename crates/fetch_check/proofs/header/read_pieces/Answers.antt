use Rattle.std.proofs.Common.{length, refl, subst, sym}
use Rattle.fetch_check.specs.ReadSteps.{AreReadTo}
use Rattle.fetch_check.proofs.Steps.{fewer, further, no_pieces, piece_more, pieces_end}
use Rattle.fetch_lines.specs.declared.lines.line.Line.TheVariants.{Payload}
use Rattle.fetch_check.proofs.header.read_pieces.Goals as goal

pub pieces-init : goal.pieces-init
pieces-init c = subst (λ pack. AreReadTo c.args.bytes.now c.args.place pack c.args.place _) (sym c.in_ok-pack.ensures.items) (no_pieces c.args.bytes.now c.args.place c.requires)

pub pieces-smaller : goal.pieces-smaller
pieces-smaller c =
    let f = further c.args.bytes.now c.pieces.next c.in-Some.behind (Payload c.in-Some.piece.now) c.in-Some.ensures.line in
    fewer (length c.args.bytes.now) c.pieces.next c.in-Some.behind f.0 f.1

pub pieces-preserved : goal.pieces-preserved
pieces-preserved c =
    piece_more c.args.bytes.now c.args.place c.pieces.next c.in-Some.behind c.pieces.pack.items c.in-Some.piece.now c.extend_from_slice.new.self.items _
    (subst (λ full. AreReadTo c.args.bytes.now c.args.place c.pieces.pack.items c.pieces.next full) c.in-Some.ensures.full c.pieces.invariant) c.in-Some.ensures.line c.in-Some.ensures.piece c.in_ok-extend_from_slice.ensures.items refl

pub returns : goal.returns
returns c = pieces_end c.args.bytes.now c.args.place c.pieces.next c.pieces.pack.items c.pieces.are_full c.pieces.invariant (c.in_default.ensures.none refl)
