use Rattle.std.proofs.lemmas.List.{take_rest}
use Rattle.fetch_check.proofs.Found.{text_stands, no_text}
use Rattle.fetch_check.proofs.scanning.end_of.Goals as goal

pub returns-then-starts_with-clause-there : goal.returns-then-starts_with-clause-there
returns-then-starts_with-clause-there c =
    text_stands c.args.bytes.now _ c.args.place c.args.text.now c.starts_with.result (take_rest c.args.bytes.now c.args.place) c.requires (c.starts_with.ensures.bound c.if-starts_with.true) c.starts_with.ensures.value c.if-starts_with.true

pub returns-else-starts_with-clause-other : goal.returns-else-starts_with-clause-other
returns-else-starts_with-clause-other c =
    λ _. no_text c.args.bytes.now _ c.args.place c.args.text.now c.starts_with.result (take_rest c.args.bytes.now c.args.place) c.starts_with.ensures.value c.if-starts_with.false
