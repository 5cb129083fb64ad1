use Rattle.std.proofs.Common.{◌++◌, length, ap, ◌∙◌}
use Rattle.std.specs.Str.{bytes_eq}
use Rattle.fetch_specs.proofs.Joins.{not_joined, is_joined, tail}
use Rattle.fetch_specs.proofs.pattern.is_wrapped.Goals as goal

pub returns-then-not-starts_with : goal.returns-then-not-starts_with
returns-then-not-starts_with c = not_joined c.args.front.now (c.args.text.now ++ c.args.back.now) c.args.name.now c.starts_with.result c.starts_with.ensures.value c.if-not-starts_with.true

pub returns : goal.returns
returns c = is_joined c.args.front.now (c.args.text.now ++ c.args.back.now) c.args.name.now c.starts_with.result _ c.starts_with.ensures.value c.if-not-starts_with.false (c.is_joined.ensures ∙ ap (bytes_eq (c.args.text.now ++ c.args.back.now)) (tail (length c.args.front.now) c.args.name.now))
