use Rattle.std.proofs.Common.{◌∙◌, [], ◌∷◌, ◌++◌, ap, arith, List, ℕ}
use Rattle.std.proofs.lemmas.List.{take_all}
use Rattle.fetch_disk.specs.Records.{opened, payload}
use Rattle.fetch_disk.proofs.Spelled.{opened-empty, opened-more}
use Rattle.fetch_disk.proofs.spelling.spell_all.Goals as goal

pub loop-record-init : goal.loop-record-init
loop-record-init c = c.in_ok-out.ensures ∙ opened-empty c.args.hash

pub loop-record-preserved : goal.loop-record-preserved
loop-record-preserved c =
    let r = c.record-item.result in
    let i = c.loop-record.record-index in
    c.in_ok-put_record.ensures ∙ ap (λ (l : List ℕ). l ++ 1 ∷ payload c.args.hash r) c.loop-record.invariant
    ∙ opened-more c.args.hash c.args.records.now i r (omega arith) c.record-item.is

pub returns : goal.returns
returns c =
    c.in_ok-push.ensures.items ∙ ap (λ (l : List ℕ). l ++ 0 ∷ []) (c.loop-record.invariant ∙ ap (opened c.args.hash) (take_all c.loop-record.record-index c.args.records.now (omega arith)))
