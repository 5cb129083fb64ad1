use Rattle.std.proofs.Common.{◌≡◌, ◌∙◌, ◌+◌, [], ◌∷◌, ◌++◌, ap, sym, arith, take, List}
use Rattle.std.specs.Prelude.{reverse}
use Rattle.std.specs.FinMap as map
use Rattle.std.specs.FinMap.{get-empty}
use Rattle.std.proofs.lemmas.List.{take_more, reverse-append}
use Rattle.fetch_base.specs.Id.{id_cmp}
use Rattle.fetch_disk.specs.History.{packs_of, pack_after}
use Rattle.fetch_disk.specs.declared.call.Call.{Call}
use Rattle.fetch_disk.proofs.Histories.{get_after}
use Rattle.fetch_disk.proofs.memory_packs.find_pack.Goals as goal

pub loop-call-init : goal.loop-call-init
loop-call-init c = sym (get-empty id_cmp c.args.name.now)

pub loop-call-preserved : goal.loop-call-preserved
loop-call-preserved c =
    let all = c.args.calls.now in
    let name = c.args.name.now in
    let i = c.loop-call.call-index in
    let call = c.call-item.result in
    let one : take (i + 1) all ≡ take i all ++ call ∷ [] = take_more all i call (omega arith) ∙ ap (λ (x : Call). take i all ++ x ∷ []) (sym c.call-item.is) in
    let turned : reverse (take (i + 1) all) ≡ call ∷ reverse (take i all) = ap reverse one ∙ reverse-append (take i all) (call ∷ []) in
    c.after_call-found.ensures ∙ ap (pack_after call name) c.loop-call.invariant ∙ sym (get_after call (reverse (take i all)) name)
    ∙ ap (λ (h : List Call). map.get (packs_of h) name) (sym turned)
