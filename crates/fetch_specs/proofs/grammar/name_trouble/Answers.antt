use Rattle.std.proofs.Common.{◌≡◌, ◌+◌, Bool, true, false, cond, not, ◌&&◌, List, ℕ, [], ◌∷◌, ◌≤◌, length, drop, get_or, Some, None, sym, ap, ◌∙◌, arith}
use Rattle.std.specs.List.{slice_range}
use Rattle.std.specs.Str.{bytes_eq}
use Rattle.std.proofs.lemmas.List.{drop_all}
use Rattle.std.proofs.lemmas.Bool.Decides.{nat_tests}
use Rattle.fetch_specs.specs.Scans.{scan, last_part, may_end, may_follow, onward}
use Rattle.fetch_specs.specs.Names.{last_is}
use Rattle.fetch_specs.proofs.Fronts.{stuck, whole}
use Rattle.fetch_specs.proofs.Turns.{next_part, scan-turn, part-turn}
use Rattle.fetch_specs.proofs.grammar.name_trouble.Goals as goal

pub returns-then-not-may_follow-clause-place : goal.returns-then-not-may_follow-clause-place
returns-then-not-may_follow-clause-place c =
    let text = c.args.text.now in
    let i = c.loop-i.i in
    let part = slice_range text c.loop-i.start i in
    let never : may_follow c.args.star part (get_or text i 0) ≡ false = sym c.may_follow.ensures ∙ c.if-not-may_follow.true in
    let none : scan c.args.star part (drop i text) ≡ 0 = scan-turn c.args.star text part i c.loop-i-test.true ∙ ap (λ (t : Bool). cond t (scan c.args.star (onward part (get_or text i 0)) (drop (i + 1) text) + 1) 0) never in
    let place : scan c.args.star [] text ≡ i = omega (arith, none, c.loop-i.invariant.scanned) in
    ap Some (sym place) ∙ sym (stuck c.args.star text (omega (arith, place, c.loop-i-test.true)))

pub loop-i-preserved : goal.loop-i-preserved
loop-i-preserved c =
    let text = c.args.text.now in
    let i = c.loop-i.i in
    let byte = get_or text i 0 in
    let part = slice_range text c.loop-i.start i in
    let follows : may_follow c.args.star part byte ≡ true = sym c.may_follow.ensures ∙ c.if-not-may_follow.false in
    let one : scan c.args.star part (drop i text) ≡ scan c.args.star (onward part byte) (drop (i + 1) text) + 1 = scan-turn c.args.star text part i c.loop-i-test.true ∙ ap (λ (t : Bool). cond t (scan c.args.star (onward part byte) (drop (i + 1) text) + 1) 0) follows in
    let next : slice_range text c.next_start-start.result (i + 1) ≡ onward part byte = ap (λ (n : ℕ). slice_range text n (i + 1)) c.next_start-start.ensures ∙ next_part text c.loop-i.start i c.loop-i.invariant.before c.loop-i-test.true in
    let same : scan c.args.star (slice_range text c.next_start-start.result (i + 1)) (drop (i + 1) text) ≡ scan c.args.star (onward part byte) (drop (i + 1) text) = ap (λ (p : List ℕ). scan c.args.star p (drop (i + 1) text)) next in
    record {
      before = grind (arith, nat_tests);
      scanned = omega (arith, one, same, c.loop-i.invariant.scanned);
      part = ap (λ (p : List ℕ). last_part p (drop (i + 1) text)) next ∙ sym (part-turn text part i c.loop-i-test.true) ∙ c.loop-i.invariant.part;
    }

end_place : (star : Bool) (text part : List ℕ) (i : ℕ) → length text ≤ i → i ≤ length text → i + scan star part (drop i text) ≡ scan star [] text → scan star [] text ≡ length text
end_place star text part i low high scanned =
    let none : scan star part (drop i text) ≡ 0 = ap (scan star part) (drop_all i text low) in
    omega arith

end_part : (text : List ℕ) (start i : ℕ) → length text ≤ i → i ≤ length text → last_part (slice_range text start i) (drop i text) ≡ last_part [] text → slice_range text start (length text) ≡ last_part [] text
end_part text start i low high is =
    let n : length text ≡ i = omega arith in
    ap (slice_range text start) n ∙ sym (ap (last_part (slice_range text start i)) (drop_all i text low)) ∙ is

pub returns-then-is_whole-clause-place : goal.returns-then-is_whole-clause-place
returns-then-is_whole-clause-place c =
    let text = c.args.text.now in
    let i = c.loop-i.i in
    let all = end_place c.args.star text (slice_range text c.loop-i.start i) i c.loop-i-test.false c.loop-i.auto.i-end c.loop-i.invariant.scanned in
    let part = end_part text c.loop-i.start i c.loop-i-test.false c.loop-i.auto.i-end c.loop-i.invariant.part in
    let test : (may_end (last_part [] text) && not (last_is 46 text) && not (bytes_eq text (64 ∷ []))) ≡ true = ap (λ (p : List ℕ). may_end p && not (last_is 46 text) && not (bytes_eq text (64 ∷ []))) (sym part) ∙ sym c.is_whole.ensures ∙ c.if-is_whole.true in
    sym (whole c.args.star text all ∙ ap (λ (t : Bool). cond t None (Some (length text))) test)

pub returns-else-is_whole-clause-place : goal.returns-else-is_whole-clause-place
returns-else-is_whole-clause-place c =
    let text = c.args.text.now in
    let i = c.loop-i.i in
    let all = end_place c.args.star text (slice_range text c.loop-i.start i) i c.loop-i-test.false c.loop-i.auto.i-end c.loop-i.invariant.scanned in
    let part = end_part text c.loop-i.start i c.loop-i-test.false c.loop-i.auto.i-end c.loop-i.invariant.part in
    let test : (may_end (last_part [] text) && not (last_is 46 text) && not (bytes_eq text (64 ∷ []))) ≡ false = ap (λ (p : List ℕ). may_end p && not (last_is 46 text) && not (bytes_eq text (64 ∷ []))) (sym part) ∙ sym c.is_whole.ensures ∙ c.if-is_whole.false in
    sym (whole c.args.star text all ∙ ap (λ (t : Bool). cond t None (Some (length text))) test)
