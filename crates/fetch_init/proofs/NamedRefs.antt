-- What a name means, where it isn't written out.
use Rattle.std.proofs.Common.{◌≡◌, ℕ, ◌+◌, ◌<◌, true, cond, List, [], ◌∷◌, ◌++◌, length, take, get_or, append-nil, Bool, Option, Some, None, refl, sym, ap, ◌∙◌}
use Rattle.std.specs.List.{filter_map}
use Rattle.std.specs.Option.{option_or}
use Rattle.std.specs.Str.{bytes_eq}
use Rattle.std.proofs.lemmas.List.{take_more}
use Rattle.std.proofs.lemmas.List.Elements.{filter_map-append}
use Rattle.std.proofs.lemmas.Slice.Eq.{bytes_eq-Decides}
use Rattle.fetch_specs.proofs.Keys.{once-push, any-once}
use Rattle.fetch_specs.specs.Matches.{once}
use Rattle.fetch_map.specs.declared.mapping.Mapping.{Mapping}
use Rattle.fetch_init.specs.NamedRefs.{written_out, taken_at, taken_of, is_same, with_new, only_one, or_taken, ref_named_in}
use Rattle.fetch_init.specs.declared.named_ref.NamedRef.{NamedRef}

pub second : {A : Type 0} (first a b now : Option A) → first ≡ None → a ≡ first → now ≡ b → now ≡ option_or a b
second first a b now none same is = is ∙ ap (λ o. option_or o b) (sym (same ∙ none))

pub fall-back : (mappings : List Mapping) (wanted w : List ℕ) (found : Option NamedRef) (ms : List NamedRef) → w ≡ wanted → found ≡ None → found ≡ written_out mappings w → ms ≡ taken_of mappings wanted → only_one ms ≡ ref_named_in mappings wanted
unfolding ref_named_in
fall-back mappings wanted w found ms same none f t =
    ap only_one t ∙ ap (λ o. or_taken o (taken_of mappings wanted)) (sym none ∙ f) ∙ ap (λ v. or_taken (written_out mappings v) (taken_of mappings wanted)) same

alike : (m a y : NamedRef) → is_same a y ≡ true → is_same a m ≡ is_same y m
alike m a y is = ap (λ (t : List ℕ). bytes_eq t m.name) ((bytes_eq-Decides a.name y.name).0 is)

-- one more at the end
new-once : (ms : List NamedRef) (m : NamedRef) → with_new (once is_same ms) (Some m) ≡ once is_same (ms ++ m ∷ [])
new-once ms m =
    ap (λ (t : Bool). cond t (once is_same ms) (once is_same ms ++ m ∷ [])) (any-once is_same (λ y. is_same y m) ms (λ a y is. alike m a y is))
    ∙ sym (once-push is_same ms m)

more-by : (wanted : List ℕ) (ms : List NamedRef) (x : Mapping) (o : Option NamedRef) → taken_at wanted x ≡ o → with_new (once is_same ms) o ≡ once is_same (ms ++ filter_map (taken_at wanted) (x ∷ []))
more-by wanted ms x None is = rw is (ap (once is_same) (sym (append-nil ms)))
more-by wanted ms x (Some m) is = rw is (new-once ms m)

-- what one more mapping gives
pub one-more : (wanted : List ℕ) (xs : List Mapping) (i : ℕ) (x : Mapping) (before now : List NamedRef) → i < length xs → x ≡ get_or xs i x
    → before ≡ taken_of (take i xs) wanted → now ≡ with_new before (taken_at wanted x) → now ≡ taken_of (take (i + 1) xs) wanted
one-more wanted xs i x before now lt here so_far is =
    let t : take (i + 1) xs ≡ take i xs ++ x ∷ [] = take_more xs i x lt ∙ ap (λ (z : _). take i xs ++ z ∷ []) (sym here) in
    is ∙ ap (λ (ms : List NamedRef). with_new ms (taken_at wanted x)) so_far
    ∙ more-by wanted (filter_map (taken_at wanted) (take i xs)) x (taken_at wanted x) refl
    ∙ ap (once is_same) (sym (ap (filter_map (taken_at wanted)) t ∙ filter_map-append (taken_at wanted) (take i xs) (x ∷ [])))
