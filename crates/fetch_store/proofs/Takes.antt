-- The first of what a take leaves missing.
use Rattle.std.proofs.Common.{◌≡◌, List, ◌++◌, Option, sym, ap, ap₂, ◌∙◌}
use Rattle.std.specs.Prelude.{slice_get}
use Rattle.std.specs.Option.{option_or}
use Rattle.fetch_base.specs.declared.id.ObjectId.{ObjectId}
use Rattle.fetch_store.specs.declared.missing.Missing.{Missing}
use Rattle.fetch_store.specs.Borders.{IdSet}
use Rattle.fetch_store.specs.Stores.{ObjectMap}
use Rattle.fetch_store.specs.Closed.{Holding}
use Rattle.fetch_store.specs.Honest.{Pack, taken}
use Rattle.fetch_store.specs.Missing.{unheld_in, unlinked_in, unknown_in, orphaned_in, missing}
use Rattle.fetch_store.proofs.Firsts.{first-append}

abbrev head : List Missing → Option Missing
head xs = slice_get xs 0

-- of four lists, the first of the first that has one
abbrev pub first_of : Option Missing → Option Missing → Option Missing → Option Missing → Option Missing
first_of a b c d = option_or a (option_or (option_or b c) d)

first_of_lists : (a b c d : List Missing) → head (a ++ (b ++ c ++ d)) ≡ first_of (head a) (head b) (head c) (head d)
first_of_lists a b c d =
    first-append a (b ++ c ++ d) ∙ ap (option_or (head a)) (first-append (b ++ c) d ∙ ap (λ x. option_or x (head d)) (first-append b c))

pub first_listed : (a b c d : List Missing) (x : Option Missing) → x ≡ first_of (head a) (head b) (head c) (head d) → x ≡ head (a ++ (b ++ c ++ d))
first_listed a b c d x is = is ∙ sym (first_of_lists a b c d)

-- over a map and a border that are those after the take
pub first_told : (h : Holding) (wants : List ObjectId) (pack : Pack) (m : ObjectMap) (b : IdSet) (x : Option Missing) → m ≡ (taken h pack).objects → b ≡ (taken h pack).border
    → x ≡ head (unheld_in m wants ++ (unlinked_in m b pack.objects ++ unknown_in m pack.shallow ++ orphaned_in m pack.unshallow)) → x ≡ head (missing h wants pack)
first_told h wants pack m b x objects border is =
    is ∙ ap₂ (λ (n : ObjectMap) (c : IdSet). head (unheld_in n wants ++ (unlinked_in n c pack.objects ++ unknown_in n pack.shallow ++ orphaned_in n pack.unshallow))) objects border
