-- Only commits have parents and seconds.
use Rattle.std.proofs.Common.{◌≡◌, ℕ, zero, suc, ◌≤◌, Bool, true, false, cond, List, [], ◌∷◌, ◌++◌, length, take, drop, Option, Some, None, ◌⊎◌, inl, inr, refl, sym, ap, subst, ◌∙◌, arith}
use Rattle.std.specs.Prelude.{codes, nat_le, ◌&&◌}
use Rattle.std.specs.List.{filter_map, cons_option, slice_get}
use Rattle.std.specs.Option.{option_or, option_to_list}
use Rattle.std.specs.Str.{bytes_eq}
use Rattle.std.proofs.lemmas.List.{append-nil, append_assoc}
use Rattle.fetch_base.specs.declared.id.Kind.{Kind}
use Rattle.fetch_base.specs.declared.id.ObjectId.{ObjectId}
use Rattle.fetch_objects.specs.declared.grammar.Part.{Part}
use Rattle.fetch_objects.specs.declared.grammar.Part.TheVariants.{Entry, Submodule, Tagged, TaggedKind}
use Rattle.fetch_objects.specs.declared.grammar.Expected.{Expected}
use Rattle.fetch_objects.specs.declared.grammar.Expected.TheVariants as expect
use Rattle.fetch_base.specs.Id.{byte_len, id_of_bytes}
use Rattle.fetch_base.specs.Scan.{◌>>=◌, split_first}
use Rattle.fetch_objects.specs.Grammar.{Step, id_after, kind_after, is_mode, entry, entry_of, part_at}
use Rattle.fetch_base.specs.declared.object_kind.ObjectKind.{ObjectKind}
use Rattle.fetch_base.specs.declared.object_kind.ObjectKind.TheVariants as objects
use Rattle.fetch_objects.specs.Objects.{reading, first_of, parent_in, seconds_in}
use Rattle.fetch_objects.proofs.Readings.{bind_some, some_is, tested, part_shorter, no_part, parts_end, parts_skip, parts_step}

-- where no parent and no committer may follow
abbrev pub quiet : Expected → Bool
quiet expect.Entry = true
quiet expect.TaggedLine = true
quiet expect.TypeLine = true
quiet expect.Anything = true
quiet _ = false

-- Only a commit's text begins where parents may follow.
pub quiet_at_first : (k : ObjectKind) → (k ≡ objects.Tree) ⊎ ((k ≡ objects.Blob) ⊎ (k ≡ objects.Tag)) → quiet (first_of k) ≡ true
quiet_at_first objects.Tree is = refl
quiet_at_first objects.Blob is = refl
quiet_at_first objects.Tag is = refl
quiet_at_first objects.Commit (inl is) = absurd cc
quiet_at_first objects.Commit (inr (inl is)) = absurd cc
quiet_at_first objects.Commit (inr (inr is)) = absurd cc

pub record IsQuiet (s : Step) : Type 0 where
  pub on : quiet s.expected ≡ true
  pub parent : None ≡ parent_in s.part
  pub seconds : None ≡ seconds_in s.part

quiet_entry : (b : Bool) (id : ObjectId) (rest : List ℕ) → IsQuiet (record { part = cond b Submodule (Entry id); expected = expect.Entry; rest = rest })
quiet_entry true id rest = record { on = refl; parent = refl; seconds = refl }
quiet_entry false id rest = record { on = refl; parent = refl; seconds = refl }

quiet_line : {A : Type 0} (bytes : List ℕ) (f : List ℕ → Option A) (made : A → List ℕ → Step) → ((x : A) (r : List ℕ) → IsQuiet (made x r)) → (s : Step) → (split_first 10 bytes >>= λ line. f line.0 >>= λ x. Some (made x line.1)) ≡ Some s → IsQuiet s
quiet_line bytes f made all s is =
    let line = bind_some (split_first 10 bytes) (λ line. f line.0 >>= λ x. Some (made x line.1)) s is in
    let x = bind_some (f line.0.0) (λ x. Some (made x line.0.1)) s line.2 in
    subst IsQuiet (some_is (made x.0 line.0.1) s x.2) (all x.0 line.0.1)

stays_quiet : (hash : Kind) (e : Expected) (bytes : List ℕ) (s : Step) → quiet e ≡ true → part_at hash e bytes ≡ Some s → IsQuiet s
stays_quiet hash expect.TreeLine bytes s q is = let no : false ≡ true = q in absurd cc
stays_quiet hash expect.ParentOrAuthor bytes s q is = let no : false ≡ true = q in absurd cc
stays_quiet hash expect.CommitterLine bytes s q is = let no : false ≡ true = q in absurd cc
stays_quiet hash expect.TaggedLine bytes s q is = quiet_line bytes (id_after hash (codes "object ")) (λ id r. record { part = Tagged id; expected = expect.TypeLine; rest = r }) (λ x r. record { on = refl; parent = refl; seconds = refl }) s is
stays_quiet hash expect.TypeLine bytes s q is = quiet_line bytes kind_after (λ k r. record { part = TaggedKind k; expected = expect.Anything; rest = r }) (λ x r. record { on = refl; parent = refl; seconds = refl }) s is
stays_quiet hash expect.Entry bytes s q is =
    let mode = bind_some (split_first 32 bytes) (λ mode. split_first 0 mode.1 >>= λ name. entry_of hash mode.0 name.0 name.1) s is in
    let name = bind_some (split_first 0 mode.0.1) (λ name. entry_of hash mode.0.0 name.0 name.1) s mode.2 in
    let made : Step = record { part = entry hash mode.0.0 (take (byte_len hash) name.0.1); expected = expect.Entry; rest = drop (byte_len hash) name.0.1 } in
    let same = tested (is_mode mode.0.0 && nat_le 1 (length name.0.0) && nat_le (byte_len hash) (length name.0.1)) made s name.2 in
    subst IsQuiet same (quiet_entry (bytes_eq mode.0.0 (codes "160000")) (id_of_bytes hash (take (byte_len hash) name.0.1)) (drop (byte_len hash) name.0.1))
stays_quiet hash expect.Anything bytes s q is = let no : None ≡ Some s = is in absurd cc

module _ {X : Type 0} (h : Part → Option X) (silent : (s : Step) → IsQuiet s → None ≡ h s.part) (hash : Kind) where
  one_part : (e : Expected) (bytes : List ℕ) (o : Option Step) → part_at hash e bytes ≡ o → quiet e ≡ true → ((s : Step) → part_at hash e bytes ≡ Some s → filter_map h (reading hash s.expected s.rest).parts ≡ []) → filter_map h (reading hash e bytes).parts ≡ []
  one_part e bytes None is q more = parts_end h hash e bytes is
  one_part e bytes (Some s) is q more = parts_skip h hash e bytes s is (silent s (stays_quiet hash e bytes s q is)) ∙ more s is

  nothing : (n : ℕ) (e : Expected) (bytes : List ℕ) → length bytes ≤ n → quiet e ≡ true → filter_map h (reading hash e bytes).parts ≡ []
  nothing zero e bytes short q = one_part e bytes (part_at hash e bytes) refl q (λ s is. absurd (no_part hash e s bytes short is))
  nothing (suc n) e bytes short q =
      one_part e bytes (part_at hash e bytes) refl q (λ s is.
      let shorter = part_shorter hash e bytes s is in
      nothing n s.expected s.rest (omega (arith, shorter, short)) (stays_quiet hash e bytes s q is).on)

  pub silent_parts : (e : Expected) (bytes : List ℕ) → quiet e ≡ true → filter_map h (reading hash e bytes).parts ≡ []
  silent_parts e bytes q = nothing (length bytes) e bytes (omega arith) q

pub no_parents : (hash : Kind) (e : Expected) (bytes : List ℕ) → quiet e ≡ true → filter_map parent_in (reading hash e bytes).parts ≡ []
no_parents hash e bytes q = silent_parts parent_in (λ s is. is.parent) hash e bytes q

pub no_seconds : (hash : Kind) (e : Expected) (bytes : List ℕ) → quiet e ≡ true → slice_get (filter_map seconds_in (reading hash e bytes).parts) 0 ≡ None
no_seconds hash e bytes q = ap (λ (xs : List ℕ). slice_get xs 0) (silent_parts seconds_in (λ s is. is.seconds) hash e bytes q)

-- ---- what is read so far, one part more
pub parents_more : (hash : Kind) (e : Expected) (bytes : List ℕ) (s : Step) (before : List ObjectId) → part_at hash e bytes ≡ Some s
    → (before ++ option_to_list (parent_in s.part)) ++ filter_map parent_in (reading hash s.expected s.rest).parts ≡ before ++ filter_map parent_in (reading hash e bytes).parts
parents_more hash e bytes s before is = put (parent_in s.part) (filter_map parent_in (reading hash s.expected s.rest).parts) ∙ ap (λ (xs : List ObjectId). before ++ xs) (sym (parts_step parent_in hash e bytes s is))
  where
    put : (o : Option ObjectId) (rest : List ObjectId) → (before ++ option_to_list o) ++ rest ≡ before ++ cons_option o rest
    put None rest = ap (λ (xs : List ObjectId). xs ++ rest) (append-nil before)
    put (Some id) rest = append_assoc before (id ∷ []) rest

pub seconds_more : (hash : Kind) (e : Expected) (bytes : List ℕ) (s : Step) (before : Option ℕ) → part_at hash e bytes ≡ Some s
    → option_or (option_or before (seconds_in s.part)) (slice_get (filter_map seconds_in (reading hash s.expected s.rest).parts) 0) ≡ option_or before (slice_get (filter_map seconds_in (reading hash e bytes).parts) 0)
seconds_more hash e bytes s before is =
    put before (seconds_in s.part) (filter_map seconds_in (reading hash s.expected s.rest).parts) ∙ ap (λ (xs : List ℕ). option_or before (slice_get xs 0)) (sym (parts_step seconds_in hash e bytes s is))
  where
    put : (b o : Option ℕ) (rest : List ℕ) → option_or (option_or b o) (slice_get rest 0) ≡ option_or b (slice_get (cons_option o rest) 0)
    put None None rest = refl
    put None (Some x) rest = refl
    put (Some x) o rest = refl

pub or_none : {A : Type 0} (o : Option A) → option_or o None ≡ o
or_none None = refl
or_none (Some x) = refl
