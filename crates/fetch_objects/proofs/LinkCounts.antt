-- A part has one byte or more, and says one id at most.
use Rattle.std.proofs.Common.{◌≡◌, ℕ, zero, suc, ◌+◌, ◌<◌, ◌≤◌, List, length, Option, Some, None, refl, sym, subst, arith}
use Rattle.std.specs.List.{filter_map, cons_option}
use Rattle.fetch_base.specs.declared.id.Kind.{Kind}
use Rattle.fetch_objects.specs.declared.grammar.Part.{Part}
use Rattle.fetch_objects.specs.declared.grammar.Expected.{Expected}
use Rattle.fetch_base.specs.declared.object_kind.ObjectKind.{ObjectKind}
use Rattle.fetch_objects.specs.Grammar.{Step, part_at}
use Rattle.fetch_objects.specs.Objects.{reading, first_of, link_in, links_of}
use Rattle.fetch_objects.proofs.Readings.{part_shorter, parts_step, parts_end}

one_more : {X : Type 0} (o : Option X) (xs : List X) → length (cons_option o xs) ≤ 1 + length xs
one_more None xs = omega arith
one_more (Some x) xs = omega arith

few_by : {X : Type 0} (h : Part → Option X) (hash : Kind) (e : Expected) (bytes : List ℕ) (o : Option Step) → part_at hash e bytes ≡ o
    → ((s : Step) → length s.rest < length bytes → length (filter_map h (reading hash s.expected s.rest).parts) ≤ length s.rest)
    → length (filter_map h (reading hash e bytes).parts) ≤ length bytes
few_by h hash e bytes None is more = subst (λ xs. length xs ≤ length bytes) (sym (parts_end h hash e bytes is)) (omega arith)
few_by h hash e bytes (Some s) is more =
    let shorter = part_shorter hash e bytes s is in
    let rest = more s shorter in
    let first = one_more (h s.part) (filter_map h (reading hash s.expected s.rest).parts) in
    subst (λ xs. length xs ≤ length bytes) (sym (parts_step h hash e bytes s is)) (omega arith)

-- of any reading
pub few : {X : Type 0} (n : ℕ) (h : Part → Option X) (hash : Kind) (e : Expected) (bytes : List ℕ) → length bytes ≤ n → length (filter_map h (reading hash e bytes).parts) ≤ length bytes
few zero h hash e bytes short = few_by h hash e bytes (part_at hash e bytes) refl (λ s lt. absurd (omega arith))
few (suc n) h hash e bytes short = few_by h hash e bytes (part_at hash e bytes) refl (λ s lt. few n h hash s.expected s.rest (omega arith))

pub few_links : (hash : Kind) (kind : ObjectKind) (bytes : List ℕ) → length (links_of hash kind bytes) ≤ length bytes
few_links hash kind bytes = few (length bytes) link_in hash (first_of kind) bytes (omega arith)
