-- A text is read part by part, and each part is one byte or more.
use Rattle.std.proofs.Common.{◌≡◌, ℕ, zero, suc, ◌+◌, ◌<◌, ◌≤◌, Bool, true, false, cond, List, [], ◌∷◌, length, take, drop, Option, Some, None, refl, sym, ap, subst, ◌∙◌, arith, length-drop}
use Rattle.std.specs.Prelude.{codes, nat_eq, nat_le, ◌==◌, ◌&&◌, nat_lt}
use Rattle.std.specs.List.{position_or_len, starts_with, filter_map, cons_option}
use Rattle.std.specs.Option.{option_map, option_map_or}
use Rattle.fetch_base.specs.declared.id.Kind.{Kind}
use Rattle.fetch_objects.specs.declared.grammar.Part.{Part}
use Rattle.fetch_objects.specs.declared.grammar.Part.TheVariants.{Tree, Parent, Author, Committer, Tagged, TaggedKind}
use Rattle.fetch_objects.specs.declared.grammar.Expected.{Expected}
use Rattle.fetch_objects.specs.declared.grammar.Expected.TheVariants as expect
use Rattle.fetch_base.specs.Id.{byte_len}
use Rattle.fetch_base.specs.Scan.{◌>>=◌, split_first}
use Rattle.fetch_objects.specs.Grammar.{Step, id_after, committed, parent_or_author, kind_after, is_mode, entry, entry_of, entry_at, part_at}
use Rattle.fetch_objects.specs.Objects.{Reading, onto, read, reading}

-- a step that gave a value
pub bind_some : {A B : Type 0} (o : Option A) (f : A → Option B) (y : B) → (o >>= f) ≡ Some y → (x : A) × (o ≡ Some x) × (f x ≡ Some y)
bind_some (Some x) f y e = (x, refl, e)
bind_some None f y e = absurd cc

pub some_is : {A : Type 0} (x y : A) → Some x ≡ Some y → x ≡ y
some_is x y e = cc

-- a value after a test
pub tested : {A : Type 0} (b : Bool) (x y : A) → cond b (Some x) None ≡ Some y → x ≡ y
tested true x y e = cc
tested false x y e = absurd cc

mapped : {A B : Type 0} (f : A → B) (o : Option A) (y : B) → option_map f o ≡ Some y → (x : A) × (f x ≡ y)
mapped f (Some x) y e = (x, some_is (f x) y e)
mapped f None y e = absurd cc

found_shorter : (i : ℕ) (b : Bool) (bytes : List ℕ) (x : List ℕ × List ℕ) → b ≡ nat_lt i (length bytes) → option_map (λ j. (take j bytes, drop (j + 1) bytes)) (cond b (Some i) None) ≡ Some x → length x.1 < length bytes
found_shorter i true bytes x lt e =
    let here : i < length bytes = grind arith in
    let is = some_is (take i bytes, drop (i + 1) bytes) x e in
    subst (λ (y : List ℕ × List ℕ). length y.1 < length bytes) is (omega (arith, length-drop (i + 1) bytes))
found_shorter i false bytes x lt e = absurd cc

split_shorter : (c : ℕ) (bytes : List ℕ) (x : List ℕ × List ℕ) → split_first c bytes ≡ Some x → length x.1 < length bytes
split_shorter c bytes x e = found_shorter (position_or_len (λ b. b == c) bytes) (nat_lt (position_or_len (λ b. b == c) bytes) (length bytes)) bytes x refl e

rest_of_head : (hash : Kind) (line rest : List ℕ) (s : Step) (b : Bool) → cond b (Some (record { part = Author; expected = expect.CommitterLine; rest = rest }))
    (option_map (λ id. record { part = Parent id; expected = expect.ParentOrAuthor; rest = rest }) (id_after hash (codes "parent ") line)) ≡ Some s → rest ≡ s.rest
rest_of_head hash line rest s true e = ap (λ (t : Step). t.rest) (some_is (record { part = Author; expected = expect.CommitterLine; rest = rest }) s e)
rest_of_head hash line rest s false e =
    let m = mapped (λ id. record { part = Parent id; expected = expect.ParentOrAuthor; rest = rest }) (id_after hash (codes "parent ") line) s e in ap (λ (t : Step). t.rest) m.1

entry_shorter : (hash : Kind) (bytes : List ℕ) (s : Step) → entry_at hash bytes ≡ Some s → length s.rest < length bytes
entry_shorter hash bytes s e =
    let mode = bind_some (split_first 32 bytes) (λ mode. split_first 0 mode.1 >>= λ name. entry_of hash mode.0 name.0 name.1) s e in
    let name = bind_some (split_first 0 mode.0.1) (λ name. entry_of hash mode.0.0 name.0 name.1) s mode.2 in
    let made : Step = record { part = entry hash mode.0.0 (take (byte_len hash) name.0.1); expected = expect.Entry; rest = drop (byte_len hash) name.0.1 } in
    let is = tested (is_mode mode.0.0 && nat_le 1 (length name.0.0) && nat_le (byte_len hash) (length name.0.1)) made s name.2 in
    let p = split_shorter 32 bytes mode.0 mode.1 in
    let q = split_shorter 0 mode.0.1 name.0 name.1 in
    subst (λ (t : Step). length t.rest < length bytes) is (omega (arith, length-drop (byte_len hash) name.0.1))

-- a line at a head, whose first bytes say what it is
line_shorter : {A : Type 0} (bytes : List ℕ) (f : List ℕ → Option A) (made : A → List ℕ → Step) → ((x : A) (r : List ℕ) → (made x r).rest ≡ r)
    → (s : Step) → (split_first 10 bytes >>= λ line. f line.0 >>= λ x. Some (made x line.1)) ≡ Some s → length s.rest < length bytes
line_shorter bytes f made same s is =
    let line = bind_some (split_first 10 bytes) (λ line. f line.0 >>= λ x. Some (made x line.1)) s is in
    let x = bind_some (f line.0.0) (λ x. Some (made x line.0.1)) s line.2 in
    let p = split_shorter 10 bytes line.0 line.1 in
    let rest : line.0.1 ≡ s.rest = sym (same x.0 line.0.1) ∙ ap (λ (t : Step). t.rest) (some_is (made x.0 line.0.1) s x.2) in
    subst (λ (r : List ℕ). length r < length bytes) rest p

pub part_shorter : (hash : Kind) (e : Expected) (bytes : List ℕ) (s : Step) → part_at hash e bytes ≡ Some s → length s.rest < length bytes
part_shorter hash expect.TreeLine bytes s is = line_shorter bytes (id_after hash (codes "tree ")) (λ id r. record { part = Tree id; expected = expect.ParentOrAuthor; rest = r }) (λ x r. refl) s is
part_shorter hash expect.ParentOrAuthor bytes s is =
    let line = bind_some (split_first 10 bytes) (λ line. parent_or_author hash line.0 line.1) s is in
    let p = split_shorter 10 bytes line.0 line.1 in
    let same = rest_of_head hash line.0.0 line.0.1 s (starts_with nat_eq line.0.0 (codes "author ")) line.2 in
    subst (λ (r : List ℕ). length r < length bytes) same p
part_shorter hash expect.CommitterLine bytes s is = line_shorter bytes committed (λ n r. record { part = Committer n; expected = expect.Anything; rest = r }) (λ x r. refl) s is
part_shorter hash expect.TaggedLine bytes s is = line_shorter bytes (id_after hash (codes "object ")) (λ id r. record { part = Tagged id; expected = expect.TypeLine; rest = r }) (λ x r. refl) s is
part_shorter hash expect.TypeLine bytes s is = line_shorter bytes kind_after (λ k r. record { part = TaggedKind k; expected = expect.Anything; rest = r }) (λ x r. refl) s is
part_shorter hash expect.Entry bytes s is = entry_shorter hash bytes s is
part_shorter hash expect.Anything bytes s is = absurd cc

abbrev ended : Expected → List ℕ → Reading
ended e bytes = record { parts = []; expected = e; rest = bytes }

abbrev goes_on : ℕ → Kind → Step → Reading
goes_on n hash s = onto s.part (read n hash s.expected s.rest)

-- two readings that both go on in the same way
same_step : (m n : ℕ) (hash : Kind) (e : Expected) (bytes : List ℕ) (o : Option Step) → ((s : Step) → o ≡ Some s → goes_on m hash s ≡ goes_on n hash s)
    → option_map_or (goes_on m hash) o (ended e bytes) ≡ option_map_or (goes_on n hash) o (ended e bytes)
same_step m n hash e bytes None h = refl
same_step m n hash e bytes (Some s) h = h s refl

pub no_part : (hash : Kind) (e : Expected) (s : Step) → (bytes : List ℕ) → length bytes ≤ 0 → part_at hash e bytes ≡ Some s → ⊥
no_part hash e s bytes short is = let p = part_shorter hash e bytes s is in omega arith

stops : (n : ℕ) (hash : Kind) (e : Expected) (bytes : List ℕ) (o : Option Step) → ((s : Step) → o ≡ Some s → ⊥) → ended e bytes ≡ option_map_or (goes_on n hash) o (ended e bytes)
stops n hash e bytes None h = refl
stops n hash e bytes (Some s) h = absurd (h s refl)

pub read_enough : (m n : ℕ) (hash : Kind) (e : Expected) (bytes : List ℕ) → length bytes ≤ m → length bytes ≤ n → read m hash e bytes ≡ read n hash e bytes
read_enough zero zero hash e bytes p q = refl
read_enough zero (suc n) hash e bytes p q = stops n hash e bytes (part_at hash e bytes) (λ s is. no_part hash e s bytes p is)
read_enough (suc m) zero hash e bytes p q = sym (stops m hash e bytes (part_at hash e bytes) (λ s is. no_part hash e s bytes q is))
read_enough (suc m) (suc n) hash e bytes p q =
    same_step m n hash e bytes (part_at hash e bytes) (λ s is.
    let shorter = part_shorter hash e bytes s is in
    ap (onto s.part) (read_enough m n hash s.expected s.rest (omega arith) (omega arith)))

one_more : (n : ℕ) (hash : Kind) (e : Expected) (bytes : List ℕ) (s : Step) → n ≡ length bytes → part_at hash e bytes ≡ Some s → read n hash e bytes ≡ onto s.part (read (length s.rest) hash s.expected s.rest)
one_more zero hash e bytes s len is = absurd (no_part hash e s bytes (omega arith) is)
one_more (suc n) hash e bytes s len is =
    let shorter = part_shorter hash e bytes s is in
    ap (λ (o : Option Step). option_map_or (goes_on n hash) o (ended e bytes)) is
    ∙ ap (onto s.part) (read_enough n (length s.rest) hash s.expected s.rest (omega arith) (omega arith))

pub reading_step : (hash : Kind) (e : Expected) (bytes : List ℕ) (s : Step) → part_at hash e bytes ≡ Some s → reading hash e bytes ≡ onto s.part (reading hash s.expected s.rest)
unfolding reading
reading_step hash e bytes s is = one_more (length bytes) hash e bytes s refl is

no_more : (n : ℕ) (hash : Kind) (e : Expected) (bytes : List ℕ) → part_at hash e bytes ≡ None → read n hash e bytes ≡ ended e bytes
no_more zero hash e bytes is = refl
no_more (suc n) hash e bytes is = ap (λ (o : Option Step). option_map_or (goes_on n hash) o (ended e bytes)) is

pub reading_end : (hash : Kind) (e : Expected) (bytes : List ℕ) → part_at hash e bytes ≡ None → reading hash e bytes ≡ record { parts = []; expected = e; rest = bytes }
unfolding reading
reading_end hash e bytes is = no_more (length bytes) hash e bytes is

-- what the parts of a text say, from the first one on
pub parts_step : {X : Type 0} (h : Part → Option X) (hash : Kind) (e : Expected) (bytes : List ℕ) (s : Step) → part_at hash e bytes ≡ Some s
    → filter_map h (reading hash e bytes).parts ≡ cons_option (h s.part) (filter_map h (reading hash s.expected s.rest).parts)
parts_step h hash e bytes s is = ap (λ (r : Reading). filter_map h r.parts) (reading_step hash e bytes s is)

pub parts_end : {X : Type 0} (h : Part → Option X) (hash : Kind) (e : Expected) (bytes : List ℕ) → part_at hash e bytes ≡ None → filter_map h (reading hash e bytes).parts ≡ []
parts_end h hash e bytes is = ap (λ (r : Reading). filter_map h r.parts) (reading_end hash e bytes is)

pub parts_take : {X : Type 0} (h : Part → Option X) (hash : Kind) (e : Expected) (bytes : List ℕ) (s : Step) (x : X) → part_at hash e bytes ≡ Some s → Some x ≡ h s.part
    → filter_map h (reading hash e bytes).parts ≡ x ∷ filter_map h (reading hash s.expected s.rest).parts
parts_take h hash e bytes s x is says = parts_step h hash e bytes s is ∙ ap (λ o. cons_option o (filter_map h (reading hash s.expected s.rest).parts)) (sym says)

pub parts_skip : {X : Type 0} (h : Part → Option X) (hash : Kind) (e : Expected) (bytes : List ℕ) (s : Step) → part_at hash e bytes ≡ Some s → None ≡ h s.part
    → filter_map h (reading hash e bytes).parts ≡ filter_map h (reading hash s.expected s.rest).parts
parts_skip h hash e bytes s is says = parts_step h hash e bytes s is ∙ ap (λ o. cons_option o (filter_map h (reading hash s.expected s.rest).parts)) (sym says)
