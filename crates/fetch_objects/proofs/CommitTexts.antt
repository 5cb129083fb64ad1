-- A commit's text in the words of its format.
use Rattle.std.proofs.Common.{◌≡◌, ℕ, zero, suc, ◌<◌, ◌≤◌, ◌^◌, Bool, true, false, cond, not, ◌&&◌, ◌||◌, eqb, List, [], ◌∷◌, ◌++◌, length, drop, All, Option, None, Some, refl, sym, ap, ap₂, subst, ◌∙◌, arith, append_assoc, length-append}
use Rattle.std.specs.Prelude.{map, codes, nat_eq, nat_le, nat_lt}
use Rattle.std.specs.Char.{is_ascii_digit}
use Rattle.std.specs.List.{filter_map, slice_get, starts_with, flat_map}
use Rattle.std.specs.Option.{option_map}
use Rattle.std.specs.Str.{all_ascii_digits}
use Rattle.std.specs.Str.Parse.{digits_value}
use Rattle.std.proofs.lemmas.Bool.{eqb-true, and_parts, and_from, leb-true, le-leb, ltb-true, lt-ltb}
use Rattle.std.proofs.lemmas.List.{take_at}
use Rattle.std.proofs.lemmas.List.Elements.{All-nil, All-cons, All-head, All-tail}
use Rattle.std.proofs.lemmas.Slice.Eq.{bytes_eq-Decides}
use Rattle.fetch_base.specs.declared.id.Kind.{Kind}
use Rattle.fetch_base.specs.declared.id.ObjectId.{ObjectId}
use Rattle.fetch_base.specs.declared.object_kind.ObjectKind.TheVariants as objects
use Rattle.fetch_objects.specs.declared.grammar.Part.TheVariants.{Tree, Parent, Author, Committer}
use Rattle.fetch_objects.specs.declared.grammar.Expected.TheVariants as expect
use Rattle.fetch_base.specs.Id.{id_in_hex}
use Rattle.fetch_base.specs.Scan.{◌>>=◌, split_first, split_last, after, is_decimal, seconds_in, is_offset}
use Rattle.fetch_base.specs.Lines.{IsWithout}
use Rattle.fetch_objects.specs.Grammar.{Step, id_after, committed, parent_or_author, part_at}
use Rattle.fetch_objects.specs.Objects.{Reading, onto, reading, may_end, IsObject, link_in, parent_in}
use Rattle.fetch_objects.specs.Objects as objects_spec
use Rattle.fetch_objects.specs.Texts.{IsHexId, line as text_line}
use Rattle.fetch_objects.specs.CommitTexts.{CommitParts, IsCommit, parent_line, signature, commit_text, SaysParts, CommitsAreTexts}
use Rattle.fetch_base.proofs.LineLaws.{splits}
use Rattle.fetch_base.proofs.LastLaws.{splits_last}
use Rattle.fetch_objects.proofs.Readings.{bind_some, part_shorter, reading_step, reading_end}
use Rattle.fetch_objects.proofs.TagTexts.{id_after_is, id_after_of, feedless, Accepts, some_part, headline, head_of}
use Rattle.fetch_base.proofs.Words.{after_of, after_is, parts_without, both_without}

value_of : {A : Type 0} (b : Bool) (x y : A) → cond b (Some x) None ≡ Some y → (b ≡ true) × (x ≡ y)
value_of true x y e = (refl, cc)
value_of false x y e = absurd cc

mapped : {A B : Type 0} (f : A → B) (o : Option A) (y : B) → option_map f o ≡ Some y → (x : A) × (o ≡ Some x) × (f x ≡ y)
mapped f (Some x) y e = (x, refl, cc)
mapped f None y e = absurd cc

-- ---- bytes that stand nowhere
differs : (p : ℕ → Bool) (x c : ℕ) → p x ≡ false → p c ≡ true → not (eqb c x) ≡ true
differs p x c never holds = by_test (eqb c x) refl
  where
    by_test : (b : Bool) → eqb c x ≡ b → not b ≡ true
    by_test false e = refl
    by_test true e = absurd (let same : p x ≡ true = subst (λ y. p y ≡ true) (eqb-true c x e) holds in cc)

digits_without : (x : ℕ) → is_ascii_digit x ≡ false → (ds : List ℕ) → all_ascii_digits ds ≡ true → IsWithout x ds
digits_without x never [] all = refl
digits_without x never (c ∷ ds) all =
    let a = and_parts (is_ascii_digit c) (all_ascii_digits ds) all in
    and_from _ _ (differs is_ascii_digit x c never a.0) (digits_without x never ds a.1)

pub decimal_without : (x : ℕ) → is_ascii_digit x ≡ false → (ds : List ℕ) → is_decimal ds ≡ true → IsWithout x ds
decimal_without x never [] all = absurd cc
decimal_without x never (c ∷ ds) all = digits_without x never (c ∷ ds) all

pub offset_without : (x : ℕ) → is_ascii_digit x ≡ false → (eqb x 43 || eqb x 45) ≡ false → (zone : List ℕ) → is_offset zone ≡ true → IsWithout x zone
offset_without x never none [] is = absurd cc
offset_without x never none (c ∷ ds) is =
    let a = and_parts (eqb c 43 || eqb c 45) (is_decimal ds) is in
    and_from _ _ (differs (λ b. eqb b 43 || eqb b 45) x c none a.0) (decimal_without x never ds a.1)

-- ---- the committer's line
pub record Signed (line : List ℕ) (n : ℕ) : Type 0 where
  pub who : List ℕ
  pub seconds : List ℕ
  pub offset : List ℕ
  pub decimal : is_decimal seconds ≡ true
  pub few : length seconds ≤ 19
  pub fits : digits_value 10 seconds < 2 ^ 63
  pub zone : is_offset offset ≡ true
  pub text : line ≡ codes "committer " ++ (who ++ 32 ∷ (seconds ++ 32 ∷ offset))

signed_text : (line text front zone who seconds : List ℕ) → line ≡ codes "committer " ++ text → text ≡ front ++ 32 ∷ zone → front ≡ who ++ 32 ∷ seconds → line ≡ codes "committer " ++ (who ++ 32 ∷ (seconds ++ 32 ∷ zone))
signed_text line text front zone who seconds a b c =
    let whole : text ≡ who ++ 32 ∷ (seconds ++ 32 ∷ zone) = b ∙ ap (λ y. y ++ 32 ∷ zone) c ∙ append_assoc who (32 ∷ seconds) (32 ∷ zone) in
    a ∙ ap (λ y. codes "committer " ++ y) whole

pub signed_of : (line : List ℕ) (n : ℕ) → committed line ≡ Some n → Signed line n
signed_of line n is =
    let t = bind_some (after (codes "committer ") line) (λ text. split_last 32 text >>= λ zone. split_last 32 zone.0 >>= λ time. cond (is_offset zone.1) (seconds_in time.1) None) n is in
    let z = bind_some (split_last 32 t.0) (λ zone. split_last 32 zone.0 >>= λ time. cond (is_offset zone.1) (seconds_in time.1) None) n t.2 in
    let s = bind_some (split_last 32 z.0.0) (λ time. cond (is_offset z.0.1) (seconds_in time.1) None) n z.2 in
    let zoned = tested (is_offset z.0.1) (seconds_in s.0.1) s.2 in
    let v = value_of (is_decimal s.0.1 && nat_le (length s.0.1) 19 && nat_lt (digits_value 10 s.0.1) (2 ^ 63)) (digits_value 10 s.0.1) n zoned.1 in
    let a = and_parts (is_decimal s.0.1 && nat_le (length s.0.1) 19) (nat_lt (digits_value 10 s.0.1) (2 ^ 63)) v.0 in
    let b = and_parts (is_decimal s.0.1) (nat_le (length s.0.1) 19) a.0 in
    let first = (splits_last 32 t.0).found z.0.0 z.0.1 z.1 in
    let second = (splits_last 32 z.0.0).found s.0.0 s.0.1 s.1 in
    record {
      who = s.0.0;
      seconds = s.0.1;
      offset = z.0.1;
      decimal = b.0;
      few = leb-true _ _ b.1;
      fits = ltb-true _ _ a.1;
      zone = zoned.0;
      text = signed_text line t.0 z.0.0 z.0.1 s.0.0 s.0.1 (after_is (codes "committer ") line t.0 t.1) first.0 second.0;
    }
  where
    tested : (b : Bool) (o : Option ℕ) → cond b o None ≡ Some n → (b ≡ true) × (o ≡ Some n)
    tested true o e = (refl, e)
    tested false o e = absurd cc

pub committed_of : (line text front zone who seconds : List ℕ) (n : ℕ) → after (codes "committer ") line ≡ Some text → split_last 32 text ≡ Some (front, zone) → split_last 32 front ≡ Some (who, seconds)
    → is_offset zone ≡ true → seconds_in seconds ≡ Some n → committed line ≡ Some n
committed_of line text front zone who seconds n a b c good says =
    ap (λ o. o >>= λ text. split_last 32 text >>= λ zone. split_last 32 zone.0 >>= λ time. cond (is_offset zone.1) (seconds_in time.1) None) a
    ∙ ap (λ o. o >>= λ zone. split_last 32 zone.0 >>= λ time. cond (is_offset zone.1) (seconds_in time.1) None) b
    ∙ ap (λ o. o >>= λ time. cond (is_offset zone) (seconds_in time.1) None) c
    ∙ ap (λ b. cond b (seconds_in seconds) None) good
    ∙ says

signed_says : (hash : Kind) (c : CommitParts) → IsCommit hash c → committed (codes "committer " ++ signature c) ≡ Some (digits_value 10 c.seconds)
signed_says hash c good =
    let v : (is_decimal c.seconds && nat_le (length c.seconds) 19 && nat_lt (digits_value 10 c.seconds) (2 ^ 63)) ≡ true =
    and_from _ _ (and_from _ _ good.decimal (le-leb _ _ good.few)) (lt-ltb _ _ good.fits) in
    committed_of (codes "committer " ++ signature c) (signature c) (c.committer ++ 32 ∷ c.seconds) c.offset c.committer c.seconds (digits_value 10 c.seconds)
    (after_of (codes "committer ") (signature c))
    ((splits_last 32 (signature c)).only (c.committer ++ 32 ∷ c.seconds) c.offset (sym (append_assoc c.committer (32 ∷ c.seconds) (32 ∷ c.offset))) (offset_without 32 refl refl c.offset good.offset))
    ((splits_last 32 (c.committer ++ 32 ∷ c.seconds)).only c.committer c.seconds refl (decimal_without 32 refl c.seconds good.decimal))
    good.offset
    (ap (λ b. cond b (Some (digits_value 10 c.seconds)) None) v)

signed_feedless : (hash : Kind) (c : CommitParts) → IsCommit hash c → IsWithout 10 (codes "committer " ++ signature c)
signed_feedless hash c good =
    both_without 10 c.committer (32 ∷ (c.seconds ++ 32 ∷ c.offset)) good.committer
    (both_without 10 c.seconds (32 ∷ c.offset) (decimal_without 10 refl c.seconds good.decimal) (offset_without 10 refl refl c.offset good.offset))

-- ---- what a commit's text says
abbrev pub treed : ObjectId → List ℕ → Step
treed id rest = record { part = Tree id; expected = expect.ParentOrAuthor; rest = rest }

abbrev pub parented : ObjectId → List ℕ → Step
parented id rest = record { part = Parent id; expected = expect.ParentOrAuthor; rest = rest }

abbrev pub authored : List ℕ → Step
authored rest = record { part = Author; expected = expect.CommitterLine; rest = rest }

abbrev pub at_seconds : ℕ → List ℕ → Step
at_seconds n rest = record { part = Committer n; expected = expect.Anything; rest = rest }

starts_author : (a : List ℕ) → starts_with nat_eq (codes "author " ++ a) (codes "author ") ≡ true
starts_author a = (bytes_eq-Decides (codes "author ") _).1 (sym (take_at (codes "author ") a (length (codes "author ")) refl))

pub author_part : (hash : Kind) (a rest : List ℕ) → IsWithout 10 a → part_at hash expect.ParentOrAuthor (text_line (codes "author " ++ a) ++ rest) ≡ Some (authored rest)
author_part hash a rest none =
    ap (λ o. o >>= λ line. parent_or_author hash line.0 line.1) ((splits 10 (text_line (codes "author " ++ a) ++ rest)).only (codes "author " ++ a) rest (append_assoc (codes "author " ++ a) (10 ∷ []) rest) none)
    ∙ ap (λ b. cond b (Some (authored rest)) (option_map (λ id. parented id rest) (id_after hash (codes "parent ") (codes "author " ++ a)))) (starts_author a)

pub parent_part : (hash : Kind) (d rest : List ℕ) (id : ObjectId) → IsHexId hash d → id_after hash (codes "parent ") (codes "parent " ++ d) ≡ Some id
    → part_at hash expect.ParentOrAuthor (parent_line d ++ rest) ≡ Some (parented id rest)
parent_part hash d rest id hex says =
    ap (λ o. o >>= λ line. parent_or_author hash line.0 line.1) ((splits 10 (parent_line d ++ rest)).only (codes "parent " ++ d) rest (append_assoc (codes "parent " ++ d) (10 ∷ []) rest) (feedless d hex.1))
    ∙ ap (option_map (λ id. parented id rest)) says

-- the id that hex digits spell
record Spelt (hash : Kind) (word d : List ℕ) : Type 0 where
  id : ObjectId
  is : id_in_hex hash d ≡ Some id
  line : id_after hash word (word ++ d) ≡ Some id

spelt : (hash : Kind) (word d : List ℕ) → IsHexId hash d → Spelt hash word d
spelt hash word d hex =
    let i = id_after_of hash word d hex in
    record { id = i.0; is = sym (ap (λ o. o >>= id_in_hex hash) (after_of word d)) ∙ i.1; line = i.1 }

abbrev are_parents : List ObjectId → Reading → Reading
are_parents ids r = record r { parts = map (λ id. Parent id) ids ++ r.parts }

record Parents (hash : Kind) (digits : List (List ℕ)) (rest : List ℕ) : Type 0 where
  ids : List ObjectId
  are : map (λ id. Some id) ids ≡ map (id_in_hex hash) digits
  says : reading hash expect.ParentOrAuthor (flat_map parent_line digits ++ rest) ≡ are_parents ids (reading hash expect.ParentOrAuthor rest)

parents_say : (hash : Kind) (digits : List (List ℕ)) (rest : List ℕ) → All (IsHexId hash) digits → Parents hash digits rest
parents_say hash [] rest hex = record { ids = []; are = refl; says = refl }
parents_say hash (d ∷ digits) rest hex =
    let here = All-head (IsHexId hash) d digits hex in
    let more = parents_say hash digits rest (All-tail (IsHexId hash) d digits hex) in
    let s = spelt hash (codes "parent ") d here in
    let behind : List ℕ = flat_map parent_line digits ++ rest in
    record {
      ids = s.id ∷ more.ids;
      are = ap₂ (λ x xs. x ∷ xs) (sym s.is) more.are;
      says = ap (reading hash expect.ParentOrAuthor) (append_assoc (parent_line d) (flat_map parent_line digits) rest)
          ∙ reading_step hash expect.ParentOrAuthor (parent_line d ++ behind) (parented s.id behind) (parent_part hash d behind s.id here s.line)
          ∙ ap (onto (Parent s.id)) more.says;
    }

abbrev said : ObjectId → List ObjectId → ℕ → List ℕ → Reading
said tree parents n rest = record { parts = Tree tree ∷ (map (λ id. Parent id) parents ++ Author ∷ Committer n ∷ []); expected = expect.Anything; rest = rest }

said_of : (hash : Kind) (whole first second third rest : List ℕ) (tree : ObjectId) (parents : List ObjectId) (n : ℕ)
    → reading hash expect.TreeLine whole ≡ onto (Tree tree) (reading hash expect.ParentOrAuthor first)
    → reading hash expect.ParentOrAuthor first ≡ are_parents parents (reading hash expect.ParentOrAuthor second)
    → reading hash expect.ParentOrAuthor second ≡ onto Author (reading hash expect.CommitterLine third)
    → reading hash expect.CommitterLine third ≡ onto (Committer n) (reading hash expect.Anything rest)
    → reading hash expect.TreeLine whole ≡ said tree parents n rest
said_of hash whole first second third rest tree parents n a b c d =
    a ∙ ap (onto (Tree tree)) (b ∙ ap (are_parents parents) (c ∙ ap (onto Author) (d ∙ ap (onto (Committer n)) (reading_end hash expect.Anything rest refl))))

author_says : (hash : Kind) (a rest : List ℕ) → IsWithout 10 a → reading hash expect.ParentOrAuthor (text_line (codes "author " ++ a) ++ rest) ≡ onto Author (reading hash expect.CommitterLine rest)
author_says hash a rest none = reading_step hash expect.ParentOrAuthor (text_line (codes "author " ++ a) ++ rest) (authored rest) (author_part hash a rest none)

committer_says : (hash : Kind) (c : CommitParts) → IsCommit hash c
    → reading hash expect.CommitterLine (text_line (codes "committer " ++ signature c) ++ c.rest) ≡ onto (Committer (digits_value 10 c.seconds)) (reading hash expect.Anything c.rest)
committer_says hash c good =
    reading_step hash expect.CommitterLine (text_line (codes "committer " ++ signature c) ++ c.rest) (at_seconds (digits_value 10 c.seconds) c.rest)
    (head_of committed at_seconds (codes "committer " ++ signature c) c.rest (digits_value 10 c.seconds) (signed_feedless hash c good) (signed_says hash c good))

tree_says : (hash : Kind) (d rest : List ℕ) (id : ObjectId) → IsHexId hash d → id_after hash (codes "tree ") (codes "tree " ++ d) ≡ Some id
    → reading hash expect.TreeLine (text_line (codes "tree " ++ d) ++ rest) ≡ onto (Tree id) (reading hash expect.ParentOrAuthor rest)
tree_says hash d rest id hex says =
    reading_step hash expect.TreeLine (text_line (codes "tree " ++ d) ++ rest) (treed id rest) (head_of (id_after hash (codes "tree ")) treed (codes "tree " ++ d) rest id (feedless d hex.1) says)

record Said (hash : Kind) (c : CommitParts) : Type 0 where
  tree : ObjectId
  is : Some tree ≡ id_in_hex hash c.tree
  parents : List ObjectId
  are : map (λ id. Some id) parents ≡ map (id_in_hex hash) c.parents
  says : reading hash expect.TreeLine (commit_text c) ≡ said tree parents (digits_value 10 c.seconds) c.rest

abbrev committer_text : CommitParts → List ℕ
committer_text c = text_line (codes "committer " ++ signature c) ++ c.rest

abbrev author_text : CommitParts → List ℕ
author_text c = text_line (codes "author " ++ c.author) ++ committer_text c

commit_says : (hash : Kind) (c : CommitParts) → IsCommit hash c → Said hash c
unfolding commit_text
commit_says hash c good =
    let t = spelt hash (codes "tree ") c.tree good.tree in
    let ps = parents_say hash c.parents (author_text c) good.parents in
    record {
      tree = t.id;
      is = sym t.is;
      parents = ps.ids;
      are = ps.are;
      says = said_of hash (commit_text c) (flat_map parent_line c.parents ++ author_text c) (author_text c) (committer_text c) c.rest t.id ps.ids (digits_value 10 c.seconds)
          (tree_says hash c.tree (flat_map parent_line c.parents ++ author_text c) t.id good.tree t.line) ps.says (author_says hash c.author (committer_text c) good.author) (committer_says hash c good);
    }

links_in : (parents : List ObjectId) (n : ℕ) → filter_map link_in (map (λ id. Parent id) parents ++ Author ∷ Committer n ∷ []) ≡ parents
links_in [] n = refl
links_in (id ∷ parents) n = ap (λ ids. id ∷ ids) (links_in parents n)

parents_in : (parents : List ObjectId) (n : ℕ) → filter_map parent_in (map (λ id. Parent id) parents ++ Author ∷ Committer n ∷ []) ≡ parents
parents_in [] n = refl
parents_in (id ∷ parents) n = ap (λ ids. id ∷ ids) (parents_in parents n)

seconds_said : (parents : List ObjectId) (n : ℕ) → filter_map objects_spec.seconds_in (map (λ id. Parent id) parents ++ Author ∷ Committer n ∷ []) ≡ n ∷ []
seconds_said [] n = refl
seconds_said (id ∷ parents) n = seconds_said parents n

says_parts : (hash : Kind) (c : CommitParts) → IsCommit hash c → SaysParts hash (commit_text c) c
says_parts hash c good =
    let w = commit_says hash c good in
    let n : ℕ = digits_value 10 c.seconds in
    record {
      links = ap (λ (r : Reading). map (λ id. Some id) (filter_map link_in r.parts)) w.says
          ∙ ap (λ ids. Some w.tree ∷ map (λ id. Some id) ids) (links_in w.parents n) ∙ ap₂ (λ x xs. x ∷ xs) w.is w.are;
      parents = ap (λ (r : Reading). map (λ id. Some id) (filter_map parent_in r.parts)) w.says ∙ ap (map (λ id. Some id)) (parents_in w.parents n) ∙ w.are;
      seconds = ap (λ (r : Reading). slice_get (filter_map objects_spec.seconds_in r.parts) 0) w.says ∙ ap (λ ns. slice_get ns 0) (seconds_said w.parents n);
    }

-- ---- the parts of a commit
record Close (bytes : List ℕ) : Type 0 where
  line : List ℕ
  n : ℕ
  rest : List ℕ
  text : bytes ≡ text_line line ++ rest
  whole : IsWithout 10 line
  signed : Signed line n

close_of : (hash : Kind) (bytes : List ℕ) → Accepts hash expect.CommitterLine bytes → Close bytes
close_of hash bytes ends =
    let a = some_part hash expect.CommitterLine bytes ends refl in
    let l = bind_some (split_first 10 bytes) (λ line. committed line.0 >>= λ n. Some (at_seconds n line.1)) a.0 a.1 in
    let n = bind_some (committed l.0.0) (λ n. Some (at_seconds n l.0.1)) a.0 l.2 in
    let f = (splits 10 bytes).found l.0.0 l.0.1 l.1 in
    record { line = l.0.0; n = n.0; rest = l.0.1; text = f.0 ∙ sym (append_assoc l.0.0 (10 ∷ []) l.0.1); whole = f.1; signed = signed_of l.0.0 n.0 n.1 }

record Tail (hash : Kind) (bytes : List ℕ) : Type 0 where
  parents : List (List ℕ)
  hex : All (IsHexId hash) parents
  author : List ℕ
  whole : IsWithout 10 author
  end : List ℕ
  close : Close end
  text : bytes ≡ flat_map parent_line parents ++ (text_line (codes "author " ++ author) ++ end)

-- an author's line, or a parent's
pub data Headed (hash : Kind) (line rest : List ℕ) (s : Step) : Type 0 where
  author : (a : List ℕ) → line ≡ codes "author " ++ a → authored rest ≡ s → Headed hash line rest s
  parent : (d : List ℕ) → line ≡ codes "parent " ++ d → IsHexId hash d → (id : ObjectId) → parented id rest ≡ s → Headed hash line rest s

pub headed : (hash : Kind) (line rest : List ℕ) (s : Step) (b : Bool) → starts_with nat_eq line (codes "author ") ≡ b
    → cond b (Some (authored rest)) (option_map (λ id. parented id rest) (id_after hash (codes "parent ") line)) ≡ Some s → Headed hash line rest s
headed hash line rest s true is e =
    let d : List ℕ = drop (length (codes "author ")) line in
    author d (after_is (codes "author ") line d (ap (λ b. cond b (Some d) None) is)) cc
headed hash line rest s false is e =
    let m = mapped (λ id. parented id rest) (id_after hash (codes "parent ") line) s e in
    let d = id_after_is hash (codes "parent ") line m.0 m.1 in
    parent d.0 d.1 d.2 m.0 m.2

tail_by : (hash : Kind) (bytes line rest : List ℕ) (s : Step) → bytes ≡ text_line line ++ rest → IsWithout 10 line → Accepts hash s.expected s.rest
    → (Accepts hash expect.ParentOrAuthor rest → Tail hash rest) → Headed hash line rest s → Tail hash bytes
tail_by hash bytes line rest s text whole ends more (author a is same) =
    let none : IsWithout 10 (codes "author " ++ a) = subst (IsWithout 10) is whole in
    record {
      parents = [];
      hex = All-nil (IsHexId hash);
      author = a;
      whole = (parts_without 10 (codes "author ") a none).1;
      end = rest;
      close = close_of hash rest (subst (λ (s : Step). Accepts hash s.expected s.rest) (sym same) ends);
      text = text ∙ ap (λ y. text_line y ++ rest) is;
    }
tail_by hash bytes line rest s text whole ends more (parent d is hex id same) =
    let t = more (subst (λ (s : Step). Accepts hash s.expected s.rest) (sym same) ends) in
    record {
      parents = d ∷ t.parents;
      hex = All-cons (IsHexId hash) d t.parents hex t.hex;
      author = t.author;
      whole = t.whole;
      end = t.end;
      close = t.close;
      text = text ∙ ap₂ (λ x y. text_line x ++ y) is t.text ∙ sym (append_assoc (parent_line d) (flat_map parent_line t.parents) (text_line (codes "author " ++ t.author) ++ t.end));
    }

tail_of : (n : ℕ) (hash : Kind) (bytes : List ℕ) → length bytes ≤ n → Accepts hash expect.ParentOrAuthor bytes → Tail hash bytes
tail_of zero hash bytes short ends =
    let a = some_part hash expect.ParentOrAuthor bytes ends refl in
    let shorter = part_shorter hash expect.ParentOrAuthor bytes a.0 a.1 in
    absurd (omega arith)
tail_of (suc n) hash bytes short ends =
    let a = some_part hash expect.ParentOrAuthor bytes ends refl in
    let l = bind_some (split_first 10 bytes) (λ line. parent_or_author hash line.0 line.1) a.0 a.1 in
    let f = (splits 10 bytes).found l.0.0 l.0.1 l.1 in
    let shorter : length l.0.1 ≤ n = omega (arith, ap length f.0, length-append l.0.0 (10 ∷ l.0.1)) in
    tail_by hash bytes l.0.0 l.0.1 a.0 (f.0 ∙ sym (append_assoc l.0.0 (10 ∷ []) l.0.1)) f.1 a.2 (λ inner. tail_of n hash l.0.1 shorter inner)
    (headed hash l.0.0 l.0.1 a.0 (starts_with nat_eq l.0.0 (codes "author ")) refl l.2)

text_of : (hash : Kind) (bytes : List ℕ) → IsObject hash objects.Commit bytes → (c : CommitParts) × IsCommit hash c × (bytes ≡ commit_text c)
unfolding commit_text
text_of hash bytes h =
    let a = some_part hash expect.TreeLine bytes h refl in
    let l = headline bytes (id_after hash (codes "tree ")) treed a.0 a.1 in
    let inner : Accepts hash expect.ParentOrAuthor l.0.1 = subst (λ (s : Step). Accepts hash s.expected s.rest) (sym l.4) a.2 in
    let t = id_after_is hash (codes "tree ") l.0.0 l.2 l.3 in
    let tail = tail_of (length l.0.1) hash l.0.1 (omega arith) inner in
    let s = tail.close.signed in
    let c : CommitParts = record { tree = t.0; parents = tail.parents; author = tail.author; committer = s.who; seconds = s.seconds; offset = s.offset; rest = tail.close.rest } in
    let none : IsWithout 10 (codes "committer " ++ (s.who ++ 32 ∷ (s.seconds ++ 32 ∷ s.offset))) = subst (IsWithout 10) s.text tail.close.whole in
    let who = parts_without 10 s.who (32 ∷ (s.seconds ++ 32 ∷ s.offset)) (parts_without 10 (codes "committer ") (s.who ++ 32 ∷ (s.seconds ++ 32 ∷ s.offset)) none).1 in (
      c,
      record { tree = t.2; parents = tail.hex; author = tail.whole; committer = who.0; decimal = s.decimal; few = s.few; fits = s.fits; offset = s.zone },
      l.1 ∙ ap₂ (λ x y. text_line x ++ y) t.1
          (tail.text ∙ ap (λ y. flat_map parent_line tail.parents ++ (text_line (codes "author " ++ tail.author) ++ y)) (tail.close.text ∙ ap (λ y. text_line y ++ tail.close.rest) s.text)),
    )

pub commits_are_texts : (hash : Kind) (bytes : List ℕ) → CommitsAreTexts hash bytes
commits_are_texts hash bytes = record {
  text = text_of hash bytes;
  commit = λ c good is. subst (IsObject hash objects.Commit) (sym is) (subst (λ (r : Reading). may_end r.expected r.rest ≡ true) (sym (commit_says hash c good).says) refl);
  says = λ c good is. subst (λ bytes. SaysParts hash bytes c) (sym is) (says_parts hash c good);
}
