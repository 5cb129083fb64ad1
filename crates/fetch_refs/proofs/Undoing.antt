-- Changes that are taken back.
use Rattle.std.proofs.Common.{◌≡◌, ℕ, zero, suc, Bool, true, false, cond, List, [], ◌∷◌, ◌++◌, Option, Some, None, Result, Ok, Err, unwrap_or, refl, sym, ap, ◌∙◌, take, length, subst, append-nil}
use Rattle.std.specs.Prelude.{is_some, ◌&&◌, OnErr}
use Rattle.std.specs.Option.{option_to_list, option_map}
use Rattle.std.specs.Ordering.{eq_by_cmp, is_eq}
use Rattle.std.specs.Cmp.{Equal-is, tied_itself}
use Rattle.std.specs.FinMap as finmap
use Rattle.std.proofs.Math.Seq.{take-append_seam}
use Rattle.std.specs.Map.{lookup}
use Rattle.std.specs.BTreeMap.{is_at}
use Rattle.std.specs.FinMap.{FinMap}
use Rattle.fetch_refs.specs.declared.contents.Contents.{Contents}
use Rattle.fetch_refs.specs.declared.log.LogLine.{LogLine}
use Rattle.fetch_refs.specs.declared.undo.Undo.{Undo}
use Rattle.fetch_refs.specs.declared.undo.Undo.TheVariants as undos
use Rattle.fetch_refs.specs.Logs.{lines_of, with_line}
use Rattle.fetch_refs.specs.Names.{RefsValue, Logs, name_cmp}
use Rattle.fetch_refs.specs.Overlay.{shown_lines, logs_of, with_lines}
use Rattle.fetch_refs.specs.Slots.{with_slot, over, each}
use Rattle.fetch_refs.specs.Contents.{shown_in, has_place, has_room, undone, unwound, KeepsPlaces, TakesBackIf}
use Rattle.fetch_refs.proofs.Names.{name_cmp_total, name_cmp_exact}
use Rattle.fetch_refs.proofs.Overlays.{get-with_slot, get-each, each-write, put_back, get-logs_of, lines-logs_of, logs-write, same_lines, lines_back}

-- what a place shows
pub found-some : {S X : Type 0} (f : S → Option X) (es : List (List ℕ × S)) (q : List ℕ) (s : S) → Some s ≡ lookup (is_at (name_cmp q)) es → f s ≡ finmap.get (over finmap.empty (each f es)) q
found-some {S} f es q s is = ap (λ (o : Option S). unwrap_or (option_map f o) None) is ∙ sym (get-each f es q)

pub found-none : {S X : Type 0} (f : S → Option X) (es : List (List ℕ × S)) (q : List ℕ) → None ≡ lookup (is_at (name_cmp q)) es → None ≡ finmap.get (over finmap.empty (each f es)) q
found-none {S} f es q is = ap (λ (o : Option S). unwrap_or (option_map f o) None) is ∙ sym (get-each f es q)

-- lists of entries before and after a value is put at a key
abbrev pub IsPut : {X : Type 0} → List (List ℕ × X) → List (List ℕ × X) → List ℕ → X → Type 0
IsPut es fs k v = (q : List ℕ) → lookup (is_at (name_cmp q)) fs ≡ cond (is_at (name_cmp k) q) (Some v) (lookup (is_at (name_cmp q)) es)

put_at : {X : Type 0} (es fs : List (List ℕ × X)) (k name : List ℕ) (v : X) → k ≡ name → IsPut es fs k v → IsPut es fs name v
put_at es fs k name v same put = subst (λ n. IsPut es fs n v) same put

module _ {X : Type 0} (es fs : List (List ℕ × X)) where
  stays : (b : Bool) (v : X) (o : Option X) → is_some o ≡ true → is_some (cond b (Some v) o) ≡ true
  stays true v o is = refl
  stays false v o is = is

  pub put_keeps : (k : List ℕ) (v : X) → IsPut es fs k v → (q : List ℕ) → is_some (lookup (is_at (name_cmp q)) es) ≡ true → is_some (lookup (is_at (name_cmp q)) fs) ≡ true
  put_keeps k v put q is = ap is_some (put q) ∙ stays (is_at (name_cmp k) q) v (lookup (is_at (name_cmp q)) es) is

-- what was put in a place is taken out again
pub slot_undone : {S X : Type 0} (f : S → Option X) (es fs : List (List ℕ × S)) (key name undo : List ℕ) (s old nothing : S)
    → key ≡ name → undo ≡ name → IsPut es fs key s → old ≡ unwrap_or (lookup (is_at (name_cmp key)) es) nothing → f nothing ≡ None
    → with_slot (over finmap.empty (each f fs)) undo (f old) ≡ over finmap.empty (each f es)
slot_undone {S} {X} f es fs key name undo s old nothing same also put was none =
    ap (λ (m : FinMap name_cmp X). with_slot m undo (f old)) (each-write f es fs name s (put_at es fs key name s same put))
    ∙ ap (λ n. with_slot (with_slot (over finmap.empty (each f es)) name (f s)) n (f old)) also
    ∙ ap (with_slot (with_slot (over finmap.empty (each f es)) name (f s)) name) (ap f was ∙ ap (λ n. f (unwrap_or (lookup (is_at (name_cmp n)) es) nothing)) same ∙ inside (lookup (is_at (name_cmp name)) es) ∙ sym (get-each f es name))
    ∙ put_back (over finmap.empty (each f es)) name (f s)
  where
    inside : (o : Option S) → f (unwrap_or o nothing) ≡ unwrap_or (option_map f o) None
    inside None = none
    inside (Some x) = refl

pub slot_put : {S X : Type 0} (f : S → Option X) (es fs : List (List ℕ × S)) (key name : List ℕ) (s : S) → key ≡ name → IsPut es fs key s → over finmap.empty (each f fs) ≡ with_slot (over finmap.empty (each f es)) name (f s)
slot_put f es fs key name s same put = each-write f es fs name s (put_at es fs key name s same put)

pub lines_undone : (es fs : List (List ℕ × List LogLine)) (key name undo : List ℕ) (ls old : List LogLine)
    → key ≡ name → undo ≡ name → IsPut es fs key ls → old ≡ unwrap_or (lookup (is_at (name_cmp key)) es) []
    → with_lines (logs_of fs) undo old ≡ logs_of es
lines_undone es fs key name undo ls old same also put was =
    ap (λ (m : Logs). with_lines m undo old) (logs-write es fs name ls (put_at es fs key name ls same put))
    ∙ ap (λ n. with_lines (with_lines (logs_of es) name ls) n old) also
    ∙ ap (with_lines (with_lines (logs_of es) name ls) name) (was ∙ ap (λ n. unwrap_or (lookup (is_at (name_cmp n)) es) []) same ∙ sym (lines-logs_of es name))
    ∙ lines_back es name ls

pub lines_put : (es fs : List (List ℕ × List LogLine)) (key name : List ℕ) (ls : List LogLine) → key ≡ name → IsPut es fs key ls → logs_of fs ≡ with_lines (logs_of es) name ls
lines_put es fs key name ls same put = logs-write es fs name ls (put_at es fs key name ls same put)

ties : (name q : List ℕ) → is_at (name_cmp name) q ≡ true → name ≡ q
ties name q is = name_cmp_exact name q ((Equal-is (name_cmp name q)).0 is)

tied_self : (name : List ℕ) → eq_by_cmp name_cmp name name ≡ true
tied_self name = ap is_eq (tied_itself name_cmp_total name)

-- a value that stands there already
pub put_same : {X : Type 0} (es fs : List (List ℕ × X)) (name : List ℕ) (v : X) → Some v ≡ lookup (is_at (name_cmp name)) es → IsPut es fs name v
    → (q : List ℕ) → lookup (is_at (name_cmp q)) fs ≡ lookup (is_at (name_cmp q)) es
put_same {X} es fs name v stands put q = put q ∙ at (is_at (name_cmp name) q) refl
  where
    at : (b : Bool) → is_at (name_cmp name) q ≡ b → cond b (Some v) (lookup (is_at (name_cmp q)) es) ≡ lookup (is_at (name_cmp q)) es
    at true is = stands ∙ ap (λ (n : List ℕ). lookup (is_at (name_cmp n)) es) (ties name q is)
    at false is = refl

pub logs_same : (es fs : List (List ℕ × List LogLine)) → ((q : List ℕ) → lookup (is_at (name_cmp q)) fs ≡ lookup (is_at (name_cmp q)) es) → logs_of fs ≡ logs_of es
logs_same es fs is = finmap.same_map name_cmp_total name_cmp_exact (logs_of fs) (logs_of es) (λ q. get-logs_of fs q ∙ ap (λ o. unwrap_or (option_map shown_lines o) None) (is q) ∙ sym (get-logs_of es q))

all_lines : (ls : List LogLine) → unwrap_or (shown_lines ls) [] ≡ ls
all_lines [] = refl
all_lines (l ∷ ls) = refl

some_lines : (ls : List LogLine) (line : LogLine) → shown_lines (ls ++ line ∷ []) ≡ Some (ls ++ line ∷ [])
some_lines [] line = refl
some_lines (l ∷ ls) line = refl

lines_at : (logs : Logs) (name : List ℕ) (ls : List LogLine) → lines_of (with_lines logs name ls) name ≡ ls
lines_at logs name ls = ap (λ o. unwrap_or o []) (get-with_slot logs name (shown_lines ls) name ∙ ap (λ b. cond b (shown_lines ls) (finmap.get logs name)) (tied_self name)) ∙ all_lines ls

take_front : (ls : List LogLine) (line : LogLine) → take (length ls) (ls ++ line ∷ []) ≡ ls
take_front ls line = take-append_seam ls (line ∷ [])

-- a line more
pub line_put : (es fs : List (List ℕ × List LogLine)) (name : List ℕ) (line : LogLine) → IsPut es fs name (unwrap_or (lookup (is_at (name_cmp name)) es) [] ++ line ∷ []) → logs_of fs ≡ with_line (logs_of es) name line
line_put es fs name line put =
    logs-write es fs name (unwrap_or (lookup (is_at (name_cmp name)) es) [] ++ line ∷ []) put
    ∙ ap (with_slot (logs_of es) name) (some_lines (unwrap_or (lookup (is_at (name_cmp name)) es) []) line)
    ∙ ap (λ (ls : List LogLine). finmap.insert (logs_of es) name (ls ++ line ∷ [])) (sym (lines-logs_of es name))

pub line_undone : (es fs : List (List ℕ × List LogLine)) (name undo : List ℕ) (line : LogLine) (lines : List LogLine) → undo ≡ name → lines ≡ lines_of (logs_of es) name
    → IsPut es fs name (unwrap_or (lookup (is_at (name_cmp name)) es) [] ++ line ∷ [])
    → with_lines (logs_of fs) undo (take (length lines) (lines_of (logs_of fs) undo)) ≡ logs_of es
line_undone es fs name undo line lines same were put =
    let ls : List LogLine = lines_of (logs_of es) name in
    let whole : logs_of fs ≡ with_lines (logs_of es) name (ls ++ line ∷ []) = logs-write es fs name (unwrap_or (lookup (is_at (name_cmp name)) es) [] ++ line ∷ []) put ∙ ap (λ (xs : List LogLine). with_lines (logs_of es) name (xs ++ line ∷ [])) (sym (lines-logs_of es name)) in
    ap (λ (n : List ℕ). with_lines (logs_of fs) n (take (length lines) (lines_of (logs_of fs) n))) same
    ∙ ap (λ (m : Logs). with_lines m name (take (length lines) (lines_of m name))) whole
    ∙ ap (λ (xs : List LogLine). with_lines (with_lines (logs_of es) name (ls ++ line ∷ [])) name (take (length lines) xs)) (lines_at (logs_of es) name (ls ++ line ∷ []))
    ∙ ap (λ (xs : List LogLine). with_lines (with_lines (logs_of es) name (ls ++ line ∷ [])) name (take (length xs) (ls ++ line ∷ []))) were
    ∙ ap (with_lines (with_lines (logs_of es) name (ls ++ line ∷ [])) name) (take_front ls line)
    ∙ lines_back es name (ls ++ line ∷ [])

-- lines that are cut
pub lines_cut : (es fs : List (List ℕ × List LogLine)) (name : List ℕ) (left : ℕ) (lines new : List LogLine) → Some lines ≡ lookup (is_at (name_cmp name)) es → new ≡ take left lines → IsPut es fs name new
    → logs_of fs ≡ with_lines (logs_of es) name (take left (lines_of (logs_of es) name))
lines_cut es fs name left lines new stands is put =
    logs-write es fs name new put
    ∙ ap (with_lines (logs_of es) name) (is ∙ ap (λ (o : Option (List LogLine)). take left (unwrap_or o [])) stands ∙ ap (take left) (sym (lines-logs_of es name)))

take_nil : (n : ℕ) → take {A = LogLine} n [] ≡ []
take_nil zero = refl
take_nil (suc n) = refl

pub no_lines_cut : (es fs : List (List ℕ × List LogLine)) (name : List ℕ) (left : ℕ) → None ≡ lookup (is_at (name_cmp name)) es → fs ≡ es
    → logs_of fs ≡ with_lines (logs_of es) name (take left (lines_of (logs_of es) name))
no_lines_cut es fs name left none same =
    let nil : lines_of (logs_of es) name ≡ [] = lines-logs_of es name ∙ ap (λ (o : Option (List LogLine)). unwrap_or o []) (sym none) in
    ap logs_of same ∙ sym (same_lines es name) ∙ ap (with_lines (logs_of es) name) (nil ∙ sym (take_nil left) ∙ ap (take left) (sym nil))

-- a change after others
pub unwound-push : (us : List Undo) (u : Undo) (r : RefsValue) → unwound (us ++ u ∷ []) r ≡ unwound us (undone u r)
unwound-push [] u r = refl
unwound-push (x ∷ us) u r = ap (undone x) (unwound-push us u r)

both : (a b : Bool) → a ≡ true → b ≡ true → (a && b) ≡ true
both true true p q = refl
both true false p q = q
both false b p q = p

first : (a b : Bool) → (a && b) ≡ true → a ≡ true
first true b p = refl
first false b p = p

second : (a b : Bool) → (a && b) ≡ true → b ≡ true
second true b p = p
second false b p = absurd cc

module _ (c d : Contents) (keeps : KeepsPlaces c d) where
  place_kept : (u : Undo) → has_place c u ≡ true → has_place d u ≡ true
  place_kept (undos.Target name old) is = keeps.0 name is
  place_kept (undos.Line name left) is = refl
  place_kept (undos.Lines name old) is = keeps.1 name is

  pub room_kept : (us : List Undo) → has_room c us ≡ true → has_room d us ≡ true
  room_kept [] is = refl
  room_kept (u ∷ us) is = both _ _ (place_kept u (first _ _ is)) (room_kept us (second _ _ is))

pub room_push : (c : Contents) (us : List Undo) (u : Undo) → has_room c us ≡ true → has_place c u ≡ true → has_room c (us ++ u ∷ []) ≡ true
room_push c [] u is place = both _ _ place refl
room_push c (x ∷ us) u is place = both _ _ (first _ _ is) (room_push c us u (second _ _ is) place)

pub room_front : (c : Contents) (us : List Undo) (u : Undo) → has_room c (us ++ u ∷ []) ≡ true → (has_room c us ≡ true) × (has_place c u ≡ true)
room_front c [] u is = (refl, first _ _ is)
room_front c (x ∷ us) u is = let r = room_front c us u (second _ _ is) in (both _ _ (first _ _ is) r.0, r.1)

-- the last change is taken back first
pub room_popped : (c : Contents) (us vs : List Undo) (u : Undo) → us ≡ vs ++ u ∷ [] → has_room c us ≡ true → (has_room c vs ≡ true) × (has_place c u ≡ true)
room_popped c us vs u is room = room_front c vs u (subst (λ xs. has_room c xs ≡ true) is room)

pub unwound_popped : (c d : Contents) (us vs : List Undo) (u : Undo) → us ≡ vs ++ u ∷ [] → shown_in d ≡ undone u (shown_in c) → unwound vs (shown_in d) ≡ unwound us (shown_in c)
unwound_popped c d us vs u is back = ap (unwound vs) back ∙ sym (unwound-push vs u (shown_in c)) ∙ ap (λ xs. unwound xs (shown_in c)) (sym is)

pub same_room : (c d : Contents) → KeepsPlaces c d → (us vs : List Undo) → vs ≡ us → has_room c us ≡ true → has_room d vs ≡ true
same_room c d keeps us vs is room = room_kept c d keeps vs (subst (λ xs. has_room c xs ≡ true) (sym is) room)

-- one step of a journal: a change, or none, is noted after the others
module _ (c d : Contents) (keeps : KeepsPlaces c d) (us : List Undo) (room : has_room c us ≡ true) where
  step-room : (u : Option Undo) → TakesBackIf c d u → has_room d (us ++ option_to_list u) ≡ true
  step-room None back = subst (λ vs. has_room d vs ≡ true) (sym (append-nil us)) (room_kept c d keeps us room)
  step-room (Some u) back = room_push d us u (room_kept c d keeps us room) back.place

  step-before : (u : Option Undo) → TakesBackIf c d u → unwound (us ++ option_to_list u) (shown_in d) ≡ unwound us (shown_in c)
  step-before None back = ap (λ vs. unwound vs (shown_in d)) (append-nil us) ∙ ap (unwound us) back
  step-before (Some u) back = unwound-push us u (shown_in d) ∙ ap (unwound us) back.shown

  pub stepped-room : (u : Option Undo) (vs : List Undo) → vs ≡ us ++ option_to_list u → TakesBackIf c d u → has_room d vs ≡ true
  stepped-room u vs is back = subst (λ xs. has_room d xs ≡ true) (sym is) (step-room u back)

  pub stepped-before : (u : Option Undo) (vs : List Undo) → vs ≡ us ++ option_to_list u → TakesBackIf c d u → unwound vs (shown_in d) ≡ unwound us (shown_in c)
  stepped-before u vs is back = ap (λ xs. unwound xs (shown_in d)) is ∙ step-before u back

pub on_failure : {X E : Type 0} {P : Type 0} (r : Result X E) → P → OnErr r P
on_failure (Ok x) p = tt
on_failure (Err e) p = p

-- what a failed push left
pub on_err : {X E Y : Type 0} (r : Result X E) {P : Y → List ℕ → Type 0} {S W : Y → Type 0} → ((y : Y) → S y → W y → (q : List ℕ) → P y q) → (old new : Y) → OnErr r (new ≡ old) → S old → W new → (q : List ℕ) → OnErr r (P new q)
on_err (Ok x) f old new same s w q = tt
on_err (Err e) {P} {S} {W} f old new same s w q = f new (subst S (sym same) s) w q

pub both_of : {X Y Z : Type 0} (f : X → Y → Z) {a b : X} {c d : Y} → a ≡ b → c ≡ d → f a c ≡ f b d
both_of f {b = b} {c = c} p q = ap (λ x. f x c) p ∙ ap (f b) q
