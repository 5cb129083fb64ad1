-- Maps of names over others, name by name.
use Rattle.std.proofs.Common.{◌≡◌, ℕ, Bool, true, false, cond, List, [], ◌∷◌, Option, Some, None, unwrap_or, refl, sym, ap, ◌∙◌}
use Rattle.std.specs.Option.{option_map}
use Rattle.std.specs.Ordering.{eq_by_cmp}
use Rattle.std.specs.FinMap as finmap
use Rattle.std.specs.FinMap.{FinMap}
use Rattle.std.specs.Map.{lookup}
use Rattle.std.specs.BTreeMap.{is_at}
use Rattle.fetch_refs.specs.declared.log.LogLine.{LogLine}
use Rattle.fetch_refs.specs.Logs.{lines_of}
use Rattle.fetch_refs.specs.Names.{name_cmp}
use Rattle.std.proofs.lemmas.Map.Made.{lookup-map_values}
use Rattle.fetch_refs.specs.Overlay.{shown_lines, logs_of, with_lines}
use Rattle.fetch_refs.specs.Slots.{with_slot, over, each}
use Rattle.fetch_refs.proofs.Maps.{same_tie}
use Rattle.fetch_refs.proofs.Names.{name_cmp_total, name_cmp_exact}

module _ {X : Type 0} where
  pub get-with_slot : (m : FinMap name_cmp X) (k : List ℕ) (v : Option X) (q : List ℕ) → finmap.get (with_slot m k v) q ≡ cond (eq_by_cmp name_cmp q k) v (finmap.get m q)
  get-with_slot m k (Some v) q = finmap.get-insert name_cmp_total m k v q
  get-with_slot m k None q = finmap.get-remove name_cmp_total m k q

  chosen : (b : Bool) (v : Option X) (o : Option (Option X)) (below : Option X) → cond b v (unwrap_or o below) ≡ unwrap_or (cond b (Some v) o) below
  chosen true v o below = refl
  chosen false v o below = refl

  pub get-over : (below : FinMap name_cmp X) (es : List (List ℕ × Option X)) (q : List ℕ) → finmap.get (over below es) q ≡ unwrap_or (lookup (is_at (name_cmp q)) es) (finmap.get below q)
  get-over below [] q = refl
  get-over below (e ∷ es) q =
      get-with_slot (over below es) e.0 e.1 q ∙ ap (cond (eq_by_cmp name_cmp q e.0) e.1) (get-over below es q)
      ∙ chosen (eq_by_cmp name_cmp q e.0) e.1 (lookup (is_at (name_cmp q)) es) (finmap.get below q)

  same : (m n : FinMap name_cmp X) → ((q : List ℕ) → finmap.get m q ≡ finmap.get n q) → m ≡ n
  same = finmap.same_map name_cmp_total name_cmp_exact

  -- a value written over others
  pub over-write : (below : FinMap name_cmp X) (es fs : List (List ℕ × Option X)) (k : List ℕ) (v : Option X)
      → ((q : List ℕ) → lookup (is_at (name_cmp q)) fs ≡ cond (is_at (name_cmp k) q) (Some v) (lookup (is_at (name_cmp q)) es))
      → over below fs ≡ with_slot (over below es) k v
  over-write below es fs k v step =
      same _ _ (λ q.
      get-over below fs q ∙ ap (λ o. unwrap_or o (finmap.get below q)) (step q ∙ ap (λ b. cond b (Some v) (lookup (is_at (name_cmp q)) es)) (same_tie name_cmp_total k q))
      ∙ sym (chosen (eq_by_cmp name_cmp q k) v (lookup (is_at (name_cmp q)) es) (finmap.get below q))
      ∙ ap (cond (eq_by_cmp name_cmp q k) v) (sym (get-over below es q)) ∙ sym (get-with_slot (over below es) k v q))

  tied : (m : FinMap name_cmp X) (q k : List ℕ) (b : Bool) → eq_by_cmp name_cmp q k ≡ b → cond b (finmap.get m k) (finmap.get m q) ≡ finmap.get m q
  tied m q k true is = ap (finmap.get m) (name_cmp_exact k q (tie k q is))
    where
      tie : (k q : List ℕ) → eq_by_cmp name_cmp q k ≡ true → name_cmp k q ≡ Rattle.std.specs.declared.cmp.Ordering.TheVariants.Equal
      tie k q is = (Rattle.std.specs.Cmp.Equal-is (name_cmp k q)).0 (same_tie name_cmp_total k q ∙ is)
  tied m q k false is = refl

  -- what stands at a name, written there
  pub same_slot : (m : FinMap name_cmp X) (k : List ℕ) → with_slot m k (finmap.get m k) ≡ m
  same_slot m k = same _ _ (λ q. get-with_slot m k (finmap.get m k) q ∙ tied m q k (eq_by_cmp name_cmp q k) refl)

  twice : (b : Bool) (x y z : Option X) → cond b x (cond b y z) ≡ cond b x z
  twice true x y z = refl
  twice false x y z = refl

  pub slot_twice : (m : FinMap name_cmp X) (k : List ℕ) (v w : Option X) → with_slot (with_slot m k v) k w ≡ with_slot m k w
  slot_twice m k v w =
      same _ _ (λ q.
      get-with_slot (with_slot m k v) k w q ∙ ap (cond (eq_by_cmp name_cmp q k) w) (get-with_slot m k v q)
      ∙ twice (eq_by_cmp name_cmp q k) w v (finmap.get m q) ∙ sym (get-with_slot m k w q))

  -- a value that was written over another is taken back
  pub put_back : (m : FinMap name_cmp X) (k : List ℕ) (v : Option X) → with_slot (with_slot m k v) k (finmap.get m k) ≡ m
  put_back m k v = slot_twice m k v (finmap.get m k) ∙ same_slot m k

module _ {S X : Type 0} (f : S → Option X) where
  pub get-each : (es : List (List ℕ × S)) (q : List ℕ) → finmap.get (over finmap.empty (each f es)) q ≡ unwrap_or (option_map f (lookup (is_at (name_cmp q)) es)) None
  get-each es q =
      get-over finmap.empty (each f es) q
      ∙ ap (unwrap_or (lookup (is_at (name_cmp q)) (each f es))) (finmap.get-empty name_cmp q)
      ∙ ap (λ o. unwrap_or o None) (lookup-map_values f (is_at (name_cmp q)) es)

  mapped : (b : Bool) (s : S) (o : Option S) → option_map f (cond b (Some s) o) ≡ cond b (Some (f s)) (option_map f o)
  mapped true s o = refl
  mapped false s o = refl

  pub each-write : (es fs : List (List ℕ × S)) (k : List ℕ) (s : S)
      → ((q : List ℕ) → lookup (is_at (name_cmp q)) fs ≡ cond (is_at (name_cmp k) q) (Some s) (lookup (is_at (name_cmp q)) es))
      → over finmap.empty (each f fs) ≡ with_slot (over finmap.empty (each f es)) k (f s)
  each-write es fs k s step =
      over-write finmap.empty (each f es) (each f fs) k (f s) (λ q.
      lookup-map_values f (is_at (name_cmp q)) fs ∙ ap (option_map f) (step q)
      ∙ mapped (is_at (name_cmp k) q) s (lookup (is_at (name_cmp q)) es) ∙ ap (cond (is_at (name_cmp k) q) (Some (f s))) (sym (lookup-map_values f (is_at (name_cmp q)) es)))

pub get-logs_of : (es : List (List ℕ × List LogLine)) (q : List ℕ) → finmap.get (logs_of es) q ≡ unwrap_or (option_map shown_lines (lookup (is_at (name_cmp q)) es)) None
get-logs_of es q = get-each shown_lines es q

all_lines : (ls : List LogLine) → unwrap_or (shown_lines ls) [] ≡ ls
all_lines [] = refl
all_lines (l ∷ ls) = refl

-- the lines that are kept for a name
pub lines-logs_of : (es : List (List ℕ × List LogLine)) (q : List ℕ) → lines_of (logs_of es) q ≡ unwrap_or (lookup (is_at (name_cmp q)) es) []
lines-logs_of es q = ap (λ o. unwrap_or o []) (get-logs_of es q) ∙ inside (lookup (is_at (name_cmp q)) es)
  where
    inside : (o : Option (List LogLine)) → unwrap_or (unwrap_or (option_map shown_lines o) None) [] ≡ unwrap_or o []
    inside None = refl
    inside (Some ls) = all_lines ls

pub logs-write : (es fs : List (List ℕ × List LogLine)) (k : List ℕ) (ls : List LogLine)
    → ((q : List ℕ) → lookup (is_at (name_cmp q)) fs ≡ cond (is_at (name_cmp k) q) (Some ls) (lookup (is_at (name_cmp q)) es))
    → logs_of fs ≡ with_lines (logs_of es) k ls
logs-write es fs k ls step = each-write shown_lines es fs k ls step

-- the lines of a reflog, written there
pub same_lines : (es : List (List ℕ × List LogLine)) (k : List ℕ) → with_lines (logs_of es) k (lines_of (logs_of es) k) ≡ logs_of es
same_lines es k =
    ap (with_slot (logs_of es) k) (ap shown_lines (lines-logs_of es k) ∙ inside (lookup (is_at (name_cmp k)) es) ∙ sym (get-logs_of es k)) ∙ same_slot (logs_of es) k
  where
    inside : (o : Option (List LogLine)) → shown_lines (unwrap_or o []) ≡ unwrap_or (option_map shown_lines o) None
    inside None = refl
    inside (Some ls) = refl

-- lines that were written over others are taken back
pub lines_back : (es : List (List ℕ × List LogLine)) (k : List ℕ) (ls : List LogLine) → with_lines (with_lines (logs_of es) k ls) k (lines_of (logs_of es) k) ≡ logs_of es
lines_back es k ls = slot_twice (logs_of es) k (shown_lines ls) (shown_lines (lines_of (logs_of es) k)) ∙ same_lines es k

-- a name without lines has no reflog
pub lines_gone : (es : List (List ℕ × List LogLine)) (k : List ℕ) → lines_of (logs_of es) k ≡ [] → logs_of es ≡ finmap.remove (logs_of es) k
lines_gone es k none = sym (same_lines es k) ∙ ap (with_lines (logs_of es) k) none
