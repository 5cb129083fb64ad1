-- An ancestor ends a line of parents.
use Rattle.std.proofs.Common.{◌≡◌, Bool, true, false, List, [], ◌∷◌, ◌++◌, true≢false, refl, sym, ap, subst, ◌∙◌}
use Rattle.std.specs.Prelude.{◌||◌, ◌&&◌, ◌↔◌}
use Rattle.std.specs.FinMap as finmap
use Rattle.std.specs.FinSet as set
use Rattle.std.specs.Ordering.{eq_by_cmp}
use Rattle.fetch_base.specs.declared.id.ObjectId.{ObjectId}
use Rattle.fetch_store.specs.Graph.{Graph}
use Rattle.fetch_base.specs.Id.{id_cmp}
use Rattle.fetch_store.proofs.Finds.{ties}
use Rattle.fetch_negotiate.specs.Ancestors.{leads, is_ancestor, IsAncestor, IsLine, last_of}
use Rattle.fetch_negotiate.proofs.Choosing.{ancestor_step}

either : (P : Type 0) (a b : Bool) → (a ≡ true → P) → (b ≡ true → P) → (a || b) ≡ true → P
either P true b f g h = f refl
either P false b f g h = g h

both : (a b : Bool) → (a && b) ≡ true → (a ≡ true) × (b ≡ true)
both true b h = (refl, h)
both false b h = absurd (true≢false (sym h))

module _ (g : Graph) (border : set.FinSet id_cmp) where
  line_append : (from : ObjectId) (l m : List ObjectId) → IsLine g border from l → IsLine g border (last_of from l) m → IsLine g border from (l ++ m)
  line_append from [] m a b = b
  line_append from (x ∷ l) m a b = (a.0, line_append x l m a.1 b)

  last_append : (from : ObjectId) (l m : List ObjectId) → last_of from (l ++ m) ≡ last_of (last_of from l) m
  last_append from [] m = refl
  last_append from (x ∷ l) m = last_append x l m

  joined : (x v y : ObjectId) → IsAncestor g border x v → IsAncestor g border v y → IsAncestor g border x y
  joined x v y a b =
      record {
        first = a.first;
        others = a.others ++ b.first ∷ b.others;
        line = (a.line.0, line_append a.first a.others (b.first ∷ b.others) a.line.1 (subst (λ (q : ObjectId). IsLine g border q (b.first ∷ b.others)) (sym a.ends) b.line));
        ends = last_append a.first a.others (b.first ∷ b.others) ∙ b.ends;
      }

  leads_line : (vs : List ObjectId) (x y : ObjectId) → leads g border vs x y ≡ true → IsAncestor g border x y
  leads_line [] x y h = record { first = y; others = []; line = (h, tt); ends = refl }
  leads_line (v ∷ vs) x y h =
      either (IsAncestor g border x y) (leads g border vs x y) (leads g border vs x v && leads g border vs v y) (leads_line vs x y)
      (λ e. let p = both (leads g border vs x v) (leads g border vs v y) e in joined x v y (leads_line vs x v p.0) (leads_line vs v y p.1)) h

  behind : (a b : Bool) → b ≡ true → (a || b) ≡ true
  behind true b h = refl
  behind false b h = h

  line_leads : (a x : ObjectId) (others : List ObjectId) → is_ancestor g border a x ≡ true → IsLine g border x others → is_ancestor g border a (last_of x others) ≡ true
  line_leads a x [] h line = h
  line_leads a x (y ∷ others) h line = line_leads a y others (ancestor_step g border a x y (behind (eq_by_cmp id_cmp x a) (is_ancestor g border a x) h) line.0) line.1

  pub ancestor_is : (a x : ObjectId) → (is_ancestor g border a x ≡ true) ↔ IsAncestor g border a x
  unfolding is_ancestor
  ancestor_is a x = (λ h. leads_line (finmap.keys g) a x h, λ l. told l)
    where
      told : IsAncestor g border a x → is_ancestor g border a x ≡ true
      told l =
          let start = ancestor_step g border a a l.first (ap (λ b. b || is_ancestor g border a a) (ties a a refl)) l.line.0 in
          subst (λ (q : ObjectId). is_ancestor g border a q ≡ true) l.ends (line_leads a l.first l.others start l.line.1)
