-- The names that a server lists under `refs/` with an id are those of its references that are born.
use Rattle.std.proofs.Common.{◌≡◌, ℕ, Bool, true, false, ◌&&◌, ◌||◌, List, [], ◌∷◌, map, filter, cond, nat_eq, Option, Some, None, refl, sym, ap, ◌∙◌}
use Rattle.std.specs.Prelude.{if◌then◌else◌}
use Rattle.std.specs.List.{cons_option, filter_map, starts_with}
use Rattle.std.specs.Option.{option_and_then, option_map}
use Rattle.std.specs.Result.{result_ok}
use Rattle.std.specs.Str.{bytes_eq}
use Rattle.std.specs.FinMap as finmap
use Rattle.fetch_base.specs.declared.id.ObjectId.{ObjectId}
use Rattle.fetch_specs.specs.Categories.{refs}
use Rattle.fetch_specs.specs.Names.{is_full_name}
use Rattle.fetch_refs.specs.Peeled.{resolved}
use Rattle.fetch_refs.specs.declared.target.Target.{Target}
use Rattle.fetch_replies.specs.Listings.{ref_with}
use Rattle.fetch_lines.specs.declared.listings.reference.Ref.{Ref}
use Rattle.fetch_lines.specs.declared.listings.reference.Ref.TheVariants.{Unborn}
use Rattle.fetch_serve.specs.Offered.{head_name, if_told, listed, offer, offered_of, peeled_behind, target_of}
use Rattle.fetch_serve.specs.Served.{Data, history_of}
use Rattle.fetch_mirror.specs.Born.{born, born_names}
use Rattle.fetch_mirror.specs.Naming.{is_own_name, names_of, own_name}

-- the name of a reference as it is told, where it has an id
abbrev named : List ℕ → Bool → Option Ref → Option (List ℕ)
named name unborn r = option_and_then own_name (option_and_then (if_told unborn) r)

-- the name, where there is an id
abbrev beside : List ℕ → Option ObjectId → Option (List ℕ)
beside name id = option_map (λ (e : List ℕ × ObjectId). e.0) (option_map (λ (i : ObjectId). (name, i)) id)

if_own : (name : List ℕ) → is_own_name name ≡ true → (if true && is_own_name name then Some name else None) ≡ Some name
if_own name own = ap (λ (b : Bool). if true && b then Some name else None) own

untold : (name target : List ℕ) (told : Bool) → option_and_then own_name (if told then Some (Unborn name target) else None) ≡ None
untold name target true = refl
untold name target false = refl

-- a reference under `refs/`
told_as : (name : List ℕ) (unborn : Bool) (id : Option ObjectId) (target : Option (List ℕ)) (peeled : Option ObjectId) → is_own_name name ≡ true → named name unborn (ref_with name id (target, peeled)) ≡ beside name id
told_as name unborn None None peeled own = refl
told_as name unborn None (Some target) peeled own = untold name target (unborn && bytes_eq name head_name)
told_as name unborn (Some id) None None own = if_own name own
told_as name unborn (Some id) None (Some peeled) own = if_own name own
told_as name unborn (Some id) (Some target) None own = if_own name own
told_as name unborn (Some id) (Some target) (Some peeled) own = if_own name own

-- any other one has no own name
other_as : (name : List ℕ) (unborn : Bool) (id : Option ObjectId) (target : Option (List ℕ)) (peeled : Option ObjectId) → is_own_name name ≡ false → named name unborn (ref_with name id (target, peeled)) ≡ None
other_as name unborn None None peeled own = refl
other_as name unborn None (Some target) peeled own = untold name target (unborn && bytes_eq name head_name)
other_as name unborn (Some id) None None own = ap (λ (b : Bool). if true && b then Some name else None) own
other_as name unborn (Some id) None (Some peeled) own = ap (λ (b : Bool). if true && b then Some name else None) own
other_as name unborn (Some id) (Some target) None own = ap (λ (b : Bool). if true && b then Some name else None) own
other_as name unborn (Some id) (Some target) (Some peeled) own = ap (λ (b : Bool). if true && b then Some name else None) own

-- one more of each
name_first : (o : Option Ref) (xs : List Ref) → names_of (cons_option o xs) ≡ cons_option (option_and_then own_name o) (names_of xs)
name_first None xs = refl
name_first (Some r) xs = refl

born_first : (b : Option (List ℕ × ObjectId)) (ys : List (List ℕ × ObjectId)) → map (λ (e : List ℕ × ObjectId). e.0) (cons_option b ys) ≡ cons_option (option_map (λ (e : List ℕ × ObjectId). e.0) b) (map (λ (e : List ℕ × ObjectId). e.0) ys)
born_first None ys = refl
born_first (Some b) ys = refl

both : (o : Option Ref) (b : Option (List ℕ × ObjectId)) (xs : List Ref) (ys : List (List ℕ × ObjectId)) → option_and_then own_name o ≡ option_map (λ (e : List ℕ × ObjectId). e.0) b → names_of xs ≡ map (λ (e : List ℕ × ObjectId). e.0) ys → names_of (cons_option o xs) ≡ map (λ (e : List ℕ × ObjectId). e.0) (cons_option b ys)
both o b xs ys is so =
    name_first o xs ∙ ap (λ (n : Option (List ℕ)). cons_option n (names_of xs)) is ∙ ap (cons_option (option_map (λ (e : List ℕ × ObjectId). e.0) b)) so ∙ sym (born_first b ys)

module _ (d : Data) (unborn : Bool) where
  abbrev id_of : List ℕ × Target → Option ObjectId
  id_of e = result_ok (resolved d.names e.0 e.1)

  -- what is offered of a reference gives its name exactly where it is born
  one : (e : List ℕ × Target) → is_full_name e.0 ≡ true → option_and_then own_name (offer d unborn [] e) ≡ option_map (λ (b : List ℕ × ObjectId). b.0) (born d e)
  one e full = by (starts_with nat_eq e.0 refs) refl (bytes_eq e.0 head_name)
    where
      offered : Bool → Option (List ℕ)
      offered public = option_and_then own_name (if public && true then option_and_then (if_told unborn) (listed d e) else None)

      own_so : (under : Bool) → starts_with nat_eq e.0 refs ≡ under → is_own_name e.0 ≡ under
      own_so true is = ap (λ (b : Bool). b && is_full_name e.0) is ∙ full
      own_so false is = ap (λ (b : Bool). b && is_full_name e.0) is

      by : (under : Bool) → starts_with nat_eq e.0 refs ≡ under → (head : Bool) → offered (head || under) ≡ option_map (λ (b : List ℕ × ObjectId). b.0) (if under then option_map (λ (id : ObjectId). (e.0, id)) (id_of e) else None)
      by true is true = told_as e.0 unborn (id_of e) (target_of e.1) (peeled_behind (history_of d) (id_of e)) (own_so true is)
      by true is false = told_as e.0 unborn (id_of e) (target_of e.1) (peeled_behind (history_of d) (id_of e)) (own_so true is)
      by false is true = other_as e.0 unborn (id_of e) (target_of e.1) (peeled_behind (history_of d) (id_of e)) (own_so false is)
      by false is false = refl

  each : (es : List (List ℕ × Target)) → names_of (filter_map (offer d unborn []) (filter (λ (e : List ℕ × Target). is_full_name e.0) es)) ≡ map (λ (b : List ℕ × ObjectId). b.0) (filter_map (born d) (filter (λ (e : List ℕ × Target). is_full_name e.0) es))
  each [] = refl
  each (e ∷ es) = by (is_full_name e.0) refl (each es)
    where
      rest : List (List ℕ × Target)
      rest = filter (λ (e : List ℕ × Target). is_full_name e.0) es

      by : (full : Bool) → is_full_name e.0 ≡ full → names_of (filter_map (offer d unborn []) rest) ≡ map (λ (x : List ℕ × ObjectId). x.0) (filter_map (born d) rest)
          → names_of (filter_map (offer d unborn []) (cond full (e ∷ rest) rest)) ≡ map (λ (x : List ℕ × ObjectId). x.0) (filter_map (born d) (cond full (e ∷ rest) rest))
      by true full so = both (offer d unborn [] e) (born d e) (filter_map (offer d unborn []) rest) (filter_map (born d) rest) (one e full) so
      by false full so = so

  pub names_are_born : names_of (offered_of d unborn []) ≡ born_names d
  names_are_born = each (finmap.entries d.names)
