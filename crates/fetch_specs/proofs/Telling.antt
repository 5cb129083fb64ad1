-- A source is told exactly where its name is mapped to the name.
use Rattle.std.proofs.Common.{◌≡◌, ◌↔◌, ℕ, Bool, true, false, cond, ◌||◌, List, [], ◌∷◌, ◌++◌, length, drop, Option, Some, None, refl, sym, ap, ◌∙◌, arith}
use Rattle.std.specs.Prelude.{nat_eq, is_some, option_and_then, option_map}
use Rattle.std.specs.List.{Contains, starts_with}
use Rattle.std.specs.Str.{bytes_eq}
use Rattle.std.proofs.Math.Seq.{drop-append_seam}
use Rattle.std.proofs.lemmas.Slice.Eq.{bytes_eq-Decides}
use Rattle.fetch_specs.specs.Categories.{refs, heads}
use Rattle.fetch_specs.specs.Specs.{Spec}
use Rattle.fetch_specs.specs.Parses.{id_named, IsSpec}
use Rattle.fetch_specs.specs.declared.found.SourceRef.TheVariants as sources
use Rattle.fetch_specs.specs.declared.found.Match.{Match}
use Rattle.fetch_specs.specs.Matches.{has_star, short_heads, short_tags, short_remotes, completed, expanded, is_exclusion, source_id, source_taken, is_excluded, taken, with_middle, given, forms_of, unless_excluded, source_to, source_given, sources_leading, name_mapping}
use Rattle.fetch_specs.specs.Leads.{mapped_to, IsOwnSource}
use Rattle.fetch_specs.proofs.Between.{star_part, takes_own, gives_own, given_again, part_serves}
use Rattle.fetch_specs.proofs.InOrder.{in_order}
use Rattle.fetch_specs.proofs.Members.{from_filter_map, to_filter_map, to_filter, passed}

-- each text that is the name when it is completed is one of its forms
form : (text name : List ℕ) → completed text ≡ name → Contains (forms_of name) text
form text name is =
    to_filter (λ t. bytes_eq (completed t) name) (name ∷ drop (length refs) name ∷ drop (length heads) name ∷ []) text
    (by_front (starts_with nat_eq text short_heads || starts_with nat_eq text short_tags || starts_with nat_eq text short_remotes) (starts_with nat_eq text refs) (sym is))
    ((bytes_eq-Decides (completed text) name).1 is)
  where
    by_front : (a b : Bool) → name ≡ cond a refs (cond b [] heads) ++ text → Contains (name ∷ drop (length refs) name ∷ drop (length heads) name ∷ []) text
    by_front true b is = (1, omega arith, ap (drop (length refs)) is ∙ drop-append_seam refs text)
    by_front false true is = (0, omega arith, is)
    by_front false false is = (2, omega arith, ap (drop (length heads)) is ∙ drop-append_seam heads text)

completes : (text name : List ℕ) → Contains (forms_of name) text → completed text ≡ name
completes text name there =
    (bytes_eq-Decides (completed text) name).0 (passed (λ t. bytes_eq (completed t) name) (name ∷ drop (length refs) name ∷ drop (length heads) name ∷ []) text there)

-- what a mapping is made of
abbrev mapped_by : Bool → Bool → Option (List ℕ) → Option (List ℕ)
mapped_by off out destination = cond (off || out) None destination

mapped_is : (specs : List Spec) (spec : Spec) (name : List ℕ) (middle : List ℕ) → source_taken spec.source name ≡ Some middle
    → mapped_to specs spec name ≡ mapped_by (is_exclusion spec.mode || is_some (source_id spec.source)) (is_excluded specs name) (option_map (expanded middle) spec.destination)
mapped_is specs spec name middle is =
    ap (λ (o : Option (List ℕ)). option_and_then (λ (m : Match). m.rhs) (name_mapping specs 0 spec 0 name o)) is
    ∙ step (is_exclusion spec.mode || is_some (source_id spec.source) || is_excluded specs name)
  where
    step : (t : Bool) → option_and_then (λ (m : Match). m.rhs) (cond t None (Some (record { lhs = sources.FullName name; rhs = option_map (expanded middle) spec.destination; item_index = Some 0; spec_index = 0 }))) ≡ cond t None (option_map (expanded middle) spec.destination)
    step true = refl
    step false = refl

record Told (specs : List Spec) (off : Bool) (s d text source : List ℕ) : Type 0 where
  on : off ≡ false
  middle : List ℕ
  gives : given d text ≡ Some middle
  kept : is_excluded specs source ≡ false
  is : with_middle s middle ≡ source

told_parts : (specs : List Spec) (s d text source : List ℕ) (off : Bool)
    → cond off None (option_and_then (λ (m : List ℕ). unless_excluded specs (with_middle s m)) (given d text)) ≡ Some source → Told specs off s d text source
told_parts specs s d text source true told = absurd cc
told_parts specs s d text source false told = by_middle (given d text) refl told
  where
    by_middle : (o : Option (List ℕ)) → given d text ≡ o → option_and_then (λ (m : List ℕ). unless_excluded specs (with_middle s m)) o ≡ Some source → Told specs false s d text source
    by_middle None gives told = absurd cc
    by_middle (Some m) gives told = by_test (is_excluded specs (with_middle s m)) refl told
      where
        by_test : (t : Bool) → is_excluded specs (with_middle s m) ≡ t → cond t None (Some (with_middle s m)) ≡ Some source → Told specs false s d text source
        by_test true out told = absurd cc
        by_test false kept told =
            let is : with_middle s m ≡ source = cc in
            record { on = refl; middle = m; gives = gives; kept = ap (is_excluded specs) (sym is) ∙ kept; is = is }

or_neither : (a b : Bool) (x : Option (List ℕ)) (name : List ℕ) → cond (a || b) None x ≡ Some name → (a ≡ false) × (b ≡ false) × (x ≡ Some name)
or_neither true b x name is = absurd cc
or_neither false true x name is = absurd cc
or_neither false false x name is = (refl, refl, is)

to_map : (specs : List Spec) (spec : Spec) (name source s d : List ℕ) → spec.source ≡ Some s → spec.destination ≡ Some d → has_star s ≡ has_star d
    → Contains (sources_leading specs spec name) source → IsOwnSource spec source × (mapped_to specs spec source ≡ Some name)
to_map specs spec name source s d from to even there =
    let w = from_filter_map (source_given specs spec) (forms_of name) source there in
    let text = w.0 in
    let told : source_to specs spec text (Some s) (Some d) ≡ Some source =
    ap (λ (o : Option (List ℕ)). source_to specs spec text (Some s) o) (sym to) ∙ ap (λ (o : Option (List ℕ)). source_to specs spec text o spec.destination) (sym from) ∙ w.2 in
    let p = told_parts specs s d text source (is_exclusion spec.mode || is_some (id_named s)) told in
    let takes : source_taken spec.source source ≡ Some (star_part s p.middle) =
    ap (λ (o : Option (List ℕ)). source_taken o source) from ∙ ap (taken s) (sym p.is) ∙ takes_own s p.middle in
    let lands : completed (with_middle d (star_part s p.middle)) ≡ name =
    ap (λ (t : Bool). completed (with_middle d (cond t p.middle []))) even ∙ ap completed (part_serves d p.middle ∙ given_again d text p.middle p.gives) ∙ completes text name w.1 in (
      (p.middle, ap (option_map (λ (x : List ℕ). with_middle x p.middle)) from ∙ ap Some p.is),
      mapped_is specs spec source (star_part s p.middle) takes
          ∙ ap (λ (o : Option (List ℕ)). mapped_by (is_exclusion spec.mode || is_some (source_id o)) (is_excluded specs source) (option_map (expanded (star_part s p.middle)) spec.destination)) from
          ∙ ap (λ (o : Option (List ℕ)). mapped_by (is_exclusion spec.mode || is_some (id_named s)) (is_excluded specs source) (option_map (expanded (star_part s p.middle)) o)) to
          ∙ ap (λ (t : Bool). mapped_by t (is_excluded specs source) (Some (completed (with_middle d (star_part s p.middle))))) p.on
          ∙ ap (λ (t : Bool). mapped_by false t (Some (completed (with_middle d (star_part s p.middle))))) p.kept
          ∙ ap Some lands,
    )

to_tell : (specs : List Spec) (spec : Spec) (name source s d : List ℕ) → spec.source ≡ Some s → spec.destination ≡ Some d → has_star s ≡ has_star d
    → IsOwnSource spec source → mapped_to specs spec source ≡ Some name → Contains (sources_leading specs spec name) source
to_tell specs spec name source s d from to even own maps =
    let part = star_part s own.0 in
    let again : Some (with_middle s own.0) ≡ Some source = ap (option_map (λ (x : List ℕ). with_middle x own.0)) (sym from) ∙ own.1 in
    let is : with_middle s own.0 ≡ source = cc in
    let takes : source_taken spec.source source ≡ Some part = ap (λ (o : Option (List ℕ)). source_taken o source) from ∙ ap (taken s) (sym is) ∙ takes_own s own.0 in
    let made : mapped_by (is_exclusion spec.mode || is_some (id_named s)) (is_excluded specs source) (Some (completed (with_middle d part))) ≡ Some name =
    ap (λ (o : Option (List ℕ)). mapped_by (is_exclusion spec.mode || is_some (id_named s)) (is_excluded specs source) (option_map (expanded part) o)) (sym to)
    ∙ ap (λ (o : Option (List ℕ)). mapped_by (is_exclusion spec.mode || is_some (source_id o)) (is_excluded specs source) (option_map (expanded part) spec.destination)) (sym from)
    ∙ sym (mapped_is specs spec source part takes) ∙ maps in
    let parts = or_neither (is_exclusion spec.mode || is_some (id_named s)) (is_excluded specs source) (Some (completed (with_middle d part))) name made in
    let lands : completed (with_middle d part) ≡ name = cc in
    let text = with_middle d part in
    let serves : with_middle s (star_part d part) ≡ source =
    ap (λ (t : Bool). with_middle s (cond t part [])) (sym even) ∙ part_serves s part ∙ part_serves s own.0 ∙ is in
    let told : source_given specs spec text ≡ Some source =
    ap (λ (o : Option (List ℕ)). source_to specs spec text o spec.destination) from ∙ ap (λ (o : Option (List ℕ)). source_to specs spec text (Some s) o) to
    ∙ ap (λ (t : Bool). cond t None (option_and_then (λ (m : List ℕ). unless_excluded specs (with_middle s m)) (given d text))) parts.0
    ∙ ap (option_and_then (λ (m : List ℕ). unless_excluded specs (with_middle s m))) (gives_own d part)
    ∙ ap (unless_excluded specs) serves ∙ ap (λ (t : Bool). cond t None (Some source)) parts.1 in
    to_filter_map (source_given specs spec) (forms_of name) text source (form text name lands) told

none_by : (t : Bool) (name : List ℕ) → ◌≡◌ {A = Option (List ℕ)} (cond t None None) (Some name) → ⊥
none_by true name is = cc
none_by false name is = cc

pub told_where_it_leads : (specs : List Spec) (spec : Spec) (name source : List ℕ) → IsSpec spec
    → Contains (sources_leading specs spec name) source ↔ (IsOwnSource spec source × (mapped_to specs spec source ≡ Some name))
told_where_it_leads specs spec name source is = (first spec.source spec.destination refl refl, λ both. second spec.source spec.destination refl refl both.0 both.1)
  where
    no_source : (text : List ℕ) → spec.source ≡ None → source_given specs spec text ≡ None
    no_source text from = ap (λ (o : Option (List ℕ)). source_to specs spec text o spec.destination) from

    no_destination : (text s : List ℕ) → spec.source ≡ Some s → spec.destination ≡ None → source_given specs spec text ≡ None
    no_destination text s from to = ap (λ (o : Option (List ℕ)). source_to specs spec text o spec.destination) from ∙ ap (λ (o : Option (List ℕ)). source_to specs spec text (Some s) o) to

    first : (a b : Option (List ℕ)) → spec.source ≡ a → spec.destination ≡ b → Contains (sources_leading specs spec name) source → IsOwnSource spec source × (mapped_to specs spec source ≡ Some name)
    first None b from to there =
        let w = from_filter_map (source_given specs spec) (forms_of name) source there in
        let e : ◌≡◌ {A = Option (List ℕ)} None (Some source) = sym (no_source w.0 from) ∙ w.2 in
        absurd cc
    first (Some s) None from to there =
        let w = from_filter_map (source_given specs spec) (forms_of name) source there in
        let e : ◌≡◌ {A = Option (List ℕ)} None (Some source) = sym (no_destination w.0 s from to) ∙ w.2 in
        absurd cc
    first (Some s) (Some d) from to there = to_map specs spec name source s d from to ((in_order spec is).balanced s d from to) there

    second : (a b : Option (List ℕ)) → spec.source ≡ a → spec.destination ≡ b → IsOwnSource spec source → mapped_to specs spec source ≡ Some name → Contains (sources_leading specs spec name) source
    second None b from to own maps =
        let e : ◌≡◌ {A = Option (List ℕ)} None (Some source) = ap (option_map (λ (x : List ℕ). with_middle x own.0)) (sym from) ∙ own.1 in
        absurd cc
    second (Some s) None from to own maps =
        let again : Some (with_middle s own.0) ≡ Some source = ap (option_map (λ (x : List ℕ). with_middle x own.0)) (sym from) ∙ own.1 in
        let here : with_middle s own.0 ≡ source = cc in
        let takes : source_taken spec.source source ≡ Some (star_part s own.0) = ap (λ (o : Option (List ℕ)). source_taken o source) from ∙ ap (taken s) (sym here) ∙ takes_own s own.0 in
        absurd (none_by ((is_exclusion spec.mode || is_some (source_id spec.source)) || is_excluded specs source) name
        (ap (λ (o : Option (List ℕ)). mapped_by (is_exclusion spec.mode || is_some (source_id spec.source)) (is_excluded specs source) (option_map (expanded (star_part s own.0)) o)) (sym to)
        ∙ sym (mapped_is specs spec source (star_part s own.0) takes) ∙ maps))
    second (Some s) (Some d) from to own maps = to_tell specs spec name source s d from to ((in_order spec is).balanced s d from to) own maps
