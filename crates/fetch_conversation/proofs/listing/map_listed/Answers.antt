use Rattle.std.proofs.Common.{◌≡◌, false, List, [], ◌++◌, length, map, Some, Ok, Err, refl, ap, ◌∙◌, subst}
use Rattle.std.proofs.lemmas.Result.{err_from_is_err_and}
use Rattle.fetch_specs.specs.Conflicts.{conflicts_of}
use Rattle.fetch_specs.specs.Matches.{mappings_of}
use Rattle.fetch_specs.specs.Specs.{Spec}
use Rattle.fetch_specs.specs.declared.conflict.Conflict.{Conflict}
use Rattle.fetch_lines.specs.References.{name_in}
use Rattle.fetch_wire.specs.SessionStates.{SessionState}
use Rattle.fetch_lines.specs.declared.greetings.handshake.Handshake.{Handshake}
use Rattle.fetch_map.specs.declared.mapping.Mapping.{Mapping}
use Rattle.fetch_map.specs.declared.mapping.RefMap.{RefMap}
use Rattle.fetch_lines.specs.declared.listings.reference.Ref.{Ref}
use Rattle.fetch_conversation.specs.Errors.{is_free_listing, is_transport, is_interrupted, prepare_of}
use Rattle.fetch_conversation.specs.Listing.{TellsConflicts, found_in}
use Rattle.fetch_conversation.specs.ListStage.{LsRefsValue, all_specs, extra_specs, map_of}
use Rattle.fetch_conversation.specs.Mapped.{ref_mappings}
use Rattle.fetch_conversation.specs.declared.ref_map.Error.{Error as MapError}
use Rattle.fetch_conversation.specs.declared.ref_map.Error.TheVariants as ref_map
use Rattle.fetch_conversation.proofs.Listings.{mapped_clear, mapped_refused}
use Rattle.fetch_conversation.proofs.listing.map_listed.Goals as goal

refused_by : (q : LsRefsValue) (s : SessionState) (h : Handshake) (refs : List Ref) (specs : List Spec) (e : MapError) → (s.handshake ≡ Some h) × (s.refs ≡ Some refs) → specs ≡ all_specs q
    → TellsConflicts (conflicts_of (mappings_of specs (map name_in refs) h.object_hash)) e → is_free_listing (prepare_of e) ≡ false → found_in q s.handshake s.refs ≡ Err (prepare_of e)
refused_by q s h refs specs e told all refused isnt =
    rw (told.0, told.1) (mapped_refused q h refs e (subst (λ (l : List Spec). TellsConflicts (conflicts_of (mappings_of l (map name_in refs) h.object_hash)) e) all refused) isnt)

map_is : (q : LsRefsValue) (h : Handshake) (refs : List Ref) (specs own extra : List Spec) (mappings : List Mapping) → specs ≡ all_specs q → mappings ≡ ref_mappings (length q.specs) specs h.object_hash refs → own ≡ q.specs → extra ≡ extra_specs q
    → map_of q h refs ≡ record { mappings = mappings; refspecs = own; extra_refspecs = extra; remote_refs = refs; object_hash = h.object_hash }
map_is q h refs specs own extra mappings all mapped o e = rw (mapped, all, o, e) refl

found_by : (q : LsRefsValue) (s : SessionState) (h : Handshake) (refs : List Ref) (specs own extra : List Spec) (mappings : List Mapping) → (s.handshake ≡ Some h) × (s.refs ≡ Some refs) → specs ≡ all_specs q
    → conflicts_of (mappings_of specs (map name_in refs) h.object_hash) ≡ [] → mappings ≡ ref_mappings (length q.specs) specs h.object_hash refs → own ≡ q.specs → extra ≡ extra_specs q
    → found_in q s.handshake s.refs ≡ Ok (record { ref_map = record { mappings = mappings; refspecs = own; extra_refspecs = extra; remote_refs = refs; object_hash = h.object_hash }; handshake = h })
found_by q s h refs specs own extra mappings told all clear mapped o e =
    let no : conflicts_of (mappings_of (all_specs q) (map name_in refs) h.object_hash) ≡ [] = subst (λ (l : List Spec). conflicts_of (mappings_of l (map name_in refs) h.object_hash) ≡ []) all clear in
    rw (told.0, told.1) (mapped_clear q h refs no ∙ ap (λ (m : RefMap). Ok (record { ref_map = m; handshake = h })) (map_is q h refs specs own extra mappings all mapped o e))

-- none of it is a fault of the peer, nor a yes of the interrupt
map_heard : (conflicts : List Conflict) (e : MapError) → TellsConflicts conflicts e → is_transport (prepare_of e) ≡ false
map_heard conflicts (ref_map.Handshake e) h = absurd h
map_heard conflicts ref_map.Transport h = absurd h
map_heard conflicts ref_map.Interrupted h = absurd h
map_heard conflicts (ref_map.InitRefMap found) h = refl
map_heard conflicts ref_map.NoMemory h = refl

map_uninterrupted : (conflicts : List Conflict) (e : MapError) → TellsConflicts conflicts e → is_interrupted (prepare_of e) ≡ false
map_uninterrupted conflicts (ref_map.Handshake e) h = absurd h
map_uninterrupted conflicts ref_map.Transport h = absurd h
map_uninterrupted conflicts ref_map.Interrupted h = absurd h
map_uninterrupted conflicts (ref_map.InitRefMap found) h = refl
map_uninterrupted conflicts ref_map.NoMemory h = refl

pub returns-in_err-mappings-clause-heard : goal.returns-in_err-mappings-clause-heard
returns-in_err-mappings-clause-heard c =
    let p = err_from_is_err_and c.from_residual-in_err-mappings.result c.from_residual-in_err-mappings.ensures.1 in
    rw (p.1, p.2) (map_heard (conflicts_of (mappings_of c.args.specs.now (map name_in c.as_slice.result.now) c.in_ok-handshake.handshake.object_hash)) c.in_err-mappings.field-0.0 c.in_err-mappings.ensures.refused)

pub returns-in_err-mappings-clause-uninterrupted : goal.returns-in_err-mappings-clause-uninterrupted
returns-in_err-mappings-clause-uninterrupted c =
    let p = err_from_is_err_and c.from_residual-in_err-mappings.result c.from_residual-in_err-mappings.ensures.1 in
    rw (p.1, p.2) (map_uninterrupted (conflicts_of (mappings_of c.args.specs.now (map name_in c.as_slice.result.now) c.in_ok-handshake.handshake.object_hash)) c.in_err-mappings.field-0.0 c.in_err-mappings.ensures.refused)

-- src/listing.rt:110:20
pub returns-in_err-mappings-clause-answer : goal.returns-in_err-mappings-clause-answer
returns-in_err-mappings-clause-answer c =
    let q : LsRefsValue = record { address = c.args.query.now.address.now; agent = c.args.query.now.agent.now; specs = c.args.query.now.specs.now; tags = c.args.query.now.tags; options = c.args.options.now } in
    let p = err_from_is_err_and c.from_residual-in_err-mappings.result c.from_residual-in_err-mappings.ensures.1 in
    let all : c.args.specs.now ≡ all_specs q = c.requires.specs ∙ ap (λ (l : List Spec). q.specs ++ l) c.requires.extra in
    let r = rw c.as_slice.ensures at c.in_err-mappings.ensures.refused in
    rw (p.1, p.2) (refused_by q c.args.session c.in_ok-handshake.handshake c.in_ok-handshake.refs c.args.specs.now c.in_err-mappings.field-0.0 c.in_ok-handshake.ensures.told all r)

-- src/listing.rt:92:1
pub returns-clause-answer : goal.returns-clause-answer
returns-clause-answer c =
    let q : LsRefsValue = record { address = c.args.query.now.address.now; agent = c.args.query.now.agent.now; specs = c.args.query.now.specs.now; tags = c.args.query.now.tags; options = c.args.options.now } in
    let all : c.args.specs.now ≡ all_specs q = c.requires.specs ∙ ap (λ (l : List Spec). q.specs ++ l) c.requires.extra in
    let m = rw c.as_slice.ensures at c.in_ok-mappings.ensures.mapped in
    let n = rw c.as_slice.ensures at c.in_ok-mappings.ensures.clear in (
      found_by q c.args.session c.in_ok-handshake.handshake c.in_ok-handshake.refs c.args.specs.now c.from-2.result c.from-3.result c.from.result c.in_ok-handshake.ensures.told all n
          (c.from.ensures ∙ m) (c.from-2.ensures ∙ c.in_ok-copied_specs.ensures) (c.from-3.ensures ∙ c.requires.extra),
      c.told.ensures.left,
    )
