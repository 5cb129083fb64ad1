-- What holds of each link holds of each parent, and of each other link; and the reverse.
use Rattle.std.proofs.Common.{List, [], ◌∷◌, All, filter_map}
use Rattle.std.specs.List.{AllByRecursion}
use Rattle.std.proofs.lemmas.List.Elements.{recursion_from_All, All-from_recursion}
use Rattle.fetch_base.specs.declared.id.ObjectId.{ObjectId}
use Rattle.fetch_objects.specs.declared.grammar.Part.{Part}
use Rattle.fetch_objects.specs.declared.grammar.Part.TheVariants.{Tree, Parent, Author, Committer, Entry, Submodule, Tagged, TaggedKind}
use Rattle.fetch_objects.specs.Objects.{Stored, reading_of, link_in, parent_in, other_link_in, links_of, parents_of, others_of}

abbrev parts_of : Stored → List Part
parts_of o = (reading_of o.hash o.kind o.bytes).parts

module _ (P : ObjectId → Type 0) where
  fewer : (ps : List Part) → AllByRecursion P (filter_map link_in ps) → AllByRecursion P (filter_map other_link_in ps)
  fewer [] h = tt
  fewer (Tree id ∷ ps) h = (h.0, fewer ps h.1)
  fewer (Parent id ∷ ps) h = fewer ps h.1
  fewer (Author ∷ ps) h = fewer ps h
  fewer (Committer s ∷ ps) h = fewer ps h
  fewer (Entry id ∷ ps) h = (h.0, fewer ps h.1)
  fewer (Submodule ∷ ps) h = fewer ps h
  fewer (Tagged id ∷ ps) h = (h.0, fewer ps h.1)
  fewer (TaggedKind k ∷ ps) h = fewer ps h

  both : (ps : List Part) → AllByRecursion P (filter_map other_link_in ps) → AllByRecursion P (filter_map parent_in ps) → AllByRecursion P (filter_map link_in ps)
  both [] h k = tt
  both (Tree id ∷ ps) h k = (h.0, both ps h.1 k)
  both (Parent id ∷ ps) h k = (k.0, both ps h k.1)
  both (Author ∷ ps) h k = both ps h k
  both (Committer s ∷ ps) h k = both ps h k
  both (Entry id ∷ ps) h k = (h.0, both ps h.1 k)
  both (Submodule ∷ ps) h k = both ps h k
  both (Tagged id ∷ ps) h k = (h.0, both ps h.1 k)
  both (TaggedKind s ∷ ps) h k = both ps h k

  onlyparents : (ps : List Part) → AllByRecursion P (filter_map link_in ps) → AllByRecursion P (filter_map parent_in ps)
  onlyparents [] h = tt
  onlyparents (Tree id ∷ ps) h = onlyparents ps h.1
  onlyparents (Parent id ∷ ps) h = (h.0, onlyparents ps h.1)
  onlyparents (Author ∷ ps) h = onlyparents ps h
  onlyparents (Committer s ∷ ps) h = onlyparents ps h
  onlyparents (Entry id ∷ ps) h = onlyparents ps h.1
  onlyparents (Submodule ∷ ps) h = onlyparents ps h
  onlyparents (Tagged id ∷ ps) h = onlyparents ps h.1
  onlyparents (TaggedKind k ∷ ps) h = onlyparents ps h

  pub others_from_links : (o : Stored) → All P (links_of o.hash o.kind o.bytes) → All P (others_of o.hash o.kind o.bytes)
  others_from_links o h = All-from_recursion P _ (fewer (parts_of o) (recursion_from_All P _ h))

  pub parents_from_links : (o : Stored) → All P (links_of o.hash o.kind o.bytes) → All P (parents_of o.hash o.kind o.bytes)
  parents_from_links o h = All-from_recursion P _ (onlyparents (parts_of o) (recursion_from_All P _ h))

  pub links_from_both : (o : Stored) → All P (others_of o.hash o.kind o.bytes) → All P (parents_of o.hash o.kind o.bytes) → All P (links_of o.hash o.kind o.bytes)
  links_from_both o h k = All-from_recursion P _ (both (parts_of o) (recursion_from_All P _ h) (recursion_from_All P _ k))
