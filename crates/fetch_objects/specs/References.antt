-- What borrows show of an object.
use Rattle.std.specs.Prelude.{List, Option, ◌++◌}
use Rattle.std.specs.List.{filter_map}
use Rattle.std.specs.Option.{option_to_list}
use Rattle.fetch_base.specs.declared.id.ObjectId.{ObjectId}
use Rattle.fetch_objects.specs.declared.object.ObjectRef.{ObjectRef}
use Rattle.fetch_objects.specs.declared.object.Links.{Links}
use Rattle.fetch_objects.specs.declared.parents.Parents.{Parents}
use Rattle.fetch_objects.specs.declared.parents.Parents.TheVariants as parents
use Rattle.fetch_objects.specs.declared.object.Wanted.{Wanted}
use Rattle.fetch_objects.specs.declared.object.Wanted.TheVariants as wanted
use Rattle.fetch_objects.specs.declared.grammar.Part.{Part}
use Rattle.fetch_objects.specs.Objects.{Stored, reading, link_in, parent_in, other_link_in}

-- an object that is lent, as a value
abbrev pub seen : ObjectRef → Stored
seen o = record { hash = o.hash; kind = o.kind; bytes = o.bytes.now }

-- the id of a part, where it is one that is asked for
abbrev pub wanted_id : Wanted → Part → Option ObjectId
wanted_id wanted.Links part = link_in part
wanted_id wanted.Parents part = parent_in part
wanted_id wanted.Others part = other_link_in part

-- the ids that are still to come
abbrev pub ids_left : Links → List ObjectId
ids_left l = filter_map (wanted_id l.wanted) (reading l.hash l.expected l.rest.now).parts

-- the parents that are still to come
abbrev pub parents_left : Parents → List ObjectId
parents_left (parents.Text links) = ids_left links
parents_left (parents.Ids first others) = option_to_list first ++ others.now
