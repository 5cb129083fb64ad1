-- The links that are missing, in the order in which they are told.
use Rattle.std.specs.Prelude.{not, List, [], ◌++◌, map, filter, flat_map}
use Rattle.std.specs.Option.{option_map_or}
use Rattle.std.specs.FinMap as fin
use Rattle.fetch_base.specs.declared.id.ObjectId.{ObjectId}
use Rattle.fetch_store.specs.Stores.{ObjectMap, Entries}
use Rattle.fetch_store.specs.declared.missing.Missing.{Missing}
use Rattle.fetch_store.specs.Borders.{IdSet, ids_of}
use Rattle.fetch_store.specs.Closed.{Holding, is_commit, links_within, links_at, parents}
use Rattle.fetch_store.specs.Honest.{Pack, taken}

-- this link
abbrev pub missing_link : ObjectId → ObjectId → Missing
missing_link from to = record { from = from; to = to }

-- the links of these that aren't stored
abbrev pub unstored : ObjectMap → ObjectId → List ObjectId → List Missing
unstored objects from ids = map (missing_link from) (filter (λ to. not (fin.contains_key objects to)) ids)

-- the parents of what is stored at an id
abbrev pub parents_at : ObjectMap → ObjectId → List ObjectId
parents_at objects id = option_map_or parents (fin.get objects id) []

-- those that aren't stored
abbrev pub unheld_in : ObjectMap → List ObjectId → List Missing
unheld_in objects ids = map (λ id. missing_link id id) (filter (λ id. not (fin.contains_key objects id)) ids)

-- links of these objects, parents of border commits aside
abbrev pub unlinked_in : ObjectMap → IdSet → Entries → List Missing
unlinked_in objects border es = flat_map (λ e. unstored objects e.0 (links_within border e.0 e.1)) es

-- those that are no stored commits
abbrev pub unknown_in : ObjectMap → List ObjectId → List Missing
unknown_in objects ids = map (λ id. missing_link id id) (filter (λ id. not (is_commit (fin.get objects id))) ids)

-- parents of stored commits
abbrev pub orphaned_in : ObjectMap → List ObjectId → List Missing
orphaned_in objects ids = flat_map (λ id. unstored objects id (parents_at objects id)) ids

-- the links of a pack's objects that lead to nothing
abbrev pub unlinked : Holding → Pack → List Missing
unlinked h pack = unlinked_in h.objects h.border pack.objects

-- the shallow lines that name no commit
abbrev pub unknown : Holding → Pack → List Missing
unknown h pack = unknown_in h.objects pack.shallow

-- the unshallow lines whose commits would lack a parent
abbrev pub orphaned : Holding → Pack → List Missing
orphaned h pack = orphaned_in h.objects pack.unshallow

-- of a pack, over what is held with it: first links, then shallow lines, then unshallow lines
abbrev pub unconnected : Holding → Pack → List Missing
unconnected h pack = unlinked h pack ++ unknown h pack ++ orphaned h pack

-- what is missing once a pack is taken for these wants: first wants, then what the pack leaves
abbrev pub missing : Holding → List ObjectId → Pack → List Missing
missing h wants pack = unheld_in (taken h pack).objects wants ++ unconnected (taken h pack) pack

-- what keeps a repository from being closed: links of what is stored, then border ids that are no stored commits
abbrev pub unclosed : Holding → List Missing
unclosed h = flat_map (λ id. unstored h.objects id (links_at h id)) (fin.keys h.objects) ++ unknown_in h.objects (ids_of h.border)
