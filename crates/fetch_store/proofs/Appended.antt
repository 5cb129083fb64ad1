-- What a loop over objects puts after nodes.
use Rattle.std.proofs.Common.{◌≡◌, ℕ, ◌+◌, ◌<◌, Bool, true, false, cond, not, List, [], ◌∷◌, ◌++◌, length, take, get_or, append_assoc, sym, ap, ◌∙◌}
use Rattle.std.proofs.lemmas.List.{append-nil, map-append}
use Rattle.std.proofs.lemmas.List.Elements.{filter_more}
use Rattle.fetch_base.specs.declared.id.ObjectId.{ObjectId}
use Rattle.fetch_objects.specs.Objects.{Stored}
use Rattle.fetch_store.specs.Stores.{Entries}
use Rattle.fetch_store.specs.Graph.{Node, node_of}
use Rattle.fetch_store.proofs.Extended.{new_of}
use Rattle.fetch_store.proofs.Graphs.{nodes}

-- after ns stand the nodes of the first i entries whose ids aren't known; the entry at i is e
module _ (known : ObjectId → Bool) (ns ms : List (ObjectId × Node)) (es : Entries) (i : ℕ) (e : ObjectId × Stored) (lt : i < length es) (is : e ≡ get_or es i e) (so_far : ms ≡ ns ++ nodes (new_of known (take i es))) where
  at_one : (b : Bool) → known e.0 ≡ b → new_of known (take (i + 1) es) ≡ new_of known (take i es) ++ cond (not b) (e ∷ []) []
  at_one b test =
      filter_more (λ (x : ObjectId × Stored). not (known x.0)) es i e lt ∙ ap (λ (x : ObjectId × Stored). new_of known (take i es) ++ cond (not (known x.0)) (x ∷ []) []) (sym is)
      ∙ ap (λ b. new_of known (take i es) ++ cond (not b) (e ∷ []) []) test

  pub passed_known : known e.0 ≡ true → ms ≡ ns ++ nodes (new_of known (take (i + 1) es))
  passed_known test = so_far ∙ ap (λ (xs : Entries). ns ++ nodes xs) (sym (at_one true test ∙ append-nil (new_of known (take i es))))

  pub appended_node : known e.0 ≡ false → (n : Node) (vs : List (ObjectId × Node)) → n ≡ node_of e.1 → vs ≡ ms ++ (e.0, n) ∷ [] → vs ≡ ns ++ nodes (new_of known (take (i + 1) es))
  appended_node test n vs made pushed =
      pushed ∙ ap (λ (x : Node). ms ++ (e.0, x) ∷ []) made ∙ ap (λ (xs : List (ObjectId × Node)). xs ++ (e.0, node_of e.1) ∷ []) so_far
      ∙ append_assoc ns (nodes (new_of known (take i es))) ((e.0, node_of e.1) ∷ [])
      ∙ ap (λ (xs : List (ObjectId × Node)). ns ++ xs) (sym (map-append (λ (x : ObjectId × Stored). (x.0, node_of x.1)) (new_of known (take i es)) (e ∷ [])))
      ∙ ap (λ (xs : Entries). ns ++ nodes xs) (sym (at_one false test))

-- the node of the first of those that are left is put after ns
pub appended_first : (ns vs all : List (ObjectId × Node)) (es rest : Entries) (id : ObjectId) (o : Stored) (n : Node) → es ≡ (id, o) ∷ rest → n ≡ node_of o → vs ≡ ns ++ (id, n) ∷ [] → ns ++ nodes es ≡ all → vs ++ nodes rest ≡ all
appended_first ns vs all es rest id o n first made pushed before =
    ap (λ (xs : List (ObjectId × Node)). xs ++ nodes rest) pushed ∙ append_assoc ns ((id, n) ∷ []) (nodes rest) ∙ ap (λ (x : Node). ns ++ (id, x) ∷ nodes rest) made
    ∙ ap (λ (xs : Entries). ns ++ nodes xs) (sym first) ∙ before
