-- Targets and log lines as data that a model may keep.
use Rattle.std.specs.Prelude.{◌≡◌, ℕ, ℤ, ◌⊎◌, List, refl}
use Rattle.std.proofs.Common.{inl, inr}
use Rattle.std.specs.Coded.{Coded, code_by, coded_ℕ, coded_ℤ, coded_list, coded×, coded⊎}
use Rattle.fetch_base.specs.declared.id.ObjectId.{ObjectId}
use Rattle.fetch_objects.specs.Codes.{coded_id}
use Rattle.fetch_refs.specs.declared.target.Target.{Target}
use Rattle.fetch_refs.specs.declared.target.Target.TheVariants.{Object, Symbolic}
use Rattle.fetch_refs.specs.declared.log.Signature.{Signature}
use Rattle.fetch_refs.specs.declared.log.LogLine.{LogLine}

abbrev coded_text : Coded (List ℕ)
coded_text = coded_list coded_ℕ

abbrev split : Target → ObjectId ⊎ List ℕ
split (Object id) = inl id
split (Symbolic name) = inr name

abbrev join : ObjectId ⊎ List ℕ → Target
join (inl id) = Object id
join (inr name) = Symbolic name

-- a target is put together as it was taken apart
pub join-split : (t : Target) → join (split t) ≡ t
join-split (Object id) = refl
join-split (Symbolic name) = refl

-- a target, coded
abbrev pub coded_target : Coded Target
coded_target = code_by (ObjectId ⊎ List ℕ) (coded⊎ coded_id coded_text) split join join-split

-- a signature, coded
abbrev pub coded_signature : Coded Signature
coded_signature =
    code_by (List ℕ × (List ℕ × (ℕ × ℤ))) (coded× coded_text (coded× coded_text (coded× coded_ℕ coded_ℤ)))
    (λ s. (s.name, (s.email, (s.seconds, s.offset_minutes))))
    (λ p. record { name = p.0; email = p.1.0; seconds = p.1.1.0; offset_minutes = p.1.1.1 }) (λ _. refl)

-- a line of a reflog, coded
abbrev pub coded_line : Coded LogLine
coded_line =
    code_by (ObjectId × (ObjectId × (Signature × List ℕ))) (coded× coded_id (coded× coded_id (coded× coded_signature coded_text)))
    (λ l. (l.old, (l.new, (l.committer, l.message))))
    (λ p. record { old = p.0; new = p.1.0; committer = p.1.1.0; message = p.1.1.1 }) (λ _. refl)
