-- A name stays as it is under entries that don't name it.
use Rattle.std.proofs.Common.{◌≡◌, ◌≢◌, ℕ, suc, Bool, true, false, ◌&&◌, not, cond, List, [], ◌∷◌, ◌++◌, Option, Some, None, refl, ap, ◌∙◌}
use Rattle.std.specs.Prelude.{slice_get, find, option_map, if◌then◌else◌, ⊤}
use Rattle.std.specs.Option.{option_or}
use Rattle.std.specs.FinMap.{get}
use Rattle.std.specs.Str.{bytes_eq}
use Rattle.std.proofs.lemmas.Slice.Eq.{bytes_eq-Decides}
use Rattle.fetch_refs.specs.Edits.{refs_after}
use Rattle.fetch_refs.specs.Expectations.{expected_of, fails, holds}
use Rattle.fetch_refs.specs.Laws.{last_that, left_by, mode_of, touches_reference, writes}
use Rattle.fetch_refs.specs.Names.{Names}
use Rattle.fetch_refs.specs.declared.edit.RefEdit.{RefEdit}
use Rattle.fetch_refs.specs.declared.target.Target.{Target}
use Rattle.fetch_refs.proofs.LastEdits.{last_edit}
use Rattle.fetch_journal.specs.Machine.{commit_refusal}
use Rattle.fetch_journal.specs.Replays.{Outline, played, replay}
use Rattle.fetch_journal.specs.declared.entry.Entry.{Entry}
use Rattle.fetch_journal.specs.declared.entry.Entry.TheVariants.{Take, Commit, Delete}

-- no edit is on this name
abbrev pub AreOff : List ℕ → List RefEdit → Type 0
AreOff name edits = (i : ℕ) (e : RefEdit) → slice_get edits i ≡ Some e → name ≢ e.name

other : (name key : List ℕ) (b : Bool) → bytes_eq name key ≡ b → name ≢ key → b ≡ false
other name key false is off = refl
other name key true is off = absurd (off ((bytes_eq-Decides name key).0 is))

none_writes : (name : List ℕ) (edits : List RefEdit) → AreOff name edits → last_that (writes name) edits ≡ None
none_writes name [] off = refl
none_writes name (e ∷ es) off =
    let unnamed : bytes_eq name e.name ≡ false = other name e.name (bytes_eq name e.name) refl (off 0 e refl) in
    ap (λ (o : Option RefEdit). option_or o (if writes name e then Some e else None)) (none_writes name es (λ i x at. off (suc i) x at))
    ∙ ap (λ (b : Bool). if b && touches_reference (mode_of e.change) then Some e else None) unnamed

pub edits_keep : (names : Names) (edits : List RefEdit) (name : List ℕ) → AreOff name edits → get (refs_after names edits) name ≡ get names name
edits_keep names edits name off = last_edit names edits name ∙ ap (left_by (get names name)) (none_writes name edits off)

-- an entry that doesn't name it
abbrev pub IsOff : List ℕ → Entry → Type 0
IsOff name (Take pass ids shallow unshallow) = ⊤
IsOff name (Commit pass edits committer) = AreOff name edits
IsOff name (Delete pass names) = ⊥

plays : (v : Outline) (name : List ℕ) (e : Entry) → IsOff name e → get (played v e).refs.names name ≡ get v.refs.names name
plays v name (Take pass ids shallow unshallow) off = refl
plays v name (Commit pass edits committer) off = edits_keep v.refs.names edits name off
plays v name (Delete pass names) off = absurd off

pub replays : (v : Outline) (name : List ℕ) (entries : List Entry) → ((i : ℕ) (e : Entry) → slice_get entries i ≡ Some e → IsOff name e) → get (replay v entries).refs.names name ≡ get v.refs.names name
replays v name [] off = refl
replays v name (e ∷ es) off = replays (played v e) name es (λ i x at. off (suc i) x at) ∙ plays v name e (off 0 e refl)

pub replay_then : (v : Outline) (xs ys : List Entry) → replay v (xs ++ ys) ≡ replay (replay v xs) ys
replay_then v [] ys = refl
replay_then v (x ∷ xs) ys = replay_then (played v x) xs ys

-- edits that fail nowhere there don't fail here, where what they are on stands alike
fails_as : (names now : Names) (e : RefEdit) → get now e.name ≡ get names e.name → fails now e ≡ fails names e
unfolding fails
fails_as names now e is = ap (λ (o : Option Target). not (holds (expected_of e.change) o)) is

find_as : (names now : Names) (edits : List RefEdit) → ((i : ℕ) (e : RefEdit) → slice_get edits i ≡ Some e → get now e.name ≡ get names e.name) → find (fails now) edits ≡ find (fails names) edits
find_as names now [] same = refl
find_as names now (e ∷ es) same =
    ap (λ (b : Bool). cond b (Some e) (find (fails now) es)) (fails_as names now e (same 0 e refl))
    ∙ ap (λ (o : Option RefEdit). cond (fails names e) (Some e) o) (find_as names now es (λ i x at. same (suc i) x at))

none_found : {X Y : Type 0} (f : X → Y) (o : Option X) → option_map f o ≡ None → o ≡ None
none_found f None is = refl
none_found f (Some x) is = absurd cc

pub still_met : (names now : Names) (edits : List RefEdit) → ((i : ℕ) (e : RefEdit) → slice_get edits i ≡ Some e → get now e.name ≡ get names e.name) → commit_refusal names edits ≡ None → find (fails now) edits ≡ None
still_met names now edits same none = find_as names now edits same ∙ none_found _ (find (fails names) edits) none
