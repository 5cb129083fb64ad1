-- Refusals that have no count.
use Rattle.std.proofs.Common.{◌≡◌, ℕ, Bool, true, false, List, Option, Some, None, refl, ◌∙◌, ap}
use Rattle.std.proofs.lemmas.Bool.{false≢true}
use Rattle.fetch_specs.specs.Specs.{Spec}
use Rattle.fetch_map.specs.declared.mapping.RefMap.{RefMap}
use Rattle.fetch_remote.specs.RepositoryValues.{State}
use Rattle.fetch_clone.specs.Counted.{Meters, IsCounted}
use Rattle.fetch_init.specs.HeadUpdates.{LacksHeadTarget, IsToldAs, told_as}
use Rattle.fetch_clone.specs.Planned.{Answering, IsUnchosen, IsUnnamed, IsUnoverridden}
use Rattle.fetch_clone.specs.Targets.{told_again}
use Rattle.fetch_init.specs.declared.head_target.HeadError.{HeadError}
use Rattle.fetch_init.specs.declared.head_target.HeadError.TheVariants as head_errors
use Rattle.fetch_init.specs.declared.named_ref.RefNameError.TheVariants as ref_name_errors
use Rattle.fetch_init.specs.declared.clone.fetch.Error.{Error}
use Rattle.fetch_init.specs.declared.clone.fetch.Error.TheVariants as errors
use Rattle.fetch_clone.specs.declared.clone_state.CloneState.{CloneState}

-- whether no refusal of this kind has a count
abbrev pub is_uncounted : Error → Bool
is_uncounted (errors.Connect x) = false
is_uncounted (errors.RefMap x) = false
is_uncounted (errors.LoadConfig x) = false
is_uncounted errors.SaveConfigIo = false
is_uncounted (errors.PrepareFetch x) = false
is_uncounted (errors.ReopenWithObjectHash x) = false
is_uncounted (errors.Fetch x) = false
is_uncounted e = true

pub uncounted : (was is : Meters) (e : Error) → is_uncounted e ≡ true → IsCounted was is e
uncounted was is errors.Consumed h = tt
uncounted was is (errors.ParseConfig x) h = tt
uncounted was is (errors.RemoteName x) h = tt
uncounted was is (errors.Connect x) h = absurd (false≢true h)
uncounted was is (errors.RemoteConnection x) h = tt
uncounted was is (errors.RefMap x) h = absurd (false≢true h)
uncounted was is (errors.RefNameMissing x) h = tt
uncounted was is (errors.RefNameAmbiguous x y) h = tt
uncounted was is (errors.InvalidHeadRef x) h = tt
uncounted was is (errors.ReferenceName x) h = tt
uncounted was is (errors.RemoteConfiguration x) h = tt
uncounted was is (errors.SaveConfig x) h = tt
uncounted was is (errors.LoadConfig x) h = absurd (false≢true h)
uncounted was is errors.SaveConfigIo h = absurd (false≢true h)
uncounted was is (errors.PrepareFetch x) h = absurd (false≢true h)
uncounted was is (errors.RevisionMissing x) h = tt
uncounted was is (errors.ReopenWithObjectHash x) h = absurd (false≢true h)
uncounted was is (errors.Fetch x) h = absurd (false≢true h)
uncounted was is (errors.FindRevision x) h = tt
uncounted was is (errors.PeelRevision x) h = tt
uncounted was is errors.NoMemory h = tt

-- ---- overrides, names and closures

pub override-uncounted : (texts : List (List ℕ)) (e : Error) → IsUnoverridden texts e → is_uncounted e ≡ true
override-uncounted texts errors.Consumed h = refl
override-uncounted texts (errors.ParseConfig x) h = refl
override-uncounted texts (errors.RemoteName x) h = refl
override-uncounted texts (errors.Connect x) h = absurd h
override-uncounted texts (errors.RemoteConnection x) h = refl
override-uncounted texts (errors.RefMap x) h = absurd h
override-uncounted texts (errors.RefNameMissing x) h = refl
override-uncounted texts (errors.RefNameAmbiguous x y) h = refl
override-uncounted texts (errors.InvalidHeadRef x) h = refl
override-uncounted texts (errors.ReferenceName x) h = refl
override-uncounted texts (errors.RemoteConfiguration x) h = refl
override-uncounted texts (errors.SaveConfig x) h = refl
override-uncounted texts (errors.LoadConfig x) h = absurd h
override-uncounted texts errors.SaveConfigIo h = absurd h
override-uncounted texts (errors.PrepareFetch x) h = absurd h
override-uncounted texts (errors.RevisionMissing x) h = refl
override-uncounted texts (errors.ReopenWithObjectHash x) h = absurd h
override-uncounted texts (errors.Fetch x) h = absurd h
override-uncounted texts (errors.FindRevision x) h = refl
override-uncounted texts (errors.PeelRevision x) h = refl
override-uncounted texts errors.NoMemory h = refl

pub name-uncounted : (name : List ℕ) (e : Error) → IsUnnamed name e → is_uncounted e ≡ true
name-uncounted name errors.Consumed h = refl
name-uncounted name (errors.ParseConfig x) h = refl
name-uncounted name (errors.RemoteName x) h = refl
name-uncounted name (errors.Connect x) h = absurd h
name-uncounted name (errors.RemoteConnection x) h = refl
name-uncounted name (errors.RefMap x) h = absurd h
name-uncounted name (errors.RefNameMissing x) h = refl
name-uncounted name (errors.RefNameAmbiguous x y) h = refl
name-uncounted name (errors.InvalidHeadRef x) h = refl
name-uncounted name (errors.ReferenceName x) h = refl
name-uncounted name (errors.RemoteConfiguration x) h = refl
name-uncounted name (errors.SaveConfig x) h = refl
name-uncounted name (errors.LoadConfig x) h = absurd h
name-uncounted name errors.SaveConfigIo h = absurd h
name-uncounted name (errors.PrepareFetch x) h = absurd h
name-uncounted name (errors.RevisionMissing x) h = refl
name-uncounted name (errors.ReopenWithObjectHash x) h = absurd h
name-uncounted name (errors.Fetch x) h = absurd h
name-uncounted name (errors.FindRevision x) h = refl
name-uncounted name (errors.PeelRevision x) h = refl
name-uncounted name errors.NoMemory h = refl

pub choice-uncounted : (answers : Answering) (draft : CloneState) (name : List ℕ) (target : Option (List ℕ)) (e : Error) → IsUnchosen answers draft name target e → is_uncounted e ≡ true
choice-uncounted answers draft name target errors.Consumed h = refl
choice-uncounted answers draft name target (errors.ParseConfig x) h = refl
choice-uncounted answers draft name target (errors.RemoteName x) h = refl
choice-uncounted answers draft name target (errors.Connect x) h = absurd h
choice-uncounted answers draft name target (errors.RemoteConnection x) h = refl
choice-uncounted answers draft name target (errors.RefMap x) h = absurd h
choice-uncounted answers draft name target (errors.RefNameMissing x) h = refl
choice-uncounted answers draft name target (errors.RefNameAmbiguous x y) h = refl
choice-uncounted answers draft name target (errors.InvalidHeadRef x) h = refl
choice-uncounted answers draft name target (errors.ReferenceName x) h = refl
choice-uncounted answers draft name target (errors.RemoteConfiguration x) h = refl
choice-uncounted answers draft name target (errors.SaveConfig x) h = refl
choice-uncounted answers draft name target (errors.LoadConfig x) h = absurd h
choice-uncounted answers draft name target errors.SaveConfigIo h = absurd h
choice-uncounted answers draft name target (errors.PrepareFetch x) h = absurd h
choice-uncounted answers draft name target (errors.RevisionMissing x) h = refl
choice-uncounted answers draft name target (errors.ReopenWithObjectHash x) h = absurd h
choice-uncounted answers draft name target (errors.Fetch x) h = absurd h
choice-uncounted answers draft name target (errors.FindRevision x) h = refl
choice-uncounted answers draft name target (errors.PeelRevision x) h = refl
choice-uncounted answers draft name target errors.NoMemory h = refl

-- ---- what is aimed at

told-uncounted : (ref_name : Option (List ℕ)) (revision : Option Spec) (cause : HeadError) → is_uncounted (told_as ref_name revision cause) ≡ true
told-uncounted None revision (head_errors.Name ref_name_errors.Missing) = refl
told-uncounted (Some n) revision (head_errors.Name ref_name_errors.Missing) = refl
told-uncounted None revision (head_errors.Name (ref_name_errors.Ambiguous cs)) = refl
told-uncounted (Some n) revision (head_errors.Name (ref_name_errors.Ambiguous cs)) = refl
told-uncounted ref_name revision (head_errors.Name ref_name_errors.NoMemory) = refl
told-uncounted ref_name revision (head_errors.InvalidHead name) = refl
told-uncounted ref_name revision head_errors.Revision = refl
told-uncounted ref_name revision (head_errors.Find id) = refl
told-uncounted ref_name revision (head_errors.Peel id) = refl
told-uncounted ref_name revision head_errors.NoMemory = refl

pub same-uncounted : (ref_name : Option (List ℕ)) (revision : Option Spec) (cause : HeadError) (e : Error) → e ≡ told_as ref_name revision cause → is_uncounted e ≡ true
same-uncounted ref_name revision cause e h = ap is_uncounted h ∙ told-uncounted ref_name revision cause

pub told-as-uncounted : (ref_name : Option (List ℕ)) (revision : Option Spec) (cause : HeadError) (e : Error) → IsToldAs ref_name revision cause e → is_uncounted e ≡ true
told-as-uncounted ref_name revision cause errors.Consumed h = refl
told-as-uncounted ref_name revision cause (errors.ParseConfig x) h = refl
told-as-uncounted ref_name revision cause (errors.RemoteName x) h = refl
told-as-uncounted ref_name revision cause (errors.Connect x) h = same-uncounted ref_name revision cause (errors.Connect x) h
told-as-uncounted ref_name revision cause (errors.RemoteConnection x) h = refl
told-as-uncounted ref_name revision cause (errors.RefMap x) h = same-uncounted ref_name revision cause (errors.RefMap x) h
told-as-uncounted ref_name revision cause (errors.RefNameMissing x) h = refl
told-as-uncounted ref_name revision cause (errors.RefNameAmbiguous x y) h = refl
told-as-uncounted ref_name revision cause (errors.InvalidHeadRef x) h = refl
told-as-uncounted ref_name revision cause (errors.ReferenceName x) h = refl
told-as-uncounted ref_name revision cause (errors.RemoteConfiguration x) h = refl
told-as-uncounted ref_name revision cause (errors.SaveConfig x) h = refl
told-as-uncounted ref_name revision cause (errors.LoadConfig x) h = same-uncounted ref_name revision cause (errors.LoadConfig x) h
told-as-uncounted ref_name revision cause errors.SaveConfigIo h = absurd h
told-as-uncounted ref_name revision cause (errors.PrepareFetch x) h = same-uncounted ref_name revision cause (errors.PrepareFetch x) h
told-as-uncounted ref_name revision cause (errors.RevisionMissing x) h = refl
told-as-uncounted ref_name revision cause (errors.ReopenWithObjectHash x) h = same-uncounted ref_name revision cause (errors.ReopenWithObjectHash x) h
told-as-uncounted ref_name revision cause (errors.Fetch x) h = same-uncounted ref_name revision cause (errors.Fetch x) h
told-as-uncounted ref_name revision cause (errors.FindRevision x) h = refl
told-as-uncounted ref_name revision cause (errors.PeelRevision x) h = refl
told-as-uncounted ref_name revision cause errors.NoMemory h = refl

pub head_target-uncounted : (s : State) (map : RefMap) (ref_name : Option (List ℕ)) (revision : Option Spec) (e : Error) → LacksHeadTarget s map ref_name revision e → is_uncounted e ≡ true
head_target-uncounted s map ref_name revision errors.Consumed h = refl
head_target-uncounted s map ref_name revision (errors.ParseConfig x) h = refl
head_target-uncounted s map ref_name revision (errors.RemoteName x) h = refl
head_target-uncounted s map ref_name revision (errors.Connect x) h = same-uncounted ref_name revision h.cause (errors.Connect x) h.as_told
head_target-uncounted s map ref_name revision (errors.RemoteConnection x) h = refl
head_target-uncounted s map ref_name revision (errors.RefMap x) h = same-uncounted ref_name revision h.cause (errors.RefMap x) h.as_told
head_target-uncounted s map ref_name revision (errors.RefNameMissing x) h = refl
head_target-uncounted s map ref_name revision (errors.RefNameAmbiguous x y) h = refl
head_target-uncounted s map ref_name revision (errors.InvalidHeadRef x) h = refl
head_target-uncounted s map ref_name revision (errors.ReferenceName x) h = refl
head_target-uncounted s map ref_name revision (errors.RemoteConfiguration x) h = refl
head_target-uncounted s map ref_name revision (errors.SaveConfig x) h = refl
head_target-uncounted s map ref_name revision (errors.LoadConfig x) h = same-uncounted ref_name revision h.cause (errors.LoadConfig x) h.as_told
head_target-uncounted s map ref_name revision errors.SaveConfigIo h = absurd h
head_target-uncounted s map ref_name revision (errors.PrepareFetch x) h = same-uncounted ref_name revision h.cause (errors.PrepareFetch x) h.as_told
head_target-uncounted s map ref_name revision (errors.RevisionMissing x) h = refl
head_target-uncounted s map ref_name revision (errors.ReopenWithObjectHash x) h = same-uncounted ref_name revision h.cause (errors.ReopenWithObjectHash x) h.as_told
head_target-uncounted s map ref_name revision (errors.Fetch x) h = same-uncounted ref_name revision h.cause (errors.Fetch x) h.as_told
head_target-uncounted s map ref_name revision (errors.FindRevision x) h = refl
head_target-uncounted s map ref_name revision (errors.PeelRevision x) h = refl
head_target-uncounted s map ref_name revision errors.NoMemory h = refl

again : (is_named : Bool) (e : Error) → is_uncounted e ≡ true → is_uncounted (told_again is_named e) ≡ true
again true errors.Consumed h = h
again false errors.Consumed h = h
again true (errors.ParseConfig x) h = h
again false (errors.ParseConfig x) h = h
again true (errors.RemoteName x) h = h
again false (errors.RemoteName x) h = h
again true (errors.Connect x) h = h
again false (errors.Connect x) h = h
again true (errors.RemoteConnection x) h = h
again false (errors.RemoteConnection x) h = h
again true (errors.RefMap x) h = h
again false (errors.RefMap x) h = h
again true (errors.RefNameMissing x) h = h
again false (errors.RefNameMissing x) h = h
again true (errors.RefNameAmbiguous x y) h = h
again false (errors.RefNameAmbiguous x y) h = h
again true (errors.InvalidHeadRef x) h = refl
again false (errors.InvalidHeadRef x) h = h
again true (errors.ReferenceName x) h = h
again false (errors.ReferenceName x) h = h
again true (errors.RemoteConfiguration x) h = h
again false (errors.RemoteConfiguration x) h = h
again true (errors.SaveConfig x) h = h
again false (errors.SaveConfig x) h = h
again true (errors.LoadConfig x) h = h
again false (errors.LoadConfig x) h = h
again true errors.SaveConfigIo h = h
again false errors.SaveConfigIo h = h
again true (errors.PrepareFetch x) h = h
again false (errors.PrepareFetch x) h = h
again true (errors.RevisionMissing x) h = h
again false (errors.RevisionMissing x) h = h
again true (errors.ReopenWithObjectHash x) h = h
again false (errors.ReopenWithObjectHash x) h = h
again true (errors.Fetch x) h = h
again false (errors.Fetch x) h = h
again true (errors.FindRevision x) h = h
again false (errors.FindRevision x) h = h
again true (errors.PeelRevision x) h = h
again false (errors.PeelRevision x) h = h
again true errors.NoMemory h = h
again false errors.NoMemory h = h

pub target-uncounted : (s : State) (map : RefMap) (ref_name : Option (List ℕ)) (is_named : Bool) (cause e : Error) → LacksHeadTarget s map ref_name None cause → e ≡ told_again is_named cause → is_uncounted e ≡ true
target-uncounted s map ref_name is_named cause e h is = ap is_uncounted is ∙ again is_named cause (head_target-uncounted s map ref_name None cause h)
