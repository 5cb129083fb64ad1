-- What packs leave missing.
use Rattle.std.proofs.Common.{◌≡◌, Bool, true, false, List, [], get_or, Contains, All, ⊎_elim, inl, inr, arith}
use Rattle.std.specs.Prelude.{if◌then◌else◌}
use Rattle.std.specs.FinSet as set
use Rattle.std.proofs.lemmas.List.Elements.{All-weaker}
use Rattle.fetch_base.specs.declared.id.ObjectId.{ObjectId}
use Rattle.fetch_objects.specs.Objects.{Stored}
use Rattle.fetch_store.specs.Stores.{Entries, add_all}
use Rattle.fetch_store.specs.Closed.{Holding, IsStored, links, others}
use Rattle.fetch_store.specs.Honest.{Request, Pack, taken, IsThere, IsCommitThere, IsDeepened, IsHonest}
use Rattle.fetch_store.specs.Missing.{missing}
use Rattle.fetch_store.proofs.Growth.{stored_added}
use Rattle.fetch_objects.proofs.LinkLaws.{others_from_links}
use Rattle.fetch_store.proofs.Reaching.{reached_more}
use Rattle.fetch_store.proofs.Whole as taking
use Rattle.fetch_reach.specs.Whole.{Has, IsWhole, with_haves, without_lines}

-- ---- packs that need nothing

-- with or without parents
within_either : (P : ObjectId → Type 0) (b : Bool) (o : Stored) → All P (links o) → All P (if b then others o else links o)
within_either P true o all = others_from_links P o all
within_either P false o all = all

module _ (now : Holding) (es : Entries) where
  held : (ids : List ObjectId) → All (Has es) ids → All (IsStored (add_all now.objects es)) ids
  held ids all = All-weaker (Has es) (IsStored (add_all now.objects es)) (stored_added now.objects es) ids all

  pub nothing_missing : (wants : List ObjectId) → IsWhole wants es → missing now wants (without_lines es) ≡ []
  nothing_missing wants whole =
      taking.connects_none now wants (without_lines es) (held wants whole.wants) (record {
        linked = λ k d lt. held _ (within_either (Has es) (set.contains (taken now (without_lines es)).border (get_or es k d).0) (get_or es k d).1 (whole.links k d lt));
        known = λ k d lt. absurd (omega arith);
        deepened = λ k d lt. absurd (omega arith);
      })

-- ---- more haves

module _ (r : Request) (haves : List ObjectId) (pack : Pack) (more : All (Contains haves) r.haves) where
  there : (id : ObjectId) → IsThere r pack id → IsThere (with_haves r haves) pack id
  there id h = ⊎_elim (λ brought. inl brought) (λ old. inr (reached_more r.held r.haves haves id more old)) h

  commit_there : (id : ObjectId) → IsCommitThere r pack id → IsCommitThere (with_haves r haves) pack id
  commit_there id h = ⊎_elim (λ brought. inl brought) (λ old. inr (reached_more r.held r.haves haves id more old.0, old.1)) h

  all_there : (ids : List ObjectId) → All (IsThere r pack) ids → All (IsThere (with_haves r haves) pack) ids
  all_there ids all = All-weaker (IsThere r pack) (IsThere (with_haves r haves) pack) there ids all

  deepened : (id : ObjectId) → IsDeepened r pack id → IsDeepened (with_haves r haves) pack id
  deepened id d = record { sent = d.sent; parents = λ o is. all_there _ (d.parents o is) }

  pub still_honest : IsHonest r pack → IsHonest (with_haves r haves) pack
  still_honest honest = record {
    wants = all_there r.wants honest.wants;
    links = λ k d lt. all_there _ (honest.links k d lt);
    shallow = All-weaker (IsCommitThere r pack) (IsCommitThere (with_haves r haves) pack) commit_there pack.shallow honest.shallow;
    unshallow = All-weaker (IsDeepened r pack) (IsDeepened (with_haves r haves) pack) deepened pack.unshallow honest.unshallow;
  }
