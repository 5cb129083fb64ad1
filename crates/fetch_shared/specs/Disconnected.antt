-- A pack that a shared fetch refused as disconnected: what it was asked for over, and what it was refused by.
use Rattle.std.specs.Prelude.{List}
use Rattle.fetch_base.specs.declared.id.ObjectId.{ObjectId}
use Rattle.fetch_store.specs.declared.missing.Missing.{Missing}
use Rattle.fetch_store.specs.Honest.{Pack, Request}
use Rattle.fetch_remote.specs.RepositoryValues.{RepositoryValue}
use Rattle.fetch_remote.specs.Applying.{pack_of}
use Rattle.fetch_remote.specs.Stages.{wants_in}
use Rattle.fetch_journal.specs.declared.error.SharedError.TheVariants.{Disconnected}
use Rattle.fetch_shared.specs.declared.receipt.Receipt.{Receipt}
use Rattle.fetch_shared.specs.Fetching.{Call, IsStopped}
use Rattle.fetch_journal.specs.Machine.{held}
use Rattle.fetch_shared.specs.Conversed.{Line}

-- the repository at `planned`
abbrev pub planned_in : {line : Line} {c : Call} {receipt : Receipt} {link : Missing} → IsStopped line c receipt (Disconnected link)
    → RepositoryValue
planned_in h = h.conversed.seen.repository

-- the repository of the front that came back, which refused the pack
abbrev pub found_in : {line : Line} {c : Call} {receipt : Receipt} {link : Missing} → IsStopped line c receipt (Disconnected link)
    → RepositoryValue
found_in h = h.unapplied.refused.found.repository

-- the pack that was refused
abbrev pub refused_pack : {line : Line} {c : Call} {receipt : Receipt} {link : Missing}
    → IsStopped line c receipt (Disconnected link) → Pack
refused_pack h = pack_of h.unapplied.reply

-- what the plan asked for, with these haves
abbrev pub request_in : {line : Line} {c : Call} {receipt : Receipt} {link : Missing} → List ObjectId
    → IsStopped line c receipt (Disconnected link) → Request
request_in {line} {c} haves h = record {
  held = held (planned_in h);
  wants = wants_in c.given (planned_in h).state h.told.listed.ref_map;
  haves = haves;
}
