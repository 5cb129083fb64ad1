-- Edits that are ready to be made.
use Rattle.std.specs.Borrow.{MutBor}
use Rattle.fetch_refs.specs.declared.prepared.Prepared.{Prepared}
use Rattle.fetch_refs.specs.Names.{RefsValue}
use Rattle.fetch_refs.specs.Pending.{PendingValue}

-- the references that are lent, as they are before the commit, and again after a drop
abbrev pub lent : Prepared PendingValue → MutBor RefsValue
lent p = record { ref_ptr = p.refs.ref_ptr; ghost_name = p.refs.ghost_name; now = p.next.before }

-- what they are after the commit
abbrev pub ready : Prepared PendingValue → RefsValue
ready p = p.next.after
