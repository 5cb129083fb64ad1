-- References and reflogs after one change.
use Rattle.std.specs.Prelude.{ℕ, List, Option, Some, None}
use Rattle.std.specs.FinMap as finmap
use Rattle.fetch_refs.specs.declared.edit.PackedRefs.{PackedRefs}
use Rattle.fetch_refs.specs.declared.edit.RefEdit.{RefEdit}
use Rattle.fetch_refs.specs.declared.log.LogLine.{LogLine}
use Rattle.fetch_refs.specs.declared.target.Target.{Target}
use Rattle.fetch_refs.specs.Edits.{changed}
use Rattle.fetch_refs.specs.Logs.{Logging, logged, with_line}
use Rattle.fetch_refs.specs.Names.{RefsValue, Logs}
use Rattle.fetch_refs.specs.Packed.{packed_changed, packed_by, with_packed}

-- with one line more at a name
abbrev pub with_line_in : RefsValue → List ℕ → LogLine → RefsValue
with_line_in r name line = record { hash = r.hash; names = r.names; logs = with_line r.logs name line; packed = r.packed }

-- without the reflog of a name
abbrev pub without_lines_in : RefsValue → List ℕ → RefsValue
without_lines_in r name = record { hash = r.hash; names = r.names; logs = finmap.remove r.logs name; packed = r.packed }

-- the reflogs with a line more, if there is one
abbrev pub added : Logs → List ℕ → Option LogLine → Logs
added logs name None = logs
added logs name (Some line) = with_line logs name line

-- after the logging of an edit
abbrev pub logged_in : Logging → RefsValue → RefEdit → RefsValue
logged_in how r e = record {
  hash = r.hash;
  names = r.names;
  logs = logged how r.logs e.name (finmap.get r.names e.name) e.change;
  packed = r.packed;
}

-- after the change of its reference
abbrev pub changed_in : PackedRefs → RefsValue → RefEdit → RefsValue
changed_in how r e = record { hash = r.hash; names = changed r.names e; logs = r.logs; packed = packed_changed how r.packed e }

-- after an update of a reference
abbrev pub updated_in : PackedRefs → RefsValue → List ℕ → Target → RefsValue
updated_in how r name new = record {
  hash = r.hash;
  names = finmap.insert r.names name new;
  logs = r.logs;
  packed = with_packed r.packed name (packed_by how new);
}

-- after its deletion
abbrev pub deleted_in : RefsValue → List ℕ → RefsValue
deleted_in r name = record { hash = r.hash; names = finmap.remove r.names name; logs = r.logs; packed = finmap.remove r.packed name }
