-- What the program's values say.
use Rattle.fetch_pack.specs.declared.records.Record.{Record}
use Rattle.fetch_pack.specs.declared.reading.Framed.{Framed}
use Rattle.fetch_pack.specs.declared.reading.Pack.{Pack}
use Rattle.fetch_base.specs.declared.id.Kind.{Kind}
use Rattle.fetch_pack.specs.Records.{Written, records}
use Rattle.fetch_pack.specs.Reading.{Frame, Contents}

-- a record that is lent, as a value
abbrev pub written : Record → Written
written r = record { id = r.id.now; payload = record { kind = r.kind; bytes = r.bytes.now } }

-- the parts of a pack that are lent, as values
abbrev pub frame : Kind → Framed → Frame
frame hash f = record {
  version = f.version;
  count = f.count;
  written = (records f.version hash f.count f.records.now).written;
  body = f.body.now;
  digest = f.digest;
}

-- a pack that was read, as a value
abbrev pub contents : Pack → Contents
contents p = record { objects = p.objects; count = p.count; digest = p.digest }
