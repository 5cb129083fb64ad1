-- What lent sides of a refspec say.
use Rattle.std.specs.Prelude.{Result, Ok, Err}
use Rattle.std.specs.Option.{option_copied}
use Rattle.fetch_specs.specs.declared.error.SpecError.{SpecError}
use Rattle.fetch_specs.specs.declared.reading.Parts.{Parts}
use Rattle.fetch_specs.specs.Specs.{Spec}

-- parts that are lent, as a refspec
abbrev pub parts_spec : Parts → Spec
parts_spec p = record { operation = p.operation; mode = p.mode; source = option_copied p.source; destination = option_copied p.destination }

-- what reading parts answers, as values
abbrev pub parts_seen : Result Parts SpecError → Result Spec SpecError
parts_seen (Ok p) = Ok (parts_spec p)
parts_seen (Err e) = Err e
