-- What a mirror asks its server for is read, and nothing interrupts it.
use Rattle.std.proofs.Common.{◌≡◌, Ok, refl, codes}
use Rattle.fetch_specs.specs.Categories.{refs}
use Rattle.fetch_specs.specs.Names.{is_name, lock}
use Rattle.fetch_specs.specs.Parses.{id_named, parsed}
use Rattle.fetch_specs.specs.Specs.{Spec}
use Rattle.fetch_specs.specs.declared.operation.Operation.TheVariants.{Fetch}
use Rattle.fetch_mirror.specs.Naming.{everything}

pub everything_is_read : parsed Fetch (codes "+refs/*:refs/*") ≡ Ok everything
unfolding parsed id_named is_name lock refs
everything_is_read = refl

-- a refspec that is read of it
pub read_so : (spec : Spec) → parsed Fetch (codes "+refs/*:refs/*") ≡ Ok spec → spec ≡ everything
read_so spec is = cc (is, everything_is_read)
