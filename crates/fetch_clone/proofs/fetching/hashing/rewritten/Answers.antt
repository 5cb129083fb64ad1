use Rattle.std.proofs.Common.{◌≡◌, inr}
use Rattle.fetch_remote.specs.Repositories.{setup_of}
use Rattle.fetch_create.specs.Versioned.{versioned}
use Rattle.fetch_clone.proofs.Reread.{unversioned}
use Rattle.fetch_clone.proofs.fetching.hashing.rewritten.Goals as goal

pub returns-in-Err-SaveConfigIo-clause-refused : goal.returns-in-Err-SaveConfigIo-clause-refused
returns-in-Err-SaveConfigIo-clause-refused g c =
    let is : c.in-Ok.reread.file ≡ versioned c.args.kind c.in_ok-local.local = cc (c.in-Ok.ensures.file, c.in_ok-set_version.ensures) in
    let tree = rw c.read_local.ensures.tree at c.in-Err-SaveConfigIo.ensures.tree in
    let why = rw (c.read_local.ensures.tree, c.read_local.ensures.may_fail, c.git_dir.ensures, c.in-Err-SaveConfigIo.field-0-is) at c.in-Err-SaveConfigIo.ensures.refused in
    inr (unversioned (g.F.Files.may_fail c.args.files.now) (g.F.Files.told c.args.files.now) (g.F.Files.told c.write_local.new.files) c.args.kind (setup_of c.args.repo.now) c.in_ok-local.local c.in-Ok.reread.file c.in_ok-local.ensures.ok is tree why)
