use Rattle.std.proofs.lemmas.Result.{on_ok_weaker}
use Rattle.fetch_create.proofs.Settings.{set-there, set-new}
use Rattle.fetch_create.proofs.versioning.add_setting.Goals as goal

pub returns-in-Some : goal.returns-in-Some
returns-in-Some c =
    on_ok_weaker c.push_at.result (set-there c.args.name.now c.args.key.now c.args.value.now c.args.file.now c.push_at.new.file c.in-Some.index c.first_section.result c.first_section.ensures.place c.in-Some.is) c.push_at.ensures

pub returns-in-None : goal.returns-in-None
returns-in-None c =
    on_ok_weaker c.push_new.result (set-new c.args.name.now c.args.key.now c.args.value.now c.args.file.now c.push_new.new.file c.first_section.result c.first_section.ensures.place c.in-None.is) c.push_new.ensures
