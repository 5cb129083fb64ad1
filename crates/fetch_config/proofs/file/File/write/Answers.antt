use Rattle.std.proofs.Common.{◌≡◌, rules, subst}
use Rattle.fetch_config.specs.Contents.{Contents}
use Rattle.fetch_config.specs.Kept.{AreKept}
use Rattle.fetch_config.specs.Print.{text_of, of_origin}
use Rattle.fetch_config.proofs.WrittenTexts.{says_all}
use Rattle.fetch_config.proofs.file.File.write.Goals as goal

pub returns-clause-read_back : goal.returns-clause-read_back
returns-clause-read_back c =
    let sections = c.args.self.now.sections in
    let is : c.from.result ≡ text_of (of_origin c.args.origin sections) = search rules in
    says_all c.args.origin sections c.from.result (subst (λ (file : Contents). AreKept file.sections) c.self.view_is c.self.invariant) is
