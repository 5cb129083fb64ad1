use Rattle.fetch_serve.proofs.Kept.{depth_is, is_kept, kept_is, kept_rises}
use Rattle.fetch_serve.proofs.Within.{led_to_is}
use Rattle.fetch_serve.proofs.laws.what_is_kept_is_listed.Goals as goal

pub returns-clause-led : goal.returns-clause-led
returns-clause-led c = λ history nexts starts limit id known. led_to_is nexts history known starts limit id

pub returns-clause-each : goal.returns-clause-each
returns-clause-each c = λ d r id. (kept_is d r r.depth id, is_kept d r r.depth id)

pub returns-clause-ascending : goal.returns-clause-ascending
returns-clause-ascending c = λ d r. kept_rises d r r.depth

pub returns-clause-decided : goal.returns-clause-decided
returns-clause-decided c = λ d r. depth_is d r
