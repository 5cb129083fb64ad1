use Rattle.std.proofs.Common.{◌≡◌, ◌++◌, take, drop, false}
use Rattle.fetch_config.specs.Values.{before_comment}
use Rattle.fetch_config.proofs.value.comment_place.Given as goal

abbrev pub invariant-loop-place : goal.invariant-loop-place
invariant-loop-place l = take l.place l.text ++ before_comment l.quoted l.escaped (drop l.place l.text) ≡ before_comment false false l.text
