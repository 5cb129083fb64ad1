use Rattle.std.proofs.Common.{◌≡◌, ◌+◌}
use Rattle.fetch_bench.specs.Commits as spec
use Rattle.fetch_bench.proofs.Growing.{line_grows}
use Rattle.fetch_bench.proofs.commits.push_commits.Goals as goal

pub loop-i-preserved : goal.loop-i-preserved
loop-i-preserved c =
    let value = c.deref.ensures.value in
    let value-2 = c.deref-in-loop-i.ensures.value in
    let empty = c.clear.ensures.items in
    let seen = c.as_ref.ensures.value in
    let text : c.append_commit.new.out.items ≡ spec.text_of c.loop-i.last (c.args.before + c.loop-i.i + 1) = rw (empty, seen) at c.in_ok-append_commit.ensures in
    let grown = line_grows c.args.before c.loop-i.i c.args.out.now.items c.loop-i.out.items c.push.new.self.items c.loop-i.last c.append_commit.new.out.items c.id_of-id.result _
    c.loop-i.invariant.commits c.loop-i.invariant.tip text (rw value at c.id_of-id.ensures) (rw value-2 at c.in_ok-object_of.ensures) c.in_ok-push.ensures.items in
    record { commits = grown.0; tip = grown.1 }
