use Rattle.std.proofs.Common.{◌≡◌, ℕ, List, [], ◌++◌, Some, Result, Ok, Err, refl, sym, ◌∙◌}
use Rattle.std.proofs.lemmas.List.{append-nil}
use Rattle.fetch_cli.specs.Io.{Takes}
use Rattle.fetch_cli.proofs.program.memory.MemorySinkSink.write_all.Goals as goal
use Rattle.fetch_cli.proofs.program.memory.MemorySinkSink.write_all.Goals.{in-Ok, in-Err}

takes_all : {T E : Type 0} (old new bytes : List ℕ) (result : Result T E) (x : T) → result ≡ Ok x → new ≡ old ++ bytes → Takes (Some old) (Some new) result bytes
takes_all old new bytes result x is more = rw is more

takes_none : {T E : Type 0} (old new bytes : List ℕ) (result : Result T E) (e : E) → result ≡ Err e → new ≡ old → Takes (Some old) (Some new) result bytes
takes_none old new bytes result e is same = rw is ([], (bytes, refl), same ∙ sym (append-nil old))

pub returns-clause-bytes : goal.returns-clause-bytes
returns-clause-bytes c = elim c.match-extend_from_slice.branch [
  | in-Ok w ↦ rw (← c.self.view_is) (takes_all c.self.inside.bytes.items c.extend_from_slice.new.self.items c.args.bytes.now c.match-extend_from_slice.result _ w.result-is w.in-Ok.ensures.items)
  | in-Err w ↦ rw (← c.self.view_is) (takes_none c.self.inside.bytes.items c.extend_from_slice.new.self.items c.args.bytes.now c.match-extend_from_slice.result _ w.result-is w.in-Err.ensures.items)
]
