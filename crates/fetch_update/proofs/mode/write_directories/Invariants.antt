use Rattle.std.proofs.Common.{◌≡◌, take}
use Rattle.std.specs.Fmt.{HasWritten, IsPlainFormatter}
use Rattle.fetch_update.specs.Modes.{directories_text}
use Rattle.fetch_update.proofs.Shown.{is_none, shown}
use Rattle.fetch_update.proofs.mode.write_directories.Given as goal

abbrev pub invariant-dirs : goal.invariant-dirs
invariant-dirs g l =
    record {
      first : l.is_first ≡ is_none (shown (take l.dir-index l.dirs));
      written : IsPlainFormatter l.initial.f → HasWritten g.W.Write.write_str_gives l.initial.f (directories_text (take l.dir-index l.dirs)) l.f;
    }
