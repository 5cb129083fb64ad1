use Rattle.std.proofs.Common.{◌≡◌, Bool, true, false, List, [], ◌∷◌, ◌++◌, ◌+◌, ℕ, refl, sym, ap, ◌∙◌, subst}
use Rattle.std.specs.Prelude.{take}
use Rattle.std.specs.Str.{IsUtf8, is_utf8}
use Rattle.std.proofs.Output.{has_written_append, has_written_of_eq, has_written_to_eq, writes_in_calls_nil}
use Rattle.std.proofs.lemmas.List.{take_more}
use Rattle.std.proofs.lemmas.Str.{IsUtf8-from_is_utf8, is_utf8-from_IsUtf8}
use Rattle.fetch_update.specs.Modes.{directories_text}
use Rattle.fetch_update.proofs.Fitting.{not_true}
use Rattle.fetch_update.proofs.Shown.{directories_none, is_none, separator, shown, directory_next, directory_none, first_next, first_none}
use Rattle.fetch_update.proofs.mode.write_directories.Goals as goal
use Rattle.fetch_update.proofs.mode.write_directories.Goals.{in-Ok+in_ok-write_directory, in_default}

pub dirs-init : goal.dirs-init
dirs-init g c = record { first = refl; written = λ plain. has_written_of_eq _ _ _ _ _ directories_none (record { wrote = writes_in_calls_nil _ _; plain = plain }) }

pub dirs-preserved : goal.dirs-preserved
dirs-preserved g c =
    let dirs : List (List ℕ) = c.args.dirs.now in
    let dir : List ℕ = c.dir-item.result in
    let before : List (List ℕ) = take c.dirs.dir-index dirs in
    let more : before ++ dir ∷ [] ≡ take (c.dirs.dir-index + 1) dirs =
    sym (take_more dirs c.dirs.dir-index dir c.dirs-test.true ∙ ap (λ (d : List ℕ). before ++ d ∷ []) (sym c.dir-item.is)) in
    elim c.match-from_utf8.branch [
      | in-Ok+in_ok-write_directory w ↦
          let utf8 : is_utf8 dir ≡ true = is_utf8-from_IsUtf8 dir (subst IsUtf8 c.as_bytes.ensures w.in-Ok.ensures.cases.1) in
          let text : w.in-Ok.text.now ≡ dir = w.in-Ok.ensures.cases.0 ∙ c.as_bytes.ensures in
          let next : directories_text before ++ (separator c.dirs.is_first ++ w.in-Ok.text.now) ≡ directories_text (take (c.dirs.dir-index + 1) dirs) =
          ap (λ (b : Bool). directories_text before ++ (separator b ++ w.in-Ok.text.now)) c.dirs.invariant.first
          ∙ ap (λ (t : List ℕ). directories_text before ++ (separator (is_none (shown before)) ++ t)) text ∙ directory_next before dir utf8 ∙ ap directories_text more in
          record {
            first = w.is_first-is ∙ first_next before dir utf8 ∙ ap (λ (ds : List (List ℕ)). is_none (shown ds)) more;
            written = λ plain.
                let so_far = c.dirs.invariant.written plain in
                has_written_to_eq _ _ _ _ _ w.f-is (has_written_of_eq _ _ _ _ _ next (has_written_append _ _ _ _ _ _ so_far (w.in_ok-write_directory.ensures so_far.plain refl)));
          }
      | in_default w ↦
          let other : is_utf8 dir ≡ false = not_true (is_utf8 dir) (λ e. w.in_default.ensures.cases.0 (subst IsUtf8 (sym c.as_bytes.ensures) (IsUtf8-from_is_utf8 dir e))) in
          record {
            first = w.is_first-is ∙ c.dirs.invariant.first ∙ first_none before dir other ∙ ap (λ (ds : List (List ℕ)). is_none (shown ds)) more;
            written = λ plain. has_written_to_eq _ _ _ _ _ w.f-is (has_written_of_eq _ _ _ _ _ (directory_none before dir other ∙ ap directories_text more) (c.dirs.invariant.written plain));
          }
    ]
