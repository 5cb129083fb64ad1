use Rattle.std.proofs.Common.{◌≡◌, ℕ, ◌<◌, true, false, List, [], ◌∷◌, length, Err, refl, arith, ◌∙◌, sym}
use Rattle.std.specs.Prelude.{if◌then◌else◌}
use Rattle.std.specs.List.{list_all}
use Rattle.hex.specs.Hex.{is_hex_digit}
use Rattle.fetch_lines.specs.Lines.{line_at}
use Rattle.fetch_lines.specs.declared.lines.section.LineError.TheVariants.{Short, Broken}
use Rattle.fetch_lines.proofs.lines.section.line_in.Goals as goal

-- fewer than four bytes are no line
too_few : (bound place : ℕ) (bytes : List ℕ) → length bytes < 4 → line_at bound place bytes ≡ (if list_all is_hex_digit bytes then Err (Short place) else Err (Broken place))
unfolding line_at
too_few bound place [] lt = refl
too_few bound place (a ∷ []) lt = refl
too_few bound place (a ∷ b ∷ []) lt = refl
too_few bound place (a ∷ b ∷ c ∷ []) lt = refl
too_few bound place (a ∷ b ∷ c ∷ d ∷ bytes) lt = absurd (omega arith)

pub returns-then-are_hex_digits-clause-value : goal.returns-then-are_hex_digits-clause-value
returns-then-are_hex_digits-clause-value c =
    let t : list_all is_hex_digit c.args.bytes.now ≡ true = cc in
    sym (too_few c.args.bound c.args.place c.args.bytes.now c.in_default.len_below ∙ rw t refl)

pub returns-in_default-clause-value : goal.returns-in_default-clause-value
returns-in_default-clause-value c =
    let t : list_all is_hex_digit c.args.bytes.now ≡ false = cc in
    sym (too_few c.args.bound c.args.place c.args.bytes.now c.in_default.len_below ∙ rw t refl)
