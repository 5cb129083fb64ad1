use Rattle.std.proofs.Common.{◌≡◌, ◌^◌, ◌-◌, false, [], Some, Ok, refl, sym, ap, ◌∙◌, arith}
use Rattle.std.proofs.Output.{has_written_append, has_written_of_eq, displays_on_ok_of_eq, writes_in_calls_nil}
use Rattle.std.proofs.lemmas.List.{take_more}
use Rattle.std.specs.Fmt.{digits, format_spec, padded_integral, styled_digits_output}
use Rattle.std.specs.Option.{option_map}
use Rattle.std.specs.Prelude.{get_or, take}
use Rattle.hex.specs.Hex.{encode_lower}
use Rattle.fetch_update.proofs.Shown.{hex_none, hex_next}
use Rattle.fetch_update.proofs.mode.write_hex.Goals as goal

pub bytes-init : goal.bytes-init
bytes-init g c = λ plain. has_written_of_eq _ _ _ _ _ hex_none (record { wrote = writes_in_calls_nil _ _; plain = plain })

pub bytes-preserved : goal.bytes-preserved
bytes-preserved g c = λ plain.
    let bytes = c.args.bytes.now in
    let i = c.bytes.byte-index in
    let byte = get_or bytes i 0 in
    let before = c.bytes.invariant plain in
    let text : styled_digits_output c.in_radix.result c.laid_out.result ≡ Some (padded_integral (format_spec 32 0 4 2 (2 ^ 64 - 1)) false [] (digits 16 false byte)) =
    ap (styled_digits_output c.in_radix.result) c.laid_out.ensures
    ∙ ap (option_map (padded_integral (format_spec 32 0 4 2 (2 ^ 64 - 1)) false [])) c.in_radix.ensures in
    has_written_of_eq _ _ _ _ _ (hex_next (take i bytes) byte (omega (arith, c.type_inv.bytes i)) ∙ ap encode_lower (sym (take_more bytes i 0 c.bytes-test.true)))
    (has_written_append _ _ _ _ _ _ before (displays_on_ok_of_eq g.W.Write.write_str_gives c.bytes.f c.write.new.self (Ok tt) _ _ text c.in_ok-write.ensures.writes before.plain refl))
