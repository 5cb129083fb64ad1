-- A greeting is read as it is written.
use Rattle.std.proofs.Common.{◌≡◌, ◌≢◌, ℕ, true, List, [], ◌∷◌, ◌++◌, map, Option, Some, None, refl, sym, ap, ◌∙◌, subst, append_assoc, All, codes}
use Rattle.std.specs.Option.{option_and_then}
use Rattle.std.proofs.lemmas.Bool.Decides.{Decides-eqb}
use Rattle.std.proofs.lemmas.List.{append-nil}
use Rattle.std.proofs.lemmas.List.Elements.{All-head, All-tail}
use Rattle.fetch_base.specs.Scan.{split_first}
use Rattle.fetch_base.specs.Lines.{IsWithout}
use Rattle.fetch_base.proofs.LineLaws.{splits}
use Rattle.fetch_base.proofs.Words.{parts_without}
use Rattle.fetch_replies.specs.declared.replies.reply.ReplyKind.TheVariants as awaits
use Rattle.fetch_replies.specs.declared.replies.reply.ParsedReply.TheVariants as told
use Rattle.fetch_lines.specs.declared.greetings.handshake.Capability.{Capability}
use Rattle.fetch_lines.specs.declared.lines.line.Line.TheVariants.{Flush}
use Rattle.fetch_replies.specs.declared.replies.parser.ReplyParser.TheVariants as reading
use Rattle.fetch_replies.specs.Awaited.{step_of, start_of, at_capability}
use Rattle.fetch_lines.specs.Greetings.{capability_in, key_and_value, if_key, if_known, is_known, handshake_of, is_version_2}
use Rattle.fetch_replies.specs.LinesTold.{Tells}
use Rattle.fetch_lines.specs.Requests.{sent, text_line}
use Rattle.fetch_lines.specs.ServerLines.{with_value, capability_text, greeting_lines, IsTellable}
use Rattle.fetch_replies.specs.Stepping.{goes, ends, breaks, or_breaks}
use Rattle.fetch_lines.specs.Texts.{is_error, without_lf}
use Rattle.fetch_replies.proofs.Moving.{Moves, moves_tell, by_text_line}

-- a text with the byte isn't without it
pub not_within : (c : ℕ) (before behind : List ℕ) → IsWithout c (before ++ c ∷ behind) → ⊥
not_within c before behind none = let p = (parts_without c before (c ∷ behind) none).1 in let e = rw ((Decides-eqb c c).1 refl) at p in cc

none_by : (c : ℕ) (text : List ℕ) (found : Option (List ℕ × List ℕ)) → split_first c text ≡ found → IsWithout c text → found ≡ None
none_by c text None is none = refl
none_by c text (Some (before, behind)) is none =
    let s = (splits c text).found before behind is in absurd (not_within c before behind (subst (IsWithout c) s.0 none))

-- a text without the byte isn't split at it
pub unsplit : (c : ℕ) (text : List ℕ) → IsWithout c text → split_first c text ≡ None
unsplit c text none = none_by c text (split_first c text) refl none

keyed : (name : List ℕ) (value : Option (List ℕ)) → name ≢ [] → if_key name value ≡ Some (record { name = name; value = value })
keyed [] value some = absurd (some refl)
keyed (c ∷ cs) value some = refl

capability_read : (name : List ℕ) (value : Option (List ℕ)) → name ≢ [] → IsWithout 61 name → capability_in (with_value name value) ≡ Some (record { name = name; value = value })
unfolding capability_in
capability_read name None some plain = ap (key_and_value name) (unsplit 61 name plain) ∙ keyed name None some
capability_read name (Some value) some plain = ap (key_and_value (name ++ 61 ∷ value)) ((splits 61 (name ++ 61 ∷ value)).only name value refl plain) ∙ keyed name (Some value) some

known_if : (c : Capability) → is_known c ≡ true → if_known c ≡ Some c
known_if c known = rw known refl

-- one capability
pub tells_capability : (c : Capability) → IsTellable c → option_and_then if_known (capability_in (capability_text c)) ≡ Some c
tells_capability c is = ap (option_and_then if_known) (capability_read c.name c.value is.named is.plain) ∙ known_if c is.known

tells_one : (before : List Capability) (c : Capability) → IsTellable c → step_of (reading.Capabilities before) (text_line (capability_text c)) ≡ goes (reading.Capabilities (before ++ c ∷ []))
unfolding step_of
tells_one before c is =
    by_text_line (ends (told.Greeting (handshake_of before))) breaks (at_capability before) (capability_text c) is.no_error
    ∙ ap (λ found. or_breaks found (λ d. goes (reading.Capabilities (before ++ d ∷ [])))) (tells_capability c is)

tells_all : (before cs : List Capability) → All IsTellable cs → Moves step_of (reading.Capabilities before) (sent (map capability_text cs)) (reading.Capabilities (before ++ cs))
tells_all before [] are = ap reading.Capabilities (sym (append-nil before))
tells_all before (c ∷ cs) are = (
  reading.Capabilities (before ++ c ∷ []),
  tells_one before c (All-head IsTellable c cs are),
  subst (λ (l : List Capability). Moves step_of (reading.Capabilities (before ++ c ∷ [])) (sent (map capability_text cs)) (reading.Capabilities l)) (append_assoc before (c ∷ []) cs)
      (tells_all (before ++ c ∷ []) cs (All-tail IsTellable c cs are)),
)

opens : step_of reading.Greeting (text_line (codes "version 2")) ≡ goes (reading.Capabilities [])
unfolding step_of is_error without_lf is_version_2
opens = refl

closes : (cs : List Capability) → step_of (reading.Capabilities cs) Flush ≡ ends (told.Greeting (handshake_of cs))
unfolding step_of
closes cs = refl

pub greeting_tells : (cs : List Capability) → All IsTellable cs → Tells step_of (start_of awaits.Greeting) (greeting_lines cs) (told.Greeting (handshake_of cs))
greeting_tells cs are =
    moves_tell step_of reading.Greeting (reading.Capabilities cs) (sent (codes "version 2" ∷ map capability_text cs)) (Flush ∷ []) (told.Greeting (handshake_of cs))
    (reading.Capabilities [], opens, tells_all [] cs are) (closes cs)
