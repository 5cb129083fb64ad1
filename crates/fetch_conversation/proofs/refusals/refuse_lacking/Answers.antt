use Rattle.std.proofs.Common.{◌≡◌, Bool, not, Option, refl, sym, subst}
use Rattle.std.specs.Prelude.{◌||◌}
use Rattle.std.specs.Option.{option_or}
use Rattle.fetch_lines.specs.Greetings.{offers, has_word, value_of}
use Rattle.fetch_lines.specs.RequestWords.{plain_pack, plain_pack_2}
use Rattle.fetch_lines.specs.declared.greetings.handshake.Handshake.{Handshake}
use Rattle.fetch_lines.specs.declared.greetings.handshake.Version.TheVariants as versions
use Rattle.fetch_conversation.specs.Conversing.{Tells}
use Rattle.fetch_conversation.specs.ConverseStage.{lacks, lacked, is_border_needed, fetch_feature, shallow_feature}
use Rattle.fetch_conversation.specs.declared.fetch.Error.{Error}
use Rattle.fetch_conversation.proofs.refusals.refuse_lacking.Goals as goal

lacked_is : (h : Handshake) (needed fetch packs border : Bool) → h.version ≡ versions.V2 → fetch ≡ offers fetch_feature h.capabilities
    → packs ≡ (has_word plain_pack (value_of fetch_feature h.capabilities) || has_word plain_pack_2 (value_of fetch_feature h.capabilities)) → border ≡ (not needed || has_word shallow_feature (value_of fetch_feature h.capabilities))
    → lacked h needed ≡ option_or (lacks fetch fetch_feature) (option_or (lacks packs plain_pack) (lacks border shallow_feature))
lacked_is h needed fetch packs border version f p b = rw (version, f, p, b) refl

pub returns-in-V2-clause-told : goal.returns-in-V2-clause-told
unfolding fetch_feature
returns-in-V2-clause-told c =
    subst (λ (x : Option Error). Tells x c.refuse_unoffered.result) (sym (lacked_is c.args.handshake.now (is_border_needed c.args.border.now c.args.shallow.now) c.offers.result c.offers_packs.result c.offers_border.result c.in-V2.is c.offers.ensures c.offers_packs.ensures c.offers_border.ensures)) c.refuse_unoffered.ensures.told
