use Rattle.std.proofs.Common.{◌≡◌, ◌+◌, length}
use Rattle.std.specs.Option.{option_copied, option_map_or}
use Rattle.fetch_lines.specs.Words.{words_in}
use Rattle.fetch_replies.specs.Listings.{no_attributes, with_attributes}
use Rattle.fetch_replies.proofs.listing.attributes.Given as goal

abbrev pub invariant-words : goal.invariant-words
invariant-words l = with_attributes l.kind (option_copied l.found.0, l.found.1) (words_in (option_copied l.rest)) ≡ with_attributes l.kind no_attributes (words_in (option_copied l.text))

abbrev pub decreases-words : goal.decreases-words
decreases-words l = option_map_or (λ text. length text + 1) (option_copied l.rest) 0
