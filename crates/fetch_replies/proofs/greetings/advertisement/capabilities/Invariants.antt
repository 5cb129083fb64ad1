use Rattle.std.proofs.Common.{◌≡◌, ◌+◌, [], length}
use Rattle.std.specs.Option.{option_copied, option_map_or}
use Rattle.fetch_lines.specs.Words.{words, words_in}
use Rattle.fetch_replies.specs.Advertisements.{with_words}
use Rattle.fetch_replies.proofs.greetings.advertisement.capabilities.Given as goal

abbrev pub invariant-words : goal.invariant-words
invariant-words l = with_words l.found (words_in (option_copied l.rest)) ≡ with_words [] (words l.text)

abbrev pub decreases-words : goal.decreases-words
decreases-words l = option_map_or (λ text. length text + 1) (option_copied l.rest) 0
