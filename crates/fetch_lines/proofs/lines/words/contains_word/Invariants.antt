use Rattle.std.proofs.Common.{◌≡◌, length}
use Rattle.fetch_lines.specs.Words.{words}
use Rattle.fetch_lines.specs.Greetings.{has_word_in}
use Rattle.fetch_lines.proofs.lines.words.contains_word.Given as goal

abbrev pub invariant-words : goal.invariant-words
invariant-words l = has_word_in l.word (words l.rest) ≡ has_word_in l.word (words l.text)

abbrev pub decreases-words : goal.decreases-words
decreases-words l = length l.rest
