use Rattle.fetch_lines.specs.RequestWords.{format_word, format_is}
use Rattle.fetch_lines.proofs.requests.request_parts.append_format.Goals as goal

pub returns : goal.returns
unfolding format_word format_is
returns c = rw (c.offers-offered.ensures, c.kind_text.ensures) at c.append_when.ensures
