-- A step of the program as a step of the grammar.
use Rattle.fetch_objects.specs.declared.grammar.Step.{Step}
use Rattle.fetch_objects.specs.Grammar as grammar

-- a step of the reader, as a value
abbrev pub step_view : Step → grammar.Step
step_view s = record { part = s.part; expected = s.expected; rest = s.rest.now }
