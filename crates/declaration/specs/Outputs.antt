-- What a call writes, from the checks that come first to the reading.
-- Assumes nothing.
use Rattle.std.specs.Prelude.{List, ℕ, ◌+◌, ◌*◌}
use Rattle.model.specs.declared.Keyword.{Keyword}
use Rattle.model.specs.Reading.{deepest, exec, parser_of}
use Rattle.model.specs.Record.{encode}
use Rattle.model.specs.Answer.{Output}
use Rattle.model.specs.Calls.{written}

-- how long an array has to be that a text of n bytes is read into: 10 bytes for each byte of text and for each tuple that may be open
abbrev pub scratch_for : ℕ → ℕ
scratch_for n = 10 * (n + deepest)

-- what is read of an admitted text, where a keyword is wanted
unfoldable pub exec_output : Keyword → List ℕ → Output
exec_output k s = written (encode 4) (exec (parser_of k) s)
