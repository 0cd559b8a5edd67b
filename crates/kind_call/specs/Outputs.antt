-- What the kind call writes, from the checks that come first to the reading.
-- Assumes nothing.
use Rattle.std.specs.Prelude.{List, ℕ, length}
use Rattle.model.specs.declared.Sort.TheVariants.{Plain}
use Rattle.model.specs.KindText.{from_str}
use Rattle.model.specs.Tree.{Field}
use Rattle.model.specs.Reading.{field_by, tuple_kind, deepest}
use Rattle.model.specs.Record.{encode_field}
use Rattle.model.specs.Answer.{Output}
use Rattle.model.specs.Calls.{written, lone_field, all_of, read_kind, read_tuple}

-- of a text that does not start with `(`
unfoldable pub lone_output : List ℕ → Output
lone_output s = written (encode_field 4) (lone_field (from_str s))

-- of one that does
unfoldable pub tuple_output : List ℕ → Output
tuple_output s = written (encode_field 4) (read_tuple s)

-- and has no blanks and no names
unfoldable pub whole_output : List ℕ → Output
whole_output s = written (encode_field 4) (all_of (length s) (field_by Plain (tuple_kind deepest) s 0))
