-- The marks of a field, by the numbers that stand in records.
-- Assumes nothing.
use Rattle.std.specs.Prelude.{◌≡◌, ℕ, ◌<◌, Result, Ok, Err}
use Rattle.model.specs.declared.Mark.{Mark}
use Rattle.model.specs.declared.Mark.TheVariants.{Unmarked, Indexed, Calldata, Memory}
use Rattle.model.specs.declared.UnknownMark.{UnknownMark}

-- "mark, 2 bytes (1 indexed, else 0)". Order 1: "The field's mark gets two more values: 2 calldata, 3 memory."
abbrev pub mark_number : Mark → ℕ
mark_number Unmarked = 0
mark_number Indexed = 1
mark_number Calldata = 2
mark_number Memory = 3

-- what a number is read as: its mark, or the number itself, which is then none of these
abbrev pub MarkOf : ℕ → Result Mark UnknownMark → Type 0
MarkOf n (Ok m) = n ≡ mark_number m
MarkOf n (Err u) = (u.0 ≡ n) × (3 < n)
