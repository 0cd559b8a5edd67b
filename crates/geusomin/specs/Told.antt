-- What a call tells C: a number, and one more by a pointer.
-- Assumes nothing.
use Rattle.std.specs.Prelude.{ℕ}
use Rattle.model.specs.Answer.{Outcome, accepted, refused}

-- what is returned: 0 for an acceptance, or the refusal's number
unfoldable pub code : Outcome → ℕ
code (accepted n) = 0
code (refused w p) = w

-- what `*value` holds at exit: the output's length, or the refusal's position
unfoldable pub worth : Outcome → ℕ
worth (accepted n) = n
worth (refused w p) = p
