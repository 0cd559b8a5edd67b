-- What the checks answer, by the definitions.
-- Assumes nothing.
use Rattle.std.specs.Prelude.{Bool, true, false, ℕ, Option, None, Some}

-- a number, if it passes a test
unfoldable pub checked : (ℕ → Bool) → ℕ → Option ℕ
checked t n = elim (t n) [ true ↦ Some n | false ↦ None ]
