-- What the scans of a kind text that starts with `(` find, by the definitions.
-- Assumes nothing.
use Rattle.std.specs.Prelude.{◌≡◌, Bool, ◌&&◌, not, List, ◌∷◌, ℕ, suc, ◌+◌, ◌≤◌, eqb, drop, get_or, Option, None, Some}
use Rattle.kinds.specs.Bytes.{is_letter}
use Rattle.model.specs.Text.{blank}
use Rattle.model.specs.Calls.{crowded}

-- behind the byte c, before which l more tuples could open, the scan goes on with n, one more at most; or c opens one too many
abbrev pub StepIs : ℕ → ℕ → Option ℕ → Type 0
StepIs c l (Some n) = ((p : ℕ) (t : List ℕ) → crowded l p (c ∷ t) ≡ crowded n (suc p) t) × (n ≤ l + 1)
StepIs c l None = (p : ℕ) (t : List ℕ) → crowded l p (c ∷ t) ≡ Some p

-- what stands at i is no blank, and no letter if a bracket that closes stands before it
unfoldable pub stands_at : List ℕ → ℕ → Bool → Bool
stands_at s i behind = eqb (blank (drop i s)) 0 && not (behind && is_letter (get_or s i 0))
