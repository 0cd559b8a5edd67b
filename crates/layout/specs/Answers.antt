-- How a call ends.
-- Assumes nothing.
use Rattle.std.specs.Prelude.{◌≡◌, List, ℕ, length}
use Rattle.model.specs.Answer.{Output, said, outcome, after, Answer}

-- the two halves of a call's contract: what it says, and all of the lent buffer at exit
abbrev pub Ends : Output → List ℕ → List ℕ → Answer → Type 0
Ends o b b₁ r = (said r ≡ outcome (length b) o) × (b₁ ≡ after b o)
