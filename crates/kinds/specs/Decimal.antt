-- Numbers in texts: plain decimal as it is written, and numbers as they are read.
-- Assumes nothing.
use Rattle.std.specs.Prelude.{Bool, true, false, List, [], ◌∷◌, ◌++◌, ℕ, zero, suc, ◌+◌, ◌*◌, ◌-◌, ◌/◌, ◌%◌, leb, ltb, eqb, Option, None, Some}
use Rattle.kinds.specs.Bytes.{all, is_digit}

-- the last f digits of n, with no digit 0 in front
unfoldable pub digits : ℕ → ℕ → List ℕ
digits zero n = []
digits (suc f) n = elim (ltb n 10) [ true ↦ (48 + n) ∷ [] | false ↦ digits f (n / 10) ++ ((48 + n % 10) ∷ []) ]

-- "Widths and lengths are plain decimal". A number n has no more than n + 1 digits
unfoldable pub decimal : ℕ → List ℕ
decimal n = digits (suc n) n

-- the number that digits stand for, behind digits that stand for v
abbrev pub value : ℕ → List ℕ → ℕ
value v [] = v
value v (c ∷ cs) = value (v * 10 + (c - 48)) cs

-- "at least one digit"
unfoldable pub unsigned : List ℕ → Option ℕ
unsigned [] = None
unsigned (c ∷ s) = elim (all is_digit (c ∷ s)) [ true ↦ Some (value 0 (c ∷ s)) | false ↦ None ]

-- a number that is at most m
abbrev pub at_most : ℕ → Option ℕ → Option ℕ
at_most m None = None
at_most m (Some n) = elim (leb n m) [ true ↦ Some n | false ↦ None ]

-- digits alone, with a value of at most m; leading zeros do not count
unfoldable pub plain : ℕ → List ℕ → Option ℕ
plain m t = at_most m (unsigned t)

-- whether a `0` stands in front of more
abbrev pub leading_zero : List ℕ → Bool
leading_zero [] = false
leading_zero (c ∷ []) = false
leading_zero (c ∷ d ∷ s) = eqb c 48

-- Order 7: "A number now has no sign and no leading zero, `0` itself excepted". Its value is at most m
unfoldable pub number : ℕ → List ℕ → Option ℕ
number m t = elim (leading_zero t) [ true ↦ None | false ↦ plain m t ]
