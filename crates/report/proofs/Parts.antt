-- The parts of the line.
-- Assumes nothing.
use mathlib.Core.List.{◌∷◌, ◌++◌}
use Prim.Native.Nat.{ℕ, ◌≤◌, ◌<◌}
use native.Mathlib.Omega.{arith}
use lib.ListN.{length, length-append}
use Rattle.kinds.specs.Bytes.{ascii, space}
use Rattle.kinds.specs.Decimal.{decimal}
use Rattle.kinds.proofs.Decimal.{decimal-short}
use Rattle.model.specs.declared.Keyword.{Keyword}
use Rattle.model.specs.Reading.{keyword_text}
use Rattle.model.specs.Deposit.{no_line}
use Rattle.report.specs.Lines.{ok_front}

pub short-number : (v : ℕ) → v < 18446744073709551616 → length (decimal v) ≤ 20
short-number v h = decimal-short 20 v (omega arith) (omega arith)

pub no-short : (n p : ℕ) → n < 18446744073709551616 → p < 18446744073709551616 → length (no_line n p) ≤ 64
no-short n p h g = omega (arith, short-number n h, short-number p g, length-append (decimal n) (space ∷ decimal p))

pub ok-short : (k : Keyword) (n : ℕ) → length (keyword_text k) ≤ 11 → n < 18446744073709551616 → length (ok_front k n) ≤ 64
unfolding ok_front
ok-short k n h g =
    let behind = ascii " " ++ (decimal n ++ ascii " ") in
    omega (arith, h, short-number n g, length-append (keyword_text k) behind, length-append (decimal n) (ascii " "))

pub ruleset shorts = short-number
