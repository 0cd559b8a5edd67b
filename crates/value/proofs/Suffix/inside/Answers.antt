use Rattle.std.proofs.Common.{arith}
use Rattle.value.proofs.Suffixes.{inside-none, inside-number}
use Rattle.value.proofs.Suffix.inside.Goals as goal

pub returns-then-is_empty : goal.returns-then-is_empty
returns-then-is_empty c = grind (arith, inside-none)

pub returns-in_err-size : goal.returns-in_err-size
returns-in_err-size c = grind (arith, inside-number)

pub returns : goal.returns
returns c = grind (arith, inside-number)
