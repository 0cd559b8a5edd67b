use Rattle.std.proofs.Common.{arith}
use mathlib.Core.Path.{refl}
use Rattle.index.proofs.Parts.{part-none, part-ill, part-declared, part-field}
use Rattle.index.proofs.first.Goals as goal

pub returns-in_err-rest : goal.returns-in_err-rest
returns-in_err-rest c = rw c.from_residual.ensures (part-none _ c.in_err-rest.ensures)

pub returns-in_err-check : goal.returns-in_err-check
returns-in_err-check c = rw c.from_residual-in_err-check.ensures (part-ill _ _ c.in_ok-rest.ensures (λ i. omega (arith, c.type_inv.left i)) c.in_err-check.ensures.says)

pub returns-in-Declared : goal.returns-in-Declared
returns-in-Declared c = part-declared _ _ c.in_ok-rest.ensures (λ i. omega (arith, c.type_inv.left i)) _ refl refl _ c.in_ok-check.ensures.says c.in-Declared.is

pub returns-in-Field : goal.returns-in-Field
returns-in-Field c = part-field _ _ c.in_ok-rest.ensures (λ i. omega (arith, c.type_inv.left i)) _ c.in_ok-check.ensures.says _ _ c.in-Field.is
