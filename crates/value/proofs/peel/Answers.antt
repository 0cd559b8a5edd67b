use Rattle.std.proofs.Common.{refl, sym}
use Rattle.value.proofs.Peeling.{peel_open, peel-nowhere, peel-wrong, peels}
use Rattle.value.proofs.peel.Goals as goal

pub returns-in_err-before : goal.returns-in_err-before
returns-in_err-before c = rw c.from_residual.ensures (peel_open _ c.in_err-before.ensures.cases)

pub returns-in_err-at : goal.returns-in_err-at
returns-in_err-at c = rw c.from_residual-in_err-at.ensures (peel-nowhere _ _ c.in_ok-before.ensures.cases.0 c.in_ok-before.ensures.cases.1 c.in_err-at.ensures)

pub returns-in_err-suffix : goal.returns-in_err-suffix
returns-in_err-suffix c = rw c.from_residual-in_err-suffix.ensures (peel-wrong _ _ c.in_ok-before.ensures.cases.0 c.in_ok-before.ensures.cases.1 _ _ c.in_ok-at.ensures refl (sym c.in_err-suffix.ensures))

pub returns : goal.returns
returns c = peels _ _ c.in_ok-before.ensures.cases.0 c.in_ok-before.ensures.cases.1 _ _ c.in_ok-at.ensures refl _ (sym c.in_ok-suffix.ensures)
