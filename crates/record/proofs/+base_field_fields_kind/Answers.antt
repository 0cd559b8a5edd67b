use native.Mathlib.Omega.{arith}
use borrow.Author.Rules.{rules}
use Rattle.record.proofs.Walk.{fields-end, fields-none, fields-bad}
use Rattle.record.proofs.+base_field_fields_kind.Goals as goal

pub fields-returns-in_err-piece-clause-same : goal.fields-returns-in_err-piece-clause-same
fields-returns-in_err-piece-clause-same t c = rw c.from_residual.ensures (fields-none _ _ _ _ _ c.loop-left.invariant (search rules) c.in_err-piece.ensures)

pub fields-returns-in_err-n-clause-same : goal.fields-returns-in_err-n-clause-same
fields-returns-in_err-n-clause-same t c = rw c.from_residual-in_err-n.ensures (fields-bad _ _ _ _ _ c.loop-left.invariant (search rules) _ c.in_ok-piece.ensures (search rules))

pub fields-returns-clause-same : goal.fields-returns-clause-same
fields-returns-clause-same t c = fields-end _ _ _ _ _ c.loop-left.invariant (search rules) _ (λ e. omega (arith, c.max.ensures)) (λ h. omega (arith, c.max.ensures))
