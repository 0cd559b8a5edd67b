use Rattle.value.proofs.Suffixing.{first-open, first-end, first-wrong, first-is}
use Rattle.value.proofs.first_suffix.Goals as goal

pub returns-in_err-open-clause-first : goal.returns-in_err-open-clause-first
returns-in_err-open-clause-first c = λ ss i. rw c.from_residual.ensures (first-open _ c.in_err-open.ensures.cases ss i)

pub returns-in_err-end-clause-first : goal.returns-in_err-end-clause-first
returns-in_err-end-clause-first c = λ ss i. rw c.from_residual-in_err-end.ensures (first-end _ _ c.in_ok-open.ensures.cases.0 c.in_ok-open.ensures.cases.1 c.in_err-end.ensures ss i)

pub returns-in_err-suffix-clause-first : goal.returns-in_err-suffix-clause-first
returns-in_err-suffix-clause-first c =
    λ ss i. rw c.from_residual-in_err-suffix.ensures (first-wrong _ _ c.in_ok-open.ensures.cases.0 c.in_ok-open.ensures.cases.1 _ c.in_ok-end.ensures c.in_err-suffix.ensures ss i)

pub returns-clause-first : goal.returns-clause-first
returns-clause-first c = λ ss i. first-is _ _ c.in_ok-open.ensures.cases.0 c.in_ok-open.ensures.cases.1 _ c.in_ok-end.ensures _ c.in_ok-suffix.ensures ss i
