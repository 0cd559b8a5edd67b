use Rattle.value.proofs.Peeling.{none_start, none_end, last-here, last_more}
use Rattle.value.proofs.last_bracket.Goals as goal

pub loop-last-init : goal.loop-last-init
loop-last-init c = none_start c.args.t.now

pub returns-in_err-last : goal.returns-in_err-last
returns-in_err-last c = rw c.from_residual.ensures (none_end _ _ c.loop-last.invariant c.in_err-last.ensures.cases)

pub loop-last-preserved : goal.loop-last-preserved
loop-last-preserved c = last_more _ _ c.loop-last.invariant _ _ c.in_ok-last.ensures.cases.0 c.if-last-eq91.false

pub returns : goal.returns
returns c = last-here _ _ c.loop-last.invariant _ _ c.in_ok-last.ensures.cases.0 c.if-last-eq91.true
