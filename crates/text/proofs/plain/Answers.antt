use Rattle.text.proofs.Numbers.{digits_more}
use Rattle.text.proofs.plain.Goals as goal

pub loop-c-preserved : goal.loop-c-preserved
loop-c-preserved c = digits_more _ _ _ _ c.loop-c.invariant c.loop-c-test.true _ _ c.in_ok-digit.ensures c.in_ok-n.ensures
