use Rattle.text.proofs.Characters.{tails_more}
use Rattle.text.proofs.tails.Goals as goal

pub loop-c-preserved : goal.loop-c-preserved
loop-c-preserved c = tails_more _ _ _ _ c.loop-c.invariant c.loop-c-test.true _ c.in_ok-code.ensures
