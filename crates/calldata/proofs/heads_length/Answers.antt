use Rattle.calldata.proofs.Telling.{count-start, count-headed, count_next, count-end}
use Rattle.calldata.proofs.heads_length.Goals as goal

pub loop-left-init : goal.loop-left-init
loop-left-init c = count-start _ c.requires

pub first-requires : goal.first-requires
first-requires c = count-headed c.loop-left.invariant c.loop-left-test.ensures

pub loop-left-preserved : goal.loop-left-preserved
loop-left-preserved c = count_next c.loop-left.invariant c.loop-left-test.ensures c.first.ensures

pub returns : goal.returns
returns c = count-end c.loop-left.invariant c.loop-left-test.ensures
