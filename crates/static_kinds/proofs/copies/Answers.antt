use Rattle.static_kinds.proofs.Leaves.{copy_end, copy_headed, copy_long, copy_next}
use Rattle.static_kinds.proofs.copies.Goals as goal

pub first-suffix-requires : goal.first-suffix-requires
first-suffix-requires c = copy_headed c.loop-left.invariant c.loop-left-test.ensures

pub get8-requires : goal.get8-requires
get8-requires c = copy_long c.loop-left.invariant c.loop-left-test.ensures c.first-suffix.ensures

pub loop-left-preserved : goal.loop-left-preserved
loop-left-preserved c = copy_next c.loop-left.invariant c.loop-left-test.ensures c.first-suffix.ensures c.get8.ensures c.times-n.ensures

pub returns : goal.returns
returns c = copy_end c.loop-left.invariant c.loop-left-test.ensures
