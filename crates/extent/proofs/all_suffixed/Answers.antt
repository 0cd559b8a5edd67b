use Rattle.extent.proofs.Reaches.{wrap_end, wrap_headed, wrap_suffix, wrap_next}
use Rattle.extent.proofs.all_suffixed.Goals as goal

pub first-suffix-requires : goal.first-suffix-requires
first-suffix-requires c = wrap_headed c.loop-left.invariant c.loop-left-test.ensures

pub suffixed-e-requires : goal.suffixed-e-requires
suffixed-e-requires c = wrap_suffix c.loop-left.invariant c.loop-left-test.ensures c.first-suffix.ensures

pub loop-left-preserved : goal.loop-left-preserved
loop-left-preserved c = wrap_next c.loop-left.invariant c.loop-left-test.ensures c.first-suffix.ensures c.suffixed-e.ensures

pub returns : goal.returns
returns c = wrap_end c.loop-left.invariant c.loop-left-test.ensures
