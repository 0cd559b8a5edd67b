use Rattle.value.proofs.Runs.{PeeledTo}
use Rattle.value.proofs.from_str.Given as goal

abbrev pub invariant-loop-peeled : goal.invariant-loop-peeled
invariant-loop-peeled l = PeeledTo l.t l.end l.len

abbrev pub decreases-loop-peeled : goal.decreases-loop-peeled
decreases-loop-peeled l = l.end
