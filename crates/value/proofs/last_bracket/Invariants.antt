use Rattle.std.proofs.Common.{length}
use Rattle.value.proofs.Peeling.{NoneBehind}
use Rattle.value.proofs.last_bracket.Given as goal

abbrev pub invariant-loop-last : goal.invariant-loop-last
invariant-loop-last l = NoneBehind l.t l.before

abbrev pub decreases-loop-last : goal.decreases-loop-last
decreases-loop-last l = length l.before
