use lib.ListN.{length}
use Rattle.judge.proofs.Lasting.{Reached}
use Rattle.judge.proofs.last_suffix.Given as goal

abbrev pub invariant-loop-rest : goal.invariant-loop-rest
invariant-loop-rest l = Reached l.b l.last

abbrev pub decreases-loop-rest : goal.decreases-loop-rest
decreases-loop-rest l = length l.last
