use Rattle.kind_call.proofs.Scanning.{SoFar}
use Rattle.kind_call.proofs.crowded.Given as goal

abbrev pub invariant-loop-i : goal.invariant-loop-i
invariant-loop-i l = SoFar l.s l.left l.i
