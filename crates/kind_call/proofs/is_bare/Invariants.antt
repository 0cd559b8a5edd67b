use Rattle.kind_call.proofs.Scanning.{BareFar}
use Rattle.kind_call.proofs.is_bare.Given as goal

abbrev pub invariant-loop-i : goal.invariant-loop-i
invariant-loop-i l = BareFar l.s l.behind l.i
