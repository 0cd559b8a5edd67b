use Rattle.strip.proofs.Scanning.{Open}
use Rattle.strip.proofs.closing.Given as goal

abbrev pub invariant-loop-i : goal.invariant-loop-i
invariant-loop-i l = Open l.t l.depth l.i
