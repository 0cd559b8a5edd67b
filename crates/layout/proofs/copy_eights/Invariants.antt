use Rattle.layout.proofs.Copies.{Copied}
use Rattle.layout.proofs.copy_eights.Given as goal

abbrev pub invariant-loop-i : goal.invariant-loop-i
invariant-loop-i l = Copied l.initial.out l.at l.src l.out l.i
