use Rattle.std.proofs.Common.{length}
use Rattle.value.proofs.Suffixing.{Writing}
use Rattle.value.proofs.write_suffixes.Given as goal

abbrev pub invariant-loop-first : goal.invariant-loop-first
invariant-loop-first l = Writing l.t l.o l.initial.out l.left l.end l.out

abbrev pub decreases-loop-first : goal.decreases-loop-first
decreases-loop-first l = length l.left
