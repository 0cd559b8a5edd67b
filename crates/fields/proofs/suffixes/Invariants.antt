use Rattle.std.proofs.Common.{◌-◌, length}
use Rattle.fields.proofs.Growing.{Growing}
use Rattle.fields.proofs.suffixes.Given as goal

abbrev pub invariant-loop-bracket : goal.invariant-loop-bracket
invariant-loop-bracket l = Growing l.s l.at l.out l.next l.len

abbrev pub decreases-loop-bracket : goal.decreases-loop-bracket
decreases-loop-bracket l = length l.s - l.next
