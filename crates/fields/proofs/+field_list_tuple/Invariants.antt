use Rattle.std.proofs.Common.{◌-◌, ◌+◌, ◌*◌, length}
use Rattle.fields.proofs.Family.{SoFar}
use Rattle.fields.proofs.+field_list_tuple.Given as goal

abbrev pub decreases-field : goal.decreases-field
decreases-field l = 3 * l.d + 1

abbrev pub decreases-list : goal.decreases-list
decreases-list l = 3 * l.d + 2

abbrev pub decreases-tuple : goal.decreases-tuple
decreases-tuple l = 3 * l.d + 3

abbrev pub invariant-list-loop-got : goal.invariant-list-loop-got
invariant-list-loop-got l = SoFar l.s l.at l.sort l.d l.out l.from l.end l.len

abbrev pub decreases-list-loop-got : goal.decreases-list-loop-got
decreases-list-loop-got l = length l.s - l.from
