use Rattle.std.proofs.Common.{◌≡◌, ◌-◌, length}
use Rattle.replay.proofs.forget_marks.Given as goal

abbrev pub invariant-loop-at : goal.invariant-loop-at
invariant-loop-at l = length l.b ≡ length l.initial.b

abbrev pub decreases-loop-at : goal.decreases-loop-at
decreases-loop-at l = l.end - l.at
