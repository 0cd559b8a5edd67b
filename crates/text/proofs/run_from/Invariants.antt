use lib.ListN.{length}
use Rattle.model.specs.Text.{run_byte, run_length}
use Rattle.text.proofs.Remaining.{Left}
use Rattle.text.proofs.run_from.Given as goal

abbrev pub invariant-loop-left : goal.invariant-loop-left
invariant-loop-left l = Left run_byte l.t (run_length l.t) l.left

abbrev pub decreases-loop-left : goal.decreases-loop-left
decreases-loop-left l = length l.left
