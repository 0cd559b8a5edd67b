use lib.ListN.{length}
use Rattle.model.specs.Text.{span, blank}
use Rattle.text.proofs.Remaining.{Left}
use Rattle.text.proofs.blanks_slowly.Given as goal

abbrev pub invariant-loop-n : goal.invariant-loop-n
invariant-loop-n l = Left blank l.t (span blank l.t) l.left

abbrev pub decreases-loop-n : goal.decreases-loop-n
decreases-loop-n l = length l.left
