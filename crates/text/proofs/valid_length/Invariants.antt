use lib.ListN.{length}
use Rattle.model.specs.Text.{character, valid_length}
use Rattle.text.proofs.Remaining.{Left}
use Rattle.text.proofs.valid_length.Given as goal

abbrev pub invariant-loop-c : goal.invariant-loop-c
invariant-loop-c l = Left character l.s (valid_length l.s) l.left

abbrev pub decreases-loop-c : goal.decreases-loop-c
decreases-loop-c l = length l.left
