use lib.ListN.{length}
use Rattle.sheet.specs.Lines.{SameLine}
use Rattle.sheet.proofs.pass_blocks.Given as goal

abbrev pub invariant-loop-left : goal.invariant-loop-left
invariant-loop-left l = SameLine l.text l.left

abbrev pub decreases-loop-left : goal.decreases-loop-left
decreases-loop-left l = length l.left
