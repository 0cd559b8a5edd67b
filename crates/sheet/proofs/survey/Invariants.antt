use mathlib.Core.Path.{◌≡◌}
use lib.ListN.{length}
use Rattle.sheet.proofs.Taking.{Surveying}
use Rattle.sheet.proofs.survey.Given as goal

abbrev pub invariant-loop-left : goal.invariant-loop-left
invariant-loop-left l = Surveying l.text l.left l.line l.seen × (length l.record ≡ 40960) × (length l.scratch ≡ 8192)

abbrev pub decreases-loop-left : goal.decreases-loop-left
decreases-loop-left l = length l.left
