use mathlib.Core.Path.{◌≡◌}
use Prim.Native.Nat.{◌<◌}
use lib.ListN.{length, drop}
use Rattle.repeat.specs.Prints.{print}
use Rattle.repeat.proofs.print.Given as goal

abbrev pub invariant-loop-left : goal.invariant-loop-left
invariant-loop-left l = (l.h < 4294967296) × (print 0 l.t ≡ print l.h l.left)

abbrev pub decreases-loop-left : goal.decreases-loop-left
decreases-loop-left l = length l.left

abbrev pub invariant-loop-b : goal.invariant-loop-b
invariant-loop-b l = (l.h < 4294967296) × (print 0 l.t ≡ print l.h (drop l.b-index l.b-items) × (length l.b-items < 4))
