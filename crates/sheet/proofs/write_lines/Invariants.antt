use Prim.Native.Nat.{◌≤◌}
use lib.ListN.{length}
use Rattle.sheet.specs.Lines.{LinesFit}
use Rattle.sheet.proofs.Writing.{Writing}
use Rattle.sheet.proofs.write_lines.Given as goal

abbrev pub invariant-loop-left : goal.invariant-loop-left
invariant-loop-left l = (l.n ≤ length l.out) × ((q : LinesFit l.text l.initial.out) → Writing l.text l.initial.out l.out l.left l.n q)

abbrev pub decreases-loop-left : goal.decreases-loop-left
decreases-loop-left l = length l.left
