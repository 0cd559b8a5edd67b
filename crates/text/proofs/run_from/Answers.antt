use native.Mathlib.Omega.{arith}
use Rattle.model.specs.Text.{run_byte}
use Rattle.text.proofs.Skipping.{run_stops, run_goes}
use Rattle.text.proofs.Remaining.{left_end, left_more}
use Rattle.text.proofs.run_from.Goals as goal

pub loop-left-preserved : goal.loop-left-preserved
loop-left-preserved c =
    let (one, some) = run_goes c.loop-left.left.now c.loop-left-test.ensures in
    left_more run_byte _ _ _ c.loop-left.invariant 1 one (omega arith) some

pub returns : goal.returns
returns c = (left_end run_byte _ _ _ c.loop-left.invariant (run_stops c.loop-left.left.now c.loop-left-test.ensures), omega arith)
