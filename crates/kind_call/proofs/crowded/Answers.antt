use Rattle.kind_call.proofs.Scanning.{so_end}
use Rattle.kind_call.proofs.crowded.Goals as goal

pub returns : goal.returns
returns c = so_end _ _ _ c.loop-i.invariant c.loop-i-test.false
