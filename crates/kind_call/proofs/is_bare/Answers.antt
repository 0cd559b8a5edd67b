use Rattle.std.proofs.Common.{refl, sym}
use Rattle.kind_call.proofs.Scanning.{bare-stop, bare-next, bare-end}
use Rattle.kind_call.proofs.is_bare.Goals as goal

pub returns-then-not-stands : goal.returns-then-not-stands
returns-then-not-stands c = bare-stop _ _ _ c.loop-i.invariant _ c.loop-i-test.true c.stands.ensures c.if-not-stands.true

pub loop-i-preserved : goal.loop-i-preserved
loop-i-preserved c = bare-next _ _ _ c.loop-i.invariant _ c.loop-i-test.true c.stands.ensures _ c.if-not-stands.false c.closes-behind.ensures

pub returns : goal.returns
returns c = bare-end _ _ _ c.loop-i.invariant c.loop-i-test.false
