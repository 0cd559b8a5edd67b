use mathlib.Core.Path.{ap}
use native.Mathlib.Omega.{arith}
use lib.Dec.{leb}
use Rattle.model.specs.Message.{reach}
use Rattle.message.proofs.Writing.{context-is}
use Rattle.message.proofs.write_context.Goals as goal

pub returns : goal.returns
returns c = (
  rw (c.write-4.ensures.0, c.ellipsis-2.ensures.0, c.write-3.ensures.0, c.whole_to.ensures.0, c.part-right.ensures.0, c.push.ensures.items, c.write-2.ensures.0, c.whole_from.ensures.0, c.part-left.ensures.0, c.write.ensures.0, c.ellipsis.ensures.0)
      (context-is c.args.line.now.items c.args.s.now c.args.p _ _ c.saturating_sub-start.ensures (ap (λ x. leb x reach) c.saturating_sub.ensures)),
  omega arith,
)
