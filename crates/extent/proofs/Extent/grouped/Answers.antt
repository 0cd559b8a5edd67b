use Rattle.extent.proofs.Reaches.{group-dynamic, group-static}
use Rattle.extent.proofs.Extent.grouped.Goals as goal

pub returns-then-self : goal.returns-then-self
returns-then-self c = group-dynamic _ c.if-self.true

pub returns-else-self : goal.returns-else-self
returns-else-self c = group-static _ c.if-self.false
