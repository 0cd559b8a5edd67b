use Rattle.parser.proofs.Wholes.{front-numbered, front-bare}
use Rattle.parser.proofs.front.Goals as goal

pub returns-then-ne : goal.returns-then-ne
returns-then-ne c = front-numbered _ _ _ _ _ _ _ c.code.ensures.0 c.header.ensures c.ne.ensures _ c.requires c.put2.ensures c.if-ne.true

pub returns-else-ne : goal.returns-else-ne
returns-else-ne c = front-bare _ _ _ _ _ _ _ c.code.ensures.0 c.header.ensures c.ne.ensures c.if-ne.false
