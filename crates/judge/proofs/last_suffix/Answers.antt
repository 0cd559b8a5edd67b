use Rattle.std.proofs.Common.{rules}
use Rattle.judge.proofs.Lasting.{reached-next, reached-last}
use Rattle.judge.proofs.last_suffix.Goals as goal

pub returns-then-is_empty : goal.returns-then-is_empty
returns-then-is_empty c = reached-last _ _ c.loop-rest.invariant _ c.first.ensures (search rules)

pub loop-rest-preserved : goal.loop-rest-preserved
loop-rest-preserved c = reached-next _ _ c.loop-rest.invariant _ c.first.ensures (search rules)
