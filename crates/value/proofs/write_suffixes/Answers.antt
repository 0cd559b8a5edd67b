use Rattle.std.proofs.Common.{arith}
use Rattle.value.proofs.Suffixing.{writing_start, writing-room, writing-next, writing-end}
use Rattle.value.proofs.write_suffixes.Goals as goal

pub loop-first-init : goal.loop-first-init
loop-first-init c = writing_start _ _ _ c.requires

pub write-requires : goal.write-requires
write-requires c = writing-room _ _ _ _ _ _ c.loop-first.invariant _ _ c.in-Some.ensures.first

pub overflow_add-end : goal.overflow_add-end
overflow_add-end c = let r = writing-room _ _ _ _ _ _ c.loop-first.invariant _ _ c.in-Some.ensures.first in omega arith

pub loop-first-preserved : goal.loop-first-preserved
loop-first-preserved c = writing-next _ _ _ _ _ _ c.loop-first.invariant _ _ c.in-Some.ensures.first _ _ c.write.ensures c.record_length-end.ensures

pub returns : goal.returns
returns c = writing-end _ _ _ _ _ _ c.loop-first.invariant c.in_default.ensures.first
