use Rattle.std.proofs.Common.{rules}
use Rattle.sheet.proofs.Writing.{writing_inside, writing_more, writing-end}
use Rattle.sheet.proofs.write_lines.Goals as goal

pub loop-left-preserved : goal.loop-left-preserved
loop-left-preserved c = (writing_inside c.args.text.now c.args.out.now _ _ _ _ c.first_line-first.ensures _ _ c.write_line-n.ensures c.loop-left.invariant.0, λ q. writing_more _ _ _ _ _ _ c.first_line-first.ensures _ _ c.write_line-n.ensures q (c.loop-left.invariant.1 q))

pub returns : goal.returns
returns c = writing-end _ _ _ _ _ (search rules) c.loop-left.invariant.1
