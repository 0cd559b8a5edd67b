use Rattle.std.proofs.Common.{arith, rules, refl}
use Rattle.index.proofs.Walking.{walk_start, walk_none, walk_stop, walk_more, walk_end}
use Rattle.index.proofs.index.Goals as goal

pub loop-left-init : goal.loop-left-init
loop-left-init c = walk_start _ _ _ c.in_ok-left.ensures c.new-notes.ensures.0 c.new-notes.ensures.1

pub returns-in_err-part : goal.returns-in_err-part
returns-in_err-part c = rw c.from_residual-in_err-part.ensures (walk_none _ _ _ c.loop-left.invariant (search rules) c.in_err-part.ensures)

pub returns-in_err-note : goal.returns-in_err-note
returns-in_err-note c = rw c.from_residual-in_err-note.ensures (walk_stop _ _ _ c.loop-left.invariant (search rules) _ c.in_ok-part.ensures _ refl c.note.new.notes c.in_err-note.ensures)

pub loop-left-smaller : goal.loop-left-smaller
loop-left-smaller c = (walk_more _ _ _ c.loop-left.invariant (search rules) _ c.in_ok-part.ensures _ refl _ _ c.in_ok-note.ensures).1

pub loop-left-preserved : goal.loop-left-preserved
loop-left-preserved c = (walk_more _ _ _ c.loop-left.invariant (search rules) _ c.in_ok-part.ensures _ refl _ _ c.in_ok-note.ensures).0

pub returns : goal.returns
returns c = walk_end _ _ _ c.loop-left.invariant (λ i. omega (arith, c.type_inv.sheet i)) (search rules)
