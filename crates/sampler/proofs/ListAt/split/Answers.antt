use native.Mathlib.Omega.{arith}
use Rattle.sampler.proofs.Parts.{passing_first, first_there, passing_next, passing_none}
use Rattle.sampler.proofs.ListAt.split.Goals as goal

pub loop-first-init : goal.loop-first-init
loop-first-init c = passing_first _ _ c.args.self.there.1

pub loop-first-preserved : goal.loop-first-preserved
loop-first-preserved c =
    passing_next _ _ _ _ c.loop-first.invariant c.args.self.there.0 (omega arith) _ c.kinds_of.ensures.0 _ c.lists_of-lists.ensures.0 c.lists_of-lists.ensures.1 c.if-place-n.false

pub invariant_of-result : goal.invariant_of-result
invariant_of-result c =
    let there = first_there _ _ _ _ c.loop-first.invariant c.args.self.there.0 (omega arith) _ c.kinds_of.ensures.0 _ c.lists_of-lists.ensures.0 c.lists_of-lists.ensures.1 c.if-place-n.true in
    record { there = omega arith }

pub returns : goal.returns
returns c = passing_none _ _ _ _ c.loop-first.invariant c.loop-first-test.false

pub returns-else-place-n : goal.returns-else-place-n
returns-else-place-n c =
    passing_none _ _ _ _
    (passing_next _ _ _ _ c.loop-first.invariant c.args.self.there.0 (omega arith) _ c.kinds_of.ensures.0 _ c.lists_of-lists.ensures.0 c.lists_of-lists.ensures.1 c.if-place-n.false)
    (omega arith)
