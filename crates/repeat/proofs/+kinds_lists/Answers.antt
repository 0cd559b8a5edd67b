use Rattle.std.proofs.Common.{rules, arith, ℕ, length-drop}
use Rattle.repeat.proofs.Apart.{tuples-ask, tuples_then}
use Rattle.repeat.proofs.Fields.{field_headed, field-kind, walked_more, walked_differ, walked-short, walked_end}
use Rattle.repeat.proofs.+kinds_lists.Goals as goal

pub kinds-lists-requires : goal.kinds-lists-requires
kinds-lists-requires t c = (omega (arith, c.first-x.ensures.covers), tuples-ask _ _ _ _ c.first-x.ensures c.first-y.ensures c.if-x-eq-TUPLE.true c.if-y-eq-TUPLE.true c.requires)

pub kinds-returns-then-lists : goal.kinds-returns-then-lists
kinds-returns-then-lists t c = tuples_then _ _ _ _ c.first-x.ensures c.first-y.ensures c.if-x-eq-TUPLE.true c.if-y-eq-TUPLE.true _ c.lists.ensures _ c.if-lists.true c.eq.ensures

pub lists-returns-then-is_empty : goal.lists-returns-then-is_empty
lists-returns-then-is_empty t c = walked-short _ _ _ _ c.loop-left.invariant (search rules) (search rules)

pub lists-first-y-requires : goal.lists-first-y-requires
lists-first-y-requires t c = field_headed _ c.first-x.result c.loop-left.invariant.other (search rules)

pub lists-kinds-requires : goal.lists-kinds-requires
lists-kinds-requires t c = (
  omega (arith, c.first-x.ensures.covers, c.named.ensures.covers, c.loop-left.invariant.short, length-drop {A = ℕ}),
  (field-kind _ _ c.loop-left.invariant.one (omega arith) _ c.first-x.ensures c.named.ensures, field-kind _ _ c.loop-left.invariant.other (omega arith) _ c.first-y.ensures c.named-in-loop-left.ensures),
)

pub lists-returns-then-not-kinds : goal.lists-returns-then-not-kinds
lists-returns-then-not-kinds t c = walked_differ _ _ _ _ _ _ c.first-x.ensures c.first-y.ensures c.named.ensures c.named-in-loop-left.ensures (omega arith) (omega arith) _ c.kinds.ensures _ _ c.loop-left.invariant c.if-not-kinds.true

pub lists-loop-left-preserved : goal.lists-loop-left-preserved
lists-loop-left-preserved t c = walked_more _ _ _ _ _ _ c.first-x.ensures c.first-y.ensures c.named.ensures c.named-in-loop-left.ensures (omega arith) (omega arith) _ c.kinds.ensures _ _ c.loop-left.invariant c.if-not-kinds.false

pub lists-returns : goal.lists-returns
lists-returns t c = walked_end _ _ _ _ c.loop-left.invariant _ (search rules) c.is_empty-2.ensures
