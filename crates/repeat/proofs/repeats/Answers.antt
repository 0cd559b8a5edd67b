use Rattle.repeat.proofs.Whole.{record-headed, two-none, lines-ask, lists-tell, one-none, other-none}
use Rattle.repeat.proofs.repeats.Goals as goal

pub first-requires : goal.first-requires
first-requires c = record-headed _ _ c.requires.one

pub first-requires-2 : goal.first-requires-2
first-requires-2 c = record-headed _ _ c.requires.other

pub lists-requires : goal.lists-requires
lists-requires c = lines-ask _ _ _ _ c.first.ensures c.first-2.ensures c.if-first.false _ _ c.in-Some-Some.ensures c.in-Some-Some.ensures' c.requires

pub returns-then-eq : goal.returns-then-eq
returns-then-eq c = lists-tell _ _ _ _ c.first.ensures c.first-2.ensures c.if-first.false _ _ c.in-Some-Some.ensures c.in-Some-Some.ensures' _ c.eq.ensures c.if-eq.true _ c.lists.ensures

pub returns-in-None-None : goal.returns-in-None-None
returns-in-None-None c = two-none _ _ _ _ c.first.ensures c.first-2.ensures c.if-first.false c.in-None-None.ensures c.in-None-None.ensures'

pub returns-in_default : goal.returns-in_default
returns-in_default c = one-none _ _ _ _ c.first.ensures c.first-2.ensures c.if-first.false _ c.in_default.ensures c.in_default.ensures'

pub returns-in_default-2 : goal.returns-in_default-2
returns-in_default-2 c = other-none _ _ _ _ c.first.ensures c.first-2.ensures c.if-first.false _ c.in_default.ensures c.in_default.ensures'
