use Rattle.parser.proofs.Modifying.{stated-unbegun, stated-visible, stated-first, stated-other}
use Rattle.parser.proofs.modifiers.Goals as goal

pub returns-in_default : goal.returns-in_default
returns-in_default c = stated-unbegun _ _ c.requires c.in_default.ensures

pub returns-then-is_visibility : goal.returns-then-is_visibility
returns-then-is_visibility c = stated-visible _ _ _ _ c.requires c.in-Some.ensures _ c.is_visibility.ensures _ c.if-is_visibility.true c.option.ensures

pub returns-in-Some-mutability : goal.returns-in-Some-mutability
returns-in-Some-mutability c =
    stated-first _ _ _ _ c.requires c.in-Some.ensures _ c.is_visibility.ensures _ c.mutability.ensures _ _ c.in-Some-mutability.is c.visibility.ensures

pub returns-in-None : goal.returns-in-None
returns-in-None c = stated-other _ _ _ _ c.requires c.in-Some.ensures _ c.is_visibility.ensures _ c.mutability.ensures c.if-is_visibility.false c.in-None.is
