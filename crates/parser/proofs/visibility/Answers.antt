use Rattle.parser.proofs.Modifying.{visible-unbegun, visible-there, visible-other}
use Rattle.parser.proofs.visibility.Goals as goal

pub returns-in-Some : goal.returns-in-Some
returns-in-Some c = visible-there _ _ _ _ c.requires c.in-Some.ensures _ c.is_visibility.ensures c.if-is_visibility.true

pub returns-in_default : goal.returns-in_default
returns-in_default c = visible-other _ _ _ _ c.requires c.in-Some.ensures _ c.is_visibility.ensures c.if-is_visibility.false

pub returns-in_default-2 : goal.returns-in_default-2
returns-in_default-2 c = visible-unbegun _ _ c.requires (rw c.in_default.is at c.modifier.ensures)
