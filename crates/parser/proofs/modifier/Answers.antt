use Rattle.parser.proofs.Modifying.{begun, unbegun}
use Rattle.parser.proofs.modifier.Goals as goal

pub returns-then-begins_modifier : goal.returns-then-begins_modifier
returns-then-begins_modifier c = begun _ _ _ _ c.look-seen.ensures c.begins_modifier.ensures c.if-begins_modifier.true _ _ c.next_word.ensures

pub returns : goal.returns
returns c = unbegun _ _ _ _ c.look-seen.ensures c.begins_modifier.ensures c.if-begins_modifier.false
