use Rattle.abi.proofs.Puts.{room-text, wrote-text}
use Rattle.abi.proofs.Leaves.{numbered-text, lone-text}
use Rattle.abi.proofs.write_elementary.Goals as goal

pub write_numbered-requires-clause-room : goal.write_numbered-requires-clause-room
write_numbered-requires-clause-room c = room-text _ _ (numbered-text _ _ _ c.requires c.if-body-eq-NUMBER.true) _ c.requires

pub write_lone_word-requires : goal.write_lone_word-requires
write_lone_word-requires c = room-text _ _ (lone-text _ _ _ c.requires c.if-body-eq-NUMBER.false) _ c.requires

pub returns-then-body-eq-NUMBER : goal.returns-then-body-eq-NUMBER
returns-then-body-eq-NUMBER c = wrote-text _ _ (numbered-text _ _ _ c.requires c.if-body-eq-NUMBER.true) _ _ _ c.write_numbered.ensures

pub returns-else-body-eq-NUMBER : goal.returns-else-body-eq-NUMBER
returns-else-body-eq-NUMBER c = wrote-text _ _ (lone-text _ _ _ c.requires c.if-body-eq-NUMBER.false) _ _ _ c.write_lone_word.ensures
