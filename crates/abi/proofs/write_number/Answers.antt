use Rattle.abi.proofs.Puts.{usual-width}
use Rattle.abi.proofs.write_number.Goals as goal

pub write_word-requires : goal.write_word-requires
write_word-requires c = rw (usual-width _ c.if-v-eq-USUAL_WIDTH.true) at c.requires

pub returns-then-v-eq-USUAL_WIDTH : goal.returns-then-v-eq-USUAL_WIDTH
returns-then-v-eq-USUAL_WIDTH c = rw (usual-width _ c.if-v-eq-USUAL_WIDTH.true) c.write_word.ensures
