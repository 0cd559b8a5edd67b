use Rattle.value.proofs.Leaves.{leaf-puts}
use Rattle.value.proofs.Run.write_field.Goals as goal

pub returns : goal.returns
returns c = leaf-puts _ _ _ _ c.requires _ _ _ _ _ c.record_length-base_length.ensures.0 c.front.ensures c.copy.ensures c.write.ensures c.write_suffixes.ensures
