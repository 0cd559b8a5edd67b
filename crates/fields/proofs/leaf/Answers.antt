use Rattle.fields.proofs.LeafFields.{leaf-bad, leaf_room, leaf-put}
use Rattle.fields.proofs.leaf.Goals as goal

pub returns-in-Err : goal.returns-in-Err
returns-in-Err c = leaf-bad _ _ _ c.run.ensures.0 _ _ _ c.requires.inside c.in-Err.ensures

pub write_field-requires : goal.write_field-requires
write_field-requires c = leaf_room _ _ _ c.run.ensures.0 c.run.ensures.1 _ c.requires _ c.in-Ok.ensures _ _ c.is_located.ensures _ _ _ c.mark_name-named.ensures

pub returns : goal.returns
returns c = leaf-put _ _ _ c.run.ensures.0 c.run.ensures.1 _ c.requires _ c.in-Ok.ensures _ _ c.is_located.ensures _ _ _ c.mark_name-named.ensures _ _ _ c.field_length.ensures c.from.ensures c.write_field.ensures
