use Rattle.layout.proofs.Copies.{part_read}
use Rattle.layout.proofs.get.Goals as goal

pub returns : goal.returns
returns g c = part_read c.args.b.now c.args.at g.row.N _ _ c.requires.enough c.requires.few c.copy_from_slice.ensures.after c.from_le_bytes.ensures
