use Rattle.layout.proofs.Copies.{copied_ends}
use Rattle.layout.proofs.copy_ends.Goals as goal

pub returns : goal.returns
returns g c = copied_ends g.row.N _ _ c.args.src.now _ _ c.requires.room c.requires.enough.0 c.requires.enough.1 c.copy_bytes.ensures c.copy_bytes-2.ensures
