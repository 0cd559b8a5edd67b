use Rattle.std.proofs.Common.{ap, ◌∙◌, take}
use Rattle.model.specs.Layout.{little_endian}
use Rattle.model.proofs.Pieces.{le_length}
use Rattle.layout.proofs.Puts.{put_part}
use Rattle.layout.proofs.Copies.{le_eight, le_take}
use Rattle.layout.proofs.put.Goals as goal

pub returns : goal.returns
returns g c =
    let n = g.row.N in
    let v = c.args.v in
    put_part c.args.o n _ _ (little_endian n v) (c.copy_from_slice.ensures.after ∙ ap (take n) (c.to_le_bytes.ensures ∙ le_eight v) ∙ le_take n 8 v c.requires.few) (le_length n v)
