use Rattle.std.proofs.Common.{arith}
use Rattle.layout.proofs.Copies.{part-put}
use Rattle.layout.proofs.copy_bytes.Goals as goal

pub returns : goal.returns
returns g c = part-put g.row.N _ _ c.args.src.now _ _ _ (λ k. omega (arith, c.type_inv.src k)) c.requires.inside c.get.ensures c.put.ensures
