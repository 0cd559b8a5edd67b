use Rattle.std.proofs.Common.{arith}
use Rattle.layout.proofs.Copies.{part_below}
use Rattle.layout.proofs.get4.Goals as goal

pub returns : goal.returns
returns c = (c.get.ensures, omega (arith, c.get.ensures, part_below 4 c.args.b.now c.args.at (λ k. omega (arith, c.type_inv.b k)) c.requires))
