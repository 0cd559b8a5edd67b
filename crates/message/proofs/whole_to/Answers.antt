use mathlib.Core.Path.{refl}
use native.Mathlib.Omega.{arith}
use lib.ListN.{length-take}
use Rattle.model.specs.Message.{whole_to}
use Rattle.message.proofs.whole_to.Goals as goal

pub returns : goal.returns
unfolding whole_to
returns c = (rw c.valid_length.ensures.0 refl, omega (arith, length-take c.valid_length.result c.args.t.now))
