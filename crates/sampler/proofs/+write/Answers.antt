use native.Mathlib.Omega.{arith}
use mathlib.Core.Path.{ap}
use lib.ListN.{length, length-append}
use Rattle.sampler.proofs.Texts.{more_long, rest_full, kind_full}
use Rattle.sampler.proofs.+write.Goals as goal

pub ListAt::write-write-requires : goal.ListAt::write-write-requires
ListAt::write-write-requires t c =
    let long = more_long _ _ _ c.in-Some.ensures in
    (omega (arith, rest_full), omega arith)

pub ListAt::write-write_rest-requires : goal.ListAt::write-write_rest-requires
ListAt::write-write_rest-requires t c =
    let long = more_long _ _ _ c.in-Some.ensures in
    (omega (arith, kind_full), omega (arith, simp length-append at (ap length c.write.ensures)))
