use Rattle.std.proofs.Common.{rules}
use native.Mathlib.Omega.{arith}
use Rattle.abi.proofs.Walks.{suffixes-start, suffixes-headed, suffixes-end, suffix-asks, suffixes-next}
use Rattle.abi.proofs.write_suffixes.Goals as goal

pub first-suffix-requires : goal.first-suffix-requires
first-suffix-requires c = suffixes-headed _ _ _ _ _ c.loop-left.invariant (search rules)

pub write_suffix-n-requires : goal.write_suffix-n-requires
write_suffix-n-requires c = suffix-asks _ _ _ _ _ c.loop-left.invariant _ (search rules) c.first-suffix.ensures

pub overflow_add-n : goal.overflow_add-n
overflow_add-n c = record { fits = omega (arith, (suffixes-next _ _ _ _ _ c.loop-left.invariant _ (search rules) c.first-suffix.ensures _ _ c.write_suffix-n.ensures).inside) }

pub loop-left-preserved : goal.loop-left-preserved
loop-left-preserved c = suffixes-next _ _ _ _ _ c.loop-left.invariant _ (search rules) c.first-suffix.ensures _ _ c.write_suffix-n.ensures

pub returns : goal.returns
returns c = suffixes-end _ _ _ _ _ c.loop-left.invariant (search rules)

pub loop-left-init : goal.loop-left-init
loop-left-init c = suffixes-start _ _ c.requires
