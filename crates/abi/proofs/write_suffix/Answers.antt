use native.Mathlib.Omega.{arith}
use lib.ListN.{length-set}
use Rattle.abi.proofs.Puts.{room-text, wrote-text}
use Rattle.abi.proofs.Leaves.{sized-long, sized-least, sized-text, bare-text, number-room, closing, sized-put}
use Rattle.abi.proofs.write_suffix.Goals as goal

pub bounds-out-0 : goal.bounds-out-0
bounds-out-0 c = omega (arith, sized-least _ _ _ c.requires c.if-kind-eq-SIZED.true)

pub slice_bounds-write_decimal-count : goal.slice_bounds-write_decimal-count
slice_bounds-write_decimal-count c = rw length-set (omega (arith, sized-least _ _ _ c.requires c.if-kind-eq-SIZED.true))

pub slice_bounds-write_decimal-start : goal.slice_bounds-write_decimal-start
slice_bounds-write_decimal-start c = omega (arith, sized-least _ _ _ c.requires c.if-kind-eq-SIZED.true, length-set c.args.out.now 0 91)

pub get8-requires : goal.get8-requires
get8-requires c = omega (arith, sized-long _ _ _ c.requires c.if-kind-eq-SIZED.true)

pub write_decimal-n-requires : goal.write_decimal-n-requires
write_decimal-n-requires c = number-room _ _ (room-text _ _ (sized-text _ _ _ c.requires c.if-kind-eq-SIZED.true _ c.get8.ensures) _ c.requires)

pub bounds-out-n : goal.bounds-out-n
bounds-out-n c = closing _ _ (room-text _ _ (sized-text _ _ _ c.requires c.if-kind-eq-SIZED.true _ c.get8.ensures) _ c.requires) _ _ c.write_decimal-n.ensures

pub write_word-requires : goal.write_word-requires
write_word-requires c = room-text _ _ (bare-text _ _ _ c.requires c.if-kind-eq-SIZED.false) _ c.requires

pub returns-then-kind-eq-SIZED : goal.returns-then-kind-eq-SIZED
returns-then-kind-eq-SIZED c =
    let e = sized-text _ _ _ c.requires c.if-kind-eq-SIZED.true _ c.get8.ensures in
    wrote-text _ _ e _ _ _ (sized-put _ _ (room-text _ _ e _ c.requires) _ _ c.write_decimal-n.ensures)

pub returns-else-kind-eq-SIZED : goal.returns-else-kind-eq-SIZED
returns-else-kind-eq-SIZED c = wrote-text _ _ (bare-text _ _ _ c.requires c.if-kind-eq-SIZED.false) _ _ _ c.write_word.ensures
