use Rattle.calldata.proofs.Telling.{write-headed, write-named, write_asks, write_place, write_next, write_end}
use Rattle.calldata.proofs.write_heads.Goals as goal

pub first-field-requires : goal.first-field-requires
first-field-requires c = write-headed c.loop-left.invariant c.loop-left-test.ensures

pub named-requires : goal.named-requires
named-requires c = write-named c.loop-left.invariant c.loop-left-test.ensures c.first-field.ensures

pub of_kind-requires : goal.of_kind-requires
of_kind-requires c = write_asks c.loop-left.invariant c.loop-left-test.ensures c.first-field.ensures c.named.ensures

pub write_head-n-requires : goal.write_head-n-requires
write_head-n-requires c = (write_place c.loop-left.invariant c.loop-left-test.ensures c.first-field.ensures c.named.ensures).2

pub loop-left-preserved : goal.loop-left-preserved
loop-left-preserved c =
    write_next c.loop-left.invariant c.loop-left-test.ensures c.first-field.ensures c.named.ensures c.of_kind.ensures _ _ c.write_head-n.ensures

pub returns : goal.returns
returns c = write_end c.loop-left.invariant c.loop-left-test.ensures
