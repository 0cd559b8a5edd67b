use native.Mathlib.Omega.{arith}
use borrow.Author.Rules.{rules}
use Rattle.record.proofs.Standing.{kind-headed}
use Rattle.extent.proofs.Reaches.{reach-end, reach-headed, reach-named, reach-asks, reach-less, reach-next, tuple-asks, tuple_extent, leaf_extent, suffixes-ask, kind_extent}
use Rattle.extent.proofs.+of_fields_of_kind.Goals.{of_kind-in-9, of_kind-in_default}
use Rattle.extent.proofs.+of_fields_of_kind.Goals as goal

pub of_fields-first-field-requires : goal.of_fields-first-field-requires
of_fields-first-field-requires t c = reach-headed c.loop-left.invariant c.loop-left-test.ensures

pub of_fields-named-requires : goal.of_fields-named-requires
of_fields-named-requires t c = reach-named c.loop-left.invariant c.loop-left-test.ensures c.first-field.ensures

pub of_fields-of_kind-requires : goal.of_fields-of_kind-requires
of_fields-of_kind-requires t c = (
  omega (arith, reach-less c.loop-left.invariant c.loop-left-test.ensures c.first-field.ensures c.named.ensures),
  reach-asks c.loop-left.invariant c.loop-left-test.ensures c.first-field.ensures c.named.ensures,
)

pub of_fields-loop-left-preserved : goal.of_fields-loop-left-preserved
of_fields-loop-left-preserved t c =
    reach-next c.loop-left.invariant c.loop-left-test.ensures c.first-field.ensures c.named.ensures c.of_kind.ensures c.joined-e.ensures

pub of_fields-returns : goal.of_fields-returns
of_fields-returns t c = reach-end c.loop-left.invariant c.loop-left-test.ensures

pub of_kind-first-base-requires : goal.of_kind-first-base-requires
of_kind-first-base-requires t c = kind-headed _ c.requires

pub of_kind-of_fields-requires : goal.of_kind-of_fields-requires
of_kind-of_fields-requires t c = (omega (arith, c.first-base.ensures.covers), tuple-asks c.first-base.ensures c.in-9.is c.requires)

pub of_kind-all_suffixed-requires : goal.of_kind-all_suffixed-requires
of_kind-all_suffixed-requires t c = suffixes-ask c.first-base.ensures c.requires

pub of_kind-returns : goal.of_kind-returns
of_kind-returns t c =
    kind_extent c.first-base.ensures c.requires {e = c.match-base.e} (elim c.match-base.branch [
      | of_kind-in-9 w ↦ rw w.e-is (tuple_extent c.first-base.ensures w.in-9.is w.of_fields.ensures w.grouped-e.ensures)
      | of_kind-in_default w ↦ rw w.e-is (leaf_extent c.first-base.ensures (search rules) w.is_open_ended.ensures)
    ]) c.all_suffixed.ensures
