use Rattle.std.proofs.Common.{rules}
use native.Mathlib.Omega.{arith}
use Rattle.abi.proofs.Nested.{kind-headed, tuple-asks, elementary-asks, tuple-wrote, elementary-wrote, base-asks, base-inside, suffixes-asks, kind-inside, kind-wrote}
use Rattle.abi.proofs.Lists.{fields-start, fields-headed, fields-end, field-named, field-asks, kind-shorter, next-fits, fields-next}
use Rattle.abi.proofs.+write_base_write_fields_write_kind.Goals as goal

pub write_fields-loop-left-init : goal.write_fields-loop-left-init
write_fields-loop-left-init t c = fields-start _ _ c.requires

pub write_fields-first-field-requires : goal.write_fields-first-field-requires
write_fields-first-field-requires t c = fields-headed _ _ _ _ _ c.loop-left.invariant (search rules)

pub write_fields-named-requires : goal.write_fields-named-requires
write_fields-named-requires t c = field-named _ _ _ _ _ c.loop-left.invariant _ (search rules) c.first-field.ensures

pub write_fields-write_kind-n-requires : goal.write_fields-write_kind-n-requires
write_fields-write_kind-n-requires t c = (
  omega (arith, kind-shorter _ _ _ _ _ c.loop-left.invariant _ (search rules) c.first-field.ensures _ c.named.ensures),
  field-asks _ _ _ _ _ c.loop-left.invariant _ (search rules) c.first-field.ensures _ c.named.ensures,
)

pub write_fields-overflow_add-n-in-loop-left : goal.write_fields-overflow_add-n-in-loop-left
write_fields-overflow_add-n-in-loop-left t c = record {
  fits = omega (arith, next-fits _ _ _ _ _ c.loop-left.invariant _ (search rules) c.first-field.ensures _ c.named.ensures _ _ c.write_kind-n.ensures);
}

pub write_fields-loop-left-preserved : goal.write_fields-loop-left-preserved
write_fields-loop-left-preserved t c = fields-next _ _ _ _ _ c.loop-left.invariant _ (search rules) c.first-field.ensures _ c.named.ensures _ _ c.write_kind-n.ensures

pub write_fields-returns : goal.write_fields-returns
write_fields-returns t c = fields-end _ _ _ _ _ c.loop-left.invariant (search rules) _ c.max-last.ensures

pub write_kind-first-base-requires : goal.write_kind-first-base-requires
write_kind-first-base-requires t c = kind-headed _ _ c.requires

pub write_kind-write_base-n-requires : goal.write_kind-write_base-n-requires
write_kind-write_base-n-requires t c = (omega (arith, c.first-base.ensures.covers), base-asks _ _ _ c.first-base.ensures c.requires)

pub write_kind-slice_bounds-write_suffixes-count : goal.write_kind-slice_bounds-write_suffixes-count
write_kind-slice_bounds-write_suffixes-count t c = base-inside _ _ _ c.first-base.ensures _ _ c.write_base-n.ensures c.requires

pub write_kind-slice_bounds-write_suffixes-start : goal.write_kind-slice_bounds-write_suffixes-start
write_kind-slice_bounds-write_suffixes-start t c = base-inside _ _ _ c.first-base.ensures _ _ c.write_base-n.ensures c.requires

pub write_kind-write_suffixes-requires : goal.write_kind-write_suffixes-requires
write_kind-write_suffixes-requires t c = suffixes-asks _ _ _ c.first-base.ensures _ _ c.write_base-n.ensures c.requires

pub write_kind-overflow_add-result : goal.write_kind-overflow_add-result
write_kind-overflow_add-result t c = record { fits = omega (arith, kind-inside _ _ _ c.first-base.ensures _ _ c.write_base-n.ensures _ _ c.write_suffixes.ensures c.requires) }

pub write_kind-returns : goal.write_kind-returns
write_kind-returns t c = kind-wrote _ _ _ c.first-base.ensures _ _ c.write_base-n.ensures _ _ c.write_suffixes.ensures

pub write_base-write_fields-requires : goal.write_base-write_fields-requires
write_base-write_fields-requires t c = (omega arith, tuple-asks _ _ _ c.in-9.is c.requires)

pub write_base-write_elementary-requires : goal.write_base-write_elementary-requires
write_base-write_elementary-requires t c = elementary-asks _ _ _ (search rules) c.requires

pub write_base-returns-in-9 : goal.write_base-returns-in-9
write_base-returns-in-9 t c = tuple-wrote _ _ _ _ _ c.in-9.is c.write_fields.ensures

pub write_base-returns-in_default : goal.write_base-returns-in_default
write_base-returns-in_default t c = elementary-wrote _ _ _ _ _ (search rules) c.write_elementary.ensures
