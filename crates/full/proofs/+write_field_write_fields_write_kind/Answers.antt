use Prim.Native.Nat.{ℕ}
use borrow.Author.Rules.{rules}
use native.Mathlib.Omega.{arith}
use lib.ListN.{length-set}
use Rattle.full.proofs.Measuring.{fields-begin, field-headed, field-less, kind-begins}
use Rattle.full.proofs.Writing.{leaf-asks, leaf-wrote, tuple-asks, suffixes-asks, tuple-wrote, kind-asks, word-asks, name-asks}
use Rattle.full.proofs.Writing.{field-wrote, full_start, full-left, full-asks, full-next, full-fits, full-end}
use Rattle.full.proofs.+write_field_write_fields_write_kind.Goals as goal

pub write_field-named-name-requires : goal.write_field-named-name-requires
write_field-named-name-requires t c = search (rules, field-headed)

pub write_field-write_kind-kind-requires : goal.write_field-write_kind-kind-requires
write_field-write_kind-kind-requires t c = (search (rules, field-less), search (rules, kind-asks))

pub write_field-write_word-requires : goal.write_field-write_word-requires
write_field-write_word-requires t c = search (rules, word-asks)

pub write_field-write_name-requires : goal.write_field-write_name-requires
write_field-write_name-requires t c = search (rules, name-asks)

pub write_field-returns : goal.write_field-returns
write_field-returns t c = search (rules, field-wrote)

pub write_fields-loop-left-init : goal.write_fields-loop-left-init
write_fields-loop-left-init t c = full_start _ _ c.requires (λ j. omega (arith, c.type_inv.b j))

pub write_fields-first-field-requires : goal.write_fields-first-field-requires
write_fields-first-field-requires t c = search (rules, fields-begin, full-left)

pub write_fields-bounds-out-n : goal.write_fields-bounds-out-n
write_fields-bounds-out-n t c = full-fits _ _ _ _ _ c.loop-left.invariant c.loop-left-test.ensures _ c.first-field.ensures

pub write_fields-slice_bounds-write_field-count : goal.write_fields-slice_bounds-write_field-count
write_fields-slice_bounds-write_field-count t c =
    omega (arith, length-set {A = ℕ}, full-fits _ _ _ _ _ c.loop-left.invariant c.loop-left-test.ensures _ c.first-field.ensures)

pub write_fields-slice_bounds-write_field-start : goal.write_fields-slice_bounds-write_field-start
write_fields-slice_bounds-write_field-start t c =
    omega (arith, length-set {A = ℕ}, full-fits _ _ _ _ _ c.loop-left.invariant c.loop-left-test.ensures _ c.first-field.ensures)

pub write_fields-write_field-requires : goal.write_fields-write_field-requires
write_fields-write_field-requires t c = (omega arith, full-asks _ _ _ _ _ c.loop-left.invariant c.loop-left-test.ensures _ c.first-field.ensures)

pub write_fields-loop-left-preserved : goal.write_fields-loop-left-preserved
write_fields-loop-left-preserved t c = full-next _ _ _ _ _ c.loop-left.invariant c.loop-left-test.ensures _ c.first-field.ensures _ _ c.write_field.ensures

pub write_fields-bounds-out-last : goal.write_fields-bounds-out-last
write_fields-bounds-out-last t c =
    omega (arith, length-set {A = ℕ}, (full-end _ _ _ _ _ c.loop-left.invariant c.loop-left-test.ensures _ c.max-last.ensures).inside)

pub write_fields-returns : goal.write_fields-returns
write_fields-returns t c = full-end _ _ _ _ _ c.loop-left.invariant c.loop-left-test.ensures _ c.max-last.ensures

pub write_kind-tuple-requires : goal.write_kind-tuple-requires
write_kind-tuple-requires t c = search (rules, kind-begins)

pub write_kind-write_kind-requires : goal.write_kind-write_kind-requires
write_kind-write_kind-requires t c = leaf-asks _ _ c.requires c.in_default.ensures

pub write_kind-returns-in_default : goal.write_kind-returns-in_default
write_kind-returns-in_default t c = leaf-wrote _ _ c.requires c.in_default.ensures _ _ c.write_kind.ensures

pub write_kind-write_fields-n-requires : goal.write_kind-write_fields-n-requires
write_kind-write_fields-n-requires t c = (omega (arith, c.in-Some.ensures.0.covers), tuple-asks _ _ c.requires _ c.in-Some.ensures)

pub write_kind-write_suffixes-requires : goal.write_kind-write_suffixes-requires
write_kind-write_suffixes-requires t c = suffixes-asks _ _ c.requires _ c.in-Some.ensures _ _ c.write_fields-n.ensures

pub write_kind-overflow_add-result : goal.write_kind-overflow_add-result
write_kind-overflow_add-result t c =
    omega (arith, (tuple-wrote _ _ c.requires _ c.in-Some.ensures _ _ c.write_fields-n.ensures _ _ c.write_suffixes.ensures).inside)

pub write_kind-returns : goal.write_kind-returns
write_kind-returns t c = tuple-wrote _ _ c.requires _ c.in-Some.ensures _ _ c.write_fields-n.ensures _ _ c.write_suffixes.ensures
