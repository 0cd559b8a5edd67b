use borrow.Author.Rules.{rules}
use native.Mathlib.Omega.{arith}
use Rattle.full.proofs.Measuring.{fields-first, count-start, count-next, count-end, tuple-extra, field-extra}
use Rattle.full.proofs.+extra_field_extra_fields_extra_kind.Goals as goal

pub extra_fields-loop-left-init : goal.extra_fields-loop-left-init
extra_fields-loop-left-init t c = count-start _ c.requires (λ j. omega (arith, c.type_inv.b j))

pub extra_fields-extra_field-n-requires : goal.extra_fields-extra_field-n-requires
extra_fields-extra_field-n-requires t c = (omega arith, fields-first _ _ c.loop-left.invariant.some c.loop-left-test.ensures c.first-field.ensures)

pub extra_fields-loop-left-preserved : goal.extra_fields-loop-left-preserved
extra_fields-loop-left-preserved t c = count-next _ _ _ c.loop-left.invariant _ _ c.loop-left-test.ensures c.first-field.ensures c.extra_field-n.ensures

pub extra_fields-returns : goal.extra_fields-returns
extra_fields-returns t c = count-end _ _ _ c.loop-left.invariant (λ j. omega (arith, c.type_inv.b j)) c.loop-left-test.ensures

pub extra_kind-returns-in-Some : goal.extra_kind-returns-in-Some
extra_kind-returns-in-Some t c = tuple-extra _ c.requires _ c.in-Some.ensures _ c.extra_fields.ensures

pub extra_field-returns : goal.extra_field-returns
extra_field-returns t c = search (rules, field-extra)
