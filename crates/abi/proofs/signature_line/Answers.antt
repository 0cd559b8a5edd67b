use Rattle.std.proofs.Common.{ap}
use Rattle.std.specs.Prelude.{Err}
use native.Mathlib.Omega.{arith}
use lib.ListN.{length-set}
use Rattle.abi.proofs.Whole.{signature-full, signature-line, signature-colon, outs-asks, signature-fits, signature-ends}
use Rattle.abi.proofs.signature_line.Goals as goal

pub returns-then-text-name : goal.returns-then-text-name
returns-then-text-name c = signature-full _ _ _ _ _ (ap Err c.into.ensures) c.if-text-name.true

pub write_line-line-requires : goal.write_line-line-requires
write_line-line-requires c = signature-line _ _ _ _ c.if-text-name.false c.requires

pub bounds-text-line : goal.bounds-text-line
bounds-text-line c = signature-colon _ _ _ _ c.if-text-name.false _ _ c.write_line-line.ensures c.requires

pub overflow_add-n : goal.overflow_add-n
overflow_add-n c = record { fits = omega (arith, signature-colon _ _ _ _ c.if-text-name.false _ _ c.write_line-line.ensures c.requires) }

pub slice_bounds-write_fields-count : goal.slice_bounds-write_fields-count
slice_bounds-write_fields-count c = rw length-set (omega (arith, signature-colon _ _ _ _ c.if-text-name.false _ _ c.write_line-line.ensures c.requires))

pub slice_bounds-write_fields-start : goal.slice_bounds-write_fields-start
slice_bounds-write_fields-start c = rw length-set (omega (arith, signature-colon _ _ _ _ c.if-text-name.false _ _ c.write_line-line.ensures c.requires))

pub write_fields-requires : goal.write_fields-requires
write_fields-requires c = outs-asks _ _ _ _ c.if-text-name.false _ _ c.write_line-line.ensures c.requires

pub overflow_add-result : goal.overflow_add-result
overflow_add-result c = record { fits = omega (arith, signature-fits _ _ _ _ c.if-text-name.false _ _ c.write_line-line.ensures _ _ c.write_fields.ensures c.requires) }

pub returns : goal.returns
returns c = signature-ends _ _ _ _ c.if-text-name.false _ _ c.write_line-line.ensures _ _ c.write_fields.ensures
