use Rattle.std.proofs.Common.{arith, rules, ap, length}
use Rattle.index.proofs.Searching.{search_start, search_at, search_pass, search_record, search_hit, search_miss, search_end}
use Rattle.index.proofs.search.Goals as goal

pub loop-known-init : goal.loop-known-init
loop-known-init c = ((tt, tt), tt, search_start _ _ _ c.into_iter-known-iterator.result c.requires (search rules) (search rules) (omega (arith, ap length c.as_slice.ensures.value, c.as_slice.ensures.fits)))

pub function_at-requires : goal.function_at-requires
function_at-requires c = search_at _ _ c.loop-known.known-iterator c.next.new.self _ c.next.ensures.steps _ c.loop-known.invariant.2 _ c.in-Some.is

pub loop-known-preserved-in_default : goal.loop-known-preserved-in_default
loop-known-preserved-in_default c = ((tt, tt), tt, search_pass _ _ c.loop-known.known-iterator c.next.new.self _ c.next.ensures.steps _ c.loop-known.invariant.2 _ c.in-Some.is c.in_default.ensures)

pub is_sought-requires : goal.is_sought-requires
is_sought-requires c = search_record _ _ c.loop-known.known-iterator c.next.new.self _ c.next.ensures.steps _ c.loop-known.invariant.2 _ c.in-Some.is _ c.in-Some-function_at.ensures

pub returns-then-is_sought : goal.returns-then-is_sought
returns-then-is_sought c = search_hit _ _ c.loop-known.known-iterator c.next.new.self _ c.next.ensures.steps _ c.loop-known.invariant.2 _ c.in-Some.is _ c.in-Some-function_at.ensures _ _ c.print-print.ensures c.is_sought.ensures c.if-is_sought.true

pub loop-known-preserved : goal.loop-known-preserved
loop-known-preserved c = ((tt, tt), tt, search_miss _ _ c.loop-known.known-iterator c.next.new.self _ c.next.ensures.steps _ c.loop-known.invariant.2 _ c.in-Some.is _ c.in-Some-function_at.ensures _ _ c.print-print.ensures c.is_sought.ensures c.if-is_sought.false)

pub returns : goal.returns
returns c = search_end _ _ c.loop-known.known-iterator c.next.new.self _ c.next.ensures.steps _ c.loop-known.invariant.2 c.in-None.is
