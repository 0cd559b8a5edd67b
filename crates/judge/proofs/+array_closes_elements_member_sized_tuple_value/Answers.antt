use native.Mathlib.Omega.{arith}
use Rattle.std.proofs.Common.{rules, sym}
use borrow.Author.Tests.{leb-true}
use Rattle.judge.proofs.Choosing.{first-bad, first_open, next_open, short_ready, short-bad, chosen-next}
use Rattle.judge.proofs.Diving.{sized-none, sized_over, sized-static, array-asks, open_short, open_many, rest_data, open_rest, fixed-room, fixed-step, flat_asks, flat_tuple, flat_string, deep_flat, deep-suffixes, deep-last, deep-less, deep-asks, deep_good, deep-next}
use Rattle.judge.proofs.Joining.{closes-member, member_open, member-bad, member-next, static-bad, static-next, tuple-short, judge_start, judge_end}
use Rattle.judge.proofs.+array_closes_elements_member_sized_tuple_value.Goals as goal

pub closes-returns-in-Some : goal.closes-returns-in-Some
closes-returns-in-Some t c = closes-member _ _ _ c.requires.0 c.requires.1 c.requires.2 c.requires.3 _ c.in-Some.is _ c.value.ensures

pub elements-returns-then-not-is_number : goal.elements-returns-then-not-is_number
elements-returns-then-not-is_number t c = first-bad c.requires c.if-not-is_number.ensures

pub elements-returns-in_err-start : goal.elements-returns-in_err-start
elements-returns-in_err-start t c = rw c.from_residual.ensures (first_open c.requires c.if-not-is_number.ensures c.in_err-start.ensures)

pub elements-returns-in_err-end : goal.elements-returns-in_err-end
elements-returns-in_err-end t c =
    rw c.from_residual-in_err-end.ensures (next_open c.loop-i.invariant.0 c.loop-i.invariant.1 c.loop-i-test.true c.end_of-in-loop-i.ensures c.in_err-end.was)

pub elements-value-requires : goal.elements-value-requires
elements-value-requires t c =
    let ready = short_ready c.loop-i.invariant.0 c.loop-i.invariant.1 c.loop-i-test.true c.end_of-in-loop-i.ensures c.in_ok-end.was c.sorted.ensures in
    (omega arith, (c.requires.some, ready))

pub elements-returns-then-not-value : goal.elements-returns-then-not-value
elements-returns-then-not-value t c =
    let bad = short-bad c.loop-i.invariant.0 c.loop-i.invariant.1 c.loop-i-test.true c.end_of-in-loop-i.ensures c.in_ok-end.was c.sorted.ensures in
    bad c.value.ensures c.if-not-value.true

pub elements-loop-i-preserved : goal.elements-loop-i-preserved
elements-loop-i-preserved t c =
    let next = chosen-next c.loop-i.invariant.0 c.loop-i.invariant.1 c.loop-i-test.true c.end_of-in-loop-i.ensures c.in_ok-end.was c.sorted.ensures in
    (c.loop-i.invariant.0, next c.value.ensures c.if-not-value.false)

pub member-returns-in_err-head : goal.member-returns-in_err-head
member-returns-in_err-head t c =
    rw c.from_residual.ensures (static-bad c.args.kind _ _ c.requires _ c.of_kind.ensures c.if-not-of_kind.true _ c.many.ensures c.in_err-head.was)

pub member-returns-then-not-of_kind : goal.member-returns-then-not-of_kind
member-returns-then-not-of_kind t c = static-next c.args.kind _ _ c.requires _ c.of_kind.ensures c.if-not-of_kind.true _ c.many.ensures _ c.in_ok-head.was

pub member-returns-in_err-tail : goal.member-returns-in_err-tail
member-returns-in_err-tail t c =
    rw c.from_residual-in_err-tail.ensures (member_open c.args.kind _ _ c.requires _ c.of_kind.ensures c.if-not-of_kind.false c.in_err-tail.ensures)

pub member-returns-then-not-closes : goal.member-returns-then-not-closes
member-returns-then-not-closes t c =
    member-bad c.args.kind _ _ c.requires _ c.of_kind.ensures c.if-not-of_kind.false _ c.in_ok-tail.ensures _ c.closes.ensures c.if-not-closes.true

pub member-returns : goal.member-returns
member-returns t c =
    member-next c.args.kind _ _ c.requires _ c.of_kind.ensures c.if-not-of_kind.false _ c.in_ok-tail.ensures _ c.closes.ensures c.if-not-closes.false

pub sized-returns-then-not-of_kind : goal.sized-returns-then-not-of_kind
sized-returns-then-not-of_kind t c = rw c.then_some.ensures (sized-static _ _ _ _ c.of_kind.ensures c.if-not-of_kind.true _ c.many.ensures _ c.is_whole.ensures)

pub sized-returns-then-count-eq0 : goal.sized-returns-then-count-eq0
sized-returns-then-count-eq0 t c =
    rw c.then_some-then-count-eq0.ensures (sized-none _ _ _ _ c.of_kind.ensures c.if-not-of_kind.false c.if-count-eq0.true _ c.is_empty.ensures)

pub sized-returns-then-d-count : goal.sized-returns-then-d-count
sized-returns-then-d-count t c = sized_over _ _ _ _ c.of_kind.ensures c.if-not-of_kind.false c.if-d-count.true

pub tuple-returns-then-d-heads : goal.tuple-returns-then-d-heads
tuple-returns-then-d-heads t c = tuple-short _ _ _ c.of_fields-heads.ensures c.requires.1 c.if-d-heads.true

pub tuple-returns : goal.tuple-returns
tuple-returns t c = judge_end c.loop-left.invariant c.loop-left-test.ensures _ c.closes.ensures

pub tuple-loop-left-init : goal.tuple-loop-left-init
tuple-loop-left-init t c = judge_start _ _ _ c.of_fields-heads.ensures c.requires.1 c.requires.0 c.if-d-heads.false

pub array-get8-requires : goal.array-get8-requires
array-get8-requires t c = fixed-room _ _ c.if-suffix-ne-OPEN.true c.requires.0

pub array-returns-then-suffix-ne-OPEN : goal.array-returns-then-suffix-ne-OPEN
array-returns-then-suffix-ne-OPEN t c = fixed-step _ _ c.if-suffix-ne-OPEN.true _ _ c.get8.ensures _ c.sized.ensures

pub array-returns-then-not-has : goal.array-returns-then-not-has
array-returns-then-not-has t c = open_short _ _ c.if-suffix-ne-OPEN.false _ c.requires.1 c.if-not-has.ensures

pub array-returns-then-count-gt-MOST : goal.array-returns-then-count-gt-MOST
array-returns-then-count-gt-MOST t c =
    open_many _ _ c.if-suffix-ne-OPEN.false _ c.requires.1 c.if-not-has.ensures _ c.number_at-count.ensures.0 c.if-count-gt-MOST.true

pub array-sized-requires-2 : goal.array-sized-requires-2
array-sized-requires-2 t c =
    let room = leb-true _ _ (sym c.if-not-has.ensures) in
    let rest = rest_data c.args.t.now c.args.suffix c.if-suffix-ne-OPEN.false _ c.requires.1 c.if-not-has.ensures _ c.number_at-count.ensures.0 in
    (omega arith, (array-asks _ c.args.suffix c.requires.0, rest c.if-count-gt-MOST.false room))

pub array-returns : goal.array-returns
array-returns t c =
    let room = leb-true _ _ (sym c.if-not-has.ensures) in
    open_rest _ _ c.if-suffix-ne-OPEN.false _ c.requires.1 c.if-not-has.ensures _ c.number_at-count.ensures.0 c.if-count-gt-MOST.false room _ c.sized-2.ensures

pub value-tuple-requires : goal.value-tuple-requires
value-tuple-requires t c =
    let fields = flat_asks c.first-base.ensures (search rules) c.loop-kind.part.now c.in-9.is c.loop-kind.invariant.ask in
    (omega (arith, c.first-base.ensures.covers, c.loop-kind.invariant.bound), (fields, c.loop-kind.invariant.ready))

pub value-returns-in-9 : goal.value-returns-in-9
value-returns-in-9 t c = deep_flat c.loop-kind.invariant (flat_tuple c.first-base.ensures (search rules) _ c.in-9.is _ c.tuple.ensures)

pub value-returns-in_default : goal.value-returns-in_default
value-returns-in_default t c =
    deep_flat c.loop-kind.invariant (flat_string c.first-base.ensures (search rules) _ (search rules) _ c.string.ensures _ c.is_whole.ensures)

pub value-last_suffix-suffix-requires : goal.value-last_suffix-suffix-requires
value-last_suffix-suffix-requires t c = (deep-suffixes c.loop-kind.invariant c.first-base.ensures, search rules)

pub value-first-requires : goal.value-first-requires
value-first-requires t c = deep-last c.loop-kind.invariant c.first-base.ensures c.last_suffix-suffix.ensures

pub value-array-requires : goal.value-array-requires
value-array-requires t c =
    let less = deep-less c.loop-kind.invariant c.first-base.ensures c.last_suffix-suffix.ensures in
    let array = deep-asks c.loop-kind.invariant c.first-base.ensures c.last_suffix-suffix.ensures c.first.ensures in
    (omega (arith, less, c.loop-kind.invariant.bound), (array, c.loop-kind.invariant.ready))

pub value-returns-in-Some-Done : goal.value-returns-in-Some-Done
value-returns-in-Some-Done t c =
    deep_good c.loop-kind.invariant c.first-base.ensures c.last_suffix-suffix.ensures c.first.ensures _ c.array.ensures (search rules)

pub value-loop-kind-preserved : goal.value-loop-kind-preserved
value-loop-kind-preserved t c =
    let next = deep-next c.loop-kind.invariant c.first-base.ensures c.last_suffix-suffix.ensures c.first.ensures _ c.array.ensures in
    next c.in-Some-Down.down (search rules) c.requires.0
