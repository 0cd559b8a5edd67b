use Rattle.repeat.proofs.Noting.{look_found, look_passed, look-end, look-none}
use Rattle.repeat.proofs.Notes.repeats.Goals as goal
use Rattle.repeat.proofs.Notes.repeats.Goals.{else-known-print-via-then-known-print+else-same, else-known-print-via-else-known-print}

pub returns-then-not-among : goal.returns-then-not-among
returns-then-not-among g c = look-none _ _ _ _ _ _ c.as_slice.ensures.value c.among.ensures c.if-not-among.true

pub returns-then-same : goal.returns-then-same
returns-then-same g c = c.loop-known.invariant.2 _ (look_found _ _ c.loop-known.known-iterator c.next.new.self _ c.next.ensures.steps _ c.in-Some.is c.if-known-print.true c.if-same.ensures)

pub loop-known-preserved : goal.loop-known-preserved
loop-known-preserved g c = (
  (tt, tt),
  tt,
  λ b l. c.loop-known.invariant.2 b (look_passed _ _ c.loop-known.known-iterator c.next.new.self _ c.next.ensures.steps _ c.in-Some.is (λ k. elim c.else-known-print.branch [
    | else-known-print-via-then-known-print+else-same w ↦ w.if-same.ensures
    | else-known-print-via-else-known-print w ↦ absurd (w.if-known-print.false k)
  ]) b l),
)

pub returns : goal.returns
returns g c = c.loop-known.invariant.2 _ (look-end _ _ c.loop-known.known-iterator c.next.new.self _ c.next.ensures.steps c.in-None.is)
