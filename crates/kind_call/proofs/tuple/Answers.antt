use Rattle.kind_call.proofs.Answering.{tuple-deep, tuple_unbare, tuple-whole}
use Rattle.kind_call.proofs.tuple.Goals as goal

pub returns-in-Some : goal.returns-in-Some
returns-in-Some c = tuple-deep _ _ _ c.in-Some.ensures

pub returns-then-not-is_bare : goal.returns-then-not-is_bare
returns-then-not-is_bare c = tuple_unbare _ _ c.in_default.ensures _ c.into.ensures c.if-not-is_bare.ensures

pub returns-then-text-le-SHORT_TEXT : goal.returns-then-text-le-SHORT_TEXT
returns-then-text-le-SHORT_TEXT c = tuple-whole _ _ c.in_default.ensures c.if-not-is_bare.ensures _ _ c.whole.ensures

pub returns-else-text-le-SHORT_TEXT : goal.returns-else-text-le-SHORT_TEXT
returns-else-text-le-SHORT_TEXT c = tuple-whole _ _ c.in_default.ensures c.if-not-is_bare.ensures _ _ c.whole-else-text-le-SHORT_TEXT.ensures
