use Rattle.repeat.proofs.Whole.{one_headed}
use Rattle.index.proofs.Searching.{its-one, function_is, function-not}
use Rattle.index.proofs.function_at.Goals as goal

pub first-piece-requires : goal.first-piece-requires
first-piece-requires c = one_headed _ (its-one _ _ _ c.record_at-record.ensures c.requires)

pub returns-then-piece-eq-FUNCTION : goal.returns-then-piece-eq-FUNCTION
returns-then-piece-eq-FUNCTION c = function_is _ _ _ c.record_at-record.ensures _ c.first-piece.ensures c.if-piece-eq-FUNCTION.true

pub returns-else-piece-eq-FUNCTION : goal.returns-else-piece-eq-FUNCTION
returns-else-piece-eq-FUNCTION c = function-not _ _ _ c.record_at-record.ensures _ c.first-piece.ensures c.if-piece-eq-FUNCTION.false
