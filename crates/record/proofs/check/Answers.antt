use borrow.Author.Rules.{rules}
use Rattle.record.proofs.Whole.{check_long, check_more, check_other, check_function, check_event, check_error}
use Rattle.record.proofs.Places.{piece-stands, parts-through}
use Rattle.record.proofs.check.Goals as goal

pub returns-in-32-clause-says : goal.returns-in-32-clause-says
returns-in-32-clause-says c = check_function _ (search rules) c.in_ok-piece.piece c.in_ok-piece.ensures (search rules) _ c.in-32.is c.function.ensures.says

pub returns-in-34-clause-says : goal.returns-in-34-clause-says
returns-in-34-clause-says c = check_event _ (search rules) c.in_ok-piece.piece c.in_ok-piece.ensures (search rules) _ c.in-34.is c.event.ensures.says

pub returns-in-35-clause-says : goal.returns-in-35-clause-says
returns-in-35-clause-says c = check_error _ (search rules) c.in_ok-piece.piece c.in_ok-piece.ensures (search rules) _ c.in-35.is c.error.ensures.says

pub returns-then-b-gt-LONGEST_RECORD-clause-says : goal.returns-then-b-gt-LONGEST_RECORD-clause-says
returns-then-b-gt-LONGEST_RECORD-clause-says c = check_long _ c.if-b-gt-LONGEST_RECORD.true

pub returns-then-not-is_empty-clause-says : goal.returns-then-not-is_empty-clause-says
returns-then-not-is_empty-clause-says c = check_more _ (search rules) c.in_ok-piece.piece c.in_ok-piece.ensures (search rules)

pub returns-in_default-clause-says : goal.returns-in_default-clause-says
returns-in_default-clause-says c = check_other _ (search rules) c.in_ok-piece.piece c.in_ok-piece.ensures (search rules) (search rules) (search rules) (search rules) (search rules) (search rules)

pub returns-in-16-clause-within : goal.returns-in-16-clause-within
returns-in-16-clause-within c = parts-through _ _ _ (piece-stands _ c.in_ok-piece.piece c.in_ok-piece.ensures) c.lone.ensures.within

pub returns-in-32-clause-within : goal.returns-in-32-clause-within
returns-in-32-clause-within c = parts-through _ _ _ (piece-stands _ c.in_ok-piece.piece c.in_ok-piece.ensures) c.function.ensures.within

pub returns-in-33-clause-within : goal.returns-in-33-clause-within
returns-in-33-clause-within c = parts-through _ _ _ (piece-stands _ c.in_ok-piece.piece c.in_ok-piece.ensures) c.constructor.ensures.within

pub returns-in-34-clause-within : goal.returns-in-34-clause-within
returns-in-34-clause-within c = parts-through _ _ _ (piece-stands _ c.in_ok-piece.piece c.in_ok-piece.ensures) c.event.ensures.within

pub returns-in-35-clause-within : goal.returns-in-35-clause-within
returns-in-35-clause-within c = parts-through _ _ _ (piece-stands _ c.in_ok-piece.piece c.in_ok-piece.ensures) c.error.ensures.within
