use mathlib.Core.Path.{sym, ap}
use native.Mathlib.Omega.{arith}
use borrow.Author.Rules.{rules}
use Rattle.model.specs.Text.{char_length, character, valid_length}
use Rattle.model.proofs.Scans.{valid-ascii}
use Rattle.text.specs.Found.{char_from}
use Rattle.text.proofs.Characters.{all_ascii}
use Rattle.text.proofs.Remaining.{left_end, left_more, remaining}
use Rattle.text.proofs.valid_length.Goals as goal

pub returns-then-is_ascii : goal.returns-then-is_ascii
returns-then-is_ascii c = (sym (valid-ascii _ (all_ascii _ c.if-is_ascii.ensures.cases)), omega arith)

pub loop-c-init : goal.loop-c-init
unfolding valid_length
loop-c-init c = search (rules, remaining)

pub loop-c-preserved : goal.loop-c-preserved
unfolding character char_from
loop-c-preserved c = let (z, l) = c.in-Some.ensures.inside in left_more character _ _ _ c.loop-c.invariant _ (ap char_length c.in-Some.ensures.same) z l

pub returns : goal.returns
unfolding character char_from
returns c = (left_end character _ _ _ c.loop-c.invariant (ap char_length c.in_default.ensures.same), omega arith)
