use Rattle.std.proofs.Common.{rules, ◌==◌, ◌||◌, false}
use Rattle.std.proofs.lemmas.Iterator.Consumers.{fold_from_yields_List}
use Rattle.std.proofs.lemmas.Iterator.{YieldsList-from_slice}
use Rattle.repeat.proofs.Printing.{any_folded}
use Rattle.repeat.proofs.among.Goals as goal

pub returns : goal.returns
returns c = any_folded (λ p. p == c.args.h) _ _ (fold_from_yields_List _ (λ a x. a || (x == c.args.h)) false _ c.fold.ensures.ran (YieldsList-from_slice _ c.iter.ensures.rest) (λ a x b q k. search rules))
