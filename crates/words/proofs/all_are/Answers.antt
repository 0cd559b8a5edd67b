use Rattle.std.proofs.Common.{rules, ◌==◌, ◌&&◌, true}
use Rattle.std.proofs.lemmas.Iterator.Consumers.{fold_from_yields_List}
use Rattle.std.proofs.lemmas.Iterator.{YieldsList-from_slice}
use Rattle.words.proofs.Words.{all_folded}
use Rattle.words.proofs.all_are.Goals as goal

pub returns : goal.returns
returns c = all_folded (λ p. p == c.args.c) _ _ (fold_from_yields_List _ (λ a x. a && (x == c.args.c)) true _ c.fold.ensures.ran (YieldsList-from_slice _ c.iter.ensures.rest) (λ a x b q k. search rules))
