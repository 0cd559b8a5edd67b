use Rattle.std.proofs.Common.{rules, sym}
use Rattle.sheet.proofs.Counting.{repeat-asked, repeat-hit, repeat-miss}
use Rattle.sheet.proofs.next_repeat.Goals as goal

pub repeats-requires : goal.repeats-requires
repeats-requires c = λ k e l. let a = repeat-asked _ c.args.line _ _ _ c.requires k e l in search rules

pub returns-then-repeats : goal.returns-then-repeats
returns-then-repeats c = repeat-hit _ _ _ _ _ (sym c.if-is_some.ensures) _ (λ place r q. search rules) _ c.repeats.ensures c.if-repeats.true

pub returns-else-repeats : goal.returns-else-repeats
returns-else-repeats c = repeat-miss _ _ _ _ _ (sym c.if-is_some.ensures) _ (λ place r q. search rules) _ c.repeats.ensures c.if-repeats.false
