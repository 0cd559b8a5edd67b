use Rattle.std.proofs.Common.{rules}
use Rattle.index.proofs.Walking.{note_full, note_asked, note_room, note_repeated, note_more}
use Rattle.index.proofs.note.Goals as goal

pub returns-then-is_full : goal.returns-then-is_full
returns-then-is_full c = note_full _ _ _ _ (search rules)

pub repeats-requires : goal.repeats-requires
repeats-requires c = λ k e l. let a = note_asked _ _ _ _ c.requires k e l in search rules

pub returns-then-repeats : goal.returns-then-repeats
returns-then-repeats c = note_repeated _ _ _ _ _ c.print_of-print.ensures _ (λ place b q. search rules) _ c.repeats.ensures c.if-repeats.true

pub push-requires : goal.push-requires
push-requires c = note_room _ _ _ _ (search rules) c.requires

pub returns : goal.returns
returns c = note_more _ _ _ _ _ c.print_of-print.ensures _ (λ place b q. search rules) _ c.repeats.ensures c.if-repeats.false (search rules) _ c.push.ensures.0 c.push.ensures.1
