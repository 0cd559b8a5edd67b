use Rattle.std.proofs.Common.{rules, refl}
use Rattle.sheet.proofs.Counting.{count_full, count_asks, count_room, count_more}
use Rattle.sheet.proofs.count.Goals as goal

pub returns-then-is_full : goal.returns-then-is_full
returns-then-is_full c = count_full _ _ _ _ _ _ (search rules) _ refl refl c.or-seen.ensures

pub next_repeat-seen-requires : goal.next_repeat-seen-requires
next_repeat-seen-requires c = count_asks _ _ _ _ _ _ (search rules) _ _ c.fingerprint-print.ensures c.requires _ refl

pub push-requires : goal.push-requires
push-requires c = count_room _ _ _ _ _ _ (search rules) c.requires

pub returns : goal.returns
returns c = count_more _ _ _ _ _ _ (search rules) _ _ c.fingerprint-print.ensures _ refl refl _ c.next_repeat-seen.ensures _ c.push.ensures.0 c.push.ensures.1 refl refl refl
