use Rattle.std.proofs.Common.{arith, rules, refl}
use Rattle.sheet.proofs.Taking.{survey_start, survey_asks, survey_more, survey_bad, survey_end}
use Rattle.sheet.proofs.survey.Goals as goal

pub loop-left-init : goal.loop-left-init
loop-left-init c = (survey_start _ _ c.new.ensures.0 c.new.ensures.1 refl refl refl, refl, refl)

pub take_line-requires : goal.take_line-requires
take_line-requires c = survey_asks _ _ _ _ c.loop-left.invariant.0 (search rules) _ c.first_line-first.ensures _ refl c.requires _ _ c.loop-left.invariant.1 c.loop-left.invariant.2

pub returns-in-Err : goal.returns-in-Err
returns-in-Err c = survey_bad _ _ _ _ c.loop-left.invariant.0 (search rules) _ c.first_line-first.ensures _ refl c.requires _ _ c.loop-left.invariant.1 c.loop-left.invariant.2 c.take_line.new.seen _ refl c.in-Err.ensures

pub loop-left-preserved : goal.loop-left-preserved
loop-left-preserved c = (
  survey_more _ _ _ _ c.loop-left.invariant.0 (search rules) _ c.first_line-first.ensures _ refl c.requires _ _ c.loop-left.invariant.1 c.loop-left.invariant.2 _ _ c.in_default.ensures,
  omega (arith, c.loop-left.invariant.1, c.take_line.auto.record),
  omega (arith, c.loop-left.invariant.2, c.take_line.auto.scratch),
)

pub returns : goal.returns
returns c = survey_end _ _ _ _ c.loop-left.invariant.0 (search rules) c.requires
