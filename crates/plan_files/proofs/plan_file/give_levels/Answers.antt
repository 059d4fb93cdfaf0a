-- Each level is given in turn.
use Rattle.level_plan.specs.declared.plan.Blind.{Blind}
use Rattle.plan_files.specs.Steps.{after_levels}
use Rattle.plan_files.proofs.LevelRules.{level_given, level_refused, levels_given}
use Rattle.plan_files.proofs.Wrong.{handed_on}
use Rattle.plan_files.proofs.plan_file.give_levels.Goals as goal

none : Blind
none = record { small = 0; big = 0; unit = 0; ante = 0 }

pub returns-in_err-give-clause-wrong : goal.returns-in_err-give-clause-wrong
unfolding none
returns-in_err-give-clause-wrong c =
    handed_on (after_levels c.args.blinds.now c.args.draft.now) c.in_err-give.field-0.0 c.from_residual.result
    c.from_residual.ensures.1
    (level_refused c.args.blinds.now c.levels.blind-index none c.args.draft.now c.levels.draft c.in_err-give.field-0.0
    c.levels-test.true c.levels.invariant c.in_err-give.ensures.wrong)

pub levels-preserved : goal.levels-preserved
unfolding none
levels-preserved c =
    level_given c.args.blinds.now c.levels.blind-index none c.args.draft.now c.levels.draft c.give.new.draft
    c.levels-test.true c.levels.invariant c.in_ok-give.ensures.given

pub returns-clause-given : goal.returns-clause-given
returns-clause-given c =
    levels_given c.args.blinds.now c.levels.blind-index c.args.draft.now c.levels.draft c.levels-test.false
    c.levels.invariant
