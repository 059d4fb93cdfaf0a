-- There has to be a level.
use Rattle.plan_files.proofs.LevelRules.{no_blinds, some_blinds}
use Rattle.plan_files.proofs.plan_file.give_blinds.Goals as goal

pub returns-then-is_empty-clause-wrong : goal.returns-then-is_empty-clause-wrong
returns-then-is_empty-clause-wrong c = no_blinds c.args.blinds.now c.args.draft.now c.if-is_empty.ensures

pub returns-clause-given : goal.returns-clause-given
returns-clause-given c =
    rw (some_blinds c.args.blinds.now c.args.draft.now c.if-is_empty.ensures) c.give_levels.ensures.given

pub returns-clause-wrong : goal.returns-clause-wrong
returns-clause-wrong c =
    rw (some_blinds c.args.blinds.now c.args.draft.now c.if-is_empty.ensures) c.give_levels.ensures.wrong
