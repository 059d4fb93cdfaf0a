-- One more level that may follow leaves the draft lawful.
use Rattle.std.proofs.Common.{ap}
use Rattle.level_plan.specs.Drafts.{Draft}
use Rattle.level_plan.proofs.Levels.{are_levels_more, level_count_more}
use Rattle.level_plan.proofs.draft.PlanDraft.add_level.Goals as goal

pub invariant_of-self-2 : goal.invariant_of-self-2
invariant_of-self-2 c =
    let same_levels = ap (λ (draft : Draft). draft.blinds) c.self.view_is in
    rw c.in_ok-push.ensures.ok
    (record {
      tables = c.self.invariant.tables;
      seats = c.self.invariant.seats;
      stack = c.self.invariant.stack;
      buyin = c.self.invariant.buyin;
      late = c.self.invariant.late;
      levels = are_levels_more c.self.inside.blinds c.args.blind c.self.invariant.levels c.requires.lawful
          (rw same_levels c.requires.follows);
      level_count = level_count_more c.self.inside.blinds c.args.blind (rw same_levels c.requires.room);
      shares = c.self.invariant.shares;
      cap = c.self.invariant.cap;
    })
