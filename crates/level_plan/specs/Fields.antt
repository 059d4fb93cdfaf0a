-- What contracts see of the fields of a draft and of a plan. This project's own.
use Rattle.level_plan.specs.declared.draft.PlanDraft.TheInside as draft_fields
use Rattle.level_plan.specs.declared.plan.Plan.TheInside as plan_fields
use Rattle.level_plan.specs.Drafts.{Draft}
use Rattle.level_plan.specs.Plans.{PlanTerms}

-- A draft's fields without its allocator.
abbrev pub draft_of : draft_fields.Inside → Draft
draft_of draft = record {
  game = draft.game;
  tables = draft.tables;
  seats = draft.seats;
  stack = draft.stack;
  buyin = draft.buyin;
  late = draft.late;
  blinds = draft.blinds;
  shares = draft.shares;
  cap = draft.cap;
}

-- A plan's fields.
abbrev pub terms_of : plan_fields.Inside → PlanTerms
terms_of plan = record {
  game = plan.game;
  tables = plan.tables;
  seats = plan.seats;
  stack = plan.stack;
  buyin = plan.buyin;
  late = plan.late;
  blinds = plan.blinds;
  shares = plan.shares;
  cap = plan.cap;
}
