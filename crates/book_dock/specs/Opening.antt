-- The journal as it is opened. This project's own.
use Rattle.std.specs.Prelude.{ℕ, List, map}
use Rattle.level_plan.specs.Plans.{PlanTerms}
use Rattle.history_lock.specs.Limits.{opener}
use Rattle.view_rules.specs.declared.entries.JournalEntry.{JournalEntry}
use Rattle.simulation_rules.specs.Runs.{plan_events}
use Rattle.dock_rules.specs.Journals.{plain_entry}

-- The journal of a plan, before any entry of a player: the plan's lines and their end, by the opener.
abbrev pub opening : List ℕ → PlanTerms → List JournalEntry
opening seed plan = map (plain_entry opener seed) (plan_events plan)
