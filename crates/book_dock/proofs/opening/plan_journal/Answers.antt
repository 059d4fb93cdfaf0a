use Rattle.std.proofs.Common.{◌≡◌, ◌∙◌, ◌∷◌, ◌++◌, [], map}
use Rattle.level_plan.specs.declared.line.PlanLine.{PlanLine}
use Rattle.plan_files.specs.PlanLines.{lines_of_plan}
use Rattle.tournament_events.specs.declared.event.Event.TheVariants as events
use Rattle.view_rules.specs.declared.entries.JournalEntry.{JournalEntry}
use Rattle.history_lock.specs.Limits.{opener}
use Rattle.dock_rules.specs.Journals.{plain_entry}
use Rattle.book_dock.proofs.PlanEntries.{opening-made}
use Rattle.book_dock.proofs.opening.plan_journal.Goals as goal

pub returns-clause-items : goal.returns-clause-items
returns-clause-items c =
    let entry : PlanLine → JournalEntry = λ line. plain_entry opener c.args.seed (events.Plan line) in
    let front : c.push_lines.new.journal.items ≡ map entry (lines_of_plan c.args.plan.now) =
    c.in_ok-push_lines.ensures
    ∙ (λ i. c.new-journal.ensures.items i ++ map entry (c.in_ok-plan_lines.ensures.lines i)) in
    c.in_ok-push.ensures.items ∙ (λ i. front i ++ c.plan_entry.ensures i ∷ [])
    ∙ opening-made c.args.seed c.args.plan.now
