use Rattle.std.proofs.Common.{◌≡◌, ◌∙◌, ℕ, List, ap, sym, subst}
use Rattle.std.specs.Prelude.{All}
use Rattle.history_lock.specs.Limits.{opener}
use Rattle.view_rules.specs.declared.entries.JournalEntry.{JournalEntry}
use Rattle.dock_rules.specs.Journals.{journal_caller, tale_of}
use Rattle.dock_rules.specs.Kept.{IsKept}
use Rattle.dock_rules.proofs.Coming.{book-kept}
use Rattle.level_plan.specs.Plans.{PlanTerms}
use Rattle.book_dock.specs.declared.hold.BookHold.{BookHold}
use Rattle.book_dock.specs.Opening.{opening}
use Rattle.book_dock.proofs.PlanEntries.{opening-openers}
use Rattle.book_dock.proofs.dock.make_book.Goals as goal

pub make-requires-clause-opener : goal.make-requires-clause-opener
make-requires-clause-opener c =
    subst (λ (journal : List JournalEntry). All (λ (entry : JournalEntry). journal_caller entry ≡ opener) journal)
    (sym c.in_ok-hold.ensures.items) (opening-openers c.args.seed c.args.plan)

pub returns-in-Ok-clause-fresh : goal.returns-in-Ok-clause-fresh
returns-in-Ok-clause-fresh c = rw c.in_ok-hold.ensures.items at c.in-Ok.ensures.fresh

pub returns-in-Ok-clause-opening : goal.returns-in-Ok-clause-opening
returns-in-Ok-clause-opening c =
    ap (λ (hold : BookHold). hold.journal.items) c.in-Ok.ensures.opening ∙ c.in_ok-hold.ensures.items

-- What is kept of the opened book, of the plan's journal.
kept-opened : (hold : BookHold) (seed : List ℕ) (plan : PlanTerms) → hold.journal.items ≡ opening seed plan
    → hold.seed ≡ seed → IsKept (opening seed plan) seed hold.book
kept-opened hold seed plan items same =
    subst (λ (at : List JournalEntry × List ℕ). IsKept at.0 at.1 hold.book) (λ i. (items i, same i)) hold.kept

pub returns-in-Ok-clause-legal : goal.returns-in-Ok-clause-legal
returns-in-Ok-clause-legal c =
    (kept-opened c.in_ok-hold.hold c.args.seed c.args.plan c.in_ok-hold.ensures.items c.in_ok-hold.ensures.seed).legal

pub returns-in-Ok-clause-seed : goal.returns-in-Ok-clause-seed
returns-in-Ok-clause-seed c =
    (kept-opened c.in_ok-hold.hold c.args.seed c.args.plan c.in_ok-hold.ensures.items c.in_ok-hold.ensures.seed).seeded

pub returns-in-Ok-clause-book : goal.returns-in-Ok-clause-book
returns-in-Ok-clause-book c =
    let hold = c.in_ok-hold.hold in
    let kept = kept-opened hold c.args.seed c.args.plan c.in_ok-hold.ensures.items c.in_ok-hold.ensures.seed in
    book-kept (tale_of (opening c.args.seed c.args.plan)) hold.book kept.come ∙ c.in_ok-hold.ensures.book
