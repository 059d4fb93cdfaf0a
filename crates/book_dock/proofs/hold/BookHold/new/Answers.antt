use Rattle.std.proofs.Common.{◌≡◌, ◌∙◌, ap, sym, subst, List, arith}
use Rattle.tournament_rules.specs.Books.{BookState}
use Rattle.tournament_rules.specs.Effects.{first_book}
use Rattle.view_rules.specs.declared.entries.JournalEntry.{JournalEntry}
use Rattle.history_lock.specs.Limits.{opener}
use Rattle.dock_rules.specs.Kept.{IsKept, owed}
use Rattle.dock_rules.proofs.Opened.{kept-opening}
use Rattle.book_dock.specs.Opening.{opening}
use Rattle.book_dock.proofs.PlanEntries.{owed-first}
use Rattle.book_dock.proofs.hold.BookHold.new.Goals as goal

pub invariant_of-result : goal.invariant_of-result
invariant_of-result c =
    let items : c.take_room.new.journal.items ≡ opening c.args.seed c.args.plan =
    c.take_room.ensures.items ∙ c.in_ok-journal.ensures.items in
    let book : c.in_ok-book.book ≡ first_book c.args.plan = c.in_ok-book.ensures in
    let none = ap owed book ∙ owed-first c.args.plan in
    record {
      kept = subst (λ (at : List JournalEntry × BookState). IsKept at.0 c.args.seed at.1)
          (λ i. (sym items i, sym book i)) (kept-opening opener c.args.seed c.args.plan c.in_ok-journal.ensures.again);
      room = omega (arith, none, c.in_ok-take_room.ensures.room);
      few = omega (arith, none, c.in_ok-take_room.ensures.few);
      rooms_owed = omega (arith, none);
    }
