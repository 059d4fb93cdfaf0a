use Rattle.book_dock.specs.Docks.{book_id}
use Rattle.book_dock.specs.Opening.{opening}
use Rattle.floor_crew.proofs.Dealing.{fresh-idle}
use Rattle.floor_crew.proofs.floor.make_locks.Goals as goal

pub returns-clause-pack : goal.returns-clause-pack
returns-clause-pack c = record {
  of_book = fresh-idle (book_id c.in_ok-book.book) (opening c.args.seed c.args.plan) c.in_ok-book.books.items
      c.in_ok-book.ensures.fresh;
  of_tables = c.in_ok-docks.ensures.fresh;
}
