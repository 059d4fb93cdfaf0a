-- What contracts see of the fields of a book. This project's own.
use Rattle.floor_book.specs.declared.book.Book.TheInside.{Inside}
use Rattle.tournament_rules.specs.Books.{BookState}

-- the fields without the allocator
abbrev pub book_of : Inside → BookState
book_of fields = record {
  plan = fields.plan;
  entries = fields.entries;
  reentries = fields.reentries;
  seating = fields.seats;
  started = fields.started.items;
  busts = fields.busts;
  group = fields.group;
  level = fields.level;
  removed = fields.removed;
  added = fields.added;
  begun = fields.begun;
  accepted = fields.accepted;
  stopped = fields.stopped;
}
