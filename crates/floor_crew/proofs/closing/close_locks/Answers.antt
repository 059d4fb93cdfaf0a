use Rattle.floor_crew.proofs.closing.close_locks.Goals as goal

pub returns : goal.returns
returns c =
    let opened = c.close_tables.ensures in
    record {
      legal = c.close_book.ensures.legal;
      grown = c.close_book.ensures.grown;
      own = c.close_book.ensures.own;
      numbers = c.close_book.ensures.numbers;
      histories = opened.0;
      tables = opened.1;
      made = opened.3;
      nowhere = opened.4;
      seen = record { of_book = c.close_book.ensures.seen; of_tables = opened.2 };
    }
