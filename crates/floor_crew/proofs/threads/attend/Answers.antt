use Rattle.floor_crew.proofs.threads.attend.Goals as goal

pub returns : goal.returns
returns g c =
    let worked = c.work_desk-desk.ensures in
    record {
      start = c.args.desk;
      none_at_book = c.requires.desk.none_at_book;
      none_at_tables = c.requires.desk.none_at_tables;
      its = worked.desk;
      worked = worked.worked;
      rose = worked.failed;
      steady = worked.steady;
      stopped = worked.stopped;
    }
