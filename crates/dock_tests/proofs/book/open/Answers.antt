use Rattle.dock_tests.proofs.book.open.Goals as goal

pub returns-clause-floor : goal.returns-clause-floor
returns-clause-floor c = (c.both-floor.ensures _ _ c.in_ok-made.ensures.fresh).0.its_lock

pub returns-clause-worker : goal.returns-clause-worker
returns-clause-worker c = (c.both-floor.ensures _ _ c.in_ok-made.ensures.fresh).1.its_lock
