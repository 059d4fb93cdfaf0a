use Rattle.history_lock.proofs.lock.HistoryLock.leave.Given as goal

-- what is left is the history of the value
abbrev pub ghosts-publish : goal.ghosts-publish
ghosts-publish g a = record { left = g.V.Grows.history a.left.now.value }
