use Rattle.std.proofs.Common.{◌≡◌, take, sum_by}
use Rattle.table_engine.specs.Starts.{chips_of}
use Rattle.tournament_rules.specs.Books.{starters_of}
use Rattle.floor_book.proofs.report.play_of.Given as goal

abbrev pub invariant-loop-start : goal.invariant-loop-start
invariant-loop-start l = l.chips ≡ sum_by (λ start. chips_of (starters_of start)) (take l.start-index l.started)
