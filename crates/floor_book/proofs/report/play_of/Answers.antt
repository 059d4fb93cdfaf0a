use Rattle.std.proofs.Common.{None, arith}
use Rattle.std.proofs.lemmas.List.Sums.{sum_by_more_le}
use Rattle.std.proofs.lemmas.Grind.{common_steps}
use Rattle.table_engine.specs.Starts.{chips_of}
use Rattle.tournament_rules.specs.Books.{starters_of}
use Rattle.floor_book.proofs.report.play_of.Goals as goal

pub overflow_add-chips : goal.overflow_add-chips
overflow_add-chips c =
    let here = sum_by_more_le (λ start. chips_of (starters_of start)) c.args.started.now c.loop-start.start-index None
    c.loop-start-test.true in
    grind (arith, common_steps, here)
