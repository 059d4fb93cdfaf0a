-- What is reported of a state. This project's own.
use Rattle.std.specs.Prelude.{ℕ, [], length, map, slice_get, slice_index_or, Some, None, Option, option_map, List, if◌then◌else◌}
use Rattle.std.specs.Option.{option_map_or}
use Rattle.tournament_events.specs.declared.report.Report.{Report}
use Rattle.tournament_events.specs.declared.report.ReportSeat.{ReportSeat}
use Rattle.tournament_events.specs.declared.report.ReportOut.{ReportOut}
use Rattle.place_list.specs.declared.standing.Standing.{Standing}
use Rattle.place_list.specs.Prizes.{pool_of}
use Rattle.place_list.specs.Standings.{standings_of}
use Rattle.seat_book.specs.declared.seated.Seated.{Seated}
use Rattle.table_engine.specs.declared.start.HandStart.{HandStart}
use Rattle.tournament_rules.specs.Books.{BookState}
use Rattle.tournament_rules.specs.Checks.{is_over_for_all}
use Rattle.tournament_rules.specs.Players.{is_in_hand}
use Rattle.tournament_rules.specs.States.{State}
use Rattle.tournament_rules.specs.Chips.{sold_by, rest_in, play_of}

-- a player who is in, as he is reported: with his stack at rest, or in play
abbrev pub reported : List (Option HandStart) → Seated → ReportSeat
reported started player = record {
  place = player.place;
  name = player.name;
  stack = if is_in_hand started player then None else Some player.stack;
}

-- the player who has won: where the tournament is over, the one who is in
abbrev pub winner : BookState → Option ℕ
winner book =
    if is_over_for_all book then option_map (λ player. player.player) (slice_get book.seating.players 0) else None

-- the pool of the prizes
abbrev pub pool_in : BookState → ℕ
pool_in book = pool_of (length book.entries) book.reentries book.plan.buyin

-- where the players stand who are out, and the winner where the tournament is over: by place, and then by entry
abbrev pub standings_in : BookState → List Standing
standings_in book = standings_of (length book.entries) (winner book) (pool_in book) book.plan.shares book.busts

-- a player who is out, or the winner, as he is reported: under the name with which he entered
abbrev pub reported_out : List (List ℕ) → Standing → ReportOut
reported_out entries standing = record {
  place = standing.place;
  name = slice_index_or entries standing.player [];
  prize = standing.prize;
}

-- The report of a book: the chips, who is in and where, and who is out, with places and prizes.
abbrev pub book_report : BookState → Report
book_report book = record {
  level = book.level;
  sold = sold_by book;
  removed = book.removed;
  added = book.added;
  rest = rest_in book;
  play = play_of book;
  seats = map (reported book.started) book.seating.players;
  outs = map (reported_out book.entries) (standings_in book);
}

-- the report before there is a plan
abbrev pub empty_report : Report
empty_report = record { level = 0; sold = 0; removed = 0; added = 0; rest = 0; play = 0; seats = []; outs = [] }

-- the report of a state
abbrev pub report_of : State → Report
report_of state = option_map_or (λ play. book_report play.book) state.play empty_report
