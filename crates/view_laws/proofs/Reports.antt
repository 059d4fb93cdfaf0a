-- A report does not depend on the decks of the hands that are played.
use Rattle.std.proofs.Common.{◌≡◌, ◌∙◌, refl, ap, Bool, List, map}
use Rattle.std.specs.Prelude.{Option, Some, None, option_map, sum_by, if◌then◌else◌}
use Rattle.rulebook.proofs.Tests.{sum_by-map}
use Rattle.seat_book.specs.declared.seated.Seated.{Seated}
use Rattle.table_engine.specs.declared.start.HandStart.{HandStart}
use Rattle.table_engine.specs.declared.start.StartSeat.{StartSeat}
use Rattle.table_engine.specs.Starts.{chips_of}
use Rattle.tournament_events.specs.declared.report.ReportSeat.{ReportSeat}
use Rattle.tournament_rules.specs.Books.{BookState, start_at, starters_of}
use Rattle.tournament_rules.specs.Chips.{play_of}
use Rattle.tournament_rules.specs.Players.{is_in_hand, is_one_of}
use Rattle.tournament_rules.specs.Report.{book_report}
use Rattle.view_rules.specs.Seen.{without_deck, undealt_book}
use Rattle.view_laws.proofs.Refusals.{start_at-undealt}

-- The players with whom a hand started.
starters-undealt : (start : Option HandStart) → starters_of (option_map without_deck start) ≡ starters_of start
starters-undealt None = refl
starters-undealt (Some start) = refl

-- The chips that are in play.
play_of-undealt : (book : BookState) → play_of (undealt_book book) ≡ play_of book
play_of-undealt book =
    sum_by-map (λ start. chips_of (starters_of start)) (option_map without_deck) book.started
    ∙ (λ i. sum_by (λ start. chips_of (starters-undealt start i)) book.started)

-- Whether a player is in a hand.
in_hand-undealt : (book : BookState) (player : Seated)
    → is_in_hand (undealt_book book).started player ≡ is_in_hand book.started player
in_hand-undealt book player =
    ap (λ (starters : List StartSeat). is_one_of starters player)
    (ap starters_of (start_at-undealt book player.place.table)
    ∙ starters-undealt (start_at book.started player.place.table))

-- the line of a player who is in a hand or not
abbrev seat_with : Bool → Seated → ReportSeat
seat_with in_hand player = record {
  place = player.place;
  name = player.name;
  stack = if in_hand then None else Some player.stack;
}

-- The whole report.
pub report-undealt : (book : BookState) → book_report (undealt_book book) ≡ book_report book
report-undealt book = λ i. record (book_report book) {
  play = play_of-undealt book i;
  seats = map (λ player. seat_with (in_hand-undealt book player i) player) book.seating.players;
}
