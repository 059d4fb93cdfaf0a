-- What a report says of the chips is what is kept of them.
use Rattle.std.proofs.Common.{◌≡◌, ◌∙◌, refl, sym, ℕ, ◌+◌, Bool, true, false, ◌==◌, List, [], ◌∷◌, arith}
use Rattle.std.specs.Prelude.{sum_by, if◌then◌else◌, unwrap_or, Option, Some, None}
use Rattle.std.specs.List.{All}
use Rattle.std.specs.Option.{option_map_or, ForSome}
use Rattle.std.proofs.lemmas.Bool.{and_parts, eqb-true}
use Rattle.std.proofs.lemmas.List.Elements.{All-head, All-tail}
use Rattle.std.proofs.lemmas.List.Sums.{sum_by-cons}
use Rattle.rulebook.proofs.Tests.{sum_by-map}
use Rattle.tournament_events.specs.declared.report.Report.{Report}
use Rattle.tournament_events.specs.declared.report.ReportSeat.{ReportSeat}
use Rattle.seat_book.specs.declared.seated.Seated.{Seated}
use Rattle.seat_book.specs.Players.{sits_at}
use Rattle.table_engine.specs.declared.start.HandStart.{HandStart}
use Rattle.tournament_rules.specs.Players.{is_in_hand}
use Rattle.tournament_rules.specs.Report.{reported, book_report, empty_report}
use Rattle.tournament_rules.specs.States.{PlayState}
use Rattle.tournament_rules.specs.Valid.{IsValidPlay, is_lent}
use Rattle.tournament_rules.proofs.Members.{in_hand-lent}

-- the report of a tournament, and the empty one before there is a plan
abbrev report_in : Option PlayState → Report
report_in play = option_map_or (λ play. book_report play.book) play empty_report

-- the chips that are reported to be at rest at a seat
abbrev rests_there : ReportSeat → ℕ
rests_there seat = unwrap_or seat.stack 0

-- The chips that are reported are kept: those at rest, in play and removed are those sold and added.
pub reported_kept : (play : Option PlayState) → ForSome play IsValidPlay
    → (report_in play).rest + (report_in play).play + (report_in play).removed
    ≡ (report_in play).sold + (report_in play).added
reported_kept None valid = omega arith
reported_kept (Some play) valid = (valid play refl).book.chips

-- A player who is in no hand is reported with his stack, and who is in one has nothing at rest.
stacks_reported : (started : List (Option HandStart)) (players : List Seated)
    → All (λ player. is_in_hand started player ≡ is_lent player.place.table player) players
    → sum_by (λ player. player.stack) players
    ≡ sum_by (λ player. rests_there (reported started player)) players
stacks_reported started [] lent = refl
stacks_reported started (player ∷ players) lent =
    let his = All-head (λ player. is_in_hand started player ≡ is_lent player.place.table player) player players lent in
    let others = All-tail (λ player. is_in_hand started player ≡ is_lent player.place.table player) player players
    lent in
    let rest = stacks_reported started players others in
    let here = by_hand (is_in_hand started player) his in
    let all = sum_by-cons (λ (one : Seated). one.stack) player players in
    let said = sum_by-cons (λ (one : Seated). rests_there (reported started one)) player players in
    omega (arith, rest, here, all, said)
  where
    by_hand : (plays : Bool) → plays ≡ is_lent player.place.table player
        → player.stack ≡ unwrap_or (if plays then None else Some player.stack) 0
    by_hand true is =
        eqb-true player.stack 0 (and_parts (sits_at player.place.table player) (player.stack == 0) (sym is)).1
    by_hand false is = refl

-- The chips at rest are the stacks of the seats that are reported.
pub rest_of_seats : (play : Option PlayState) → ForSome play IsValidPlay
    → (report_in play).rest ≡ sum_by rests_there (report_in play).seats
rest_of_seats None valid = refl
rest_of_seats (Some play) valid =
    let book = play.book in
    stacks_reported book.started book.seating.players (in_hand-lent book (valid play refl).book)
    ∙ sym (sum_by-map rests_there (reported book.started) book.seating.players)
