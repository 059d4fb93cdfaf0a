use Rattle.std.proofs.Common.{◌≡◌, ◌+◌, ◌≤◌, ◌||◌, ℕ, take, length}
use Rattle.std.specs.Prelude.{count_by}
use Rattle.std.specs.List.{list_any}
use Rattle.std.specs.Option.{is_some}
use Rattle.button_blinds.specs.SeatSets.{has_seat, seat_count}
use Rattle.seat_book.specs.Players.{player_at}
use Rattle.seat_book.specs.Counts.{count_at}
use Rattle.balance_rule.specs.Filling.{is_at, is_same_place}
use Rattle.break_draw.proofs.filling.free_seat.Given as goal

-- A seat is taken where somebody sits in it or it is among those that are chosen so far.
abbrev pub invariant-loop-place : goal.invariant-loop-place
invariant-loop-place l = record {
  taken : (seat : ℕ) → 1 ≤ seat → seat ≤ 10 → has_seat l.taken seat
      ≡ (is_some (player_at l.book.players (record { table = l.table; seat = seat }))
      || list_any (is_same_place (record { table = l.table; seat = seat })) (take l.place-index l.chosen));
  few : seat_count l.taken ≤ count_at l.book.players l.table + count_by (is_at l.table) (take l.place-index l.chosen);
  size : length l.taken ≡ 10;
}
