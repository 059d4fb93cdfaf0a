-- Who may go out. This project's own.
use Rattle.std.specs.Prelude.{◌≡◌, ◌≤◌, ℕ, true, ◌==◌, nat_lt, List, length, map}
use Rattle.std.specs.List.{list_any, list_all}
use Rattle.rulebook.specs.Pairs.{are_distinct}
use Rattle.rulebook.specs.Limits.{most_entries}
use Rattle.place_list.specs.declared.bust.Bust.{Bust}
use Rattle.seat_book.specs.declared.seated.Seated.{Seated}
use Rattle.seat_book.specs.Players.{is_numbered}
use Rattle.table_engine.specs.declared.start.StartSeat.{StartSeat}
use Rattle.tournament_rules.specs.Valid.{AreOnce}

-- Each of these players may go out: he sits, and no two of them have one number. Who sits and who is out are together
-- those who entered, and these are not too many.
pub record MayGoOut (players : List StartSeat) (seated : List Seated) (busts : List Bust) : Type 0 where
  pub entries : List (List ℕ)
  pub few : length entries ≤ most_entries
  pub once : AreOnce entries seated busts
  pub apart : are_distinct (λ one other. one == other) (map (λ player. player.player) players) ≡ true
  pub listed : list_all (λ player. nat_lt player.player most_entries) players ≡ true
  pub sit : list_all (λ player. list_any (is_numbered player.player) seated) players ≡ true
