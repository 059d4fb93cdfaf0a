-- Who sits where once the players of a table that breaks moved. This project's own.
use Rattle.std.specs.Prelude.{ℕ, Bool, List, [], ◌∷◌, find, Option, option_map}
use Rattle.std.specs.Option.{option_map_or}
use Rattle.std.specs.Str.{bytes_eq}
use Rattle.seat_book.specs.declared.place.Place.{Place}
use Rattle.seat_book.specs.declared.seated.Seated.{Seated}
use Rattle.seat_book.specs.Seatings.{Seating}
use Rattle.seat_book.specs.Players.{players_at}
use Rattle.balance_rule.specs.declared.balance.Move.{Move}
use Rattle.balance_rule.specs.Balance.{after_move}

-- whether a player has this name
abbrev pub is_called : List ℕ → Seated → Bool
is_called name player = bytes_eq player.name name

-- the move of the player of a name at a table to a place, if one of that name sits there
abbrev pub move_of : Seating → ℕ → List ℕ → Place → Option Move
move_of seating table name place =
    option_map (λ player. record { player = player.player; from = player.place; to = place })
    (find (is_called name) (players_at seating.players table))

-- who sits where once the player of a name at a table took a place, with his stack
abbrev pub after_taking : ℕ → List ℕ → Place → Seating → Seating
after_taking table name place seating =
    option_map_or (λ move_. after_move move_ seating) (move_of seating table name place) seating

-- who sits where once the players of these names at a table took these places, each the one that stands with his name
abbrev pub after_all : ℕ → List (List ℕ) → List Place → Seating → Seating
after_all table [] places seating = seating
after_all table (name ∷ names) [] seating = seating
after_all table (name ∷ names) (place ∷ places) seating =
    after_all table names places (after_taking table name place seating)
