-- The names of a table's players, in its slots and in the list of players.
use Rattle.std.proofs.Common.{◌≡◌, ◌∙◌, refl, ℕ, List, [], ◌∷◌, map, length, Option, None, Some, arith}
use Rattle.std.specs.Prelude.{count_by}
use Rattle.std.specs.Str.{bytes_eq}
use Rattle.std.proofs.lemmas.List.{length-map}
use Rattle.std.proofs.lemmas.List.Sums.{length-filter}
use Rattle.rulebook.proofs.Tests.{count_by-cons}
use Rattle.seat_book.specs.declared.seated.Seated.{Seated}
use Rattle.seat_book.specs.Players.{players_in, players_at, sits_at}
use Rattle.seat_book.specs.Counts.{count_at}
use Rattle.seat_book.specs.Seatings.{Seating}
use Rattle.balance_rule.specs.Filling.{names_at}
use Rattle.break_draw.specs.Draws.{is_named}

-- Who has a name in the slots has it among the players in them.
pub named-players : (name : List ℕ) (slots : List (Option Seated))
    → count_by (is_named name) slots ≡ count_by (bytes_eq name) (map (λ seated. seated.name) (players_in slots))
named-players name [] = refl
named-players name (None ∷ slots) =
    let first = count_by-cons (is_named name) None slots in
    let rest = named-players name slots in
    omega (arith, first, rest)
named-players name (Some seated ∷ slots) =
    let first = count_by-cons (is_named name) (Some seated) slots in
    let other = count_by-cons (bytes_eq name) seated.name (map (λ seated. seated.name) (players_in slots)) in
    let rest = named-players name slots in
    omega (arith, first, other, rest)

-- A table has as many names as players.
pub names-length : (seating : Seating) (table : ℕ) → length (names_at seating table) ≡ count_at seating.players table
names-length seating table = length-map (players_at seating.players table) (λ seated. seated.name)
    ∙ length-filter (sits_at table) seating.players
