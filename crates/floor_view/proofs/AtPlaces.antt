-- Who is found by his number is found in his place, with the same stack.
use Rattle.std.proofs.Common.{◌≡◌, ◌∙◌, refl, sym, ap, subst, ℕ, Bool, true, false, List, [], ◌∷◌}
use Rattle.std.specs.Prelude.{Option, Some, None, option_map}
use Rattle.std.specs.List.{list_all}
use Rattle.std.specs.Option.{option_map_or}
use Rattle.std.proofs.lemmas.Bool.{and_parts}
use Rattle.std.proofs.lemmas.List.Folds.{list_all-map}
use Rattle.std.proofs.lemmas.Option.{same_Some}
use Rattle.rulebook.proofs.Tests.{find-all}
use Rattle.seat_book.specs.declared.place.Place.{Place}
use Rattle.seat_book.specs.declared.seated.Seated.{Seated}
use Rattle.seat_book.specs.Places.{are_rising, comes_before}
use Rattle.seat_book.specs.Players.{are_in_order, is_numbered, place_of, places_of, player_at, player_of}
use Rattle.seat_book.proofs.PlaceOrder.{before-apart}
use Rattle.tournament_rules.proofs.ByNumber.{sits_there}
use Rattle.floor_view.specs.Stacks.{rest_of}

-- Where no two sit in one place, who is found by his number is found in his place.
found-at : (players : List Seated) (number : ℕ) (seated : Seated) → are_in_order players ≡ true
    → player_of players number ≡ Some seated → player_at players seated.place ≡ Some seated
found-at [] number seated ordered found = absurd cc
found-at (player ∷ players) number seated ordered found =
    let parts = and_parts (list_all (comes_before player.place) (places_of players)) (are_rising (places_of players))
    ordered in
    let later = sym (list_all-map (comes_before player.place) (λ (other : Seated). other.place) players) ∙ parts.0 in
    by_test (is_numbered number player) refl later
    (λ (more : player_of players number ≡ Some seated). found-at players number seated parts.1 more)
  where
    by_test : (b : Bool) → is_numbered number player ≡ b
        → list_all (λ other. comes_before player.place other.place) players ≡ true
        → (player_of players number ≡ Some seated → player_at players seated.place ≡ Some seated)
        → player_at (player ∷ players) seated.place ≡ Some seated
    by_test true his later rest =
        let same : player ≡ seated = same_Some player seated (rw his at found) in
        subst (λ (seated : Seated). player_at (player ∷ players) seated.place ≡ Some seated) same
        (rw (sits_there player) refl)
    by_test false his later rest =
        let more : player_of players number ≡ Some seated = rw his at found in
        let before = find-all (is_numbered number) (λ other. comes_before player.place other.place) players seated more
        later in
        let apart = before-apart player.place.table player.place.seat seated.place.table seated.place.seat before in
        rw apart (rest more)

-- What is read of the stack in the place of a number is the stack of the player who has that number.
pub rest-read : (players : List Seated) (number : ℕ) (place : Place) → are_in_order players ≡ true
    → place_of players number ≡ Some place
    → option_map_or (λ seated. seated.stack) (player_at players place) 0 ≡ rest_of players number
rest-read players number place ordered there = by_found (player_of players number) refl there
  where
    by_found : (found : Option Seated) → player_of players number ≡ found
        → option_map (λ seated. seated.place) found ≡ Some place
        → option_map_or (λ seated. seated.stack) (player_at players place) 0
        ≡ option_map_or (λ seated. seated.stack) found 0
    by_found None is there = absurd cc
    by_found (Some seated) is there =
        let same : seated.place ≡ place = same_Some seated.place place there in
        let found = subst (λ (place : Place). player_at players place ≡ Some seated) same
        (found-at players number seated ordered is) in
        ap (λ (found : Option Seated). option_map_or (λ seated. seated.stack) found 0) found

-- Where a number has no place, its player has no stack.
pub rest-none : (players : List Seated) (number : ℕ) → place_of players number ≡ None → rest_of players number ≡ 0
rest-none players number none = by_found (player_of players number) none
  where
    by_found : (found : Option Seated) → option_map (λ seated. seated.place) found ≡ None
        → option_map_or (λ seated. seated.stack) found 0 ≡ 0
    by_found None none = refl
    by_found (Some seated) none = absurd cc
