-- Who is found by a number sits where they are found.
use Rattle.std.proofs.Common.{◌≡◌, ◌∙◌, refl, sym, subst, ℕ, Bool, true, false, List, [], ◌∷◌}
use Rattle.std.specs.Prelude.{Some, IsSome}
use Rattle.std.proofs.lemmas.Option.{same_Some}
use Rattle.seat_book.specs.declared.place.Place.{Place}
use Rattle.seat_book.specs.declared.seated.Seated.{Seated}
use Rattle.seat_book.specs.Players.{sits_in, is_numbered, player_at, place_of}
use Rattle.tournament_rules.proofs.ByNumber.{sits_there}

-- Somebody sits in the place of a number.
pub sits_found : (players : List Seated) (number : ℕ) (place : Place) → place_of players number ≡ Some place
    → IsSome (player_at players place)
sits_found [] number place found = absurd cc
sits_found (player ∷ players) number place found =
    by_tests (is_numbered number player) refl (sits_in place player) refl
    (λ (more : place_of players number ≡ Some place). sits_found players number place more)
  where
    by_tests : (b : Bool) → is_numbered number player ≡ b → (h : Bool) → sits_in place player ≡ h
        → (place_of players number ≡ Some place → IsSome (player_at players place))
        → IsSome (player_at (player ∷ players) place)
    by_tests b is true here rest = rw here refl
    by_tests true is false here rest =
        let same : player.place ≡ place = same_Some player.place place (rw is at found) in
        let sits : sits_in place player ≡ true =
        subst (λ (place : Place). sits_in place player ≡ true) same (sits_there player) in
        let never : true ≡ false = sym sits ∙ here in
        absurd cc
    by_tests false is false here rest = rw here (rest (rw is at found))
