-- What is made of the players in slots, a slot at a time.
use Rattle.std.proofs.Common.{◌≡◌, ℕ, ◌+◌, ◌<◌, List, [], ◌∷◌, ◌++◌, length, take, get_or, Option, map}
use Rattle.std.proofs.lemmas.List.{take_more, map-append}
use Rattle.std.proofs.lemmas.List.Elements.{filter_map-append}
use Rattle.seat_book.specs.declared.seated.Seated.{Seated}
use Rattle.seat_book.specs.Players.{players_in}

-- What is made of the players in one slot more.
pub mapped-more : {A : Type 0} (f : Seated → A) (slots : List (Option Seated)) (i : ℕ)
    (fallback slot : Option Seated) → i < length slots → get_or slots i fallback ≡ slot
    → map f (players_in (take (i + 1) slots)) ≡ map f (players_in (take i slots)) ++ map f (players_in (slot ∷ []))
mapped-more f slots i fallback slot within is =
    rw (
      take_more slots i fallback within,
      is,
      filter_map-append (λ slot. slot) (take i slots) (slot ∷ []),
      map-append f (players_in (take i slots)) (players_in (slot ∷ [])),
    )
