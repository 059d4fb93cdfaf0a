-- The players in a list of slots.
use Rattle.std.proofs.Common.{◌≡◌, ◌∙◌, sym, ap, ◌<◌, ℕ, ◌+◌, Bool, true, List, [], ◌∷◌, ◌++◌, length, take, drop, get_or, map}
use Rattle.std.specs.Prelude.{not, filter, Option}
use Rattle.std.specs.List.{list_all}
use Rattle.std.proofs.lemmas.Bool.{and_parts}
use Rattle.std.proofs.lemmas.List.{take_more, take-append-drop, map-append}
use Rattle.std.proofs.lemmas.List.Elements.{filter_map-append, filter-append}
use Rattle.std.proofs.lemmas.List.Folds.{list_all-append}
use Rattle.button_blinds.specs.SeatSets.{has_seat}
use Rattle.seat_book.specs.declared.seated.Seated.{Seated}
use Rattle.seat_book.specs.Players.{players_in}
use Rattle.tournament_rules.specs.Players.{start_seat}
use Rattle.floor_book.specs.Seats.{dealt_of}

-- The players in slots are those of the slots in front, and that of one more.
pub players_more : (slots : List (Option Seated)) (index : ℕ) (slot : Option Seated) → index < length slots → slot
    ≡ get_or slots index slot
    → players_in (take (index + 1) slots) ≡ players_in (take index slots) ++ players_in (slot ∷ [])
players_more slots index slot within is =
    ap players_in (take_more slots index slot within)
    ∙ (filter_map-append (λ slot. slot) (take index slots) (get_or slots index slot ∷ [])
    ∙ ap (λ (slot : Option Seated). players_in (take index slots) ++ players_in (slot ∷ [])) (sym is))

-- What passes for all players passes for those in front.
passes_front : (test : Seated → Bool) (slots : List (Option Seated)) (count : ℕ) → list_all test (players_in slots)
    ≡ true → list_all test (players_in (take count slots)) ≡ true
passes_front test slots count all =
    let split : players_in slots ≡ players_in (take count slots)
    ++ players_in (drop count slots) = ap players_in (sym (take-append-drop count slots))
    ∙ filter_map-append (λ slot. slot) (take count slots) (drop count slots) in
    let both : list_all test (players_in (take count slots) ++ players_in (drop count slots))
    ≡ true = rw split at all in
    (and_parts (list_all test (players_in (take count slots))) (list_all test (players_in (drop count slots)))
    (sym (list_all-append test (players_in (take count slots)) (players_in (drop count slots))) ∙ both)).0

-- What passes for all players passes for the one of a slot.
pub passes_at : (test : Seated → Bool) (slots : List (Option Seated)) (index : ℕ) (slot : Option Seated)
    → list_all test (players_in slots) ≡ true → index < length slots → slot ≡ get_or slots index slot
    → list_all test (players_in (slot ∷ [])) ≡ true
passes_at test slots index slot all within is =
    let split : players_in (take (index + 1) slots) ≡ players_in (take index slots)
    ++ players_in (slot ∷ []) = players_more slots index slot within is in
    let front : list_all test (players_in (take (index + 1) slots)) ≡ true = passes_front test slots (index + 1) all in
    let both : list_all test (players_in (take index slots) ++ players_in (slot ∷ [])) ≡ true = rw split at front in
    (and_parts (list_all test (players_in (take index slots))) (list_all test (players_in (slot ∷ [])))
    (sym (list_all-append test (players_in (take index slots)) (players_in (slot ∷ []))) ∙ both)).1

-- Those who are dealt in of the slots in front, and of one more.
pub dealt_more : (waiting : List Bool) (slots : List (Option Seated)) (index : ℕ) (slot : Option Seated)
    → index < length slots → slot ≡ get_or slots index slot
    → dealt_of waiting (players_in (take (index + 1) slots)) ≡ dealt_of waiting (players_in (take index slots))
    ++ dealt_of waiting (players_in (slot ∷ []))
dealt_more waiting slots index slot within is =
    let keep : Seated → Bool = λ player. not (has_seat waiting player.place.seat) in
    ap (dealt_of waiting) (players_more slots index slot within is)
    ∙ (ap (map start_seat) (filter-append keep (players_in (take index slots)) (players_in (slot ∷ [])))
    ∙ map-append start_seat (filter keep (players_in (take index slots))) (filter keep (players_in (slot ∷ []))))
