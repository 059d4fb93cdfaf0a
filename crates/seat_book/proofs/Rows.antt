-- The slots of one table.
use Rattle.std.proofs.Common.{◌≡◌, ◌∙◌, sym, ap, ℕ, suc, ◌+◌, ◌-◌, ◌*◌, ◌<◌, ◌≤◌, true, ◌⊎◌, List, [], ◌∷◌, ◌++◌, length, take, drop, Option, None, Some, inl, inr, arith, length-take, length-drop}
use Rattle.std.specs.Prelude.{not, filter}
use Rattle.std.specs.List.{list_all}
use Rattle.std.proofs.lemmas.Bool.{cases_eq, eq-eqb, ne_eqb}
use Rattle.std.proofs.lemmas.Nat.{mul-le}
use Rattle.std.proofs.lemmas.List.{take-append-drop, append-nil}
use Rattle.std.proofs.lemmas.List.Sums.{length-filter}
use Rattle.std.proofs.lemmas.List.Elements.{filter-append, filter_map-append}
use Rattle.seat_book.specs.declared.seated.Seated.{Seated}
use Rattle.seat_book.specs.Places.{IsTableOf}
use Rattle.seat_book.specs.Players.{players_in, sits_at, players_at}
use Rattle.seat_book.specs.Counts.{count_at}
use Rattle.seat_book.specs.Kept.{slot_of, StandsIn, AllStand}
use Rattle.seat_book.proofs.AllStand.{stand-take, stand-drop, stand-moved, list_all-stand, stands-table}
use Rattle.rulebook.proofs.Passing.{filter-all, filter-none}

-- the first slot of a table
abbrev pub first_slot : ℕ → ℕ → ℕ
first_slot seats table = (table - 1) * seats

-- the slots of a table
abbrev pub row_of : ℕ → ℕ → List (Option Seated) → List (Option Seated)
row_of seats table slots = take seats (drop (first_slot seats table) slots)

-- a table's slots are among those that there are
pub row-within : (tables seats table : ℕ) → IsTableOf tables table → first_slot seats table + seats ≤ tables * seats
row-within tables seats table at =
    let first : 1 ≤ table = at.first in
    let last : table ≤ tables = at.last in
    let rows : suc (table - 1) * seats ≤ tables * seats = mul-le (suc (table - 1)) seats tables seats
    (omega (arith, first, last)) (omega arith) in
    let one : suc (table - 1) * seats ≡ (table - 1) * seats + seats = omega arith in
    omega (arith, rows, one)

-- who stands in a slot of another table does not sit at this one
stands-elsewhere : (seats slot table : ℕ) (seated : Seated)
    → (slot < first_slot seats table) ⊎ (first_slot seats table + seats ≤ slot) → StandsIn seats slot seated
    → not (sits_at table seated) ≡ true
stands-elsewhere seats slot table seated where_else stands =
    elim (cases_eq seated.place.table table) [
      | inl same ↦
          let here : slot_of seats seated.place ≡ slot = stands.here in
          let row : (seated.place.table - 1) * seats ≡ (table - 1) * seats = ap (λ (n : ℕ). (n - 1) * seats) same in
          let first : 1 ≤ seated.place.seat = stands.first in
          let last : seated.place.seat ≤ seats = stands.last in
          elim where_else [
            | inl before ↦ absurd (omega (arith, here, row, first, last, before))
            | inr after ↦ absurd
                (omega (arith, here, row, first, last, after))
          ]
      | inr apart ↦ ap not (ne_eqb seated.place.table table apart)
    ]

-- nobody in the slots before a table's sits there
none_before : (seats table : ℕ) (slots : List (Option Seated)) → AllStand seats 0 slots
    → filter (sits_at table) (players_in (take (first_slot seats table) slots)) ≡ []
none_before seats table slots stand =
    filter-none (sits_at table) (players_in (take (first_slot seats table) slots))
    (list_all-stand (λ seated. not (sits_at table seated)) seats 0 (first_slot seats table) 0
    (take (first_slot seats table) slots)
    (λ slot seated low high stands. stands-elsewhere seats slot table seated (inl high) stands)
    (stand-take seats 0 (first_slot seats table) slots stand) (omega arith)
    (omega (arith, length-take (first_slot seats table) slots)))

-- the slots from a table's first on
from_row : (seats table : ℕ) (slots : List (Option Seated)) → AllStand seats 0 slots
    → AllStand seats (first_slot seats table) (drop (first_slot seats table) slots)
from_row seats table slots stand = stand-moved seats (0 + first_slot seats table) (first_slot seats table)
    (drop (first_slot seats table) slots) (omega arith) (stand-drop seats 0 (first_slot seats table) slots stand)

-- everyone in a table's slots sits there
pub all-here : (seats table : ℕ) (slots : List (Option Seated)) → 1 ≤ table → AllStand seats 0 slots
    → list_all (sits_at table) (players_in (row_of seats table slots)) ≡ true
all-here seats table slots first stand =
    list_all-stand (sits_at table) seats (first_slot seats table) (first_slot seats table + seats)
    (first_slot seats table) (row_of seats table slots)
    (λ slot seated low high stands. eq-eqb seated.place.table table
    (stands-table seats slot table seated first low high stands))
    (stand-take seats (first_slot seats table) seats (drop (first_slot seats table) slots)
    (from_row seats table slots stand))
    (omega arith) (omega (arith, length-take seats (drop (first_slot seats table) slots)))

-- nobody in the slots after a table's sits there
none_after : (seats table : ℕ) (slots : List (Option Seated)) → first_slot seats table + seats ≤ length slots
    → AllStand seats 0 slots → filter (sits_at table) (players_in
    (drop seats (drop (first_slot seats table) slots))) ≡ []
none_after seats table slots bound stand =
    filter-none (sits_at table) (players_in (drop seats (drop (first_slot seats table) slots)))
    (list_all-stand (λ seated. not (sits_at table seated)) seats (first_slot seats table + seats) (length slots)
    (first_slot seats table + seats) (drop seats (drop (first_slot seats table) slots))
    (λ slot seated low high stands. stands-elsewhere seats slot table seated (inr low) stands)
    (stand-drop seats (first_slot seats table) seats (drop (first_slot seats table) slots)
    (from_row seats table slots stand))
    (omega arith) (omega (
      arith,
      bound,
      length-drop seats (drop (first_slot seats table) slots),
      length-drop
          (first_slot seats table) slots,
    )))

-- the players in a table's slots are those who sit there
pub players_in-row : (tables seats table : ℕ) (slots : List (Option Seated)) → AllStand seats 0 slots
    → length slots ≡ tables * seats → IsTableOf tables table
    → players_in (row_of seats table slots) ≡ players_at (players_in slots) table
players_in-row tables seats table slots stand room at =
    let before = take (first_slot seats table) slots in
    let row = row_of seats table slots in
    let after = drop seats (drop (first_slot seats table) slots) in
    let parts : before ++ (row ++ after) ≡ slots = ap (λ rest. before ++ rest)
    (take-append-drop seats (drop (first_slot seats table) slots))
    ∙ take-append-drop (first_slot seats table) slots in
    let rows = row-within tables seats table at in
    let bound : first_slot seats table + seats ≤ length slots = omega (arith, rows, room) in
    let all : players_in slots ≡ players_in before ++ (players_in row ++ players_in after) =
    ap players_in (sym parts) ∙ (filter_map-append (λ slot. slot) before (row ++ after) ∙ ap
    (λ rest. players_in before ++ rest) (filter_map-append (λ slot. slot) row after)) in
    sym (ap (filter (sits_at table)) all
    ∙ (filter-append (sits_at table) (players_in before) (players_in row ++ players_in after)
    ∙ (ap (λ rest. filter (sits_at table) (players_in before) ++ rest)
    (filter-append (sits_at table) (players_in row) (players_in after))
    ∙ rw (
      none_before seats table slots stand,
      filter-all (sits_at table) (players_in row)
          (all-here seats table slots at.first stand),
      none_after seats table slots bound stand,
    )
    (append-nil (players_in row)))))

-- no more players than slots
length-players_in : (slots : List (Option Seated)) → length (players_in slots) ≤ length slots
length-players_in [] = omega arith
length-players_in (None ∷ slots) = omega (arith, length-players_in slots)
length-players_in (Some seated ∷ slots) = omega (arith, length-players_in slots)

-- no more players sit at a table than it has seats
pub count_at-most : (tables seats table : ℕ) (slots : List (Option Seated)) → AllStand seats 0 slots
    → length slots ≡ tables * seats → IsTableOf tables table → count_at (players_in slots) table ≤ seats
count_at-most tables seats table slots stand room at =
    let here = ap length (players_in-row tables seats table slots stand room at) in
    let counted = length-filter (sits_at table) (players_in slots) in
    omega (
      arith,
      here,
      counted,
      length-players_in (row_of seats table slots),
      length-take seats
          (drop (first_slot seats table) slots),
    )
