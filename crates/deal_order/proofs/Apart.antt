-- A player's cards and the board are different cards.
use Rattle.std.proofs.Common.{◌≡◌, ℕ, zero, suc, ◌+◌, ◌*◌, ◌<◌, ◌≤◌, Bool, true, List, [], ◌∷◌, ◌++◌, length, map, refl, inl, inr, arith}
use Rattle.std.specs.Prelude.{◌==◌, nat_lt}
use Rattle.std.specs.List.{list_all}
use Rattle.std.proofs.lemmas.Bool.{and_from, and_parts, cases_Bool}
use Rattle.std.proofs.lemmas.Bool.Decides.{nat_tests}
use Rattle.rulebook.specs.Pairs.{are_rising}
use Rattle.rulebook.specs.Seats.{clockwise_after}
use Rattle.rulebook.proofs.Among.{is_among, among-filter}
use Rattle.rulebook.proofs.OccupiedSeats.{among-clockwise}
use Rattle.rulebook.proofs.Tests.{list_all-follows}
use Rattle.button_blinds.specs.SeatSets.{AreSeatsOf, has_seat, seat_count}
use Rattle.deal_order.specs.DealOrder.{count_up, dealt_in_order, index_in, places_of_board, places_of_player}
use Rattle.deal_order.proofs.Orders.{dealt-count}

-- Fewer come before who is in a list than are in it.
index-within : (seat : ℕ) (seats : List ℕ) → is_among seat seats ≡ true
    → index_in seat seats < length seats
index-within seat [] has = absurd cc
index-within seat (first ∷ seats) has =
    elim (cases_Bool (first == seat)) [
      | inl here ↦ rw here (omega arith)
      | inr elsewhere ↦ let later = index-within seat seats (rw elsewhere at has) in rw elsewhere (omega arith)
    ]

-- Who is dealt in has fewer before him than are dealt in.
pub index-dealt : (dealt : List Bool) (button seats seat : ℕ) → AreSeatsOf seats dealt → button ≤ seats
    → has_seat dealt seat ≡ true
    → index_in seat (dealt_in_order dealt button seats) < seat_count dealt
index-dealt dealt button seats zero table at sits = absurd cc
index-dealt dealt button seats (suc below) table at sits =
    let inside = table.within (suc below) sits in
    let comes = among-clockwise seats button (suc below) at (omega arith) (omega arith) in
    let within = index-within (suc below) (dealt_in_order dealt button seats)
    (among-filter (has_seat dealt) (suc below) (clockwise_after seats button) sits comes) in
    let count = dealt-count dealt button seats table at in
    omega arith

-- Numbers that rise, with a lower one in front.
rising-more : (first second : ℕ) (others : List ℕ) → first < second → are_rising (second ∷ others) ≡ true
    → are_rising (first ∷ second ∷ others) ≡ true
rising-more first second others below rising =
    let parts = and_parts (list_all (nat_lt second) others) (are_rising others) rising in
    let here : nat_lt first second ≡ true = grind (arith, nat_tests) in
    let later = list_all-follows (nat_lt second) (nat_lt first) others
    (λ other above. lower first second other below above) parts.0 in
    and_from _ _ (and_from _ _ here later) rising
  where
    lower : (first second other : ℕ) → first < second → nat_lt second other ≡ true → nat_lt first other ≡ true
    lower first second other below above = grind (arith, nat_tests)

-- The places of the board rise, from one above those of the hole cards.
board-rising : (n : ℕ) → are_rising ((n + 0 + 1) ∷ (n + 1 + 1) ∷ (n + 2 + 1) ∷ (n + 3 + 2) ∷ (n + 4 + 3) ∷ []) ≡ true
board-rising n =
    rising-more (n + 0 + 1) (n + 1 + 1) ((n + 2 + 1) ∷ (n + 3 + 2) ∷ (n + 4 + 3) ∷ []) (omega arith)
    (rising-more (n + 1 + 1) (n + 2 + 1) ((n + 3 + 2) ∷ (n + 4 + 3) ∷ []) (omega arith)
    (rising-more (n + 2 + 1) (n + 3 + 2) ((n + 4 + 3) ∷ []) (omega arith)
    (rising-more (n + 3 + 2) (n + 4 + 3) [] (omega arith) refl)))

-- The next round of cards is one card of each player further.
next-round : (from n : ℕ) → (from + 1) * n ≡ from * n + n
next-round from n = grind arith

-- Hole cards in rising order, with others behind them from a place on that none of them comes to.
holes-rising : (n index steps from : ℕ) (first : ℕ) (others : List ℕ) → index < n → (from + steps) * n ≤ first
    → are_rising (first ∷ others) ≡ true
    → are_rising (map (λ card. card * n + index) (count_up from steps) ++ first ∷ others) ≡ true
holes-rising n index zero from first others within last rising = rising
holes-rising n index (suc zero) from first others within last rising =
    let next = next-round from n in rising-more (from * n + index) first others (omega arith) rising
holes-rising n index (suc (suc steps)) from first others within last rising =
    let next = next-round from n in
    let same : from + suc (suc steps) ≡ from + 1 + suc steps = omega arith in
    let later = holes-rising n index (suc steps) (from + 1) first others within (rw same at last) rising in
    rising-more (from * n + index) ((from + 1) * n + index)
    (map (λ card. card * n + index) (count_up (from + 1 + 1) steps) ++ first ∷ others) (omega arith) later

-- The places of a player's hole cards, and then those of the board, rise.
pub player-rising : (dealt : List Bool) (button seats holes seat : ℕ) → AreSeatsOf seats dealt → seats ≤ 10
    → button ≤ seats → has_seat dealt seat ≡ true
    → are_rising (places_of_player dealt button seats holes seat ++ places_of_board (seat_count dealt) holes) ≡ true
player-rising dealt button seats holes seat table most at sits =
    let n = seat_count dealt in
    let within = index-dealt dealt button seats seat table at sits in
    let none : (0 + holes) * n ≡ holes * n = grind arith in
    let first : (0 + holes) * n ≤ holes * n + 0 + 1 = omega arith in
    holes-rising n (index_in seat (dealt_in_order dealt button seats)) holes 0 (holes * n + 0 + 1)
    ((holes * n + 1 + 1) ∷ (holes * n + 2 + 1) ∷ (holes * n + 3 + 2) ∷ (holes * n + 4 + 3) ∷ []) within first
    (board-rising (holes * n))
