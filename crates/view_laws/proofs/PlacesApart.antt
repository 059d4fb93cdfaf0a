-- The places of a deck from which different players and the board get their cards differ.
use Rattle.std.proofs.Common.{◌≡◌, ◌≢◌, ◌∙◌, refl, sym, ap, subst, ℕ, zero, suc, ◌+◌, ◌*◌, ◌-◌, ◌<◌, ◌≤◌, Bool, true, false, cond, List, [], ◌∷◌, arith}
use Rattle.std.specs.Prelude.{◌==◌, nat_lt, Some, Contains}
use Rattle.std.specs.List.{AllByRecursion}
use Rattle.std.proofs.lemmas.Bool.{eqb-true}
use Rattle.std.proofs.lemmas.List.Elements.{All-from_recursion, All-contains}
use Rattle.rulebook.specs.Seats.{clockwise_after}
use Rattle.rulebook.proofs.Among.{is_among, among-filter}
use Rattle.rulebook.proofs.OccupiedSeats.{among-clockwise}
use Rattle.button_blinds.specs.SeatSets.{AreSeatsOf, has_seat, seat_count}
use Rattle.button_blinds.proofs.SeatSetLaws.{seat_count-most}
use Rattle.card_set.specs.declared.game.Game.{Game}
use Rattle.card_set.specs.declared.game.Game.TheVariants.{Holdem, Omaha, Hilo}
use Rattle.deal_order.specs.DealOrder.{board_card_place, burned_before, count_up, dealt_in_order, hole_card_place, index_in}
use Rattle.deal_order.proofs.Apart.{index-dealt}
use Rattle.deal_order.proofs.Deals.{forty}
use Rattle.table_engine.specs.declared.start.HandStart.{HandStart}
use Rattle.table_engine.specs.declared.start.StartSeat.{StartSeat}
use Rattle.table_engine.specs.Deals.{dealt_seats, hole_count}
use Rattle.table_engine.specs.Hands.{player_of}
use Rattle.table_engine.specs.Starts.{IsLawfulStart}
use Rattle.table_engine.proofs.BySeat.{along-at, found-within}
use Rattle.table_engine.proofs.Tabled.{dealt-table, listed-dealt}
use Rattle.view_rules.specs.Shown.{BoardStreet, Flop, Turn, River, hole_places, street_places, cards_of_street}
use Rattle.view_laws.proofs.Members.{hold_made, weaker}

-- A place is that of a hole card of the player in a seat.
pub record IsHoleOf (start : HandStart) (seat place : ℕ) : Type 0 where
  pub card : ℕ
  pub below : card < hole_count start.game
  pub is : place ≡ hole_card_place (dealt_seats start) start.marks.button start.seat_count seat card

-- A place is that of a card of the board.
pub record IsOfBoard (start : HandStart) (place : ℕ) : Type 0 where
  pub card : ℕ
  pub below : card < 5
  pub is : place ≡ board_card_place (seat_count (dealt_seats start)) (hole_count start.game) card

-- Numbers that count up are below the one after the last.
count_up-below : (from steps most : ℕ) → from + steps ≤ most
    → AllByRecursion (λ card. card < most) (count_up from steps)
count_up-below from zero most within = tt
count_up-below from (suc steps) most within = (omega arith, count_up-below (from + 1) steps most (omega arith))

-- The places of a player's hole cards are such.
pub holes-his : (start : HandStart) (seat : ℕ) → AllByRecursion (IsHoleOf start seat) (hole_places start seat)
unfolding hole_places
holes-his start seat =
    let cards = count_up 0 (hole_count start.game) in
    hold_made (IsHoleOf start seat)
    (hole_card_place (dealt_seats start) start.marks.button start.seat_count seat) cards
    (weaker (λ card. card < hole_count start.game)
    (λ card. IsHoleOf start seat
    (hole_card_place (dealt_seats start) start.marks.button start.seat_count seat card)) cards
    (λ card below. record { card = card; below = below; is = refl })
    (count_up-below 0 (hole_count start.game) (hole_count start.game) (omega arith)))

-- So is each place among them.
pub hole-his : (start : HandStart) (seat place : ℕ) → Contains (hole_places start seat) place
    → IsHoleOf start seat place
hole-his start seat place has =
    All-contains (IsHoleOf start seat) (hole_places start seat) place
    (All-from_recursion (IsHoleOf start seat) (hole_places start seat) (holes-his start seat)) has

-- A street brings cards of the five of the board.
street-below : (street : BoardStreet) → AllByRecursion (λ card. card < 5) (cards_of_street street)
street-below Flop = (omega arith, (omega arith, (omega arith, tt)))
street-below Turn = (omega arith, tt)
street-below River = (omega arith, tt)

-- The places of a street's cards are of the board.
pub street-board : (start : HandStart) (street : BoardStreet)
    → AllByRecursion (IsOfBoard start) (street_places start street)
unfolding street_places
street-board start street =
    hold_made (IsOfBoard start) (board_card_place (seat_count (dealt_seats start)) (hole_count start.game))
    (cards_of_street street)
    (weaker (λ card. card < 5)
    (λ card. IsOfBoard start (board_card_place (seat_count (dealt_seats start)) (hole_count start.game) card))
    (cards_of_street street) (λ card below. record { card = card; below = below; is = refl }) (street-below street))

-- One round more is one card of each more.
next-round : (round n : ℕ) → suc round * n ≡ round * n + n
next-round round n = grind arith

-- Where two places in rounds are one, they are one player's.
same-index : (n one other : ℕ) → one < n → other < n → (round later : ℕ) → round * n + one ≡ later * n + other
    → one ≡ other
same-index n one other within within_too zero zero same = omega arith
same-index n one other within within_too zero (suc later) same =
    let next = next-round later n in absurd (omega arith)
same-index n one other within within_too (suc round) zero same =
    let next = next-round round n in absurd (omega arith)
same-index n one other within within_too (suc round) (suc later) same =
    let next = next-round round n in
    let next_too = next-round later n in
    same-index n one other within within_too round later (omega arith)

-- The places of earlier rounds come before the first place of a later one.
round-before : (n round rounds index : ℕ) → round < rounds → index < n → round * n + index < rounds * n
round-before n round zero index before within = absurd (omega arith)
round-before n zero (suc rounds) index before within = let next = next-round rounds n in omega arith
round-before n (suc round) (suc rounds) index before within =
    let next = next-round round n in
    let next_too = next-round rounds n in
    let earlier = round-before n round rounds index (omega arith) within in
    omega arith

-- Two seats of a list with the same number of seats before them are one.
same-seat : (one other : ℕ) (seats : List ℕ) → is_among one seats ≡ true → index_in one seats ≡ index_in other seats
    → one ≡ other
same-seat one other [] among same = absurd cc
same-seat one other (first ∷ seats) among same =
    by_tests (first == one) refl (first == other) refl among same (same-seat one other seats)
  where
    by_tests : (here : Bool) → (first == one) ≡ here → (there : Bool) → (first == other) ≡ there
        → is_among one (first ∷ seats) ≡ true
        → cond here 0 (index_in one seats + 1) ≡ cond there 0 (index_in other seats + 1)
        → (is_among one seats ≡ true → index_in one seats ≡ index_in other seats → one ≡ other) → one ≡ other
    by_tests true is true is_too among same later = sym (eqb-true first one is) ∙ eqb-true first other is_too
    by_tests true is false is_too among same later = absurd (omega arith)
    by_tests false is true is_too among same later = absurd (omega arith)
    by_tests false is false is_too among same later = later (rw is at among) (omega arith)

-- Who is dealt in is among those in the order of the deal.
dealt-among : (dealt : List Bool) (button seats seat : ℕ) → AreSeatsOf seats dealt → button ≤ seats
    → has_seat dealt seat ≡ true → is_among seat (dealt_in_order dealt button seats) ≡ true
dealt-among dealt button seats zero table at sits = absurd cc
dealt-among dealt button seats (suc below) table at sits =
    let inside = table.within (suc below) sits in
    among-filter (has_seat dealt) (suc below) (clockwise_after seats button) sits
    (among-clockwise seats button (suc below) at (omega arith) (omega arith))

-- Who is found at a seat is dealt in there.
pub found-dealt : (start : HandStart) (seat : ℕ) (player : StartSeat) → IsLawfulStart start
    → player_of start seat ≡ Some player → has_seat (dealt_seats start) seat ≡ true
found-dealt start seat player lawful found =
    let within = found-within start seat player lawful found in
    let index : 0 + (seat - 1) + 1 ≡ seat = omega (arith, within.1) in
    let listed = along-at (player_of start) 10 0 (seat - 1) (omega (arith, within.1, within.2))
    ∙ (ap (player_of start) index ∙ found) in
    subst (λ (seat : ℕ). has_seat (dealt_seats start) seat ≡ true) within.0
    (listed-dealt start (seat - 1) player listed)

-- Players in different seats have different hole cards.
pub holes-apart : (start : HandStart) (one other place : ℕ) → IsLawfulStart start
    → has_seat (dealt_seats start) one ≡ true → has_seat (dealt_seats start) other ≡ true → one ≢ other
    → IsHoleOf start one place → IsHoleOf start other place → ⊥
holes-apart start one other place lawful sits sits_too apart his hers =
    let dealt = dealt_seats start in
    let button = start.marks.button in
    let seats = start.seat_count in
    let table = dealt-table start lawful in
    let at = lawful.marks.button.1 in
    let order = dealt_in_order dealt button seats in
    let index = same-index (seat_count dealt) (index_in one order) (index_in other order)
    (index-dealt dealt button seats one table at sits) (index-dealt dealt button seats other table at sits_too)
    his.card hers.card (sym his.is ∙ hers.is) in
    apart (same-seat one other order (dealt-among dealt button seats one table at sits) index)

-- No hole card is of the board.
pub board-apart : (start : HandStart) (seat place : ℕ) → IsLawfulStart start
    → has_seat (dealt_seats start) seat ≡ true → IsHoleOf start seat place → IsOfBoard start place → ⊥
board-apart start seat place lawful sits his board =
    let dealt = dealt_seats start in
    let order = dealt_in_order dealt start.marks.button start.seat_count in
    let before = round-before (seat_count dealt) his.card (hole_count start.game) (index_in seat order) his.below
    (index-dealt dealt start.marks.button start.seat_count seat (dealt-table start lawful) lawful.marks.button.1 sits)
    in
    let same = sym his.is ∙ board.is in
    omega (arith, before, same)

-- No more are dealt in than there are seats, and no player is dealt more than four cards.
holes-few : (start : HandStart) → IsLawfulStart start
    → hole_count start.game * seat_count (dealt_seats start) ≤ 40
holes-few start lawful =
    let most = lawful.most_seats in
    let players = seat_count-most (dealt_seats start) start.seat_count (dealt-table start lawful) in
    forty (hole_count start.game) (seat_count (dealt_seats start)) (by_game start.game) (omega (arith, most, players))
  where
    by_game : (game : Game) → hole_count game ≤ 4
    by_game Holdem = omega arith
    by_game Omaha = omega arith
    by_game Hilo = omega arith

-- The place of a hole card is one of the deck's 52.
pub hole-below : (start : HandStart) (seat place : ℕ) → IsLawfulStart start → has_seat (dealt_seats start) seat ≡ true
    → IsHoleOf start seat place → place < 52
hole-below start seat place lawful sits his =
    let few = holes-few start lawful in
    let order = dealt_in_order (dealt_seats start) start.marks.button start.seat_count in
    let before = round-before (seat_count (dealt_seats start)) his.card (hole_count start.game) (index_in seat order)
    his.below (index-dealt (dealt_seats start) start.marks.button start.seat_count seat (dealt-table start lawful)
    lawful.marks.button.1 sits) in
    let is = his.is in
    omega (arith, few, before, is)

-- At most three cards are burned.
burned-few : (card : ℕ) → burned_before card ≤ 3
burned-few card = by_tests (nat_lt card 3) (nat_lt card 4)
  where
    by_tests : (flop turn : Bool) → cond {A = ℕ} flop 1 (cond {A = ℕ} turn 2 3) ≤ 3
    by_tests true turn = omega arith
    by_tests false true = omega arith
    by_tests false false = omega arith

-- So is the place of a card of the board.
pub board-below : (start : HandStart) (place : ℕ) → IsLawfulStart start → IsOfBoard start place → place < 52
board-below start place lawful board =
    let few = holes-few start lawful in
    let burned = burned-few board.card in
    let below = board.below in
    let is = board.is in
    omega (arith, few, burned, below, is)
