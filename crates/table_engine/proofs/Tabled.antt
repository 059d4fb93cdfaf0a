-- The players at a showdown, and that all their cards and the board are different.
use mathlib.Core.HLevel.{is_prop→PathP}
use native.Mathlib.Nat.{ℕ_set}
use Rattle.std.proofs.Common.{◌≡◌, ◌∙◌, ℕ, zero, suc, ◌+◌, ◌*◌, ◌<◌, ◌≤◌, List, [], ◌∷◌, ◌++◌, length, map, Bool, true, cond, Some, None, refl, ap, sym, subst, inl, inr, arith, lit≤}
use Rattle.std.specs.Prelude.{Option, ◌==◌, nat_lt, slice_index_or}
use Rattle.std.specs.List.{list_all}
use Rattle.std.specs.Option.{is_some}
use Rattle.std.proofs.lemmas.Bool.{and_parts, cases_lt, ltb-true}
use Rattle.std.proofs.lemmas.List.{get_or-map, length-map}
use Rattle.std.proofs.lemmas.List.Sums.{AllPass-from_list_all, sum_by-cons}
use Rattle.std.proofs.lemmas.Bool.Decides.{nat_tests}
use Rattle.rulebook.specs.Pairs.{are_rising}
use Rattle.card_set.specs.declared.card.Card.{Card}
use Rattle.card_set.specs.declared.game.Game.{Game}
use Rattle.card_set.specs.declared.game.Game.TheVariants.{Holdem, Omaha, Hilo}
use Rattle.card_set.specs.Decks.{IsDeck}
use Rattle.card_choices.specs.Choices.{AreDistinct}
use Rattle.showdown.specs.declared.live.Live.{Live}
use Rattle.showdown.specs.Hands.{hole_cards}
use Rattle.table_engine.specs.declared.start.HandStart.{HandStart}
use Rattle.table_engine.specs.Deals.{board_of, card_at, dealt_cards, dealt_seats, hole_card, hole_count, listed, tabled, two_of_clubs}
use Rattle.table_engine.specs.declared.start.StartSeat.{StartSeat}
use Rattle.table_engine.specs.Hands.{players_by_seat}
use Rattle.table_engine.specs.Starts.{IsLawfulStart}
use Rattle.table_engine.proofs.BySeat.{some-at}
use Rattle.table_engine.proofs.Puts.{listed-found}
use Rattle.level_plan.specs.Items.{is_between}
use Rattle.rulebook.proofs.Tests.{at_most_one, find-all}
use Rattle.button_blinds.specs.SeatSets.{AreSeatsOf, has_seat, seat_count}
use Rattle.deal_order.specs.DealOrder.{board_card_place, count_up, deal_places, places_of_board, places_of_player}
use Rattle.deal_order.proofs.Apart.{player-rising}
use Rattle.deal_order.proofs.Deals.{deal-count_up, deal-rising, deal-within}

-- A player at a showdown is his seat and his cards.
pub same_live : (one other : Live) → one.seat ≡ other.seat → one.hole ≡ other.hole → one ≡ other
same_live one other seats holes = λ i. record {
  seat = seats i;
  hole = holes i;
  four = is_prop→PathP (λ j. length (holes j) ≡ 4) (λ j x y. ℕ_set _ _ x y) one.four other.four i;
}

-- A player at the showdown, by his four cards.
pub tabled-is : (start : HandStart) (seat : ℕ) (live : Live) (one two three four : Card) → live.seat ≡ seat
    → live.hole ≡ one ∷ two ∷ three ∷ four ∷ []
    → one ≡ hole_card start seat (listed start.game 0) → two ≡ hole_card start seat (listed start.game 1)
    → three ≡ hole_card start seat (listed start.game 2) → four ≡ hole_card start seat (listed start.game 3)
    → live ≡ tabled start seat
unfolding tabled
tabled-is start seat live one two three four sits holes first second third fourth =
    same_live live _ sits (holes ∙ (rw (first, second, third, fourth)))

-- Of numbers that rise an earlier one is below a later one.
rising-at : (numbers : List ℕ) (one other : ℕ) → are_rising numbers ≡ true → one < other → other < length numbers
    → slice_index_or numbers one 0 < slice_index_or numbers other 0
rising-at [] one other rising before within = absurd (omega arith)
rising-at (number ∷ numbers) one zero rising before within = absurd (omega arith)
rising-at (number ∷ numbers) zero (suc other) rising before within =
    let parts = and_parts (list_all (nat_lt number) numbers) (are_rising numbers) rising in
    ltb-true number (slice_index_or numbers other 0)
    (AllPass-from_list_all (nat_lt number) numbers parts.0 other 0 (omega arith))
rising-at (number ∷ numbers) (suc one) (suc other) rising before within =
    let parts = and_parts (list_all (nat_lt number) numbers) (are_rising numbers) rising in
    rising-at numbers one other parts.1 (omega arith) (omega arith)

-- The card at an index of the cards of some places.
card-at : (start : HandStart) (places : List ℕ) (index : ℕ) (other : Card) → index < length places
    → slice_index_or (map (card_at start) places) index other ≡ card_at start (slice_index_or places index 0)
card-at start places index other within = get_or-map (card_at start) places index 0 other within

-- The cards at places that rise, the last of which is one of the deck's, are different cards.
places-apart : (start : HandStart) (places : List ℕ) (last : ℕ) → IsDeck start.deck → are_rising places ≡ true
    → length places ≡ suc last
    → slice_index_or places last 0 < 52 → AreDistinct (map (card_at start) places)
places-apart start places last deck_is rising count within = λ one other card before inside.
    let as_many = length-map places (card_at start) in
    let below = rising-at places one other rising before (omega arith) in
    let deck : IsDeck start.deck = deck_is in
    let high = below-last places other last rising count within (omega arith) in
    let whole = deck.whole in
    let apart = deck.distinct (slice_index_or places one 0) (slice_index_or places other 0) two_of_clubs below
    (omega arith) in
    rw (card-at start places one card (omega arith), card-at start places other card (omega arith)) apart
  where
    below-last : (places : List ℕ) (index last : ℕ) → are_rising places ≡ true → length places ≡ suc last
        → slice_index_or places last 0 < 52
        → index < length places → slice_index_or places index 0 < 52
    below-last places index last rising count within inside =
        elim (cases_lt index last) [
          | inl before ↦ let below = rising-at places index last rising before (omega arith) in omega arith
          | inr at ↦ let same : index ≡ last = omega arith in rw same within
        ]

-- The board by the count of hole cards.
abbrev board_by : HandStart → ℕ → List Card
board_by start holes = map (λ card. card_at start (board_card_place (seat_count (dealt_seats start)) holes card))
    (0 ∷ 1 ∷ 2 ∷ 3 ∷ 4 ∷ [])

-- All places of a player and the board rise.
abbrev Rise : HandStart → ℕ → ℕ → Type 0
Rise start seat holes =
    are_rising (places_of_player (dealt_seats start) start.marks.button start.seat_count holes seat ++ places_of_board
    (seat_count (dealt_seats start)) holes) ≡ true

-- A player and the board have different cards, in each game.
apart-two : (start : HandStart) (seat : ℕ) → IsDeck start.deck → start.game ≡ Holdem → Rise start seat 2
    → seat_count (dealt_seats start) ≤ 10 → AreDistinct (hole_cards Holdem (tabled start seat) ++ board_of start)
unfolding tabled board_of
apart-two start seat deck game rising few =
    subst
    (λ (g : Game). AreDistinct ((hole_card start seat (listed g 0) ∷ hole_card start seat (listed g 1) ∷ []) ++
    board_by start (hole_count g)))
    (sym game)
    (places-apart start (places_of_player (dealt_seats start) start.marks.button start.seat_count 2 seat ++
    places_of_board (seat_count (dealt_seats start)) 2)
    6 deck rising refl (omega arith))

apart-four : (start : HandStart) (seat : ℕ) → IsDeck start.deck → (game : Game) → hole_count game ≡ 4
    → start.game ≡ game → Rise start seat 4
    → seat_count (dealt_seats start) ≤ 10 → AreDistinct (hole_cards game (tabled start seat) ++ board_of start)
unfolding tabled board_of
apart-four start seat deck Holdem four game rising few = absurd (omega arith)
apart-four start seat deck Omaha four game rising few =
    subst
    (λ (g : Game). AreDistinct ((hole_card start seat (listed g 0) ∷ hole_card start seat (listed g 1) ∷ hole_card
    start seat (listed g 2) ∷
    hole_card start seat (listed g 3) ∷ []) ++ board_by start (hole_count g)))
    (sym game)
    (places-apart start (places_of_player (dealt_seats start) start.marks.button start.seat_count 4 seat ++
    places_of_board (seat_count (dealt_seats start)) 4)
    8 deck rising refl (omega arith))
apart-four start seat deck Hilo four game rising few =
    subst
    (λ (g : Game). AreDistinct ((hole_card start seat (listed g 0) ∷ hole_card start seat (listed g 1) ∷ hole_card
    start seat (listed g 2) ∷
    hole_card start seat (listed g 3) ∷ []) ++ board_by start (hole_count g)))
    (sym game)
    (places-apart start (places_of_player (dealt_seats start) start.marks.button start.seat_count 4 seat ++
    places_of_board (seat_count (dealt_seats start)) 4)
    8 deck rising refl (omega arith))

-- The seats that are dealt in are seats of the table.
pub dealt-table : (start : HandStart) → IsLawfulStart start → AreSeatsOf start.seat_count (dealt_seats start)
unfolding dealt_seats
dealt-table start lawful = record { within = λ seat sits. by_seat seat sits }
  where
    by_slot : (index : ℕ) (slot : Option StartSeat) → slice_index_or (players_by_seat start) index None ≡ slot
        → is_some slot ≡ true → suc index ≤ start.seat_count
    by_slot index None is some = absurd cc
    by_slot index (Some player) is some =
        let found = listed-found start index player is in
        let within = find-all (λ (other : StartSeat). other.seat == player.seat)
        (λ (other : StartSeat). is_between 1 start.seat_count other.seat) start.seats player found.1 lawful.within
        in
        let sits = found.0 in
        let high : player.seat ≤ start.seat_count = grind (arith, nat_tests) in
        omega arith

    by_seat : (seat : ℕ) → has_seat (map is_some (players_by_seat start)) seat ≡ true → seat ≤ start.seat_count
    by_seat zero sits = omega arith
    by_seat (suc index) sits = by_slot index (slice_index_or (players_by_seat start) index None) refl
        (sym (some-at (players_by_seat start) index) ∙ sits)

-- Who is listed is dealt in at his seat.
pub listed-dealt : (start : HandStart) (index : ℕ) (player : StartSeat)
    → slice_index_or (players_by_seat start) index None ≡ Some player
    → has_seat (dealt_seats start) player.seat ≡ true
unfolding dealt_seats
listed-dealt start index player listed =
    let found = listed-found start index player listed in
    let seat : player.seat ≡ suc index = (let sits = found.0 in omega arith) in
    ap (has_seat (map is_some (players_by_seat start))) seat ∙ some-at (players_by_seat start) index ∙ ap is_some listed

-- No more are dealt in than there are seats.
dealt-few : (start : HandStart) → seat_count (dealt_seats start) ≤ 10
unfolding dealt_seats
dealt-few start = count-few (map is_some (players_by_seat start))
  where
    count-few : (tests : List Bool) → seat_count tests ≤ length tests
    count-few [] = omega arith
    count-few (test ∷ tests) =
        let all = sum_by-cons (λ (b : Bool). cond b 1 0) test tests in
        let later = count-few tests in
        omega (arith, all, at_most_one test)

-- No player is dealt more than four cards.
hole_count-most : (game : Game) → hole_count game ≤ 4
hole_count-most Holdem = lit≤ tt
hole_count-most Omaha = lit≤ tt
hole_count-most Hilo = lit≤ tt

count_up-length : (from steps : ℕ) → length (count_up from steps) ≡ steps
count_up-length from zero = refl
count_up-length from (suc steps) = let later = count_up-length (from + 1) steps in omega arith

-- No card is dealt twice.
pub dealt-apart : (start : HandStart) → IsLawfulStart start → AreDistinct (dealt_cards start)
unfolding dealt_cards
dealt-apart start lawful =
    let dealt = dealt_seats start in
    let button = start.marks.button in
    let holes = hole_count start.game in
    let table = dealt-table start lawful in
    let at = lawful.marks.button.1 in
    let places = deal_places dealt button start.seat_count holes in
    let count : length places ≡ suc (holes * seat_count dealt + 7) =
    ap length (deal-count_up dealt button start.seat_count holes table lawful.most_seats at)
    ∙ count_up-length 0 (holes * seat_count dealt + 8) ∙ (omega arith) in
    let within = deal-within dealt button start.seat_count holes table lawful.most_seats at
    (hole_count-most start.game) in
    places-apart start places (holes * seat_count dealt + 7) lawful.deck
    (deal-rising dealt button start.seat_count holes table lawful.most_seats at) count
    (ltb-true _ _ (AllPass-from_list_all (λ place. nat_lt place 52) places within (holes * seat_count dealt + 7) 0
    (omega (arith, count))))

-- Whoever is dealt in has no card twice, and none of the board.
pub player-apart : (start : HandStart) (index : ℕ) (player : StartSeat) → IsDeck start.deck → IsLawfulStart start
    → slice_index_or (players_by_seat start) index None ≡ Some player
    → AreDistinct (hole_cards start.game (tabled start player.seat) ++ board_of start)
player-apart start index player deck lawful listed = by_game start.game refl
  where
    rise : (holes : ℕ) → Rise start player.seat holes
    rise holes =
        player-rising (dealt_seats start) start.marks.button start.seat_count holes player.seat
        (dealt-table start lawful) lawful.most_seats
        lawful.marks.button.1 (listed-dealt start index player listed)

    by_game : (game : Game) → start.game ≡ game → AreDistinct
        (hole_cards game (tabled start player.seat) ++ board_of start)
    by_game Holdem is = apart-two start player.seat deck is (rise 2) (dealt-few start)
    by_game Omaha is = apart-four start player.seat deck Omaha refl is (rise 4) (dealt-few start)
    by_game Hilo is = apart-four start player.seat deck Hilo refl is (rise 4) (dealt-few start)
