-- What a showdown asks for, and what its awards come to.
use Rattle.std.proofs.Common.{◌≡◌, ◌∙◌, ℕ, zero, suc, ◌-◌, ◌%◌, ◌≤◌, ◌<◌, ◌^◌, Bool, true, false, cond, List, [], ◌∷◌, ◌++◌, length, map, sum, Some, None, refl, ap, sym, subst, arith, ◌+◌}
use Rattle.std.specs.Prelude.{Option, ◌==◌, slice_index_or, sum_by}
use Rattle.std.specs.List.{list_all}
use Rattle.std.specs.Option.{is_some, option_map_or}
use Rattle.std.proofs.lemmas.Bool.{and_from, eq-eqb}
use Rattle.std.proofs.Math.Nat.{zero-mod}
use Rattle.std.proofs.lemmas.List.Sums.{sum_by-cons}
use Rattle.button_blinds.specs.SeatSets.{AreSeatsOf, has_seat}
use Rattle.card_set.specs.declared.card.Card.{Card}
use Rattle.card_set.specs.Decks.{IsDeck}
use Rattle.pot_layers.specs.declared.pot_list.Pot.{Pot}
use Rattle.showdown.specs.Awards.{awards_of}
use Rattle.card_choices.specs.Choices.{AreDistinct}
use Rattle.betting_round.specs.declared.bettor.Player.{Player}
use Rattle.betting_round.specs.declared.street.Street.{Street}
use Rattle.betting_round.specs.StreetActs.{sum_over}
use Rattle.betting_round.specs.WhoIsDue.{player_in}
use Rattle.pot_layers.specs.declared.put.Put.{Put}
use Rattle.pot_layers.specs.Layers.{is_contested, layers}
use Rattle.pot_layers.specs.PotTests.{are_for, are_whole_pots, are_whole_puts, have_somebody, live_seats, total_of}
use Rattle.pot_layers.specs.Tallies.{total_put}
use Rattle.pot_layers.proofs.DeadChips.{contested-some, layers-live, layers-somebody, layers-whole, total_of-layers}
use Rattle.showdown.specs.declared.live.Live.{Live}
use Rattle.showdown.specs.Hands.{AreDealtApart, hands_of, hole_cards}
use Rattle.showdown.proofs.AwardLaws.{sum-awards_of}
use Rattle.showdown.proofs.Each.{length-awards_of, none-awards_of, whole-awards_of}
use Rattle.showdown.proofs.Writes.{seats-hands_of}
use Rattle.table_engine.specs.declared.start.HandStart.{HandStart}
use Rattle.table_engine.specs.declared.start.StartSeat.{StartSeat}
use Rattle.table_engine.specs.Deals.{board_of, tabled}
use Rattle.table_engine.specs.Hands.{HandTerms, dead_chips, is_live, is_over, players_by_seat, put_in_hand, street_of}
use Rattle.table_engine.specs.Plays.{IsLawfulPlay}
use Rattle.table_engine.specs.Results.{is_won_by_folds, live_in_hand, live_on, pot, pots_in_hand, put_at, puts_in_hand, showdown_awards}
use Rattle.table_engine.specs.Starts.{IsLawfulStart}
use Rattle.table_engine.proofs.BySeat.{some-at, sum-of_start}
use Rattle.table_engine.proofs.Contested.{hand-contested}
use Rattle.table_engine.proofs.Puts.{hand-few, listed-found}
use Rattle.table_engine.proofs.StacksAfter.{dead-whole, put-whole}
use Rattle.table_engine.proofs.Tabled.{dealt-table, listed-dealt, player-apart}
use Rattle.table_engine.proofs.WholeUnits.{found-playable}

-- What a showdown asks for of a hand.
pub record IsShowdown (hand : HandTerms) : Type 0 where
  pub contested : is_contested (puts_in_hand hand) ≡ true
  pub fits : total_put (puts_in_hand hand) + dead_chips hand.start < 2 ^ 53
  pub whole : are_whole_puts hand.start.blind.unit (puts_in_hand hand) ≡ true
  pub dead : dead_chips hand.start % hand.start.blind.unit ≡ 0
  pub alike : map is_some (live_in_hand hand) ≡ live_seats (puts_in_hand hand)
  pub table : AreSeatsOf hand.start.seat_count (map is_some (live_in_hand hand))

-- Who is live has a hand.
alike-players : (hand : HandTerms) (players : List (Option StartSeat))
    → map is_some (map (live_on hand.start (street_of hand)) players) ≡ map (λ put. put.live)
    (map (put_at hand) players)
alike-players hand [] = refl
alike-players hand (None ∷ players) = ap (λ rest. false ∷ rest) (alike-players hand players)
alike-players hand (Some player ∷ players) =
    let later = alike-players hand players in
    let here = some-if (is_live hand player) (tabled hand.start player.seat) in
    rw here (ap (λ rest. is_live hand player ∷ rest) later)
  where
    some-if : (holds : Bool) (live : Live) → is_some (cond holds (Some live) None) ≡ holds
    some-if true live = refl
    some-if false live = refl

-- Who has a hand was dealt in.
live-listed : (start : HandStart) (street : Street) (players : List (Option StartSeat)) (index : ℕ) (live : Live)
    → slice_index_or (map (live_on start street) players) index None ≡ Some live
    → (his : StartSeat) × ((slice_index_or players index None ≡ Some his) × (live ≡ tabled start his.seat))
live-listed start street [] index live there = absurd cc
live-listed start street (None ∷ players) zero live there = absurd cc
live-listed start street (Some player ∷ players) zero live there =
    by_test (option_map_or (λ (other : Player). other.bettor.live) (player_in street.players player.seat) false) there
  where
    by_test : (holds : Bool) → cond holds (Some (tabled start player.seat)) None ≡ Some live
        → (his : StartSeat) × ((Some player ≡ Some his) × (live ≡ tabled start his.seat))
    by_test true is = let same : live ≡ tabled start player.seat = cc in (player, (refl, same))
    by_test false is = absurd cc
live-listed start street (player ∷ players) (suc index) live there = live-listed start street players index live there

-- Each amount that was put in is a multiple of the unit.
whole-players : (hand : HandTerms) (unit : ℕ) (players : List (Option StartSeat))
    → ((index : ℕ) (player : StartSeat) → slice_index_or players index None ≡ Some player
    → put_in_hand hand player % unit ≡ 0)
    → list_all (λ put. put.amount % unit == 0) (map (put_at hand) players) ≡ true
whole-players hand unit [] each = refl
whole-players hand unit (None ∷ players) each =
    and_from _ _ (eq-eqb (0 % unit) 0 (zero-mod unit)) (whole-players hand unit players (λ index. each (suc index)))
whole-players hand unit (Some player ∷ players) each =
    and_from _ _ (eq-eqb (put_in_hand hand player % unit) 0 (each 0 player refl))
    (whole-players hand unit players (λ index. each (suc index)))

-- A hand that is over and is not won by folds comes to a showdown.
pub is-showdown : (hand : HandTerms) → IsLawfulStart hand.start → IsLawfulPlay hand → is_over hand ≡ true
    → is_won_by_folds hand ≡ false
    → IsShowdown hand
unfolding live_in_hand puts_in_hand
is-showdown hand lawful play over many =
    let start = hand.start in
    let few = hand-few hand lawful play in
    let chips = lawful.chips in
    record {
      contested = hand-contested hand lawful play over many;
      fits = omega arith;
      whole = whole-players hand start.blind.unit (players_by_seat start)
          (λ index player listed.
          let found = listed-found start index player listed in
          put-whole hand player lawful play found.1 (found-playable start player.seat player lawful found.1).1);
      dead = dead-whole start lawful;
      alike = alike-players hand (players_by_seat start);
      table = record { within = λ seat sits. by_seat seat sits };
    }
  where
    by_slot : (index : ℕ) (slot : Option Live) → slice_index_or
        (map (live_on hand.start (street_of hand)) (players_by_seat hand.start)) index None ≡ slot
        → is_some slot ≡ true → suc index ≤ hand.start.seat_count
    by_slot index None is some = absurd cc
    by_slot index (Some live) is some =
        let his = live-listed hand.start (street_of hand) (players_by_seat hand.start) index live is in
        let found = listed-found hand.start index his.0 his.1.0 in
        let sits = found.0 in
        let within = (dealt-table hand.start lawful).within his.0.seat (listed-dealt hand.start index his.0 his.1.0) in
        omega arith

    by_seat : (seat : ℕ) → has_seat (map is_some (map (live_on hand.start (street_of hand))
        (players_by_seat hand.start))) seat ≡ true
        → seat ≤ hand.start.seat_count
    by_seat zero sits = omega arith
    by_seat (suc index) sits =
        let lives = map (live_on hand.start (street_of hand)) (players_by_seat hand.start) in
        by_slot index (slice_index_or lives index None) refl (sym (some-at lives index) ∙ sits)

-- No live player has a card of another of his own or of the board.
pub live-apart : (hand : HandTerms) → IsDeck hand.start.deck → IsLawfulStart hand.start
    → AreDealtApart hand.start.game (board_of hand.start) (live_in_hand hand)
unfolding live_in_hand
live-apart hand deck lawful = record {
  each = λ index live there.
      let his = live-listed hand.start (street_of hand) (players_by_seat hand.start) index live there in
      subst (λ (p : Live). AreDistinct (hole_cards hand.start.game p ++ board_of hand.start)) (sym his.1.1)
      (player-apart hand.start index his.0 deck lawful his.1.0);
}

-- The live players of a hand, by its street.
pub live-is : (hand : HandTerms) (street : Street) → street ≡ street_of hand
    → map (live_on hand.start street) (players_by_seat hand.start) ≡ live_in_hand hand
unfolding live_in_hand
live-is hand street is = ap (λ (s : Street). map (live_on hand.start s) (players_by_seat hand.start)) is

-- The awards of a showdown, by its cards and pots.
pub showdown-is : (hand : HandTerms) (board : List Card) (live : List (Option Live)) (pots : List Pot)
    → board ≡ board_of hand.start
    → live ≡ live_in_hand hand → pots ≡ pots_in_hand hand
    → awards_of (hands_of hand.start.game board live) hand.start.blind.unit hand.start.marks.button
    hand.start.seat_count
    pots ≡ showdown_awards hand
unfolding showdown_awards
showdown-is hand board live pots cards players cut = rw (cards, players, cut) refl

-- What was put in and the antes are the pot.
pub put-pot : (hand : HandTerms) → IsLawfulStart hand.start
    → total_put (puts_in_hand hand) + dead_chips hand.start ≡ pot hand
unfolding puts_in_hand
put-pot hand lawful = ap (λ (n : ℕ). n + dead_chips hand.start)
    (along (players_by_seat hand.start) ∙ sum-of_start hand.start (put_in_hand hand) lawful)
  where
    along : (players : List (Option StartSeat)) → total_put (map (put_at hand) players) ≡ sum_over (put_in_hand hand)
        players
    along [] = refl
    along (None ∷ players) =
        let all = sum_by-cons (λ (put : Put). put.amount) (put_at hand None) (map (put_at hand) players) in
        let later = along players in omega arith
    along (Some player ∷ players) =
        let all = sum_by-cons (λ (put : Put). put.amount) (put_at hand (Some player)) (map (put_at hand) players) in
        let later = along players in omega arith

-- The pots of a hand sum to all that was put in and the antes, where somebody has put in a chip.
pub pots-sum : (hand : HandTerms) → IsLawfulStart hand.start → 0 < total_put (puts_in_hand hand)
    → total_of (pots_in_hand hand) ≡ pot hand
unfolding pots_in_hand
pots-sum hand lawful some =
    total_of-layers (puts_in_hand hand) (dead_chips hand.start) some ∙ put-pot hand lawful

-- The pots of a showdown are for its live players, somebody may win each of them, and they are of whole units.
pub record ArePots (hand : HandTerms) : Type 0 where
  pub own : are_for (map is_some (live_in_hand hand)) (pots_in_hand hand) ≡ true
  pub somebody : have_somebody (pots_in_hand hand) ≡ true
  pub units : are_whole_pots hand.start.blind.unit (pots_in_hand hand) ≡ true

-- A hand that comes to a showdown has pots of whole units for its live players, and somebody may win each.
pub are-pots : (hand : HandTerms) → IsShowdown hand → ArePots hand
unfolding pots_in_hand
are-pots hand showdown = record {
  own = subst (λ (set : List Bool). are_for set (layers (puts_in_hand hand) (dead_chips hand.start)) ≡ true)
      (sym showdown.alike) (layers-live (puts_in_hand hand) (dead_chips hand.start));
  somebody = layers-somebody (puts_in_hand hand) (dead_chips hand.start) showdown.contested;
  units = layers-whole (puts_in_hand hand) (dead_chips hand.start) hand.start.blind.unit showdown.whole showdown.dead;
}

-- The awards of a showdown sum to the pot.
pub awards-sum : (hand : HandTerms) → IsLawfulStart hand.start → IsShowdown hand → sum (showdown_awards hand) ≡ pot hand
unfolding showdown_awards
awards-sum hand lawful showdown =
    let pots = are-pots hand showdown in
    let seats = sym (seats-hands_of hand.start.game (board_of hand.start) (live_in_hand hand)) in
    sum-awards_of (hands_of hand.start.game (board_of hand.start) (live_in_hand hand)) hand.start.blind.unit
    hand.start.marks.button hand.start.seat_count
    (pots_in_hand hand) lawful.most_seats lawful.marks.button
    (subst (λ (set : List Bool). AreSeatsOf hand.start.seat_count set) seats showdown.table)
    (subst (λ (set : List Bool). are_for set (pots_in_hand hand) ≡ true) seats pots.own)
    pots.somebody pots.units
    ∙ pots-sum hand lawful (contested-some (puts_in_hand hand) showdown.contested)

-- There are ten awards.
awards-ten : (hand : HandTerms) → length (showdown_awards hand) ≡ 10
unfolding showdown_awards
awards-ten hand =
    length-awards_of (hands_of hand.start.game (board_of hand.start) (live_in_hand hand)) hand.start.blind.unit
    hand.start.marks.button hand.start.seat_count
    (pots_in_hand hand)

-- Each award is a multiple of the unit.
pub awards-whole : (hand : HandTerms)
    → list_all (λ award. award % hand.start.blind.unit == 0) (showdown_awards hand) ≡ true
unfolding showdown_awards
awards-whole hand =
    whole-awards_of (hands_of hand.start.game (board_of hand.start) (live_in_hand hand)) hand.start.blind.unit
    hand.start.marks.button hand.start.seat_count
    (pots_in_hand hand)

-- Nobody is live where nobody is dealt in.
none-live : (start : HandStart) (street : Street) (players : List (Option StartSeat)) (index : ℕ)
    → slice_index_or players index None ≡ None
    → slice_index_or (map is_some (map (live_on start street) players)) index false ≡ false
none-live start street [] index nobody = refl
none-live start street (None ∷ players) zero nobody = refl
none-live start street (Some player ∷ players) zero nobody = absurd cc
none-live start street (player ∷ players) (suc index) nobody = none-live start street players index nobody

nobody-live : (hand : HandTerms) (index : ℕ) → slice_index_or (players_by_seat hand.start) index None ≡ None
    → has_seat (map is_some (live_in_hand hand)) (suc index) ≡ false
unfolding live_in_hand
nobody-live hand index nobody = none-live hand.start (street_of hand) (players_by_seat hand.start) index nobody

-- Nothing is awarded where nobody is dealt in.
awards-nobody : (hand : HandTerms) → IsShowdown hand → (index : ℕ)
    → slice_index_or (players_by_seat hand.start) index None ≡ None
    → slice_index_or (showdown_awards hand) index 0 ≡ 0
unfolding showdown_awards
awards-nobody hand showdown index nobody =
    let pots = are-pots hand showdown in
    let seats = sym (seats-hands_of hand.start.game (board_of hand.start) (live_in_hand hand)) in
    none-awards_of (hands_of hand.start.game (board_of hand.start) (live_in_hand hand)) hand.start.blind.unit
    hand.start.marks.button hand.start.seat_count
    (pots_in_hand hand) index
    (subst (λ (set : List Bool). has_seat set (suc index) ≡ false) seats (nobody-live hand index nobody))
    (subst (λ (set : List Bool). are_for set (pots_in_hand hand) ≡ true) seats pots.own)

-- Numbers by seats, and a list of numbers that has them at their indices and nothing elsewhere.
sum-indices : (number : StartSeat → ℕ) (players : List (Option StartSeat)) (numbers : List ℕ)
    → length numbers ≡ length players
    → ((index : ℕ) (player : StartSeat) → slice_index_or players index None ≡ Some player
    → number player ≡ slice_index_or numbers index 0)
    → ((index : ℕ) → slice_index_or players index None ≡ None → slice_index_or numbers index 0 ≡ 0)
    → sum_over number players ≡ sum numbers
sum-indices number [] [] count each nobody = refl
sum-indices number [] (first ∷ numbers) count each nobody = absurd (omega arith)
sum-indices number (player ∷ players) [] count each nobody = absurd (omega arith)
sum-indices number (None ∷ players) (first ∷ numbers) count each nobody =
    let here = nobody 0 refl in
    let later = sum-indices number players numbers (omega arith) (λ index. each (suc index))
    (λ index. nobody (suc index)) in
    let all = sum_by-cons (λ (n : ℕ). n) first numbers in
    omega arith
sum-indices number (Some player ∷ players) (first ∷ numbers) count each nobody =
    let here = each 0 player refl in
    let later = sum-indices number players numbers (omega arith) (λ index. each (suc index))
    (λ index. nobody (suc index)) in
    let all = sum_by-cons (λ (n : ℕ). n) first numbers in
    omega arith

-- What the players of a showdown get sums to the pot.
pub showdown-gets : (hand : HandTerms) → IsLawfulStart hand.start → IsShowdown hand
    → sum_by (λ (player : StartSeat). slice_index_or (showdown_awards hand) (player.seat - 1) 0) hand.start.seats ≡ pot
    hand
showdown-gets hand lawful showdown =
    let award_of : StartSeat → ℕ = λ player. slice_index_or (showdown_awards hand) (player.seat - 1) 0 in
    sym (sum-of_start hand.start award_of lawful)
    ∙ sum-indices award_of (players_by_seat hand.start) (showdown_awards hand) (awards-ten hand)
    (λ index player listed.
    let found = listed-found hand.start index player listed in
    let sits = found.0 in
    let same : player.seat - 1 ≡ index = omega arith in
    ap (λ (n : ℕ). slice_index_or (showdown_awards hand) n 0) same)
    (awards-nobody hand showdown)
    ∙ awards-sum hand lawful showdown
