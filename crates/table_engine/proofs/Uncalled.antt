-- An uncalled bet comes back to its player.
use Rattle.std.proofs.Common.{◌≡◌, ◌∙◌, ℕ, zero, suc, ◌+◌, ◌-◌, ◌%◌, ◌≤◌, ◌<◌, Bool, true, false, List, [], ◌∷◌, ◌++◌, get_or-set_other, length, map, replicate, Some, None, refl, ap, sym, subst, inl, inr, arith}
use Rattle.std.specs.Prelude.{Option, ◌==◌, ◌&&◌, not, slice_index_or}
use Rattle.std.specs.List.{list_all}
use Rattle.std.specs.Option.{is_some}
use Rattle.std.proofs.lemmas.Bool.{and_from, and_parts, cases_Bool, cases_lt, eq-eqb, eqb-true}
use Rattle.std.proofs.lemmas.List.Folds.{list_all-append}
use Rattle.std.proofs.lemmas.List.Sums.{sum_by-cons}
use Rattle.button_blinds.specs.SeatSets.{AreSeatsOf, has_seat, no_seats}
use Rattle.pot_layers.specs.declared.pot_list.Pot.{Pot}
use Rattle.pot_layers.specs.declared.put.Put.{Put}
use Rattle.pot_layers.specs.Layers.{is_nobody}
use Rattle.pot_layers.specs.PotTests.{are_all_in, are_for, are_others_within, has_put}
use Rattle.pot_layers.specs.Tallies.{total_put}
use Rattle.pot_layers.proofs.DeadChips.{own-pot}
use Rattle.showdown.specs.Hands.{hands_of}
use Rattle.showdown.proofs.PotAwards.{some-in_play}
use Rattle.showdown.proofs.SoleWinner.{awards_of-sole}
use Rattle.showdown.proofs.Writes.{seats-hands_of}
use Rattle.table_engine.specs.declared.start.StartSeat.{StartSeat}
use Rattle.table_engine.specs.Deals.{board_of}
use Rattle.table_engine.specs.Hands.{HandTerms, dead_chips, is_live, is_over, players_by_seat, put_in_hand}
use Rattle.table_engine.specs.Plays.{IsLawfulPlay}
use Rattle.table_engine.specs.Results.{award, is_won_by_folds, live_in_hand, pot, pots_in_hand, put_at, puts_in_hand, showdown_awards}
use Rattle.table_engine.specs.Starts.{IsLawfulStart}
use Rattle.table_engine.proofs.Puts.{listed-found}
use Rattle.table_engine.proofs.Showdowns.{IsShowdown, are-pots, is-showdown, put-pot}

-- A live player has put in what he has.
has_put-at : (hand : HandTerms) (players : List (Option StartSeat)) (index : ℕ) (player : StartSeat)
    → slice_index_or players index None ≡ Some player → is_live hand player ≡ true
    → has_put (map (put_at hand) players) index (put_in_hand hand player) ≡ true
has_put-at hand [] index player listed live = absurd cc
has_put-at hand (None ∷ players) zero player listed live = absurd cc
has_put-at hand (Some other ∷ players) zero player listed live =
    let same : other ≡ player = cc in
    and_from _ _ (ap (is_live hand) same ∙ live)
    (eq-eqb (put_in_hand hand other) (put_in_hand hand player) (ap (put_in_hand hand) same))
has_put-at hand (first ∷ players) (suc index) player listed live = has_put-at hand players index player listed live

-- All that was put in is no less than what one player put in.
put-within : (puts : List Put) (index amount : ℕ) → has_put puts index amount ≡ true → amount ≤ total_put puts
put-within [] index amount put = absurd cc
put-within (first ∷ puts) zero amount put =
    let same = eqb-true first.amount amount (and_parts first.live (first.amount == amount) put).1 in
    let all = sum_by-cons (λ (p : Put). p.amount) first puts in
    omega (arith, same, all)
put-within (first ∷ puts) (suc index) amount put =
    let later = put-within puts index amount put in
    let all = sum_by-cons (λ (p : Put). p.amount) first puts in
    omega (arith, later, all)

-- What holds of all pots holds of the last.
last-of : (test : Pot → Bool) (pots below : List Pot) (pot : Pot) → pots ≡ below ++ pot ∷ []
    → list_all test pots ≡ true → test pot ≡ true
last-of test pots below pot is all =
    let both : (list_all test below && (test pot && true)) ≡ true =
    sym (ap (list_all test) is ∙ list_all-append test below (pot ∷ [])) ∙ all in
    (and_parts (test pot) true (and_parts (list_all test below) (test pot && true) both).1).0

none-at : (count index : ℕ) → slice_index_or (replicate count false) index false ≡ false
none-at zero index = refl
none-at (suc count) zero = refl
none-at (suc count) (suc index) = none-at count index

-- A live player of a showdown gets back at least what nobody else's chips reached.
uncalled-shown : (hand : HandTerms) (index height : ℕ) (player : StartSeat) → IsLawfulStart hand.start
    → IsShowdown hand → slice_index_or (players_by_seat hand.start) index None ≡ Some player
    → has_put (puts_in_hand hand) index (put_in_hand hand player) ≡ true
    → are_others_within (puts_in_hand hand) index height ≡ true
    → height < put_in_hand hand player → index < 10
    → put_in_hand hand player ≤ height + slice_index_or (showdown_awards hand) index 0
unfolding showdown_awards puts_in_hand pots_in_hand
uncalled-shown hand index height player lawful showdown listed put others above within =
    let hands = hands_of hand.start.game (board_of hand.start) (live_in_hand hand) in
    let own = own-pot (puts_in_hand hand) (dead_chips hand.start) index (put_in_hand hand player) height refl put others above in
    let pots = are-pots hand showdown in
    let seats = sym (seats-hands_of hand.start.game (board_of hand.start) (live_in_hand hand)) in
    let live = subst (λ (set : List Bool). are_for set (pots_in_hand hand) ≡ true) seats pots.own in
    let gets = awards_of-sole hands hand.start.blind.unit hand.start.marks.button hand.start.seat_count
    (pots_in_hand hand) own.below own.pot index own.highest within
    (record {
      most = lawful.most_seats;
      at = lawful.marks.button;
      table = subst (λ (set : List Bool). AreSeatsOf hand.start.seat_count set) seats showdown.table;
      somebody = some-in_play own.pot.eligible hands
          (last-of (λ pot. not (is_nobody pot.eligible)) (pots_in_hand hand) own.below own.pot own.highest
          pots.somebody)
          (last-of (λ pot. are_all_in pot.eligible (map is_some hands)) (pots_in_hand hand) own.below own.pot
          own.highest live);
      whole = eqb-true (own.pot.amount % hand.start.blind.unit) 0
          (last-of (λ pot. pot.amount % hand.start.blind.unit == 0) (pots_in_hand hand) own.below own.pot
          own.highest pots.units);
    })
    (λ other differ. ap (λ (set : List Bool). has_seat set (suc other)) own.own
    ∙ get_or-set_other no_seats index other true false differ ∙ none-at 10 other) in
    let holds = own.holds in
    omega (arith, holds, gets, above)

-- Who is listed at an index is within the list.
listed-within : (players : List (Option StartSeat)) (index : ℕ) (player : StartSeat)
    → slice_index_or players index None ≡ Some player → index < length players
listed-within [] index player listed = absurd cc
listed-within (first ∷ players) zero player listed = omega arith
listed-within (first ∷ players) (suc index) player listed =
    let later = listed-within players index player listed in omega (arith, later)

-- Chips of a live player that nobody called come back to him.
pub uncalled-back : (hand : HandTerms) (index height : ℕ) (player : StartSeat) → IsLawfulStart hand.start
    → IsLawfulPlay hand → is_over hand ≡ true → slice_index_or (players_by_seat hand.start) index None ≡ Some player
    → is_live hand player ≡ true → are_others_within (puts_in_hand hand) index height ≡ true
    → put_in_hand hand player ≤ height + award hand player
unfolding puts_in_hand
uncalled-back hand index height player lawful play over listed live others =
    elim (cases_Bool (is_won_by_folds hand)) [
      | inl won ↦
          let all = put-within (puts_in_hand hand) index (put_in_hand hand player) put in
          let pot_is = put-pot hand lawful in
          rw (won, live) (omega (arith, all, pot_is))
      | inr many ↦
          elim (cases_lt height (put_in_hand hand player)) [
            | inl above ↦
                let shown = uncalled-shown hand index height player lawful
                (is-showdown hand lawful play over many) listed put others above within in
                let gets : award hand player ≡ slice_index_or (showdown_awards hand) index 0 =
                rw many (ap (λ (n : ℕ). slice_index_or (showdown_awards hand) n 0) same) in
                omega (arith, shown, gets)
            | inr reached ↦ omega (arith, reached)
          ]
    ]
  where
    put : has_put (puts_in_hand hand) index (put_in_hand hand player) ≡ true
    put = has_put-at hand (players_by_seat hand.start) index player listed live

    same : player.seat - 1 ≡ index
    same = let sits = (listed-found hand.start index player listed).0 in omega (arith, sits)

    within : index < 10
    within = listed-within (players_by_seat hand.start) index player listed
