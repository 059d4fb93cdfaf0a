-- What a pot is awarded to.
use Rattle.std.proofs.Common.{◌≡◌, ◌≢◌, ◌∙◌, ℕ, zero, suc, ◌/◌, ◌%◌, ◌≤◌, List, [], ◌∷◌, Bool, true, false, cond, Some, None, length, get_or, refl, ap, sym, arith}
use Rattle.std.specs.Prelude.{◌==◌, ◌||◌, not, map, Option, is_some}
use Rattle.std.specs.List.{list_any}
use Rattle.std.proofs.lemmas.Bool.{eqb-false}
use Rattle.std.proofs.lemmas.List.{get_or-map}
use Rattle.std.proofs.Math.Nat.{mul-mod_right}
use Rattle.button_blinds.specs.SeatSets.{has_seat, seat_count, AreSeatsOf}
use Rattle.button_blinds.proofs.SeatSetLaws.{some-seat}
use Rattle.button_blinds.proofs.Distances.{IsSeat}
use Rattle.pot_layers.specs.declared.pot_list.Pot.{Pot}
use Rattle.pot_layers.specs.Layers.{are_same_seats, is_nobody}
use Rattle.pot_layers.specs.PotTests.{are_all_in}
use Rattle.pot_layers.specs.Shares.{units_to, share_of, high_half, low_half}
use Rattle.showdown.specs.declared.hand.Hand.{Hand}
use Rattle.showdown.specs.declared.hand.Side.{Side}
use Rattle.showdown.specs.declared.hand.Side.TheVariants.{High, Low}
use Rattle.showdown.specs.Winners.{in_play, wins, winners}
use Rattle.showdown.specs.Awards.{in_turn, split, award_pot}
use Rattle.showdown.proofs.Writes.{get_or-in_play}
use Rattle.showdown.proofs.Turns.{in_turn-some}
use Rattle.showdown.proofs.Best.{some-wins}

-- A pot that is split once.
pub award_pot-once : (hands : List (Option Hand)) (unit button seats : ℕ) (awards : List ℕ) (pot : Pot)
    → (seat_count (winners Low (in_play pot.eligible hands)) == 0 || are_same_seats
    (winners High (in_play pot.eligible hands)) (winners Low (in_play pot.eligible hands))) ≡ true
    → split pot.amount unit awards (in_turn seats button (winners High (in_play pot.eligible hands)))
    ≡ award_pot hands unit button seats awards pot
unfolding award_pot
award_pot-once hands unit button seats awards pot once = rw once

-- A pot of which each side splits its half.
pub award_pot-halves : (hands : List (Option Hand)) (unit button seats : ℕ) (awards : List ℕ) (pot : Pot)
    → (seat_count (winners Low (in_play pot.eligible hands)) == 0 || are_same_seats
    (winners High (in_play pot.eligible hands)) (winners Low (in_play pot.eligible hands))) ≡ false
    → split (low_half pot.amount unit) unit
    (split (high_half pot.amount unit) unit awards
    (in_turn seats button (winners High (in_play pot.eligible hands))))
    (in_turn seats button (winners Low (in_play pot.eligible hands)))
    ≡ award_pot hands unit button seats awards pot
unfolding award_pot
award_pot-halves hands unit button seats awards pot halves = rw halves

-- Shares are whole units.
pub share_of-whole : (amount unit winners index : ℕ) → share_of amount unit winners index % unit ≡ 0
share_of-whole amount unit winners index = mul-mod_right unit (units_to winners index (amount / unit))

wins-some : (side : Side) (hands : List (Option Hand)) (hand : Option Hand) → wins side hands hand ≡ true
    → is_some hand ≡ true
wins-some side hands None is = absurd cc
wins-some side hands (Some own) is = refl

-- The test of the hand at an index.
pub map-at : (test : Option Hand → Bool) (hands : List (Option Hand)) (index : ℕ)
    → get_or (map test hands) index false ≡ true → test (get_or hands index None) ≡ true
map-at test [] index is = absurd cc
map-at test (hand ∷ more) zero is = is
map-at test (hand ∷ more) (suc index) is = map-at test more index is

at-map : (test : Option Hand → Bool) (hands : List (Option Hand)) (index : ℕ) → test None ≡ false
    → test (get_or hands index None) ≡ true → get_or (map test hands) index false ≡ true
at-map test [] index none is = absurd cc
at-map test (hand ∷ more) zero none is = is
at-map test (hand ∷ more) (suc index) none is = at-map test more index none is

some-either : (is_in : Bool) (hand : Option Hand) → is_some (cond is_in hand None) ≡ true → is_some hand ≡ true
some-either true hand is = is
some-either false hand is = absurd cc

-- A winner sits at the table.
pub winner-sits : (side : Side) (hands : List (Option Hand)) (eligible : List Bool) (seats seat : ℕ)
    → AreSeatsOf seats (map is_some hands) → has_seat (winners side (in_play eligible hands)) seat ≡ true
    → IsSeat seats seat
unfolding winners
winner-sits side hands eligible seats zero table is = absurd cc
winner-sits side hands eligible seats (suc index) table is =
    let wins_it = map-at (wins side (in_play eligible hands)) (in_play eligible hands) index is in
    let in_it = wins-some side (in_play eligible hands) (get_or (in_play eligible hands) index None) wins_it in
    let has_hand : is_some (get_or hands index None) ≡ true =
    some-either (get_or eligible index false) (get_or hands index None)
    (ap is_some (sym (get_or-in_play eligible hands index)) ∙ in_it) in
    (omega arith, table.within (suc index) (at-map is_some hands index refl has_hand))

-- Where an eligible player has a hand, somebody has the high side's first turn.
pub high-some : (hands : List (Option Hand)) (eligible : List Bool) (seats button : ℕ)
    → AreSeatsOf seats (map is_some hands) → IsSeat seats button → list_any is_some (in_play eligible hands) ≡ true
    → 1 ≤ length (in_turn seats button (winners High (in_play eligible hands)))
unfolding winners
high-some hands eligible seats button table at some =
    let best = some-wins (in_play eligible hands) some in
    let is : has_seat (winners High (in_play eligible hands)) (suc best.0) ≡ true =
    get_or-map (wins High (in_play eligible hands)) (in_play eligible hands) best.0 None false best.1 ∙ best.2 in
    in_turn-some (winners High (in_play eligible hands)) seats button (suc best.0) at
    (winner-sits High hands eligible seats (suc best.0) table is) is

-- Where somebody has a low, somebody has the low side's first turn.
pub low-some : (hands : List (Option Hand)) (eligible : List Bool) (seats button : ℕ)
    → AreSeatsOf seats (map is_some hands) → IsSeat seats button
    → (seat_count (winners Low (in_play eligible hands)) == 0) ≡ false
    → 1 ≤ length (in_turn seats button (winners Low (in_play eligible hands)))
low-some hands eligible seats button table at some =
    let lows = winners Low (in_play eligible hands) in
    let apart : seat_count lows ≢ 0 = eqb-false (seat_count lows) 0 some in
    let seat = some-seat lows (omega (arith, apart)) in
    in_turn-some lows seats button seat.0 at (winner-sits Low hands eligible seats seat.0 table seat.2) seat.2

-- A pot that somebody may win, of players who all have hands, has a hand in play.
pub some-in_play : (eligible : List Bool) (hands : List (Option Hand)) → not (is_nobody eligible) ≡ true
    → are_all_in eligible (map is_some hands) ≡ true → list_any is_some (in_play eligible hands) ≡ true
some-in_play [] hands somebody all = absurd cc
some-in_play (true ∷ more) [] somebody all = absurd cc
some-in_play (false ∷ more) [] somebody all = some-in_play more [] somebody all
some-in_play (true ∷ more) (Some hand ∷ hands) somebody all = refl
some-in_play (true ∷ more) (None ∷ hands) somebody all = absurd cc
some-in_play (false ∷ more) (hand ∷ hands) somebody all = some-in_play more hands somebody all
