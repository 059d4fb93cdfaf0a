-- What each player is awarded.
use Rattle.std.proofs.Common.{◌≡◌, ◌∙◌, ℕ, zero, suc, ◌+◌, ◌%◌, List, [], ◌∷◌, Bool, true, false, cond, length, get_or, set, replicate, refl}
use Rattle.std.specs.Prelude.{◌==◌, ◌||◌, not, map, fold, Option, is_some}
use Rattle.std.specs.List.{list_all}
use Rattle.std.proofs.Math.Nat.{zero-mod}
use Rattle.std.proofs.lemmas.Bool.{and_from, and_parts, eq-eqb, eqb-true, not-true}
use Rattle.rulebook.proofs.Multiples.{multiple-add}
use Rattle.rulebook.proofs.Repeats.{get_or-repeated}
use Rattle.rulebook.proofs.Sides.{first_alone}
use Rattle.button_blinds.specs.SeatSets.{has_seat, seat_count}
use Rattle.pot_layers.specs.declared.pot_list.Pot.{Pot}
use Rattle.pot_layers.specs.Layers.{are_same_seats}
use Rattle.pot_layers.specs.PotTests.{are_all_in, are_for}
use Rattle.pot_layers.specs.Shares.{share_of, high_half, low_half}
use Rattle.showdown.specs.declared.hand.Hand.{Hand}
use Rattle.showdown.specs.declared.hand.Side.TheVariants.{High, Low}
use Rattle.showdown.specs.Winners.{in_play, winners}
use Rattle.showdown.specs.Awards.{award_to, pay_in_turn, in_turn, split, award_pot, awards_of}
use Rattle.showdown.proofs.AwardLaws.{award_pot-other, length-award_pot}
use Rattle.showdown.proofs.PotAwards.{share_of-whole}

-- There are ten awards.
length-pots : (hands : List (Option Hand)) (unit button seats : ℕ) (awards : List ℕ) (pots : List Pot)
    → length (fold (award_pot hands unit button seats) awards pots) ≡ length awards
length-pots hands unit button seats awards [] = refl
length-pots hands unit button seats awards (pot ∷ pots) =
    length-pots hands unit button seats (award_pot hands unit button seats awards pot) pots
    ∙ length-award_pot hands unit button seats awards pot

-- There are ten awards once all pots are awarded.
pub length-awards_of : (hands : List (Option Hand)) (unit button seats : ℕ) (pots : List Pot)
    → length (awards_of hands unit button seats pots) ≡ 10
unfolding awards_of
length-awards_of hands unit button seats pots = length-pots hands unit button seats (replicate 10 0) pots

-- Each number of a list is a multiple of the unit.
abbrev are_whole : ℕ → List ℕ → Bool
are_whole unit numbers = list_all (λ number. number % unit == 0) numbers

-- The sum of two multiples is one.
whole-sum : (a b unit : ℕ) → (a % unit == 0) ≡ true → b % unit ≡ 0 → ((a + b) % unit == 0) ≡ true
whole-sum a b unit first second =
    eq-eqb ((a + b) % unit) 0 (multiple-add unit a b (eqb-true (a % unit) 0 first) second)

-- One number of a list is raised by a multiple.
whole-set : (numbers : List ℕ) (index more unit : ℕ) → are_whole unit numbers ≡ true → more % unit ≡ 0
    → are_whole unit (set numbers index (get_or numbers index 0 + more)) ≡ true
whole-set [] index more unit all whole = refl
whole-set (number ∷ numbers) zero more unit all whole =
    let parts = and_parts (number % unit == 0) (are_whole unit numbers) all in
    and_from _ _ (whole-sum number more unit parts.0 whole) parts.1
whole-set (number ∷ numbers) (suc index) more unit all whole =
    let parts = and_parts (number % unit == 0) (are_whole unit numbers) all in
    and_from _ _ parts.0 (whole-set numbers index more unit parts.1 whole)

whole-award_to : (awards : List ℕ) (seat more unit : ℕ) → are_whole unit awards ≡ true → more % unit ≡ 0
    → are_whole unit (award_to awards seat more) ≡ true
whole-award_to awards zero more unit all whole = all
whole-award_to awards (suc index) more unit all whole = whole-set awards index more unit all whole

whole-pay_in_turn : (amount unit count : ℕ) (awards : List ℕ) (index : ℕ) (order : List ℕ)
    → are_whole unit awards ≡ true
    → are_whole unit (pay_in_turn amount unit count awards index order) ≡ true
whole-pay_in_turn amount unit count awards index [] all = all
whole-pay_in_turn amount unit count awards index (seat ∷ more) all =
    whole-pay_in_turn amount unit count (award_to awards seat (share_of amount unit count index)) (suc index) more
    (whole-award_to awards seat (share_of amount unit count index) unit all (share_of-whole amount unit count index))

whole-split : (amount unit : ℕ) (awards order : List ℕ) → are_whole unit awards ≡ true
    → are_whole unit (split amount unit awards order) ≡ true
unfolding split
whole-split amount unit awards order all = whole-pay_in_turn amount unit (length order) awards 0 order all

whole-sides : (amount unit button seats : ℕ) (awards : List ℕ) (highs lows : List Bool) (once : Bool)
    → are_whole unit awards ≡ true
    → are_whole unit (cond once (split amount unit awards (in_turn seats button highs))
    (split (low_half amount unit) unit (split (high_half amount unit) unit awards (in_turn seats button highs))
    (in_turn seats button lows))) ≡ true
whole-sides amount unit button seats awards highs lows true all =
    whole-split amount unit awards (in_turn seats button highs) all
whole-sides amount unit button seats awards highs lows false all =
    whole-split (low_half amount unit) unit (split (high_half amount unit) unit awards (in_turn seats button highs))
    (in_turn seats button lows)
    (whole-split (high_half amount unit) unit awards (in_turn seats button highs) all)

whole-award_pot : (hands : List (Option Hand)) (unit button seats : ℕ) (awards : List ℕ) (pot : Pot)
    → are_whole unit awards ≡ true
    → are_whole unit (award_pot hands unit button seats awards pot) ≡ true
unfolding award_pot
whole-award_pot hands unit button seats awards pot all =
    whole-sides pot.amount unit button seats awards (winners High (in_play pot.eligible hands))
    (winners Low (in_play pot.eligible hands))
    (seat_count (winners Low (in_play pot.eligible hands)) == 0 || are_same_seats
    (winners High (in_play pot.eligible hands)) (winners Low (in_play pot.eligible hands)))
    all

whole-pots : (hands : List (Option Hand)) (unit button seats : ℕ) (awards : List ℕ) (pots : List Pot)
    → are_whole unit awards ≡ true
    → are_whole unit (fold (award_pot hands unit button seats) awards pots) ≡ true
whole-pots hands unit button seats awards [] all = all
whole-pots hands unit button seats awards (pot ∷ pots) all =
    whole-pots hands unit button seats (award_pot hands unit button seats awards pot) pots
    (whole-award_pot hands unit button seats awards pot all)

whole-none : (unit count : ℕ) → are_whole unit (replicate count 0) ≡ true
whole-none unit zero = refl
whole-none unit (suc count) = and_from _ _ (eq-eqb (0 % unit) 0 (zero-mod unit)) (whole-none unit count)

-- Each award is a multiple of the unit.
pub whole-awards_of : (hands : List (Option Hand)) (unit button seats : ℕ) (pots : List Pot)
    → list_all (λ award. award % unit == 0) (awards_of hands unit button seats pots) ≡ true
unfolding awards_of
whole-awards_of hands unit button seats pots = whole-pots hands unit button seats (replicate 10 0) pots
    (whole-none unit 10)

-- A seat that is not in a set is in no set all of whose seats are in it.
out-of_all : (one other : List Bool) (index : ℕ) → are_all_in one other ≡ true → get_or other index false ≡ false
    → get_or one index false ≡ false
out-of_all [] other index all out = refl
out-of_all (is_in ∷ more) [] zero all out = let parts =
    and_parts (not is_in) (are_all_in more []) all in not-true is_in parts.0
out-of_all (is_in ∷ more) [] (suc index) all out =
    let parts = and_parts (not is_in) (are_all_in more []) all in out-of_all more [] index parts.1 refl
out-of_all (is_in ∷ more) (other ∷ others) zero all out =
    let parts = and_parts (not is_in || other) (are_all_in more others) all in
    not-true is_in (first_alone (not is_in) other parts.0 out)
out-of_all (is_in ∷ more) (other ∷ others) (suc index) all out =
    let parts = and_parts (not is_in || other) (are_all_in more others) all in out-of_all more others index parts.1 out

none-pots : (hands : List (Option Hand)) (unit button seats : ℕ) (awards : List ℕ) (pots : List Pot) (index : ℕ)
    → has_seat (map is_some hands) (suc index) ≡ false → are_for (map is_some hands) pots ≡ true
    → get_or (fold (award_pot hands unit button seats) awards pots) index 0 ≡ get_or awards index 0
none-pots hands unit button seats awards [] index out own = refl
none-pots hands unit button seats awards (pot ∷ pots) index out own =
    let parts = and_parts (are_all_in pot.eligible (map is_some hands)) (are_for (map is_some hands) pots) own in
    none-pots hands unit button seats (award_pot hands unit button seats awards pot) pots index out parts.1
    ∙ award_pot-other hands unit button seats awards pot index
    (out-of_all pot.eligible (map is_some hands) index parts.0 out)

-- Where nobody has a hand nothing is awarded.
pub none-awards_of : (hands : List (Option Hand)) (unit button seats : ℕ) (pots : List Pot) (index : ℕ)
    → has_seat (map is_some hands) (suc index) ≡ false → are_for (map is_some hands) pots ≡ true
    → get_or (awards_of hands unit button seats pots) index 0 ≡ 0
unfolding awards_of
none-awards_of hands unit button seats pots index out own =
    none-pots hands unit button seats (replicate 10 0) pots index out own ∙ get_or-repeated 10 index 0
