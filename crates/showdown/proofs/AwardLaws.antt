-- What holds of all awards.
use Rattle.std.proofs.Common.{inl, inr, ◌≡◌, ◌∙◌, ℕ, zero, suc, ◌+◌, ◌%◌, ◌≤◌, List, [], ◌∷◌, Bool, true, false, true≢false, cond, None, length, get_or, set, replicate, get_or-set_other, refl, ap, sym, arith}
use Rattle.std.specs.Prelude.{◌==◌, ◌||◌, not, map, filter, fold, sum, Option, is_some}
use Rattle.std.specs.List.{list_all, list_any}
use Rattle.std.proofs.lemmas.Bool.{and_parts, cases_Bool, eqb-true, or_parts}
use Rattle.std.proofs.lemmas.Bool.Decides.{nat_tests}
use Rattle.std.proofs.lemmas.List.{length-set}
use Rattle.std.proofs.lemmas.List.Sums.{sum_by-cons}
use Rattle.button_blinds.specs.SeatSets.{has_seat, seat_count, AreSeatsOf}
use Rattle.button_blinds.proofs.Distances.{IsSeat}
use Rattle.rulebook.specs.Seats.{clockwise_after}
use Rattle.pot_layers.specs.declared.pot_list.Pot.{Pot}
use Rattle.pot_layers.specs.Layers.{are_same_seats, is_nobody}
use Rattle.pot_layers.specs.PotTests.{total_of, are_all_in, are_for, have_somebody, are_whole_pots}
use Rattle.pot_layers.specs.Shares.{share_of, sum_below, high_half, low_half}
use Rattle.pot_layers.proofs.ShareLaws.{sum_below-share_of, halves-sum}
use Rattle.showdown.specs.declared.hand.Hand.{Hand}
use Rattle.showdown.specs.declared.hand.Side.{Side}
use Rattle.showdown.specs.declared.hand.Side.TheVariants.{High, Low}
use Rattle.showdown.specs.Winners.{in_play, wins, winners}
use Rattle.showdown.specs.Awards.{is_seat, award_to, pay_in_turn, in_turn, split, award_pot, awards_of}
use Rattle.showdown.proofs.Writes.{get_or-in_play}
use Rattle.showdown.proofs.Turns.{in_turn-seats}
use Rattle.showdown.proofs.Payments.{sum-award, first-seat}
use Rattle.showdown.proofs.PotAwards.{high-some, low-some, share_of-whole, some-in_play, map-at}

-- What a player is awarded is added to the awards.
sum-award_to : (awards : List ℕ) (seat amount : ℕ) → length awards ≡ 10 → 1 ≤ seat → seat ≤ 10
    → sum (award_to awards seat amount) ≡ sum awards + amount
sum-award_to awards zero amount ten low high = absurd (omega arith)
sum-award_to awards (suc index) amount ten low high = sum-award awards index amount (omega arith)

length-award_to : (awards : List ℕ) (seat amount : ℕ) → length (award_to awards seat amount) ≡ length awards
length-award_to awards zero amount = refl
length-award_to awards (suc index) amount = length-set awards index (get_or awards index 0 + amount)

-- The awards grow by the shares of those who are paid.
sum-pay_in_turn : (amount unit count : ℕ) (awards : List ℕ) (index : ℕ) (order : List ℕ) → length awards ≡ 10
    → list_all is_seat order ≡ true
    → sum (pay_in_turn amount unit count awards index order) + sum_below (share_of amount unit count) index
    ≡ sum awards + sum_below (share_of amount unit count) (index + length order)
sum-pay_in_turn amount unit count awards index [] ten seats =
    let none : index + 0 ≡ index = omega arith in
    ap (λ n. sum awards + sum_below (share_of amount unit count) n) (sym none)
sum-pay_in_turn amount unit count awards index (seat ∷ more) ten seats =
    let at = first-seat seat (and_parts (is_seat seat) (list_all is_seat more) seats).0 in
    let paid = sum-award_to awards seat (share_of amount unit count index) ten at.0 at.1 in
    let later = sum-pay_in_turn amount unit count (award_to awards seat (share_of amount unit count index))
    (suc index) more (length-award_to awards seat (share_of amount unit count index) ∙ ten)
    (and_parts (is_seat seat) (list_all is_seat more) seats).1 in
    let same : suc index + length more ≡ index + suc (length more) = omega arith in
    let shares = ap (sum_below (share_of amount unit count)) same in
    omega (arith, paid, later, shares)

-- A split adds the amount to the awards.
pub sum-split : (amount unit : ℕ) (awards order : List ℕ) → length awards ≡ 10 → list_all is_seat order ≡ true
    → 1 ≤ length order → amount % unit ≡ 0 → sum (split amount unit awards order) ≡ sum awards + amount
unfolding split
sum-split amount unit awards order ten seats some whole =
    let paid = sum-pay_in_turn amount unit (length order) awards 0 order ten seats in
    let shares = sum_below-share_of amount unit (length order) some whole in
    let start : 0 + length order ≡ length order = omega arith in
    let all = ap (sum_below (share_of amount unit (length order))) start in
    omega (arith, paid, shares, all)

length-pay_in_turn : (amount unit count : ℕ) (awards : List ℕ) (index : ℕ) (order : List ℕ)
    → length (pay_in_turn amount unit count awards index order) ≡ length awards
length-pay_in_turn amount unit count awards index [] = refl
length-pay_in_turn amount unit count awards index (seat ∷ more) =
    length-pay_in_turn amount unit count (award_to awards seat (share_of amount unit count index)) (suc index) more
    ∙ length-award_to awards seat (share_of amount unit count index)

length-split : (amount unit : ℕ) (awards order : List ℕ) → length (split amount unit awards order) ≡ length awards
unfolding split
length-split amount unit awards order = length-pay_in_turn amount unit (length order) awards 0 order

-- The table, the button and a pot of it, as an award asks for them.
pub record IsPotAt (hands : List (Option Hand)) (unit button seats : ℕ) (pot : Pot) : Type 0 where
  pub most : seats ≤ 10
  pub at : IsSeat seats button
  pub table : AreSeatsOf seats (map is_some hands)
  pub somebody : list_any is_some (in_play pot.eligible hands) ≡ true
  pub whole : pot.amount % unit ≡ 0

-- Whether a pot is split once or in halves, the awards grow by it.
sum-sides : (amount unit button seats : ℕ) (awards : List ℕ) (highs lows : List Bool) (once : Bool) → length awards ≡ 10
    → 1 ≤ seats → seats ≤ 10 → amount % unit ≡ 0
    → 1 ≤ length (in_turn seats button highs) → (once ≡ false → 1 ≤ length (in_turn seats button lows))
    → sum (cond once (split amount unit awards (in_turn seats button highs))
    (split (low_half amount unit) unit (split (high_half amount unit) unit awards (in_turn seats button highs))
    (in_turn seats button lows))) ≡ sum awards + amount
sum-sides amount unit button seats awards highs lows true ten some most whole high low =
    sum-split amount unit awards (in_turn seats button highs) ten
    (in_turn-seats highs seats button some most) high whole
sum-sides amount unit button seats awards highs lows false ten some most whole high low =
    let first = sum-split (high_half amount unit) unit awards (in_turn seats button highs) ten
    (in_turn-seats highs seats button some most) high (share_of-whole amount unit 2 0) in
    let second = sum-split (low_half amount unit) unit
    (split (high_half amount unit) unit awards (in_turn seats button highs)) (in_turn seats button lows)
    (length-split (high_half amount unit) unit awards (in_turn seats button highs) ∙ ten)
    (in_turn-seats lows seats button some most) (low refl) (share_of-whole amount unit 2 1) in
    omega (arith, first, second, halves-sum amount unit whole)

length-sides : (amount unit button seats : ℕ) (awards : List ℕ) (highs lows : List Bool) (once : Bool)
    → length (cond once (split amount unit awards (in_turn seats button highs))
    (split (low_half amount unit) unit (split (high_half amount unit) unit awards (in_turn seats button highs))
    (in_turn seats button lows))) ≡ length awards
length-sides amount unit button seats awards highs lows true =
    length-split amount unit awards (in_turn seats button highs)
length-sides amount unit button seats awards highs lows false =
    length-split (low_half amount unit) unit (split (high_half amount unit) unit awards (in_turn seats button highs))
    (in_turn seats button lows) ∙ length-split (high_half amount unit) unit awards (in_turn seats button highs)

-- The awards grow by the pot.
pub sum-award_pot : (hands : List (Option Hand)) (unit button seats : ℕ) (awards : List ℕ) (pot : Pot)
    → length awards ≡ 10 → IsPotAt hands unit button seats pot
    → sum (award_pot hands unit button seats awards pot) ≡ sum awards + pot.amount
unfolding award_pot
sum-award_pot hands unit button seats awards pot ten at =
    sum-sides pot.amount unit button seats awards (winners High (in_play pot.eligible hands))
    (winners Low (in_play pot.eligible hands))
    (seat_count (winners Low (in_play pot.eligible hands)) == 0 || are_same_seats
    (winners High (in_play pot.eligible hands)) (winners Low (in_play pot.eligible hands)))
    ten (omega (arith, at.at.0, at.at.1)) at.most at.whole
    (high-some hands pot.eligible seats button at.table at.at at.somebody)
    (λ halves. low-some hands pot.eligible seats button at.table at.at
    (or_parts (seat_count (winners Low (in_play pot.eligible hands)) == 0)
    (are_same_seats (winners High (in_play pot.eligible hands)) (winners Low (in_play pot.eligible hands))) halves).0)

-- There are as many awards as before.
pub length-award_pot : (hands : List (Option Hand)) (unit button seats : ℕ) (awards : List ℕ) (pot : Pot)
    → length (award_pot hands unit button seats awards pot) ≡ length awards
unfolding award_pot
length-award_pot hands unit button seats awards pot =
    length-sides pot.amount unit button seats awards (winners High (in_play pot.eligible hands))
    (winners Low (in_play pot.eligible hands))
    (seat_count (winners Low (in_play pot.eligible hands)) == 0 || are_same_seats
    (winners High (in_play pot.eligible hands)) (winners Low (in_play pot.eligible hands)))

sum-pots : (hands : List (Option Hand)) (unit button seats : ℕ) (awards : List ℕ) (pots : List Pot) → length awards ≡ 10
    → seats ≤ 10 → IsSeat seats button → AreSeatsOf seats (map is_some hands)
    → are_for (map is_some hands) pots ≡ true → have_somebody pots ≡ true → are_whole_pots unit pots ≡ true
    → sum (fold (award_pot hands unit button seats) awards pots) ≡ sum awards + total_of pots
sum-pots hands unit button seats awards [] ten most at table live somebody units = omega arith
sum-pots hands unit button seats awards (pot ∷ more) ten most at table live somebody units =
    let own = sum-award_pot hands unit button seats awards pot ten (record {
      most = most;
      at = at;
      table = table;
      somebody = some-in_play pot.eligible hands
          (and_parts (not (is_nobody pot.eligible)) (have_somebody more) somebody).0
          (and_parts (are_all_in pot.eligible (map is_some hands)) (are_for (map is_some hands) more) live).0;
      whole = eqb-true (pot.amount % unit) 0 (and_parts (pot.amount % unit == 0) (are_whole_pots unit more) units).0;
    }) in
    let later = sum-pots hands unit button seats (award_pot hands unit button seats awards pot) more
    (length-award_pot hands unit button seats awards pot ∙ ten) most at table
    (and_parts (are_all_in pot.eligible (map is_some hands)) (are_for (map is_some hands) more) live).1
    (and_parts (not (is_nobody pot.eligible)) (have_somebody more) somebody).1
    (and_parts (pot.amount % unit == 0) (are_whole_pots unit more) units).1 in
    omega (arith, own, later, sum_by-cons (λ (p : Pot). p.amount) pot more)

-- The awards sum to the pots.
pub sum-awards_of : (hands : List (Option Hand)) (unit button seats : ℕ) (pots : List Pot) → seats ≤ 10
    → IsSeat seats button → AreSeatsOf seats (map is_some hands)
    → are_for (map is_some hands) pots ≡ true → have_somebody pots ≡ true → are_whole_pots unit pots ≡ true
    → sum (awards_of hands unit button seats pots) ≡ total_of pots
unfolding awards_of
sum-awards_of hands unit button seats pots most at table live somebody units =
    let all = sum-pots hands unit button seats (replicate 10 0) pots refl most at table live somebody units in
    omega (arith, all)

-- Seats that fail a test are not among those that it keeps.
others : (test : ℕ → Bool) (items : List ℕ) (target : ℕ) → test target ≡ false
    → list_all (λ seat. not (seat == target)) (filter test items) ≡ true
others test [] target fails = refl
others test (item ∷ more) target fails = by_test (test item) refl (others test more target fails)
  where
    other : (is : Bool) → (item == target) ≡ is → test item ≡ true → not is ≡ true
    other true same is = let equal : item ≡ target = eqb-true item target same in
        absurd (true≢false (sym is ∙ ap test equal ∙ fails))
    other false same is = refl

    by_test : (is : Bool) → test item ≡ is → list_all (λ seat. not (seat == target)) (filter test more) ≡ true
        → list_all (λ seat. not (seat == target)) (filter test (item ∷ more)) ≡ true
    by_test true is rest = rw is (rw (other (item == target) refl is, rest))
    by_test false is rest = rw is rest

award_to-other : (awards : List ℕ) (seat index amount : ℕ) → not (seat == suc index) ≡ true
    → get_or (award_to awards seat amount) index 0 ≡ get_or awards index 0
award_to-other awards zero index amount other = refl
award_to-other awards (suc own) index amount other = get_or-set_other awards own index (get_or awards own 0 + amount) 0
    (apart own index other)
  where
    apart : (a b : ℕ) → not (suc a == suc b) ≡ true → b ≡ a → ⊥
    apart a b other same =
        let is : (suc a == suc b) ≡ true = grind (arith, nat_tests) in
        let lost : false ≡ true = rw is at other in
        cc

-- Who has no turn is paid nothing.
pay_in_turn-other : (amount unit count : ℕ) (awards : List ℕ) (turn : ℕ) (order : List ℕ) (index : ℕ)
    → list_all (λ seat. not (seat == suc index)) order ≡ true
    → get_or (pay_in_turn amount unit count awards turn order) index 0 ≡ get_or awards index 0
pay_in_turn-other amount unit count awards turn [] index all = refl
pay_in_turn-other amount unit count awards turn (seat ∷ more) index all =
    pay_in_turn-other amount unit count (award_to awards seat (share_of amount unit count turn)) (suc turn) more index
    (and_parts (not (seat == suc index)) (list_all (λ other. not (other == suc index)) more) all).1
    ∙ award_to-other awards seat index (share_of amount unit count turn)
    (and_parts (not (seat == suc index)) (list_all (λ other. not (other == suc index)) more) all).0

split-other : (amount unit : ℕ) (awards : List ℕ) (seats button index : ℕ) (set : List Bool)
    → has_seat set (suc index) ≡ false
    → get_or (split amount unit awards (in_turn seats button set)) index 0 ≡ get_or awards index 0
unfolding split
split-other amount unit awards seats button index set out =
    pay_in_turn-other amount unit (length (in_turn seats button set)) awards 0 (in_turn seats button set) index
    (others (has_seat set) (clockwise_after seats button) (suc index) out)

sides-other : (amount unit button seats : ℕ) (awards : List ℕ) (highs lows : List Bool) (once : Bool) (index : ℕ)
    → has_seat highs (suc index) ≡ false → has_seat lows (suc index) ≡ false
    → get_or (cond once (split amount unit awards (in_turn seats button highs))
    (split (low_half amount unit) unit (split (high_half amount unit) unit awards (in_turn seats button highs))
    (in_turn seats button lows))) index 0 ≡ get_or awards index 0
sides-other amount unit button seats awards highs lows true index high low =
    split-other amount unit awards seats button index highs high
sides-other amount unit button seats awards highs lows false index high low =
    split-other (low_half amount unit) unit (split (high_half amount unit) unit awards (in_turn seats button highs))
    seats button index lows low ∙ split-other (high_half amount unit) unit awards seats button index highs high

-- Who is not eligible does not win.
winners-eligible : (side : Side) (hands : List (Option Hand)) (eligible : List Bool) (index : ℕ)
    → has_seat eligible (suc index) ≡ false → has_seat (winners side (in_play eligible hands)) (suc index) ≡ false
unfolding winners
winners-eligible side hands eligible index out =
    elim (cases_Bool (has_seat (winners side (in_play eligible hands)) (suc index))) [
      | inl is ↦
          let won = map-at (wins side (in_play eligible hands)) (in_play eligible hands) index is in
          let nobody : get_or (in_play eligible hands) index None ≡ None = get_or-in_play eligible hands index
          ∙ rw out in
          let lost : false ≡ true = sym (ap (wins side (in_play eligible hands)) nobody) ∙ won in
          absurd cc
      | inr is ↦ is
    ]

-- A player is awarded nothing from a pot for which he is not eligible.
pub award_pot-other : (hands : List (Option Hand)) (unit button seats : ℕ) (awards : List ℕ) (pot : Pot) (index : ℕ)
    → has_seat pot.eligible (suc index) ≡ false
    → get_or (award_pot hands unit button seats awards pot) index 0 ≡ get_or awards index 0
unfolding award_pot
award_pot-other hands unit button seats awards pot index out =
    sides-other pot.amount unit button seats awards (winners High (in_play pot.eligible hands))
    (winners Low (in_play pot.eligible hands))
    (seat_count (winners Low (in_play pot.eligible hands)) == 0 || are_same_seats
    (winners High (in_play pot.eligible hands)) (winners Low (in_play pot.eligible hands)))
    index (winners-eligible High hands pot.eligible index out) (winners-eligible Low hands pot.eligible index out)
