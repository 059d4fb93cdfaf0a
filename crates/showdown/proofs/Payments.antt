-- What winners in turn are paid.
use Rattle.std.proofs.Common.{◌≡◌, ◌∙◌, ℕ, zero, suc, ◌+◌, ◌-◌, ◌%◌, ◌<◌, ◌≤◌, List, Bool, true, false, length, get_or, set, drop, add-one, drop-cons, refl, ap, sym, arith}
use Rattle.std.specs.Prelude.{nat_le, sum}
use Rattle.std.specs.List.{list_all}
use Rattle.std.proofs.lemmas.Bool.{and_parts, leb-true}
use Rattle.std.proofs.lemmas.Bool.Decides.{nat_tests}
use Rattle.std.proofs.lemmas.List.Sums.{AllPass-from_list_all, sum_by-set}
use Rattle.pot_layers.specs.Shares.{share_of, sum_below}
use Rattle.pot_layers.proofs.ShareLaws.{sum_below-share_of}
use Rattle.showdown.specs.Awards.{is_seat, award_to, pay_in_turn}

-- Seats count from 1, and indices from 0.
pub award_to-index : (awards : List ℕ) (seat amount : ℕ) → 1 ≤ seat
    → award_to awards seat amount ≡ set awards (seat - 1) (get_or awards (seat - 1) 0 + amount)
award_to-index awards zero amount low = absurd (omega arith)
award_to-index awards (suc index) amount low = let same : suc index - 1 ≡ index = omega arith in rw same

-- The next winner is paid: what is left pays the same.
pub paid-next : (amount unit count : ℕ) (awards order : List ℕ) (index : ℕ) → index < length order
    → 1 ≤ get_or order index 0
    → pay_in_turn amount unit count
    (set awards (get_or order index 0 - 1)
    (get_or awards (get_or order index 0 - 1) 0 + share_of amount unit count index)) (index + 1)
    (drop (index + 1) order)
    ≡ pay_in_turn amount unit count awards index (drop index order)
paid-next amount unit count awards order index within low =
    ap (λ (n : ℕ). pay_in_turn amount unit count
    (set awards (get_or order index 0 - 1)
    (get_or awards (get_or order index 0 - 1) 0 + share_of amount unit count index)) n (drop n order))
    (add-one index)
    ∙ ap (λ (paid : List ℕ). pay_in_turn amount unit count paid (suc index) (drop (suc index) order))
    (sym (award_to-index awards (get_or order index 0) (share_of amount unit count index) low))
    ∙ sym (ap (pay_in_turn amount unit count awards index) (drop-cons order index 0 within))

-- A seat of tables is from 1 to 10.
pub first-seat : (seat : ℕ) → is_seat seat ≡ true → (1 ≤ seat) × (seat ≤ 10)
first-seat seat is = (
  leb-true 1 seat (and_parts (nat_le 1 seat) (nat_le seat 10) is).0,
  leb-true seat 10 (and_parts (nat_le 1 seat) (nat_le seat 10) is).1,
)

-- A seat of an order of seats.
pub seat-at : (order : List ℕ) (index : ℕ) → list_all is_seat order ≡ true → index < length order
    → (1 ≤ get_or order index 0) × (get_or order index 0 ≤ 10)
seat-at order index all within =
    first-seat (get_or order index 0) (AllPass-from_list_all is_seat order all index 0 within)

-- The awards grow by what is paid.
pub sum-award : (awards : List ℕ) (index amount : ℕ) → index < length awards
    → sum (set awards index (get_or awards index 0 + amount)) ≡ sum awards + amount
sum-award awards index amount within =
    omega (arith, sum_by-set (λ (n : ℕ). n) awards index (get_or awards index 0 + amount) 0 within)

sum_below-grows : (f : ℕ → ℕ) (few many : ℕ) → few ≤ many → sum_below f few ≤ sum_below f many
sum_below-grows f few zero under = let none : few ≡ 0 = omega arith in rw none (omega arith)
sum_below-grows f few (suc many) under = by_least (nat_le few many) refl (sum_below-grows f few many)
  where
    equal : (a b : ℕ) → a ≤ suc b → nat_le a b ≡ false → a ≡ suc b
    equal a b under is = grind (arith, nat_tests)

    by_least : (is_less : Bool) → nat_le few many ≡ is_less → (few ≤ many → sum_below f few ≤ sum_below f many)
        → sum_below f few ≤ sum_below f (suc many)
    by_least true is less = omega (arith, less (leb-true few many is))
    by_least false is less = rw (equal few many under is) (omega arith)

-- What the first winners are paid with the next one's share is within the amount.
pub shares-within : (amount unit count index : ℕ) → index < count → amount % unit ≡ 0
    → sum_below (share_of amount unit count) index + share_of amount unit count index ≤ amount
shares-within amount unit count index within whole =
    let grows = sum_below-grows (share_of amount unit count) (suc index) count (omega arith) in
    let all = sum_below-share_of amount unit count (omega arith) whole in
    omega (arith, grows, all)
