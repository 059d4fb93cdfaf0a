-- The order of places is that of their slots.
use Rattle.std.proofs.Common.{◌≡◌, refl, ap, ℕ, suc, ◌+◌, ◌-◌, ◌*◌, ◌<◌, ◌≤◌, true, false, ◌==◌, ◌&&◌, inl, inr, arith}
use Rattle.std.specs.Prelude.{nat_lt}
use Rattle.std.proofs.lemmas.Bool.{cases_order, lt-ltb, eq-eqb, and_from, or_left, or_right}
use Rattle.std.proofs.lemmas.Bool.Decides.{nat_tests}
use Rattle.std.proofs.lemmas.Nat.{mul-le}
use Rattle.seat_book.specs.declared.place.Place.{Place}
use Rattle.seat_book.specs.Places.{comes_before}

-- A place is the same place as itself.
pub same_place-itself : (place : Place) → (place.table == place.table && place.seat == place.seat) ≡ true
same_place-itself place = and_from (place.table == place.table) (place.seat == place.seat)
    (eq-eqb place.table place.table refl) (eq-eqb place.seat place.seat refl)

-- a row that begins further on begins after the whole of this one
later_row : (a x seats b y : ℕ) → a < x → b < seats → a * seats + b < x * seats + y
later_row a x seats b y less within =
    let rows : suc a * seats ≤ x * seats = mul-le (suc a) seats x seats (omega arith) (omega arith) in
    let one : suc a * seats ≡ a * seats + seats = omega arith in
    omega (arith, rows, one)

-- of two places the one with the lesser slot comes before the other
pub lesser-before : (seats a b x y : ℕ) → 1 ≤ a → 1 ≤ b → b ≤ seats → 1 ≤ x → 1 ≤ y → y ≤ seats
    → (a - 1) * seats + (b - 1) < (x - 1) * seats + (y - 1)
    → comes_before (record { table = a; seat = b }) (record { table = x; seat = y }) ≡ true
lesser-before seats a b x y a_first b_first b_last x_first y_first y_last less =
    elim (cases_order a x) [
      | inl same ↦
          let rows : (a - 1) * seats ≡ (x - 1) * seats = ap (λ (n : ℕ). (n - 1) * seats) same in
          let seat : b < y = omega (arith, rows, less) in
          rw (eq-eqb a x same, lt-ltb b y seat) (or_right (nat_lt a x) true refl)
      | inr apart ↦ elim apart [
        | inl before ↦ or_left (nat_lt a x) (a == x && nat_lt b y) (lt-ltb a x before)
        | inr after ↦ let later = later_row (x - 1) (a - 1) seats (y - 1) (b - 1) (omega arith) (omega arith) in
            absurd (omega (arith, later, less))
      ]
    ]

-- two places with one slot are one place
pub same-place : (seats a b x y : ℕ) → 1 ≤ a → 1 ≤ b → b ≤ seats → 1 ≤ x → 1 ≤ y → y ≤ seats
    → (a - 1) * seats + (b - 1) ≡ (x - 1) * seats + (y - 1) → (a ≡ x) × (b ≡ y)
same-place seats a b x y a_first b_first b_last x_first y_first y_last one =
    elim (cases_order a x) [
      | inl same ↦
          let rows : (a - 1) * seats ≡ (x - 1) * seats = ap (λ (n : ℕ). (n - 1) * seats) same in
          (same, omega (arith, rows, one))
      | inr apart ↦ elim apart [
        | inl before ↦ let later = later_row (a - 1) (x - 1) seats (b - 1) (y - 1) (omega arith) (omega arith) in
            absurd (omega (arith, later, one))
        | inr after ↦ let later = later_row (x - 1) (a - 1) seats (y - 1) (b - 1) (omega arith) (omega arith) in
            absurd (omega (arith, later, one))
      ]
    ]

-- a place that comes before another is not that one, and the other does not come before it
pub before-apart : (a b x y : ℕ) → comes_before (record { table = a; seat = b })
    (record { table = x; seat = y }) ≡ true → (a == x && b == y) ≡ false
before-apart a b x y before = grind (arith, nat_tests)

-- A place is not the same as one that comes before it.
pub before-other : (a b x y : ℕ) → comes_before (record { table = a; seat = b })
    (record { table = x; seat = y }) ≡ true → (x == a && y == b) ≡ false
before-other a b x y before = grind (arith, nat_tests)

-- A place does not come before one that comes before it.
pub before-back : (a b x y : ℕ) → comes_before (record { table = a; seat = b }) (record { table = x; seat = y }) ≡ true
    → comes_before (record { table = x; seat = y }) (record { table = a; seat = b }) ≡ false
before-back a b x y before = grind (arith, nat_tests)

-- a place that comes before one comes before all places that come after it
pub before-before : (a b x y v w : ℕ) → comes_before (record { table = a; seat = b })
    (record { table = x; seat = y }) ≡ true
    → comes_before (record { table = x; seat = y }) (record { table = v; seat = w }) ≡ true
    → comes_before (record { table = a; seat = b }) (record { table = v; seat = w }) ≡ true
before-before a b x y v w first second = grind (arith, nat_tests)
