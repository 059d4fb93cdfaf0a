-- What a walk round the table finds.
use Rattle.std.proofs.Common.{◌≡◌, ◌∙◌, ℕ, zero, suc, ◌+◌, ◌≤◌, ◌<◌, List, ◌∷◌, Bool, true, false, refl, ap, sym, inl, inr, arith}
use Rattle.std.specs.Prelude.{Option, None, Some, ◌==◌, find, unwrap_or}
use Rattle.std.proofs.lemmas.Bool.{cases_Bool, cases_lt, cases_eq, eq-eqb, eqb-true}
use Rattle.std.proofs.lemmas.Bool.Decides.{nat_tests}
use Rattle.rulebook.proofs.Among.{is_among}
use Rattle.rulebook.proofs.Tests.{find-any}
use Rattle.rulebook.specs.Seats.{seat_after, walk, clockwise_after, next_occupied_after}

-- Below the last seat, the next seat is the next number.
pub seat_after-below : (seats seat : ℕ) → seat < seats → seat_after seats seat ≡ seat + 1
seat_after-below seats seat below = grind (arith, nat_tests)

-- Seat 1 follows the last.
pub seat_after-last : (seats seat : ℕ) → seat ≡ seats → seat_after seats seat ≡ 1
seat_after-last seats seat last = grind (arith, nat_tests)

-- The seat after one is a seat of the table.
pub seat_after-within : (seats seat : ℕ) → 1 ≤ seats → (1 ≤ seat_after seats seat) × (seat_after seats seat ≤ seats)
seat_after-within seats seat some = (grind (arith, nat_tests), grind (arith, nat_tests))

-- What a walk round the table finds is one of its seats.
pub found-within : (test : ℕ → Bool) (seats steps seat found : ℕ) → 1 ≤ seats
    → find test (walk (seat_after seats) steps seat) ≡ Some found → (1 ≤ found) × (found ≤ seats)
found-within test seats zero seat found some is = absurd cc
found-within test seats (suc steps) seat found some is =
    elim (cases_Bool (test (seat_after seats seat))) [
      | inl passes ↦
          let first : Some (seat_after seats seat) ≡ Some found = rw passes at is in
          let same : seat_after seats seat ≡ found = cc in
          let bounds = seat_after-within seats seat some in
          (omega (arith, same, bounds.0), omega (arith, same, bounds.1))
      | inr fails ↦ found-within test seats steps (seat_after seats seat) found some (rw fails at is)
    ]

-- The first seat of a list that is occupied is occupied, whether it is the first of all or comes later.
pub first-occupied : (occupied : ℕ → Bool) (seat : ℕ) (more : List ℕ) (fallback : ℕ)
    → (occupied seat ≡ false → occupied (unwrap_or (find occupied more) fallback) ≡ true)
    → occupied (unwrap_or (find occupied (seat ∷ more)) fallback) ≡ true
first-occupied occupied seat more fallback later =
    elim (cases_Bool (occupied seat)) [
      | inl here ↦ rw here here
      | inr empty ↦ rw empty (later empty)
    ]

-- A walk finds an occupied seat with a higher number, if it has the steps to come there.
pub walk-higher : (occupied : ℕ → Bool) (seats steps seat target fallback : ℕ) → occupied target ≡ true → seat < target
    → target ≤ seats → target ≤ seat + steps
    → occupied (unwrap_or (find occupied (walk (seat_after seats) steps seat)) fallback) ≡ true
walk-higher occupied seats zero seat target fallback sits higher within reached = absurd (omega arith)
walk-higher occupied seats (suc steps) seat target fallback sits higher within reached =
    let next = seat_after-below seats seat (omega arith) in
    first-occupied occupied (seat_after seats seat) (walk (seat_after seats) steps (seat_after seats seat)) fallback
    (λ empty.
    elim (cases_eq target (seat + 1)) [
      | inl same ↦ let nobody : occupied target ≡ false = ap occupied (same ∙ sym next) ∙ empty in absurd cc
      | inr other ↦ walk-higher occupied seats steps (seat_after seats seat) target fallback sits
          (rw next (omega arith)) within (rw next (omega arith))
    ])

-- A walk past the last seat finds an occupied seat, if it has the steps to come there.
pub walk-round : (occupied : ℕ → Bool) (seats steps seat target fallback : ℕ) → occupied target ≡ true → seat ≤ seats
    → 1 ≤ target → target ≤ seats → seats + target ≤ seat + steps
    → occupied (unwrap_or (find occupied (walk (seat_after seats) steps seat)) fallback) ≡ true
walk-round occupied seats zero seat target fallback sits at low within reached = absurd (omega arith)
walk-round occupied seats (suc steps) seat target fallback sits at low within reached =
    first-occupied occupied (seat_after seats seat) (walk (seat_after seats) steps (seat_after seats seat)) fallback
    (λ empty.
    elim (cases_lt seat seats) [
      | inl below ↦
          let next = seat_after-below seats seat below in
          walk-round occupied seats steps (seat_after seats seat) target fallback sits
          (rw next (omega arith)) low within (rw next (omega arith))
      | inr last ↦
          let next = seat_after-last seats seat (omega arith) in
          elim (cases_eq target 1) [
            | inl same ↦ let nobody : occupied target ≡ false = ap occupied (same ∙ sym next) ∙ empty in absurd cc
            | inr other ↦ walk-higher occupied seats steps (seat_after seats seat) target fallback sits
                (rw next (omega arith)) within (rw next (omega arith))
          ]
    ])

-- Where a seat of the table is occupied, a walk round the table finds one that is.
walk-occupied : (occupied : ℕ → Bool) (seats seat target fallback : ℕ) → seat ≤ seats → 1 ≤ target → target ≤ seats
    → occupied target ≡ true
    → occupied (unwrap_or (find occupied (clockwise_after seats seat)) fallback) ≡ true
walk-occupied occupied seats seat target fallback at low within sits =
    elim (cases_lt seat target) [
      | inl higher ↦ walk-higher occupied seats seats seat target fallback sits higher within (omega arith)
      | inr lower ↦ walk-round occupied seats seats seat target fallback sits at low within (omega arith)
    ]

-- Where a seat of the table is occupied, the next occupied seat is occupied.
pub next_occupied_after-occupied : (occupied : ℕ → Bool) (seats seat target : ℕ) → seat ≤ seats → 1 ≤ target
    → target ≤ seats → occupied target ≡ true
    → occupied (next_occupied_after seats occupied seat) ≡ true
next_occupied_after-occupied occupied seats seat target at low within sits =
    walk-occupied occupied seats seat target seat at low within sits

-- A walk round the table comes to each of its seats.
pub comes-to : (seats seat target : ℕ) → seat ≤ seats → 1 ≤ target → target ≤ seats
    → find (λ other. other == target) (clockwise_after seats seat) ≡ Some target
comes-to seats seat target at low within = found (find (λ other. other == target) (clockwise_after seats seat)) refl
  where
    is_target : (unwrap_or (find (λ other. other == target) (clockwise_after seats seat)) (suc target) == target) ≡ true
    is_target =
        walk-occupied (λ other. other == target) seats seat target (suc target) at low within
        (eq-eqb target target refl)

    found : (result : Option ℕ) → find (λ other. other == target) (clockwise_after seats seat) ≡ result
        → find (λ other. other == target) (clockwise_after seats seat) ≡ Some target
    found None is = let same : suc target ≡ target = eqb-true (suc target) target (rw is at is_target) in
        absurd (omega (arith, same))
    found (Some other) is = is ∙ ap Some (eqb-true other target (rw is at is_target))

-- Each seat of the table is among those of a walk round it.
pub among-clockwise : (seats seat target : ℕ) → seat ≤ seats → 1 ≤ target → target ≤ seats
    → is_among target (clockwise_after seats seat) ≡ true
among-clockwise seats seat target at low within =
    find-any (λ other. other == target) (λ other. other == target) (clockwise_after seats seat) target
    (comes-to seats seat target at low within) (eq-eqb target target refl)
