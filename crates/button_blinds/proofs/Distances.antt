-- How many steps clockwise lead from one seat to another, and what the walks find by that.
use Rattle.std.proofs.Common.{◌≡◌, ◌⊎◌, ◌∙◌, ℕ, zero, suc, ◌+◌, ◌-◌, ◌<◌, ◌≤◌, List, [], ◌∷◌, Bool, true, false, cond, length, refl, sym, ap, inl, inr, arith}
use Rattle.std.specs.Prelude.{Some, None, ◌==◌, not, nat_lt, slice_index_or, slice_set, find, filter, take_while}
use Rattle.std.proofs.lemmas.Bool.{both_ways, cases_Bool, cases_eq, eqb-true, eqb-false}
use Rattle.std.proofs.lemmas.Bool.Decides.{nat_tests}
use Rattle.std.proofs.lemmas.List.Sums.{take_while-cons, sum_by-cons}
use Rattle.std.proofs.lemmas.Option.{same_Some}
use Rattle.rulebook.specs.Seats.{seat_after, walk}
use Rattle.rulebook.proofs.OccupiedSeats.{seat_after-within}
use Rattle.rulebook.proofs.Tests.{at_most_one, find-passes}
use Rattle.button_blinds.specs.SeatSets.{has_seat, with_seat, with_seats, seat_count}
use Rattle.button_blinds.specs.Marks.{players_before}
use Rattle.button_blinds.proofs.SeatSetLaws.{with_seat-size, has_seat-with_seat}

-- the steps clockwise from a seat to another, and all round to itself
abbrev pub steps_to : ℕ → ℕ → ℕ → ℕ
steps_to seats from seat = cond (nat_lt from seat) (seat - from) (seat + seats - from)

-- a seat of the table
abbrev pub IsSeat : ℕ → ℕ → Type 0
IsSeat seats seat = (1 ≤ seat) × (seat ≤ seats)

next_is_seat : (seats from : ℕ) → IsSeat seats from → IsSeat seats (seat_after seats from)
next_is_seat seats from at = seat_after-within seats from (omega (arith, at.0, at.1))

one_step : (seats from : ℕ) → 1 ≤ from → from ≤ seats → steps_to seats from (seat_after seats from) ≡ 1
one_step seats from low high = grind (arith, nat_tests)

-- to another seat than the next it is one step less from the next
step_less : (seats from seat : ℕ) → 1 ≤ from → from ≤ seats → 1 ≤ seat → seat ≤ seats
    → (seat ≡ seat_after seats from → ⊥) → steps_to seats from seat ≡ steps_to seats (seat_after seats from) seat + 1
step_less seats from seat low high first last other = grind (arith, nat_tests)

some_steps : (seats from seat : ℕ) → 1 ≤ from → from ≤ seats → 1 ≤ seat → seat ≤ seats → 1 ≤ steps_to seats from seat
some_steps seats from seat low high first last = grind (arith, nat_tests)

-- from a seat to another, or all round to itself, there are no more steps than the table has seats
pub most_steps : (seats from seat : ℕ) → 1 ≤ from → from ≤ seats → 1 ≤ seat → seat ≤ seats
    → steps_to seats from seat ≤ seats
most_steps seats from seat low high first last = grind (arith, nat_tests)

-- the seat that a walk finds is no more steps away than any other occupied seat that the walk comes to
pub found-nearest : (occupied : ℕ → Bool) (seats steps from found seat : ℕ) → IsSeat seats from → IsSeat seats found
    → IsSeat seats seat → find occupied (walk (seat_after seats) steps from) ≡ Some found
    → occupied seat ≡ true → steps_to seats from seat ≤ steps → steps_to seats from found ≤ steps_to seats from seat
found-nearest occupied seats zero from found seat at there is first sits within = absurd cc
found-nearest occupied seats (suc steps) from found seat at there is first sits within =
    elim (cases_Bool (occupied (seat_after seats from))) [
      | inl here ↦
          let same : seat_after seats from ≡ found = same_Some (seat_after seats from) found (rw here at first) in
          let one = one_step seats from at.0 at.1 in
          let one_found : steps_to seats from found ≡ 1 = ap (λ (s : ℕ). steps_to seats from s) (sym same) ∙ one in
          let some = some_steps seats from seat at.0 at.1 is.0 is.1 in
          omega (arith, one_found, some)
      | inr empty ↦
          let later = rw empty at first in
          let apart : seat ≡ seat_after seats from
          → ⊥ = λ same. both_ways (occupied (seat_after seats from)) empty (ap occupied (sym same) ∙ sits) in
          let less = step_less seats from seat at.0 at.1 is.0 is.1 apart in
          let nearest = found-nearest occupied seats steps (seat_after seats from) found seat
          (next_is_seat seats from at) there is later sits (omega (arith, less, within)) in
          let found_apart : found ≡ seat_after seats from
          → ⊥ = λ same. both_ways (occupied (seat_after seats from)) empty (ap occupied (sym same)
          ∙ find-passes occupied (walk (seat_after seats) steps (seat_after seats from)) found later) in
          let found_less = step_less seats from found at.0 at.1 there.0 there.1 found_apart in
          omega (arith, less, found_less, nearest)
    ]

-- those who come before small among a seat and the seats behind it
players_before-cons : (occupied : List Bool) (small seat : ℕ) (more : List ℕ)
    → players_before occupied small (seat ∷ more)
    ≡ cond (seat == small) []
    (cond (has_seat occupied seat) (seat ∷ players_before occupied small more) (players_before occupied small more))
players_before-cons occupied small seat more =
    ap (filter (has_seat occupied)) (take_while-cons (λ other. not (other == small)) seat more)
    ∙ by_test (seat == small) (has_seat occupied seat)
  where
    by_test : (b sits : Bool)
        → filter (has_seat occupied) (cond (not b) (seat ∷ take_while (λ other. not (other == small)) more) [])
        ≡ cond b [] (cond (has_seat occupied seat) (seat ∷ players_before occupied small more)
        (players_before occupied small more))
    by_test true sits = refl
    by_test false sits = refl

-- who waits is fewer steps away than small
pub waits-nearer : (occupied set : List Bool) (small seats steps from seat : ℕ) → IsSeat seats from → IsSeat seats small
    → IsSeat seats seat
    → has_seat (with_seats set (players_before occupied small (walk (seat_after seats) steps from))) seat ≡ true
    → (has_seat set seat ≡ true) ⊎ (steps_to seats from seat < steps_to seats from small)
waits-nearer occupied set small seats zero from seat at end is waits = inl waits
waits-nearer occupied set small seats (suc steps) from seat at end is waits =
    let next = seat_after seats from in
    let more = walk (seat_after seats) steps next in
    let front = ap (λ (order : List ℕ). has_seat (with_seats set order) seat)
    (players_before-cons occupied small next more) in
    elim (cases_Bool (next == small)) [
      | inl here ↦ inl (rw here at (sym front ∙ waits))
      | inr other ↦
          let rest = rw other at (sym front ∙ waits) in
          let small_less = step_less seats from small at.0 at.1 end.0 end.1
          (λ same. eqb-false next small other (sym same)) in
          let small_some = some_steps seats next small (next_is_seat seats from at).0
          (next_is_seat seats from at).1 end.0 end.1 in
          elim (cases_eq seat next) [
            | inl same ↦
                let one : steps_to seats from seat ≡ 1 = ap (λ (s : ℕ). steps_to seats from s) same
                ∙ one_step seats from at.0 at.1 in
                inr (omega (arith, one, small_less, small_some))
            | inr apart ↦
                let less = step_less seats from seat at.0 at.1 is.0 is.1 apart in
                elim (cases_Bool (has_seat occupied next)) [
                  | inl sits ↦ elim (waits-nearer occupied (with_seat set next) small seats steps next seat
                      (next_is_seat seats from at) end is (rw sits at rest)) [
                        | inl there ↦ elim (has_seat-with_seat set next seat there)
                            [ inl same ↦ absurd (apart same) | inr was ↦ inl was ]
                        | inr nearer ↦ inr (omega (arith, less, small_less, nearer))
                      ]
                  | inr empty ↦ elim (waits-nearer occupied set small seats steps next seat
                      (next_is_seat seats from at) end is (rw empty at rest)) [
                        | inl there ↦ inl there
                        | inr nearer ↦ inr (omega (arith, less, small_less, nearer))
                      ]
                ]
          ]
    ]

set_there : (set : List Bool) (at : ℕ) → at < length set → slice_index_or (slice_set set at true) at false ≡ true
set_there [] at within = absurd (omega arith)
set_there (test ∷ more) zero within = refl
set_there (test ∷ more) (suc at) within = set_there more at (omega arith)

set_keeps : (set : List Bool) (at k : ℕ) → slice_index_or set k false ≡ true
    → slice_index_or (slice_set set at true) k false ≡ true
set_keeps [] at k there = there
set_keeps (test ∷ more) zero zero there = refl
set_keeps (test ∷ more) zero (suc k) there = there
set_keeps (test ∷ more) (suc at) zero there = there
set_keeps (test ∷ more) (suc at) (suc k) there = set_keeps more at k there

-- a seat that is put into a set is in it
pub with_seat-has : (set : List Bool) (seat : ℕ) → 1 ≤ seat → seat ≤ length set
    → has_seat (with_seat set seat) seat ≡ true
with_seat-has set zero low high = absurd (omega arith)
with_seat-has set (suc at) low high = set_there set at (omega arith)

with_seat-keeps : (set : List Bool) (seat other : ℕ) → has_seat set other ≡ true
    → has_seat (with_seat set seat) other ≡ true
with_seat-keeps set zero other there = there
with_seat-keeps set (suc at) zero there = there
with_seat-keeps set (suc at) (suc k) there = set_keeps set at k there

with_seats-keeps : (set : List Bool) (seats : List ℕ) (other : ℕ) → has_seat set other ≡ true
    → has_seat (with_seats set seats) other ≡ true
with_seats-keeps set [] other there = there
with_seats-keeps set (seat ∷ seats) other there =
    with_seats-keeps (with_seat set seat) seats other (with_seat-keeps set seat other there)

-- a player who is fewer steps away than small waits
pub nearer-waits : (occupied set : List Bool) (small seats steps from seat : ℕ) → IsSeat seats from → IsSeat seats small
    → IsSeat seats seat → seats ≤ length set
    → has_seat occupied seat ≡ true → steps_to seats from seat ≤ steps
    → steps_to seats from seat < steps_to seats from small
    → has_seat (with_seats set (players_before occupied small (walk (seat_after seats) steps from))) seat ≡ true
nearer-waits occupied set small seats zero from seat at end is room sits within nearer =
    let some = some_steps seats from seat at.0 at.1 is.0 is.1 in absurd (omega (arith, some, within))
nearer-waits occupied set small seats (suc steps) from seat at end is room sits within nearer =
    let next = seat_after seats from in
    let more = walk (seat_after seats) steps next in
    let front = ap (λ (order : List ℕ). has_seat (with_seats set order) seat)
    (players_before-cons occupied small next more) in
    let one = one_step seats from at.0 at.1 in
    let some = some_steps seats from seat at.0 at.1 is.0 is.1 in
    elim (cases_Bool (next == small)) [
      | inl here ↦
          let end_one : steps_to seats from small ≡ 1 =
          ap (λ (s : ℕ). steps_to seats from s) (sym (eqb-true next small here)) ∙ one in
          absurd (omega (arith, end_one, some, nearer))
      | inr other ↦
          let small_less = step_less seats from small at.0 at.1 end.0 end.1
          (λ same. eqb-false next small other (sym same)) in
          elim (cases_eq seat next) [
            | inl same ↦
                let sits_next : has_seat occupied next ≡ true = ap (has_seat occupied) (sym same) ∙ sits in
                let put : has_seat (with_seat set next) seat ≡ true =
                ap (λ (s : ℕ). has_seat (with_seat set next) s) same
                ∙ with_seat-has set next (next_is_seat seats from at).0
                (let high = (next_is_seat seats from at).1 in omega (arith, high, room)) in
                front ∙ rw (other, sits_next)
                (with_seats-keeps (with_seat set next) (players_before occupied small more) seat put)
            | inr apart ↦
                let less = step_less seats from seat at.0 at.1 is.0 is.1 apart in
                elim (cases_Bool (has_seat occupied next)) [
                  | inl sits_next ↦
                      let size = with_seat-size set next in
                      front ∙ rw (other, sits_next)
                      (nearer-waits occupied (with_seat set next) small seats steps next seat
                      (next_is_seat seats from at) end is (omega (arith, size, room)) sits
                      (omega (arith, less, within)) (omega (arith, less, small_less, nearer)))
                  | inr empty ↦
                      front ∙ rw (other, empty)
                      (nearer-waits occupied set small seats steps next seat
                      (next_is_seat seats from at) end is room sits (omega (arith, less, within))
                      (omega (arith, less, small_less, nearer)))
                ]
          ]
    ]

head_le : (a b : Bool) → (a ≡ true → b ≡ true) → cond a 1 0 ≤ cond b 1 0
head_le true b there = rw (there refl) (omega arith)
head_le false b there = omega arith

-- a set whose seats another set has is no larger
pub dominated : (one other : List Bool)
    → ((k : ℕ) → slice_index_or one k false ≡ true → slice_index_or other k false ≡ true)
    → seat_count one ≤ seat_count other
dominated [] other each = omega arith
dominated (a ∷ one) [] each =
    let rest = dominated one [] (λ k there. each (suc k) there) in
    let counted = sum_by-cons (λ x. cond x 1 0) a one in
    let head = head_le a false (each 0) in
    omega (arith, rest, counted, head)
dominated (a ∷ one) (b ∷ other) each =
    let rest = dominated one other (λ k there. each (suc k) there) in
    let counted = sum_by-cons (λ x. cond x 1 0) a one in
    let counted_other = sum_by-cons (λ x. cond x 1 0) b other in
    let heads = head_le a b (each 0) in
    omega (arith, rest, counted, counted_other, heads)

-- a set whose seats another set has, but for one, is larger by one at most
pub dominated-but_one : (one other : List Bool) (at : ℕ)
    → ((k : ℕ) → slice_index_or one k false ≡ true → (k ≡ at) ⊎ (slice_index_or other k false ≡ true))
    → seat_count one ≤ seat_count other + 1
dominated-but_one [] other at each = omega arith
dominated-but_one (a ∷ one) [] zero each =
    let rest = dominated one []
    (λ k there. elim (each (suc k) there) [ inl same ↦ absurd (omega (arith, same)) | inr was ↦ was ]) in
    let counted = sum_by-cons (λ x. cond x 1 0) a one in
    let head = at_most_one a in
    omega (arith, rest, counted, head)
dominated-but_one (a ∷ one) [] (suc at) each =
    let rest = dominated-but_one one [] at
    (λ k there. elim (each (suc k) there) [ inl same ↦ inl (omega (arith, same)) | inr was ↦ inr was ]) in
    let counted = sum_by-cons (λ x. cond x 1 0) a one in
    let head = head_le a false
    (λ there. elim (each 0 there) [ inl same ↦ absurd (omega (arith, same)) | inr was ↦ was ]) in
    omega (arith, rest, counted, head)
dominated-but_one (a ∷ one) (b ∷ other) zero each =
    let rest = dominated one other
    (λ k there. elim (each (suc k) there) [ inl same ↦ absurd (omega (arith, same)) | inr was ↦ was ]) in
    let counted = sum_by-cons (λ x. cond x 1 0) a one in
    let counted_other = sum_by-cons (λ x. cond x 1 0) b other in
    let head = at_most_one a in
    omega (arith, rest, counted, counted_other, head)
dominated-but_one (a ∷ one) (b ∷ other) (suc at) each =
    let rest = dominated-but_one one other at
    (λ k there. elim (each (suc k) there) [ inl same ↦ inl (omega (arith, same)) | inr was ↦ inr was ]) in
    let counted = sum_by-cons (λ x. cond x 1 0) a one in
    let counted_other = sum_by-cons (λ x. cond x 1 0) b other in
    let heads = head_le a b
    (λ there. elim (each 0 there) [ inl same ↦ absurd (omega (arith, same)) | inr was ↦ was ]) in
    omega (arith, rest, counted, counted_other, heads)

-- where the seat after b that is occupied first comes before b from a, every other occupied seat does
pub all_before : (seats a b first seat : ℕ) → 1 ≤ a → a ≤ seats → 1 ≤ b → b ≤ seats → 1 ≤ first → first ≤ seats
    → 1 ≤ seat → seat ≤ seats
    → steps_to seats a first < steps_to seats a b → steps_to seats b first ≤ steps_to seats b seat → (seat ≡ b → ⊥)
    → steps_to seats a seat < steps_to seats a b
all_before seats a b first seat low_a high_a low_b high_b low_first high_first low high before nearest other =
    grind (arith, nat_tests)

-- every seat of a set has a number of at least 1
pub seat_low : (set : List Bool) (seat : ℕ) → has_seat set seat ≡ true → 1 ≤ seat
seat_low set zero there = cc
seat_low set (suc k) there = omega arith

-- a walk that comes to an occupied seat finds one
pub found-reached : (occupied : ℕ → Bool) (seats steps from seat : ℕ) → IsSeat seats from → IsSeat seats seat
    → occupied seat ≡ true → steps_to seats from seat ≤ steps
    → find occupied (walk (seat_after seats) steps from) ≡ None → ⊥
found-reached occupied seats zero from seat at is sits within none = let some =
    some_steps seats from seat at.0 at.1 is.0 is.1 in omega (arith, some, within)
found-reached occupied seats (suc steps) from seat at is sits within none =
    elim (cases_Bool (occupied (seat_after seats from))) [
      | inl here ↦ let found : Some (seat_after seats from) ≡ None = rw here at none in cc
      | inr empty ↦
          let less = step_less seats from seat at.0 at.1 is.0 is.1
          (λ same. both_ways (occupied (seat_after seats from)) empty (ap occupied (sym same) ∙ sits)) in
          found-reached occupied seats steps (seat_after seats from) seat (next_is_seat seats from at) is sits
          (omega (arith, less, within)) (rw empty at none)
    ]
