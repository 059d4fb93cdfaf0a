-- The big blind never waits.
use Rattle.std.proofs.Common.{◌≡◌, ◌⊎◌, ℕ, suc, ◌+◌, ◌-◌, ◌<◌, ◌≤◌, List, Bool, true, false, refl, subst, inl, inr, arith}
use Rattle.std.specs.Prelude.{Option, Some, None, IsTrue, nat_lt, find, slice_index_or, unwrap_or}
use Rattle.std.proofs.lemmas.Bool.{cases_Bool, cases_eq}
use Rattle.std.proofs.lemmas.Bool.Decides.{nat_tests}
use Rattle.rulebook.specs.Seats.{clockwise_after, next_occupied_after}
use Rattle.button_blinds.specs.SeatSets.{no_seats, has_seat, seat_count, AreSeatsOf}
use Rattle.button_blinds.specs.Marks.{AreMarksOf, waiting_between, leaves_fewer_than_three}
use Rattle.button_blinds.specs.declared.marks.Marks.{Marks}
use Rattle.button_blinds.proofs.SeatSetLaws.{no_seats-none}
use Rattle.button_blinds.proofs.WhoPlays.{next-sits}
use Rattle.button_blinds.proofs.Distances.{steps_to, IsSeat, found-nearest, found-reached, waits-nearer, nearer-waits, dominated-but_one, all_before, most_steps, seat_low}

-- who waits between two seats is fewer steps away from the first than the second
waiting-nearer : (occupied : List Bool) (seats button small seat : ℕ) → IsSeat seats button → IsSeat seats small
    → IsSeat seats seat → has_seat (waiting_between occupied seats button small) seat ≡ true
    → steps_to seats button seat < steps_to seats button small
waiting-nearer occupied seats button small seat at end is waits =
    elim (waits-nearer occupied no_seats small seats seats button seat at end is waits) [
      | inl there ↦ let none = no_seats-none seat in absurd cc
      | inr nearer ↦ nearer
    ]

-- if the next big waited, all players but the old big would
all_wait : (occupied : List Bool) (old : Marks) (seats big seat : ℕ) → seats ≤ 10 → AreSeatsOf seats occupied
    → AreMarksOf seats old → IsSeat seats big → find (has_seat occupied) (clockwise_after seats old.big) ≡ Some big
    → has_seat (waiting_between occupied seats old.small old.big) big ≡ true → has_seat occupied seat ≡ true
    → (seat ≡ old.big) ⊎ (has_seat (waiting_between occupied seats old.small old.big) seat ≡ true)
all_wait occupied old seats big seat most table marks there first waits sits = elim (cases_eq seat old.big) [
  | inl same ↦ inl same
  | inr other ↦
      let is : IsSeat seats seat = (seat_low occupied seat sits, table.within seat sits) in
      let before = waiting-nearer occupied seats old.small old.big big marks.small marks.big there waits in
      let within = most_steps seats old.big seat marks.big.0 marks.big.1 is.0 is.1 in
      let nearest = found-nearest (has_seat occupied) seats seats old.big big seat marks.big there is first sits
      within in
      let nearer = all_before seats old.small old.big big seat marks.small.0 marks.small.1 marks.big.0 marks.big.1
      there.0 there.1 is.0 is.1 before nearest other in
      let reached = most_steps seats old.small seat marks.small.0 marks.small.1 is.0 is.1 in
      inr (nearer-waits occupied no_seats old.big seats seats old.small seat marks.small marks.big is most sits reached
      nearer)
]

too_few : (occupied : List Bool) (old : Marks) (seats big : ℕ) → seats ≤ 10 → AreSeatsOf seats occupied
    → AreMarksOf seats old → IsSeat seats big → find (has_seat occupied) (clockwise_after seats old.big) ≡ Some big
    → has_seat (waiting_between occupied seats old.small old.big) big ≡ true
    → leaves_fewer_than_three occupied (waiting_between occupied seats old.small old.big) ≡ true
too_few occupied old seats big most table marks there first waits =
    let fewer = dominated-but_one occupied (waiting_between occupied seats old.small old.big) (old.big - 1)
    (λ k sits. elim (all_wait occupied old seats big (suc k) most table marks there first waits sits) [
      | inl same ↦ inl (omega (arith, same))
      | inr was ↦ inr was
    ]) in
    fewer_than (seat_count occupied) (seat_count (waiting_between occupied seats old.small old.big)) fewer
  where
    fewer_than : (players waiting : ℕ) → players ≤ waiting + 1 → nat_lt players (waiting + 3) ≡ true
    fewer_than players waiting few = grind (arith, nat_tests)

-- The next big blind does not wait, where three or more are dealt in.
pub big-plays : (occupied : List Bool) (old : Marks) (seats : ℕ) → seats ≤ 10 → AreSeatsOf seats occupied
    → 2 ≤ seat_count occupied → AreMarksOf seats old
    → leaves_fewer_than_three occupied (waiting_between occupied seats old.small old.big) ≡ false
    → has_seat (waiting_between occupied seats old.small old.big)
    (next_occupied_after seats (has_seat occupied) old.big) ≡ false
big-plays occupied old seats most table players marks enough =
    by_find (find (has_seat occupied) (clockwise_after seats old.big)) refl
    (next-sits occupied seats old.big table players marks.big.1)
  where
    by_find : (found : Option ℕ) → find (has_seat occupied) (clockwise_after seats old.big) ≡ found
        → IsTrue (has_seat occupied (unwrap_or found old.big))
        → has_seat (waiting_between occupied seats old.small old.big) (unwrap_or found old.big) ≡ false
    by_find None first sits = elim (cases_Bool (has_seat (waiting_between occupied seats old.small old.big) old.big)) [
      | inl waits ↦ let before =
          waiting-nearer occupied seats old.small old.big old.big marks.small marks.big marks.big waits in
          absurd (omega (arith, before))
      | inr plays ↦ plays
    ]
    by_find (Some big) first sits =
        elim (cases_Bool (has_seat (waiting_between occupied seats old.small old.big) big)) [
          | inl waits ↦ let few =
              too_few occupied old seats big most table marks
              (seat_low occupied big sits, table.within big sits) first waits in absurd cc
          | inr plays ↦ plays
        ]

round_again : (seats a seat : ℕ) → 1 ≤ a → a ≤ seats → 1 ≤ seat → seat ≤ seats
    → steps_to seats a a ≤ steps_to seats a seat → seat ≡ a
round_again seats a seat low_a high_a low high far = grind (arith, nat_tests)

-- Where two or more sit, the next occupied seat after one is another.
pub next-apart : (occupied : List Bool) (seats seat : ℕ) → AreSeatsOf seats occupied → 2 ≤ seat_count occupied
    → IsSeat seats seat → next_occupied_after seats (has_seat occupied) seat ≡ seat → ⊥
next-apart occupied seats seat table players at same =
    by_find (find (has_seat occupied) (clockwise_after seats seat)) refl same
  where
    only_one : ((k : ℕ) → slice_index_or occupied k false ≡ true
        → (k ≡ seat - 1) ⊎ (slice_index_or no_seats k false ≡ true)) → ⊥
    only_one each = let few = dominated-but_one occupied no_seats (seat - 1) each in omega (arith, few, players)

    by_find : (found : Option ℕ) → find (has_seat occupied) (clockwise_after seats seat) ≡ found
        → unwrap_or found seat ≡ seat → ⊥
    by_find None first same = only_one (λ k sits.
        let is : IsSeat seats (suc k) = (omega arith, table.within (suc k) sits) in
        absurd (found-reached (has_seat occupied) seats seats seat (suc k) at is sits
        (most_steps seats seat (suc k) at.0 at.1 is.0 is.1) first))
    by_find (Some found) first same = only_one (λ k sits.
        let is : IsSeat seats (suc k) = (omega arith, table.within (suc k) sits) in
        let found_first = subst (λ (s : ℕ). find (has_seat occupied) (clockwise_after seats seat) ≡ Some s) same
        first in
        let within = most_steps seats seat (suc k) at.0 at.1 is.0 is.1 in
        let nearest = found-nearest (has_seat occupied) seats seats seat seat
        (suc k) at at is found_first sits within in
        let itself = round_again seats seat (suc k) at.0 at.1 is.0 is.1 nearest in
        inl (omega (arith, itself)))
