-- A seat of a table is taken exactly where somebody sits in it.
use Rattle.std.proofs.Common.{◌≡◌, ◌∙◌, refl, sym, ap, ℕ, zero, suc, ◌+◌, ◌<◌, ◌≤◌, ◌≢◌, Bool, true, false, cond, ◌==◌, ◌&&◌, ◌||◌, List, [], ◌∷◌, map, length, Some, inl, inr, arith, get_or-set_same, get_or-set_other}
use Rattle.std.specs.Prelude.{filter, find, count_by, slice_set}
use Rattle.std.specs.Option.{is_some}
use Rattle.std.proofs.Math.Bool.{or-false, or-true}
use Rattle.std.proofs.lemmas.Bool.{cases_eq, eq-eqb}
use Rattle.std.proofs.lemmas.Bool.Decides.{nat_tests}
use Rattle.rulebook.proofs.Tests.{count_by-cons}
use Rattle.button_blinds.specs.SeatSets.{no_seats, has_seat, with_seat, with_seats, seat_count}
use Rattle.button_blinds.proofs.SeatSetLaws.{with_seat-size, no_seats-none}
use Rattle.seat_book.specs.declared.seated.Seated.{Seated}
use Rattle.seat_book.specs.Players.{sits_at, sits_in, player_at, taken_seats}

-- With one more seat, a seat is in a set where it is that one or was in it.
pub has_seat-one_more : (set : List Bool) (more seat : ℕ) → 1 ≤ seat → seat ≤ length set
    → has_seat (with_seat set more) seat ≡ (more == seat || has_seat set seat)
has_seat-one_more set more zero first within = absurd (omega arith)
has_seat-one_more set zero (suc k) first within = let none : (0 == suc k) ≡ false = grind (arith, nat_tests) in
    rw none refl
has_seat-one_more set (suc at) (suc k) first within = elim (cases_eq k at) [
  | inl same ↦
      let one : (suc at == suc k) ≡ true = eq-eqb (suc at) (suc k) (ap suc (sym same)) in
      let inside : at < length set = omega arith in
      rw (one, same) (get_or-set_same set at true false inside)
  | inr apart ↦
      let other : k ≢ at = apart in
      let none : (suc at == suc k) ≡ false = grind (arith, nat_tests) in
      rw none (get_or-set_other set at k true false other)
]

all_same_size : (set : List Bool) (seats : List ℕ) → length (with_seats set seats) ≡ length set
all_same_size set [] = refl
all_same_size set (seat ∷ seats) = all_same_size (with_seat set seat) seats ∙ with_seat-size set seat

-- The taken seats of a table are ten tests.
pub taken-size : (players : List Seated) (table : ℕ) → length (taken_seats players table) ≡ 10
taken-size players table =
    all_same_size no_seats (map (λ seated. seated.place.seat) (filter (sits_at table) players))

one_seat_more : (set : List Bool) (at : ℕ) → count_by (λ is_in. is_in) (slice_set set at true)
    ≤ count_by (λ is_in. is_in) set + 1
one_seat_more [] at = omega arith
one_seat_more (true ∷ set) zero = omega arith
one_seat_more (false ∷ set) zero =
    let before = count_by-cons (λ is_in. is_in) false set in
    let now = count_by-cons (λ is_in. is_in) true set in
    omega (arith, before, now)
one_seat_more (test ∷ set) (suc at) =
    let before = count_by-cons (λ is_in. is_in) test set in
    let now = count_by-cons (λ is_in. is_in) test (slice_set set at true) in
    let rest = one_seat_more set at in
    omega (arith, before, now, rest)

-- One more seat adds at most one to the seats of a set.
pub seat_count-one_more : (set : List Bool) (seat : ℕ) → seat_count (with_seat set seat) ≤ seat_count set + 1
seat_count-one_more set zero = omega arith
seat_count-one_more set (suc at) = one_seat_more set at

module _ (table seat : ℕ) (first : 1 ≤ seat) (last : seat ≤ 10) where
  is_in : List Seated → Bool
  is_in players = is_some (find (sits_in (record { table = table; seat = seat })) players)

  seats_of : List Seated → List ℕ
  seats_of players = map (λ seated. seated.place.seat) players

  one : (seated : Seated) (players : List Seated) (set : List Bool) (here there : Bool) → length set ≡ 10
      → (seated.place.seat == seat) ≡ there
      → ((set : List Bool) → length set ≡ 10
      → has_seat (with_seats set (seats_of (filter (sits_at table) players))) seat
      ≡ (is_in players || has_seat set seat))
      → has_seat (with_seats set (seats_of (cond here (seated ∷ filter (sits_at table) players)
      (filter (sits_at table) players)))) seat
      ≡ (is_some (cond (here && (seated.place.seat == seat)) (Some seated)
      (find (sits_in (record { table = table; seat = seat })) players)) || has_seat set seat)
  unfolding is_in seats_of
  one seated players set false there size is others = others set size
  one seated players set true true size is others =
      let put = has_seat-one_more set seated.place.seat seat first (omega (arith, size, last)) in
      let put_true : has_seat (with_seat set seated.place.seat) seat ≡ true = put
      ∙ ap (λ b. b || has_seat set seat) is in
      rw is (others (with_seat set seated.place.seat) (with_seat-size set seated.place.seat ∙ size)
      ∙ (ap (λ b. is_in players || b) put_true ∙ or-true (is_in players)))
  one seated players set true false size is others =
      let put = has_seat-one_more set seated.place.seat seat first (omega (arith, size, last)) in
      let put_as : has_seat (with_seat set seated.place.seat) seat ≡ has_seat set seat = put
      ∙ ap (λ b. b || has_seat set seat) is in
      rw is (others (with_seat set seated.place.seat) (with_seat-size set seated.place.seat ∙ size)
      ∙ ap (λ b. is_in players || b) put_as)

  all : (players : List Seated) (set : List Bool) → length set ≡ 10
      → has_seat (with_seats set (seats_of (filter (sits_at table) players))) seat
      ≡ (is_in players || has_seat set seat)
  unfolding is_in seats_of
  all [] set size = refl
  all (seated ∷ players) set size =
      one seated players set (sits_at table seated) (seated.place.seat == seat) size refl (all players)

  -- A seat of a table is taken exactly where somebody sits in it.
  pub has_seat-taken : (players : List Seated)
      → has_seat (taken_seats players table) seat ≡ is_some (player_at players (record { table = table; seat = seat }))
  unfolding is_in seats_of
  has_seat-taken players = all players no_seats refl
      ∙ (ap (λ b. is_in players || b) (no_seats-none seat) ∙ or-false (is_in players))
