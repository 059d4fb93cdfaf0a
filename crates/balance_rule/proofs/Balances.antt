-- What a lawful balance does to the counts of the tables.
use Rattle.std.proofs.Common.{◌≡◌, ◌∙◌, refl, sym, ap, ℕ, ◌+◌, ◌≤◌, ◌≢◌, Bool, true, false, cond, ◌==◌, List, [], ◌∷◌, Option, None, Some, arith}
use Rattle.std.specs.Prelude.{not, count_by, nat_lt}
use Rattle.std.specs.List.{list_all}
use Rattle.std.proofs.lemmas.Bool.{and_parts, eqb-true, ltb-false}
use Rattle.std.proofs.lemmas.Bool.Decides.{nat_tests}
use Rattle.std.proofs.lemmas.List.Sums.{sum_by-insert}
use Rattle.floor_text.specs.declared.refusal.Refusal.TheVariants.{NotFullest, NotShortest, EvenEnough}
use Rattle.rulebook.specs.Checks.{first_that_holds}
use Rattle.rulebook.proofs.Tests.{count_by-cons, find-passes}
use Rattle.seat_book.specs.declared.place.Place.{Place}
use Rattle.seat_book.specs.declared.seated.Seated.{Seated}
use Rattle.seat_book.specs.Places.{comes_before, IsTableOf}
use Rattle.seat_book.specs.Players.{sits_at, sits_in, is_numbered, player_of, sit_down, lifted, are_apart}
use Rattle.seat_book.specs.Counts.{count_at, is_open, greatest_count, least_count}
use Rattle.seat_book.specs.Seatings.{Seating, IsSeating, is_race_pending, is_round_open}
use Rattle.rulebook.proofs.Passing.{filter-all}
use Rattle.balance_rule.specs.declared.balance.Move.{Move}
use Rattle.balance_rule.specs.EmptySeats.{worst_empty_seat}
use Rattle.balance_rule.specs.Balance.{next_big_seat, next_big_player, move_to, balance_move, balance_checks, reseated, after_move}
use Rattle.balance_rule.specs.Moves.{Balance, IsLawfulMove, IsFreeTable}
use Rattle.balance_rule.proofs.Movers.{found-numbered, found-place}
use Rattle.balance_rule.proofs.Extremes.{greatest-above, least-below}

-- one at a table, and nobody at any other
abbrev one_at : Place → ℕ → ℕ
one_at place table = cond (place.table == table) 1 0

-- who sits down counts at his table
count-down : (seated : Seated) (players : List Seated) (table : ℕ)
    → count_at (sit_down seated players) table ≡ count_at players table + one_at seated.place table
count-down seated players table = sum_by-insert (λ other. cond {A = ℕ} (sits_at table other) 1 0) players
    (count_by (λ other. comes_before other.place seated.place) players) seated

-- who is lifted no longer counts
count-lifted : (number : ℕ) (seated : Seated) (players : List Seated) (table : ℕ) → are_apart players ≡ true
    → player_of players number ≡ Some seated
    → count_at (lifted number players) table + one_at seated.place table ≡ count_at players table
count-lifted number seated [] table apart is = absurd cc
count-lifted number seated (first ∷ players) table apart is =
    let parts = and_parts (list_all (λ other. not (is_numbered first.player other)) players)
    (are_apart players) apart in
    by_number (is_numbered number first) refl parts.0
    (λ found. count-lifted number seated players table parts.1 found)
  where
    by_number : (b : Bool) → is_numbered number first ≡ b
        → list_all (λ other. not (is_numbered first.player other)) players ≡ true
        → (player_of players number ≡ Some seated
        → count_at (lifted number players) table + one_at seated.place table ≡ count_at players table)
        → count_at (cond (not b) (first ∷ lifted number players) (lifted number players)) table
        + one_at seated.place table ≡ count_at (first ∷ players) table
    by_number true here others later =
        let found : Some first ≡ Some seated = rw here at is in
        let same : first ≡ seated = cc in
        let number_is : first.player ≡ number = eqb-true first.player number here in
        let kept : lifted number players ≡ players = filter-all (λ other. not (is_numbered number other)) players
        (ap (λ (n : ℕ). list_all (λ other. not (is_numbered n other)) players) (sym number_is) ∙ others) in
        let whole = count_by-cons (sits_at table) first players in
        let one : one_at seated.place table ≡ one_at first.place table =
        ap (λ (s : Seated). one_at s.place table) (sym same) in
        let count = ap (λ (players : List Seated). count_at players table) kept in
        omega (arith, whole, one, count)
    by_number false here others later =
        let found : player_of players number ≡ Some seated = rw here at is in
        let rest = later found in
        let before = count_by-cons (sits_at table) first players in
        let now = count_by-cons (sits_at table) first (lifted number players) in
        omega (arith, rest, before, now)

-- who moves from a table to another, by the balance of the two
record Moves (seating : Seating) (from to : ℕ) (move_ : Move) (seated : Seated) : Type 0 where
  found : player_of seating.players move_.player ≡ Some seated
  left : seated.place.table ≡ from
  taken : move_.to.table ≡ to

mover : (seating : Seating) (from to : ℕ) (move_ : Move) → IsSeating seating → balance_move seating from to ≡ Some move_
    → (seated : Seated) × Moves seating from to move_ seated
mover seating from to move_ lawful is =
    by_parts (next_big_player seating from) refl (worst_empty_seat seating to)
    is
  where
    by_parts : (found : Option Seated) → next_big_player seating from ≡ found → (seat : Option ℕ)
        → move_to to found seat ≡ Some move_ → (seated : Seated) × Moves seating from to move_ seated
    by_parts None sits seat moves = absurd cc
    by_parts (Some seated) sits None moves = absurd cc
    by_parts (Some seated) sits (Some seat) moves =
        let place : Place = record { table = from; seat = next_big_seat seating from } in
        let carried : Move = record {
          player = seated.player;
          from = seated.place;
          to =
              record { table = to; seat = seat };
        } in
        let same : carried ≡ move_ = cc in
        let number : move_.player ≡ seated.player = ap (λ (move_ : Move). move_.player) (sym same) in
        let there = found-place seating.players place seated sits in (
          seated,
          record {
            found = ap (player_of seating.players) number
                ∙ found-numbered (sits_in place) seating.players seated lawful.apart sits;
            left = ap (λ (place : Place). place.table) there;
            taken = ap (λ (move_ : Move). move_.to.table) (sym same);
          },
        )

-- the counts after a move
count-after : (seating : Seating) (from to : ℕ) (move_ : Move) (table : ℕ) → IsSeating seating
    → balance_move seating from to ≡ Some move_
    → count_at (after_move move_ seating).players table + cond (from == table) 1 0
    ≡ count_at seating.players table + cond (to == table) 1 0
count-after seating from to move_ table lawful is =
    let moved = mover seating from to move_ lawful is in
    let seated = moved.0 in
    let parts = find-passes (is_numbered move_.player) seating.players seated moved.1.found in
    let number : seated.player ≡ move_.player = eqb-true seated.player move_.player parts in
    let players = ap (λ found. count_at (reseated move_ found seating.players) table) moved.1.found in
    let down = count-down (record seated { place = move_.to }) (lifted seated.player seating.players) table in
    let up = count-lifted seated.player seated seating.players table lawful.apart
    (ap (player_of seating.players) number ∙ moved.1.found) in
    let left : one_at seated.place table ≡ cond (from == table) 1 0 =
    ap (λ (n : ℕ). cond {A = ℕ} (n == table) 1 0) moved.1.left in
    let taken : one_at move_.to table ≡ cond (to == table) 1 0 =
    ap (λ (n : ℕ). cond {A = ℕ} (n == table) 1 0) moved.1.taken in
    omega (arith, players, down, up, left, taken)

module _ (seating : Seating) (from to : ℕ) (move_ : Move) (valid : IsSeating seating)
    (lawful : IsLawfulMove seating (Balance from to move_)) where
  differ : from ≢ to
  differ same = let count = ap (count_at seating.players) same in omega (arith, count, lawful.lawful.gap)

  -- The one table has one player fewer after a lawful balance.
  pub gives-one : count_at (after_move move_ seating).players from + 1 ≡ count_at seating.players from
  gives-one =
      let counted = count-after seating from to move_ from valid lawful.lawful.carried in
      let no = differ in
      grind (arith, nat_tests)

  -- The other has one more.
  pub takes-one : count_at (after_move move_ seating).players to ≡ count_at seating.players to + 1
  takes-one =
      let counted = count-after seating from to move_ to valid lawful.lawful.carried in
      let no = differ in
      grind (arith, nat_tests)

  -- Every other table has as many as before.
  pub others-same : (other : ℕ) → other ≢ from → other ≢ to
      → count_at (after_move move_ seating).players other ≡ count_at seating.players other
  others-same other not_from not_to =
      let counted = count-after seating from to move_ other valid lawful.lawful.carried in
      grind (arith, nat_tests)

  -- The other still has no more players than the one.
  pub still-fewer : count_at (after_move move_ seating).players to ≤ count_at (after_move move_ seating).players from
  still-fewer = omega (arith, gives-one, takes-one, lawful.lawful.gap)

  -- No balance of the seating after it goes back.
  pub not-back : (back : Move) → IsLawfulMove (after_move move_ seating) (Balance to from back) → ⊥
  not-back back turned = omega (arith, still-fewer, turned.lawful.gap)

-- what three checks say that do not hold
passed : (here there most least : ℕ)
    → first_that_holds ((NotFullest, nat_lt here most) ∷ (NotShortest, nat_lt least there)
    ∷ (EvenEnough, nat_lt here (there + 2)) ∷ []) ≡ None → (most ≤ here) × (there ≤ least) × (there + 2 ≤ here)
passed here there most least none =
    by_tests (nat_lt here most) refl (nat_lt least there) refl (nat_lt here (there + 2)) refl none
  where
    by_tests : (one : Bool) → nat_lt here most ≡ one → (two : Bool) → nat_lt least there ≡ two → (three : Bool)
        → nat_lt here (there + 2) ≡ three
        → first_that_holds ((NotFullest, one) ∷ (NotShortest, two) ∷ (EvenEnough, three) ∷ []) ≡ None
        → (most ≤ here) × (there ≤ least) × (there + 2 ≤ here)
    by_tests true one_is two two_is three three_is none = absurd cc
    by_tests false one_is true two_is three three_is none = absurd cc
    by_tests false one_is false two_is true three_is none = absurd cc
    by_tests false one_is false two_is false three_is none =
        (ltb-false here most one_is, ltb-false least there two_is, ltb-false here (there + 2) three_is)

-- Two open tables that pass the checks of a balance, of which the one is not playing, are balanced lawfully.
pub checked-lawful : (seating : Seating) (from to : ℕ) (move_ : Move) → is_race_pending seating ≡ false
    → is_round_open seating ≡ false → IsFreeTable seating from → IsTableOf seating.table_count to
    → is_open seating.players to ≡ true → first_that_holds (balance_checks seating from to) ≡ None
    → balance_move seating from to ≡ Some move_ → IsLawfulMove seating (Balance from to move_)
checked-lawful seating from to move_ no_race no_round free number opened none is =
    let pass = passed (count_at seating.players from) (count_at seating.players to)
    (greatest_count seating.table_count seating.players) (least_count seating.table_count seating.players) none in
    record {
      no_race = no_race;
      no_round = no_round;
      lawful = record {
        free = free;
        fullest = λ other at some. let above = greatest-above seating.table_count other seating.players at some in
            omega (arith, above, pass.0);
        number = number;
        opened = opened;
        fewest = λ other at some. let below = least-below seating.table_count other seating.players at some in
            omega (arith, below, pass.1);
        gap = pass.2;
        carried = is;
      };
    }
