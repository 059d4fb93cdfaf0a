-- While there are seats to take, the table that is entered next has an empty seat.
use Rattle.std.proofs.Common.{◌≡◌, ◌≢◌, refl, sym, ap, subst, ℕ, zero, suc, ◌+◌, ◌*◌, ◌<◌, ◌≤◌, true, cond, List, [], ◌∷◌, length, Option, inl, inr, arith}
use Rattle.std.specs.Prelude.{◌==◌, sum_by, unwrap_or}
use Rattle.std.proofs.Math.Nat.{suc-mul}
use Rattle.std.proofs.lemmas.Bool.{cases_eq, cases_lt}
use Rattle.std.proofs.lemmas.Bool.Decides.{nat_tests}
use Rattle.std.proofs.lemmas.List.Sums.{sum_by-cons, sum_by-le}
use Rattle.rulebook.specs.Seats.{walk}
use Rattle.rulebook.proofs.Among.{among-filter}
use Rattle.rulebook.proofs.Tests.{at_most_one, count_by-cons, sum_by-plus}
use Rattle.seat_book.specs.declared.seated.Seated.{Seated}
use Rattle.seat_book.specs.Counts.{count_at, table_numbers}
use Rattle.seat_book.specs.Places.{IsTableOf}
use Rattle.seat_book.specs.Players.{sits_at}
use Rattle.seat_book.specs.Seatings.{Seating}
use Rattle.balance_rule.specs.Filling.{lowest_table}
use Rattle.balance_rule.proofs.Extremes.{among-tables, tables-among}
use Rattle.break_draw.proofs.Room.{lowest-among, lowest-least, lowest-there}
use Rattle.tournament_rules.specs.Books.{BookState}
use Rattle.tournament_rules.specs.Valid.{IsValid}
use Rattle.tournament_rules.proofs.InOrBust.{all-counted}
use Rattle.simulation_rules.specs.Entrants.{entrants, table_to_enter}

-- one at a table, and none at any other
abbrev one_at : ℕ → ℕ → ℕ
one_at table other = cond (table == other) 1 0

elsewhere : (table other : ℕ) → table ≢ other → one_at table other ≡ 0
elsewhere table other differ = grind (arith, nat_tests)

-- a walk beyond a table does not come to it
one-beyond : (table steps from : ℕ) → table ≤ from → sum_by (one_at table) (walk suc steps from) ≡ 0
one-beyond table zero from low = refl
one-beyond table (suc steps) from low =
    let first = sum_by-cons (one_at table) (suc from) (walk suc steps (suc from)) in
    let rest = one-beyond table steps (suc from) (omega (arith, low)) in
    let here = elsewhere table (suc from) (λ same. omega (arith, low, same)) in
    omega (arith, first, rest, here)

-- a walk comes to a table once at most
one-once : (table steps from : ℕ) → sum_by (one_at table) (walk suc steps from) ≤ 1
one-once table zero from = omega arith
one-once table (suc steps) from =
    let first = sum_by-cons (one_at table) (suc from) (walk suc steps (suc from)) in
    elim (cases_eq table (suc from)) [
      | inl same ↦
          let rest = one-beyond table steps (suc from) (omega (arith, same)) in
          let here : one_at table (suc from) ≤ 1 = at_most_one (table == suc from) in
          omega (arith, first, rest, here)
      | inr differ ↦
          let rest = one-once table steps (suc from) in
          let here = elsewhere table (suc from) differ in
          omega (arith, first, rest, here)
    ]

-- The counts of all tables sum to no more than there are players.
pub counts-few : (players : List Seated) (tables : ℕ)
    → sum_by (count_at players) (table_numbers tables) ≤ length players
counts-few [] tables =
    let few = sum_by-le (count_at []) 0 (table_numbers tables) (λ k d within. omega arith) in
    omega (arith, few)
counts-few (player ∷ players) tables =
    let whole = sum_by-plus (one_at player.place.table) (count_at players) (count_at (player ∷ players))
    (table_numbers tables) (λ table. sym (count_by-cons (sits_at table) player players)) in
    let his = one-once player.place.table tables 0 in
    let others = counts-few players tables in
    omega (arith, whole, his, others)

-- what each number of a walk has at least, all have so many times
sum-least : (value : ℕ → ℕ) (least steps from : ℕ)
    → ((number : ℕ) → from < number → number ≤ from + steps → least ≤ value number)
    → steps * least ≤ sum_by value (walk suc steps from)
sum-least value least zero from each = omega arith
sum-least value least (suc steps) from each =
    let first = sum_by-cons value (suc from) (walk suc steps (suc from)) in
    let one = each (suc from) (omega arith) (omega arith) in
    let rest = sum-least value least steps (suc from)
    (λ number above within. each number (omega (arith, above)) (omega (arith, within))) in
    let more = suc-mul steps least in
    omega (arith, first, one, rest, more)

-- What the table that is entered next is: no table has fewer players.
pub record IsEnteredNext (seating : Seating) (table : ℕ) : Type 0 where
  pub there : IsTableOf seating.table_count table
  pub least : (other : ℕ) → IsTableOf seating.table_count other
      → count_at seating.players table ≤ count_at seating.players other

-- The table that is entered next is one of the tables, and none has fewer players.
pub entered_next : (seating : Seating) → 1 ≤ seating.table_count → IsEnteredNext seating (table_to_enter seating)
unfolding table_to_enter
entered_next seating some =
    let count = count_at seating.players in
    let tables = table_numbers seating.table_count in
    let first : IsTableOf seating.table_count 1 = record { first = omega arith; last = some } in
    let lowest = lowest-there count tables 1 (among-tables seating.table_count 1 first) in
    let is : unwrap_or (lowest_table count tables) 1 ≡ lowest.0 =
    ap (λ (found : Option ℕ). unwrap_or found 1) lowest.1 in
    subst (IsEnteredNext seating) (sym is) (record {
      there = (tables-among (λ other. true) seating.table_count lowest.0
          (among-filter (λ other. true) lowest.0 tables refl (lowest-among count tables lowest.0 lowest.1))).1;
      least = λ other at. lowest-least count tables lowest.0 other lowest.1 (among-tables seating.table_count other at);
    })

-- While there are seats to take, the table that is entered next has an empty seat.
pub table_has_room : (book : BookState) → IsValid book → length book.entries < entrants book.plan
    → count_at book.seating.players (table_to_enter book.seating) < book.seating.seat_count
table_has_room book valid few =
    let players = book.seating.players in
    let table = table_to_enter book.seating in
    let next = entered_next book.seating valid.tables.lawful.some_tables in
    elim (cases_lt (count_at players table) book.seating.seat_count) [
      | inl less ↦ less
      | inr full ↦
          let sum = sum-least (count_at players) book.seating.seat_count book.seating.table_count 0
          (λ number above within. let least = next.least number
          (record { first = omega (arith, above); last = omega (arith, within) }) in omega (arith, least, full)) in
          let all = counts-few players book.seating.table_count in
          let who = all-counted book.entries players book.busts valid.entries.once in
          let seats : book.seating.table_count * book.seating.seat_count ≡ entrants book.plan =
          λ i. valid.tables.tables i * valid.tables.seats i in
          absurd (omega (arith, sum, all, who, seats, few))
    ]
