-- A lawful balance lowers the sum of the squares of the tables' counts.
use Rattle.std.proofs.Common.{◌≡◌, ◌≢◌, ◌∙◌, refl, sym, ap, subst, ℕ, zero, suc, ◌+◌, ◌*◌, ◌<◌, ◌≤◌, true, false, cond, List, [], ◌∷◌, length, inl, inr, arith}
use Rattle.std.specs.Prelude.{◌==◌, sum_by}
use Rattle.std.proofs.Math.Nat.{mul-suc, suc-mul}
use Rattle.std.proofs.lemmas.Bool.{cases_eq}
use Rattle.std.proofs.lemmas.Bool.Decides.{nat_tests}
use Rattle.std.proofs.lemmas.List.Sums.{sum_by-cons}
use Rattle.std.proofs.lemmas.Nat.{mul-le}
use Rattle.rulebook.specs.Seats.{walk}
use Rattle.rulebook.proofs.Tests.{sum_by-plus}
use Rattle.rulebook.proofs.Walks.{length-walk}
use Rattle.button_blinds.proofs.SeatSetLaws.{seat_count-most}
use Rattle.seat_book.specs.Players.{taken_seats}
use Rattle.seat_book.proofs.TakenSeats.{seats_of_places, taken_count-seating, taken_within}
use Rattle.seat_book.specs.Counts.{count_at, table_numbers}
use Rattle.seat_book.specs.Seatings.{Seating, IsSeating}
use Rattle.balance_rule.specs.declared.balance.Move.{Move}
use Rattle.balance_rule.specs.Balance.{after_move}
use Rattle.balance_rule.specs.Moves.{Balance, IsLawfulMove}
use Rattle.balance_rule.proofs.Balances.{gives-one, takes-one, others-same}
use Rattle.floor_director.specs.Spread.{AreBalances, Balancing, count_squared, spread}

-- An amount at one table alone.
abbrev pub at_one : ℕ → ℕ → ℕ → ℕ
at_one table amount other = cond (table == other) amount 0

-- A walk beyond a table has nothing of what is at it alone.
pub sum-beyond : (table amount steps from : ℕ) → table ≤ from → sum_by (at_one table amount) (walk suc steps from) ≡ 0
sum-beyond table amount zero from low = refl
sum-beyond table amount (suc steps) from low =
    let first = sum_by-cons (at_one table amount) (suc from) (walk suc steps (suc from)) in
    let rest = sum-beyond table amount steps (suc from) (omega (arith, low)) in
    let here : at_one table amount (suc from) ≡ 0 = beyond table amount (suc from) (omega (arith, low)) in
    omega (arith, first, rest, here)
  where
    beyond : (table amount other : ℕ) → table < other → at_one table amount other ≡ 0
    beyond table amount other low = let fails : (table == other) ≡ false = grind (arith, nat_tests) in rw fails refl

-- A walk over a table has what is at it alone.
pub sum-at_one : (table amount steps from : ℕ) → from < table → table ≤ from + steps
    → sum_by (at_one table amount) (walk suc steps from) ≡ amount
sum-at_one table amount zero from above within = absurd (omega (arith, above, within))
sum-at_one table amount (suc steps) from above within =
    let first = sum_by-cons (at_one table amount) (suc from) (walk suc steps (suc from)) in
    elim (cases_eq table (suc from)) [
      | inl here ↦
          let rest = sum-beyond table amount steps (suc from) (omega (arith, here)) in
          let whole = at_it table amount (suc from) here in
          omega (arith, first, rest, whole)
      | inr differs ↦
          let rest = sum-at_one table amount steps (suc from) (omega (arith, differs, above)) (omega (arith, within)) in
          let none = elsewhere table amount (suc from) differs in
          omega (arith, first, rest, none)
    ]
  where
    at_it : (table amount other : ℕ) → table ≡ other → at_one table amount other ≡ amount
    at_it table amount other same = let passes : (table == other) ≡ true = grind (arith, nat_tests) in rw passes refl

    elsewhere : (table amount other : ℕ) → table ≢ other → at_one table amount other ≡ 0
    elsewhere table amount other differs =
        let fails : (table == other) ≡ false = grind (arith, nat_tests) in rw fails refl

square-next : (n : ℕ) → suc n * suc n ≡ n * n + (n + suc n)
square-next n = let one = suc-mul n (suc n) in let two = mul-suc n n in omega (arith, one, two)

-- a square of a number that is one more than another
square-more : (more less : ℕ) → more ≡ less + 1 → more * more ≡ less * less + (less + more)
square-more more less is =
    let next : more ≡ suc less = omega (arith, is) in
    ap (λ (n : ℕ). n * n) next ∙ (square-next less ∙ ap (λ (n : ℕ). less * less + (less + n)) (sym next))

-- what the squares of the counts are after a balance, at one table
squares_at : (from to table : ℕ) (before after : ℕ → ℕ) → from ≢ to → before from ≡ after from + 1
    → after to ≡ before to + 1 → ((other : ℕ) → other ≢ from → other ≢ to → after other ≡ before other)
    → after table * after table + at_one from (after from + before from) table
    ≡ before table * before table + at_one to (before to + after to) table
squares_at from to table before after apart fewer more same = elim (cases_eq from table) [
  | inl here ↦
      let not_to : (to == table) ≡ false = grind (arith, nat_tests) in
      let at_from : (from == table) ≡ true = grind (arith, nat_tests) in
      let square = square-more (before from) (after from) fewer in
      let sum : after from * after from + (after from + before from) ≡ before from * before from + 0 =
      omega (arith, square) in
      rw (not_to, at_from) (subst (λ (t : ℕ). after t * after t + (after from + before from)
      ≡ before t * before t + 0) here sum)
  | inr not_from ↦
      let at_from : (from == table) ≡ false = grind (arith, nat_tests) in
      elim (cases_eq to table) [
        | inl here ↦
            let at_to : (to == table) ≡ true = grind (arith, nat_tests) in
            let square = square-more (after to) (before to) more in
            let sum : after to * after to + 0 ≡ before to * before to + (before to + after to) =
            omega (arith, square) in
            rw (at_from, at_to) (subst (λ (t : ℕ). after t * after t + 0
            ≡ before t * before t + (before to + after to)) here sum)
        | inr not_to ↦
            let at_to : (to == table) ≡ false = grind (arith, nat_tests) in
            let unchanged = same table (λ is. not_from (sym is)) (λ is. not_to (sym is)) in
            rw (at_from, at_to) (ap (λ (n : ℕ). n * n + 0) unchanged)
      ]
]

-- A lawful balance lowers the sum by two or more.
pub spread-narrows : (seating : Seating) (from to : ℕ) (move_ : Move) → IsSeating seating
    → IsLawfulMove seating (Balance from to move_) → spread (after_move move_ seating) + 2 ≤ spread seating
unfolding spread
spread-narrows seating from to move_ valid lawful =
    let before : ℕ → ℕ = count_at seating.players in
    let after : ℕ → ℕ = count_at (after_move move_ seating).players in
    let own = lawful.lawful in
    let tables = seating.table_count in
    let all = table_numbers tables in
    let gone = gives-one seating from to move_ valid lawful in
    let come = takes-one seating from to move_ valid lawful in
    let apart : from ≢ to = λ same. let level = ap before same in
    let far = own.gap in
    omega (arith, level, far) in
    let one = sum_by-plus (λ table. after table * after table) (at_one from (after from + before from))
    (λ table. before table * before table + at_one to (before to + after to) table) all
    (λ table. squares_at from to table before after apart (sym gone) come
    (others-same seating from to move_ valid lawful)) in
    let other = sum_by-plus (λ table. before table * before table) (at_one to (before to + after to))
    (λ table. before table * before table + at_one to (before to + after to) table) all (λ table. refl) in
    let low = own.free.number.first in
    let low_to = own.number.first in
    let first = sum-at_one from (after from + before from) tables 0 (omega (arith, low))
    (let last = own.free.number.last in omega (arith, last)) in
    let second = sum-at_one to (before to + after to) tables 0 (omega (arith, low_to))
    (let last = own.number.last in omega (arith, last)) in
    let gap = own.gap in
    omega (arith, one, other, first, second, gap, gone, come)

-- As many lawful balances follow one another as half the sum, and no more.
pub balances-end : (seating : Seating) (balances : List Balancing) → AreBalances seating balances
    → 2 * length balances ≤ spread seating
balances-end seating [] are = omega arith
balances-end seating (one ∷ more) are =
    let step = spread-narrows seating one.from one.to one.carried are.0 are.1.0 in
    let rest = balances-end (after_move one.carried seating) more are.1.1 in
    omega (arith, step, rest)

module _ (seating : Seating) (valid : IsSeating seating) where
  -- a table has no more players than seats
  count-few : (table : ℕ) → count_at seating.players table ≤ seating.seat_count
  count-few table =
      let seats = taken_within seating.seat_count table seating.players
      (seats_of_places seating.table_count seating.seat_count seating.seat_count seating.players (omega arith)
      valid.within) in
      let few = seat_count-most (taken_seats seating.players table) seating.seat_count seats in
      let counted = taken_count-seating seating table valid in
      omega (arith, few, counted)

  square-few : (table : ℕ) → count_squared seating table ≤ 100
  square-few table =
      let few = count-few table in
      let most = valid.most_seats in
      mul-le (count_at seating.players table) (count_at seating.players table) 10 10 (omega (arith, few, most))
      (omega (arith, few, most))

  squares-few : (tables : List ℕ) → sum_by (count_squared seating) tables ≤ 100 * length tables
  squares-few [] = omega arith
  squares-few (table ∷ tables) =
      let first = sum_by-cons (count_squared seating) table tables in
      let one = square-few table in
      let rest = squares-few tables in
      omega (arith, first, one, rest)

  -- The sum of the squares is at most that of 64 tables of ten.
  pub spread-few : spread seating ≤ 6400
  unfolding spread
  spread-few =
      let few = squares-few (table_numbers seating.table_count) in
      let many = length-walk seating.table_count 0 in
      let most = valid.most_tables in
      omega (arith, few, many, most)
