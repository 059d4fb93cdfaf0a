-- The checks of a balance and of a break, a group at a time.
use Rattle.std.proofs.Common.{◌≡◌, ◌∙◌, sym, ℕ, Bool, List, ◌++◌}
use Rattle.std.specs.Prelude.{Option, Some, None, Result, Ok, Err}
use Rattle.rulebook.specs.Checks.{first_that_holds, IsChecked}
use Rattle.rulebook.proofs.Checks.{first_that_holds-later, first_that_holds-sooner}
use Rattle.floor_text.specs.declared.refusal.Refusal.{Refusal}
use Rattle.seat_book.specs.Seatings.{Seating}
use Rattle.balance_rule.specs.declared.balance.Move.{Move}
use Rattle.balance_rule.specs.Balance.{balance_checks, balance_move}

-- Of three groups the first has the first check that holds, where one of it holds.
pub found_first : {A : Type 0} (front own rest : List (A × Bool)) (found : A) → first_that_holds front ≡ Some found
    → first_that_holds (front ++ own ++ rest) ≡ Some found
found_first front own rest found is =
    first_that_holds-sooner (front ++ own) rest found (first_that_holds-sooner front own found is)

-- Of three groups the second has the first check that holds, where none of the first group does.
pub found_second : {A : Type 0} (front own rest : List (A × Bool)) (found : A) → first_that_holds front ≡ None
    → first_that_holds own ≡ Some found → first_that_holds (front ++ own ++ rest) ≡ Some found
found_second front own rest found none is =
    first_that_holds-sooner (front ++ own) rest found (first_that_holds-later front own none ∙ is)

-- Where none of the first two groups holds, it is the third that answers.
pub found_third : {A : Type 0} (front own rest : List (A × Bool)) (answer : Option A) → first_that_holds front ≡ None
    → first_that_holds own ≡ None → first_that_holds rest ≡ answer → first_that_holds (front ++ own ++ rest) ≡ answer
found_third front own rest answer none no_own is =
    first_that_holds-later (front ++ own) rest (first_that_holds-later front own none ∙ no_own) ∙ is

-- The checks of the same balance answer the same.
pub balance_read : (seats seating : Seating) (from other to another : ℕ) (answer : Option Refusal) → seats ≡ seating
    → from ≡ other → to ≡ another → first_that_holds (balance_checks seats from to) ≡ answer
    → first_that_holds (balance_checks seating other another) ≡ answer
balance_read seats seating from other to another answer seen from_is to_is is =
    sym (λ i. first_that_holds (balance_checks (seen i) (from_is i) (to_is i))) ∙ is

-- The same balance has the same move.
pub move_read : (seats seating : Seating) (from other to another : ℕ) (order : Move) → seats ≡ seating
    → from ≡ other → to ≡ another → balance_move seats from to ≡ Some order
    → balance_move seating other another ≡ Some order
move_read seats seating from other to another order seen from_is to_is is =
    sym (λ i. balance_move (seen i) (from_is i) (to_is i)) ∙ is

-- Where none of the first two groups holds, who made the checks of the third gives the answer.
pub found_rest : {A T : Type 0} (front own rest : List (A × Bool)) (result : Result T A)
    → first_that_holds front ≡ None → first_that_holds own ≡ None → IsChecked rest result
    → IsChecked (front ++ own ++ rest) result
found_rest front own rest (Ok value) none no_own is = found_third front own rest None none no_own is
found_rest front own rest (Err found) none no_own is = found_third front own rest (Some found) none no_own is
