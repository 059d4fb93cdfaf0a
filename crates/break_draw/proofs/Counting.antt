-- Arrays of counts, when one is written.
use Rattle.std.proofs.Common.{◌≡◌, ◌≢◌, ◌∙◌, ap, ℕ, ◌+◌, ◌-◌, ◌<◌, ◌≤◌, ◌==◌, cond, List, [], ◌∷◌, ◌++◌, length, set, get_or, get_or-set_same, get_or-set_other, inl, inr, arith}
use Rattle.std.proofs.lemmas.Bool.{cases_eq}
use Rattle.std.proofs.lemmas.Bool.Decides.{nat_tests}
use Rattle.seat_book.specs.declared.place.Place.{Place}
use Rattle.seat_book.specs.declared.seated.Seated.{Seated}
use Rattle.seat_book.specs.Places.{IsTableOf}
use Rattle.balance_rule.specs.Filling.{count_with}
use Rattle.break_draw.specs.Counting.{HasCounts}
use Rattle.break_draw.proofs.Room.{count_with-more}

-- One more count is written behind those that are there.
pub counted-more : (count : ℕ → ℕ) (counts : List ℕ) (below one at : ℕ) → at ≡ below → one ≡ count (below + 1)
    → below < length counts → ((k : ℕ) → k < below → get_or counts k 0 ≡ count (k + 1))
    → (k : ℕ) → k < below + 1 → get_or (set counts at one) k 0 ≡ count (k + 1)
counted-more count counts below one at at_is one_is within each k less = elim (cases_eq k below) [
  | inl same ↦ rw (at_is, same) (get_or-set_same counts below one 0 within ∙ one_is)
  | inr apart ↦ rw at_is (get_or-set_other counts below k one 0 apart ∙ each k (omega arith))
]

-- What is read of an array of counts is the count of the table.
pub count-read : (tables : ℕ) (players : List Seated) (chosen : List Place) (table at : ℕ) (counts : List ℕ)
    → HasCounts tables (count_with players chosen) counts → IsTableOf tables table → at ≡ table - 1
    → get_or counts at 0 ≡ count_with players chosen table
count-read tables players chosen table at counts has number at_is =
    let here : at + 1 ≡ table = omega (arith, at_is, number.first) in
    has.each at (omega (arith, at_is, number.first, number.last)) ∙ ap (count_with players chosen) here

-- The counts after one more seat is chosen.
pub counts-after : (tables : ℕ) (players : List Seated) (chosen : List Place) (place : Place) (counts : List ℕ) (at : ℕ)
    → HasCounts tables (count_with players chosen) counts → IsTableOf tables place.table → tables ≤ length counts
    → at ≡ place.table - 1
    → HasCounts tables (count_with players (chosen ++ place ∷ [])) (set counts at (get_or counts at 0 + 1))
counts-after tables players chosen place counts at has table size at_is = record {
  each = λ below within. elim (cases_eq below at) [
    | inl same ↦
        let more = count_with-more players chosen place (below + 1) in
        let here = has.each below within in
        let one : cond {A = ℕ} (place.table == below + 1) 1 0 ≡ 1 = is_here below same in
        let written = get_or-set_same counts at (get_or counts at 0 + 1) 0 (omega (arith, size, within, same)) in
        let read = ap (λ (n : ℕ). get_or (set counts at (get_or counts at 0 + 1)) n 0) same in
        let same_read = ap (λ (n : ℕ). get_or counts n 0) same in
        omega (arith, more, here, one, written, read, same_read)
    | inr apart ↦
        let more = count_with-more players chosen place (below + 1) in
        let here = has.each below within in
        let none : cond {A = ℕ} (place.table == below + 1) 1 0 ≡ 0 = not_here below apart in
        let written = get_or-set_other counts at below (get_or counts at 0 + 1) 0 apart in
        omega (arith, more, here, none, written)
  ];
}
  where
    is_here : (below : ℕ) → below ≡ at → cond {A = ℕ} (place.table == below + 1) 1 0 ≡ 1
    is_here below same = let first = table.first in grind (arith, nat_tests)

    not_here : (below : ℕ) → below ≢ at → cond {A = ℕ} (place.table == below + 1) 1 0 ≡ 0
    not_here below apart = let first = table.first in grind (arith, nat_tests)
