-- People in rising seat, clockwise from a seat: those from the first who sits behind it, and then those before him.
use Rattle.std.proofs.Common.{◌≡◌, ℕ, suc, ◌+◌, Bool, true, List, [], ◌∷◌, ◌++◌, map, take, drop, refl, ap, sym, inl, inr, arith}
use Rattle.std.specs.Prelude.{filter, nat_lt, not}
use Rattle.std.specs.List.{list_all, position_or_len}
use Rattle.std.proofs.lemmas.Bool.{and_from, and_parts, cases_Bool}
use Rattle.std.proofs.lemmas.Bool.Decides.{nat_tests}
use Rattle.rulebook.specs.Pairs.{are_rising}
use Rattle.rulebook.specs.Seats.{people_clockwise_after}
use Rattle.rulebook.proofs.Passing.{filter-all, filter-none}
use Rattle.rulebook.proofs.Tests.{list_all-follows}

module _ {A : Type 0} (seat_of : A → ℕ) (seat : ℕ) where
  -- Whoever sits in a later seat than one behind it sits behind it.
  later-behind : (low : ℕ) (people : List A) → nat_lt seat low ≡ true
      → list_all (nat_lt low) (map seat_of people) ≡ true
      → list_all (λ person. nat_lt seat (seat_of person)) people ≡ true
  later-behind low [] behind later = refl
  later-behind low (person ∷ people) behind later =
      let parts = and_parts (nat_lt low (seat_of person)) (list_all (nat_lt low) (map seat_of people)) later in
      and_from _ _ (further low (seat_of person) behind parts.0) (later-behind low people behind parts.1)
    where
      further : (low high : ℕ) → nat_lt seat low ≡ true → nat_lt low high ≡ true → nat_lt seat high ≡ true
      further low high one other = grind (arith, nat_tests)

  -- Those from the first who sits behind a seat are all who do, and those before him are the others.
  pub from-behind : (people : List A) → are_rising (map seat_of people) ≡ true
      → (drop (position_or_len (λ person. nat_lt seat (seat_of person)) people) people
      ≡ filter (λ person. nat_lt seat (seat_of person)) people)
      × (take (position_or_len (λ person. nat_lt seat (seat_of person)) people) people
      ≡ filter (λ person. not (nat_lt seat (seat_of person))) people)
  from-behind [] rising = (refl, refl)
  from-behind (person ∷ people) rising =
      let parts = and_parts (list_all (nat_lt (seat_of person)) (map seat_of people)) (are_rising (map seat_of people))
      rising in
      elim (cases_Bool (nat_lt seat (seat_of person))) [
        | inl behind ↦
            let all = later-behind (seat_of person) people behind parts.0 in
            let fails = list_all-follows (λ other. nat_lt seat (seat_of other))
            (λ other. not (not (nat_lt seat (seat_of other)))) people
            (λ other passes. ap (λ (b : Bool). not (not b)) passes) all in
            let whole = filter-all (λ other. nat_lt seat (seat_of other)) people all in
            let none = filter-none (λ other. not (nat_lt seat (seat_of other))) people fails in
            rw behind (ap (λ rest. person ∷ rest) (sym whole), sym none)
        | inr before ↦
            let later = from-behind people parts.1 in
            let count = position_or_len (λ other. nat_lt seat (seat_of other)) people in
            let more : 1 + count ≡ suc count = omega arith in
            rw (before, more) (later.0, ap (λ rest. person ∷ rest) later.1)
      ]

  -- Those from the first who sits behind a seat, and then those before him, are all clockwise from it.
  pub behind-first : (people : List A) → are_rising (map seat_of people) ≡ true
      → drop (position_or_len (λ person. nat_lt seat (seat_of person)) people) people
      ++ take (position_or_len (λ person. nat_lt seat (seat_of person)) people) people
      ≡ people_clockwise_after seat_of people seat
  behind-first people rising = let parts = from-behind people rising in λ i. parts.0 i ++ parts.1 i
