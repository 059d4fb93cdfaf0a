-- The search through people who are listed in rising seat is the walk round the table.
use Rattle.std.proofs.Common.{◌≡◌, ◌∙◌, ℕ, zero, suc, ◌+◌, ◌-◌, ◌≤◌, ◌<◌, List, [], ◌∷◌, Bool, true, false, cond, Option, Some, None, map, refl, ap, sym, inl, inr, arith}
use Rattle.std.specs.Prelude.{◌&&◌, ◌==◌, not, nat_lt, nat_le, find}
use Rattle.std.specs.List.{list_all}
use Rattle.std.specs.Option.{option_or}
use Rattle.std.proofs.lemmas.Bool.{and_parts, cases_lt}
use Rattle.std.proofs.lemmas.Bool.Decides.{nat_tests}
use Rattle.std.proofs.lemmas.List.Folds.{find-append, list_all-map}
use Rattle.rulebook.proofs.OccupiedSeats.{seat_after-below, seat_after-last}
use Rattle.rulebook.proofs.Passing.{find-filter, find-none}
use Rattle.rulebook.proofs.Tests.{list_all-always, list_all-follows}
use Rattle.rulebook.specs.Pairs.{is_pairwise, are_rising}
use Rattle.rulebook.specs.Search.{found_along, are_at_table}
use Rattle.rulebook.specs.Seats.{seat_after, walk, clockwise_after, people_clockwise_after}

-- Tests that agree on people who pass another test find the same among these.
find-alike : {A : Type 0} (one other right : A → Bool) (people : List A)
    → ((person : A) → right person ≡ true → one person ≡ other person) → list_all right people ≡ true
    → find one people ≡ find other people
find-alike one other right [] alike all = refl
find-alike one other right (person ∷ people) alike all =
    let parts = and_parts (right person) (list_all right people) all in
    rw (alike person parts.0) (ap (cond (other person) (Some person)) (find-alike one other right people alike parts.1))

module _ {A : Type 0} (seat_of : A → ℕ) (wanted : A → Bool) where
  -- who is wanted at a seat, and who is wanted at the seats above one up to another
  abbrev at : ℕ → A → Bool
  at seat person = seat_of person == seat && wanted person

  abbrev within : ℕ → ℕ → A → Bool
  within low high person = nat_lt low (seat_of person) && (nat_le (seat_of person) high && wanted person)

  -- nobody is at no seat
  none_within : (seat : ℕ) (people : List A) → find (within seat seat) people ≡ None
  none_within seat people =
      find-none (within seat seat) people
      (list_all-always (λ person. not (within seat seat person)) people (λ person. grind (arith, nat_tests)))

  -- the test of the first of two people, by what it says of him
  first_step : (person : A) (here beyond all : Bool) (here_found beyond_found found : Option A) → here ≡ all
      → beyond ≡ false → option_or here_found beyond_found ≡ found
      → option_or (cond here (Some person) here_found) (cond beyond (Some person) beyond_found)
      ≡ cond all (Some person) found
  first_step person true beyond all here_found beyond_found found same none rest = rw (← same) refl
  first_step person false beyond all here_found beyond_found found same none rest = rw (none, ← same) rest

  -- who is at the first seat, and else beyond it, is the first of all of them, where people are listed in rising seat
  next_seat : (people : List A) (low high : ℕ) → low < high → are_rising (map seat_of people) ≡ true
      → option_or (find (at (low + 1)) people) (find (within (low + 1) high) people) ≡ find (within low high) people
  next_seat [] low high some rising = refl
  next_seat (person ∷ people) low high some rising =
      let parts = and_parts (list_all (nat_lt (seat_of person)) (map seat_of people))
      (is_pairwise nat_lt (map seat_of people)) rising in
      let rest = next_seat people low high some parts.1 in
      elim (cases_lt (low + 1) (seat_of person)) [
        | inl above ↦
            let later : list_all (λ (other : A). nat_lt (seat_of person) (seat_of other)) people ≡ true =
            sym (list_all-map (nat_lt (seat_of person)) seat_of people) ∙ parts.0 in
            let nobody = find-none (at (low + 1)) people
            (list_all-follows (λ (other : A). nat_lt (seat_of person) (seat_of other))
            (λ other. not (at (low + 1) other)) people (λ other right. grind (arith, nat_tests)) later) in
            let here : at (low + 1) person ≡ false = grind (arith, nat_tests) in
            let same : within (low + 1) high person ≡ within low high person = grind (arith, nat_tests) in
            let others = find-alike (within (low + 1) high) (within low high)
            (λ (other : A). nat_lt (seat_of person) (seat_of other)) people
            (λ other right. grind (arith, nat_tests)) later in
            rw (here, nobody, same, others) refl
        | inr below ↦
            let beyond : within (low + 1) high person ≡ false = grind (arith, nat_tests) in
            let here : at (low + 1) person ≡ within low high person = grind (arith, nat_tests) in
            first_step person (at (low + 1) person) (within (low + 1) high person)
            (within low high person) _ _ _ here beyond rest
      ]

  -- a walk that does not pass the last seat finds the first at the seats that it comes to
  found-before_last : (people : List A) (seats steps seat : ℕ) → are_rising (map seat_of people) ≡ true
      → seat + steps ≤ seats
      → found_along seat_of wanted people (walk (seat_after seats) steps seat)
      ≡ find (within seat (seat + steps)) people
  found-before_last people seats zero seat rising short =
      let none = none_within seat people in
      let same : seat + 0 ≡ seat = omega arith in
      rw same (sym none)
  found-before_last people seats (suc steps) seat rising short =
      let next = seat_after-below seats seat (omega arith) in
      let rest = found-before_last people seats steps (seat + 1) rising (omega arith) in
      let far : seat + 1 + steps ≡ seat + suc steps = omega arith in
      let here = next_seat people seat (seat + suc steps) (omega arith) rising in
      rw (next, rest, far) here

  -- a walk from the last seat is a walk from no seat
  from_last : (seats steps : ℕ) → steps ≤ seats → walk (seat_after seats) steps seats ≡ walk (seat_after seats) steps 0
  from_last seats zero short = refl
  from_last seats (suc steps) short =
      let last = seat_after-last seats seats refl in
      let first = seat_after-below seats 0 (omega arith) in
      rw (last, first) refl

  or_joined : (one two three : Option A) → option_or one (option_or two three) ≡ option_or (option_or one two) three
  or_joined None two three = refl
  or_joined (Some person) two three = refl

  -- a walk that passes the last seat finds the first at the seats up to it, and else the first from seat 1 on
  found-round : (people : List A) (seats ahead behind seat : ℕ) → are_rising (map seat_of people) ≡ true
      → seat + ahead ≡ seats → behind ≤ seats
      → found_along seat_of wanted people (walk (seat_after seats) (ahead + behind) seat)
      ≡ option_or (find (within seat seats) people) (find (within 0 behind) people)
  found-round people seats zero behind seat rising there short =
      let at_last : seat ≡ seats = omega arith in
      let steps : 0 + behind ≡ behind = omega arith in
      let rest = found-before_last people seats behind 0 rising (omega arith) in
      let none = none_within seats people in
      let from_seat = ap (λ (n : ℕ). found_along seat_of wanted people (walk (seat_after seats) (0 + behind) n))
      at_last in
      let fewer = ap (λ (n : ℕ). found_along seat_of wanted people (walk (seat_after seats) n seats)) steps in
      let from_none = ap (found_along seat_of wanted people) (from_last seats behind short) in
      let end = ap (λ (n : ℕ). find (within 0 n) people) steps in
      let whole : find (within 0 behind) people ≡ option_or (find (within seats seats) people)
      (find (within 0 behind) people) = rw none refl in
      let here = ap (λ (n : ℕ). option_or (find (within n seats) people) (find (within 0 behind) people))
      (sym at_last) in
      from_seat ∙ fewer ∙ from_none ∙ rest ∙ end ∙ whole ∙ here
  found-round people seats (suc ahead) behind seat rising there short =
      let next = seat_after-below seats seat (omega arith) in
      let steps : suc ahead + behind ≡ suc (ahead + behind) = omega arith in
      let rest = found-round people seats ahead behind (seat + 1) rising (omega arith) short in
      let here = next_seat people seat seats (omega arith) rising in
      rw (
        steps,
        next,
        rest,
        or_joined (find (at (seat + 1)) people) (find (within (seat + 1) seats) people)
            (find (within 0 behind) people),
        here,
      ) refl

  -- the search through the list is the walk round the table
  pub search-walk : (people : List A) (seats seat : ℕ) → seat ≤ seats → are_rising (map seat_of people) ≡ true
      → are_at_table seat_of seats people ≡ true
      → find wanted (people_clockwise_after seat_of people seat) ≡ found_along seat_of wanted people
      (clockwise_after seats seat)
  search-walk people seats seat low rising sit =
      let right : A → Bool = λ person. nat_le 1 (seat_of person) && nat_le (seat_of person) seats in
      let above = find-alike (λ person. nat_lt seat (seat_of person) && wanted person) (within seat seats) right people
      (λ person sits. grind (arith, nat_tests)) sit in
      let others = find-alike (λ person. not (nat_lt seat (seat_of person)) && wanted person)
      (within 0 seat) right people (λ person sits. grind (arith, nat_tests)) sit in
      let steps : seats - seat + seat ≡ seats = omega arith in
      let round = found-round people seats (seats - seat) seat seat rising (omega arith) low in
      let walked = ap (λ (n : ℕ). found_along seat_of wanted people (walk (seat_after seats) n seat)) steps in
      let found : find wanted (people_clockwise_after seat_of people seat) ≡ option_or (find (within seat seats) people)
      (find (within 0 seat) people) =
      rw (
        find-append,
        find-filter (λ person. nat_lt seat (seat_of person)) wanted,
        find-filter (λ person. not (nat_lt seat (seat_of person))) wanted,
        above,
        others,
      ) refl in
      found ∙ sym round ∙ walked
