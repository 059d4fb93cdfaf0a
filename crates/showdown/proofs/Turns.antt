-- The seats of a set in turn.
use Rattle.std.proofs.Common.{◌≡◌, ◌∙◌, ℕ, zero, suc, ◌+◌, ◌-◌, ◌<◌, ◌≤◌, List, [], ◌∷◌, ◌++◌, Bool, true, false, length, append_assoc, refl, sym, arith}
use Rattle.std.specs.Prelude.{filter}
use Rattle.std.specs.List.{list_all}
use Rattle.std.proofs.lemmas.Bool.{and_from}
use Rattle.std.proofs.lemmas.Bool.Decides.{nat_tests}
use Rattle.rulebook.specs.Seats.{seat_after, walk, clockwise_after}
use Rattle.rulebook.proofs.Passing.{find-none, none-filter}
use Rattle.rulebook.proofs.Tests.{list_all-kept}
use Rattle.rulebook.proofs.Walks.{walk-next}
use Rattle.button_blinds.specs.SeatSets.{has_seat}
use Rattle.button_blinds.proofs.Distances.{IsSeat, found-reached, most_steps}
use Rattle.showdown.specs.Awards.{is_seat, in_turn}

-- The next seat of the walk is one of the set: it comes next.
pub turn-yes : (set : List Bool) (seats steps taken seat : ℕ) (order : List ℕ) → taken < steps
    → has_seat set (seat_after seats seat) ≡ true
    → (order ++ seat_after seats seat ∷ []) ++ filter (has_seat set)
    (walk (seat_after seats) (steps - (taken + 1)) (seat_after seats seat)) ≡ order ++ filter (has_seat set)
    (walk (seat_after seats) (steps - taken) seat)
turn-yes set seats steps taken seat order within is =
    append_assoc order (seat_after seats seat ∷ [])
    (filter (has_seat set) (walk (seat_after seats) (steps - (taken + 1)) (seat_after seats seat)))
    ∙ sym (rw (walk-next (seat_after seats) steps taken seat within, is))

-- The next seat of the walk is not one of the set.
pub turn-no : (set : List Bool) (seats steps taken seat : ℕ) (order : List ℕ) → taken < steps
    → has_seat set (seat_after seats seat) ≡ false
    → order ++ filter (has_seat set) (walk (seat_after seats) (steps - (taken + 1)) (seat_after seats seat))
    ≡ order ++ filter (has_seat set) (walk (seat_after seats) (steps - taken) seat)
turn-no set seats steps taken seat order within is = sym (rw (walk-next (seat_after seats) steps taken seat within, is))

next-is_seat : (seats seat : ℕ) → 1 ≤ seats → seats ≤ 10 → is_seat (seat_after seats seat) ≡ true
next-is_seat seats seat some most = grind (arith, nat_tests)

walked-seats : (seats steps seat : ℕ) → 1 ≤ seats → seats ≤ 10
    → list_all is_seat (walk (seat_after seats) steps seat) ≡ true
walked-seats seats zero seat some most = refl
walked-seats seats (suc steps) seat some most =
    and_from (is_seat (seat_after seats seat))
    (list_all is_seat (walk (seat_after seats) steps (seat_after seats seat)))
    (next-is_seat seats seat some most) (walked-seats seats steps (seat_after seats seat) some most)

-- The seats in turn are seats of tables.
pub in_turn-seats : (set : List Bool) (seats button : ℕ) → 1 ≤ seats → seats ≤ 10
    → list_all is_seat (in_turn seats button set) ≡ true
in_turn-seats set seats button some most =
    list_all-kept is_seat (has_seat set) (clockwise_after seats button) (walked-seats seats seats button some most)

some-length : (items : List ℕ) → (items ≡ [] → ⊥) → 1 ≤ length items
some-length [] some = absurd (some refl)
some-length (item ∷ more) some = omega arith

-- Where a seat of the table is in the set, somebody has a turn.
pub in_turn-some : (set : List Bool) (seats button seat : ℕ) → IsSeat seats button → IsSeat seats seat
    → has_seat set seat ≡ true → 1 ≤ length (in_turn seats button set)
in_turn-some set seats button seat at there is =
    some-length (in_turn seats button set)
    (λ none. found-reached (has_seat set) seats seats button seat at there is
    (most_steps seats button seat at.0 at.1 there.0 there.1)
    (find-none (has_seat set) (clockwise_after seats button)
    (none-filter (has_seat set) (clockwise_after seats button) none)))
