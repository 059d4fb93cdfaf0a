-- The order of the deal: who comes before whom, and how many there are.
use Rattle.std.proofs.Common.{◌≡◌, ◌∙◌, ℕ, zero, suc, ◌+◌, ◌-◌, ◌<◌, ◌≤◌, Bool, true, false, List, [], ◌∷◌, ◌++◌, length, map, refl, ap, sym, arith}
use Rattle.std.specs.Prelude.{◌==◌, not, filter, slice_index_or, cond}
use Rattle.std.specs.List.{list_all}
use Rattle.std.proofs.lemmas.Bool.{and_parts, agree_below, agree_below_at}
use Rattle.std.proofs.lemmas.Bool.Decides.{nat_tests}
use Rattle.std.proofs.lemmas.List.{length-append}
use Rattle.std.proofs.lemmas.List.Elements.{filter-append}
use Rattle.std.proofs.lemmas.List.Sums.{sum_by-cons}
use Rattle.rulebook.specs.Seats.{clockwise_after, seat_after, walk}
use Rattle.rulebook.specs.Pairs.{are_distinct}
use Rattle.rulebook.proofs.OccupiedSeats.{seat_after-below, seat_after-last}
use Rattle.rulebook.proofs.Walks.{walk-next}
use Rattle.rulebook.proofs.Pairs.{is_pairwise-kept}
use Rattle.button_blinds.specs.SeatSets.{AreSeatsOf, has_seat, seat_count}
use Rattle.deal_order.specs.DealOrder.{count_up, dealt_in_order, index_in}

-- The next seat of a walk, where it is dealt in and another than the one looked for.
pub index-passed : (dealt : ℕ → Bool) (step : ℕ → ℕ) (steps taken next seat : ℕ) → taken < steps
    → dealt (step next) ≡ true → (step next == seat) ≡ false
    → index_in seat (filter dealt (walk step (steps - taken) next))
    ≡ index_in seat (filter dealt (walk step (steps - (taken + 1)) (step next))) + 1
index-passed dealt step steps taken next seat within sits other =
    rw (walk-next step steps taken next within, sits, other)

-- The next seat of a walk, where it is not dealt in.
pub index-empty : (dealt : ℕ → Bool) (step : ℕ → ℕ) (steps taken next seat : ℕ) → taken < steps
    → dealt (step next) ≡ false
    → index_in seat (filter dealt (walk step (steps - taken) next))
    ≡ index_in seat (filter dealt (walk step (steps - (taken + 1)) (step next)))
index-empty dealt step steps taken next seat within nobody = rw (walk-next step steps taken next within, nobody)

-- A test that each number passes.
abbrev pub always : ℕ → Bool
always k = true

-- No seat comes twice in a walk round a table.
distinct-checked : agree_below
    (λ seats. agree_below (λ button. are_distinct (λ one other. one == other) (clockwise_after seats button)) always 11)
    always 11 ≡ true
distinct-checked = refl

-- No seat comes twice in a walk round a table.
clockwise-distinct : (seats button : ℕ) → seats ≤ 10 → button ≤ seats
    → are_distinct (λ one other. one == other) (clockwise_after seats button) ≡ true
clockwise-distinct seats button most at =
    agree_below_at (λ b. are_distinct (λ one other. one == other) (clockwise_after seats b)) always 11 button
    (agree_below_at
    (λ s. agree_below (λ b. are_distinct (λ one other. one == other) (clockwise_after s b)) always 11) always 11 seats
    distinct-checked (omega arith))
    (omega arith)

-- A place, from the number of the round's first place, for each seat of a list that comes after another seat.
later-places : (first : ℕ) (before : ℕ) (seats rest : List ℕ) → list_all (λ other. not (before == other)) rest ≡ true
    → map (λ seat. first + index_in seat (before ∷ seats)) rest ≡ map (λ seat. first + 1 + index_in seat seats) rest
later-places first before seats [] apart = refl
later-places first before seats (seat ∷ rest) apart =
    let both = and_parts (not (before == seat)) (list_all (λ other. not (before == other)) rest) apart in
    let other : (before == seat) ≡ false = grind (arith, nat_tests) in
    let here : first + (index_in seat seats + 1) ≡ first + 1 + index_in seat seats = omega arith in
    let later = later-places first before seats rest both.1 in
    rw (other, here, later)

-- Distinct seats have the places from the first on, one after another.
pub places-count_up : (first : ℕ) (seats : List ℕ) → are_distinct (λ one other. one == other) seats ≡ true
    → map (λ seat. first + index_in seat seats) seats ≡ count_up first (length seats)
places-count_up first [] distinct = refl
places-count_up first (seat ∷ seats) distinct =
    let both = and_parts (list_all (λ other. not (seat == other)) seats)
    (are_distinct (λ one other. one == other) seats) distinct in
    let same : (seat == seat) ≡ true = grind (arith, nat_tests) in
    let here : first + 0 ≡ first = omega arith in
    let later = later-places first seat seats seats both.0 ∙ places-count_up (first + 1) seats both.1 in
    rw (same, here, later)

-- A walk that stays below the last seat counts up.
walk-up : (seats steps from : ℕ) → from + steps ≤ seats → walk (seat_after seats) steps from ≡ count_up (from + 1) steps
walk-up seats zero from within = refl
walk-up seats (suc steps) from within =
    let next = seat_after-below seats from (omega arith) in
    rw next (ap (λ rest. (from + 1) ∷ rest) (walk-up seats steps (from + 1) (omega arith)))

-- A walk from the last seat counts up from 1.
walk-from_last : (seats steps : ℕ) → steps ≤ seats → walk (seat_after seats) steps seats ≡ count_up 1 steps
walk-from_last seats zero within = refl
walk-from_last seats (suc steps) within =
    let next = seat_after-last seats seats refl in
    rw next (ap (λ rest. 1 ∷ rest) (walk-up seats steps 1 (omega arith)))

-- A walk past the last seat counts up to it, and then goes on from it.
walk-round : (seats steps more from : ℕ) → from + steps ≡ seats
    → walk (seat_after seats) (steps + more) from ≡ count_up (from + 1) steps ++ walk (seat_after seats) more seats
walk-round seats zero more from reached =
    let same : from ≡ seats = omega arith in
    let steps : 0 + more ≡ more = omega arith in rw (same, steps)
walk-round seats (suc steps) more from reached =
    let next = seat_after-below seats from (omega arith) in
    let one : suc steps + more ≡ suc (steps + more) = omega arith in
    rw (one, next) (ap (λ rest. (from + 1) ∷ rest) (walk-round seats steps more (from + 1) (omega arith)))

-- All seats clockwise from the seat after the button: those above it, and then the others.
clockwise-split : (seats button : ℕ) → button ≤ seats
    → clockwise_after seats button ≡ count_up (button + 1) (seats - button) ++ count_up 1 button
clockwise-split seats button at =
    let all : seats ≡ (seats - button) + button = omega arith in
    let round = walk-round seats (seats - button) button button (omega arith) in
    ap (λ (n : ℕ). walk (seat_after seats) n button) all ∙ round
    ∙ ap (λ rest. count_up (button + 1) (seats - button) ++ rest) (walk-from_last seats button at)

-- Numbers one after another, in two pieces.
pub count_up-append : (from one other : ℕ)
    → count_up from one ++ count_up (from + one) other ≡ count_up from (one + other)
count_up-append from zero other =
    let start : from + 0 ≡ from = omega arith in
    let all : 0 + other ≡ other = omega arith in rw (start, all)
count_up-append from (suc one) other =
    let start : from + suc one ≡ from + 1 + one = omega arith in
    let all : suc one + other ≡ suc (one + other) = omega arith in
    rw (start, all) (ap (λ rest. from ∷ rest) (count_up-append (from + 1) one other))

-- How many of two lists a test keeps.
kept-append : (kept : ℕ → Bool) (one other : List ℕ)
    → length (filter kept (one ++ other)) ≡ length (filter kept one) + length (filter kept other)
kept-append kept one other =
    ap length (filter-append kept one other) ∙ length-append (filter kept one) (filter kept other)

-- A test that no number passes keeps none.
kept-none : (kept : ℕ → Bool) (from steps : ℕ) → ((k : ℕ) → kept (from + k) ≡ false)
    → length (filter kept (count_up from steps)) ≡ 0
kept-none kept from zero none = refl
kept-none kept from (suc steps) none =
    let here : kept from ≡ false = ap kept (omega arith) ∙ none 0 in
    rw here (kept-none kept (from + 1) steps (λ k. ap kept (omega arith) ∙ none (k + 1)))

-- A set of seats keeps as many of the seats as there are in it.
kept-tests : (set : List Bool) (kept : ℕ → Bool) (from steps : ℕ)
    → ((k : ℕ) → kept (from + k) ≡ slice_index_or set k false)
    → ((k : ℕ) → slice_index_or set k false ≡ true → k < steps)
    → length (filter kept (count_up from steps)) ≡ seat_count set
kept-tests [] kept from steps same within = kept-none kept from steps same
kept-tests (true ∷ set) kept from zero same within = absurd (omega (arith, within 0 refl))
kept-tests (false ∷ set) kept from zero same within =
    let counted = sum_by-cons (λ x. cond x 1 0) false set in
    let later = kept-tests set kept (from + 1) zero (λ k. ap kept (omega arith) ∙ same (suc k))
    (λ k is. absurd (omega (arith, within (suc k) is))) in
    omega (arith, counted, later)
kept-tests (true ∷ set) kept from (suc steps) same within =
    let counted = sum_by-cons (λ x. cond x 1 0) true set in
    let here : kept from ≡ true = ap kept (omega arith) ∙ same 0 in
    let later = kept-tests set kept (from + 1) steps (λ k. ap kept (omega arith) ∙ same (suc k))
    (λ k is. omega (arith, within (suc k) is)) in
    rw here (omega (arith, counted, later))
kept-tests (false ∷ set) kept from (suc steps) same within =
    let counted = sum_by-cons (λ x. cond x 1 0) false set in
    let here : kept from ≡ false = ap kept (omega arith) ∙ same 0 in
    let later = kept-tests set kept (from + 1) steps (λ k. ap kept (omega arith) ∙ same (suc k))
    (λ k is. omega (arith, within (suc k) is)) in
    rw here (omega (arith, counted, later))

-- The seats of a table that a set has are as many as there are in it.
table-count : (dealt : List Bool) (seats : ℕ) → AreSeatsOf seats dealt
    → length (filter (has_seat dealt) (count_up 1 seats)) ≡ seat_count dealt
table-count dealt seats table =
    kept-tests dealt (has_seat dealt) 1 seats (λ k. let next : 1 + k ≡ suc k = omega arith in ap (has_seat dealt) next)
    (λ k is. let within = table.within (suc k) is in omega arith)

-- As many are dealt in as there are seats in the set.
pub dealt-count : (dealt : List Bool) (button seats : ℕ) → AreSeatsOf seats dealt → button ≤ seats
    → length (dealt_in_order dealt button seats) ≡ seat_count dealt
dealt-count dealt button seats table at =
    let sits = has_seat dealt in
    let split = ap (λ all. length (filter sits all)) (clockwise-split seats button at) in
    let round = kept-append sits (count_up (button + 1) (seats - button)) (count_up 1 button) in
    let start : 1 + button ≡ button + 1 = omega arith in
    let all : button + (seats - button) ≡ seats = omega arith in
    let up : count_up 1 button ++ count_up (button + 1) (seats - button) ≡ count_up 1 seats =
    rw (← start) (count_up-append 1 button (seats - button) ∙ ap (count_up 1) all) in
    let straight = ap (λ all. length (filter sits all)) (sym up)
    ∙ kept-append sits (count_up 1 button) (count_up (button + 1) (seats - button)) in
    let counted = table-count dealt seats table in
    split ∙ round ∙ omega arith

-- Of the seats that are dealt in none comes twice.
pub dealt-distinct : (dealt : List Bool) (button seats : ℕ) → seats ≤ 10 → button ≤ seats
    → are_distinct (λ one other. one == other) (dealt_in_order dealt button seats) ≡ true
dealt-distinct dealt button seats most at = is_pairwise-kept (λ one other. not (one == other)) (has_seat dealt)
    (clockwise_after seats button)
    (clockwise-distinct seats button most at)
