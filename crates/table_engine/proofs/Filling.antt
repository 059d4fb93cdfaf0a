-- The slots of the seats, filled one player after another.
use Rattle.std.proofs.Common.{◌≡◌, ◌≢◌, ◌∙◌, ℕ, zero, suc, ◌+◌, ◌-◌, ◌<◌, ◌≤◌, true, false, List, ◌∷◌, length, map, drop, get_or, set, refl, ap, sym, arith}
use Rattle.std.specs.Prelude.{◌==◌, find}
use Rattle.std.specs.List.{list_all}
use Rattle.std.specs.Option.{option_map_or}
use Rattle.std.proofs.lemmas.Bool.Decides.{nat_tests}
use Rattle.std.proofs.lemmas.List.{drop_more}
use Rattle.rulebook.specs.Seats.{walk}
use Rattle.level_plan.specs.Items.{is_between}
use Rattle.table_engine.specs.declared.start.StartSeat.{StartSeat}
use Rattle.table_engine.proofs.BySeat.{seat-within}

-- Two functions that agree on all later seats make the same of a walk through them.
walk-same : {A : Type 0} (one other : ℕ → A) (steps from : ℕ) → ((seat : ℕ) → from < seat → one seat ≡ other seat)
    → map one (walk (λ seat. seat + 1) steps from) ≡ map other (walk (λ seat. seat + 1) steps from)
walk-same one other zero from same = refl
walk-same one other (suc steps) from same =
    let here = same (from + 1) (omega arith) in
    let later = walk-same one other steps (from + 1) (λ seat less. same seat (omega arith)) in cc

-- Where two functions differ at one seat alone, one write makes of a walk's values by the one those by the other.
walk-set : {A : Type 0} (one other : ℕ → A) (steps from index : ℕ) → index < steps
    → ((seat : ℕ) → seat ≢ from + index + 1 → one seat ≡ other seat)
    → set (map one (walk (λ seat. seat + 1) steps from)) index (other (from + index + 1))
    ≡ map other (walk (λ seat. seat + 1) steps from)
walk-set one other zero from index within same = absurd (omega arith)
walk-set one other (suc steps) from zero within same =
    let later = walk-same one other steps (from + 1) (λ seat less. same seat (omega arith)) in
    let here : from + 0 + 1 ≡ from + 1 = omega arith in
    rw here (cc)
walk-set one other (suc steps) from (suc index) within same =
    let here = same (from + 1) (omega arith) in
    let place : from + suc index + 1 ≡ from + 1 + index + 1 = omega arith in
    let later = walk-set one other steps (from + 1) index (omega arith) (λ seat differs. same seat (omega arith)) in
    rw place (cc)

-- What the slots hold after these players.
abbrev pub filled : {A : Type 0} → (StartSeat → A) → A → List StartSeat → List A
filled made nobody players =
    map (λ seat. option_map_or made (find (λ player. player.seat == seat) players) nobody)
    (walk (λ seat. seat + 1) 10 0)

-- One player more in front.
filled-front : {A : Type 0} (made : StartSeat → A) (nobody : A) (player : StartSeat) (players : List StartSeat)
    → 1 ≤ player.seat → player.seat ≤ 10
    → set (filled made nobody players) (player.seat - 1) (made player) ≡ filled made nobody (player ∷ players)
filled-front made nobody player players low high =
    let at : 0 + (player.seat - 1) + 1 ≡ player.seat = omega arith in
    let yes : (player.seat == player.seat) ≡ true = grind (arith, nat_tests) in
    let here : option_map_or made (find (λ (other : StartSeat). other.seat == 0 + (player.seat - 1) + 1)
    (player ∷ players)) nobody ≡ made player = rw (at, yes) refl in
    sym (ap (set (filled made nobody players) (player.seat - 1)) here)
    ∙ walk-set (λ seat. option_map_or made (find (λ (other : StartSeat). other.seat == seat) players) nobody)
    (λ seat. option_map_or made (find (λ (other : StartSeat). other.seat == seat) (player ∷ players)) nobody)
    10 0 (player.seat - 1) (omega arith)
    (λ seat differs. let no : (player.seat == seat) ≡ false = grind (arith, nat_tests) in rw no refl)

-- One player more of those at the end of a list.
pub filled-more : {A : Type 0} (made : StartSeat → A) (nobody : A) (players : List StartSeat) (done : ℕ)
    (player : StartSeat) → list_all (λ other. is_between 1 10 other.seat) players ≡ true → done < length players
    → player ≡ get_or players (length players - 1 - done) player
    → set (filled made nobody (drop (length players - done) players)) (player.seat - 1) (made player)
    ≡ filled made nobody (drop (length players - (done + 1)) players)
filled-more made nobody players done player seats within is =
    let index = length players - 1 - done in
    let next : length players - done ≡ index + 1 = omega arith in
    let before : length players - (done + 1) ≡ index = omega arith in
    let split = drop_more players index player (omega arith) in
    let seat = rw (← is) at (seat-within players index player seats (omega arith)) in
    rw (next, before, split, ← is) (filled-front made nobody player (drop (index + 1) players) seat.0 seat.1)
