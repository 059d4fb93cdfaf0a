-- How many players a hand has at most.
use Rattle.std.proofs.Common.{◌≡◌, ◌∙◌, refl, ap, ℕ, ◌+◌, ◌≤◌, ◌<◌, Bool, true, List, [], ◌∷◌, length, map, arith}
use Rattle.std.specs.Prelude.{◌&&◌, nat_lt, nat_le}
use Rattle.std.specs.List.{list_all}
use Rattle.std.proofs.lemmas.Bool.{and_parts}
use Rattle.std.proofs.lemmas.Bool.Decides.{nat_tests}
use Rattle.std.proofs.lemmas.List.{length-map}
use Rattle.rulebook.specs.Pairs.{are_rising}
use Rattle.rulebook.proofs.Tests.{list_all-follows}
use Rattle.level_plan.specs.Items.{is_between}
use Rattle.table_engine.specs.declared.start.HandStart.{HandStart}
use Rattle.table_engine.specs.declared.start.StartSeat.{StartSeat}
use Rattle.table_engine.specs.Starts.{IsLawfulStart}

-- Rising numbers behind a low one and up to a high one are no more than lie between the two.
rising-few : (low high : ℕ) (numbers : List ℕ) → low ≤ high → are_rising numbers ≡ true
    → list_all (nat_lt low) numbers ≡ true → list_all (λ number. nat_le number high) numbers ≡ true
    → low + length numbers ≤ high
rising-few low high [] within rising above below = omega (arith, within)
rising-few low high (number ∷ numbers) within rising above below =
    let apart = and_parts (list_all (nat_lt number) numbers) (are_rising numbers) rising in
    let first = and_parts (nat_lt low number) (list_all (nat_lt low) numbers) above in
    let last = and_parts (nat_le number high) (list_all (λ number. nat_le number high) numbers) below in
    let more : low < number = let is = first.0 in grind (arith, nat_tests) in
    let most : number ≤ high = let is = last.0 in grind (arith, nat_tests) in
    let rest = rising-few number high numbers most apart.1 apart.0 last.1 in
    omega (arith, more, rest)

all-map : {A : Type 0} (test : ℕ → Bool) (made : A → ℕ) (items : List A)
    → list_all test (map made items) ≡ list_all (λ item. test (made item)) items
all-map test made [] = refl
all-map test made (item ∷ items) = ap (λ (rest : Bool). test (made item) && rest) (all-map test made items)

above-none : (high number : ℕ) → is_between 1 high number ≡ true → nat_lt 0 number ≡ true
above-none high number is = grind (arith, nat_tests)

below-high : (high number : ℕ) → is_between 1 high number ≡ true → nat_le number high ≡ true
below-high high number is = grind (arith, nat_tests)

-- A hand that starts lawfully has at most ten players.
pub few-players : (start : HandStart) → IsLawfulStart start → length start.seats ≤ 10
few-players start lawful =
    let seat : StartSeat → ℕ = λ player. player.seat in
    let few = rising-few 0 start.seat_count (map seat start.seats) (omega arith) lawful.rising
    (all-map (nat_lt 0) seat start.seats
    ∙ list_all-follows (λ player. is_between 1 start.seat_count player.seat) (λ player. nat_lt 0 player.seat)
    start.seats
    (λ player is. above-none start.seat_count player.seat is) lawful.within)
    (all-map (λ number. nat_le number start.seat_count) seat start.seats
    ∙ list_all-follows (λ player. is_between 1 start.seat_count player.seat)
    (λ player. nat_le player.seat start.seat_count) start.seats
    (λ player is. below-high start.seat_count player.seat is) lawful.within) in
    let most = lawful.most_seats in
    let count = length-map start.seats seat in
    omega (arith, few, most, count)
