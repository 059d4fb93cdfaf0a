-- Somebody stays at a table when a hand there is settled.
use Rattle.std.proofs.Common.{◌≡◌, ◌∙◌, refl, ap, ℕ, suc, ◌%◌, ◌<◌, ◌≤◌, Bool, true, false, cond, ◌==◌, List, [], ◌∷◌, map, length, arith}
use Rattle.std.specs.Prelude.{filter, count_by, nat_lt, Option, Some}
use Rattle.std.proofs.lemmas.Bool.{and_parts, eqb-true, ltb-true}
use Rattle.std.proofs.lemmas.List.{length-map}
use Rattle.std.proofs.lemmas.List.Sums.{sum_by-cons, length-filter, count_by-le-length}
use Rattle.rulebook.proofs.Tests.{list_all-filtered, list_all-follows}
use Rattle.rulebook.proofs.Passing.{count_by-all}
use Rattle.seat_book.specs.declared.seated.Seated.{Seated}
use Rattle.seat_book.specs.Players.{sits_at, are_apart}
use Rattle.seat_book.specs.Counts.{count_at}
use Rattle.table_engine.specs.declared.start.HandStart.{HandStart}
use Rattle.table_engine.specs.declared.start.StartSeat.{StartSeat}
use Rattle.table_engine.specs.Starts.{chips_of, have_playable_stacks, is_playable_stack}
use Rattle.tournament_rules.specs.Books.{BookState, start_at, starters_of}
use Rattle.tournament_rules.specs.Players.{start_seat, paid, put_back}
use Rattle.tournament_rules.specs.Valid.{IsValid, is_lent, without_stack}
use Rattle.tournament_rules.proofs.Restacked.{count_changed}
use Rattle.tournament_rules.proofs.Paying.{paid-stacks, ArePayees}
use Rattle.tournament_rules.proofs.Stayed.{who_stay, count_apart, with_nothing, lent_after}

most_nothing : (payees : List StartSeat) → length (with_nothing payees) ≤ length payees
most_nothing payees =
    let counted = length-filter (λ (payee : StartSeat). payee.stack == 0) payees in
    let most = count_by-le-length (λ (payee : StartSeat). payee.stack == 0) payees in
    omega (arith, counted, most)

-- Where there are chips, fewer have nothing than there are.
fewer_nothing : (payees : List StartSeat) → 0 < chips_of payees → length (with_nothing payees) < length payees
fewer_nothing [] some = absurd (omega (arith, some))
fewer_nothing (payee ∷ payees) some = by_test (payee.stack == 0) refl (fewer_nothing payees) (most_nothing payees)
  where
    by_test : (b : Bool) → (payee.stack == 0) ≡ b
        → (0 < chips_of payees → length (with_nothing payees) < length payees)
        → length (with_nothing payees) ≤ length payees
        → length (cond b (payee ∷ with_nothing payees) (with_nothing payees)) < suc (length payees)
    by_test true is rest most =
        let whole = sum_by-cons (λ (payee : StartSeat). payee.stack) payee payees in
        let nothing = eqb-true payee.stack 0 is in
        let fewer = rest (omega (arith, whole, nothing, some)) in
        omega (arith, fewer)
    by_test false is rest most = omega (arith, most)

-- Those who have nothing at rest at a table sit there.
lent_sit : (table : ℕ) (players : List Seated)
    → count_by (sits_at table) (filter (is_lent table) players) ≡ length (filter (is_lent table) players)
lent_sit table players =
    count_by-all (sits_at table) (filter (is_lent table) players)
    (list_all-follows (is_lent table) (sits_at table) (filter (is_lent table) players)
    (λ player lent. (and_parts (sits_at table player) (player.stack == 0) lent).0)
    (list_all-filtered (is_lent table) players))

somebody_sits : (table : ℕ) (players : List Seated) (starters : List StartSeat)
    → map start_seat (filter (is_lent table) players) ≡ map without_stack starters → 2 ≤ length starters
    → 1 ≤ count_at players table
somebody_sits table players starters lent two =
    let parts = count_apart (sits_at table) (is_lent table) players in
    let sit = lent_sit table players in
    let size = ap length lent in
    let here = length-map (filter (is_lent table) players) start_seat in
    let there = length-map starters without_stack in
    omega (arith, two, parts, sit, size, here, there)

-- Somebody sits at a table where a hand has started.
pub somebody_plays : (book : BookState) (table : ℕ) (start : HandStart) → IsValid book
    → start_at book.started table ≡ Some start → 1 ≤ count_at book.seating.players table
somebody_plays book table start valid is =
    somebody_sits table book.seating.players start.seats
    (valid.hands.lent table ∙ ap (λ (start : Option HandStart). map without_stack (starters_of start)) is)
    (valid.hands.starts table start is).lawful.two

-- Players who can play have chips.
some_chips : (unit : ℕ) (starters : List StartSeat) → have_playable_stacks unit starters ≡ true
    → 2 ≤ length starters → 0 < chips_of starters
some_chips unit [] playable two = absurd (omega (arith, two))
some_chips unit (starter ∷ starters) playable two =
    let parts = and_parts (is_playable_stack unit starter.stack) (have_playable_stacks unit starters) playable in
    let his = and_parts (nat_lt 0 starter.stack) (starter.stack % unit == 0) parts.0 in
    let whole = sum_by-cons (λ (starter : StartSeat). starter.stack) starter starters in
    let some = ltb-true 0 starter.stack his.0 in
    omega (arith, whole, some)

-- Where chips went back to those who had nothing at rest at a table, somebody there has some.
pub somebody_stays : (table : ℕ) (players : List Seated) (payees : List StartSeat) (unit : ℕ)
    (starters : List StartSeat)
    → are_apart players ≡ true → ArePayees (is_lent table) players payees
    → have_playable_stacks unit starters ≡ true → 2 ≤ length starters → chips_of payees ≡ chips_of starters
    → 1 ≤ count_at (who_stay table (put_back payees players)) table
somebody_stays table players payees unit starters apart those playable two kept =
    let after = put_back payees players in
    let some = some_chips unit starters playable two in
    let fewer = fewer_nothing payees (omega (arith, some, kept)) in
    let before_leave = count_apart (sits_at table) (is_lent table) players in
    let before_lent = lent_sit table players in
    let leave = count_apart (sits_at table) (is_lent table) after in
    let lent = lent_sit table after in
    let same = count_changed (sits_at table) (paid payees) (record { same = λ player stack. refl })
    (paid-stacks payees) players in
    let those_before = ap length those.numbers in
    let those_after = ap length (lent_after table players payees apart those) in
    let all = length-map payees (λ (payee : StartSeat). payee.player) in
    let none = length-map (with_nothing payees) (λ (payee : StartSeat). payee.player) in
    let were = length-map (filter (is_lent table) players) (λ (player : Seated). player.player) in
    let are = length-map (filter (is_lent table) after) (λ (player : Seated). player.player) in
    omega (arith, fewer, before_leave, before_lent, leave, lent, same, those_before, those_after, all, none, were, are)
