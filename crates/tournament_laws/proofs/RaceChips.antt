-- A race changes the chips by what it takes away and gives.
use Rattle.std.proofs.Common.{◌≡◌, refl, ℕ, ◌+◌, Bool, true, false, cond, List, [], ◌∷◌, map, arith}
use Rattle.std.specs.Prelude.{sum_by, Some}
use Rattle.std.proofs.lemmas.List.Sums.{sum_by-cons}
use Rattle.card_set.specs.declared.card.CardRow.{CardRow}
use Rattle.seat_book.specs.declared.seated.Seated.{Seated}
use Rattle.seat_book.specs.Players.{sits_at, players_at}
use Rattle.tournament_events.specs.declared.answer.Answer.TheVariants.{Ok}
use Rattle.tournament_events.specs.declared.event.Event.TheVariants.{Race}
use Rattle.tournament_rules.specs.Books.{BookState}
use Rattle.tournament_rules.specs.Chips.{rest_in, rest_at}
use Rattle.tournament_rules.specs.Effects.{raced}
use Rattle.tournament_rules.specs.Players.{with_rest}
use Rattle.tournament_rules.specs.Racing.{race_at, restacked}
use Rattle.tournament_rules.specs.States.{State, PlayState, answer_to, state_after}
use Rattle.tournament_rules.specs.Valid.{IsValid}
use Rattle.tournament_rules.proofs.Passed.{passed-parts}
use Rattle.tournament_rules.proofs.Paying.{stack_of}
use Rattle.tournament_rules.proofs.Races.{MayRace, race_passed, by_seat, rest-raced, chips-there}
use Rattle.tournament_rules.proofs.MoveLaws.{after_accepted}

-- What those who are picked have is what all have, where the others count nothing.
picked-sum : (table : ℕ) (players : List Seated)
    → sum_by stack_of (players_at players table)
    ≡ sum_by (λ player. cond {A = ℕ} (sits_at table player) player.stack 0) players
picked-sum table [] = refl
picked-sum table (player ∷ players) =
    by_test (sits_at table player)
    (sum_by-cons (λ player. cond {A = ℕ} (sits_at table player) player.stack 0) player players)
    (picked-sum table players)
  where
    by_test : (b : Bool)
        → sum_by (λ player. cond {A = ℕ} (sits_at table player) player.stack 0) (player ∷ players)
        ≡ cond {A = ℕ} b player.stack 0 + sum_by (λ player. cond {A = ℕ} (sits_at table player) player.stack 0) players
        → sum_by stack_of (players_at players table)
        ≡ sum_by (λ player. cond {A = ℕ} (sits_at table player) player.stack 0) players
        → sum_by stack_of (cond b (player ∷ players_at players table) (players_at players table))
        ≡ sum_by (λ player. cond {A = ℕ} (sits_at table player) player.stack 0) (player ∷ players)
    by_test true all rest =
        let here = sum_by-cons stack_of player (players_at players table) in omega (arith, all, rest, here)
    by_test false all rest = omega (arith, all, rest)

-- The stacks at the table after its race are those that the race made.
restacked-sum : (table : ℕ) (stacks : List ℕ) (players : List Seated)
    → sum_by (λ player. cond {A = ℕ} (sits_at table player) player.stack 0) (map (restacked table stacks) players)
    ≡ sum_by (λ player. cond {A = ℕ} (sits_at table player) (by_seat stacks player) 0) players
restacked-sum table stacks [] = refl
restacked-sum table stacks (player ∷ players) =
    let after = sum_by-cons (λ player. cond {A = ℕ} (sits_at table player) player.stack 0)
    (restacked table stacks player) (map (restacked table stacks) players) in
    let before = sum_by-cons (λ player. cond {A = ℕ} (sits_at table player) (by_seat stacks player) 0) player players in
    let here = by_test (sits_at table player) refl in
    omega (arith, after, before, here, restacked-sum table stacks players)
  where
    by_test : (b : Bool) → sits_at table player ≡ b
        → cond {A = ℕ} (sits_at table (cond b (with_rest player (by_seat stacks player)) player))
        (cond b (with_rest player (by_seat stacks player)) player).stack 0
        ≡ cond {A = ℕ} b (by_seat stacks player) 0
    by_test true is = rw is refl
    by_test false is = rw is refl

-- The chips at the table, and all that are at rest.
pub race-table : (book : BookState) (table : ℕ) (row : CardRow) → IsValid book → MayRace book table row.cards
    → rest_at (raced book table row.cards) table + (race_at book.seating table row.cards).removed
    ≡ rest_at book table + (race_at book.seating table row.cards).added
race-table book table row valid may =
    let stacks = (race_at book.seating table row.cards).stacks in
    let after = picked-sum table (map (restacked table stacks) book.seating.players) in
    let made = restacked-sum table stacks book.seating.players in
    let before = picked-sum table book.seating.players in
    let there = chips-there book table row.cards valid may in
    omega (arith, after, made, before, there)

pub race-all : (book : BookState) (table : ℕ) (row : CardRow) → IsValid book → MayRace book table row.cards
    → rest_in (raced book table row.cards) + (race_at book.seating table row.cards).removed
    ≡ rest_in book + (race_at book.seating table row.cards).added
race-all book table row valid may =
    let rest = rest-raced table (race_at book.seating table row.cards).stacks book.seating.players in
    let there = chips-there book table row.cards valid may in
    omega (arith, rest, there)

-- What a race that is not refused makes so of a book, is so after one that is accepted.
pub after_race : (P : BookState → Type 0) (state : State) (table : ℕ) (row : CardRow) (earlier : PlayState)
    → state.play ≡ Some earlier → answer_to state (Race table row) ≡ Ok
    → (MayRace earlier.book table row.cards → P (raced earlier.book table row.cards))
    → (later : PlayState) → (state_after state (Race table row)).play ≡ Some later → P later.book
after_race P state table row earlier at taken so =
    after_accepted (λ later. P later.book) state (Race table row) earlier at taken
    (λ none. so (race_passed earlier.book table row (passed-parts earlier (Race table row) none).0))
