-- The players of a hand, clockwise from the seat after the button, as two parts of the list of its players.
use Rattle.std.proofs.Common.{◌≡◌, ◌∙◌, ℕ, ◌-◌, Bool, true, false, List, ◌++◌, length, take, drop, refl, ap, inl, inr, arith}
use Rattle.std.specs.Prelude.{nat_lt, not, unwrap_or}
use Rattle.std.specs.List.{list_all, position, position_or_len}
use Rattle.std.proofs.lemmas.Bool.{cases_lt, le-ltb, lt-ltb}
use Rattle.std.proofs.lemmas.List.{take_rest}
use Rattle.std.proofs.lemmas.List.Sums.{prefix_len-le-length}
use Rattle.level_plan.specs.Items.{is_between}
use Rattle.rulebook.proofs.Tests.{list_all-kept}
use Rattle.table_engine.specs.declared.start.HandStart.{HandStart}
use Rattle.table_engine.specs.declared.start.StartSeat.{StartSeat}
use Rattle.table_engine.specs.Starts.{IsLawfulStart}
use Rattle.table_engine.proofs.BySeat.{lawful-seats}
use Rattle.view_rules.specs.Shown.{players_clockwise}
use Rattle.player_view.proofs.Behind.{behind-first, from-behind}

-- Two lists are the players of a hand, clockwise, and each player sits in a seat from 1 to 10.
pub record AreHalves (start : HandStart) (first last : List StartSeat) : Type 0 where
  pub turn : first ++ last ≡ players_clockwise start
  pub first_sit : list_all (λ player. is_between 1 10 player.seat) first ≡ true
  pub last_sit : list_all (λ player. is_between 1 10 player.seat) last ≡ true

-- How many players of a hand stand before the first who sits behind the button.
abbrev before_button : HandStart → ℕ
before_button start = position_or_len (λ player. nat_lt start.marks.button player.seat) start.seats

halves-seats : (start : HandStart) → IsLawfulStart start
    → AreHalves start (take (length start.seats - before_button start) (drop (before_button start) start.seats))
    (take (before_button start) start.seats)
halves-seats start lawful =
    let seats = start.seats in
    let count = before_button start in
    let parts = from-behind (λ (player : StartSeat). player.seat) start.marks.button seats lawful.rising in
    let within = lawful-seats start lawful in
    let rest = take_rest seats count in
    record {
      turn = ap (λ front. front ++ take count seats) rest
          ∙ behind-first (λ (player : StartSeat). player.seat) start.marks.button seats lawful.rising;
      first_sit = ap (list_all (λ (player : StartSeat). is_between 1 10 player.seat)) (rest ∙ parts.0)
          ∙ list_all-kept (λ (player : StartSeat). is_between 1 10 player.seat)
          (λ player. nat_lt start.marks.button player.seat) seats within;
      last_sit = ap (list_all (λ (player : StartSeat). is_between 1 10 player.seat)) parts.1
          ∙ list_all-kept (λ (player : StartSeat). is_between 1 10 player.seat)
          (λ player. not (nat_lt start.marks.button player.seat)) seats within;
    }

-- The players from the first who sits behind the button, and those before him.
pub halves-are : (start : HandStart) (players : List StartSeat) (count : ℕ) → IsLawfulStart start
    → players ≡ start.seats → count ≡ position_or_len (λ player. nat_lt start.marks.button player.seat) players
    → AreHalves start (take (length players - count) (drop count players)) (take count players)
halves-are start players count lawful are is =
    let same : count ≡ before_button start =
    is ∙ ap (position_or_len (λ (player : StartSeat). nat_lt start.marks.button player.seat)) are in
    rw (are, same) (halves-seats start lawful)

-- The index of the first who passes a test, or how many there are, is how many stand before him.
pub count-before : {A : Type 0} (test : A → Bool) (items : List A)
    → unwrap_or (position test items) (length items) ≡ position_or_len test items
count-before test items =
    let count = position_or_len test items in
    let within = prefix_len-le-length (λ item. not (test item)) items in
    elim (cases_lt count (length items)) [
      | inl found ↦ let yes : nat_lt count (length items) ≡ true = lt-ltb count (length items) found in rw yes refl
      | inr none ↦
          let no_more : nat_lt count (length items) ≡ false = le-ltb count (length items) none in
          let same : length items ≡ count = omega arith in
          rw no_more same
    ]
