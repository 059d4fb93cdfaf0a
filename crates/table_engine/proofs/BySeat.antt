-- The players of a start by their seats, and numbers of them in the one order and in the other.
use Rattle.std.proofs.Common.{◌≡◌, ◌∙◌, ℕ, zero, suc, ◌+◌, ◌-◌, ◌≤◌, ◌<◌, true, false, cond, List, [], ◌∷◌, length, map, Some, None, refl, ap, ap₂, sym, inl, inr, arith}
use Rattle.std.specs.Prelude.{Option, ◌==◌, ◌&&◌, find, nat_le, nat_lt, slice_index_or, sum_by}
use Rattle.std.specs.List.{list_all}
use Rattle.std.specs.Option.{is_some, option_map_or}
use Rattle.std.proofs.Math.Nat.{zero-add}
use Rattle.std.proofs.lemmas.Bool.{and_parts, cases_Bool, cases_lt, eqb-true, leb-true}
use Rattle.std.proofs.lemmas.Bool.Decides.{nat_tests}
use Rattle.std.proofs.lemmas.List.{get_or_default}
use Rattle.std.proofs.lemmas.List.Sums.{AllPass-from_list_all, sum_by-cons}
use Rattle.level_plan.specs.Items.{is_between}
use Rattle.rulebook.specs.Pairs.{are_rising}
use Rattle.rulebook.specs.Seats.{walk}
use Rattle.rulebook.proofs.Tests.{find-all, find-passes, list_all-follows}
use Rattle.betting_round.specs.declared.bettor.Player.{Player}
use Rattle.betting_round.specs.StreetActs.{sum_over}
use Rattle.betting_round.specs.WhoIsDue.{player_at, player_in}
use Rattle.table_engine.specs.declared.start.HandStart.{HandStart}
use Rattle.table_engine.specs.declared.start.StartSeat.{StartSeat}
use Rattle.table_engine.specs.Starts.{IsLawfulStart}
use Rattle.table_engine.specs.Hands.{player_of, players_by_seat}

-- The player of a list who sits at a seat.
abbrev at_seat : List StartSeat → ℕ → Option StartSeat
at_seat players seat = find (λ (player : StartSeat). player.seat == seat) players

-- The players of a list by so many seats, from the one after this.
abbrev by_seats : List StartSeat → ℕ → ℕ → List (Option StartSeat)
by_seats players steps from = map (at_seat players) (walk (λ seat. seat + 1) steps from)

-- Each player of a list is found in another at his seat.
abbrev pub AreFound : List StartSeat → List StartSeat → Type 0
AreFound all [] = Unit {0}
AreFound all (player ∷ players) = (at_seat all player.seat ≡ Some player) × AreFound all players

-- One more player in front, who sits in a lower seat, changes nothing of who is found.
found-more : (first : StartSeat) (all rest : List StartSeat)
    → list_all (λ seat. nat_lt first.seat seat) (map (λ (player : StartSeat). player.seat) rest) ≡ true
    → AreFound all rest
    → AreFound (first ∷ all) rest
found-more first all [] below found = tt
found-more first all (player ∷ rest) below found =
    let parts = and_parts (nat_lt first.seat player.seat)
    (list_all (λ seat. nat_lt first.seat seat) (map (λ (p : StartSeat). p.seat) rest)) below in
    let other : (first.seat == player.seat) ≡ false = grind (arith, nat_tests) in
    (rw other found.0, found-more first all rest parts.1 found.1)

-- Players in rising seat are found at their seats.
found-each : (players : List StartSeat) → are_rising (map (λ (player : StartSeat). player.seat) players) ≡ true
    → AreFound players players
found-each [] rising = tt
found-each (player ∷ players) rising =
    let parts = and_parts (list_all (λ seat. nat_lt player.seat seat) (map (λ (p : StartSeat). p.seat) players))
    (are_rising (map (λ (p : StartSeat). p.seat) players)) rising in
    let same : (player.seat == player.seat) ≡ true = grind (arith, nat_tests) in
    (rw same, found-more player players players parts.0 (found-each players parts.1))

-- The players of a lawful start are found at their seats.
pub found-all : (start : HandStart) → IsLawfulStart start → AreFound start.seats start.seats
found-all start lawful = found-each start.seats lawful.rising

-- Who is listed at an index is found at his seat, where each is.
found-at : (all players : List StartSeat) (index : ℕ) (other : StartSeat) → AreFound all players
    → index < length players
    → at_seat all (slice_index_or players index other).seat ≡ Some (slice_index_or players index other)
found-at all [] index other found within = absurd (omega arith)
found-at all (player ∷ players) zero other found within = found.0
found-at all (player ∷ players) (suc index) other found within =
    found-at all players index other found.1 (omega arith)

-- In a lawful start the player in the seat of who is listed at an index is himself.
pub player-at : (start : HandStart) (index seat : ℕ) (one other : StartSeat) → IsLawfulStart start
    → index < length start.seats
    → (slice_index_or start.seats index one).seat ≡ seat
    → player_of start seat ≡ Some (slice_index_or start.seats index other)
player-at start index seat one other lawful within sits =
    ap (λ (n : ℕ). player_of start n) (sym sits)
    ∙ found-at start.seats start.seats index one (found-all start lawful) within
    ∙ ap Some (get_or_default start.seats index one other within)

-- Nobody in a higher seat sits in this one.
nobody-higher : (seat : ℕ) (players : List StartSeat)
    → list_all (λ other. nat_lt seat other) (map (λ (player : StartSeat). player.seat) players) ≡ true
    → at_seat players seat ≡ None
nobody-higher seat [] higher = refl
nobody-higher seat (player ∷ players) higher =
    let parts = and_parts (nat_lt seat player.seat)
    (list_all (λ other. nat_lt seat other) (map (λ (p : StartSeat). p.seat) players)) higher in
    let other : (player.seat == seat) ≡ false = grind (arith, nat_tests) in
    rw other (nobody-higher seat players parts.1)

-- The numbers by seats, with one player more.
sum-one_more : (number : StartSeat → ℕ) (player : StartSeat) (players : List StartSeat) (steps from : ℕ)
    → at_seat players player.seat ≡ None
    → sum_over number (by_seats (player ∷ players) steps from)
    ≡ cond (nat_lt from player.seat && nat_le player.seat (from + steps)) (number player) 0 + sum_over number
    (by_seats players steps from)
sum-one_more number player players zero from nobody =
    let outside : (nat_lt from player.seat && nat_le player.seat (from + 0)) ≡ false = grind (arith, nat_tests) in
    rw outside (omega arith)
sum-one_more number player players (suc steps) from nobody =
    let later = sum-one_more number player players steps (from + 1) nobody in
    elim (cases_Bool (player.seat == from + 1)) [
      | inl here ↦
          let seat = eqb-true player.seat (from + 1) here in
          let empty : at_seat players (from + 1) ≡ None = ap (at_seat players) (sym seat) ∙ nobody in
          let inside : (nat_lt from player.seat && nat_le player.seat (from + suc steps)) ≡ true =
          grind (arith, nat_tests) in
          let outside : (nat_lt (from + 1) player.seat && nat_le player.seat (from + 1 + steps)) ≡ false =
          grind (arith, nat_tests) in
          let rest : sum_over number (by_seats (player ∷ players) steps (from + 1))
          ≡ 0 + sum_over number (by_seats players steps (from + 1)) = rw outside at later in
          rw (here, inside, empty) (omega arith)
      | inr elsewhere ↦
          let same : (nat_lt from player.seat && nat_le player.seat (from + suc steps))
          ≡ (nat_lt (from + 1) player.seat && nat_le player.seat (from + 1 + steps)) = grind (arith, nat_tests) in
          rw (elsewhere, same) (by_slot (at_seat players (from + 1)) (by_seats (player ∷ players) steps (from + 1))
          (by_seats players steps (from + 1)) _ later)
    ]
  where
    by_slot : (slot : Option StartSeat) (all others : List (Option StartSeat)) (one : ℕ)
        → sum_over number all ≡ one + sum_over number others
        → sum_over number (slot ∷ all) ≡ one + sum_over number (slot ∷ others)
    by_slot None all others one is = is
    by_slot (Some other) all others one is = omega arith

-- The numbers of players in rising seat, by seats and in turn.
sum-by_seats : (number : StartSeat → ℕ) (players : List StartSeat)
    → are_rising (map (λ (player : StartSeat). player.seat) players) ≡ true
    → list_all (λ player. is_between 1 10 player.seat) players ≡ true
    → sum_over number (by_seats players 10 0) ≡ sum_by number players
sum-by_seats number [] rising within = refl
sum-by_seats number (player ∷ players) rising within =
    let parts = and_parts (list_all (λ seat. nat_lt player.seat seat) (map (λ (p : StartSeat). p.seat) players))
    (are_rising (map (λ (p : StartSeat). p.seat) players)) rising in
    let seats = and_parts (is_between 1 10 player.seat)
    (list_all (λ (p : StartSeat). is_between 1 10 p.seat) players) within in
    let inside : (nat_lt 0 player.seat && nat_le player.seat (0 + 10)) ≡ true = grind (arith, nat_tests) in
    let one = sum-one_more number player players 10 0 (nobody-higher player.seat players parts.0) in
    let mine : sum_over number (by_seats (player ∷ players) 10 0)
    ≡ number player + sum_over number (by_seats players 10 0) = rw inside at one in
    let later = sum-by_seats number players parts.1 seats.1 in
    let all = sum_by-cons number player players in
    mine ∙ ap (λ (n : ℕ). number player + n) later ∙ sym all

-- A seat of a lawful start is one of ten.
pub lawful-seats : (start : HandStart) → IsLawfulStart start
    → list_all (λ player. is_between 1 10 player.seat) start.seats ≡ true
lawful-seats start lawful =
    let most : start.seat_count ≤ 10 = lawful.most_seats in
    list_all-follows (λ (player : StartSeat). is_between 1 start.seat_count player.seat)
    (λ player. is_between 1 10 player.seat) start.seats
    (λ player within. within-ten start.seat_count player.seat most within) lawful.within
  where
    within-ten : (count seat : ℕ) → count ≤ 10 → is_between 1 count seat ≡ true → is_between 1 10 seat ≡ true
    within-ten count seat most within = grind (arith, nat_tests)

-- The numbers of the players of a lawful start, by seats and in turn.
pub sum-of_start : (start : HandStart) (number : StartSeat → ℕ) → IsLawfulStart start
    → sum_over number (players_by_seat start) ≡ sum_by number start.seats
sum-of_start start number lawful = sum-by_seats number start.seats lawful.rising (lawful-seats start lawful)

-- Who is found at a seat sits in one of ten.
pub found-within : (start : HandStart) (seat : ℕ) (player : StartSeat) → IsLawfulStart start
    → player_of start seat ≡ Some player
    → (player.seat ≡ seat) × (1 ≤ seat) × (seat ≤ 10)
found-within start seat player lawful found =
    let same = eqb-true player.seat seat (find-passes
    (λ (other : StartSeat). other.seat == seat) start.seats player found) in
    let within = find-all (λ (other : StartSeat). other.seat == seat)
    (λ (other : StartSeat). is_between 1 10 other.seat) start.seats player found (lawful-seats start lawful) in
    let low : 1 ≤ player.seat = grind (arith, nat_tests) in
    let high : player.seat ≤ 10 = grind (arith, nat_tests) in
    (same, omega arith, omega arith)

-- Who is at an index of a list that is made along seats.
pub along-at : {A : Type 0} (at : ℕ → Option A) (steps from index : ℕ) → index < steps
    → slice_index_or (map at (walk (λ seat. seat + 1) steps from)) index None ≡ at (from + index + 1)
along-at at zero from index within = absurd (omega arith)
along-at at (suc steps) from zero within = let same : from + 0 + 1 ≡ from + 1 = omega arith in rw same
along-at at (suc steps) from (suc index) within =
    let same : from + suc index + 1 ≡ from + 1 + index + 1 = omega arith in
    rw same (along-at at steps (from + 1) index (omega arith))

-- Nobody is at an index past such a list.
pub along-past : {A : Type 0} (at : ℕ → Option A) (steps from index : ℕ) → steps ≤ index
    → slice_index_or (map at (walk (λ seat. seat + 1) steps from)) index None ≡ None
along-past at zero from index past = refl
along-past at (suc steps) from zero past = absurd (omega arith)
along-past at (suc steps) from (suc index) past = along-past at steps (from + 1) index (omega arith)

-- Where somebody is at an index of such a list, somebody is at that seat.
pub along-there : {A : Type 0} (at : ℕ → Option A) (steps from index : ℕ)
    → is_some (slice_index_or (map at (walk (λ seat. seat + 1) steps from)) index None) ≡ true
    → is_some (at (from + index + 1)) ≡ true
along-there at steps from index there =
    elim (cases_lt index steps) [
      | inl within ↦ rw (along-at at steps from index within) at there
      | inr past ↦ let none : is_some (slice_index_or (map at (walk (λ seat. seat + 1) steps from)) index None)
          ≡ false = ap is_some (along-past at steps from index past) in absurd cc
    ]

-- Whether somebody is in a slot, by the list of whether somebody is in each.
pub some-at : {A : Type 0} (slots : List (Option A)) (index : ℕ)
    → slice_index_or (map is_some slots) index false ≡ is_some (slice_index_or slots index None)
some-at [] index = refl
some-at (slot ∷ slots) zero = refl
some-at (slot ∷ slots) (suc index) = some-at slots index

-- Where somebody is in each slot of a street where one is dealt in at its seat, who is dealt in is there.
pub there-at : (start : HandStart) (slots : List (Option Player)) (seat : ℕ) (player : StartSeat) → IsLawfulStart start
    → map is_some slots ≡ map is_some (players_by_seat start) → player_of start seat ≡ Some player
    → (now : Player) × (player_at slots seat ≡ Some now)
there-at start slots seat player lawful there found =
    let within = found-within start seat player lawful found in
    let low = within.1 in
    let high = within.2 in
    let listed = along-at (player_of start) 10 0 (seat - 1) (omega arith) in
    let back : 0 + (seat - 1) + 1 ≡ seat = omega arith in
    let his : slice_index_or (players_by_seat start) (seat - 1) None ≡ Some player = listed ∙ ap (player_of start) back
    ∙ found in
    let some : is_some (player_at slots seat) ≡ true =
    sym (some-at slots (seat - 1)) ∙ ap (λ tests. slice_index_or tests (seat - 1) false) there
    ∙ some-at (players_by_seat start) (seat - 1) ∙ ap is_some his in
    by_slot (player_at slots seat) refl some
  where
    by_slot : (slot : Option Player) → player_at slots seat ≡ slot → is_some (player_at slots seat) ≡ true
        → (now : Player) × (player_at slots seat ≡ Some now)
    by_slot None is some = let none : is_some (player_at slots seat) ≡ false = ap is_some is in absurd cc
    by_slot (Some now) is some = (now, is)

-- The player in a seat from 1 on.
pub player_in-there : (slots : List (Option Player)) (seat : ℕ) → 1 ≤ seat → player_in slots seat ≡ player_at slots seat
player_in-there slots seat low = let above : (seat == 0) ≡ false = grind (arith, nat_tests) in rw above

-- The number of the player of a street who sits where a player of the start does.
abbrev pub number_of : (Player → ℕ) → List (Option Player) → StartSeat → ℕ
number_of number slots player = option_map_or number (player_in slots player.seat) 0

-- One slot more of both sums.
sum-step : (number : Player → ℕ) (slots : List (Option Player)) (from : ℕ) (slot : Option Player)
    (player : Option StartSeat)
    (players : List (Option StartSeat)) (rest : List (Option Player))
    → ((his : StartSeat) → player ≡ Some his → his.seat ≡ from + 1)
    → slice_index_or slots from None ≡ slot → is_some slot ≡ is_some player
    → sum_over (number_of number slots) players ≡ sum_over number rest
    → sum_over (number_of number slots) (player ∷ players) ≡ sum_over number (slot ∷ rest)
sum-step number slots from None None players rest seat at there later = later
sum-step number slots from None (Some his) players rest seat at there later = absurd cc
sum-step number slots from (Some now) None players rest seat at there later = absurd cc
sum-step number slots from (Some now) (Some his) players rest seat at there later =
    let sits = seat his refl in
    let index : his.seat - 1 ≡ from = omega arith in
    let same : player_in slots his.seat ≡ Some now =
    player_in-there slots his.seat (omega arith) ∙ ap (λ (n : ℕ). slice_index_or slots n None) index ∙ at in
    rw same (ap (λ (n : ℕ). number now + n) later)

-- The numbers of the players of a street, by the players of the start and by slots.
sum-along : (start : HandStart) (number : Player → ℕ) (slots : List (Option Player)) (steps from : ℕ)
    (rest : List (Option Player))
    → ((index : ℕ) → slice_index_or slots (from + index) None ≡ slice_index_or rest index None)
    → map is_some rest ≡ map is_some (map (player_of start) (walk (λ seat. seat + 1) steps from))
    → sum_over (number_of number slots) (map (player_of start) (walk (λ seat. seat + 1) steps from))
    ≡ sum_over number rest
sum-along start number slots zero from [] at there = refl
sum-along start number slots zero from (slot ∷ rest) at there = absurd cc
sum-along start number slots (suc steps) from [] at there = absurd cc
sum-along start number slots (suc steps) from (slot ∷ rest) at there =
    let here : is_some slot ≡ is_some (player_of start (from + 1)) = cc in
    let later : map is_some rest ≡ map is_some (map (player_of start) (walk (λ seat. seat + 1) steps (from + 1))) =
    cc in
    let none : from + 0 ≡ from = omega arith in
    let first : slice_index_or slots from None ≡ slot = ap (λ (n : ℕ). slice_index_or slots n None) (sym none) ∙ at 0 in
    sum-step number slots from slot (player_of start (from + 1))
    (map (player_of start) (walk (λ seat. seat + 1) steps (from + 1))) rest
    (λ his found. eqb-true his.seat (from + 1) (find-passes
    (λ (other : StartSeat). other.seat == from + 1) start.seats his found))
    first here
    (sum-along start number slots steps (from + 1) rest
    (λ index. ap (λ (n : ℕ). slice_index_or slots n None) (next index) ∙ at (suc index)) later)
  where
    next : (index : ℕ) → from + 1 + index ≡ from + suc index
    next index = omega arith

-- The numbers of the players of a street, by the players of the start in turn and by slots.
pub sum-of_street : (start : HandStart) (number : Player → ℕ) (slots : List (Option Player)) → IsLawfulStart start
    → map is_some slots ≡ map is_some (players_by_seat start)
    → sum_by (number_of number slots) start.seats ≡ sum_over number slots
sum-of_street start number slots lawful there =
    sym (sum-of_start start (number_of number slots) lawful)
    ∙ sum-along start number slots 10 0 slots (λ index. ap (λ (n : ℕ). slice_index_or slots n None) (zero-add index))
    there

-- The seat of who is listed at an index is one of ten, where all are.
pub seat-within : (players : List StartSeat) (index : ℕ) (other : StartSeat)
    → list_all (λ player. is_between 1 10 player.seat) players ≡ true
    → index < length players → (1 ≤ (slice_index_or players index other).seat) ×
    ((slice_index_or players index other).seat ≤ 10)
seat-within players index other all within =
    let seat = (slice_index_or players index other).seat in
    let parts = and_parts (nat_le 1 seat) (nat_le seat 10)
    (AllPass-from_list_all (λ (player : StartSeat). is_between 1 10 player.seat) players all index other within) in
    (leb-true 1 seat parts.0, leb-true seat 10 parts.1)

-- What is made of who is in each slot, by two functions that say the same of nobody and of each player.
pub map-slots : {A B : Type 0} (made : A → B) (nobody : B) (f : Option A → B) → nobody ≡ f None
    → ((player : A) → made player ≡ f (Some player)) → (slots : List (Option A))
    → map (λ slot. option_map_or made slot nobody) slots ≡ map f slots
map-slots made nobody f none some [] = refl
map-slots made nobody f none some (None ∷ slots) = ap₂ (λ x xs. x ∷ xs) none (map-slots made nobody f none some slots)
map-slots made nobody f none some (Some player ∷ slots) =
    ap₂ (λ x xs. x ∷ xs) (some player) (map-slots made nobody f none some slots)
