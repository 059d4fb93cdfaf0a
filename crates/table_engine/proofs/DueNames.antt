-- Who is due is a player of the hand, so he has a name.
use Rattle.std.proofs.Common.{◌≡◌, ◌∙◌, ℕ, ◌+◌, ◌-◌, List, [], ◌∷◌, Bool, true, false, map, Some, None, refl, ap, sym, inl, inr, arith}
use Rattle.std.specs.Prelude.{Option, ◌==◌, not, nat_lt, find, is_none, option_map, slice_index_or}
use Rattle.std.specs.Option.{is_some}
use Rattle.std.specs.List.{list_all}
use Rattle.std.specs.Str.{bytes_eq}
use Rattle.std.proofs.lemmas.Bool.{and_parts, cases_Bool, not-true}
use Rattle.std.proofs.lemmas.List.Folds.{list_all-map}
use Rattle.std.proofs.lemmas.Slice.Eq.{bytes_eq-Decides}
use Rattle.rulebook.specs.Pairs.{are_distinct}
use Rattle.rulebook.proofs.Tests.{find-all}
use Rattle.betting_round.specs.ActChecks.{facing_in}
use Rattle.betting_round.specs.declared.street.Street.{Street}
use Rattle.betting_round.specs.WhoIsDue.{can_act, due_seat, player_at}
use Rattle.betting_round.proofs.Turns.{due-can_act, due-low, due-may_check, due-may_fold, slot-there}
use Rattle.table_engine.specs.declared.start.HandStart.{HandStart}
use Rattle.table_engine.specs.declared.start.StartSeat.{StartSeat}
use Rattle.table_engine.specs.Hands.{HandTerms, due_in_hand, due_name, name_in_seat, player_of, players_by_seat, seat_of_name, street_of, streets_of}
use Rattle.table_engine.specs.Acts.{act_in_time, limits_on, refusal_in_seat, refusal_of_time, time_act}
use Rattle.table_engine.proofs.BySeat.{along-there, some-at}
use Rattle.table_engine.proofs.Starts.{player_of-seat}

-- Who is due was dealt in at his seat.
pub due-dealt : (start : HandStart) (street : Street) (seat : ℕ)
    → map is_some street.players ≡ map is_some (players_by_seat start) → due_seat street ≡ Some seat
    → is_some (player_of start seat) ≡ true
due-dealt start street seat same due =
    let low = due-low street seat due in
    let slot = slot-there can_act (player_at street.players seat) (due-can_act street seat due) in
    let there : is_some (player_at street.players seat) ≡ true = ap is_some slot.1 in
    let listed : is_some (slice_index_or (players_by_seat start) (seat - 1) None) ≡ true =
    sym (some-at (players_by_seat start) (seat - 1)) ∙ ap (λ tests. slice_index_or tests (seat - 1) false) (sym same)
    ∙ some-at street.players (seat - 1) ∙ there in
    let back : 0 + (seat - 1) + 1 ≡ seat = omega arith in
    ap (λ (n : ℕ). is_some (player_of start n)) (sym back) ∙ along-there (player_of start) 10 0 (seat - 1) listed

named : (slot : Option StartSeat) → is_some slot ≡ true
    → is_none (option_map (λ (player : StartSeat). player.name) slot) ≡ false
named None there = absurd cc
named (Some player) there = refl

-- A name is due exactly where a seat is.
pub due_name-none : (hand : HandTerms) → map is_some (street_of hand).players ≡ map is_some (players_by_seat hand.start)
    → is_none (due_name hand) ≡ is_none (due_in_hand hand)
due_name-none hand same = by_due (due_in_hand hand) refl
  where
    by_due : (due : Option ℕ) → due_in_hand hand ≡ due → is_none (due_name hand) ≡ is_none (due_in_hand hand)
    by_due None is = rw is
    by_due (Some seat) is = rw is (named (player_of hand.start seat)
        (due-dealt hand.start (street_of hand) seat same is))

-- Who is due has a name.
pub due-named : (hand : HandTerms) (seat : ℕ) → map is_some (street_of hand).players
    ≡ map is_some (players_by_seat hand.start) → due_in_hand hand ≡ Some seat → name_in_seat hand.start seat ≡ None → ⊥
due-named hand seat same due none =
    let there = named (player_of hand.start seat) (due-dealt hand.start (street_of hand) seat same due) in
    let nobody : is_none (name_in_seat hand.start seat) ≡ true = ap is_none none in absurd cc

-- Where names are distinct, who is found at a seat is found by his name.
found-by_name : (players : List StartSeat) (seat : ℕ) (player : StartSeat)
    → are_distinct bytes_eq (map (λ (other : StartSeat). other.name) players) ≡ true
    → find (λ other. other.seat == seat) players ≡ Some player
    → find (λ other. bytes_eq other.name player.name) players ≡ Some player
found-by_name [] seat player distinct found = absurd cc
found-by_name (other ∷ players) seat player distinct found =
    let both = and_parts (list_all (λ name. not (bytes_eq other.name name)) (map (λ (o : StartSeat). o.name) players))
    (are_distinct bytes_eq (map (λ (o : StartSeat). o.name) players)) distinct in
    elim (cases_Bool (other.seat == seat)) [
      | inl here ↦
          let first : Some other ≡ Some player = rw here at found in
          let same : other ≡ player = cc in
          let named_so : bytes_eq other.name player.name ≡ true =
          ap (λ (p : StartSeat). bytes_eq other.name p.name) (sym same)
          ∙ (bytes_eq-Decides other.name other.name).1 refl in
          rw named_so first
      | inr elsewhere ↦
          let later : find (λ o. o.seat == seat) players ≡ Some player = rw elsewhere at found in
          let apart = find-all (λ (o : StartSeat). o.seat == seat)
          (λ (o : StartSeat). not (bytes_eq other.name o.name)) players player later
          (sym (list_all-map (λ (name : List ℕ). not (bytes_eq other.name name)) (λ (o : StartSeat). o.name) players)
          ∙ both.0) in
          let differs : bytes_eq other.name player.name ≡ false = not-true (bytes_eq other.name player.name) apart in
          rw differs (found-by_name players seat player both.1 later)
    ]

-- The seat of the name of who is found at a seat is that seat.
pub seat-of_named : (start : HandStart) (seat : ℕ) (name : List ℕ)
    → are_distinct bytes_eq (map (λ (other : StartSeat). other.name) start.seats) ≡ true
    → name_in_seat start seat ≡ Some name
    → seat_of_name start name ≡ Some seat
seat-of_named start seat name distinct named_so = by_player (player_of start seat) refl
  where
    by_player : (slot : Option StartSeat) → player_of start seat ≡ slot → seat_of_name start name ≡ Some seat
    by_player None is =
        let no_name : None ≡ Some name = ap (option_map (λ (p : StartSeat). p.name)) (sym is) ∙ named_so in absurd cc
    by_player (Some player) is =
        let his : Some player.name ≡ Some name = ap (option_map (λ (p : StartSeat). p.name)) (sym is) ∙ named_so in
        let same : player.name ≡ name = cc in
        let found = found-by_name start.seats seat player distinct is in
        let sits = player_of-seat start seat player is in
        ap (λ n. option_map (λ (p : StartSeat). p.seat) (find (λ (o : StartSeat). bytes_eq o.name n) start.seats))
        (sym same)
        ∙ ap (option_map (λ (p : StartSeat). p.seat)) found
        ∙ ap (λ (n : ℕ). Some n) sits

-- A called time is refused where nobody is due alone.
pub time-free : (hand : HandTerms) (seat : ℕ) → due_in_hand hand ≡ Some seat → refusal_of_time hand ≡ None
time-free hand seat due = rw due

-- Who is due is not refused the act that a called time makes of him.
pub time-allowed : (hand : HandTerms) (seat : ℕ) → due_in_hand hand ≡ Some seat
    → refusal_in_seat hand (act_in_time hand seat) seat ≡ None
time-allowed hand seat due = by_test (nat_lt (facing_in (street_of hand) seat).put
    (facing_in (street_of hand) seat).level) refl
  where
    by_test : (short : Bool) → nat_lt (facing_in (street_of hand) seat).put (facing_in (street_of hand) seat).level
        ≡ short → refusal_in_seat hand (act_in_time hand seat) seat ≡ None
    by_test true is = rw is (due-may_fold (limits_on hand.start (streets_of hand)) (street_of hand) seat due)
    by_test false is = rw is (due-may_check (limits_on hand.start (streets_of hand)) (street_of hand) seat due is)

-- The act that a called time makes, by the seat and the name that are due.
pub time_act-is : (hand : HandTerms) (seat : ℕ) (name : List ℕ) → due_in_hand hand ≡ Some seat
    → name_in_seat hand.start seat ≡ Some name
    → time_act hand ≡ record { name = name; act = act_in_time hand seat; by_time = true }
unfolding time_act
time_act-is hand seat name due called = rw (due, called)
