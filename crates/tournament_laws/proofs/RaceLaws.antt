-- A race changes its own table alone, and between two levels a table races once at most.
use Rattle.std.proofs.Common.{◌≡◌, ◌≢◌, ◌∙◌, refl, sym, ap, ℕ, zero, suc, ◌+◌, ◌-◌, Bool, true, false, cond, ◌==◌, List, [], ◌∷◌, map, get_or}
use Rattle.std.specs.Prelude.{nat_lt, slice_set, if◌then◌else◌, Option, Some, None}
use Rattle.std.proofs.lemmas.Bool.{ne_eqb}
use Rattle.floor_text.specs.declared.refusal.Refusal.TheVariants.{NoPlan}
use Rattle.card_set.specs.declared.card.CardRow.{CardRow}
use Rattle.level_plan.specs.Plans.{unit_of_level}
use Rattle.seat_book.specs.declared.seated.Seated.{Seated}
use Rattle.seat_book.specs.declared.table_status.TableStatus.{TableStatus}
use Rattle.seat_book.specs.Players.{sits_at, players_at}
use Rattle.seat_book.specs.Tables.{fresh_status, status_at, with_status}
use Rattle.tournament_events.specs.declared.answer.Answer.TheVariants.{Ok, No}
use Rattle.tournament_events.specs.declared.event.Event.{Event}
use Rattle.tournament_events.specs.declared.event.Event.TheVariants.{Level, Race}
use Rattle.tournament_rules.specs.Kinds.{is_level}
use Rattle.tournament_laws.specs.Accepted.{is_any_accepted}
use Rattle.tournament_rules.specs.Players.{with_rest}
use Rattle.tournament_rules.specs.Racing.{announced, raced_off, race_at, restacked}
use Rattle.tournament_rules.specs.States.{State, PlayState, hand_at, hand_about, answer_to, is_accepted, play_effect, play_after, state_after, run}
use Rattle.tournament_laws.proofs.Elsewhere.{kept_after}
use Rattle.tournament_rules.proofs.Fitting.{status_elsewhere}
use Rattle.tournament_laws.proofs.Kept.{IsKept, status_kept, run_keeps, run_some}
use Rattle.tournament_rules.proofs.MoveLaws.{not_refused}
use Rattle.tournament_rules.proofs.Passed.{passed-parts}
use Rattle.tournament_rules.proofs.Paying.{sits_elsewhere}
use Rattle.tournament_rules.proofs.Races.{race_passed}

-- A race leaves the status of each other table.
pub race-tables : (play : PlayState) (table other : ℕ) (row : CardRow) → other ≢ table
    → status_at (play_after play (Race table row)).book.seating.tables other ≡ status_at play.book.seating.tables other
race-tables play table other row apart =
    kept_after (λ play. status_at play.book.seating.tables other) play (Race table row)
    (status_elsewhere play.book.seating.tables table other (raced_off (status_at play.book.seating.tables table))
    (ne_eqb table other (λ same. apart (sym same))))

-- A race leaves the players of each other table.
pub race-players : (play : PlayState) (table other : ℕ) (row : CardRow) → other ≢ table
    → players_at (play_after play (Race table row)).book.seating.players other
    ≡ players_at play.book.seating.players other
race-players play table other row apart =
    kept_after (λ play. players_at play.book.seating.players other) play (Race table row)
    (by_list (race_at play.book.seating table row.cards).stacks play.book.seating.players
    (ne_eqb table other (λ same. apart (sym same))))
  where
    by_list : (stacks : List ℕ) (players : List Seated) → (table == other) ≡ false
        → players_at (map (restacked table stacks) players) other ≡ players_at players other
    by_list stacks [] differ = refl
    by_list stacks (player ∷ players) differ =
        by_table (sits_at table player) refl (by_list stacks players differ)
      where
        by_table : (b : Bool) → sits_at table player ≡ b
            → players_at (map (restacked table stacks) players) other ≡ players_at players other
            → players_at (cond b (with_rest player (get_or stacks (player.place.seat - 1) 0)) player
            ∷ map (restacked table stacks) players) other ≡ players_at (player ∷ players) other
        by_table true is rest = rw (sits_elsewhere player.place.table table other differ is, rest) refl
        by_table false is rest = rw rest refl

-- A race leaves each hand that is played.
pub race-hands : (play : PlayState) (table other : ℕ) (row : CardRow)
    → hand_at (play_after play (Race table row)) other ≡ hand_at play other
race-hands play table other row = kept_after (λ play. hand_at play other) play (Race table row) refl

-- A level leaves each hand that is played, and all stacks.
pub level-hands : (play : PlayState) (table : ℕ) → hand_at (play_after play Level) table ≡ hand_at play table
level-hands play table = kept_after (λ play. hand_at play table) play Level refl

-- A level leaves the players as they are, with their seats and stacks.
pub level-players : (play : PlayState) → (play_after play Level).book.seating.players ≡ play.book.seating.players
level-players play = kept_after (λ play. play.book.seating.players) play Level
    (by_units (nat_lt (unit_of_level play.book.plan.blinds play.book.level)
    (unit_of_level play.book.plan.blinds (play.book.level + 1))))
  where
    by_units : (greater : Bool)
        → (if greater then announced (unit_of_level play.book.plan.blinds (play.book.level + 1)) play.book.seating
        else play.book.seating).players ≡ play.book.seating.players
    by_units true = refl
    by_units false = refl

-- No race is pending at a table.
abbrev IsRaced : TableStatus → Type 0
IsRaced status = status.race ≡ None

raced-here : (tables : List TableStatus) (table : ℕ)
    → IsRaced (status_at (with_status tables table (raced_off (status_at tables table))) table)
raced-here tables zero = refl
raced-here tables (suc below) = by_list tables below
  where
    by_list : (tables : List TableStatus) (below : ℕ)
        → IsRaced (get_or (slice_set tables below (raced_off (get_or tables below fresh_status))) below fresh_status)
    by_list [] below = refl
    by_list (status ∷ tables) zero = refl
    by_list (status ∷ tables) (suc below) = by_list tables below

-- No event but a level makes a race pending.
none-due : (hands : Bool) (event : Event) → is_level event ≡ false → IsKept IsRaced hands event
none-due hands event kind = record {
  plays = λ marks status is. is;
  rests = λ status is. is;
  bares = λ status is. is;
  races = λ status is. refl;
  rises = λ level unit opened status is. let both : true ≡ false = sym level ∙ kind in absurd cc;
  turns = λ turn test status is. is;
}

races_once : (state : State) (between : List Event) (play : PlayState) (table : ℕ) (row other : CardRow)
    → state.play ≡ Some play → answer_to state (Race table row) ≡ Ok
    → is_any_accepted is_level (state_after state (Race table row)) between ≡ false
    → answer_to (run (state_after state (Race table row)) between) (Race table other) ≢ Ok
races_once state between play table row other at taken none again =
    let accepted = ap is_accepted taken in
    let next : (state_after state (Race table row)).play ≡ Some (play_effect play (Race table row)) = rw
    (accepted, at) refl in
    let later = run_some (state_after state (Race table row)) between (play_effect play (Race table row)) next in
    let raced : IsRaced (status_at later.0.book.seating.tables table) =
    run_keeps (λ play. IsRaced (status_at play.book.seating.tables table)) is_level
    (λ play event kind free is. status_kept IsRaced play.book (hand_about play event) event table
    (none-due play.book.seating.hands event kind) is)
    (state_after state (Race table row)) between (play_effect play (Race table row)) later.0 next later.1 none
    (raced-here play.book.seating.tables table) in
    let free = not_refused (run (state_after state (Race table row)) between) later.0
    (Race table other) later.1 again in
    let due = (race_passed later.0.book table other (passed-parts later.0 (Race table other) free).0).due in
    let both = sym raced ∙ due in
    cc

-- Between two levels a table races once at most.
pub races-once : (state : State) (between : List Event) (table : ℕ) (row other : CardRow)
    → answer_to state (Race table row) ≡ Ok
    → is_any_accepted is_level (state_after state (Race table row)) between ≡ false
    → answer_to (run (state_after state (Race table row)) between) (Race table other) ≢ Ok
races-once state between table row other taken = by_play state.play refl
  where
    by_play : (play : Option PlayState) → state.play ≡ play
        → is_any_accepted is_level (state_after state (Race table row)) between ≡ false
        → answer_to (run (state_after state (Race table row)) between) (Race table other) ≢ Ok
    by_play None at = let none : No NoPlan ≡ Ok = rw at at taken in absurd cc
    by_play (Some play) at = races_once state between play table row other at taken
