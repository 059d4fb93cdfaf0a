-- In a round of hand-for-hand no table begins twice.
use Rattle.std.proofs.Common.{◌≡◌, ◌≢◌, ◌∙◌, refl, sym, ap, ℕ, zero, suc, Bool, true, false, List, [], ◌∷◌, map, get_or, arith}
use Rattle.std.specs.Prelude.{Some, None}
use Rattle.std.proofs.lemmas.Bool.{and_parts, not-true, both_ways}
use Rattle.rulebook.proofs.Checks.{none_holds}
use Rattle.card_set.specs.declared.card.CardRow.{CardRow}
use Rattle.seat_book.specs.declared.table_status.TableStatus.{TableStatus}
use Rattle.seat_book.specs.Tables.{fresh_status, status_at}
use Rattle.hand_rounds.specs.Rounds.{begun_by, begins_with}
use Rattle.tournament_events.specs.declared.answer.Answer.TheVariants.{Ok}
use Rattle.tournament_events.specs.declared.event.Event.{Event}
use Rattle.tournament_events.specs.declared.event.Event.TheVariants as events
use Rattle.tournament_rules.specs.Books.{BookState}
use Rattle.tournament_rules.specs.Checks.{book_checks, book_refusal, is_playing}
use Rattle.tournament_rules.specs.Dealing.{next_at}
use Rattle.tournament_rules.specs.Effects.{playing_from}
use Rattle.tournament_rules.specs.Kinds.{ends_round}
use Rattle.tournament_laws.specs.Accepted.{is_any_accepted}
use Rattle.tournament_rules.specs.Racing.{announced_table}
use Rattle.tournament_rules.specs.States.{State, PlayState, hand_about, refusal_of, answer_to, is_accepted, play_effect, state_after, run}
use Rattle.tournament_rules.specs.Valid.{IsValidPlay}
use Rattle.tournament_rules.proofs.Begins.{may_begin}
use Rattle.tournament_rules.proofs.Fitting.{table_range, status_here}
use Rattle.tournament_laws.proofs.Kept.{IsKept, status_kept, hands_kept, is_turn, run_keeps, run_some}
use Rattle.tournament_rules.proofs.MoveLaws.{not_refused}
use Rattle.tournament_rules.proofs.Passed.{passed-parts}

begun-playing : (tables : List TableStatus) (table : ℕ)
    → (status_at (map (begun_by (begins_with true)) tables) table).begun ≡ (status_at tables table).playing
begun-playing tables zero = refl
begun-playing tables (suc below) = by_list tables below
  where
    by_list : (tables : List TableStatus) (below : ℕ)
        → (get_or (map (begun_by (begins_with true)) tables) below fresh_status).begun
        ≡ (get_or tables below fresh_status).playing
    by_list [] below = refl
    by_list (status ∷ tables) zero = refl
    by_list (status ∷ tables) (suc below) = by_list tables below

-- While hand-for-hand is on it is not switched on.
pub not_on_again : (book : BookState) → book.seating.hands ≡ true → book_refusal book (events.Hands true) ≡ None → ⊥
unfolding book_refusal
not_on_again book on none =
    let all = none_holds (book_checks book (events.Hands true)) none in
    let going = and_parts _ _ all in
    let off = not-true book.seating.hands (and_parts _ _ going.1).0 in
    both_ways book.seating.hands off on

-- No event but the end of a round switches hand-for-hand, or ends a round, while it is on.
pub no_turn : (play : PlayState) (event : Event) → ends_round event ≡ false → refusal_of play event ≡ None
    → play.book.seating.hands ≡ true → is_turn event ≡ false
no_turn play (events.Hands true) kind free on =
    absurd (not_on_again play.book on (passed-parts play (events.Hands true) free).0)
no_turn play (events.Hands false) kind free on = kind
no_turn play events.Round kind free on = kind
no_turn play _ kind free on = refl

-- A table has begun in the round that is open.
record HasBegun (table : ℕ) (play : PlayState) : Type 0 where
  on : play.book.seating.hands ≡ true
  begun : (status_at play.book.seating.tables table).begun ≡ true

-- It has at each event of the round.
begun_kept : (table : ℕ) (play : PlayState) (event : Event) → ends_round event ≡ false → refusal_of play event ≡ None
    → HasBegun table play → HasBegun table (play_effect play event)
begun_kept table play event kind free has =
    let stays = no_turn play event kind free has.on in
    let keeps : IsKept (λ status. status.begun ≡ true) play.book.seating.hands event = record {
      plays = λ marks status is. has.on;
      rests = λ status is. is;
      bares = λ status is. is;
      races = λ status is. is;
      rises = λ level unit opened status is. by_opened unit opened status is;
      turns = λ turn test status is. let both = sym turn ∙ stays in absurd cc;
    } in
    record {
      on = hands_kept play.book (hand_about play event) event stays ∙ has.on;
      begun = status_kept (λ status. status.begun ≡ true) play.book (hand_about play event) event table keeps has.begun;
    }
  where
    by_opened : (unit : ℕ) (opened : Bool) (status : TableStatus) → status.begun ≡ true
        → (announced_table unit opened status).begun ≡ true
    by_opened unit true status is = is
    by_opened unit false status is = is

-- A table that has begun in a round begins no hand until it ends.
waits : (state : State) (between : List Event) (play : PlayState) (table : ℕ) (row : CardRow) → state.play ≡ Some play
    → HasBegun table play → is_any_accepted ends_round state between ≡ false
    → answer_to (run state between) (events.Begin table row) ≢ Ok
waits state between play table row at has none again =
    let later = run_some state between play at in
    let still = run_keeps (HasBegun table) ends_round
    (begun_kept table) state between play later.0 at later.1 none has in
    let free = not_refused (run state between) later.0 (events.Begin table row) later.1 again in
    let may = may_begin later.0.book table row (passed-parts later.0 (events.Begin table row) free).0 in
    let fresh : (status_at later.0.book.seating.tables table).begun ≡ false = rw still.on at may.fresh in
    let both = sym still.begun ∙ fresh in
    cc

-- A table that begins a hand in a round begins no other until the round ends.
pub begins-once : (state : State) (between : List Event) (play : PlayState) (table : ℕ) (row other : CardRow)
    → state.play ≡ Some play → IsValidPlay play → play.book.seating.hands ≡ true
    → answer_to state (events.Begin table row) ≡ Ok
    → is_any_accepted ends_round (state_after state (events.Begin table row)) between ≡ false
    → answer_to (run (state_after state (events.Begin table row)) between) (events.Begin table other) ≢ Ok
begins-once state between play table row other at valid on taken none =
    let accepted = ap is_accepted taken in
    let next : (state_after state (events.Begin table row)).play ≡ Some (play_effect play (events.Begin table row)) =
    rw (accepted, at) refl in
    let free = not_refused state play (events.Begin table row) at taken in
    let may = may_begin play.book table row (passed-parts play (events.Begin table row) free).0 in
    let range = table_range 1 play.book.plan.tables table may.there in
    let count = valid.book.tables.tables in
    let size = valid.book.tables.lawful.tables in
    let stands = status_here play.book.seating.tables table
    (playing_from (next_at play.book table).marks play.book.seating.hands (status_at play.book.seating.tables table))
    range.0 (omega (arith, range.1, count, size)) in
    waits (state_after state (events.Begin table row)) between (play_effect play (events.Begin table row)) table other
    next (record { on = on; begun = ap (λ (status : TableStatus). status.begun) stands ∙ on }) none

-- A table that plays when hand-for-hand is switched on begins no other hand until the round ends.
pub begins-none : (state : State) (between : List Event) (play : PlayState) (table : ℕ) (other : CardRow)
    → state.play ≡ Some play → is_playing play.book table ≡ true → answer_to state (events.Hands true) ≡ Ok
    → is_any_accepted ends_round (state_after state (events.Hands true)) between ≡ false
    → answer_to (run (state_after state (events.Hands true)) between) (events.Begin table other) ≢ Ok
begins-none state between play table other at playing taken none =
    let accepted = ap is_accepted taken in
    let next : (state_after state (events.Hands true)).play ≡ Some (play_effect play (events.Hands true)) =
    rw (accepted, at) refl in
    waits (state_after state (events.Hands true)) between (play_effect play (events.Hands true)) table other next
    (record { on = refl; begun = begun-playing play.book.seating.tables table ∙ playing }) none
