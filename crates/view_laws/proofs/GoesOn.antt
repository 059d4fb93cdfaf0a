-- How the hand that is played at a table goes on at an event: it ends, one begins, it stays as it is, or it has one act
-- more.
use Rattle.std.proofs.Common.{◌≡◌, ◌∙◌, refl, ap, subst, ℕ, ◌+◌, ◌<◌, Bool, true, false, List, [], ◌∷◌, ◌++◌, length, inl, inr, arith}
use Rattle.std.specs.Prelude.{◌==◌, replicate, slice_set, Option, Some, None, option_map, option_and_then, if◌then◌else◌}
use Rattle.std.specs.Option.{option_map_or, ForSome}
use Rattle.std.proofs.lemmas.Bool.{cases_Bool, eqb-true}
use Rattle.std.proofs.lemmas.List.{get_or-set_same, get_or-set_other}
use Rattle.std.proofs.lemmas.Option.{same_Some}
use Rattle.card_set.specs.declared.card.CardRow.{CardRow}
use Rattle.betting_round.specs.declared.act.Act.{Act}
use Rattle.level_plan.specs.Drafts.{Draft, plan_of}
use Rattle.table_engine.specs.declared.start.HandStart.{HandStart}
use Rattle.table_engine.specs.declared.record.ActOf.{ActOf}
use Rattle.table_engine.specs.Hands.{HandTerms}
use Rattle.table_engine.specs.Acts.{hand_after_time, refusal_of_time, time_act}
use Rattle.table_engine.specs.Plays.{IsLawfulPlay}
use Rattle.table_engine.specs.Starts.{IsLawfulStart}
use Rattle.table_engine.proofs.Plays.{lawful_play-each}
use Rattle.table_engine.proofs.TurnLaws.{lawful_play-time}
use Rattle.tournament_events.specs.declared.event.Event.{Event}
use Rattle.tournament_events.specs.declared.event.Event.TheVariants as events
use Rattle.tournament_rules.specs.Books.{start_at}
use Rattle.tournament_rules.specs.Dealing.{next_start}
use Rattle.tournament_rules.specs.Effects.{settled}
use Rattle.tournament_rules.specs.States.{State, PlayState, no_acts, acts_at, hand_at, refusal_of, play_effect, answer_to, is_accepted, accepted, state_after}
use Rattle.tournament_rules.specs.Valid.{IsValidPlay, IsValidState}
use Rattle.tournament_rules.proofs.Fitting.{table_range, other_number}
use Rattle.tournament_rules.proofs.Begins.{may_begin, none_started}
use Rattle.tournament_rules.proofs.Ends.{none_started-stopped}
use Rattle.tournament_rules.proofs.Entries.{start_none}
use Rattle.tournament_rules.proofs.Passed.{passed-parts, settle_passed}
use Rattle.tournament_rules.proofs.PlayedHands.{hand_there}
use Rattle.tournament_rules.proofs.Acting.{may_act, started_at}
use Rattle.tournament_rules.proofs.Steps.{accepted_none}
use Rattle.view_rules.specs.Seen.{hand_in}
use Rattle.view_rules.specs.Entries.{begun, with_act, IsLawfulAct}

-- A hand begins where none was played, with the cards of the row.
pub record HasBegun (before : Option HandTerms) (event : Event) (table : ℕ) (after : Option HandTerms) : Type 0 where
  pub none : before ≡ None
  pub row : CardRow
  pub is : event ≡ events.Begin table row
  pub start : HandStart
  pub deck : start.deck ≡ row.cards
  pub now : after ≡ Some (begun start)

-- The hand has one act more, which is lawful.
pub record HasActed (before after : Option HandTerms) : Type 0 where
  pub hand : HandTerms
  pub act : ActOf
  pub was : before ≡ Some hand
  pub lawful : IsLawfulAct hand act
  pub now : after ≡ Some (with_act act hand)

-- How the hand at a table goes on.
pub data GoesOn (before : Option HandTerms) (event : Event) (table : ℕ) (after : Option HandTerms) : Type 0 where
  -- no hand is played there now
  Ends : after ≡ None → GoesOn before event table after
  -- it is as before
  Stays : after ≡ before → GoesOn before event table after
  -- one has begun
  Begins : HasBegun before event table after → GoesOn before event table after
  -- it has one act more
  Acts : HasActed before after → GoesOn before event table after

-- the hand of a start with these acts, where there is a start
abbrev hand_from : Option HandStart → List ActOf → Option HandTerms
hand_from start acts = option_map (λ start. record { start = start; acts = acts }) start

-- What is so at a table, and at each other, is so at each.
at_each : (P : ℕ → Type 0) (table : ℕ) → P table → ((other : ℕ) → (table == other) ≡ false → P other) → (other : ℕ)
    → P other
at_each P table here elsewhere other = elim (cases_Bool (table == other)) [
  | inl same ↦ subst P (eqb-true table other same) here
  | inr differ ↦ elsewhere other differ
]

-- A hand with other acts is that of its start with them.
with-acts : (start : Option HandStart) (acts new : List ActOf) (hand : HandTerms) → hand_from start acts ≡ Some hand
    → hand_from start new ≡ Some (record hand { acts = new })
with-acts None acts new hand is = absurd cc
with-acts (Some start) acts new hand is =
    ap (λ (hand : HandTerms). Some (record hand { acts = new }))
    (same_Some (record { start = start; acts = acts }) hand is)

-- A hand with one act more is that of its start with one act more.
with-more : (start : Option HandStart) (acts : List ActOf) (act : ActOf) (hand : HandTerms)
    → hand_from start acts ≡ Some hand → hand_from start (acts ++ act ∷ []) ≡ Some (with_act act hand)
with-more None acts act hand is = absurd cc
with-more (Some start) acts act hand is =
    ap (λ (hand : HandTerms). Some (with_act act hand)) (same_Some (record { start = start; acts = acts }) hand is)

-- At a begin.
begin-goes_on : (play : PlayState) (at : ℕ) (row : CardRow) → IsValidPlay play
    → refusal_of play (events.Begin at row) ≡ None → (table : ℕ)
    → GoesOn (hand_at play table) (events.Begin at row) table (hand_at (play_effect play (events.Begin at row)) table)
begin-goes_on play at row valid free =
    let may = may_begin play.book at row (passed-parts play (events.Begin at row) free).0 in
    let range = table_range 1 play.book.plan.tables at may.there in
    let started = valid.book.tables.room in
    let room = valid.room in
    let start = next_start play.book at row.cards in
    let within : at < length play.book.started = omega (arith, range.1, started) in
    let inside : at < length play.acts = omega (arith, range.1, room) in
    at_each
    (λ table. GoesOn (hand_at play table) (events.Begin at row) table
    (hand_at (play_effect play (events.Begin at row)) table)) at
    (Begins (record {
      none = ap (λ (start : Option HandStart). hand_from start (acts_at play.acts at))
          (none_started play.book at valid.book may.rests);
      row = row;
      is = refl;
      start = start;
      deck = refl;
      now = λ i. hand_from (get_or-set_same play.book.started at (Some start) None within i)
          (get_or-set_same play.acts at [] [] inside i);
    }))
    (λ table differ. Stays (λ i.
    hand_from (get_or-set_other play.book.started at table (Some start) None (other_number at table differ) i)
    (get_or-set_other play.acts at table [] [] (other_number at table differ) i)))

-- At an act.
act-goes_on : (play : PlayState) (at : ℕ) (name : List ℕ) (act : Act) → IsValidPlay play
    → refusal_of play (events.Act at name act) ≡ None → (table : ℕ)
    → GoesOn (hand_at play table) (events.Act at name act) table
    (hand_at (play_effect play (events.Act at name act)) table)
act-goes_on play at name act valid free =
    let may = may_act play at valid (events.Act at name act) refl free in
    let range = table_range 1 play.book.plan.tables at (started_at play at may.hand valid may.started).there in
    let room = valid.room in
    let inside : at < length play.acts = omega (arith, range.1, room) in
    let entry : ActOf = record { name = name; act = act; by_time = false } in
    let more = acts_at play.acts at ++ entry ∷ [] in
    at_each
    (λ table. GoesOn (hand_at play table) (events.Act at name act) table
    (hand_at (play_effect play (events.Act at name act)) table)) at
    (Acts (record {
      hand = may.hand;
      act = entry;
      was = may.started;
      lawful = record { free = may.free; timed = λ by_time. absurd cc };
      now = ap (hand_from (start_at play.book.started at)) (get_or-set_same play.acts at more [] inside)
          ∙ with-more (start_at play.book.started at) (acts_at play.acts at) entry may.hand may.started;
    }))
    (λ table differ. Stays (ap (hand_from (start_at play.book.started table))
    (get_or-set_other play.acts at table more [] (other_number at table differ))))

-- the acts of a hand once time is called, where one is played
abbrev acts_in_time : Option HandTerms → List ActOf
acts_in_time hand = option_map_or (λ hand. (hand_after_time hand).acts) hand []

-- The act that a called time makes is lawful where the called time is.
time-lawful : (hand : HandTerms) → IsLawfulStart hand.start → IsLawfulPlay hand → refusal_of_time hand ≡ None
    → IsLawfulAct hand (time_act hand)
time-lawful hand lawful play free = record {
  free = lawful_play-each (hand_after_time hand) hand.acts (time_act hand) []
      (lawful_play-time hand lawful play free) refl;
  timed = λ by_time. refl;
}

-- At a called time.
time-goes_on : (play : PlayState) (at : ℕ) → IsValidPlay play → refusal_of play (events.Time at) ≡ None → (table : ℕ)
    → GoesOn (hand_at play table) (events.Time at) table (hand_at (play_effect play (events.Time at)) table)
time-goes_on play at valid free =
    let may = may_act play at valid (events.Time at) refl free in
    let there = started_at play at may.hand valid may.started in
    let range = table_range 1 play.book.plan.tables at there.there in
    let room = valid.room in
    let inside : at < length play.acts = omega (arith, range.1, room) in
    let more = acts_in_time (hand_at play at) in
    let lawful = (valid.book.hands.starts at may.hand.start there.started).lawful in
    let played = valid.plays at may.hand may.started in
    at_each
    (λ table. GoesOn (hand_at play table) (events.Time at) table (hand_at (play_effect play (events.Time at)) table)) at
    (Acts (record {
      hand = may.hand;
      act = time_act may.hand;
      was = may.started;
      lawful = time-lawful may.hand lawful played may.free;
      now = ap (hand_from (start_at play.book.started at)) (get_or-set_same play.acts at more [] inside
          ∙ ap acts_in_time may.started)
          ∙ with-acts (start_at play.book.started at) (acts_at play.acts at) (may.hand.acts ++ time_act may.hand ∷ [])
          may.hand may.started;
    }))
    (λ table differ. Stays (ap (hand_from (start_at play.book.started table))
    (get_or-set_other play.acts at table more [] (other_number at table differ))))

-- At a settle.
settle-goes_on : (play : PlayState) (at : ℕ) → IsValidPlay play → refusal_of play (events.Settle at) ≡ None
    → (table : ℕ)
    → GoesOn (hand_at play table) (events.Settle at) table (hand_at (play_effect play (events.Settle at)) table)
settle-goes_on play at valid free =
    let may = settle_passed play.book at (passed-parts play (events.Settle at) free).0 in
    let range = table_range 1 play.book.plan.tables at may.there in
    let started = valid.book.tables.room in
    let within : at < length play.book.started = omega (arith, range.1, started) in
    let played = hand_there play at valid may.playing in
    let acts = slice_set play.acts at [] in
    let number = played.hand.start.table in
    at_each
    (λ table. GoesOn (hand_at play table) (events.Settle at) table
    (hand_at (play_effect play (events.Settle at)) table)) at
    (Ends
    (ap (λ (hand : Option HandTerms). hand_at
    (record { book = option_map_or (settled play.book) hand play.book; acts = acts }) at) played.is
    ∙ ap (λ (start : Option HandStart). hand_from start (acts_at acts at))
    (ap (λ (number : ℕ). start_at (slice_set play.book.started number None) at) played.here
    ∙ get_or-set_same play.book.started at None None within)))
    (λ table differ. let apart = other_number at table differ in Stays
    (ap (λ (hand : Option HandTerms). hand_at
    (record { book = option_map_or (settled play.book) hand play.book; acts = acts }) table) played.is
    ∙ (λ i. hand_from
    (get_or-set_other play.book.started number table None None (λ same. apart (same ∙ played.here)) i)
    (get_or-set_other play.acts at table [] [] apart i))))

-- At any event that is not refused.
play-goes_on : (play : PlayState) (event : Event) (table : ℕ) → IsValidPlay play → refusal_of play event ≡ None
    → GoesOn (hand_at play table) event table (hand_at (play_effect play event) table)
play-goes_on play (events.Begin at row) table valid free = begin-goes_on play at row valid free table
play-goes_on play (events.Act at name act) table valid free = act-goes_on play at name act valid free table
play-goes_on play (events.Time at) table valid free = time-goes_on play at valid free table
play-goes_on play (events.Settle at) table valid free = settle-goes_on play at valid free table
play-goes_on play events.Stop table valid free =
    Ends (ap (λ (start : Option HandStart). hand_from start (acts_at (replicate (length play.acts) []) table))
    (none_started-stopped play.book table valid.book))
play-goes_on play _ table valid free = Stays refl

-- At any event.
pub state-goes_on : (state : State) (event : Event) (table : ℕ) → IsValidState state
    → GoesOn (hand_in state table) event table (hand_in (state_after state event) table)
state-goes_on state event table valid = by_answer (is_accepted (answer_to state event)) refl
  where
    by_play : (draft : Draft) (play : Option PlayState) (count : ℕ) (event : Event) → ForSome play IsValidPlay
        → is_accepted (answer_to (record { draft = draft; play = play; accepted = count }) event) ≡ true
        → GoesOn (option_and_then (λ play. hand_at play table) play) event table
        (hand_in (accepted (record { draft = draft; play = play; accepted = count }) event) table)
    by_play draft None count events.Go valid taken =
        let plan = plan_of draft in
        Ends (ap (λ (start : Option HandStart). hand_from start (acts_at (no_acts plan.tables) table))
        (start_none (plan.tables + 1) table))
    by_play draft None count _ valid taken = Stays refl
    by_play draft (Some play) count event valid taken =
        play-goes_on play event table (valid play refl) (accepted_none (refusal_of play event) taken)

    by_answer : (taken : Bool) → is_accepted (answer_to state event) ≡ taken
        → GoesOn (hand_in state table) event table
        (hand_in (if taken then accepted state event else state) table)
    by_answer true is = by_play state.draft state.play state.accepted event valid.play is
    by_answer false is = Stays refl
