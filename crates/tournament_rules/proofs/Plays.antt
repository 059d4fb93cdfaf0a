-- A tournament whose plan is whole is valid after each event: its book is, and each hand that is played is a lawful
-- play of its start.
use Rattle.std.proofs.Common.{◌≡◌, ◌∙◌, refl, sym, ap, subst, ℕ, ◌+◌, ◌<◌, true, false, ◌==◌, List, [], ◌∷◌, ◌++◌, length, inl, inr, arith, length-set}
use Rattle.std.specs.Prelude.{replicate, slice_set, Option, Some, None, option_map, option_and_then}
use Rattle.std.specs.Option.{option_map_or, ForSome}
use Rattle.std.proofs.lemmas.Bool.{cases_Bool, eqb-true}
use Rattle.std.proofs.lemmas.List.{get_or-set_same, get_or-set_other, length-replicate}
use Rattle.std.proofs.lemmas.Option.{same_Some}
use Rattle.rulebook.proofs.Tests.{some_there}
use Rattle.card_set.specs.declared.card.CardRow.{CardRow}
use Rattle.betting_round.specs.declared.act.Act.{Act}
use Rattle.level_plan.specs.Plans.{PlanTerms, is_right}
use Rattle.table_engine.specs.declared.start.HandStart.{HandStart}
use Rattle.table_engine.specs.declared.record.ActOf.{ActOf}
use Rattle.table_engine.specs.Hands.{HandTerms, is_over}
use Rattle.table_engine.specs.Acts.{hand_after_time}
use Rattle.table_engine.specs.Plays.{IsLawfulPlay}
use Rattle.table_engine.proofs.Plays.{lawful_play-none, lawful_play-more}
use Rattle.table_engine.proofs.TurnLaws.{lawful_play-time}
use Rattle.tournament_events.specs.declared.event.Event.{Event}
use Rattle.tournament_events.specs.declared.event.Event.TheVariants as events
use Rattle.tournament_rules.specs.Books.{BookState, start_at}
use Rattle.tournament_rules.specs.Checks.{book_refusal}
use Rattle.tournament_rules.specs.Dealing.{next_start}
use Rattle.tournament_rules.specs.Effects.{settled, stopped_book}
use Rattle.tournament_rules.specs.States.{PlayState, first_play, acts_at, hand_at, refusal_of, play_effect}
use Rattle.tournament_rules.specs.Valid.{IsValid, IsValidPlay, IsStartAt}
use Rattle.tournament_rules.specs.Apart.{hand_refusal}
use Rattle.tournament_rules.proofs.Fitting.{table_range, other_number, table_started}
use Rattle.tournament_rules.proofs.Ends.{left-void_first, valid_settled, valid_stopped, none_started-stopped}
use Rattle.tournament_rules.proofs.Passed.{passed-parts, act_passed, time_passed, settle_passed, end_passed, plan_late, go_late}
use Rattle.tournament_rules.proofs.Entries.{valid_first, valid_entered, valid_reentered, start_none}
use Rattle.tournament_rules.proofs.Begins.{may_begin, valid_begun}
use Rattle.tournament_rules.proofs.Balances.{valid_balanced}
use Rattle.tournament_rules.proofs.Breaks.{valid_broken}
use Rattle.tournament_rules.proofs.Levels.{valid_leveled}
use Rattle.tournament_rules.proofs.Races.{valid_raced}
use Rattle.tournament_rules.proofs.Rounds.{valid_with_hands, valid_round_ended}

-- the hand of a start, if there is one, and its acts
abbrev hand_from : Option HandStart → List ActOf → Option HandTerms
hand_from start acts = option_map (λ start. record { start = start; acts = acts }) start

-- The hand that is played at a table, if one is, is a lawful play of its start.
abbrev IsLawfulAt : List (Option HandStart) → List (List ActOf) → ℕ → Type 0
IsLawfulAt started acts table = ForSome (hand_from (start_at started table) (acts_at acts table)) IsLawfulPlay

-- What is so at a table, and at each other, is so at each.
at_each : (P : ℕ → Type 0) (table : ℕ) → P table → ((other : ℕ) → (table == other) ≡ false → P other) → (other : ℕ)
    → P other
at_each P table here elsewhere other = elim (cases_Bool (table == other)) [
  | inl same ↦ subst P (eqb-true table other same) here
  | inr differ ↦ elsewhere other differ
]

-- The hands that are played are lawful plays once the start and the acts at a table are others.
plays_changed : (started : List (Option HandStart)) (acts : List (List ActOf)) (table : ℕ) (start : Option HandStart)
    (new : List ActOf) → table < length started → table < length acts → ((other : ℕ) → IsLawfulAt started acts other)
    → ForSome (hand_from start new) IsLawfulPlay
    → (other : ℕ) → IsLawfulAt (slice_set started table start) (slice_set acts table new) other
plays_changed started acts table start new within room plays here =
    at_each (IsLawfulAt (slice_set started table start) (slice_set acts table new)) table
    (rw (get_or-set_same started table start None within, get_or-set_same acts table new [] room) here)
    (λ other differ.
    let apart = other_number table other differ in
    rw (get_or-set_other started table other start None apart, get_or-set_other acts table other new [] apart)
    (plays other))

-- The same where the acts alone are others.
acts_changed : (started : List (Option HandStart)) (acts : List (List ActOf)) (table : ℕ) (new : List ActOf)
    → table < length acts → ((other : ℕ) → IsLawfulAt started acts other)
    → ForSome (hand_from (start_at started table) new) IsLawfulPlay
    → (other : ℕ) → IsLawfulAt started (slice_set acts table new) other
acts_changed started acts table new room plays here =
    at_each (IsLawfulAt started (slice_set acts table new)) table
    (rw (get_or-set_same acts table new [] room) here)
    (λ other differ. rw (get_or-set_other acts table other new [] (other_number table other differ)) (plays other))

-- What is so of an item is so of whatever an option that has it has.
pub some_so : {A : Type 0} (P : A → Type 0) (item : A) → P item → ForSome (Some item) P
some_so P item so = λ found is. subst P (same_Some item found is) so

-- After a hand began.
play_begun : (play : PlayState) (table : ℕ) (row : CardRow) → IsValidPlay play
    → book_refusal play.book (events.Begin table row) ≡ None → IsValidPlay (play_effect play (events.Begin table row))
play_begun play table row valid none =
    let range = table_range 1 play.book.plan.tables table (may_begin play.book table row none).there in
    let started = valid.book.tables.room in
    let room = valid.room in
    let start = next_start play.book table row.cards in
    record {
      book = valid_begun play.book table row valid.book none;
      room = length-set play.acts table [] ∙ valid.room;
      plays = plays_changed play.book.started play.acts table (Some start) [] (omega (arith, range.1, started))
          (omega (arith, range.1, room)) valid.plays
          (some_so IsLawfulPlay (record { start = start; acts = [] }) (lawful_play-none start));
    }

-- After an act.
play_acted : (play : PlayState) (table : ℕ) (name : List ℕ) (act : Act) → IsValidPlay play
    → book_refusal play.book (events.Act table name act) ≡ None
    → option_and_then (hand_refusal (events.Act table name act)) (hand_at play table) ≡ None
    → IsValidPlay (play_effect play (events.Act table name act))
play_acted play table name act valid none free =
    let range = table_range 1 play.book.plan.tables table (act_passed play.book table name act none).there in
    let room = valid.room in
    let new : ActOf = record { name = name; act = act; by_time = false } in
    record {
      book = valid.book;
      room = length-set play.acts table (acts_at play.acts table ++ new ∷ []) ∙ valid.room;
      plays = acts_changed play.book.started play.acts table (acts_at play.acts table ++ new ∷ [])
          (omega (arith, range.1, room)) valid.plays
          (by_start (start_at play.book.started table) (acts_at play.acts table) free (valid.plays table));
    }
  where
    by_start : (start : Option HandStart) (acts : List ActOf)
        → option_and_then (hand_refusal (events.Act table name act)) (hand_from start acts) ≡ None
        → ForSome (hand_from start acts) IsLawfulPlay
        → ForSome (hand_from start (acts ++ (record { name = name; act = act; by_time = false }) ∷ [])) IsLawfulPlay
    by_start None acts free lawful = λ hand is. absurd cc
    by_start (Some start) acts free lawful =
        let hand : HandTerms = record { start = start; acts = acts } in
        some_so IsLawfulPlay _
        (lawful_play-more hand (record { name = name; act = act; by_time = false }) (lawful hand refl) free
        (λ by_time. absurd cc))

-- the acts of a hand once time is called, where one is played
abbrev acts_in_time : Option HandTerms → List ActOf
acts_in_time hand = option_map_or (λ hand. (hand_after_time hand).acts) hand []

-- After a called time.
play_timed : (play : PlayState) (table : ℕ) → IsValidPlay play → book_refusal play.book (events.Time table) ≡ None
    → option_and_then (hand_refusal (events.Time table)) (hand_at play table) ≡ None
    → IsValidPlay (play_effect play (events.Time table))
play_timed play table valid none free =
    let range = table_range 1 play.book.plan.tables table (time_passed play.book table none).there in
    let room = valid.room in
    record {
      book = valid.book;
      room = length-set play.acts table (acts_in_time (hand_at play table)) ∙ valid.room;
      plays = acts_changed play.book.started play.acts table (acts_in_time (hand_at play table))
          (omega (arith, range.1, room)) valid.plays
          (by_start (start_at play.book.started table) (acts_at play.acts table) (valid.book.hands.starts table) free
          (valid.plays table));
    }
  where
    by_start : (start : Option HandStart) (acts : List ActOf)
        → ForSome start (IsStartAt play.book.plan play.book.seating.tables table)
        → option_and_then (hand_refusal (events.Time table)) (hand_from start acts) ≡ None
        → ForSome (hand_from start acts) IsLawfulPlay
        → ForSome (hand_from start (acts_in_time (hand_from start acts))) IsLawfulPlay
    by_start None acts started free lawful = λ hand is. absurd cc
    by_start (Some start) acts started free lawful =
        let hand : HandTerms = record { start = start; acts = acts } in
        some_so IsLawfulPlay (hand_after_time hand)
        (lawful_play-time hand (started start refl).lawful (lawful hand refl) free)

-- the tournament once a hand at a table is settled
abbrev settled_at : PlayState → ℕ → HandTerms → PlayState
settled_at play table hand = record { book = settled play.book hand; acts = slice_set play.acts table [] }

-- After a settle of the hand with the start that the book has.
settled_from : (play : PlayState) (table : ℕ) (start : HandStart) → IsValidPlay play
    → start_at play.book.started table ≡ Some start
    → is_over (record { start = start; acts = acts_at play.acts table }) ≡ true
    → IsValidPlay (settled_at play table (record { start = start; acts = acts_at play.acts table }))
settled_from play table start valid is over =
    let hand : HandTerms = record { start = start; acts = acts_at play.acts table } in
    let here : start.table ≡ table = (valid.book.hands.starts table start is).here in
    let there : start_at play.book.started start.table ≡ Some start = ap (start_at play.book.started) here ∙ is in
    let listed = table_started play.book.plan play.book.seating play.book.started table start valid.book.tables is in
    let range = table_range 1 play.book.plan.tables table listed in
    let started = valid.book.tables.room in
    let room = valid.room in
    let found = ap (λ (start : Option HandStart). hand_from start (acts_at play.acts table)) is in
    let plays = plays_changed play.book.started play.acts table None [] (omega (arith, range.1, started))
    (omega (arith, range.1, room)) valid.plays (λ hand is. absurd cc) in
    record {
      book = valid_settled play.book hand valid.book there (valid.plays table hand found) over;
      room = length-set play.acts table [] ∙ valid.room;
      plays = λ other. subst
          (λ (number : ℕ). IsLawfulAt (slice_set play.book.started number None) (slice_set play.acts table []) other)
          (sym here) (plays other);
    }

-- After a settle.
play_settled : (play : PlayState) (table : ℕ) → IsValidPlay play → book_refusal play.book (events.Settle table) ≡ None
    → option_and_then (hand_refusal (events.Settle table)) (hand_at play table) ≡ None
    → IsValidPlay (play_effect play (events.Settle table))
play_settled play table valid none free =
    let playing = (settle_passed play.book table none).playing in
    let found = some_there (start_at play.book.started table) (sym (valid.book.tables.playing table) ∙ playing) in
    let hand : HandTerms = record { start = found.0; acts = acts_at play.acts table } in
    let is : hand_at play table ≡ Some hand = ap
    (λ (start : Option HandStart). hand_from start (acts_at play.acts table)) found.1 in
    let over = end_passed hand (rw is at free) in
    subst (λ (hand : Option HandTerms). IsValidPlay
    (record { book = option_map_or (settled play.book) hand play.book; acts = slice_set play.acts table [] }))
    (sym is)
    (settled_from play table found.0 valid found.1 over)

-- After the end.
play_stopped : (play : PlayState) → IsValidPlay play → IsValidPlay (play_effect play events.Stop)
play_stopped play valid = record {
  book = valid_stopped play.book valid.book;
  room = length-replicate (length play.acts) [] ∙
      (valid.room ∙ ap (λ (tables : ℕ). tables + 1)
      (sym (left-void_first (λ book. book.plan.tables)
      (record { same = λ book table payees. refl }) play.book play.book.plan.tables)));
  plays = λ table. nobody (start_at (stopped_book play.book).started table)
      (acts_at (replicate (length play.acts) []) table) (none_started-stopped play.book table valid.book);
}
  where
    nobody : (start : Option HandStart) (acts : List ActOf) → start ≡ None → ForSome (hand_from start acts) IsLawfulPlay
    nobody start acts none = rw none (λ hand is. absurd cc)

-- After an order of the book, which leaves the hands as they are, where the book is valid after it.
ordered : (play : PlayState) (event : Event) (after : BookState) → IsValidPlay play → refusal_of play event ≡ None
    → (book_refusal play.book event ≡ None → IsValid after) → after.plan.tables ≡ play.book.plan.tables
    → after.started ≡ play.book.started → IsValidPlay (record { book = after; acts = play.acts })
ordered play event after valid none book tables started = record {
  book = book (passed-parts play event none).0;
  room = valid.room ∙ ap (λ (tables : ℕ). tables + 1) (sym tables);
  plays = λ table. subst (λ (started : List (Option HandStart)). IsLawfulAt started play.acts table) (sym started)
      (valid.plays table);
}

-- An event that is not refused leaves a tournament valid.
pub play_keeps : (play : PlayState) (event : Event) → IsValidPlay play → refusal_of play event ≡ None
    → IsValidPlay (play_effect play event)
play_keeps play (events.Plan line) valid none =
    absurd (plan_late play.book line (passed-parts play (events.Plan line) none).0)
play_keeps play events.Go valid none = absurd (go_late play.book (passed-parts play events.Go none).0)
play_keeps play (events.Enter name table seat) valid none =
    ordered play (events.Enter name table seat) _ valid none
    (valid_entered play.book name table seat valid.book) refl refl
play_keeps play (events.Reenter name table seat) valid none =
    ordered play (events.Reenter name table seat) _ valid none
    (valid_reentered play.book name table seat valid.book) refl refl
play_keeps play (events.Begin table row) valid none =
    play_begun play table row valid (passed-parts play (events.Begin table row) none).0
play_keeps play (events.Act table name act) valid none =
    let parts = passed-parts play (events.Act table name act) none in
    play_acted play table name act valid parts.0 parts.1
play_keeps play (events.Time table) valid none =
    let parts = passed-parts play (events.Time table) none in
    play_timed play table valid parts.0 parts.1
play_keeps play (events.Settle table) valid none =
    let parts = passed-parts play (events.Settle table) none in
    play_settled play table valid parts.0 parts.1
play_keeps play (events.Balance from to) valid none =
    ordered play (events.Balance from to) _ valid none (valid_balanced play.book from to valid.book) refl refl
play_keeps play (events.Break table places names) valid none =
    ordered play (events.Break table places names) _ valid none
    (valid_broken play.book table places names valid.book) refl refl
play_keeps play events.Level valid none =
    ordered play events.Level _ valid none (valid_leveled play.book valid.book) refl refl
play_keeps play (events.Race table row) valid none =
    ordered play (events.Race table row) _ valid none (valid_raced play.book table row valid.book) refl refl
play_keeps play (events.Hands on) valid none =
    ordered play (events.Hands on) _ valid none (λ free. valid_with_hands play.book on valid.book) refl refl
play_keeps play events.Round valid none =
    ordered play events.Round _ valid none (λ free. valid_round_ended play.book valid.book) refl refl
play_keeps play events.Stop valid none = play_stopped play valid

-- A tournament is valid before any entry.
pub valid_first_play : (plan : PlanTerms) → is_right plan ≡ true → IsValidPlay (first_play plan)
valid_first_play plan right = record {
  book = valid_first plan right;
  room = length-replicate (plan.tables + 1) [];
  plays = λ table. rw (start_none (plan.tables + 1) table) (λ hand is. absurd cc);
}
