-- What an accepted act or called time makes of the hand at its table, and what tells of it.
use Rattle.std.proofs.Common.{◌≡◌, ◌∙◌, refl, sym, ap, subst, ℕ, ◌<◌, ◌≤◌, true, false, cond, List, [], ◌∷◌, ◌++◌, length, arith}
use Rattle.std.specs.Prelude.{Bool, Option, Some, None, option_map, unwrap_or, Result, Ok, Err, IfOk}
use Rattle.std.specs.Option.{option_map_or, ForSome}
use Rattle.std.specs.Result.{result_ok}
use Rattle.std.proofs.lemmas.List.{get_or-set_same}
use Rattle.std.proofs.lemmas.Option.{same_Some}
use Rattle.betting_round.specs.declared.act.Done.{Done}
use Rattle.level_plan.specs.Drafts.{Draft}
use Rattle.table_engine.specs.declared.start.HandStart.{HandStart}
use Rattle.table_engine.specs.declared.record.ActOf.{ActOf}
use Rattle.table_engine.specs.Hands.{HandTerms, due_name, streets_of}
use Rattle.table_engine.specs.Acts.{done_of_time, hand_after_time, time_act}
use Rattle.table_engine.proofs.NoCards.{time-deck}
use Rattle.tournament_events.specs.declared.event.Event.{Event}
use Rattle.tournament_events.specs.declared.event.Event.TheVariants as events
use Rattle.tournament_rules.specs.Apart.{hand_refusal}
use Rattle.tournament_rules.specs.Books.{start_at}
use Rattle.tournament_rules.specs.States.{State, PlayState, act_table, acts_at, hand_at, refusal_of, play_effect, answer_to, is_accepted, accepted, state_after}
use Rattle.tournament_rules.specs.Valid.{IsValidPlay, IsValidState}
use Rattle.tournament_rules.proofs.Acting.{by_act, may_act, started_at}
use Rattle.tournament_rules.proofs.Fitting.{table_range}
use Rattle.tournament_rules.proofs.Steps.{accepted_none}
use Rattle.view_rules.specs.Shown.{Viewer}
use Rattle.view_rules.specs.Seen.{hand_in, seen_hand, undealt}
use Rattle.view_rules.specs.Entries.{with_act}
use Rattle.view_rules.specs.Spelling.{TableLine}
use Rattle.view_rules.specs.Lines.{floor_lines, act_lines, lines_of_event}
use Rattle.player_view.specs.Each.{table_text}
use Rattle.player_view.proofs.Left.{left-falls, left-three}
use Rattle.floor_view.specs.Told.{text_between}
use Rattle.floor_view.specs.declared.turns.Turn.{Turn}
use Rattle.floor_view.specs.Turns.{IsTurn, IsTurnOf, act_made}
use Rattle.floor_view.proofs.PlayedAt.{hand_from}

-- the acts of a hand once time is called, where one is played
abbrev acts_in_time : Option HandTerms → List ActOf
acts_in_time hand = option_map_or (λ hand. (hand_after_time hand).acts) hand []

-- A hand with other acts is that of its start with them.
with-acts : (start : Option HandStart) (acts new : List ActOf) (hand : HandTerms) → hand_from start acts ≡ Some hand
    → hand_from start new ≡ Some (record hand { acts = new })
with-acts None acts new hand is = absurd cc
with-acts (Some start) acts new hand is =
    ap (λ (hand : HandTerms). Some (record hand { acts = new }))
    (same_Some (record { start = start; acts = acts }) hand is)

-- A hand with one act more is that of its start with one act more.
with-more : (start : Option HandStart) (acts : List ActOf) (act : ActOf) (hand : HandTerms)
    → hand_from start acts ≡ Some hand → hand_from start (acts ++ act ∷ []) ≡ Some (with_act act hand)
with-more None acts act hand is = absurd cc
with-more (Some start) acts act hand is =
    ap (λ (hand : HandTerms). Some (with_act act hand)) (same_Some (record { start = start; acts = acts }) hand is)

-- An act or a called time is made in the hand at a table of a tournament.
record IsMadeIn (play : PlayState) (table : ℕ) (event : Event) : Type 0 where
  hand : HandTerms
  was : hand_at play table ≡ Some hand
  free : hand_refusal event hand ≡ None
  now : hand_at (play_effect play event) table ≡ Some (with_act (act_made event hand) hand)

-- There is room for the acts at a table where a hand is played.
acts_inside : (play : PlayState) (table : ℕ) (hand : HandTerms) → IsValidPlay play → hand_at play table ≡ Some hand
    → table < length play.acts
acts_inside play table hand valid was =
    let range = table_range 1 play.book.plan.tables table (started_at play table hand valid was).there in
    let room = valid.room in
    omega (arith, range.1, room)

-- One that is not refused is made.
made-play : (play : PlayState) (table : ℕ) → IsValidPlay play → (event : Event) → act_table event ≡ Some table
    → refusal_of play event ≡ None → IsMadeIn play table event
made-play play table valid = by_act (λ event. refusal_of play event ≡ None → IsMadeIn play table event) table
    (λ name act none.
    let may = may_act play table valid (events.Act table name act) refl none in
    let entry : ActOf = record { name = name; act = act; by_time = false } in
    let more = acts_at play.acts table ++ entry ∷ [] in
    record {
      hand = may.hand;
      was = may.started;
      free = may.free;
      now = ap (hand_from (start_at play.book.started table))
          (get_or-set_same play.acts table more [] (acts_inside play table may.hand valid may.started))
          ∙ with-more (start_at play.book.started table) (acts_at play.acts table) entry may.hand may.started;
    })
    (λ none.
    let may = may_act play table valid (events.Time table) refl none in
    let more = acts_in_time (hand_at play table) in
    record {
      hand = may.hand;
      was = may.started;
      free = may.free;
      now = ap (hand_from (start_at play.book.started table))
          (get_or-set_same play.acts table more [] (acts_inside play table may.hand valid may.started)
          ∙ ap acts_in_time may.started)
          ∙ with-acts (start_at play.book.started table) (acts_at play.acts table)
          (may.hand.acts ++ time_act may.hand ∷ []) may.hand may.started;
    })

-- An act or a called time is made in the hand at a table of a state.
pub record IsMade (state : State) (table : ℕ) (event : Event) : Type 0 where
  pub hand : HandTerms
  pub was : hand_in state table ≡ Some hand
  pub free : hand_refusal event hand ≡ None
  pub now : hand_in (state_after state event) table ≡ Some (with_act (act_made event hand) hand)

-- One that is accepted is made.
pub made : (state : State) (table : ℕ) (event : Event) → IsValidState state → act_table event ≡ Some table
    → is_accepted (answer_to state event) ≡ true → IsMade state table event
made state table event valid at taken = by_play state.draft state.play state.accepted valid.play taken
  where
    by_play : (draft : Draft) (play : Option PlayState) (count : ℕ) → ForSome play IsValidPlay
        → is_accepted (answer_to (record { draft = draft; play = play; accepted = count }) event) ≡ true
        → IsMade (record { draft = draft; play = play; accepted = count }) table event
    by_play draft None count valid taken =
        absurd (by_act (λ event. is_accepted (answer_to (record { draft = draft; play = None; accepted = count }) event)
        ≡ true → ⊥) table (λ name act taken. absurd cc) (λ taken. absurd cc) event at taken)
    by_play draft (Some play) count valid taken =
        let state : State = record { draft = draft; play = Some play; accepted = count } in
        let in_play = made-play play table (valid play refl) event at
        (accepted_none (refusal_of play event) taken) in
        record {
          hand = in_play.hand;
          was = in_play.was;
          free = in_play.free;
          now = ap (λ (taken : Bool). hand_in (cond taken (accepted state event) state) table) taken ∙ in_play.now;
        }

-- the lines of an act of a hand, of what is seen of the hand before it and after it, where one is played
abbrev made_lines : Viewer → (HandTerms → ActOf) → Option HandTerms → Option HandTerms → List TableLine
made_lines who make before after =
    option_map_or (λ earlier. option_map_or (act_lines earlier (make earlier.hand))
    (option_map (seen_hand who) after) []) (option_map (seen_hand who) before) []

-- They are those of the act, where it does not depend on the deck.
made-lines : (who : Viewer) (make : HandTerms → ActOf) (act : ActOf) (hand next : HandTerms)
    (before after : Option HandTerms) → before ≡ Some hand → after ≡ Some next → make (undealt hand) ≡ act
    → act_lines (seen_hand who hand) act (seen_hand who next) ≡ made_lines who make before after
unfolding seen_hand
made-lines who make act hand next before after was now same =
    let earlier = sym was in
    let later = sym now in
    ap (λ (act : ActOf). act_lines (seen_hand who hand) act (seen_hand who next)) (sym same)
    ∙ (λ i. made_lines who make (earlier i) (later i))

-- The text of an act or a called time that is made.
pub text-made : (who : Viewer) (state after : State) (table : ℕ) (event : Event) (hand next : HandTerms)
    → act_table event ≡ Some table → hand_in state table ≡ Some hand → hand_in after table ≡ Some next
    → table_text table (act_lines (seen_hand who hand) (act_made event hand) (seen_hand who next))
    ≡ text_between who state event after
unfolding text_between lines_of_event floor_lines
text-made who state after table event hand next at was now =
    by_act (λ event. table_text table (act_lines (seen_hand who hand) (act_made event hand) (seen_hand who next))
    ≡ text_between who state event after) table
    (λ name act. ap (table_text table) (made-lines who
    (λ hand. record { name = name; act = act; by_time = false }) (record { name = name; act = act; by_time = false })
    hand next (hand_in state table) (hand_in after table) was now refl))
    (ap (table_text table) (made-lines who time_act (time_act hand) hand next (hand_in state table)
    (hand_in after table) was now (time-deck hand [])))
    event at

-- What an act or a called time comes to was found before it, and it was made.
pub record IsTold (state after : State) (table : ℕ) (event : Event) (turn : Turn) : Type 0 where
  pub hand : HandTerms
  pub was : hand_in state table ≡ Some hand
  pub now : hand_in after table ≡ Some (with_act (act_made event hand) hand)
  pub turn_is : IsTurn hand (act_made event hand) turn
  pub before : turn.left ≤ 3
  pub left : ForSome (hand_in after table) (λ hand. (streets_of hand).left ≤ turn.left)

-- It is so where what was found is right of each hand that does not refuse the event.
pub told-turn : (state after : State) (table : ℕ) (event : Event) (found : Option Turn) (turn : Turn)
    → IsValidState state → act_table event ≡ Some table → is_accepted (answer_to state event) ≡ true
    → after ≡ state_after state event
    → ((hand : HandTerms) → hand_in state table ≡ Some hand → hand_refusal event hand ≡ None
    → IsTurnOf hand (act_made event hand) found)
    → found ≡ Some turn → IsTold state after table event turn
told-turn state after table event found turn valid at taken is right some =
    let act = made state table event valid at taken in
    let entry = act_made event act.hand in
    let turn_is = subst (λ (found : Option Turn). IsTurnOf act.hand entry found) some
    (right act.hand act.was act.free) in
    let now : hand_in after table ≡ Some (with_act entry act.hand)
    = ap (λ (state : State). hand_in state table) is ∙ act.now in
    let same = turn_is.left in
    let three = left-three act.hand in
    let falls = left-falls act.hand entry in
    let less : (streets_of (with_act entry act.hand)).left ≤ turn.left = omega (arith, same, falls) in
    record {
      hand = act.hand;
      was = act.was;
      now = now;
      turn_is = turn_is;
      before = omega (arith, same, three);
      left = λ hand there. subst (λ (hand : HandTerms). (streets_of hand).left ≤ turn.left)
          (same_Some (with_act entry act.hand) hand (sym now ∙ there)) less;
    }

-- Something was found.
pub some-turn : (state : State) (table : ℕ) (event : Event) (found : Option Turn) → IsValidState state
    → act_table event ≡ Some table → is_accepted (answer_to state event) ≡ true
    → ((hand : HandTerms) → hand_in state table ≡ Some hand → hand_refusal event hand ≡ None
    → IsTurnOf hand (act_made event hand) found)
    → found ≡ None → ⊥
some-turn state table event found valid at taken right none =
    let act = made state table event valid at taken in
    subst (λ (found : Option Turn). IsTurnOf act.hand (act_made event act.hand) found) none
    (right act.hand act.was act.free)

-- What was written of it is what tells of it.
pub written-told : (who : Viewer) (state after : State) (table : ℕ) (event : Event) (turn : Turn)
    (told : IsTold state after table event turn) (old new : List ℕ)
    → act_table event ≡ Some table
    → new ≡ old ++ table_text table (act_lines (seen_hand who told.hand) (act_made event told.hand)
    (seen_hand who (with_act (act_made event told.hand) told.hand)))
    → new ≡ old ++ text_between who state event after
written-told who state after table event turn told old new at written =
    written
    ∙ ap (λ (text : List ℕ). old ++ text)
    (text-made who state after table event told.hand (with_act (act_made event told.hand) told.hand) at told.was
    told.now)

-- What a call that went well gave holds what is so of what it gives.
pub given-so : {A E : Type 0} (P : A → Type 0) (result : Result A E) (value : A) → result_ok result ≡ Some value
    → IfOk result P → P value
given-so P (Ok found) value is so = subst P (same_Some found value is) so
given-so P (Err error) value is so = absurd cc

-- What a called time comes to.
pub turn-time : (hand : HandTerms) (name : List ℕ) (done : Done) (left : ℕ) → due_name hand ≡ Some name
    → done ≡ done_of_time hand → left ≡ (streets_of hand).left
    → IsTurn hand (time_act hand) (record { name = name; done = done; left = left })
unfolding time_act
turn-time hand name done left due comes to = record {
  name = ap (λ (name : Option (List ℕ)). unwrap_or name []) due;
  done = sym comes;
  left = sym to;
}
