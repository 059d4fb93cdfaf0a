-- Streams of the first edition are answered as they were.
use Rattle.std.proofs.Common.{◌≡◌, ◌∙◌, refl, sym, ap, subst, ℕ, ◌+◌, ◌*◌, ◌%◌, ◌==◌, Bool, true, List, [], ◌∷◌, ◌++◌, length, map, arith}
use Rattle.std.specs.Prelude.{nat_le, not, ◌&&◌, ◌||◌, slice_set, if◌then◌else◌, Option, Some, None, is_some, option_map, option_and_then}
use Rattle.std.specs.List.{flat_map, list_all}
use Rattle.std.specs.Option.{option_map_or, ForSome}
use Rattle.std.proofs.Math.Bool.{and-true}
use Rattle.std.proofs.lemmas.Bool.{and_parts, eqb-true}
use Rattle.rulebook.specs.Checks.{first_that_holds}
use Rattle.rulebook.specs.Limits.{most_entries}
use Rattle.rulebook.proofs.Tests.{some_there}
use Rattle.floor_text.specs.Lines.{lines_of_bytes}
use Rattle.floor_text.specs.declared.refusal.Refusal.TheVariants.{ListFull, NotOver}
use Rattle.level_plan.specs.declared.line.PlanLine.{PlanLine}
use Rattle.level_plan.specs.declared.line.PlanLine.TheVariants as lines
use Rattle.level_plan.specs.declared.plan.Blind.{Blind}
use Rattle.level_plan.specs.Limits.{greatest_amount, most_levels}
use Rattle.level_plan.specs.Items.{is_blind, may_follow}
use Rattle.level_plan.specs.Drafts.{Draft, is_wrong_line, item_of_line}
use Rattle.place_list.specs.Standings.{standings_of}
use Rattle.table_engine.specs.declared.start.HandStart.{HandStart}
use Rattle.table_engine.specs.declared.start.StartSeat.{StartSeat}
use Rattle.table_engine.specs.declared.record.ActOf.{ActOf}
use Rattle.table_engine.specs.Hands.{HandTerms}
use Rattle.table_engine.specs.Results.{stack_after_hand}
use Rattle.tournament_events.specs.declared.answer.Answer.{Answer}
use Rattle.tournament_events.specs.declared.answer.Answer.TheVariants.{Ok, PlanWrong}
use Rattle.tournament_events.specs.declared.event.Event.{Event as EventOfLine}
use Rattle.tournament_events.specs.declared.event.Event.TheVariants as events
use Rattle.tournament_events.specs.declared.event.Item.{Item}
use Rattle.tournament_events.specs.declared.event.Item.TheVariants.{Event, Note}
use Rattle.tournament_events.specs.declared.report.Report.{Report}
use Rattle.floor_events.specs.Spelling.{answer_text, report_text}
use Rattle.tournament_rules.specs.Books.{BookState, start_at}
use Rattle.tournament_rules.specs.Checks.{Check, going_checks, newcomer_checks, seat_checks, entry_checks, book_checks, hand_checks}
use Rattle.tournament_rules.specs.Effects.{ended, bust_of, busted_by, next_group, settled, book_effect}
use Rattle.tournament_rules.specs.Players.{stayed}
use Rattle.tournament_rules.specs.Report.{winner, reported_out, book_report, report_of, empty_report}
use Rattle.replay_rules.specs.Replay.{item_of_cut, items_of_bytes, answer_to_item, state_after_item, answers_to_items, state_after_items, final_text, replay_text}
use Rattle.tournament_rules.specs.States.{State, PlayState, first_state, hand_at, hand_about, hand_table, acts_at, refusal_of, planning_answer, answered, answer_to, acts_effect, play_effect, is_accepted, accepted, state_after}
use Rattle.tournament_rules.proofs.DealtIn.{nothing_whole}
use Rattle.tournament_rules.proofs.Plays.{some_so}
use Rattle.first_edition.specs.First.{is_first_event, IsFirstBook, IsFirstState, first_is_blind, first_is_wrong_line, first_planning_answer, first_hand_checks, first_settled, first_book_effect, first_acts_effect, first_play_effect, first_accepted, first_item_of_cut, are_first_lines, first_book_checks, first_book_report, first_refusal_of, first_answer_to, first_state_after, first_answer_to_item, first_state_after_item, first_answers_to_items, first_state_after_items, first_report_of, first_replay_text}
use Rattle.first_edition.specs.FirstHands.{IsFirstStart, old_stack_after_hand, old_players_after}
use Rattle.first_edition.proofs.Rows.{first_is}
use Rattle.first_edition.proofs.SameHands.{hand_same}
use Rattle.first_edition.proofs.States.{filter_each, first_after, state_first}

-- Where nobody has, the entries alone count.
alone : (book : BookState) → book.reentries ≡ 0 → length book.entries + book.reentries ≡ length book.entries
alone book none = omega (arith, none)

-- A plan's line is checked as before.
blind_same : (blind : Blind) → blind.ante ≡ 0 → is_blind blind ≡ first_is_blind blind
blind_same blind none =
    let fits : (nat_le blind.ante greatest_amount && blind.ante % blind.unit == 0) ≡ true =
    ap (λ (ante : ℕ). nat_le ante greatest_amount && ante % blind.unit == 0) none ∙ nothing_whole blind.unit in
    ap (λ (b : Bool). nat_le 1 blind.unit && (nat_le 1 blind.small && (nat_le blind.small blind.big
    && (nat_le blind.big greatest_amount && (blind.small % blind.unit == 0 && (blind.big % blind.unit == 0 && b))))))
    fits
    ∙ ap (λ (b : Bool). nat_le 1 blind.unit && (nat_le 1 blind.small && (nat_le blind.small blind.big
    && (nat_le blind.big greatest_amount && (blind.small % blind.unit == 0 && b)))))
    (and-true (blind.big % blind.unit == 0))

wrong_same : (draft : Draft) (line : PlanLine) → is_first_event (events.Plan line) ≡ true
    → is_wrong_line draft line ≡ first_is_wrong_line draft line
wrong_same draft (lines.Blinds blind) kind =
    ap (λ (right : Bool). nat_le most_levels (length draft.blinds) || not (right && may_follow draft.blinds blind))
    (blind_same blind (eqb-true blind.ante 0 kind))
wrong_same draft _ kind = refl

planning_same : (draft : Draft) (event : EventOfLine) → is_first_event event ≡ true
    → planning_answer draft event ≡ first_planning_answer draft event
planning_same draft (events.Plan line) kind =
    ap (λ (wrong : Bool). if wrong then PlanWrong (item_of_line line) else Ok) (wrong_same draft line kind)
planning_same draft _ kind = refl

-- The hand that an event is about is one of the first edition.
abbrev IsFirstHand : HandTerms → Type 0
IsFirstHand hand = IsFirstStart hand.start

about_first : (play : PlayState) (event : EventOfLine) → IsFirstBook play.book
    → ForSome (hand_about play event) IsFirstHand
about_first play event first = by_table (hand_table event)
  where
    by_start : (acts : List ActOf) (start : Option HandStart) → ForSome start IsFirstStart
        → ForSome (option_map (λ start. record { start = start; acts = acts }) start) IsFirstHand
    by_start acts None so = λ hand is. absurd cc
    by_start acts (Some start) so = some_so IsFirstHand (record { start = start; acts = acts }) (so start refl)

    by_table : (table : Option ℕ) → ForSome (option_and_then (hand_at play) table) IsFirstHand
    by_table None = λ hand is. absurd cc
    by_table (Some table) =
        by_start (acts_at play.acts table) (start_at play.book.started table) (first.starts table)

-- An event of the first edition is checked as before.
checks_same : (book : BookState) (event : EventOfLine) → book.reentries ≡ 0 → is_first_event event ≡ true
    → book_checks book event ≡ first_book_checks book event
checks_same book (events.Enter name table seat) none kind =
    ap (λ (count : ℕ). going_checks book ++ newcomer_checks book name ++ seat_checks book table seat
    ++ entry_checks book ++ (ListFull, nat_le most_entries count) ∷ []) (alone book none)
checks_same book (events.Reenter name table seat) none kind = absurd cc
checks_same book _ none kind = refl

hand_checks_same : (hand : HandTerms) (event : EventOfLine) → IsFirstHand hand
    → hand_checks hand event ≡ first_hand_checks hand event
hand_checks_same hand (events.Act table name act) first = (hand_same hand first).checks name act
hand_checks_same hand (events.Time table) first = (hand_same hand first).time
hand_checks_same hand (events.Settle table) first =
    ap (λ (over : Bool). (NotOver, not over) ∷ []) (hand_same hand first).over
hand_checks_same hand _ first = refl

about_same : (hand : Option HandTerms) (event : EventOfLine) → ForSome hand IsFirstHand
    → option_map_or (λ hand. hand_checks hand event) hand []
    ≡ option_map_or (λ hand. first_hand_checks hand event) hand []
about_same None event first = refl
about_same (Some hand) event first = hand_checks_same hand event (first hand refl)

refusal_same : (play : PlayState) (event : EventOfLine) → IsFirstBook play.book → is_first_event event ≡ true
    → refusal_of play event ≡ first_refusal_of play event
unfolding refusal_of
refusal_same play event first kind =
    ap (λ (checks : List Check). first_that_holds (checks ++ option_map_or (λ hand. hand_checks hand event)
    (hand_about play event) [])) (checks_same play.book event first.reentries kind)
    ∙ ap (λ (checks : List Check). first_that_holds (first_book_checks play.book event ++ checks))
    (about_same (hand_about play event) event (about_first play event first))

answer_same : (draft : Draft) (play : Option PlayState) (count : ℕ) (event : EventOfLine)
    → ForSome play (λ play. IsFirstBook play.book) → is_first_event event ≡ true
    → answer_to (record { draft = draft; play = play; accepted = count }) event
    ≡ first_answer_to (record { draft = draft; play = play; accepted = count }) event
answer_same draft None count event first kind = planning_same draft event kind
answer_same draft (Some play) count event first kind = ap answered (refusal_same play event (first play refl) kind)

-- What it makes is as before.
settled_same : (book : BookState) (hand : HandTerms) → IsFirstHand hand
    → settled book hand ≡ first_settled book hand
settled_same book hand first =
    let same = hand_same hand first in
    ap (λ (players : List StartSeat). settled_with players (busted_by hand)) same.players
    ∙ ap (settled_with (old_players_after hand)) (filter_each (λ player. stack_after_hand hand player == 0)
    (λ player. old_stack_after_hand hand player == 0) (λ player. ap (λ (stack : ℕ). stack == 0) (same.stacks player))
    hand.start.seats)
  where
    settled_with : List StartSeat → List StartSeat → BookState
    settled_with players busted =
        let after = ended book hand.start.table players in
        record after {
          seating = record after.seating { players = stayed busted after.seating.players };
          busts = book.busts ++ map (bust_of book.group) busted;
          group = next_group book;
          accepted = book.accepted + 1;
        }

book_effect_same : (book : BookState) (hand : Option HandTerms) (event : EventOfLine) → ForSome hand IsFirstHand
    → book_effect book hand event ≡ first_book_effect book hand event
book_effect_same book None (events.Settle table) first = refl
book_effect_same book (Some hand) (events.Settle table) first = settled_same book hand (first hand refl)
book_effect_same book hand _ first = refl

acts_effect_same : (acts : List (List ActOf)) (hand : Option HandTerms) (event : EventOfLine)
    → ForSome hand IsFirstHand → acts_effect acts hand event ≡ first_acts_effect acts hand event
acts_effect_same acts None (events.Time table) first = refl
acts_effect_same acts (Some hand) (events.Time table) first =
    ap (λ (act : ActOf). slice_set acts table (hand.acts ++ act ∷ [])) (hand_same hand (first hand refl)).time_act
acts_effect_same acts hand _ first = refl

play_effect_same : (play : PlayState) (event : EventOfLine) → IsFirstBook play.book
    → play_effect play event ≡ first_play_effect play event
play_effect_same play event first =
    let about = about_first play event first in
    ap (λ (book : BookState). record { book = book; acts = acts_effect play.acts (hand_about play event) event })
    (book_effect_same play.book (hand_about play event) event about)
    ∙ ap (λ (acts : List (List ActOf)). record {
      book = first_book_effect play.book (hand_about play event) event;
      acts = acts;
    }) (acts_effect_same play.acts (hand_about play event) event about)

accepted_same : (draft : Draft) (play : Option PlayState) (count : ℕ) (event : EventOfLine)
    → ForSome play (λ play. IsFirstBook play.book)
    → accepted (record { draft = draft; play = play; accepted = count }) event
    ≡ first_accepted (record { draft = draft; play = play; accepted = count }) event
accepted_same draft None count event first = refl
accepted_same draft (Some play) count event first =
    ap (λ (play : PlayState). record { draft = draft; play = Some play; accepted = count + 1 })
    (play_effect_same play event (first play refl))

step_same : (state : State) (event : EventOfLine) → IsFirstState state → is_first_event event ≡ true
    → state_after state event ≡ first_state_after state event
step_same state event first kind =
    ap (λ (answer : Answer). if is_accepted answer then accepted state event else state)
    (answer_same state.draft state.play state.accepted event first.play kind)
    ∙ ap (λ (after : State). if is_accepted (first_answer_to state event) then after else state)
    (accepted_same state.draft state.play state.accepted event first.play)

-- The report is as before where nobody has re-entered.
report_same : (play : Option PlayState) → ForSome play (λ play. IsFirstBook play.book)
    → option_map_or (λ play. book_report play.book) play empty_report
    ≡ option_map_or (λ play. first_book_report play.book) play empty_report
report_same None first = refl
report_same (Some play) first =
    ap (λ (count : ℕ). record (book_report play.book) {
      sold = count * play.book.plan.stack;
      outs = map (reported_out play.book.entries) (standings_of (length play.book.entries) (winner play.book)
          (count * play.book.plan.buyin) play.book.plan.shares play.book.busts);
    }) (alone play.book (first play refl).reentries)

-- A stream from a state on is answered as before.
record IsSame (state : State) (cuts : List (Option (List ℕ))) : Type 0 where
  answers : answers_to_items state (map item_of_cut cuts) ≡ first_answers_to_items state (map first_item_of_cut cuts)
  after : state_after_items state (map item_of_cut cuts) ≡ first_state_after_items state (map first_item_of_cut cuts)
  none : IsFirstState (state_after_items state (map item_of_cut cuts))

-- one item is answered as before
record IsSameItem (state : State) (item : Item) : Type 0 where
  answer : answer_to_item state (Some item) ≡ first_answer_to_item state (Some item)
  after : state_after_item state (Some item) ≡ first_state_after_item state (Some item)
  none : IsFirstState (state_after_item state (Some item))

item_same : (state : State) (item : Item) → IsFirstState state
    → ((event : EventOfLine) → item ≡ Event event → is_first_event event ≡ true) → IsSameItem state item
item_same state Note none kind = record { answer = refl; after = refl; none = none }
item_same state (Event event) none kind =
    record {
      answer = answer_same state.draft state.play state.accepted event none.play (kind event refl);
      after = step_same state event none (kind event refl);
      none = first_after state event none (kind event refl);
    }

stream_same : (cuts : List (Option (List ℕ))) (state : State) → IsFirstState state
    → list_all (λ cut. is_some (first_item_of_cut cut)) cuts ≡ true → IsSame state cuts
stream_same [] state none all = record { answers = refl; after = refl; none = none }
stream_same (cut ∷ cuts) state none all =
    let parts = and_parts (is_some (first_item_of_cut cut)) (list_all (λ cut. is_some (first_item_of_cut cut)) cuts)
    all in
    let found = some_there (first_item_of_cut cut) parts.0 in
    by_item found.0 found.1 (λ after none. stream_same cuts after none parts.1)
  where
    by_item : (item : Item) → first_item_of_cut cut ≡ Some item
        → ((after : State) → IsFirstState after → IsSame after cuts) → IsSame state (cut ∷ cuts)
    by_item item is later =
        let his = first_is cut item is in
        let one = item_same state item none his.none in
        let rest = later (state_after_item state (Some item)) one.none in
        record {
          answers = ap (λ (now : Option Item). answer_to_item state now
              ∷ answers_to_items (state_after_item state now) (map item_of_cut cuts)) his.now
              ∙ (ap (λ (answer : Answer). answer
              ∷ answers_to_items (state_after_item state (Some item)) (map item_of_cut cuts)) one.answer
              ∙ (ap (◌∷◌ (first_answer_to_item state (Some item))) rest.answers
              ∙ (ap (λ (after : State). first_answer_to_item state (Some item)
              ∷ first_answers_to_items after (map first_item_of_cut cuts)) one.after
              ∙ ap (λ (first : Option Item). first_answer_to_item state first
              ∷ first_answers_to_items (first_state_after_item state first) (map first_item_of_cut cuts)) (sym is))));
          after = ap (λ (now : Option Item). state_after_items (state_after_item state now) (map item_of_cut cuts))
              his.now
              ∙ (rest.after
              ∙ (ap (λ (after : State). first_state_after_items after (map first_item_of_cut cuts)) one.after
              ∙ ap (λ (first : Option Item). first_state_after_items (first_state_after_item state first)
              (map first_item_of_cut cuts)) (sym is)));
          none = subst (λ (now : Option Item). IsFirstState (state_after_items (state_after_item state now)
              (map item_of_cut cuts))) (sym his.now) rest.none;
        }

-- A stream is answered as before.
pub text_same : (bytes : List ℕ) → are_first_lines bytes ≡ true → replay_text bytes ≡ first_replay_text bytes
unfolding final_text
text_same bytes all =
    let same = stream_same (lines_of_bytes bytes) first_state state_first all in
    let last = state_after_items first_state (map item_of_cut (lines_of_bytes bytes)) in
    ap (λ (answers : List Answer). flat_map answer_text answers ++ report_text (report_of last)) same.answers
    ∙ (ap (λ (report : Report). flat_map answer_text (first_answers_to_items first_state
    (map first_item_of_cut (lines_of_bytes bytes))) ++ report_text report) (report_same last.play same.none.play)
    ∙ ap (λ (state : State). flat_map answer_text (first_answers_to_items first_state
    (map first_item_of_cut (lines_of_bytes bytes))) ++ report_text (first_report_of state)) same.after)

-- The state that a stream leads to is one of the first edition.
pub stream_first : (bytes : List ℕ) → are_first_lines bytes ≡ true
    → IsFirstState (state_after_items first_state (items_of_bytes bytes))
stream_first bytes all = (stream_same (lines_of_bytes bytes) first_state state_first all).none
