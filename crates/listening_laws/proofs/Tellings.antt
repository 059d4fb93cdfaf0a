-- What is told of a hand that begins, and of its acts behind it.
use Rattle.std.proofs.Common.{◌≡◌, ◌∙◌, refl, sym, ap, ℕ, Bool, true, false, List, [], ◌∷◌, ◌++◌, map, append_assoc}
use Rattle.std.specs.Prelude.{Option, Some, None, option_map, option_and_then, if◌then◌else◌}
use Rattle.std.specs.Option.{option_map_or}
use Rattle.std.proofs.lemmas.Bool.{and_parts}
use Rattle.card_set.specs.declared.card.CardRow.{CardRow}
use Rattle.table_engine.specs.declared.start.HandStart.{HandStart}
use Rattle.table_engine.specs.declared.record.ActOf.{ActOf}
use Rattle.table_engine.specs.Acts.{time_act}
use Rattle.table_engine.specs.Hands.{HandTerms}
use Rattle.table_engine.specs.Plays.{IsLawfulPlay}
use Rattle.table_engine.proofs.NoCards.{time-deck}
use Rattle.table_engine.proofs.Plays.{lawful_play-each, lawful_play-more, lawful_play-none, lawful_play-timed}
use Rattle.tournament_events.specs.declared.event.Event.{Event}
use Rattle.tournament_events.specs.declared.event.Event.TheVariants as events
use Rattle.tournament_rules.specs.Books.{BookState, start_at}
use Rattle.tournament_rules.specs.Dealing.{next_start}
use Rattle.tournament_rules.specs.States.{State, PlayState, answer_to, hand_at, is_accepted, play_effect, refusal_of, run, state_after}
use Rattle.tournament_rules.specs.Valid.{IsValidState}
use Rattle.tournament_rules.proofs.Steps.{valid_state_after}
use Rattle.view_rules.specs.Entries.{begun, entry_lines, with_act}
use Rattle.view_rules.specs.declared.entries.TableEntry.TheVariants.{Opened, Acted}
use Rattle.view_rules.specs.Lines.{act_lines, floor_lines, lines_of_event, opening_lines}
use Rattle.view_rules.specs.Seen.{hand_in, seen_by, seen_event, seen_hand, undealt}
use Rattle.view_rules.specs.Shown.{Viewer}
use Rattle.view_rules.specs.Spelling.{BeginLine, Floor, Table, ViewLine}
use Rattle.view_rules.specs.Views.{told_from, told_of}
use Rattle.dock_rules.specs.Journals.{act_event}
use Rattle.dock_rules.specs.Tables.{entries_lines}
use Rattle.dock_rules.proofs.Coming.{accepted-in_play}
use Rattle.whole_laws.proofs.HandActs.{IsOut, acts-walk}
use Rattle.whole_laws.proofs.Starts.{begun-at, reset}
use Rattle.session_desk.specs.Telling.{first_teller}
use Rattle.listening_laws.proofs.HandLines.{act_entries, hand_lines, teller}

-- the lines of an event in a state, were it accepted
abbrev pub lines_at : Viewer → State → Event → List ViewLine
lines_at who state event =
    lines_of_event (seen_by who state) (seen_event event) (seen_by who (state_after state event))

-- An accepted event is told.
pub told-accepted : (who : Viewer) (state : State) (event : Event) → is_accepted (answer_to state event) ≡ true
    → told_of lines_of_event who state event ≡ lines_at who state event
told-accepted who state event taken = ap (λ (taken : Bool). if taken then lines_at who state event else []) taken

-- Events are told one list after another.
pub told-append : (who : Viewer) (state : State) (front back : List Event)
    → told_from lines_of_event who state (front ++ back)
    ≡ told_from lines_of_event who state front ++ told_from lines_of_event who (run state front) back
told-append who state [] back = refl
told-append who state (event ∷ front) back =
    ap (λ (lines : List ViewLine). told_of lines_of_event who state event ++ lines)
    (told-append who (state_after state event) front back)
    ∙ sym (append_assoc (told_of lines_of_event who state event)
    (told_from lines_of_event who (state_after state event) front)
    (told_from lines_of_event who (run (state_after state event) front) back))

-- the lines of a begin, after which this hand is played, if one is
abbrev begin_lines : Viewer → ℕ → Option HandTerms → List ViewLine
begin_lines who table hand =
    Floor (BeginLine table (option_map_or (λ seen. seen.hand.start.serial) (option_map (seen_hand who) hand) 0))
    ∷ map (Table table) (option_map_or opening_lines (option_map (seen_hand who) hand) [])

-- They are the floor's and those of the opening.
begin-lines : (who : Viewer) (before after : State) (table : ℕ) (row : CardRow) (start : HandStart)
    → hand_in after table ≡ Some (begun start)
    → lines_of_event (seen_by who before) (seen_event (events.Begin table row)) (seen_by who after)
    ≡ Floor (BeginLine table start.serial) ∷ entry_lines (first_teller who table) (Opened start)
unfolding lines_of_event floor_lines entry_lines seen_hand
begin-lines who before after table row start is = ap (begin_lines who table) is

-- the lines of an act of a table, from the hand that is played there before it and after it, if one is
abbrev lines_between : Viewer → ℕ → (HandTerms → ActOf) → Option HandTerms → Option HandTerms → List ViewLine
lines_between who table make before after =
    map (Table table) (option_map_or (λ earlier. option_map_or (act_lines earlier (make earlier.hand))
    (option_map (seen_hand who) after) []) (option_map (seen_hand who) before) [])

-- They are those of the act, where it does not depend on the deck.
between-made : (who : Viewer) (table : ℕ) (make : HandTerms → ActOf) (act : ActOf) (hand : HandTerms)
    (before after : Option HandTerms) → before ≡ Some hand → after ≡ Some (with_act act hand)
    → make (undealt hand) ≡ act
    → lines_between who table make before after ≡ entry_lines (teller who table (Some hand)) (Acted 0 act)
unfolding entry_lines seen_hand
between-made who table make act hand before after was now same =
    (λ i. lines_between who table make (was i) (now i))
    ∙ ap (λ (act_made : ActOf). map (Table table)
    (act_lines (seen_hand who hand) act_made (seen_hand who (with_act act hand)))) same

-- The lines of an act or a called time are those of its entry.
act-lines : (who : Viewer) (before after : State) (table : ℕ) (hand : HandTerms) (act : ActOf)
    → hand_in before table ≡ Some hand → hand_in after table ≡ Some (with_act act hand)
    → (act.by_time ≡ true → act ≡ time_act hand)
    → lines_of_event (seen_by who before) (seen_event (act_event table act)) (seen_by who after)
    ≡ entry_lines (teller who table (Some hand)) (Acted 0 act)
unfolding lines_of_event floor_lines
act-lines who before after table hand act was now timed = by_time act.by_time refl
  where
    by_time : (called : Bool) → act.by_time ≡ called
        → lines_of_event (seen_by who before)
        (seen_event (if called then events.Time table else events.Act table act.name act.act)) (seen_by who after)
        ≡ entry_lines (teller who table (Some hand)) (Acted 0 act)
    by_time true is = between-made who table time_act act hand (hand_in before table) (hand_in after table) was now
        (time-deck hand [] ∙ sym (timed is))
    by_time false is = between-made who table (λ hand. record { name = act.name; act = act.act; by_time = false })
        act hand (hand_in before table) (hand_in after table) was now
        (λ i. record { name = act.name; act = act.act; by_time = sym is i })

-- The hand that is out at a table is the one that is played there.
in-out : (state : State) (play : PlayState) (table : ℕ) (start : HandStart) (acts : List ActOf)
    → state.play ≡ Some play → IsOut play table start acts
    → hand_in state table ≡ Some (record { start = start; acts = acts })
in-out state play table start acts is out =
    ap (λ (found : Option PlayState). option_and_then (λ play. hand_at play table) found) is
    ∙ (λ i. option_map (λ (start : HandStart). record { start = start; acts = out.has i }) (out.started i))

-- The acts of a lawful play are told as the entries of a table, from where its hand has some of them.
told-acts : (who : Viewer) (state : State) (play : PlayState) (table : ℕ) (start : HandStart)
    (front back all : List ActOf) → IsValidState state → state.play ≡ Some play → IsOut play table start front
    → IsLawfulPlay (record { start = start; acts = front }) → IsLawfulPlay (record { start = start; acts = all })
    → all ≡ front ++ back
    → told_from lines_of_event who state (map (act_event table) back)
    ≡ entries_lines (teller who table (Some (record { start = start; acts = front }))) (act_entries back)
told-acts who state play table start front [] all valid is out so_far lawful same = refl
told-acts who state play table start front (act ∷ back) all valid is out so_far lawful same =
    let whole : HandTerms = record { start = start; acts = all } in
    let hand : HandTerms = record { start = start; acts = front } in
    let event : Event = act_event table act in
    let timed = lawful_play-timed whole front act back lawful same in
    let more = lawful_play-more hand act so_far (lawful_play-each whole front act back lawful same) timed in
    let walk = acts-walk state play table start front (act ∷ []) (front ++ act ∷ []) valid is out more refl in
    let next : IsOut walk.play table start (front ++ act ∷ []) = record {
      going = ap (λ (book : BookState). book.stopped) walk.acted.book ∙ out.going;
      started = ap (λ (book : BookState). start_at book.started table) walk.acted.book ∙ out.started;
      has = walk.acted.here;
    } in
    let here = told-accepted who state event (and_parts (is_accepted (answer_to state event)) true walk.accepted).0
    ∙ act-lines who state (state_after state event) table hand act (in-out state play table start front is out)
    (in-out (state_after state event) walk.play table start (front ++ act ∷ []) walk.play_is next) timed in
    let rest = told-acts who (state_after state event) walk.play table start (front ++ act ∷ []) back all
    (valid_state_after state event valid) walk.play_is next more lawful
    (same ∙ sym (append_assoc front (act ∷ []) back)) in
    λ i. here i ++ rest i

-- A begin that is taken, with the acts of its hand behind it, is told as the floor's line and the lines of the hand.
pub told-hand : (who : Viewer) (state : State) (play : PlayState) (table : ℕ) (row : CardRow) (start : HandStart)
    (acts : List ActOf) → IsValidState state → state.play ≡ Some play
    → refusal_of play (events.Begin table row) ≡ None → next_start play.book table row.cards ≡ start
    → IsLawfulPlay (record { start = start; acts = acts })
    → told_from lines_of_event who state (events.Begin table row ∷ map (act_event table) acts)
    ≡ Floor (BeginLine table start.serial) ∷ hand_lines who table (record { start = start; acts = acts })
told-hand who state play table row start acts valid is free same lawful =
    let event : Event = events.Begin table row in
    let accept = accepted-in_play state play event is free in
    let at = begun-at play table row (valid.play play is) free in
    let out : IsOut (play_effect play event) table start [] = record {
      going = at.going;
      started = at.after ∙ ap Some same;
      has = reset play.acts table [];
    } in
    let here = told-accepted who state event accept.yes
    ∙ begin-lines who state (state_after state event) table row start
    (in-out (state_after state event) (play_effect play event) table start [] accept.play_is out) in
    let rest = told-acts who (state_after state event) (play_effect play event) table start [] acts acts
    (valid_state_after state event valid) accept.play_is out (lawful_play-none start) lawful refl in
    λ i. here i ++ rest i
