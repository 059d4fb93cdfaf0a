-- What the answer to a begin and to the next order tells of the stop.
use Rattle.std.proofs.Common.{◌≡◌, ◌∙◌, refl, sym, ap, ℕ, Bool, true, false, List, [], ◌∷◌, ◌++◌}
use Rattle.std.specs.Prelude.{not, if◌then◌else◌, Option, Some, None, Err}
use Rattle.std.specs.List.{list_all}
use Rattle.std.specs.Option.{option_map_or}
use Rattle.std.proofs.lemmas.Bool.{and_parts}
use Rattle.rulebook.specs.Checks.{first_that_holds}
use Rattle.card_set.specs.declared.card.CardRow.{CardRow}
use Rattle.floor_text.specs.declared.refusal.Refusal.{Refusal}
use Rattle.floor_text.specs.declared.refusal.Refusal.TheVariants.{Stopped, NoPlan}
use Rattle.tournament_events.specs.declared.event.Event.{Event}
use Rattle.tournament_events.specs.declared.event.Event.TheVariants as events
use Rattle.table_engine.specs.declared.record.ActFault.{ActFault}
use Rattle.table_engine.specs.declared.record.ActFault.TheVariants as faults
use Rattle.table_engine.specs.Acts.{IsAnswer}
use Rattle.tournament_rules.specs.Books.{BookState}
use Rattle.tournament_rules.specs.Checks.{Check, deck_checks, due_checks, table_checks}
use Rattle.tournament_rules.specs.States.{PlayState, answered, planning_answer, refusal_of}
use Rattle.tournament_rules.proofs.Going.{goes_on}
use Rattle.tournament_rules.proofs.Passed.{passed-parts}
use Rattle.view_rules.specs.declared.entries.JournalEntry.{JournalEntry}
use Rattle.dock_rules.specs.declared.asks.Ask.TheVariants as asks
use Rattle.dock_rules.specs.declared.asks.AskAnswer.{AskAnswer}
use Rattle.dock_rules.specs.declared.asks.AskAnswer.TheVariants as answers
use Rattle.dock_rules.specs.Journals.{Tale, book_of, tale_of}
use Rattle.dock_rules.specs.Points.{IsAskAnswer, ask_answer, event_answer, is_refusal, next_begin, order_owed, refusal_at, refusal_told, told_as}
use Rattle.dock_rules.proofs.Coming.{answer-in_play, told-answered}
use Rattle.table_worker.specs.declared.turn.Turn.TheVariants.{Ended, NotNow}
use Rattle.table_worker.specs.Turns.{is_ended, is_stopping, turn_given_up}
use Rattle.table_worker.proofs.Owed.{book-of, refused-stopped}
use Rattle.whole_laws.proofs.Stopping.{ended-stopped}

-- whether the refusal of a check is not that of the stop
abbrev goes_further : Check → Bool
goes_further check = not (is_stopping check.0)

-- The first check that holds of checks that are not that of the stop.
further : (checks : List Check) (refusal : Refusal) → list_all goes_further checks ≡ true
    → first_that_holds checks ≡ Some refusal → is_stopping refusal ≡ false
further [] refusal all is = absurd cc
further ((reason, holds) ∷ checks) refusal all is =
    by_first holds is (and_parts (not (is_stopping reason)) (list_all goes_further checks) all).0
    (further checks refusal (and_parts (not (is_stopping reason)) (list_all goes_further checks) all).1)
  where
    other : (stopping : Bool) → not stopping ≡ true → stopping ≡ false
    other true goes = absurd cc
    other false goes = refl

    by_first : (holds : Bool) → first_that_holds ((reason, holds) ∷ checks) ≡ Some refusal
        → not (is_stopping reason) ≡ true
        → (first_that_holds checks ≡ Some refusal → is_stopping refusal ≡ false) → is_stopping refusal ≡ false
    by_first true is goes later =
        let same : reason ≡ refusal = cc in ap is_stopping (sym same) ∙ other (is_stopping reason) goes
    by_first false is goes later = later is

-- A begin is refused as stopped just where the book is.
begin-refused : (stopped : Bool) (rest : List Check) (refusal : Refusal) → list_all goes_further rest ≡ true
    → first_that_holds ((Stopped, stopped) ∷ rest) ≡ Some refusal → is_stopping refusal ≡ stopped
begin-refused true rest refusal all is = let same : Stopped ≡ refusal = cc in ap is_stopping (sym same)
begin-refused false rest refusal all is = further rest refusal all is

begin-in_play : (play : PlayState) (table : ℕ) (row : CardRow) (refusal : Refusal)
    → refusal_of play (events.Begin table row) ≡ Some refusal → is_stopping refusal ≡ play.book.stopped
unfolding refusal_of
begin-in_play play table row refusal is = begin-refused play.book.stopped
    (table_checks play.book table ++ due_checks play.book table ++ deck_checks row ++ []) refusal refl is

-- The refusal of a begin tells whether the journal ends with the stop.
pub begin-stops : (journal : List JournalEntry) (table : ℕ) (refusal : Refusal) → (tale_of journal).legal ≡ true
    → refusal_at (tale_of journal) (next_begin (tale_of journal) table) ≡ Some refusal
    → is_stopping refusal ≡ (tale_of journal).ended
begin-stops journal table refusal legal is =
    by_play (tale_of journal) (tale_of journal).state.play refl is ∙ sym (ended-stopped journal legal)
  where
    by_play : (tale : Tale) (found : Option PlayState) → tale.state.play ≡ found
        → refusal_at tale (next_begin tale table) ≡ Some refusal → is_stopping refusal ≡ (book_of tale).stopped
    by_play tale None at is =
        let told : Some NoPlan ≡ Some refusal = sym (ap (λ (found : Option PlayState). refusal_told
        (option_map_or (λ play. answered (refusal_of play (next_begin tale table))) found
        (planning_answer tale.state.draft (next_begin tale table)))) at) ∙ is in
        let same : NoPlan ≡ refusal = cc in
        ap is_stopping (sym same) ∙ sym (ap (λ (book : BookState). book.stopped) (book-of tale None at))
    by_play tale (Some play) at is =
        let event : Event = next_begin tale table in
        let refused : refusal_of play event ≡ Some refusal =
        sym (ap refusal_told (answer-in_play tale.state play event at) ∙ told-answered (refusal_of play event)) ∙ is in
        begin-in_play play table _ refusal refused
        ∙ sym (ap (λ (book : BookState). book.stopped) (book-of tale (Some play) at))

-- Where a begin is not refused the journal does not end with the stop.
pub begin-goes : (journal : List JournalEntry) (table : ℕ) → (tale_of journal).legal ≡ true
    → refusal_at (tale_of journal) (next_begin (tale_of journal) table) ≡ None → (tale_of journal).ended ≡ false
begin-goes journal table legal free =
    ended-stopped journal legal ∙ by_play (tale_of journal) (tale_of journal).state.play refl free
  where
    by_play : (tale : Tale) (found : Option PlayState) → tale.state.play ≡ found
        → refusal_at tale (next_begin tale table) ≡ None → (book_of tale).stopped ≡ false
    by_play tale None at is = ap (λ (book : BookState). book.stopped) (book-of tale None at)
    by_play tale (Some play) at is =
        let event : Event = next_begin tale table in
        let free : refusal_of play event ≡ None =
        sym (ap refusal_told (answer-in_play tale.state play event at) ∙ told-answered (refusal_of play event)) ∙ is in
        ap (λ (book : BookState). book.stopped) (book-of tale (Some play) at)
        ∙ goes_on play.book event (passed-parts play event free).0

-- What the answer to the next order says.
pub record IsOrdered (tale : Tale) (order : Event) : Type 0 where
  pub owed : order_owed tale ≡ Some order
  pub lawful : refusal_at tale order ≡ None
  pub going : (book_of tale).stopped ≡ false

-- Where the next order was carried out, it was owed and lawful.
pub ordered : (tale : Tale) → ask_answer tale asks.NextOrder ≡ answers.Ok → (order : Event) × IsOrdered tale order
ordered tale is = by_stop (book_of tale).stopped refl is
  where
    by_refusal : (order : Event) (found : Option Refusal) → refusal_at tale order ≡ found → order_owed tale ≡ Some order
        → (book_of tale).stopped ≡ false → told_as found ≡ answers.Ok → (order : Event) × IsOrdered tale order
    by_refusal order None at owed going answer = (order, record { owed = owed; lawful = at; going = going })
    by_refusal order (Some refusal) at owed going answer = absurd cc

    by_order : (found : Option Event) → order_owed tale ≡ found → (book_of tale).stopped ≡ false
        → event_answer tale found ≡ answers.Ok → (order : Event) × IsOrdered tale order
    by_order None owed going answer = absurd cc
    by_order (Some order) owed going answer = by_refusal order (refusal_at tale order) refl owed going answer

    by_stop : (stopped : Bool) → (book_of tale).stopped ≡ stopped
        → (if stopped then answers.No Stopped else event_answer tale (order_owed tale)) ≡ answers.Ok
        → (order : Event) × IsOrdered tale order
    by_stop true at answer = absurd cc
    by_stop false at answer = by_order (order_owed tale) refl at answer

-- Where no order was owed the tournament goes on.
pub none-owed : (tale : Tale) → ask_answer tale asks.NextOrder ≡ answers.NoOrder → order_owed tale ≡ None
none-owed tale is = by_stop (book_of tale).stopped is
  where
    by_refusal : (found : Option Refusal) → told_as found ≡ answers.NoOrder → ⊥
    by_refusal None answer = cc
    by_refusal (Some refusal) answer = cc

    by_order : (found : Option Event) → order_owed tale ≡ found → event_answer tale found ≡ answers.NoOrder
        → order_owed tale ≡ None
    by_order None owed answer = owed
    by_order (Some order) owed answer = absurd (by_refusal (refusal_at tale order) answer)

    by_stop : (stopped : Bool)
        → (if stopped then answers.No Stopped else event_answer tale (order_owed tale)) ≡ answers.NoOrder
        → order_owed tale ≡ None
    by_stop true answer = absurd cc
    by_stop false answer = by_order (order_owed tale) refl answer

-- Where the next order is no refusal the tournament goes on.
pub ask-goes : (tale : Tale) → is_refusal (ask_answer tale asks.NextOrder) ≡ false → (book_of tale).stopped ≡ false
ask-goes tale is = by_stop (book_of tale).stopped refl is
  where
    by_stop : (stopped : Bool) → (book_of tale).stopped ≡ stopped
        → is_refusal (if stopped then answers.No Stopped else event_answer tale (order_owed tale)) ≡ false
        → (book_of tale).stopped ≡ false
    by_stop true at answer = absurd cc
    by_stop false at answer = at

-- An answer that is a refusal tells that the tournament is stopped, and any other that it goes on.
pub answer-stops : (journal : List JournalEntry) (answer : AskAnswer) → (tale_of journal).legal ≡ true
    → IsAskAnswer (ask_answer (tale_of journal) asks.NextOrder) answer
    → is_refusal answer ≡ (tale_of journal).ended
answer-stops journal (answers.No refusal) legal is =
    sym (ended-stopped journal legal ∙ refused-stopped journal refusal (sym is))
answer-stops journal answers.NoMemory legal is =
    sym (ended-stopped journal legal ∙ ask-goes (tale_of journal) is)
answer-stops journal answers.Ok legal is =
    sym (ended-stopped journal legal ∙ ask-goes (tale_of journal) (ap is_refusal (sym is)))
answer-stops journal answers.NoOrder legal is =
    sym (ended-stopped journal legal ∙ ask-goes (tale_of journal) (ap is_refusal (sym is)))

-- A turn in which no hand begins answers that the tournament was stopped just where it is.
pub given-up-stops : (journal : List JournalEntry) (table : ℕ) (fault : ActFault) → (tale_of journal).legal ≡ true
    → IsAnswer {T = Unit {0}} (refusal_at (tale_of journal) (next_begin (tale_of journal) table)) (Err fault)
    → is_ended (turn_given_up fault) ≡ (tale_of journal).ended
given-up-stops journal table (faults.No refusal) legal is =
    by_stop (is_stopping refusal) ∙ begin-stops journal table refusal legal is
  where
    by_stop : (stops : Bool) → is_ended (if stops then Ended else NotNow refusal) ≡ stops
    by_stop true = refl
    by_stop false = refl
given-up-stops journal table faults.NoMemory legal is = sym (begin-goes journal table legal is)
