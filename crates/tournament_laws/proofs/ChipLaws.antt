-- Chips are sold by entries alone, and taken away and given by races alone.
use Rattle.std.proofs.Common.{◌≡◌, ◌≢◌, refl, ℕ, Bool, true, false}
use Rattle.std.specs.Prelude.{if◌then◌else◌, Option, Some, None}
use Rattle.std.specs.Option.{option_map_or}
use Rattle.std.proofs.Math.Nat.{zero-mul}
use Rattle.level_plan.specs.Plans.{PlanTerms}
use Rattle.level_plan.specs.Drafts.{Draft, plan_of}
use Rattle.table_engine.specs.Hands.{HandTerms}
use Rattle.tournament_events.specs.declared.answer.Answer.{Answer}
use Rattle.tournament_events.specs.declared.answer.Answer.TheVariants.{Ok, No, PlanWrong}
use Rattle.tournament_events.specs.declared.event.Event.{Event}
use Rattle.tournament_events.specs.declared.event.Event.TheVariants as events
use Rattle.tournament_rules.specs.Books.{BookState}
use Rattle.tournament_rules.specs.Effects.{first_book, settled, book_effect}
use Rattle.tournament_rules.specs.Kinds.{is_entry, is_race}
use Rattle.tournament_rules.specs.Chips.{sold, removed, added, sold_by}
use Rattle.tournament_rules.specs.States.{State, PlayState, hand_about, answer_to, is_accepted, accepted, state_after}
use Rattle.tournament_rules.proofs.Ends.{left-void_first}

-- Something of a book does not change by the end of a hand.
abbrev at_settle : (BookState → ℕ) → Type 0
at_settle key = (book : BookState) (hand : Option HandTerms) → key (option_map_or (settled book) hand book) ≡ key book

sold-settled : at_settle sold_by
sold-settled book None = refl
sold-settled book (Some hand) = refl

removed-settled : at_settle (λ book. book.removed)
removed-settled book None = refl
removed-settled book (Some hand) = refl

added-settled : at_settle (λ book. book.added)
added-settled book None = refl
added-settled book (Some hand) = refl

-- No event but an entry sells chips.
sold-effect : (book : BookState) (hand : Option HandTerms) (event : Event) → is_entry event ≡ false
    → sold_by (book_effect book hand event) ≡ sold_by book
sold-effect book hand (events.Settle table) kind = sold-settled book hand
sold-effect book hand events.Stop kind =
    left-void_first sold_by (record { same = λ book table payees. refl }) book book.plan.tables
sold-effect book hand _ kind = cc

-- No event but a race takes chips away.
removed-effect : (book : BookState) (hand : Option HandTerms) (event : Event) → is_race event ≡ false
    → (book_effect book hand event).removed ≡ book.removed
removed-effect book hand (events.Settle table) kind = removed-settled book hand
removed-effect book hand events.Stop kind =
    left-void_first (λ book. book.removed) (record { same = λ book table payees. refl }) book book.plan.tables
removed-effect book hand _ kind = cc

-- No event but a race gives chips.
added-effect : (book : BookState) (hand : Option HandTerms) (event : Event) → is_race event ≡ false
    → (book_effect book hand event).added ≡ book.added
added-effect book hand (events.Settle table) kind = added-settled book hand
added-effect book hand events.Stop kind =
    left-void_first (λ book. book.added) (record { same = λ book table payees. refl }) book book.plan.tables
added-effect book hand _ kind = cc

-- What an accepted event keeps of a book, and what is nothing before any entry, it keeps of a state.
key-accepted : (key : BookState → ℕ) (draft : Draft) (play : Option PlayState) (count : ℕ) (event : Event)
    → ((plan : PlanTerms) → key (first_book plan) ≡ 0)
    → ((book : BookState) (hand : Option HandTerms) → key (book_effect book hand event) ≡ key book)
    → option_map_or (λ play. key play.book)
    (accepted (record { draft = draft; play = play; accepted = count }) event).play 0
    ≡ option_map_or (λ play. key play.book) play 0
key-accepted key draft None count events.Go first keeps = first (plan_of draft)
key-accepted key draft None count _ first keeps = refl
key-accepted key draft (Some play) count event first keeps = keeps play.book (hand_about play event)

-- So does any event.
key-after : (key : BookState → ℕ) (state : State) (event : Event) → ((plan : PlanTerms) → key (first_book plan) ≡ 0)
    → ((book : BookState) (hand : Option HandTerms) → key (book_effect book hand event) ≡ key book)
    → option_map_or (λ play. key play.book) (state_after state event).play 0
    ≡ option_map_or (λ play. key play.book) state.play 0
key-after key state event first keeps = by_answer (is_accepted (answer_to state event))
  where
    by_answer : (taken : Bool)
        → option_map_or (λ play. key play.book) (if taken then accepted state event else state).play 0
        ≡ option_map_or (λ play. key play.book) state.play 0
    by_answer true = key-accepted key state.draft state.play state.accepted event first keeps
    by_answer false = refl

-- No event but an entry sells chips.
pub sold-after : (state : State) (event : Event) → is_entry event ≡ false → sold (state_after state event) ≡ sold state
sold-after state event kind =
    key-after sold_by state event (λ plan. zero-mul plan.stack) (λ book hand. sold-effect book hand event kind)

-- No event but a race takes chips away.
pub removed-after : (state : State) (event : Event) → is_race event ≡ false
    → removed (state_after state event) ≡ removed state
removed-after state event kind =
    key-after (λ book. book.removed) state event (λ plan. refl) (λ book hand. removed-effect book hand event kind)

-- No event but a race gives chips.
pub added-after : (state : State) (event : Event) → is_race event ≡ false → added (state_after state event)
    ≡ added state
added-after state event kind =
    key-after (λ book. book.added) state event (λ plan. refl) (λ book hand. added-effect book hand event kind)

-- A refused event changes nothing.
pub refused-after : (state : State) (event : Event) → answer_to state event ≢ Ok → state_after state event ≡ state
refused-after state event refused = by_answer (answer_to state event) refused
  where
    by_answer : (answer : Answer) → answer ≢ Ok
        → (if is_accepted answer then accepted state event else state) ≡ state
    by_answer Ok refused = absurd (refused refl)
    by_answer (No refusal) refused = refl
    by_answer (PlanWrong item) refused = refl
