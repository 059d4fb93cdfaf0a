-- What a book and its hands refuse.
use Rattle.std.proofs.Common.{◌≡◌, ◌∙◌, refl, sym, ap, subst, ℕ, true, List, map}
use Rattle.std.specs.Prelude.{Option, Some, None, Result}
use Rattle.std.specs.Option.{option_and_then, option_or}
use Rattle.rulebook.specs.Checks.{first_that_holds}
use Rattle.floor_text.specs.declared.refusal.Refusal.{Refusal}
use Rattle.table_engine.specs.declared.record.ActFault.{ActFault}
use Rattle.table_engine.specs.Acts.{IsAnswer}
use Rattle.table_engine.specs.Hands.{HandTerms}
use Rattle.tournament_events.specs.declared.event.Event.{Event}
use Rattle.tournament_events.specs.declared.event.Event.TheVariants as events
use Rattle.tournament_events.specs.declared.event.Event.TheVariants.{Settle}
use Rattle.tournament_rules.specs.Books.{BookState}
use Rattle.tournament_rules.specs.Checks.{book_refusal, before_hand_checks}
use Rattle.tournament_rules.specs.States.{PlayState, refusal_of}
use Rattle.tournament_rules.specs.Apart.{start_of, seen_of, hand_for, hand_refusal}
use Rattle.tournament_rules.specs.Kinds.{leaves_hands}
use Rattle.tournament_rules.proofs.Layers.{hand_for-read}
use Rattle.tournament_rules.proofs.Passed.{refusal-parts}

-- the tournament that is seen of a book and hands
abbrev pub seen : BookState → List (Option HandTerms) → PlayState
seen book hands = seen_of (record { book = book; hands = hands })

-- An event is refused by the book, or else by the hand that it is about.
pub in_parts : (book : BookState) (hands : List (Option HandTerms)) (event : Event) → map start_of hands ≡ book.started
    → refusal_of (seen book hands) event ≡ option_or (book_refusal book event)
    (option_and_then (hand_refusal event) (hand_for hands event))
in_parts book hands event tied =
    refusal-parts (seen book hands) event
    ∙ ap (λ (hand : Option HandTerms). option_or (book_refusal book event)
    (option_and_then (hand_refusal event) hand)) (hand_for-read book hands event tied)

-- An event about no hand is refused by the book alone.
pub by_book_alone : (book : BookState) (hands : List (Option HandTerms)) (event : Event) → map start_of hands
    ≡ book.started → hand_for hands event ≡ None → refusal_of (seen book hands) event ≡ book_refusal book event
by_book_alone book hands event tied none = in_parts book hands event tied ∙ rw none (no_more (book_refusal book event))
  where
    no_more : (refusal : Option Refusal) → option_or refusal None ≡ refusal
    no_more None = refl
    no_more (Some found) = refl

-- An order that leaves the hands as they are is refused by the book alone.
pub by_order : (book : BookState) (hands : List (Option HandTerms)) (event : Event) → map start_of hands ≡ book.started
    → leaves_hands event ≡ true → refusal_of (seen book hands) event ≡ book_refusal book event
by_order book hands event tied leaves = by_book_alone book hands event tied (about_none event leaves)
  where
    about_none : (event : Event) → leaves_hands event ≡ true → hand_for hands event ≡ None
    about_none (events.Act table name act) leaves = absurd cc
    about_none (events.Time table) leaves = absurd cc
    about_none (events.Settle table) leaves = absurd cc
    about_none _ leaves = refl

-- What the book refuses is refused for that.
pub by_book : (book : BookState) (hands : List (Option HandTerms)) (event : Event) (found : Refusal)
    → map start_of hands ≡ book.started → book_refusal book event ≡ Some found
    → refusal_of (seen book hands) event ≡ Some found
by_book book hands event found tied is = in_parts book hands event tied ∙ rw is refl

-- What the book does not refuse is refused by the hand alone.
pub by_hand : (book : BookState) (hands : List (Option HandTerms)) (event : Event) → map start_of hands ≡ book.started
    → book_refusal book event ≡ None → refusal_of (seen book hands) event
    ≡ option_and_then (hand_refusal event) (hand_for hands event)
by_hand book hands event tied none = in_parts book hands event tied ∙ rw none refl

-- The book's refusal of a called time is that of its checks.
pub time_refusal : (book : BookState) (table : ℕ) → book_refusal book (events.Time table)
    ≡ first_that_holds (before_hand_checks book table)
unfolding book_refusal
time_refusal book table = refl

-- The book's refusal of a settle is that of its checks.
pub settle_refusal : (book : BookState) (table : ℕ) → book_refusal book (Settle table)
    ≡ first_that_holds (before_hand_checks book table)
unfolding book_refusal
settle_refusal book table = refl

-- The same refusal has the same answer.
pub answer_of_same : {T : Type 0} (one other : Option Refusal) (result : Result T ActFault) → other ≡ one
    → IsAnswer one result → IsAnswer other result
answer_of_same one other result same answer = let P : Option Refusal
    → Type 0 = λ refusal. IsAnswer refusal result in subst P (sym same) answer
