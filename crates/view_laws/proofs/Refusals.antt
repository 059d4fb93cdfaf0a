-- Why an event is refused does not depend on the decks of the hands that are played.
use Rattle.std.proofs.Common.{◌≡◌, ◌∙◌, refl, sym, ap, ℕ, Bool, [], ◌∷◌}
use Rattle.std.specs.Prelude.{not, is_none, Option, Some, None, option_map, option_and_then}
use Rattle.std.specs.Option.{option_or}
use Rattle.std.proofs.Math.ListN.{get_or-map as get_or-map_all}
use Rattle.rulebook.specs.Checks.{first_that_holds}
use Rattle.floor_text.specs.declared.refusal.Refusal.TheVariants.{HandOver, NotOver}
use Rattle.table_engine.specs.declared.start.HandStart.{HandStart}
use Rattle.table_engine.specs.Hands.{HandTerms}
use Rattle.table_engine.proofs.NoCards.{refusal-deck}
use Rattle.tournament_events.specs.declared.event.Event.{Event}
use Rattle.tournament_events.specs.declared.event.Event.TheVariants as events
use Rattle.tournament_rules.specs.Books.{BookState, start_at}
use Rattle.tournament_rules.specs.Checks.{book_refusal}
use Rattle.tournament_rules.specs.States.{PlayState, acts_at, hand_at, hand_table, hand_about, refusal_of}
use Rattle.tournament_rules.specs.Apart.{hand_refusal}
use Rattle.tournament_rules.proofs.Passed.{refusal-parts}
use Rattle.view_rules.specs.Seen.{without_deck, undealt, undealt_book, undealt_play}
use Rattle.view_laws.proofs.Betting.{due-deck, over-deck}

-- The start of the hand that is played at a table.
pub start_at-undealt : (book : BookState) (table : ℕ)
    → start_at (undealt_book book).started table ≡ option_map without_deck (start_at book.started table)
start_at-undealt book table = get_or-map_all (option_map without_deck) book.started table None

-- The hand that is played at a table.
pub hand_at-undealt : (play : PlayState) (table : ℕ)
    → hand_at (undealt_play play) table ≡ option_map undealt (hand_at play table)
hand_at-undealt play table =
    ap (option_map {U = HandTerms} (λ start. record { start = start; acts = acts_at play.acts table }))
    (start_at-undealt play.book table)
    ∙ by_start (start_at play.book.started table)
  where
    by_start : (start : Option HandStart)
        → option_map {U = HandTerms} (λ start. record { start = start; acts = acts_at play.acts table })
        (option_map without_deck start)
        ≡ option_map undealt (option_map (λ start. record { start = start; acts = acts_at play.acts table }) start)
    by_start None = refl
    by_start (Some start) = refl

-- The hand that an event is about.
hand_about-undealt : (play : PlayState) (event : Event)
    → hand_about (undealt_play play) event ≡ option_map undealt (hand_about play event)
hand_about-undealt play event = by_table (hand_table event)
  where
    by_table : (table : Option ℕ)
        → option_and_then (hand_at (undealt_play play)) table
        ≡ option_map undealt (option_and_then (hand_at play) table)
    by_table None = refl
    by_table (Some table) = hand_at-undealt play table

-- Why the hand refuses an event.
hand_refusal-undealt : (event : Event) (hand : HandTerms) → hand_refusal event (undealt hand) ≡ hand_refusal event hand
hand_refusal-undealt (events.Act table name act) hand = refusal-deck hand [] name act
hand_refusal-undealt (events.Time table) hand =
    ap (λ (due : Option ℕ). first_that_holds ((HandOver, is_none due) ∷ [])) (due-deck hand [])
hand_refusal-undealt (events.Settle table) hand =
    ap (λ (over : Bool). first_that_holds ((NotOver, not over) ∷ [])) (over-deck hand [])
hand_refusal-undealt _ hand = refl

-- Why the book refuses an event: it asks nothing of the hands that are played.
book_refusal-undealt : (book : BookState) (event : Event)
    → book_refusal (undealt_book book) event ≡ book_refusal book event
unfolding book_refusal
book_refusal-undealt book (events.Plan line) = refl
book_refusal-undealt book _ = refl

-- Why an event is refused.
pub refusal-undealt : (play : PlayState) (event : Event) → refusal_of (undealt_play play) event ≡ refusal_of play event
refusal-undealt play event =
    let book = book_refusal-undealt play.book event in
    let hand = ap (option_and_then (hand_refusal event)) (hand_about-undealt play event)
    ∙ by_hand (hand_about play event) in
    refusal-parts (undealt_play play) event ∙ ((λ i. option_or (book i) (hand i)) ∙ sym (refusal-parts play event))
  where
    by_hand : (hand : Option HandTerms)
        → option_and_then (hand_refusal event) (option_map undealt hand) ≡ option_and_then (hand_refusal event) hand
    by_hand None = refl
    by_hand (Some hand) = hand_refusal-undealt event hand
