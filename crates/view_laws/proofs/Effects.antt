-- What an event makes of a tournament without the decks of the hands that are played.
use Rattle.std.proofs.Common.{◌≡◌, ◌∙◌, refl, sym, ap, ℕ, zero, suc, ◌+◌, Bool, true, false, List, [], ◌∷◌, ◌++◌, length}
use Rattle.std.specs.Prelude.{Option, Some, None, option_map, replicate, slice_set}
use Rattle.std.specs.Option.{option_map_or}
use Rattle.std.proofs.lemmas.List.{map-set}
use Rattle.card_set.specs.declared.card.CardRow.{CardRow}
use Rattle.table_engine.specs.declared.start.HandStart.{HandStart}
use Rattle.table_engine.specs.declared.record.ActOf.{ActOf}
use Rattle.table_engine.specs.Hands.{HandTerms}
use Rattle.table_engine.specs.Acts.{hand_after_time}
use Rattle.table_engine.proofs.NoCards.{time-deck}
use Rattle.tournament_events.specs.declared.event.Event.{Event}
use Rattle.tournament_events.specs.declared.event.Event.TheVariants as events
use Rattle.tournament_rules.specs.Books.{BookState, start_at}
use Rattle.tournament_rules.specs.Dealing.{next_start}
use Rattle.tournament_rules.specs.Effects.{begun_book, ended, void_at, void_first}
use Rattle.tournament_rules.specs.States.{PlayState, hand_at, play_effect}
use Rattle.view_rules.specs.Seen.{without_deck, undealt, undealt_book, undealt_play}
use Rattle.view_laws.proofs.Refusals.{start_at-undealt, hand_at-undealt}

-- whether an event has to do with cards: a hand begins, or is settled
abbrev pub is_of_cards : Event → Bool
is_of_cards (events.Begin table row) = true
is_of_cards (events.Settle table) = true
is_of_cards _ = false

-- a book with the starts of other hands
abbrev with_started : BookState → List (Option HandStart) → BookState
with_started book started = record book { started = started }

-- a tournament once a hand of no deck has begun at a table
abbrev pub begun_play : PlayState → ℕ → PlayState
begun_play play table = record {
  book = with_started (begun_book play.book table [])
      (slice_set play.book.started table (Some (next_start play.book table [])));
  acts = slice_set play.acts table [];
}

-- After a begin, whatever its row is.
pub begun-undealt : (play : PlayState) (table : ℕ) (row : CardRow)
    → undealt_play (play_effect play (events.Begin table row)) ≡ begun_play (undealt_play play) table
begun-undealt play table row =
    ap (λ (started : List (Option HandStart)). record {
      book = with_started (begun_book (undealt_book play.book) table []) started;
      acts = slice_set play.acts table [];
    })
    (map-set (option_map without_deck) play.book.started table (Some (next_start play.book table row.cards)))

-- After a called time.
timed-undealt : (play : PlayState) (table : ℕ)
    → undealt_play (play_effect play (events.Time table)) ≡ play_effect (undealt_play play) (events.Time table)
timed-undealt play table =
    ap (λ (acts : List ActOf). record { book = undealt_book play.book; acts = slice_set play.acts table acts })
    (sym (ap (λ (hand : Option HandTerms). option_map_or (λ hand. (hand_after_time hand).acts) hand [])
    (hand_at-undealt play table)
    ∙ by_hand (hand_at play table)))
  where
    by_hand : (hand : Option HandTerms)
        → option_map_or (λ hand. (hand_after_time hand).acts) (option_map undealt hand) []
        ≡ option_map_or (λ hand. (hand_after_time hand).acts) hand []
    by_hand None = refl
    by_hand (Some hand) = ap (λ (act : ActOf). hand.acts ++ act ∷ []) (time-deck hand [])

-- Once a hand is void.
void_at-undealt : (book : BookState) (table : ℕ)
    → void_at (undealt_book book) table ≡ undealt_book (void_at book table)
void_at-undealt book table =
    ap (λ (start : Option HandStart). option_map_or (λ start. ended (undealt_book book) table start.seats) start
    (undealt_book book)) (start_at-undealt book table)
    ∙ by_start (start_at book.started table)
  where
    by_start : (start : Option HandStart)
        → option_map_or (λ start. ended (undealt_book book) table start.seats) (option_map without_deck start)
        (undealt_book book)
        ≡ undealt_book (option_map_or (λ start. ended book table start.seats) start book)
    by_start None = refl
    by_start (Some start) =
        ap (with_started (ended book table start.seats))
        (sym (map-set (option_map without_deck) book.started table None))

-- Once all hands are void.
void_first-undealt : (book : BookState) (tables : ℕ)
    → void_first (undealt_book book) tables ≡ undealt_book (void_first book tables)
void_first-undealt book zero = refl
void_first-undealt book (suc tables) =
    ap (λ (book : BookState). void_at book (suc tables)) (void_first-undealt book tables)
    ∙ void_at-undealt (void_first book tables) (suc tables)

-- After any event but a begin and a settle.
pub effect-undealt : (play : PlayState) (event : Event) → is_of_cards event ≡ false
    → undealt_play (play_effect play event) ≡ play_effect (undealt_play play) event
effect-undealt play (events.Begin table row) other = absurd cc
effect-undealt play (events.Time table) other = timed-undealt play table
effect-undealt play (events.Settle table) other = absurd cc
effect-undealt play events.Stop other =
    ap (λ (book : BookState). record {
      book = record book { stopped = true; accepted = play.book.accepted + 1 };
      acts = replicate (length play.acts) [];
    })
    (sym (void_first-undealt play.book play.book.plan.tables))
effect-undealt play _ other = refl
