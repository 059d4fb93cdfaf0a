-- What a settle makes of a book does not depend on cards that the hand does not show.
use Rattle.std.proofs.Common.{◌≡◌, ◌∙◌, sym, ap, ℕ, ◌+◌, true, List, ◌++◌, map}
use Rattle.std.specs.Prelude.{◌==◌, Option, None, option_map, filter}
use Rattle.std.proofs.lemmas.List.{map-set}
use Rattle.table_engine.specs.declared.start.HandStart.{HandStart}
use Rattle.table_engine.specs.declared.start.StartSeat.{StartSeat}
use Rattle.table_engine.specs.Hands.{HandTerms, is_over}
use Rattle.table_engine.specs.Results.{stack_after_hand, with_stack}
use Rattle.table_engine.proofs.NoCards.{redealt}
use Rattle.tournament_rules.specs.Books.{BookState}
use Rattle.tournament_rules.specs.Players.{stayed}
use Rattle.tournament_rules.specs.Effects.{ended, settled, bust_of, next_group}
use Rattle.view_rules.specs.Shown.{Viewer, places_shown}
use Rattle.view_rules.specs.Seen.{without_deck, undealt, undealt_book}
use Rattle.view_rules.specs.Agreeing.{HaveSameAt}
use Rattle.view_laws.proofs.SameCards.{stack-alike}

-- A hand is another with its own deck where the two are the same but for decks.
pub redealt-same : (one other : HandTerms) → undealt one ≡ undealt other → redealt one other.start.deck ≡ other
redealt-same one other same = ap (λ (hand : HandTerms). redealt hand other.start.deck) same

-- a book once the hand of a start is settled and its players have these stacks
abbrev settled_with : BookState → HandStart → (StartSeat → ℕ) → BookState
settled_with book start stack =
    let after = ended book start.table (map (λ player. with_stack player (stack player)) start.seats) in
    let busted = filter (λ player. stack player == 0) start.seats in
    record after {
      seating = record after.seating { players = stayed busted after.seating.players };
      busts = book.busts ++ map (bust_of book.group) busted;
      group = next_group book;
      accepted = book.accepted + 1;
    }

-- Such a book without decks.
settled_with-undealt : (book : BookState) (start : HandStart) (stack : StartSeat → ℕ)
    → undealt_book (settled_with book start stack) ≡ settled_with (undealt_book book) (without_deck start) stack
settled_with-undealt book start stack =
    ap (λ (started : List (Option HandStart)). record (settled_with book start stack) { started = started })
    (map-set (option_map without_deck) book.started start.table None)

-- The books after a settle of hands that are the same but for their decks, and have the same cards at all places that
-- the first shows to a player.
pub settled-alike : (who : Viewer) (book twin : BookState) (one other : HandTerms)
    → undealt_book book ≡ undealt_book twin → undealt one ≡ undealt other → is_over one ≡ true
    → HaveSameAt (places_shown who one) one.start.deck other.start.deck
    → undealt_book (settled book one) ≡ undealt_book (settled twin other)
settled-alike who book twin one other books same over cards =
    let starts = ap (λ (hand : HandTerms). hand.start) same in
    let hers = redealt-same one other same in
    let stacks = λ (player : StartSeat). sym (stack-alike who one other.start.deck over cards player)
    ∙ ap (λ (hand : HandTerms). stack_after_hand hand player) hers in
    settled_with-undealt book one.start (stack_after_hand one)
    ∙ ((λ i. settled_with (books i) (starts i) (λ player. stacks player i))
    ∙ sym (settled_with-undealt twin other.start (stack_after_hand other)))
