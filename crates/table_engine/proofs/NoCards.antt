-- Betting does not depend on the deck of the start.
use Rattle.std.proofs.Common.{◌≡◌, ◌∙◌, ℕ, zero, suc, List, [], ◌∷◌, ◌++◌, map, refl, ap, sym}
use Rattle.std.specs.Prelude.{not, Option, reverse}
use Rattle.card_set.specs.declared.card.Card.{Card}
use Rattle.card_set.specs.Decks.{IsDeck}
use Rattle.betting_round.specs.StreetActs.{SeatAct}
use Rattle.betting_round.specs.declared.act.Act.{Act}
use Rattle.table_engine.specs.declared.record.ActOf.{ActOf}
use Rattle.table_engine.specs.declared.start.HandStart.{HandStart}
use Rattle.table_engine.specs.declared.start.StartSeat.{StartSeat}
use Rattle.table_engine.specs.Hands.{HandTerms, Streets, all_dealt_on, by_seat, dealt_on, due_name, first_streets, put_in_hand, street_now, streets_after, streets_of, with_act, with_next_street}
use Rattle.floor_text.specs.declared.refusal.Refusal.TheVariants.{NotDealt}
use Rattle.rulebook.specs.Checks.{first_that_holds}
use Rattle.betting_round.specs.ActChecks.{seat_checks}
use Rattle.table_engine.specs.Acts.{act_checks, acting_seat, done_of_act, is_dealt, limits_on, refusal_of_act, time_act}
use Rattle.std.specs.Prelude.{Some, None}
use Rattle.table_engine.specs.Deals.{board_of}
use Rattle.table_engine.specs.Hands.{dead_chips, is_live, players_by_seat}
use Rattle.table_engine.specs.Results.{live_in_hand, pots_in_hand, put_at, puts_in_hand, showdown_awards}
use Rattle.showdown.specs.Awards.{awards_of}
use Rattle.showdown.specs.Hands.{hands_of}
use Rattle.pot_layers.specs.Layers.{layers}
use Rattle.table_engine.specs.Plays.{AreTimedAfter, IsLawfulPlay, are_lawful_after}
use Rattle.table_engine.specs.Starts.{IsLawfulStart}

-- A start with another deck.
abbrev pub with_deck : HandStart → List Card → HandStart
with_deck start deck = record start { deck = deck }

-- A hand with another deck.
abbrev pub redealt : HandTerms → List Card → HandTerms
redealt hand deck = record hand { start = with_deck hand.start deck }

pub dealt_on-deck : (start : HandStart) (deck : List Card) (left : ℕ) (streets : Streets)
    → dealt_on (with_deck start deck) left streets ≡ dealt_on start left streets
dealt_on-deck start deck zero streets = refl
dealt_on-deck start deck (suc left) streets = rw (dealt_on-deck start deck left (with_next_street start streets))

pub streets_after-deck : (start : HandStart) (deck : List Card) (acts : List SeatAct)
    → streets_after (with_deck start deck) acts ≡ streets_after start acts
unfolding streets_after
streets_after-deck start deck [] = dealt_on-deck start deck 3 (first_streets start)
streets_after-deck start deck (entry ∷ acts) =
    ap (λ streets. all_dealt_on (with_deck start deck) (with_act streets entry)) (streets_after-deck start deck acts)
    ∙ dealt_on-deck start deck (streets_after start acts).left (with_act (streets_after start acts) entry)

pub streets-deck : (hand : HandTerms) (deck : List Card) → streets_of (redealt hand deck) ≡ streets_of hand
streets-deck hand deck = streets_after-deck hand.start deck (reverse (map (by_seat hand.start) hand.acts))

pub due-deck : (hand : HandTerms) (deck : List Card) → due_name (redealt hand deck) ≡ due_name hand
due-deck hand deck = rw (streets-deck hand deck)

pub put-deck : (hand : HandTerms) (deck : List Card) (player : StartSeat)
    → put_in_hand (redealt hand deck) player ≡ put_in_hand hand player
put-deck hand deck player = rw (streets-deck hand deck)

pub refusal-deck : (hand : HandTerms) (deck : List Card) (name : List ℕ) (act : Act)
    → refusal_of_act (redealt hand deck) name act ≡ refusal_of_act hand name act
unfolding act_checks
refusal-deck hand deck name act = ap (λ streets. first_that_holds ((NotDealt, not (is_dealt hand.start name))
    ∷ seat_checks (limits_on hand.start streets) (street_now streets) (acting_seat hand name) act))
    (streets-deck hand deck)

pub done-deck : (hand : HandTerms) (deck : List Card) (name : List ℕ) (act : Act)
    → done_of_act (redealt hand deck) name act ≡ done_of_act hand name act
unfolding done_of_act
done-deck hand deck name act = rw (streets-deck hand deck)

pub time-deck : (hand : HandTerms) (deck : List Card) → time_act (redealt hand deck) ≡ time_act hand
unfolding time_act
time-deck hand deck = rw (streets-deck hand deck)

pub lawful-deck : (start : HandStart) (deck : List Card) (before acts : List ActOf)
    → are_lawful_after (with_deck start deck) before acts ≡ are_lawful_after start before acts
lawful-deck start deck before [] = refl
lawful-deck start deck before (act ∷ acts) =
    rw (
      refusal-deck (record { start = start; acts = before }) deck act.name act.act,
      lawful-deck start deck (before ++ act ∷ []) acts,
    )

pub start-deck : (start : HandStart) (deck : List Card) → IsLawfulStart start → IsDeck deck
    → IsLawfulStart (with_deck start deck)
start-deck start deck lawful is = record {
  two = lawful.two;
  some_seats = lawful.some_seats;
  most_seats = lawful.most_seats;
  rising = lawful.rising;
  within = lawful.within;
  numbers = lawful.numbers;
  entries = lawful.entries;
  names = lawful.names;
  stacks = lawful.stacks;
  chips = lawful.chips;
  marks = lawful.marks;
  big = lawful.big;
  small = lawful.small;
  blinds = lawful.blinds;
  deck = is;
}

-- Acts that came by called times are those of called times, whatever the deck is.
timed-deck : (start : HandStart) (deck : List Card) (before acts : List ActOf) → AreTimedAfter start before acts
    → AreTimedAfter (with_deck start deck) before acts
timed-deck start deck before [] timed = tt
timed-deck start deck before (act ∷ acts) timed = (
  λ by_time. timed.0 by_time ∙ sym (time-deck (record { start = start; acts = before }) deck),
  timed-deck start deck (before ++ act ∷ []) acts timed.1,
)

-- A lawful play of a start is one of the start with another deck.
pub play-deck : (hand : HandTerms) (deck : List Card) → IsLawfulPlay hand → IsLawfulPlay (redealt hand deck)
play-deck hand deck play = record {
  acts = lawful-deck hand.start deck [] hand.acts ∙ play.acts;
  timed = timed-deck hand.start deck [] hand.acts play.timed;
}

pub live-deck : (hand : HandTerms) (deck : List Card) (player : StartSeat)
    → is_live (redealt hand deck) player ≡ is_live hand player
live-deck hand deck player = rw (streets-deck hand deck)

put_at-deck : (hand : HandTerms) (deck : List Card) (slot : Option StartSeat)
    → put_at (redealt hand deck) slot ≡ put_at hand slot
put_at-deck hand deck None = refl
put_at-deck hand deck (Some player) =
    λ i. record { amount = put-deck hand deck player i; live = live-deck hand deck player i }

pub puts-deck : (hand : HandTerms) (deck : List Card) → puts_in_hand (redealt hand deck) ≡ puts_in_hand hand
unfolding puts_in_hand
puts-deck hand deck = λ i. map (λ slot. put_at-deck hand deck slot i) (players_by_seat hand.start)

-- Two decks show the same cards where the hand comes to a showdown.
pub record ShowAlike (hand : HandTerms) (deck : List Card) : Type 0 where
  pub board : board_of (with_deck hand.start deck) ≡ board_of hand.start
  pub live : live_in_hand (redealt hand deck) ≡ live_in_hand hand

pub awards-deck : (hand : HandTerms) (deck : List Card) → ShowAlike hand deck
    → showdown_awards (redealt hand deck) ≡ showdown_awards hand
unfolding showdown_awards pots_in_hand
awards-deck hand deck alike =
    λ i. awards_of (hands_of hand.start.game (alike.board i) (alike.live i)) hand.start.blind.unit
    hand.start.marks.button
    hand.start.seat_count (layers (puts-deck hand deck i) (dead_chips hand.start))
