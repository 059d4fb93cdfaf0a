-- The book and the hands by table, as layers of the tournament that they are.
use Rattle.std.proofs.Common.{◌≡◌, ◌∙◌, refl, sym, ap, ℕ, zero, suc, List, [], ◌∷◌, map, length, get_or, length-set}
use Rattle.std.specs.Prelude.{replicate, Option, Some, None, option_map, slice_index_or}
use Rattle.std.specs.Option.{option_and_then}
use Rattle.std.proofs.Math.ListN.{get_or-map as get_or-map_all}
use Rattle.std.proofs.Math.Seq.{map-set_same}
use Rattle.std.proofs.lemmas.List.{map-set, length-map}
use Rattle.table_engine.specs.Hands.{HandTerms}
use Rattle.tournament_events.specs.declared.event.Event.{Event}
use Rattle.tournament_rules.specs.Books.{BookState, start_at}
use Rattle.tournament_rules.specs.States.{acts_at, hand_at, hand_table, hand_about}
use Rattle.tournament_rules.specs.Apart.{hand_in, hand_for, start_of, acts_of, seen_of}

-- The hand that the tournament has at a table is the hand at that table.
pub hand_read : (book : BookState) (hands : List (Option HandTerms)) (table : ℕ) → map start_of hands ≡ book.started
    → hand_at (seen_of (record { book = book; hands = hands })) table ≡ hand_in hands table
hand_read book hands table tied =
    rw (← tied, get_or-map_all start_of hands table None, get_or-map_all acts_of hands table None)
    (by_hand (hand_in hands table))
  where
    by_hand : (hand : Option HandTerms)
        → option_map (λ start. record { start = start; acts = acts_of hand }) (start_of hand) ≡ hand
    by_hand None = refl
    by_hand (Some hand) = refl

-- The start that the book has for a table is that of the hand there.
pub start_read : (book : BookState) (hands : List (Option HandTerms)) (table : ℕ) → map start_of hands ≡ book.started
    → start_at book.started table ≡ start_of (hand_in hands table)
start_read book hands table tied = rw (← tied) (get_or-map_all start_of hands table None)

-- The acts that the tournament has at a table are those of the hand there.
pub acts_read : (hands : List (Option HandTerms)) (table : ℕ)
    → acts_at (map acts_of hands) table ≡ acts_of (hand_in hands table)
acts_read hands table = get_or-map_all acts_of hands table None

-- The hand that an event is about is the same.
pub hand_for-read : (book : BookState) (hands : List (Option HandTerms)) (event : Event)
    → map start_of hands ≡ book.started
    → hand_about (seen_of (record { book = book; hands = hands })) event ≡ hand_for hands event
hand_for-read book hands event tied = by_table (hand_table event)
  where
    by_table : (table : Option ℕ)
        → option_and_then (hand_at (seen_of (record { book = book; hands = hands }))) table
        ≡ option_and_then (hand_in hands) table
    by_table None = refl
    by_table (Some table) = hand_read book hands table tied

-- No hand is played at any table.
pub map_empty : {A B : Type 0} (f : A → B) (count : ℕ) (item : A)
    → map f (replicate count item) ≡ replicate count (f item)
map_empty f zero item = refl
map_empty f (suc count) item = ap (◌∷◌ (f item)) (map_empty f count item)

-- Where nothing is found at any table, all slots are empty.
pub all_empty : {A : Type 0} (slots : List (Option A)) → ((table : ℕ) → slice_index_or slots table None ≡ None) → slots
    ≡ replicate (length slots) None
all_empty [] none = refl
all_empty (slot ∷ slots) none = let first : slot ≡ None =
    none 0 in rw (first, ← all_empty slots (λ table. none (suc table))) refl

-- Each table has a place among the hands.
pub hands_length : (book : BookState) (hands : List (Option HandTerms)) → map start_of hands ≡ book.started
    → length hands ≡ length book.started
hands_length book hands tied = sym (length-map hands start_of) ∙ ap length tied

pub ruleset layers =
    (map-set, map-set_same, length-map, length-set, hands_length, hand_read, start_read, acts_read, map_empty)
