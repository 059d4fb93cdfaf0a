-- A list that is written item by item.
use Rattle.std.proofs.Common.{◌≡◌, ℕ, zero, suc, ◌<◌, List, [], ◌∷◌, ◌++◌, Bool, true, false, cond, None, length, get_or, take, drop, refl, ap, sym, arith}
use Rattle.std.specs.Prelude.{Option, map, option_map, is_some, replicate}
use Rattle.std.proofs.lemmas.List.{get_or-map, length-map}
use Rattle.rulebook.proofs.Found.{somes-made}
use Rattle.card_set.specs.declared.card.Card.{Card}
use Rattle.card_set.specs.declared.game.Game.{Game}
use Rattle.showdown.specs.declared.live.Live.{Live}
use Rattle.showdown.specs.Hands.{hand_of, hands_of}
use Rattle.showdown.specs.declared.hand.Hand.{Hand}
use Rattle.showdown.specs.Winners.{in_play}

-- As many hands are in play as there are seats.
pub length-in_play : (eligible : List Bool) (hands : List (Option Hand))
    → length (in_play eligible hands) ≡ length hands
length-in_play eligible [] = refl
length-in_play [] (hand ∷ hands) = ap suc (length-in_play [] hands)
length-in_play (is_in ∷ more) (hand ∷ hands) = ap suc (length-in_play more hands)

nobody-either : (is_in : Bool) (nobody : Option Hand) → nobody ≡ cond is_in nobody nobody
nobody-either true nobody = refl
nobody-either false nobody = refl

-- Whose hand is in play at an index.
pub get_or-in_play : (eligible : List Bool) (hands : List (Option Hand)) (index : ℕ)
    → get_or (in_play eligible hands) index None ≡ cond (get_or eligible index false) (get_or hands index None) None
get_or-in_play [] [] index = refl
get_or-in_play (is_in ∷ more) [] zero = nobody-either is_in None
get_or-in_play (is_in ∷ more) [] (suc index) = nobody-either (get_or more index false) None
get_or-in_play [] (hand ∷ hands) zero = refl
get_or-in_play [] (hand ∷ hands) (suc index) = get_or-in_play [] hands index
get_or-in_play (is_in ∷ more) (hand ∷ hands) zero = refl
get_or-in_play (is_in ∷ more) (hand ∷ hands) (suc index) = get_or-in_play more hands index

-- A list that is wholly written.
pub written-all : {A : Type 0} (target before : List A) (index : ℕ) → length target ≡ length before
    → index ≡ length target → take index target ++ drop index before ≡ target
written-all [] [] index same is = rw is
written-all [] (old ∷ olds) index same is = absurd (omega arith)
written-all (item ∷ more) [] index same is = absurd (omega arith)
written-all (item ∷ more) (old ∷ olds) zero same is = absurd (omega arith)
written-all (item ∷ more) (old ∷ olds) (suc index) same is =
    ap (λ items. item ∷ items) (written-all more olds index (omega arith) (omega arith))

-- A set of which all ten seats are looked at.
pub seats-all : {A : Type 0} (test : A → Bool) (items : List A) (index rest : ℕ) → index ≡ length items → rest ≡ 0
    → map test (take index items) ++ replicate rest false ≡ map test items
seats-all test [] index rest is none = rw (is, none)
seats-all test (item ∷ more) zero rest is none = absurd (omega arith)
seats-all test (item ∷ more) (suc index) rest is none =
    ap (λ seats. test item ∷ seats) (seats-all test more index rest (omega arith) none)

-- The hand of the player at an index.
pub hands_of-at : (game : Game) (board : List Card) (live : List (Option Live)) (index : ℕ) (other : Option Live)
    → index < length live
    → option_map (hand_of game board) (get_or live index other) ≡ get_or (hands_of game board live) index None
unfolding hands_of
hands_of-at game board live index other within =
    sym (get_or-map (option_map (hand_of game board)) live index other None within)

-- The list of hands is as long as the list of live players that they are made of.
pub length-hands_of : (game : Game) (board : List Card) (live : List (Option Live))
    → length (hands_of game board live) ≡ length live
unfolding hands_of
length-hands_of game board live = length-map live (option_map (hand_of game board))

-- The players with hands are the live ones.
pub seats-hands_of : (game : Game) (board : List Card) (live : List (Option Live))
    → map is_some (hands_of game board live) ≡ map is_some live
unfolding hands_of
seats-hands_of game board live = somes-made (hand_of game board) live

-- In hold'em the hole cards are the first two.
pub first-two : (cards : List Card) (one other : Card) → length cards ≡ 4
    → get_or cards 0 one ∷ get_or cards 1 other ∷ [] ≡ take 2 cards
first-two [] one other four = absurd (omega arith)
first-two (a ∷ []) one other four = absurd (omega arith)
first-two (a ∷ (b ∷ more)) one other four = refl
