-- The hands of hole cards that are all shown with cards of a board: two hole cards, or none. This project's own.
use Rattle.std.specs.Prelude.{◌≡◌, ℕ, ◌+◌, ◌-◌, ◌≤◌, ◌<◌, ◌⊎◌, ◌==◌, ◌&&◌, not, nat_le, Bool, true, false, if◌then◌else◌, List, [], ◌∷◌, ◌++◌, length, map, count_by, Option, Some, None}
use Rattle.std.specs.List.{list_all}
use Rattle.card_set.specs.declared.card.Card.{Card}
use Rattle.card_choices.specs.Choices.{choices}
use Rattle.hand_rank.specs.declared.board.Board.{Board}
use Rattle.hand_rank.specs.declared.held.Held.{Held}
use Rattle.hand_rank.specs.BestHigh.{greater, greatest, best_high}
use Rattle.hand_rank.specs.Cards.{count_of_suit, AreOnce}
use Rattle.hand_rank.specs.Runs.{is_run, is_in_run}
use Rattle.hand_rank.specs.Sets.{has_rank, falling, ranks_of, HasRanks, IsTallyOf, AreSuitsOf}
use Rattle.hand_rank.specs.Values.{count_of_rank, five_card_value}

-- the hands of hole cards with each choice of cards of a board that makes them five
abbrev pub hands : List Card → List Card → List (List Card)
hands hole board = map (λ others. hole ++ others) (choices (5 - length hole) board)

-- whether a value is of the category of this number
abbrev pub has_number : ℕ → List ℕ → Bool
has_number number [] = false
has_number number (first ∷ ranks) = first == number

-- the value of five cards where it is of a category, and else the empty list
abbrev pub value_in : ℕ → List Card → List ℕ
value_in number five = if has_number number (five_card_value five) then five_card_value five else []

-- the greatest value of a category among some hands, and the empty list where none is of it
unfoldable pub best_in : ℕ → List (List Card) → List ℕ
best_in number hands = greatest (map (value_in number) hands)

-- the value, and the empty list where there is none
abbrev pub value_or_none : Option (List ℕ) → List ℕ
value_or_none None = []
value_or_none (Some value) = value

-- a value stands for a category among some hands: it is of the category, no hand of the category is worth more, and it
-- is worth no more than the best hand; there is none only where no hand is of the category
pub record IsBestIn (number : ℕ) (best : Option (List ℕ)) (hands : List (List Card)) : Type 0 where
  pub over : greater (best_in number hands) (value_or_none best) ≡ value_or_none best
  pub under : greater (value_or_none best) (best_high hands) ≡ best_high hands
  pub category : (value : List ℕ) → best ≡ Some value → has_number number value ≡ true

-- the ranks of a board, suit by suit and by how often they occur
pub record IsBoardOf (board : Board) (cards : List Card) : Type 0 where
  pub suits : AreSuitsOf board.suits.ranks cards
  pub tally : IsTallyOf board.tally.once.bits board.tally.twice.bits board.tally.thrice.bits board.tally.four.bits
      (count_of_rank cards)

-- how often ranks occur among the cards of a suit, if there is one
abbrev pub count_of_some_suit : Option ℕ → List Card → ℕ → ℕ
count_of_some_suit None cards rank = 0
count_of_some_suit (Some suit) cards rank = count_of_suit cards suit rank

-- the suit that all cards have, if there is one
abbrev pub suit_of : List Card → Option ℕ
suit_of [] = None
suit_of (first ∷ others) = if list_all (λ other. other.suit == first.suit) others then Some first.suit else None

-- the ranks of the only suit that hole cards can have in a flush, among them and a board, or none
pub record AreSuited (bits : ℕ) (hole board : List Card) : Type 0 where
  pub suit : Option ℕ
  pub ranks : HasRanks bits 1 (count_of_some_suit suit (hole ++ board))
  pub of_hole : (s : ℕ) → suit ≡ Some s → list_all (λ card. card.suit == s) hole ≡ true
  pub only : (s : ℕ) → s < 4 → list_all (λ card. card.suit == s) hole ≡ true
      → 5 ≤ count_by (λ card. card.suit == s) (hole ++ board) → suit ≡ Some s

-- hole cards fit into a run: no rank comes twice, and all are in it
pub record FitRun (top : ℕ) (hole : List Card) : Type 0 where
  pub apart : (rank : ℕ) → count_of_rank hole rank ≤ 1
  pub among : (rank : ℕ) → 1 ≤ count_of_rank hole rank → is_in_run top rank ≡ true

-- the ranks that may be in a run with hole cards: all ranks of a run are among them where the hole cards fit into it
pub record AreNear (bits : ℕ) (hole : List Card) : Type 0 where
  pub fits : (top : ℕ) → 5 ≤ top → top < 15 → ((rank : ℕ) → is_in_run top rank ≡ true → has_rank bits rank ≡ true)
      → FitRun top hole
  pub near : (top rank : ℕ) → 5 ≤ top → top < 15 → FitRun top hole → is_in_run top rank ≡ true
      → has_rank bits rank ≡ true

-- hole cards, two at most, with the cards of a board, of which none comes twice: how often ranks occur in the hole
-- cards and in both, which of them may be of a flush, and which may be in a run
pub record IsHeld (held : Held) (hole board : List Card) : Type 0 where
  pub few : length hole ≤ 2
  pub enough : 5 ≤ length hole + length board
  pub once : AreOnce (hole ++ board)
  pub of_hole : IsTallyOf held.hole.once.bits held.hole.twice.bits held.hole.thrice.bits held.hole.four.bits
      (count_of_rank hole)
  pub all : IsTallyOf held.all.once.bits held.all.twice.bits held.all.thrice.bits held.all.four.bits
      (count_of_rank (hole ++ board))
  pub suited : AreSuited held.suited.bits hole board
  pub near : AreNear held.near.bits hole

-- beside some ranks so many others have room for the hole cards, each so often
pub record LeavesRoom (hole : List Card) (c j : ℕ) (ranks : ℕ → Bool) : Type 0 where
  pub few : (rank : ℕ) → ranks rank ≡ false → count_of_rank hole rank ≤ j
  pub room : length (falling (λ rank. nat_le 1 (count_of_rank hole rank) && not (ranks rank)) 16) ≤ c

-- m ranks may occur k times each, where c others beside them do so j times
pub record MayLead (hole board : List Card) (m k c j : ℕ) (ranks : ℕ → Bool) : Type 0 where
  pub within : (rank : ℕ) → rank < 16 → ranks rank ≡ true → k ≤ count_of_rank (hole ++ board) rank
  pub many : length (falling ranks 16) ≡ m
  pub leaves : LeavesRoom hole c j ranks

-- one of a set is among some ranks, or the set is empty
abbrev pub HasOneOf : ℕ → (ℕ → Bool) → Type 0
HasOneOf bits ranks = (ranks_of bits ≡ [])
    ⊎ ((rank : ℕ) × (rank < 16) × (has_rank bits rank ≡ true) × (ranks rank ≡ true))

-- ranks leave room for the hole cards just where one of a set is among them
pub record OneHasToLead (bits : ℕ) (hole : List Card) (c j : ℕ) : Type 0 where
  pub enough : (ranks : ℕ → Bool) → HasOneOf bits ranks → LeavesRoom hole c j ranks
  pub needed : (ranks : ℕ → Bool) → LeavesRoom hole c j ranks → HasOneOf bits ranks

-- five ranks that run to a rank occur, and hole cards fit into the run
pub record RunsWith (top : ℕ) (count : ℕ → ℕ) (hole : List Card) : Type 0 where
  pub low : 5 ≤ top
  pub high : top < 15
  pub runs : is_run (λ rank. nat_le 1 (count rank)) top ≡ true
  pub fits : FitRun top hole

-- the top of the highest run into which hole cards fit, if there is one
pub record IsHighestRunWith (result : Option ℕ) (count : ℕ → ℕ) (hole : List Card) : Type 0 where
  pub is : (top : ℕ) → result ≡ Some top → RunsWith top count hole
  pub others : (top : ℕ) → RunsWith top count hole → (high : ℕ) × (result ≡ Some high) × (top ≤ high)
