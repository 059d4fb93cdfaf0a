-- The best low of a hand under changes of its cards' order and suits: only its low ranks count.
use Rattle.std.proofs.Common.{◌≡◌, ℕ, Bool, true, false, ◌||◌, eqb, List, [], ◌∷◌, refl, sym, ap, ap₂, ◌∙◌}
use Rattle.std.specs.Prelude.{map, if◌then◌else◌}
use Rattle.std.specs.List.{list_any}
use Rattle.card_set.specs.declared.card.Card.{Card}
use Rattle.card_choices.specs.Changes.{AreRenamed}
use Rattle.card_choices.specs.Choices.{omaha_choices}
use Rattle.card_choices.proofs.Combined.{AllowsExchange}
use Rattle.low_rank.specs.Lows.{low_rank, best_low_of}
use Rattle.low_rank.specs.LowRanks.{has_low, five_least, shown}
use Rattle.low_rank.proofs.ShownLaws.{best-shown}

-- cards with the same low ranks have the same best low
low-alike : (hole others board boards : List Card) → ((rank : ℕ) → has_low hole rank ≡ has_low others rank)
    → ((rank : ℕ) → has_low board rank ≡ has_low boards rank)
    → best_low_of (omaha_choices hole board) ≡ best_low_of (omaha_choices others boards)
low-alike hole others board boards of_hole of_board =
    best-shown hole board
    ∙ ap₂ (λ one other. five_least (shown one other)) (λ i rank. of_hole rank i) (λ i rank. of_board rank i)
    ∙ sym (best-shown others boards)

low-exchange : (rank : ℕ) → AllowsExchange (λ cards. has_low cards rank)
low-exchange rank [] a b back = turned (eqb (low_rank a) rank) (eqb (low_rank b) rank) (has_low back rank)
  where
    turned : (one other rest : Bool) → (one || (other || rest)) ≡ (other || (one || rest))
    turned true true rest = refl
    turned true false rest = refl
    turned false other rest = refl
low-exchange rank (card ∷ front) a b back =
    ap (λ later. eqb (low_rank card) rank || later) (low-exchange rank front a b back)

low_ranks-renamed : (suit : ℕ → ℕ) (cards others : List Card) → AreRenamed suit cards others
    → map low_rank cards ≡ map low_rank others
low_ranks-renamed suit [] [] renamed = refl
low_ranks-renamed suit [] (other ∷ others) renamed = absurd renamed
low_ranks-renamed suit (card ∷ cards) [] renamed = absurd renamed
low_ranks-renamed suit (card ∷ cards) (other ∷ others) renamed =
    ap₂ (λ rank ranks. (if eqb rank 14 then 1 else rank) ∷ ranks) (sym renamed.0)
    (low_ranks-renamed suit cards others renamed.2)

-- the best low in Omaha is the same where two neighbouring hole cards change places
pub low-exchange_hole : (board : List Card) → AllowsExchange (λ hole. best_low_of (omaha_choices hole board))
low-exchange_hole board front a b back =
    low-alike _ _ board board (λ rank. low-exchange rank front a b back) (λ rank. refl)

-- the best low in Omaha is the same where two neighbouring cards of the board change places
pub low-exchange_board : (hole : List Card) → AllowsExchange (λ board. best_low_of (omaha_choices hole board))
low-exchange_board hole front a b back =
    low-alike hole hole _ _ (λ rank. refl) (λ rank. low-exchange rank front a b back)

-- the best low in Omaha is the same where the suits of the hole cards and of the board are renamed
pub low-renamed : (suit : ℕ → ℕ) (hole others board boards : List Card) → AreRenamed suit hole others
    → AreRenamed suit board boards
    → best_low_of (omaha_choices hole board) ≡ best_low_of (omaha_choices others boards)
low-renamed suit hole others board boards of_hole of_board =
    low-alike hole others board boards
    (λ rank. ap (list_any (λ other. eqb other rank)) (low_ranks-renamed suit hole others of_hole))
    (λ rank. ap (list_any (λ other. eqb other rank)) (low_ranks-renamed suit board boards of_board))
