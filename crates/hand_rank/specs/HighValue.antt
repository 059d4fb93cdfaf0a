-- Values of five cards as the code has them: a category and two sets of ranks. This project's own.
use Rattle.std.specs.Prelude.{◌≡◌, ℕ, ◌+◌, ◌≤◌, ◌<◌, ◌^◌, ◌==◌, if◌then◌else◌, List, [], ◌∷◌, ◌++◌, length, take, drop}
use Rattle.hand_rank.specs.declared.category.Category.{Category}
use Rattle.hand_rank.specs.declared.category.Category.TheVariants.{HighCard, OnePair, TwoPair, ThreeOfAKind, Straight, Flush, FullHouse, FourOfAKind, StraightFlush}
use Rattle.hand_rank.specs.declared.high_value.HighValue.TheInside.{Inside}
use Rattle.hand_rank.specs.Sets.{ranks_of}
use Rattle.hand_rank.specs.Shapes.{most_of}
use Rattle.hand_rank.specs.Values.{category_number}

-- the numbers of a value: the category, then the ranks that occur most often, then the others
abbrev pub numbers_of : Inside → List ℕ
numbers_of value = category_number value.category ∷ ranks_of value.most.bits ++ ranks_of value.others.bits

-- so many ranks occur most often as in the category, there are five at most, and each is below 16
pub record IsSized (value : Inside) : Type 0 where
  pub most : length (ranks_of value.most.bits) ≡ most_of (category_number value.category)
  pub few : length (ranks_of value.most.bits) + length (ranks_of value.others.bits) ≤ 5
  pub most_within : value.most.bits < 2 ^ 16
  pub others_within : value.others.bits < 2 ^ 16

-- the category of a number from 0 to 8
abbrev pub category_at : ℕ → Category
category_at number =
    if number == 0 then HighCard else if number == 1 then OnePair else if number == 2 then TwoPair
    else if number == 3 then ThreeOfAKind else if number == 4 then Straight else if number == 5 then Flush
    else if number == 6 then FullHouse else if number == 7 then FourOfAKind else StraightFlush

-- the set of some ranks
abbrev pub bits_of : List ℕ → ℕ
bits_of [] = 0
bits_of (rank ∷ ranks) = 2 ^ rank + bits_of ranks

-- the value that has these numbers, and the least one where there are none
abbrev pub value_with : List ℕ → Inside
value_with [] = record { category = HighCard; most = record { bits = 0 }; others = record { bits = 0 } }
value_with (number ∷ ranks) = record {
  category = category_at number;
  most = record { bits = bits_of (take (most_of number) ranks) };
  others = record { bits = bits_of (drop (most_of number) ranks) };
}
