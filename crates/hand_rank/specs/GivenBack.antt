-- A value is given back by its numbers. This project's own.
use Rattle.std.proofs.Common.{◌≡◌, ℕ, zero, suc, ◌+◌, ◌*◌, ◌%◌, ◌^◌, ◌<◌, true, false, eqb, cond, ◌∷◌, ◌++◌, take, drop, refl, sym, ap, ◌∙◌, eqb-true, pow-suc, arith}
use Rattle.std.specs.Int.{bit_at}
use Rattle.std.proofs.Math.Arith.{mod-mul}
use Rattle.std.proofs.Math.Seq.{take-append_seam, drop-append_seam}
use Rattle.std.proofs.lemmas.Nat.{pow_pos}
use Rattle.std.proofs.lemmas.Bool.Decides.{nat_tests}
use Rattle.std.proofs.lemmas.Nat.Bits.{bit_at-lt}
use Rattle.hand_rank.specs.declared.category.Category.{Category}
use Rattle.hand_rank.specs.declared.category.Category.TheVariants.{HighCard, OnePair, TwoPair, ThreeOfAKind, Straight, Flush, FullHouse, FourOfAKind, StraightFlush}
use Rattle.hand_rank.specs.declared.high_value.HighValue.TheInside.{Inside}
use Rattle.hand_rank.specs.HighValue.{numbers_of, category_at, bits_of, value_with, IsSized}
use Rattle.hand_rank.specs.Sets.{has_rank, falling, ranks_of}
use Rattle.hand_rank.specs.Shapes.{most_of}
use Rattle.hand_rank.specs.Values.{category_number}

-- the highest bit and those below it
top-bit : (n a : ℕ) → a % 2 ^ suc n ≡ bit_at a n * 2 ^ n + a % 2 ^ n
top-bit n a = ap (λ m. a % m) (pow-suc 2 n ∙ grind arith) ∙ mod-mul a {m = 2} {c = 2 ^ n} (omega arith) (pow_pos n)

zero-bit : (x : ℕ) → x < 2 → eqb x 1 ≡ false → x ≡ 0
zero-bit x small apart = grind (arith, nat_tests)

-- a number up to a bit that is set
pub with_bit : (n a : ℕ) → has_rank a n ≡ true → a % 2 ^ suc n ≡ 1 * 2 ^ n + a % 2 ^ n
with_bit n a is = top-bit n a ∙ ap (λ bit. bit * 2 ^ n + a % 2 ^ n) (eqb-true (bit_at a n) 1 is)

-- and up to one that is not
pub without_bit : (n a : ℕ) → has_rank a n ≡ false → a % 2 ^ suc n ≡ 0 * 2 ^ n + a % 2 ^ n
without_bit n a is = top-bit n a ∙ ap (λ bit. bit * 2 ^ n + a % 2 ^ n) (zero-bit (bit_at a n) (bit_at-lt a n) is)

-- the numbers that a number has among its bits give back what is below the bound
bits-below : (bits n : ℕ) → bits_of (falling (has_rank bits) n) ≡ bits % 2 ^ n
unfolding falling
bits-below bits zero = grind arith
bits-below bits (suc n) =
    let later = bits-below bits n in
    elim (has_rank bits n) as (λ b. has_rank bits n ≡ b
    → bits_of (cond b (n ∷ falling (has_rank bits) n) (falling (has_rank bits) n)) ≡ bits % 2 ^ suc n) [
      | true ↦ λ is. let at = with_bit n bits is in omega arith
      | false ↦ λ is_not. let at = without_bit n bits is_not in omega arith
    ] refl

-- a set is given back by its ranks
bits-back : (bits : ℕ) → bits < 2 ^ 16 → bits_of (ranks_of bits) ≡ bits
bits-back bits fits = let below = bits-below bits 16 in omega arith

category-back : (category : Category) → category_at (category_number category) ≡ category
category-back HighCard = refl
category-back OnePair = refl
category-back TwoPair = refl
category-back ThreeOfAKind = refl
category-back Straight = refl
category-back Flush = refl
category-back FullHouse = refl
category-back FourOfAKind = refl
category-back StraightFlush = refl

-- a value is given back by its numbers
pub given_back : (value : Inside) → IsSized value → value_with (numbers_of value) ≡ value
given_back value is =
    let most = ranks_of value.most.bits in
    let others = ranks_of value.others.bits in
    let category = category-back value.category in
    let of_most : bits_of (take (most_of (category_number value.category)) (most ++ others)) ≡ value.most.bits =
    ap (λ n. bits_of (take n (most ++ others))) (sym is.most) ∙ ap bits_of (take-append_seam most others)
    ∙ bits-back value.most.bits is.most_within in
    let of_others : bits_of (drop (most_of (category_number value.category)) (most ++ others)) ≡ value.others.bits =
    ap (λ n. bits_of (drop n (most ++ others))) (sym is.most) ∙ ap bits_of (drop-append_seam most others)
    ∙ bits-back value.others.bits is.others_within in
    λ i. record {
      category = category i;
      most = record { bits = of_most i };
      others = record { bits = of_others i };
    }
