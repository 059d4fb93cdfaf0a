-- Sets of as many ranks compare as numbers as their lists of ranks do.
use Rattle.std.proofs.Common.{◌≡◌, ℕ, zero, suc, ◌+◌, ◌*◌, ◌/◌, ◌%◌, ◌^◌, ◌<◌, ◌-◌, ◌≤◌, ◌⊎◌, inl, inr, Bool, true, false, ◌&&◌, not, eqb, cond, List, [], ◌∷◌, length, refl, sym, ap, ◌∙◌, eqb-true, pow-suc, arith}
use Rattle.std.specs.Prelude.{bit_and, count_ones}
use Rattle.std.specs.Int.{bit_not, w16}
use Rattle.std.specs.Int.Bits.{and_self}
use Rattle.std.specs.Int.Count.{count_leading_zeros, ones_step}
use Rattle.std.proofs.Math.Nat.{mod-lt}
use Rattle.std.proofs.lemmas.Nat.{pow_pos, and_shr, and_le_l}
use Rattle.std.proofs.lemmas.Bool.Decides.{nat_tests}
use Rattle.std.proofs.lemmas.Nat.Bits.{bit_at_and, bit_at_lowest, bit_at_not, bit_at-lt, bit_at-zero}
use Rattle.card_choices.proofs.ListOrder.{Upto}
use Rattle.hand_rank.specs.Sets.{has_rank, falling, ranks_of}
use Rattle.hand_rank.specs.GivenBack.{with_bit, without_bit}
use Rattle.hand_rank.proofs.SetLaws.{how_many, ones_counted, highest_top}
use Rattle.hand_rank.proofs.Sections.{falling-none, falling-empty}

-- one list comes before another, and is not the same
abbrev pub Before : List ℕ → List ℕ → Type 0
Before [] [] = ⊥
Before [] (y ∷ ys) = Unit {0}
Before (x ∷ xs) [] = ⊥
Before (x ∷ xs) (y ∷ ys) = (x < y) ⊎ ((x ≡ y) × Before xs ys)

-- a list that comes before another comes no later than it
pub before-upto : (xs ys : List ℕ) → Before xs ys → Upto xs ys
before-upto [] [] is = absurd is
before-upto [] (y ∷ ys) is = tt
before-upto (x ∷ xs) [] is = absurd is
before-upto (x ∷ xs) (y ∷ ys) (inl less) = inl less
before-upto (x ∷ xs) (y ∷ ys) (inr at) = inr (at.0, before-upto xs ys at.1)

-- lower ranks come before a higher one
pub falling-before : (test : ℕ → Bool) (n m : ℕ) (ys : List ℕ) → n ≤ m → Before (falling test n) (m ∷ ys)
unfolding falling
falling-before test zero m ys low = tt
falling-before test (suc n) m ys low =
    elim (test n) as (λ b. Before (cond b (n ∷ falling test n) (falling test n)) (m ∷ ys)) [
      | true ↦ inl (omega arith)
      | false ↦ falling-before test n m ys (omega arith)
    ]

-- sets that compare as numbers up to a bound have lists of which one comes before the other
sets-before : (n a b : ℕ) → a % 2 ^ n < b % 2 ^ n → Before (falling (has_rank a) n) (falling (has_rank b) n)
unfolding falling
sets-before zero a b less = absurd (grind arith)
sets-before (suc n) a b less =
    let low_b : b % 2 ^ n < 2 ^ n = mod-lt b (pow_pos n) in
    elim (has_rank a n) as (λ x. has_rank a n ≡ x
    → Before (cond x (n ∷ falling (has_rank a) n) (falling (has_rank a) n))
    (cond (has_rank b n) (n ∷ falling (has_rank b) n) (falling (has_rank b) n))) [
      | true ↦ λ in_a. elim (has_rank b n) as (λ y. has_rank b n ≡ y
          → Before (n ∷ falling (has_rank a) n) (cond y (n ∷ falling (has_rank b) n) (falling (has_rank b) n))) [
            | true ↦ λ in_b. inr (
              refl,
              sets-before n a b
                  (rest_of 1 (2 ^ n) (a % 2 ^ n) (b % 2 ^ n) (a % 2 ^ suc n) (b % 2 ^ suc n) (with_bit n a in_a)
                  (with_bit n b in_b) less),
            )
            | false ↦ λ in_b. absurd
                (none_of (2 ^ n) (a % 2 ^ n) (b % 2 ^ n) (a % 2 ^ suc n) (b % 2 ^ suc n) (with_bit n a in_a)
                (without_bit n b in_b) low_b less)
          ] refl
      | false ↦ λ in_a. elim (has_rank b n) as (λ y. has_rank b n ≡ y
          → Before (falling (has_rank a) n) (cond y (n ∷ falling (has_rank b) n) (falling (has_rank b) n))) [
            | true ↦ λ in_b. falling-before (has_rank a) n n (falling (has_rank b) n) (omega arith)
            | false ↦ λ in_b. sets-before n a b
                (rest_of 0 (2 ^ n) (a % 2 ^ n) (b % 2 ^ n) (a % 2 ^ suc n) (b % 2 ^ suc n) (without_bit n a in_a)
                (without_bit n b in_b) less)
          ] refl
    ] refl
  where
    rest_of : (k p x y u v : ℕ) → u ≡ k * p + x → v ≡ k * p + y → u < v → x < y
    rest_of k p x y u v is also less = grind arith

    none_of : (p x y u v : ℕ) → u ≡ 1 * p + x → v ≡ 0 * p + y → y < p → u < v → ⊥
    none_of p x y u v is also low less = grind arith

-- the lesser number comes before
pub numbers-before : (a b : ℕ) → a < 2 ^ 16 → b < 2 ^ 16 → a < b → Before (ranks_of a) (ranks_of b)
numbers-before a b fits_a fits_b less = sets-before 16 a b (omega arith)

-- the ranks of a set that another has not
pub has_rank_minus : (a b r : ℕ) → b < 2 ^ 16 → r < 16
    → has_rank (bit_and a (bit_not w16 b)) r ≡ (has_rank a r && not (has_rank b r))
has_rank_minus a b r fits within =
    let at = bit_at_and a (bit_not w16 b) r in
    let no_more = bit_at_not w16 b r fits within in
    let one = bit_at-lt a r in
    let other = bit_at-lt b r in
    grind (arith, nat_tests)

-- an empty set has no ranks
pub ranks-empty : (bits : ℕ) → bits ≡ 0 → ranks_of bits ≡ []
ranks-empty bits is = falling-empty (has_rank bits) 16 (λ r within. rw is (ap (λ b. eqb b 1) (bit_at-zero r)))

-- and another has some
pub ranks-some : (bits : ℕ) → (bits ≡ 0 → ⊥) → bits < 2 ^ 16 → 1 ≤ length (ranks_of bits)
ranks-some bits some fits =
    let top = highest_top bits some fits in
    (elim (ranks_of bits) as (λ ranks. ranks_of bits ≡ ranks → 1 ≤ length ranks) [
      | [] ↦ λ none. let bad : true ≡ false = sym top.0
          ∙ falling-none (has_rank bits) 16 (15 - count_leading_zeros 16 bits) none (omega arith) in absurd cc
      | rank ∷ ranks ↦ λ are. omega arith
    ]) refl

-- how many ranks a set has
many-falling : (test : ℕ → Bool) (n : ℕ) → length (falling test n) ≡ how_many test n
unfolding falling how_many
many-falling test zero = refl
many-falling test (suc n) =
    let later = many-falling test n in
    elim (test n) as (λ b. length (cond b (n ∷ falling test n) (falling test n)) ≡ cond b 1 0 + how_many test n) [
      | true ↦ omega arith
      | false ↦ omega arith
    ]

-- a set has as many ones among its bits as there are ranks in its list
pub ranks-counted : (bits : ℕ) → bits < 2 ^ 16 → count_ones bits ≡ length (ranks_of bits)
ranks-counted bits fits = ones_counted 16 bits fits ∙ sym (many-falling (has_rank bits) 16)

-- without its lowest bit a number has one fewer
lowest-off : (n a : ℕ) → a < 2 ^ n → 1 ≤ a → count_ones (bit_and a (a - 1)) + 1 ≡ count_ones a
lowest-off zero a fits some = absurd (omega arith)
lowest-off (suc n) a fits some =
    let half : a / 2 < 2 ^ n = grind (arith, pow-suc) in
    let step = ones_step a in
    let both = ones_step (bit_and a (a - 1)) in
    let shifted : bit_and a (a - 1) / 2 ≡ bit_and (a / 2) ((a - 1) / 2) = and_shr a (a - 1) 1 in
    let lowest : bit_and a (a - 1) % 2 ≡ 0 = lowest-none a some in
    elim (eqb (a % 2) 1) as (λ b. eqb (a % 2) 1 ≡ b → count_ones (bit_and a (a - 1)) + 1 ≡ count_ones a) [
      | true ↦ λ odd.
          let same : (a - 1) / 2 ≡ a / 2 = grind (arith, nat_tests) in
          let left = ap count_ones (shifted ∙ ap (bit_and (a / 2)) same ∙ and_self (a / 2)) in
          omega (arith, left, both, step, lowest, eqb-true (a % 2) 1 odd)
      | false ↦ λ even.
          let bit : a % 2 ≡ 0 = grind (arith, nat_tests) in
          let less : (a - 1) / 2 ≡ a / 2 - 1 = grind arith in
          let left = ap count_ones (shifted ∙ ap (bit_and (a / 2)) less) in
          let later = lowest-off n (a / 2) half (grind arith) in
          omega (arith, left, later, both, step, lowest, bit)
    ] refl
  where
    lowest-none : (a : ℕ) → 1 ≤ a → bit_and a (a - 1) % 2 ≡ 0
    lowest-none a some =
        let at = bit_at_and a (a - 1) 0 in
        let one = bit_at_lowest a in
        let other = bit_at_lowest (a - 1) in
        let all = bit_at_lowest (bit_and a (a - 1)) in
        grind arith

-- a set without its lowest rank has one rank fewer, if it has one
pub lowest-left : (bits : ℕ) → bits < 2 ^ 16
    → length (ranks_of (bit_and bits ((bits + 65535) % 65536))) ≡ length (ranks_of bits) - 1
lowest-left bits fits =
    let left = bit_and bits ((bits + 65535) % 65536) in
    let few : left ≤ bits = and_le_l bits ((bits + 65535) % 65536) in
    let before = ranks-counted bits fits in
    let after = ranks-counted left (omega (arith, few, fits)) in
    elim (eqb bits 0) as (λ b. eqb bits 0 ≡ b → length (ranks_of left) ≡ length (ranks_of bits) - 1) [
      | true ↦ λ is_none.
          let none : bits ≡ 0 = eqb-true bits 0 is_none in
          let nothing : left ≡ 0 = grind arith in
          let one = ap length (ranks-empty bits none) in
          let other = ap length (ranks-empty left nothing) in
          omega arith
      | false ↦ λ some.
          let from : 1 ≤ bits = grind (arith, nat_tests) in
          let less : (bits + 65535) % 65536 ≡ bits - 1 = grind arith in
          let one_off = ap (λ m. count_ones (bit_and bits m) + 1) less ∙ lowest-off 16 bits fits from in
          omega arith
    ] refl
