-- What steps on sets of low ranks do, and the least ranks of each set, computed.
use Rattle.std.proofs.Common.{◌≡◌, ℕ, zero, suc, ◌+◌, ◌-◌, ◌*◌, ◌%◌, ◌^◌, ◌<◌, ◌≤◌, Bool, true, false, ◌&&◌, ◌||◌, not, eqb, List, [], ◌∷◌, ◌++◌, length, take, get_or, refl, sym, ap, ap₂, ◌∙◌, eqb-true, add-one, ◌≢◌, le_refl, le_trans, arith}
use Rattle.std.specs.Prelude.{Option, Some, None, map, bit_and, bit_or, if◌then◌else◌}
use Rattle.std.specs.Int.{bit_not, w16}
use Rattle.std.specs.Int.Count.{count_trailing_zeros}
use Rattle.std.specs.List.{list_any}
use Rattle.std.specs.Cmp.Lexicographic.{pointwise}
use Rattle.std.proofs.Math.Bool.{and-true, or-false, or-true}
use Rattle.std.proofs.lemmas.Nat.{and_le_l}
use Rattle.std.proofs.lemmas.Nat.Bits.{bit_at_and, bit_at_or, bit_at_not, bit_at_ones, bit_at_set_same, bit_at_set_other, bit_at-lt, bit_at-zero}
use Rattle.std.proofs.lemmas.List.{map-append, take_more, take_all}
use Rattle.std.proofs.lemmas.List.Folds.{list_any-append}
use Rattle.std.proofs.lemmas.Bool.{agree_below, agree_below_at, eq-eqb}
use Rattle.std.proofs.lemmas.Bool.Decides.{nat_tests}
use lib.Pointwise.{bytes_decides}
use Rattle.card_set.specs.declared.card.Card.{Card}
use Rattle.card_set.proofs.Computed.{all_below, holds_below}
use Rattle.low_rank.specs.Lows.{low_rank}
use Rattle.low_rank.specs.LowRanks.{has_rank, has_low, count_below, least, falling, five_least, without_one, without_least, rank_above}

pub has_rank_none : (rank : ℕ) → has_rank 0 rank ≡ false
has_rank_none rank = ap (λ bit. eqb bit 1) (bit_at-zero rank)

pub has_rank_or : (a b rank : ℕ) → has_rank (bit_or a b) rank ≡ (has_rank a rank || has_rank b rank)
has_rank_or a b rank =
    let at = bit_at_or a b rank in
    let one = bit_at-lt a rank in
    let other = bit_at-lt b rank in
    grind (arith, nat_tests)

pub has_rank_and : (a b rank : ℕ) → has_rank (bit_and a b) rank ≡ (has_rank a rank && has_rank b rank)
has_rank_and a b rank =
    let at = bit_at_and a b rank in
    let one = bit_at-lt a rank in
    let other = bit_at-lt b rank in
    grind (arith, nat_tests)

pub has_rank_minus : (a b rank : ℕ) → b < 2 ^ 16 → rank < 16
    → has_rank (bit_and a (bit_not w16 b)) rank ≡ (has_rank a rank && not (has_rank b rank))
has_rank_minus a b rank fits within =
    let at = bit_at_and a (bit_not w16 b) rank in
    let no_more = bit_at_not w16 b rank fits within in
    let one = bit_at-lt a rank in
    let other = bit_at-lt b rank in
    grind (arith, nat_tests)

-- one more rank
pub has_rank_with : (bits one rank : ℕ) → one < 16
    → has_rank (bit_or bits (1 * 2 ^ one % 2 ^ 16)) rank ≡ (has_rank bits rank || eqb one rank)
has_rank_with bits one rank within =
    elim (eqb one rank) as (λ b. eqb one rank ≡ b
    → has_rank (bit_or bits (1 * 2 ^ one % 2 ^ 16)) rank ≡ (has_rank bits rank || b)) [
      | true ↦ λ same. rw (sym (eqb-true one rank same), bit_at_set_same w16 bits one within)
          (sym (or-true (has_rank bits one)))
      | false ↦ λ other. rw (bit_at_set_other w16 bits one within rank (grind (arith, nat_tests)))
          (sym (or-false (has_rank bits rank)))
    ] refl

-- one more card
pub low-next : (cards : List Card) (i : ℕ) (card : Card) (bits more : ℕ) → i < length cards → card ≡ get_or cards i card
    → more ≡ bit_or bits (1 * 2 ^ low_rank card % 2 ^ 16) → low_rank card < 16
    → ((rank : ℕ) → has_rank bits rank ≡ has_low (take i cards) rank) → (rank : ℕ)
    → has_rank more rank ≡ has_low (take (i + 1) cards) rank
low-next cards i card bits more within at is below have rank =
    let whole : take (i + 1) cards ≡ take i cards ++ card ∷ [] = take_more cards i card within
    ∙ ap (λ c. take i cards ++ c ∷ []) (sym at) in
    ap (λ b. has_rank b rank) is
    ∙ has_rank_with bits (low_rank card) rank below
    ∙ ap₂ (λ one other. one || other) (have rank) (sym (or-false (eqb (low_rank card) rank)))
    ∙ sym (list_any-append (λ other. eqb other rank) (map low_rank (take i cards)) (low_rank card ∷ []))
    ∙ ap (list_any (λ other. eqb other rank)) (sym (map-append low_rank (take i cards) (card ∷ [])))
    ∙ ap (λ some. has_low some rank) (sym whole)

-- the ranks up to eight of all cards
pub low-all : (cards : List Card) (i bits : ℕ) → length cards ≤ i
    → ((rank : ℕ) → has_rank bits rank ≡ has_low (take i cards) rank) → (rank : ℕ) → rank < 9
    → has_rank (bit_and bits 511) rank ≡ has_low cards rank
low-all cards i bits end have rank below =
    has_rank_and bits 511 rank
    ∙ ap₂ (λ one bit. one && eqb bit 1) (have rank) (bit_at_ones 9 rank below)
    ∙ and-true (has_low (take i cards) rank)
    ∙ ap (λ some. has_low some rank) (take_all i cards end)

-- a set without some ranks is no greater a number
pub without_least-low : (count bits : ℕ) → without_least count bits ≤ bits
unfolding without_least
without_least-low zero bits = le_refl bits
without_least-low (suc count) bits =
    le_trans (and_le_l (without_least count bits) (without_least count bits - 1)) (without_least-low count bits)

pub without_least-next : (count bits : ℕ) → without_one (without_least count bits) ≡ without_least (count + 1) bits
unfolding without_least
without_least-next count bits = rw add-one refl

-- the ranks that go with the least are the least
least_test : ℕ → ℕ → Bool
least_test count bits = agree_below (λ rank. has_rank bits rank && not (has_rank (without_least count bits) rank))
    (least count (has_rank bits)) 9

all_least : all_below (λ count. all_below (least_test count) 512) 4 ≡ true
unfolding all_below least_test without_least least count_below
all_least = refl

pub least_bits : (count bits rank : ℕ) → count < 4 → bits < 512 → rank < 9
    → (has_rank bits rank && not (has_rank (without_least count bits) rank)) ≡ least count (has_rank bits) rank
unfolding least_test
least_bits count bits rank few low below =
    agree_below_at (λ rank. has_rank bits rank && not (has_rank (without_least count bits) rank))
    (least count (has_rank bits)) 9 rank
    (holds_below (least_test count) 512 bits
    (holds_below (λ count. all_below (least_test count) 512) 4 count all_least few) low) below

-- the five least ranks of a set as the code has them
abbrev five_by_bits : ℕ → Option (List ℕ)
five_by_bits bits =
    if eqb (without_least 4 bits) 0 then None
    else Some (rank_above 4 bits ∷ rank_above 3 bits ∷ rank_above 2 bits ∷ rank_above 1 bits ∷ rank_above 0 bits ∷ [])

-- whether two lows are the same
are_same : Option (List ℕ) → Option (List ℕ) → Bool
are_same None None = true
are_same (Some one) (Some other) = pointwise eqb one other
are_same None (Some other) = false
are_same (Some one) None = false

same-is : (one other : Option (List ℕ)) → are_same one other ≡ true → one ≡ other
unfolding are_same
same-is None None same = refl
same-is (Some one) (Some other) same = ap Some ((bytes_decides one other).0 same)
same-is None (Some other) same = absurd cc
same-is (Some one) None same = absurd cc

five_test : ℕ → Bool
five_test bits = are_same (five_by_bits bits) (five_least (has_rank bits))

all_fives : all_below five_test 512 ≡ true
unfolding all_below five_test are_same without_least five_least falling least count_below count_trailing_zeros
all_fives = refl

five-bits : (bits : ℕ) → bits < 512 → five_by_bits bits ≡ five_least (has_rank bits)
unfolding five_test
five-bits bits low = same-is _ _ (holds_below five_test 512 bits all_fives low)

pub five-none : (bits : ℕ) → bits < 512 → without_least 4 bits ≡ 0 → None ≡ five_least (has_rank bits)
five-none bits low none =
    let empty : eqb (without_least 4 bits) 0 ≡ true = eq-eqb (without_least 4 bits) 0 none in
    rw empty at (five-bits bits low)

pub five-some : (bits : ℕ) (ranks : List ℕ) → bits < 512 → without_least 4 bits ≢ 0
    → ranks ≡ rank_above 4 bits ∷ rank_above 3 bits ∷ rank_above 2 bits ∷ rank_above 1 bits ∷ rank_above 0 bits ∷ []
    → Some ranks ≡ five_least (has_rank bits)
five-some bits ranks low some is =
    let not_empty : eqb (without_least 4 bits) 0 ≡ false = grind (arith, nat_tests) in
    ap Some is ∙ (rw not_empty at (five-bits bits low))
