-- What a table has for a letter is the rank or the suit that the letter spells. This project's own.
use Rattle.std.proofs.Common.{◌≡◌, ℕ, ◌<◌, None, Some, refl}
use Rattle.std.specs.Prelude.{◌==◌, cond, slice_index}
use Rattle.card_set.specs.declared.letters.TheConstants.{NONE, RANKS_BY_BYTE, SUITS_BY_BYTE}
use Rattle.card_set.specs.Cards.{rank_of, suit_of}
use Rattle.card_set.proofs.Computed.{all_below, are_same, holds_below, same-is}

-- the table of the ranks has the rank of each letter
pub rank_looked_up : (letter : ℕ) → letter < 256
    → cond (slice_index RANKS_BY_BYTE letter == NONE) None (Some (slice_index RANKS_BY_BYTE letter)) ≡ rank_of letter
unfolding all_below are_same
rank_looked_up letter byte = same-is _ _ (holds_below (λ n. are_same
    (cond (slice_index RANKS_BY_BYTE n == NONE) None (Some (slice_index RANKS_BY_BYTE n))) (rank_of n))
    256 letter refl byte)

-- the table of the suits has the suit of each letter
pub suit_looked_up : (letter : ℕ) → letter < 256
    → cond (slice_index SUITS_BY_BYTE letter == NONE) None (Some (slice_index SUITS_BY_BYTE letter)) ≡ suit_of letter
unfolding all_below are_same
suit_looked_up letter byte = same-is _ _ (holds_below (λ n. are_same
    (cond (slice_index SUITS_BY_BYTE n == NONE) None (Some (slice_index SUITS_BY_BYTE n))) (suit_of n))
    256 letter refl byte)
