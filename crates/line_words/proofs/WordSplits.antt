-- The words of a line, or the pieces of a word, taken off one after another.
use Rattle.std.proofs.Common.{◌≡◌, ℕ, suc, ◌+◌, ◌-◌, ◌<◌, ◌≤◌, Bool, true, false, cond, not, eqb, ltb, List, [], ◌∷◌, length, take, drop, Option, Some, None, Bor, refl, sym, arith}
use Rattle.std.specs.List.{onto_first, position, position_or_len}
use Rattle.std.proofs.lemmas.Bool.{ltb-true, ltb-false}
use Rattle.std.proofs.lemmas.List.{length-drop, take_all}
use Rattle.std.proofs.lemmas.List.Splits.{slice_split_first}
use Rattle.std.proofs.lemmas.Option.{cond_some}
use Rattle.std.specs.Option.{is_some, option_copied}
use Rattle.line_words.specs.Words.{pieces_of, pieces_of_rest, no_word}

-- a byte is the one between two pieces
abbrev pub is_byte : ℕ → ℕ → Bool
is_byte between byte = eqb byte between

rest_of : (bytes : List ℕ) (k : ℕ) → take (length bytes - k) (drop k bytes) ≡ drop k bytes
rest_of bytes k = take_all (length bytes - k) (drop k bytes) (omega (arith, length-drop k bytes))

-- bytes with one between are a piece and the pieces behind it
pub first_word : (between : ℕ) (bytes : List ℕ) (k : ℕ) → Some k ≡ position (is_byte between) bytes
    → pieces_of between bytes ≡ take k bytes
    ∷ pieces_of between (take (length bytes - (k + 1)) (drop (k + 1) bytes))
first_word between bytes k found =
    let place = position_or_len (is_byte between) bytes in
    let at = cond_some (ltb place (length bytes)) place k (sym found) in
    let within : place < length bytes = ltb-true place (length bytes) at.0 in
    let parts = slice_split_first (is_byte between) bytes 0 within in
    let here : pieces_of between bytes ≡ take k bytes
    ∷ pieces_of between (drop (k + 1) bytes) = rw (← at.1) parts in
    rw (rest_of bytes (k + 1)) here

later : (b : Bool) (between byte : ℕ) (bytes : List ℕ) → (length bytes ≤ position_or_len (is_byte between) bytes
    → pieces_of between bytes ≡ bytes ∷ [])
    → suc (length bytes) ≤ cond (not b) (1 + position_or_len (is_byte between) bytes) 0
    → cond b ([] ∷ pieces_of between bytes) (onto_first byte (pieces_of between bytes)) ≡ (byte ∷ bytes) ∷ []
later true between byte bytes others far = absurd (omega arith)
later false between byte bytes others far = rw (others (omega arith)) refl

no_byte : (between : ℕ) (bytes : List ℕ) → length bytes ≤ position_or_len (is_byte between) bytes
    → pieces_of between bytes ≡ bytes ∷ []
no_byte between [] far = refl
no_byte between (byte ∷ bytes) far = later (is_byte between byte) between byte bytes (no_byte between bytes) far

none_at : (b : Bool) (n : ℕ) → cond b (Some n) None ≡ None → b ≡ false
none_at true n h = absurd cc
none_at false n h = refl

-- bytes with none between are one piece
pub last_word : (between : ℕ) (bytes : List ℕ) → None ≡ position (is_byte between) bytes → pieces_of between bytes
    ≡ bytes ∷ []
last_word between bytes none =
    let place = position_or_len (is_byte between) bytes in
    no_byte between bytes (ltb-false place (length bytes) (none_at (ltb place (length bytes)) place (sym none)))

first_is_some : (byte : ℕ) (words : List (List ℕ)) → no_word (onto_first byte words) ≡ false
first_is_some byte [] = refl
first_is_some byte (word ∷ words) = refl

split_is_some : (b : Bool) (byte : ℕ) (words : List (List ℕ)) → no_word (cond b ([] ∷ words) (onto_first byte words))
    ≡ false
split_is_some true byte words = refl
split_is_some false byte words = first_is_some byte words

-- what is left is at least one piece
pub some_word : (between : ℕ) (bytes : List ℕ) → no_word (pieces_of between bytes) ≡ false
some_word between [] = refl
some_word between (byte ∷ bytes) = split_is_some (is_byte between byte) byte (pieces_of between bytes)

-- no piece is left just where nothing is
pub done_is : (between : ℕ) (rest : Option (Bor (List ℕ))) (done : Bool) → is_some rest ≡ not done → done
    ≡ no_word (pieces_of_rest between (option_copied rest))
done_is between None true h = refl
done_is between None false h = absurd cc
done_is between (Some rest) true h = absurd cc
done_is between (Some rest) false h = sym (some_word between rest.now)
