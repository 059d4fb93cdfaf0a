-- What lacks the byte between pieces is one piece, so what is joined of such pieces is cut into them again.
use Rattle.std.proofs.Common.{◌≡◌, ◌≢◌, ℕ, ◌-◌, ◌<◌, ◌^◌, length, Bool, true, false, not, All, List, [], ◌∷◌, IsTrue, refl, ap, ◌∙◌, arith}
use Rattle.std.specs.Char.{is_ascii_digit}
use Rattle.std.specs.Prelude.{zero, suc, nat_lt, slice_index, codes}
use Rattle.std.specs.Fmt.{decimal}
use Rattle.std.specs.List.{list_all, AllByRecursion, join_with_byte}
use Rattle.std.specs.Str.{all_ascii_digits}
use Rattle.std.proofs.lemmas.Bool.{and_parts, and_from}
use Rattle.std.proofs.lemmas.List.Folds.{list_all-append}
use Rattle.std.proofs.lemmas.Bool.Decides.{nat_tests}
use Rattle.std.proofs.lemmas.List.Elements.{All-from_recursion}
use Rattle.std.proofs.lemmas.List.Splits.{slice_split_none, slice_split_at}
use Rattle.std.proofs.lemmas.Fmt.{digits_decimal}
use Rattle.std.proofs.lemmas.Str.Parse.{IsNumeralModel, numerals_by_value, tells_all_ascii_digits}
use Rattle.std.specs.Str.Parse.{digits_value}
use Rattle.floor_text.specs.Lines.{HasNoFeed}
use Rattle.floor_text.proofs.CutLines.{HasNoFeed-append, HasNoFeed-cons}
use Rattle.floor_text.specs.Names.{is_name, is_name_byte}
use Rattle.floor_text.specs.Numbers.{IsLineNumber}
use Rattle.card_set.specs.declared.card.Card.{Card}
use Rattle.card_set.specs.Cards.{rank_letters, row_text}
use Rattle.line_words.specs.Words.{pieces_of}
use Rattle.line_words.proofs.WordSplits.{is_byte}

-- no byte is this one
abbrev pub lacks : ℕ → List ℕ → Bool
lacks between bytes = list_all (λ byte. not (is_byte between byte)) bytes

other_bytes : (between : ℕ) (bytes : List ℕ) → lacks between bytes ≡ true
    → AllByRecursion (λ byte. is_byte between byte ≡ false) bytes
other_bytes between [] h = tt
other_bytes between (byte ∷ bytes) h =
    (grind (arith, nat_tests), other_bytes between bytes (grind (arith, nat_tests)))

no_part : (between : ℕ) (bytes : List ℕ) → lacks between bytes ≡ true
    → All (λ byte. is_byte between byte ≡ false) bytes
no_part between bytes h =
    All-from_recursion (λ byte. is_byte between byte ≡ false) bytes (other_bytes between bytes h)

-- pieces that lack the byte between them are the pieces of what they are joined to
pub pieces_again : (between : ℕ) (piece : List ℕ) (pieces : List (List ℕ))
    → list_all (lacks between) (piece ∷ pieces) ≡ true
    → pieces_of between (join_with_byte between (piece ∷ pieces)) ≡ piece ∷ pieces
pieces_again between piece [] h =
    slice_split_none (is_byte between) piece (no_part between piece (and_parts (lacks between piece) true h).0)
pieces_again between piece (next ∷ pieces) h =
    let both = and_parts (lacks between piece) (list_all (lacks between) (next ∷ pieces)) h in
    let here : is_byte between between ≡ true = grind (arith, nat_tests) in
    slice_split_at (is_byte between) piece between (join_with_byte between (next ∷ pieces))
    (no_part between piece both.0) here
    ∙ ap (λ (ps : List (List ℕ)). piece ∷ ps) (pieces_again between next pieces both.1)

-- digits lack each byte below the digit 0, as a space, a comma and a point are
digits_lack : (between : ℕ) (digits : List ℕ) → between < 48 → all_ascii_digits digits ≡ true
    → lacks between digits ≡ true
digits_lack between [] low h = refl
digits_lack between (digit ∷ digits) low h =
    let others = digits_lack between digits low (and_parts (is_ascii_digit digit) (all_ascii_digits digits) h).1 in
    grind (arith, nat_tests)

own : IsNumeralModel (λ ds. all_ascii_digits ds ≡ true) (digits_value 10)
own = numerals_by_value (λ ds. all_ascii_digits ds ≡ true) tells_all_ascii_digits

-- the decimal text of a number of a line lacks each byte below the digit 0
pub decimal_lacks : (between : ℕ) → between < 48 → (n : ℕ) → IsLineNumber n → lacks between (decimal n) ≡ true
decimal_lacks between low n small = digits_lack between (decimal n) low (digits_decimal own n (omega arith))

-- whether all bytes are above the space, so that no space and no line feed is among them
abbrev pub is_word : List ℕ → Bool
is_word bytes = list_all (λ byte. nat_lt 32 byte) bytes

-- a word lacks each byte up to the space
pub word_lacks : (between : ℕ) (bytes : List ℕ) → between < 33 → is_word bytes ≡ true → lacks between bytes ≡ true
word_lacks between [] low h = refl
word_lacks between (byte ∷ bytes) low h =
    let others = word_lacks between bytes low (and_parts (nat_lt 32 byte) (is_word bytes) h).1 in
    grind (arith, nat_tests)

-- so do all of a list
pub words_lack : (between : ℕ) (words : List (List ℕ)) → between < 33 → list_all is_word words ≡ true
    → list_all (lacks between) words ≡ true
words_lack between [] low h = refl
words_lack between (word ∷ words) low h =
    let both = and_parts (is_word word) (list_all is_word words) h in
    rw (word_lacks between word low both.0) (words_lack between words low both.1)

-- digits are a word
digits_word : (digits : List ℕ) → all_ascii_digits digits ≡ true → is_word digits ≡ true
digits_word [] h = refl
digits_word (digit ∷ digits) h =
    let others = digits_word digits (and_parts (is_ascii_digit digit) (all_ascii_digits digits) h).1 in
    grind (arith, nat_tests)

-- the decimal text of a number is a word
pub decimal_word : (n : ℕ) → n < 2 ^ 64 → is_word (decimal n) ≡ true
decimal_word n small = digits_word (decimal n) (digits_decimal own n small)

-- so is that of a number of a line
pub number_word : (n : ℕ) → IsLineNumber n → is_word (decimal n) ≡ true
number_word n small = decimal_word n (omega (arith, small))

name_bytes_lack : (between : ℕ) (bytes : List ℕ) → between < 48 → list_all is_name_byte bytes ≡ true
    → lacks between bytes ≡ true
name_bytes_lack between [] low h = refl
name_bytes_lack between (byte ∷ bytes) low h =
    let others = name_bytes_lack between bytes low (and_parts (is_name_byte byte) (list_all is_name_byte bytes) h).1 in
    grind (arith, nat_tests)

-- a player's name lacks each byte below the digit 0
pub name_lacks : (between : ℕ) → between < 48 → (name : List ℕ) → IsTrue (is_name name) → lacks between name ≡ true
name_lacks between low name right = name_bytes_lack between name low (grind (arith, nat_tests))

name_bytes_word : (bytes : List ℕ) → list_all is_name_byte bytes ≡ true → is_word bytes ≡ true
name_bytes_word [] h = refl
name_bytes_word (byte ∷ bytes) h =
    let others = name_bytes_word bytes (and_parts (is_name_byte byte) (list_all is_name_byte bytes) h).1 in
    grind (arith, nat_tests)

-- a player's name is a word
pub name_word : (name : List ℕ) → IsTrue (is_name name) → is_word name ≡ true
name_word name right = name_bytes_word name (grind (arith, nat_tests))

letter_word : (letters : List ℕ) (place : ℕ) → is_word letters ≡ true → place < length letters
    → nat_lt 32 (slice_index letters place) ≡ true
letter_word [] place h within = absurd (omega (arith, within))
letter_word (letter ∷ letters) zero h within = (and_parts (nat_lt 32 letter) (is_word letters) h).0
letter_word (letter ∷ letters) (suc place) h within =
    letter_word letters place (and_parts (nat_lt 32 letter) (is_word letters) h).1 (omega (arith, within))

-- the text of a row of cards is a word
pub row_word : (cards : List Card) → is_word (row_text cards) ≡ true
row_word [] = refl
row_word (card ∷ cards) =
    let from = card.from_two in
    let up = card.up_to_ace in
    let suit = card.one_of_four in
    and_from _ _ (letter_word rank_letters (card.rank - 2) refl (omega (arith, from, up)))
    (and_from _ _ (letter_word (codes "cdhs") card.suit refl (omega (arith, suit))) (row_word cards))

-- what is joined of words by a byte above the space is a word
pub joined_word : (between : ℕ) → 32 < between → (words : List (List ℕ)) → list_all is_word words ≡ true
    → is_word (join_with_byte between words) ≡ true
joined_word between above [] h = refl
joined_word between above (word ∷ []) h = (and_parts (is_word word) true h).0
joined_word between above (word ∷ next ∷ words) h =
    let both = and_parts (is_word word) (list_all is_word (next ∷ words)) h in
    let here : nat_lt 32 between ≡ true = grind (arith, nat_tests, above) in
    list_all-append (λ byte. nat_lt 32 byte) word (between ∷ join_with_byte between (next ∷ words))
    ∙ and_from _ _ both.0 (and_from _ _ here (joined_word between above (next ∷ words) both.1))

word_no_feed : (word : List ℕ) → is_word word ≡ true → HasNoFeed word
word_no_feed [] h = refl
word_no_feed (byte ∷ bytes) h =
    let both = and_parts (nat_lt 32 byte) (is_word bytes) h in
    let other : byte ≢ 10 = grind (arith, nat_tests, both.0) in
    HasNoFeed-cons byte bytes other (word_no_feed bytes both.1)

-- a line of words has no line feed
pub line_no_feed : (words : List (List ℕ)) → list_all is_word words ≡ true → HasNoFeed (join_with_byte 32 words)
line_no_feed [] h = refl
line_no_feed (word ∷ []) h = word_no_feed word (and_parts (is_word word) true h).0
line_no_feed (word ∷ next ∷ words) h =
    let both = and_parts (is_word word) (list_all is_word (next ∷ words)) h in
    let other : 32 ≢ 10 = omega arith in
    HasNoFeed-append word (32 ∷ join_with_byte 32 (next ∷ words)) (word_no_feed word both.0)
    (HasNoFeed-cons 32 (join_with_byte 32 (next ∷ words)) other (line_no_feed (next ∷ words) both.1))
