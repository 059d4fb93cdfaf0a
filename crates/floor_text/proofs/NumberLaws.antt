-- What is read as a number is its one spelling, and the spelling of a number is read.
use Rattle.std.proofs.Common.{◌≡◌, ℕ, ◌<◌, ◌≤◌, Bool, true, false, cond, leb, ◌&&◌, List, take, Some, None, refl, sym, ap, ◌∙◌, arith}
use Rattle.std.specs.Fmt.{decimal}
use Rattle.std.specs.Str.Parse.{digits_value}
use Rattle.std.proofs.lemmas.Bool.{and_parts}
use Rattle.std.proofs.lemmas.Bool.Decides.{nat_tests}
use Rattle.std.proofs.lemmas.Option.{cond_some}
use Rattle.std.proofs.lemmas.Str.Parse.{digits_value-take-le}
use Rattle.floor_text.specs.Numbers.{IsLineNumber, is_spelled, number_of}
use Rattle.floor_text.proofs.SpelledNumbers.{decimal_of_spelled, spelled_from_decimal, value_of_spelling}

-- bytes that are read as a number are the decimal text of that number, which is small enough for a line
pub number_found : (bytes : List ℕ) (n : ℕ) → number_of bytes ≡ Some n → IsLineNumber n × (bytes ≡ decimal n)
unfolding number_of
number_found bytes n h =
    let value = digits_value 10 bytes in
    let found = cond_some (is_spelled bytes && leb value 9007199254740991) value n h in
    let both = and_parts (is_spelled bytes) (leb value 9007199254740991) found.0 in
    let small : IsLineNumber value = grind (arith, nat_tests) in
    let same : value ≡ n = found.1 in
    (omega arith, decimal_of_spelled bytes both.0 (omega arith) ∙ ap decimal same)

pub number_only : (bytes : List ℕ) (n : ℕ) → IsLineNumber n → bytes ≡ decimal n → number_of bytes ≡ Some n
unfolding number_of
number_only bytes n small same =
    let spelled = spelled_from_decimal bytes n (omega arith) same in
    let value = value_of_spelling bytes n (omega arith) same in
    let fits : leb n 9007199254740991 ≡ true = grind (arith, nat_tests) in
    rw (spelled, value, fits) refl

-- the decimal text of a number small enough for a line is read as that number
pub number_of-decimal : (n : ℕ) → IsLineNumber n → number_of (decimal n) ≡ Some n
number_of-decimal n small = number_only (decimal n) n small refl

-- bytes that are not spelled as a number are none
pub number_of-unspelled : (bytes : List ℕ) → is_spelled bytes ≡ false → number_of bytes ≡ None
unfolding number_of
number_of-unspelled bytes spelled = rw spelled refl

none_of_both : {A : Type 0} (a b : Bool) (x : A) → b ≡ false → cond (a && b) (Some x) None ≡ None
none_of_both true b x h = rw h refl
none_of_both false b x h = refl

-- digits of which a front is too great already are none
pub number_of-great : (bytes : List ℕ) (i n : ℕ) → n ≡ digits_value 10 (take i bytes) → 9007199254740991 < n
    → number_of bytes ≡ None
unfolding number_of
number_of-great bytes i n front great =
    let more = digits_value-take-le 10 bytes i (omega arith) in
    let over : leb (digits_value 10 bytes) 9007199254740991 ≡ false = grind (arith, nat_tests) in
    none_of_both (is_spelled bytes) (leb (digits_value 10 bytes) 9007199254740991) (digits_value 10 bytes) over

-- digits whose number is small enough are that number
pub number_of-spelled : (bytes : List ℕ) (n : ℕ) → is_spelled bytes ≡ true → n ≡ digits_value 10 bytes
    → n ≤ 9007199254740991 → number_of bytes ≡ Some n
number_of-spelled bytes n spelled value small =
    number_only bytes n small (decimal_of_spelled bytes spelled (omega arith) ∙ ap decimal (sym value))
