-- What is spelled as a number of a line is what std writes of its value.
use Rattle.std.proofs.Common.{◌≡◌, ◌⊎◌, ℕ, zero, suc, ◌+◌, ◌-◌, ◌*◌, ◌^◌, ◌<◌, ◌≤◌, true, List, [], ◌∷◌, length, get_or, take, refl, sym, ap, ◌∙◌, inl, arith}
use Rattle.std.specs.Char.{is_ascii_digit, digit_value}
use Rattle.std.specs.Fmt.{decimal}
use Rattle.std.specs.Int.{IsInRange}
use Rattle.std.specs.List.{list_all}
use Rattle.std.specs.Str.Parse.{digits_value}
use Rattle.std.proofs.lemmas.Bool.Decides.{nat_tests}
use Rattle.std.proofs.lemmas.Int.Digits.{digits_value_more}
use Rattle.std.proofs.lemmas.Fmt.{decimal_digit, decimal_nonempty, first_decimal, digits_decimal, digits_value-decimal, decimal-digits_value}
use Rattle.std.proofs.lemmas.Str.Parse.{IsNumeralModel, IsDigitsTest, numerals_by_value, digits_value-take-le}
use Rattle.floor_text.specs.Numbers.{is_spelled}

tells_first : (c : ℕ) (cs : List ℕ) → list_all is_ascii_digit (c ∷ cs) ≡ true
    → IsInRange 48 57 c × (list_all is_ascii_digit cs ≡ true)
tells_first c cs h = grind (arith, nat_tests)

tells_more : (c : ℕ) (cs : List ℕ) → IsInRange 48 57 c → list_all is_ascii_digit cs ≡ true
    → list_all is_ascii_digit (c ∷ cs) ≡ true
tells_more c cs h t = grind (arith, nat_tests)

tells_digits : IsDigitsTest (λ ds. list_all is_ascii_digit ds ≡ true)
tells_digits = record { empty = refl; parts = tells_first; more = tells_more }

own : IsNumeralModel (λ ds. list_all is_ascii_digit ds ≡ true) (digits_value 10)
own = numerals_by_value (λ ds. list_all is_ascii_digit ds ≡ true) tells_digits

digit_at : (ds : List ℕ) (i : ℕ) → list_all is_ascii_digit ds ≡ true → i < length ds
    → (48 ≤ get_or ds i 0) × (get_or ds i 0 ≤ 57)
digit_at [] i all within = absurd (omega arith)
digit_at (d ∷ ds) zero all within = (tells_first d ds all).0
digit_at (d ∷ ds) (suc i) all within = digit_at ds i (tells_first d ds all).1 (omega arith)

-- bytes that are spelled as a number are all digits
pub digits_from_spelled : (ds : List ℕ) → is_spelled ds ≡ true → list_all is_ascii_digit ds ≡ true
digits_from_spelled [] h = refl
digits_from_spelled (only ∷ []) h = grind (arith, nat_tests)
digits_from_spelled (first ∷ second ∷ rest) h = grind (arith, nat_tests)

some_from_spelled : (ds : List ℕ) → is_spelled ds ≡ true → 0 < length ds
some_from_spelled [] h = cc
some_from_spelled (only ∷ ds) h = omega arith

lone_zero_from_spelled : (ds : List ℕ) → is_spelled ds ≡ true → get_or ds 0 0 ≡ 48 → length ds ≡ 1
lone_zero_from_spelled [] h leads = cc
lone_zero_from_spelled (only ∷ []) h leads = refl
lone_zero_from_spelled (first ∷ second ∷ rest) h leads = grind (arith, nat_tests)

spelled_from_digits : (ds : List ℕ) → list_all is_ascii_digit ds ≡ true → 0 < length ds
    → (48 < get_or ds 0 0) ⊎ (length ds ≡ 1) → is_spelled ds ≡ true
spelled_from_digits [] all some first = absurd (omega arith)
spelled_from_digits (only ∷ []) all some first = grind (arith, nat_tests)
spelled_from_digits (first ∷ second ∷ rest) all some leads = grind (arith, nat_tests)

spelled_decimal : (n : ℕ) → n < 2 ^ 64 → is_spelled (decimal n) ≡ true
spelled_decimal zero small = rw (decimal_digit 0 (omega arith)) refl
spelled_decimal (suc n) small =
    spelled_from_digits (decimal (suc n)) (digits_decimal own (suc n) small) (decimal_nonempty (suc n) small)
    (inl (first_decimal (suc n) (omega arith) small))

-- bytes that are spelled as a number below 2 ^ 64 are the decimal text of that number
pub decimal_of_spelled : (ds : List ℕ) → is_spelled ds ≡ true → digits_value 10 ds < 2 ^ 64
    → ds ≡ decimal (digits_value 10 ds)
decimal_of_spelled ds spelled small =
    sym (decimal-digits_value own ds (digits_from_spelled ds spelled) (some_from_spelled ds spelled)
    (lone_zero_from_spelled ds spelled) small)

value_of_decimal : (n : ℕ) → n < 2 ^ 64 → digits_value 10 (decimal n) ≡ n
value_of_decimal n small = digits_value-decimal own n small

-- the digits of the decimal text of a number below 2 ^ 64 have that number as their value
pub value_of_spelling : (ds : List ℕ) (n : ℕ) → n < 2 ^ 64 → ds ≡ decimal n → digits_value 10 ds ≡ n
value_of_spelling ds n small same = ap (digits_value 10) same ∙ value_of_decimal n small

digit_value_is : (c : ℕ) → 48 ≤ c → c ≤ 57 → digit_value c ≡ c - 48
digit_value_is c low high = grind (arith, nat_tests)

-- one digit more
pub digits_value_next : (ds : List ℕ) (i : ℕ) → list_all is_ascii_digit ds ≡ true → i < length ds
    → digits_value 10 (take (i + 1) ds) ≡ 10 * digits_value 10 (take i ds) + (get_or ds i 0 - 48)
digits_value_next ds i all within =
    let digit = digit_at ds i all within in
    let value = digit_value_is (get_or ds i 0) digit.0 digit.1 in
    omega (arith, digits_value_more 10 ds i within, value)

-- a front of digits is no greater than all of them
pub front_within : (ds : List ℕ) (i n : ℕ) → n < 2 ^ 64 → ds ≡ decimal n → digits_value 10 (take i ds) ≤ n
front_within ds i n small same =
    omega (arith, digits_value-take-le 10 ds i (omega arith), value_of_spelling ds n small same)

-- the decimal text of a number below 2 ^ 64 is spelled as a number
pub spelled_from_decimal : (ds : List ℕ) (n : ℕ) → n < 2 ^ 64 → ds ≡ decimal n → is_spelled ds ≡ true
spelled_from_decimal ds n small same = ap is_spelled same ∙ spelled_decimal n small
