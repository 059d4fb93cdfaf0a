use Rattle.std.proofs.Common.{◌≡◌, ◌+◌, true, Some, take, refl, sym, ap, ◌∙◌, arith}
use Rattle.std.specs.Str.Parse.{digits_value}
use Rattle.std.proofs.lemmas.List.{take_all}
use Rattle.floor_text.specs.Numbers.{is_spelled}
use Rattle.floor_text.proofs.SpelledNumbers.{digits_from_spelled, decimal_of_spelled, digits_value_next, front_within, spelled_from_decimal, value_of_spelling}
use Rattle.floor_text.proofs.NumberLaws.{number_of-unspelled, number_of-great, number_of-spelled}
use Rattle.floor_text.proofs.number.read_number.Goals as goal

pub returns-then-not-is_spelled-clause-only : goal.returns-then-not-is_spelled-clause-only
returns-then-not-is_spelled-clause-only c =
    λ n small same. let spelled = spelled_from_decimal c.args.bytes.now n (omega arith) same in cc

pub returns-then-number-gt-GREATEST_NUMBER-clause-only : goal.returns-then-number-gt-GREATEST_NUMBER-clause-only
returns-then-number-gt-GREATEST_NUMBER-clause-only c =
    λ n small same.
    let spelled : is_spelled c.args.bytes.now ≡ true = sym c.is_spelled.ensures ∙ c.if-not-is_spelled.false in
    let next = digits_value_next c.args.bytes.now c.loop-digit.digit-index
    (digits_from_spelled c.args.bytes.now spelled) c.loop-digit-test.true in
    let front = front_within c.args.bytes.now (c.loop-digit.digit-index + 1) n (omega arith) same in
    absurd (omega arith)

pub loop-digit-preserved : goal.loop-digit-preserved
loop-digit-preserved c =
    let spelled : is_spelled c.args.bytes.now ≡ true = sym c.is_spelled.ensures ∙ c.if-not-is_spelled.false in
    let next = digits_value_next c.args.bytes.now c.loop-digit.digit-index
    (digits_from_spelled c.args.bytes.now spelled) c.loop-digit-test.true in
    (omega arith, omega arith)

pub returns-clause-found : goal.returns-clause-found
returns-clause-found c =
    let spelled : is_spelled c.args.bytes.now ≡ true = sym c.is_spelled.ensures ∙ c.if-not-is_spelled.false in
    let whole = take_all c.loop-digit.digit-index c.args.bytes.now c.loop-digit-test.false in
    let value : c.loop-digit.number ≡ digits_value 10 c.args.bytes.now = c.loop-digit.invariant.0
    ∙ ap (digits_value 10) whole in
    (omega arith, rw value (decimal_of_spelled c.args.bytes.now spelled (omega arith)))

pub returns-clause-only : goal.returns-clause-only
returns-clause-only c =
    λ n small same.
    let whole = take_all c.loop-digit.digit-index c.args.bytes.now c.loop-digit-test.false in
    let value : c.loop-digit.number ≡ digits_value 10 c.args.bytes.now = c.loop-digit.invariant.0
    ∙ ap (digits_value 10) whole in
    ap Some (value ∙ value_of_spelling c.args.bytes.now n (omega arith) same)

pub returns-then-not-is_spelled-clause-exact : goal.returns-then-not-is_spelled-clause-exact
returns-then-not-is_spelled-clause-exact c = sym (number_of-unspelled c.args.bytes.now cc)

pub returns-then-number-gt-GREATEST_NUMBER-clause-exact : goal.returns-then-number-gt-GREATEST_NUMBER-clause-exact
returns-then-number-gt-GREATEST_NUMBER-clause-exact c =
    let spelled : is_spelled c.args.bytes.now ≡ true = sym c.is_spelled.ensures ∙ c.if-not-is_spelled.false in
    let next = digits_value_next c.args.bytes.now c.loop-digit.digit-index
    (digits_from_spelled c.args.bytes.now spelled) c.loop-digit-test.true in
    sym (number_of-great c.args.bytes.now (c.loop-digit.digit-index + 1)
    (digits_value 10 (take (c.loop-digit.digit-index + 1) c.args.bytes.now)) refl (omega arith))

pub returns-clause-exact : goal.returns-clause-exact
returns-clause-exact c =
    let spelled : is_spelled c.args.bytes.now ≡ true = sym c.is_spelled.ensures ∙ c.if-not-is_spelled.false in
    let whole = take_all c.loop-digit.digit-index c.args.bytes.now c.loop-digit-test.false in
    sym (number_of-spelled c.args.bytes.now c.loop-digit.number spelled (c.loop-digit.invariant.0
    ∙ ap (digits_value 10) whole) (omega arith))
