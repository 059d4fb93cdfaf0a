use Rattle.std.proofs.Common.{◌≡◌, ◌≤◌, ◌∙◌, ℕ, false, ltb, ap, length, sym, arith}
use Rattle.std.proofs.lemmas.Bool.Decides.{nat_tests}
use Rattle.hand_rank.proofs.KindLaws.{four_of_a_kind, three_of_a_kind, full_house, two_pair, one_pair, all_distinct}
use Rattle.hand_rank.proofs.five_cards.five_card_value.Goals as goal

one_alone : (n : ℕ) → 1 ≤ n → ltb 1 n ≡ false → n ≡ 1
one_alone n some few = grind (arith, nat_tests)

pub of-requires : goal.of-requires
of-requires c =
    let made = four_of_a_kind c.told-cards c.of-kinds.ensures
    (c.is_empty.ensures.some c.if-not-is_empty.true) in
    record { most = made.most; few = made.few }

pub returns-then-not-is_empty : goal.returns-then-not-is_empty
returns-then-not-is_empty c =
    c.of.ensures
    ∙ (four_of_a_kind c.told-cards c.of-kinds.ensures
    (c.is_empty.ensures.some c.if-not-is_empty.true)).value

pub of-requires-then-is_empty : goal.of-requires-then-is_empty
of-requires-then-is_empty c =
    let made = three_of_a_kind c.told-cards c.of-kinds.ensures
    (c.is_empty-2.ensures.some c.if-not-is_empty-2.true)
    (ap length (c.is_empty-then-not-is_empty-2.ensures.none c.if-is_empty.true)) in
    record { most = made.most; few = made.few }

pub returns-then-is_empty : goal.returns-then-is_empty
returns-then-is_empty c =
    c.of-then-is_empty.ensures
    ∙ (three_of_a_kind c.told-cards c.of-kinds.ensures
    (c.is_empty-2.ensures.some c.if-not-is_empty-2.true)
    (ap length (c.is_empty-then-not-is_empty-2.ensures.none c.if-is_empty.true))).value

pub of-requires-then-not-is_empty-2 : goal.of-requires-then-not-is_empty-2
of-requires-then-not-is_empty-2 c =
    let made = full_house c.told-cards c.of-kinds.ensures
    (c.is_empty-2.ensures.some c.if-not-is_empty-2.true)
    (c.is_empty-then-not-is_empty-2.ensures.some c.if-is_empty.false) in
    record { most = made.most; few = made.few }

pub returns-then-not-is_empty-2 : goal.returns-then-not-is_empty-2
returns-then-not-is_empty-2 c =
    c.of-then-not-is_empty-2.ensures
    ∙ (full_house c.told-cards c.of-kinds.ensures
    (c.is_empty-2.ensures.some c.if-not-is_empty-2.true)
    (c.is_empty-then-not-is_empty-2.ensures.some c.if-is_empty.false)).value

pub of-requires-then-has_more : goal.of-requires-then-has_more
of-requires-then-has_more c =
    let made = two_pair c.told-cards c.of-kinds.ensures
    (grind (arith, nat_tests, c.has_more.ensures, c.if-has_more.true)) in
    record { most = made.most; few = made.few }

pub returns-then-has_more : goal.returns-then-has_more
returns-then-has_more c =
    c.of-then-has_more.ensures
    ∙ (two_pair c.told-cards c.of-kinds.ensures
    (grind (arith, nat_tests, c.has_more.ensures, c.if-has_more.true))).value

pub of-requires-then-not-is_empty-3 : goal.of-requires-then-not-is_empty-3
of-requires-then-not-is_empty-3 c =
    let made = one_pair c.told-cards c.of-kinds.ensures
    (ap length (c.is_empty-2.ensures.none c.if-not-is_empty-2.false))
    (one_alone _ (c.is_empty-3.ensures.some c.if-not-is_empty-3.true)
    (sym c.has_more.ensures ∙ c.if-has_more.false)) in
    record { most = made.most; few = made.few }

pub returns-then-not-is_empty-3 : goal.returns-then-not-is_empty-3
returns-then-not-is_empty-3 c =
    c.of-then-not-is_empty-3.ensures
    ∙ (one_pair c.told-cards c.of-kinds.ensures
    (ap length (c.is_empty-2.ensures.none c.if-not-is_empty-2.false))
    (one_alone _ (c.is_empty-3.ensures.some c.if-not-is_empty-3.true)
    (sym c.has_more.ensures ∙ c.if-has_more.false))).value

pub value_of_distinct-requires : goal.value_of_distinct-requires
value_of_distinct-requires c =
    (all_distinct c.told-cards c.of-kinds.ensures
    (ap length (c.is_empty.ensures.none c.if-not-is_empty.false))
    (ap length (c.is_empty-2.ensures.none c.if-not-is_empty-2.false))
    (ap length (c.is_empty-3.ensures.none c.if-not-is_empty-3.false))).few

pub returns : goal.returns
returns c =
    c.value_of_distinct.ensures
    ∙ (all_distinct c.told-cards c.of-kinds.ensures
    (ap length (c.is_empty.ensures.none c.if-not-is_empty.false))
    (ap length (c.is_empty-2.ensures.none c.if-not-is_empty-2.false))
    (ap length (c.is_empty-3.ensures.none c.if-not-is_empty-3.false))).value
