use Rattle.hand_rank.proofs.HandLaws.{none-beyond, none-more, best-first, some-hand}
use Rattle.hand_rank.proofs.held.Held.best_hand.Goals as goal

pub returns-in-Some : goal.returns-in-Some
returns-in-Some c hole board is =
    best-first 8 c.straight_flush.result c.in-Some.value hole board (none-beyond hole board)
    (c.straight_flush.ensures hole board is) c.in-Some.is

pub returns-in-Some-four_of_a_kind : goal.returns-in-Some-four_of_a_kind
returns-in-Some-four_of_a_kind c hole board is =
    let no_8 = none-more 8 c.straight_flush.result hole board (none-beyond hole board)
    (c.straight_flush.ensures hole board is) c.in_default.is in
    best-first 7 c.four_of_a_kind.result c.in-Some-four_of_a_kind.value hole board no_8
    (c.four_of_a_kind.ensures hole board is) c.in-Some-four_of_a_kind.is

pub returns-in-Some-full_house : goal.returns-in-Some-full_house
returns-in-Some-full_house c hole board is =
    let no_8 = none-more 8 c.straight_flush.result hole board (none-beyond hole board)
    (c.straight_flush.ensures hole board is) c.in_default.is in
    let no_7 = none-more 7 c.four_of_a_kind.result hole board no_8
    (c.four_of_a_kind.ensures hole board is) c.in_default-four_of_a_kind.is in
    best-first 6 c.full_house.result c.in-Some-full_house.value hole board no_7
    (c.full_house.ensures hole board is) c.in-Some-full_house.is

pub returns-in-Some-flush : goal.returns-in-Some-flush
returns-in-Some-flush c hole board is =
    let no_8 = none-more 8 c.straight_flush.result hole board (none-beyond hole board)
    (c.straight_flush.ensures hole board is) c.in_default.is in
    let no_7 = none-more 7 c.four_of_a_kind.result hole board no_8
    (c.four_of_a_kind.ensures hole board is) c.in_default-four_of_a_kind.is in
    let no_6 = none-more 6 c.full_house.result hole board no_7
    (c.full_house.ensures hole board is) c.in_default-full_house.is in
    best-first 5 c.flush.result c.in-Some-flush.value hole board no_6
    (c.flush.ensures hole board is) c.in-Some-flush.is

pub returns-in-Some-straight : goal.returns-in-Some-straight
returns-in-Some-straight c hole board is =
    let no_8 = none-more 8 c.straight_flush.result hole board (none-beyond hole board)
    (c.straight_flush.ensures hole board is) c.in_default.is in
    let no_7 = none-more 7 c.four_of_a_kind.result hole board no_8
    (c.four_of_a_kind.ensures hole board is) c.in_default-four_of_a_kind.is in
    let no_6 = none-more 6 c.full_house.result hole board no_7
    (c.full_house.ensures hole board is) c.in_default-full_house.is in
    let no_5 = none-more 5 c.flush.result hole board no_6
    (c.flush.ensures hole board is) c.in_default-flush.is in
    best-first 4 c.straight.result c.in-Some-straight.value hole board no_5
    (c.straight.ensures hole board is) c.in-Some-straight.is

pub returns-in-Some-three_of_a_kind : goal.returns-in-Some-three_of_a_kind
returns-in-Some-three_of_a_kind c hole board is =
    let no_8 = none-more 8 c.straight_flush.result hole board (none-beyond hole board)
    (c.straight_flush.ensures hole board is) c.in_default.is in
    let no_7 = none-more 7 c.four_of_a_kind.result hole board no_8
    (c.four_of_a_kind.ensures hole board is) c.in_default-four_of_a_kind.is in
    let no_6 = none-more 6 c.full_house.result hole board no_7
    (c.full_house.ensures hole board is) c.in_default-full_house.is in
    let no_5 = none-more 5 c.flush.result hole board no_6
    (c.flush.ensures hole board is) c.in_default-flush.is in
    let no_4 = none-more 4 c.straight.result hole board no_5
    (c.straight.ensures hole board is) c.in_default-straight.is in
    best-first 3 c.three_of_a_kind.result c.in-Some-three_of_a_kind.value hole board no_4
    (c.three_of_a_kind.ensures hole board is) c.in-Some-three_of_a_kind.is

pub returns-in-Some-two_pair : goal.returns-in-Some-two_pair
returns-in-Some-two_pair c hole board is =
    let no_8 = none-more 8 c.straight_flush.result hole board (none-beyond hole board)
    (c.straight_flush.ensures hole board is) c.in_default.is in
    let no_7 = none-more 7 c.four_of_a_kind.result hole board no_8
    (c.four_of_a_kind.ensures hole board is) c.in_default-four_of_a_kind.is in
    let no_6 = none-more 6 c.full_house.result hole board no_7
    (c.full_house.ensures hole board is) c.in_default-full_house.is in
    let no_5 = none-more 5 c.flush.result hole board no_6
    (c.flush.ensures hole board is) c.in_default-flush.is in
    let no_4 = none-more 4 c.straight.result hole board no_5
    (c.straight.ensures hole board is) c.in_default-straight.is in
    let no_3 = none-more 3 c.three_of_a_kind.result hole board no_4
    (c.three_of_a_kind.ensures hole board is) c.in_default-three_of_a_kind.is in
    best-first 2 c.two_pair.result c.in-Some-two_pair.value hole board no_3
    (c.two_pair.ensures hole board is) c.in-Some-two_pair.is

pub returns-in-Some-one_pair : goal.returns-in-Some-one_pair
returns-in-Some-one_pair c hole board is =
    let no_8 = none-more 8 c.straight_flush.result hole board (none-beyond hole board)
    (c.straight_flush.ensures hole board is) c.in_default.is in
    let no_7 = none-more 7 c.four_of_a_kind.result hole board no_8
    (c.four_of_a_kind.ensures hole board is) c.in_default-four_of_a_kind.is in
    let no_6 = none-more 6 c.full_house.result hole board no_7
    (c.full_house.ensures hole board is) c.in_default-full_house.is in
    let no_5 = none-more 5 c.flush.result hole board no_6
    (c.flush.ensures hole board is) c.in_default-flush.is in
    let no_4 = none-more 4 c.straight.result hole board no_5
    (c.straight.ensures hole board is) c.in_default-straight.is in
    let no_3 = none-more 3 c.three_of_a_kind.result hole board no_4
    (c.three_of_a_kind.ensures hole board is) c.in_default-three_of_a_kind.is in
    let no_2 = none-more 2 c.two_pair.result hole board no_3
    (c.two_pair.ensures hole board is) c.in_default-two_pair.is in
    best-first 1 c.one_pair.result c.in-Some-one_pair.value hole board no_2
    (c.one_pair.ensures hole board is) c.in-Some-one_pair.is

pub returns-in-Some-high_card : goal.returns-in-Some-high_card
returns-in-Some-high_card c hole board is =
    let no_8 = none-more 8 c.straight_flush.result hole board (none-beyond hole board)
    (c.straight_flush.ensures hole board is) c.in_default.is in
    let no_7 = none-more 7 c.four_of_a_kind.result hole board no_8
    (c.four_of_a_kind.ensures hole board is) c.in_default-four_of_a_kind.is in
    let no_6 = none-more 6 c.full_house.result hole board no_7
    (c.full_house.ensures hole board is) c.in_default-full_house.is in
    let no_5 = none-more 5 c.flush.result hole board no_6
    (c.flush.ensures hole board is) c.in_default-flush.is in
    let no_4 = none-more 4 c.straight.result hole board no_5
    (c.straight.ensures hole board is) c.in_default-straight.is in
    let no_3 = none-more 3 c.three_of_a_kind.result hole board no_4
    (c.three_of_a_kind.ensures hole board is) c.in_default-three_of_a_kind.is in
    let no_2 = none-more 2 c.two_pair.result hole board no_3
    (c.two_pair.ensures hole board is) c.in_default-two_pair.is in
    let no_1 = none-more 1 c.one_pair.result hole board no_2
    (c.one_pair.ensures hole board is) c.in_default-one_pair.is in
    best-first 0 c.high_card.result c.in-Some-high_card.value hole board no_1
    (c.high_card.ensures hole board is) c.in-Some-high_card.is

pub returns-in-None : goal.returns-in-None
returns-in-None c hole board is =
    let no_8 = none-more 8 c.straight_flush.result hole board (none-beyond hole board)
    (c.straight_flush.ensures hole board is) c.in_default.is in
    let no_7 = none-more 7 c.four_of_a_kind.result hole board no_8
    (c.four_of_a_kind.ensures hole board is) c.in_default-four_of_a_kind.is in
    let no_6 = none-more 6 c.full_house.result hole board no_7
    (c.full_house.ensures hole board is) c.in_default-full_house.is in
    let no_5 = none-more 5 c.flush.result hole board no_6
    (c.flush.ensures hole board is) c.in_default-flush.is in
    let no_4 = none-more 4 c.straight.result hole board no_5
    (c.straight.ensures hole board is) c.in_default-straight.is in
    let no_3 = none-more 3 c.three_of_a_kind.result hole board no_4
    (c.three_of_a_kind.ensures hole board is) c.in_default-three_of_a_kind.is in
    let no_2 = none-more 2 c.two_pair.result hole board no_3
    (c.two_pair.ensures hole board is) c.in_default-two_pair.is in
    let no_1 = none-more 1 c.one_pair.result hole board no_2
    (c.one_pair.ensures hole board is) c.in_default-one_pair.is in
    let no_0 = none-more 0 c.high_card.result hole board no_1
    (c.high_card.ensures hole board is) c.in-None.is in
    absurd (some-hand hole board is.few is.enough no_0)
