use Rattle.std.proofs.Common.{◌<◌, ◌≤◌, length, arith}
use Rattle.std.proofs.lemmas.Bool.Decides.{nat_tests}
use Rattle.hand_rank.specs.Sets.{ranks_of}
use Rattle.hand_rank.specs.Values.{count_of_rank}
use Rattle.hand_rank.proofs.LeaderLaws.{lead-more, lead-once, lead-none, hole-fits}
use Rattle.hand_rank.proofs.held.Held.leading.Goals as goal

pub returns-then-not-is_empty : goal.returns-then-not-is_empty
returns-then-not-is_empty c hole board is =
    lead-more c.ranks-more_often.result.bits hole c.args.others.ranks c.args.others.each is.few c.requires.low
    (c.ranks-more_often.ensures (count_of_rank hole) is.of_hole) (c.is_empty.ensures.some c.if-not-is_empty.true)

pub returns-then-has_more : goal.returns-then-has_more
returns-then-has_more c hole board is =
    let counted = c.has_more.ensures in
    let true_is = c.if-has_more.true in
    let more : c.args.others.ranks < length (ranks_of c.args.self.hole.once.bits) =
    grind (arith, nat_tests, counted, true_is) in
    lead-once c.args.self.hole.once.bits hole c.args.others.ranks c.args.others.each is.few is.of_hole.of_once
    c.requires.some
    (λ r. hole-fits c.ranks-more_often.result.bits hole c.args.others.each
    (c.ranks-more_often.ensures (count_of_rank hole) is.of_hole) (c.is_empty.ensures.none c.if-not-is_empty.false) r)
    more

pub returns : goal.returns
returns c hole board is =
    let counted = c.has_more.ensures in
    let false_is = c.if-has_more.false in
    let few : length (ranks_of c.args.self.hole.once.bits) ≤ c.args.others.ranks =
    grind (arith, nat_tests, counted, false_is) in
    lead-none c.args.self.hole.once.bits c.empty.result.bits hole c.args.others.ranks c.args.others.each
    is.of_hole.of_once
    (λ r. hole-fits c.ranks-more_often.result.bits hole c.args.others.each
    (c.ranks-more_often.ensures (count_of_rank hole) is.of_hole) (c.is_empty.ensures.none c.if-not-is_empty.false) r)
    few c.empty.ensures
