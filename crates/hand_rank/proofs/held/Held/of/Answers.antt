use Rattle.std.proofs.Common.{◌≡◌, ◌+◌, ◌∷◌, ◌++◌, ◌∙◌, [], List, length, get_or, eqb, cond, ap, subst, arith}
use Rattle.card_set.specs.declared.card.Card.{Card}
use Rattle.hand_rank.specs.Held.{count_of_some_suit, AreNear}
use Rattle.hand_rank.specs.Sets.{HasRanks, IsTallyOf}
use Rattle.hand_rank.specs.Held.{suit_of}
use Rattle.hand_rank.specs.Values.{count_of_rank}
use Rattle.hand_rank.proofs.CountLaws.{count_of_rank-cons}
use Rattle.hand_rank.proofs.HeldLaws.{one-count, suited-pair}
use Rattle.hand_rank.proofs.PartLaws.{count-joined, two-are}
use Rattle.hand_rank.proofs.held.Held.of.Goals as goal

pub returns : goal.returns
returns c cards board two five once =
    let one = get_or c.cards.result 0 c.index-cards-0.result in
    let other = get_or c.cards.result 1 c.index-cards-1.result in
    let long : length c.cards.result ≡ 2 = ap length c.cards.ensures ∙ two in
    let are : one ∷ other ∷ [] ≡ c.args.pair =
    two-are c.cards.result c.index-cards-0.result c.index-cards-1.result long ∙ c.cards.ensures in
    let tally = c.union-hole.result in
    let pair = subst (λ (hole : List Card). IsTallyOf tally.once.bits tally.twice.bits tally.thrice.bits tally.four.bits
    (count_of_rank hole)) are
    (c.union-hole.ensures (count_of_rank (one ∷ [])) (count_of_rank (other ∷ [])) (count_of_rank (one ∷ other ∷ []))
    (c.of.ensures (count_of_rank (one ∷ [])) (one-count one))
    (c.of-2.ensures (count_of_rank (other ∷ [])) (one-count other))
    (count-joined (one ∷ []) (other ∷ []))) in
    record {
      few = omega (arith, two);
      enough = omega (arith, two, five);
      once = once;
      of_hole = pair;
      all = c.union.ensures (count_of_rank c.args.pair) (count_of_rank cards) (count_of_rank (c.args.pair ++ cards))
          pair
          board.tally (count-joined c.args.pair cards);
      suited = suited-pair c.suited.result.bits c.args.pair cards (omega (arith, two))
          (subst (λ (hole : List Card). HasRanks c.suited.result.bits 1
          (count_of_some_suit (suit_of hole) (hole ++ cards))) are (c.suited.ensures cards board));
      near = subst (λ (hole : List Card). AreNear c.near_both.result.bits hole) are
          (c.near_both.ensures (one ∷ other ∷ []) (λ r. count_of_rank-cons one (other ∷ []) r
          ∙ ap (λ n. cond (eqb one.rank r) 1 0 + n) (one-count other r)));
    }
