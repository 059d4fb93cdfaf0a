use Rattle.std.proofs.Common.{◌≡◌, ◌-◌, ◌<◌, ◌∙◌, ◌++◌, ◌∷◌, [], List, length, take, ap, ap₂, refl, sym, subst, rules, arith}
use Rattle.std.specs.Prelude.{map}
use Rattle.std.specs.List.{flat_map}
use Rattle.card_set.specs.declared.card.Card.{Card}
use Rattle.card_choices.specs.Choices.{choices}
use Rattle.card_choices.proofs.ListOrder.{max_assoc, max_lower}
use Rattle.hand_rank.specs.BestHigh.{greater, best_high}
use Rattle.hand_rank.specs.Held.{IsHeld}
use Rattle.hand_rank.specs.Cards.{AreOnce}
use Rattle.hand_rank.proofs.BestLaws.{best_high-none, best_high-pair, best_high-all}
use Rattle.hand_rank.proofs.CardCounts.{distinct-once}
use Rattle.hand_rank.proofs.Chosen.{whole}
use Rattle.hand_rank.proofs.OmahaLaws.{choice-at, choice-joined, choice-once}
use Rattle.hand_rank.proofs.PartLaws.{best-above}
use Rattle.hand_rank.proofs.best.best_omaha.Goals as goal

pub loop-pair-init : goal.loop-pair-init
loop-pair-init c = c.least-best.ensures ∙ sym (ap (greater (0 ∷ [])) best_high-none ∙ max_lower (0 ∷ []) [] tt)

pub loop-pair-preserved : goal.loop-pair-preserved
loop-pair-preserved c =
    let pair = c.pair-item.result in
    let hole = c.args.hole in
    let board = c.args.board in
    let hands_of : List Card → List (List Card) = λ pair. map (λ three. pair ++ three) (choices 3 board) in
    let within : c.loop-pair.pair-index < length c.pairs-pairs.result =
    omega (arith, c.type_inv.pair-items, c.loop-pair-test.true) in
    let is = choice-at 2 hole c.pairs-pairs.result c.loop-pair.pair-index pair c.pairs-pairs.ensures within
    c.pair-item.is in
    let all_once = distinct-once (hole ++ board) c.requires.distinct in
    let once = choice-once (pair ++ board) (hole ++ board) (choice-joined pair hole board board is.0 (whole board))
    all_once in
    let board_once = choice-once board (hole ++ board) (choice-joined [] hole board board tt (whole board)) all_once in
    let five : length board ≡ 5 = search rules in
    let two = subst (λ (cards : List Card). length cards ≡ 2) c.pair-item.is is.1 in
    let apart = subst (λ (cards : List Card). AreOnce (cards ++ board)) c.pair-item.is once in
    let held = subst (λ cards. IsHeld c.of.result cards board) (sym c.pair-item.is)
    (c.of.ensures board (c.of-prepared.ensures board_once) two five apart) in
    let shown = c.best_hand.ensures pair board held
    ∙ ap (λ n. best_high (map (λ three. pair ++ three) (choices (5 - n) board))) is.1 in
    let before = best_high (flat_map hands_of (take c.loop-pair.pair-index c.pairs-pairs.result)) in
    c.max-best.ensures
    ∙ ap₂ greater c.loop-pair.invariant shown
    ∙ max_assoc (0 ∷ []) before (best_high (hands_of pair))
    ∙ ap (greater (0 ∷ []))
    (best_high-pair hands_of c.pairs-pairs.result c.loop-pair.pair-index pair before
    (best_high (hands_of pair)) within c.pair-item.is refl refl)

pub returns : goal.returns
returns c =
    let six : length c.pairs-pairs.result ≡ 6 = search rules in
    let hands : List Card → List (List Card) = λ pair. map (λ three. pair ++ three) (choices 3 c.args.board) in
    let four : length c.args.hole ≡ 4 = search rules in
    let five : length c.args.board ≡ 5 = search rules in
    let all = best_high-all (flat_map hands) c.pairs-pairs.result _ c.loop-pair.pair-index _
    (omega (arith, six, c.loop-pair-test.false)) c.pairs-pairs.ensures refl in
    record {
      best = c.loop-pair.invariant ∙ ap (greater (0 ∷ [])) all
          ∙ best-above c.args.hole c.args.board four five;
    }
