use Rattle.std.proofs.Common.{◌++◌, ◌∙◌, [], ap, sym, subst}
use Rattle.card_choices.specs.Choices.{choices}
use Rattle.hand_rank.specs.BestHigh.{best_high}
use Rattle.hand_rank.specs.Cards.{AreOnce}
use Rattle.hand_rank.proofs.BestLaws.{map-itself}
use Rattle.hand_rank.proofs.CardCounts.{distinct-once}
use Rattle.hand_rank.proofs.best.best_holdem.Goals as goal

pub returns : goal.returns
returns c =
    let once = distinct-once (c.args.hole ++ c.args.board) c.requires.distinct in
    let held = c.none.ensures (subst (λ all. AreOnce all) (sym c.together.ensures) once) in
    record {
      best = c.best_hand.ensures [] c.together.result held
          ∙ ap best_high (map-itself (choices 5 c.together.result))
          ∙ ap (λ cards. best_high (choices 5 cards)) c.together.ensures;
    }
