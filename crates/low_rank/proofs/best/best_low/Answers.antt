use Rattle.std.proofs.Common.{◌∙◌, ◌&&◌, ◌||◌, not, ap₂, sym}
use Rattle.low_rank.specs.LowRanks.{has_rank, has_low, alone, shown}
use Rattle.low_rank.proofs.CountLaws.{five_least-same, least-same}
use Rattle.low_rank.proofs.ShownLaws.{best-shown}
use Rattle.low_rank.proofs.best.best_low.Goals as goal

pub returns : goal.returns
unfolding shown
returns c =
    let hole = has_low c.args.hole in
    let board = has_low c.args.board in
    record {
      best = c.five_least.ensures
          ∙ five_least-same (has_rank c.union.result.bits) (shown hole board) (λ rank below.
          c.union.ensures rank
          ∙ ap₂ (λ either both. either || both)
          (c.union-of_either.ensures rank
          ∙ ap₂ (λ one other. one || other)
          (c.least-of_hole.ensures rank below
          ∙ least-same 2 (has_rank c.minus.result.bits) (alone hole board) 9 (λ rank low.
          c.minus.ensures rank low
          ∙ ap₂ (λ one other. one && not other) (c.of-hole.ensures rank low) (c.of-board.ensures rank low)) rank below)
          (c.least-of_board.ensures rank below
          ∙ least-same 3 (has_rank c.minus-2.result.bits) (alone board hole) 9 (λ rank low.
          c.minus-2.ensures rank low
          ∙ ap₂ (λ one other. one && not other) (c.of-board.ensures rank low) (c.of-hole.ensures rank low)) rank below))
          (c.meet.ensures rank
          ∙ ap₂ (λ one other. one && other) (c.of-hole.ensures rank below) (c.of-board.ensures rank below)))
          ∙ sym (best-shown c.args.hole c.args.board);
    }
