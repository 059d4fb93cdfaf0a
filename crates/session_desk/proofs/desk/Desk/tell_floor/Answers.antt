use Rattle.std.proofs.Common.{◌∙◌, refl, true, arith}
use Rattle.std.proofs.lemmas.Grind.{common_steps}
use Rattle.history_lock.specs.Passes.{seen}
use Rattle.session_desk.specs.Desks.{nothing}
use Rattle.session_desk.specs.Telling.{reach_of}
use Rattle.session_desk.proofs.DeskMoves.{both-moved, moved-still, same-desk}
use Rattle.session_desk.proofs.Pieces.{floor-both, floor-none}
use Rattle.session_desk.proofs.Working.{moved-least}
use Rattle.session_desk.proofs.desk.Desk.tell_floor.Goals as goal

pub loop-init : goal.loop-init
loop-init g c = record {
  moved = moved-still (λ table. 0) c.args.self c.args.self (λ table. refl) (same-desk c.args.self);
  told = floor-none (seen c.args.self.book) (reach_of c.args.told.now) c.args.out.now.items c.requires.within;
}

pub tell_floor_piece-next-requires-clause-lock : goal.tell_floor_piece-next-requires-clause-lock
tell_floor_piece-next-requires-clause-lock g c = c.loop.invariant.moved.book.lock ∙ c.requires.lock

pub tell_floor_piece-next-requires-clause-within : goal.tell_floor_piece-next-requires-clause-within
tell_floor_piece-next-requires-clause-within g c = c.loop.invariant.told.within

pub loop-preserved : goal.loop-preserved
loop-preserved g c =
    let next = c.tell_floor_piece-next in
    record {
      moved = moved-least 1 (λ table. 0) nothing c.args.self next.result.0
          (both-moved 0 1 (λ table. 0) (λ table. 0) nothing nothing c.args.self c.loop.desk next.result.0
          c.loop.invariant.moved next.ensures.moved);
      told = floor-both (seen c.loop.desk.book) (seen next.result.0.book) (reach_of c.args.told.now)
          (reach_of c.loop.told) (reach_of next.new.told) true next.result.2 true c.args.out.now.items
          c.loop.out.items next.new.out.items next.ensures.moved.book.longer (λ none. absurd (cc none))
          c.loop.invariant.told next.ensures.told;
    }

pub returns-then-found-clause-moved : goal.returns-then-found-clause-moved
returns-then-found-clause-moved g c =
    both-moved 0 1 (λ table. 0) (λ table. 0) nothing nothing c.args.self c.loop.desk
    c.tell_floor_piece-next.result.0 c.loop.invariant.moved c.tell_floor_piece-next.ensures.moved

pub returns-then-found-clause-told : goal.returns-then-found-clause-told
returns-then-found-clause-told g c =
    let next = c.tell_floor_piece-next in
    floor-both (seen c.loop.desk.book) (seen next.result.0.book) (reach_of c.args.told.now)
    (reach_of c.loop.told) (reach_of next.new.told) true next.result.2 next.result.1.behind c.args.out.now.items
    c.loop.out.items next.new.out.items next.ensures.moved.book.longer (λ none. grind (arith, common_steps))
    c.loop.invariant.told next.ensures.told
