use Rattle.std.proofs.Common.{◌∙◌, inr}
use Rattle.std.specs.Prelude.{vec_len}
use Rattle.session_desk.specs.Desks.{nothing}
use Rattle.session_desk.proofs.DeskMoves.{desk-kept}
use Rattle.session_desk.proofs.Working.{worked-on, worked-round}
use Rattle.session_desk.proofs.work.work_desk.Goals as goal

pub returns-then-failed-clause-worked : goal.returns-then-failed-clause-worked
returns-then-failed-clause-worked g c =
    worked-on g.D.Door.told g.D.L.Link.told g.D.L.Link.faults c.args.words.now (vec_len c.args.docks.now)
    c.args.door.now c.loop.door c.serve_next-served.new.door c.args.desk c.loop.desk c.serve_next-served.result.0
    c.loop.invariant.worked c.serve_next-served.ensures.worked

pub returns-then-stopped-clause-desk : goal.returns-then-stopped-clause-desk
returns-then-stopped-clause-desk g c =
    desk-kept c.args.book.now c.args.docks.now.items 0 (λ table. 0) nothing c.serve_next-served.result.0
    c.look_if_news-looked.result.0 c.look_if_news-looked.ensures.moved c.serve_next-served.ensures.desk

pub returns-then-stopped-clause-worked : goal.returns-then-stopped-clause-worked
returns-then-stopped-clause-worked g c =
    worked-round g.D.Door.told g.D.L.Link.told g.D.L.Link.faults c.args.words.now (vec_len c.args.docks.now) 0
    (λ table. 0) c.args.door.now c.loop.door c.serve_next-served.new.door c.args.desk c.loop.desk
    c.serve_next-served.result.0 c.look_if_news-looked.result.0 c.loop.invariant.worked
    c.serve_next-served.ensures.worked c.look_if_news-looked.ensures.moved

pub loop-preserved : goal.loop-preserved
loop-preserved g c = record {
  desk = desk-kept c.args.book.now c.args.docks.now.items 0 (λ table. 0) nothing c.serve_next-served.result.0
      c.look_if_news-looked.result.0 c.look_if_news-looked.ensures.moved c.serve_next-served.ensures.desk;
  worked = inr
      (worked-round g.D.Door.told g.D.L.Link.told g.D.L.Link.faults c.args.words.now (vec_len c.args.docks.now) 0
      (λ table. 0) c.args.door.now c.loop.door c.serve_next-served.new.door c.args.desk c.loop.desk
      c.serve_next-served.result.0 c.look_if_news-looked.result.0 c.loop.invariant.worked
      c.serve_next-served.ensures.worked c.look_if_news-looked.ensures.moved);
  faults = c.serve_next-served.ensures.steady c.if-failed.false ∙ c.loop.invariant.faults;
}
