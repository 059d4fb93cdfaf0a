use Rattle.std.proofs.Common.{◌≡◌, ◌∙◌, sym, subst, length, vec_len, arith}
use Rattle.session_desk.specs.declared.desk.Desk.{Desk}
use Rattle.session_desk.specs.declared.session.Session.{Session}
use Rattle.session_desk.specs.Talks.{IsServed}
use Rattle.session_desk.proofs.Over.{served}
use Rattle.session_desk.proofs.UnderWay.{begins, goes-on}
use Rattle.session_desk.proofs.sessions.run_session.Goals as goal

pub loop-init : goal.loop-init
loop-init g c = record {
  desk = c.requires.desk;
  later = omega arith;
  way =
      begins g.L.Link.told c.args.words.now (vec_len c.args.docks.now) (vec_len c.args.session.desk.tables)
      c.args.link.now c.args.session c.requires.told c.requires.inbox.0 c.requires.inbox.1;
}

pub returns-in-Some-end_of-clause-served : goal.returns-in-Some-end_of-clause-served
returns-in-Some-end_of-clause-served g c =
    let next : Session = c.turn-next.result.0 in
    let counted : vec_len c.args.docks.now ≡ length next.told.watches.items =
    omega (
      arith,
      next.count,
      c.turn-next.ensures.desk.count,
      c.args.docks.now.ok.0,
      next.desk.tables.ok.0,
      next.told.watches.ok.0,
    ) in
    subst (λ (desk : Desk). IsServed g.L.Link.told g.L.Link.faults c.args.words.now (vec_len c.args.docks.now)
    c.in-Some-end_of.end c.args.link.now c.turn-next.new.link c.args.session.desk desk) (sym c.parts.ensures)
    (served g.L.Link.told g.L.Link.faults c.args.words.now (vec_len c.args.docks.now) c.args.link.now c.loop.link
    c.turn-next.new.link c.args.session.desk c.loop.session next c.turn-next.result.1 c.in-Some-end_of.end
    c.loop.invariant.way c.turn-next.ensures.turn counted (sym c.end_of.ensures ∙ c.in-Some-end_of.is)
    c.loop.invariant.later c.turn-next.ensures.cause)

pub loop-preserved : goal.loop-preserved
loop-preserved g c =
    let next : Session = c.turn-next.result.0 in
    let counted : vec_len c.args.docks.now ≡ length next.told.watches.items =
    omega (
      arith,
      next.count,
      c.turn-next.ensures.desk.count,
      c.args.docks.now.ok.0,
      next.desk.tables.ok.0,
      next.told.watches.ok.0,
    ) in
    record {
      desk = c.turn-next.ensures.desk;
      later = omega (arith, c.loop.invariant.later, c.turn-next.ensures.later);
      way =
          goes-on g.L.Link.told c.args.words.now (vec_len c.args.docks.now) c.args.link.now c.loop.link
          c.turn-next.new.link c.args.session.desk c.loop.session next c.turn-next.result.1 c.loop.invariant.way
          c.turn-next.ensures.turn counted (sym c.end_of.ensures ∙ c.in_default.is);
    }
