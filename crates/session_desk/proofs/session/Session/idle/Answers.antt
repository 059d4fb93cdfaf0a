use Rattle.std.proofs.Common.{[], List, ℕ, subst}
use Rattle.std.specs.Prelude.{IfSome, vec_len}
use Rattle.links.specs.Links.{Puts}
use Rattle.session_desk.specs.Desks.{nothing, sights}
use Rattle.session_desk.specs.Telling.{HasToldKnown, reach_of}
use Rattle.session_desk.proofs.DeskMoves.{desk-kept}
use Rattle.session_desk.proofs.Handled.{idle-said}
use Rattle.session_desk.proofs.session.Session.idle.Goals as goal

pub returns-clause-desk : goal.returns-clause-desk
returns-clause-desk g c =
    desk-kept c.args.book.now c.args.docks.now.items 1 _ nothing c.args.self.desk c.look-desk.result.0
    c.look-desk.ensures.moved c.requires.desk

pub returns-clause-said : goal.returns-clause-said
returns-clause-said g c = λ words.
    let known : HasToldKnown (vec_len c.args.docks.now) (sights c.look-desk.result.0) (reach_of c.args.self.told)
    (reach_of c.look-desk.new.told) c.look-desk.result.1.behind [] c.look-desk.new.out.items =
    subst (λ (had : List ℕ). HasToldKnown (vec_len c.args.docks.now) (sights c.look-desk.result.0)
    (reach_of c.args.self.told) (reach_of c.look-desk.new.told) c.look-desk.result.1.behind had
    c.look-desk.new.out.items) c.clear.ensures.items c.look-desk.ensures.news in
    let puts : IfSome (g.L.Link.told c.args.link.now)
    (λ t. Puts t c.look-desk.new.out.items (g.L.Link.told c.put_some-put.new.link) c.put_some-put.result) =
    subst (λ (bytes : List ℕ). IfSome (g.L.Link.told c.args.link.now)
    (λ t. Puts t bytes (g.L.Link.told c.put_some-put.new.link) c.put_some-put.result)) c.deref.ensures.value
    c.put_some-put.ensures.told in
    idle-said words (vec_len c.args.docks.now) c.args.self _ c.look-desk.result.1.behind c.look-desk.result.1.stopped
    c.look-desk.new.out.items c.put_some-put.result (g.L.Link.told c.args.link.now)
    (g.L.Link.told c.put_some-put.new.link) c.step_after_idle.result c.look-desk.ensures.moved known
    c.look-desk.ensures.stopped puts c.step_after_idle.ensures
