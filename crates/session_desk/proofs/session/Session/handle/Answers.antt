use Rattle.std.proofs.Common.{◌≡◌, ◌∙◌, ◌++◌, [], ℕ, List, subst}
use Rattle.std.specs.Prelude.{IfSome, vec_len}
use Rattle.links.specs.Links.{Puts}
use Rattle.session_lines.specs.Replies.{reply_line}
use Rattle.session_desk.specs.Desks.{sights}
use Rattle.session_desk.specs.Inboxes.{line_of_cut}
use Rattle.session_desk.specs.Telling.{HasToldKnown, reach_of}
use Rattle.session_desk.proofs.Handled.{line-said}
use Rattle.session_desk.proofs.session.Session.handle.Goals as goal

pub returns-clause-said : goal.returns-clause-said
returns-clause-said g c =
    let done = c.respond-desk.ensures.responded in
    let reply = c.respond-desk.result.1 in
    let behind = c.respond-desk.result.2 in
    let text : List ℕ = c.respond-desk.new.out.items in
    let known : HasToldKnown (vec_len c.args.docks.now) (sights c.respond-desk.result.0) (reach_of c.args.self.told)
    done.middle behind [] text =
    subst (λ (had : List ℕ). HasToldKnown (vec_len c.args.docks.now) (sights c.respond-desk.result.0)
    (reach_of c.args.self.told) done.middle behind had text) c.clear.ensures.items done.known in
    let written : c.bytes.result.now ≡ reply_line reply behind = c.bytes.ensures ∙ c.write.ensures in
    let puts : IfSome (g.L.Link.told c.args.link.now)
    (λ t. Puts t (text ++ reply_line reply behind) (g.L.Link.told c.put_both-put.new.link) c.put_both-put.result) =
    subst (λ (bytes : List ℕ). IfSome (g.L.Link.told c.args.link.now)
    (λ t. Puts t (text ++ bytes) (g.L.Link.told c.put_both-put.new.link) c.put_both-put.result)) written
    c.put_both-put.ensures.told in
    line-said c.args.words.now (vec_len c.args.docks.now) c.args.self _ done.mid done.middle
    (line_of_cut c.args.cut c.args.self.inbox.line) reply behind text c.put_both-put.result
    (g.L.Link.told c.args.link.now) (g.L.Link.told c.put_both-put.new.link) c.step_after_line.result
    c.meaning_of-meaning.result c.meaning_of-meaning.ensures.meaning done.answered done.moved known done.changed puts
    c.step_after_line.ensures
