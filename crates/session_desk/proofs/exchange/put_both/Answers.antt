use Rattle.std.proofs.Common.{arith, ◌≡◌, ◌∙◌, ◌++◌, ℕ, Bool, List, ap, sym, subst}
use Rattle.std.proofs.lemmas.Grind.{common_steps}
use Rattle.std.specs.Prelude.{IfSome, if◌then◌else◌}
use Rattle.links.specs.Links.{Puts}
use Rattle.session_desk.proofs.Putting.{put-on}
use Rattle.session_desk.proofs.exchange.put_both.Goals as goal

pub returns-clause-told : goal.returns-clause-told
returns-clause-told g c =
    let said : List ℕ = c.args.reply.now in
    let same : c.deref-2.result.now ≡ c.args.news.now.items = c.deref-2.ensures.value
    ∙ (c.extend_from_slice.ensures.items
    ∙ ap (λ (done : Bool). if done then c.args.news.now.items ++ said else c.args.news.now.items)
    (sym c.is_ok.ensures.value ∙ c.if-is_ok.false)) in
    subst (λ (news : List ℕ). IfSome (g.L.Link.told c.args.link.now)
    (λ t. Puts t (news ++ said) (g.L.Link.told c.put_some-3.new.link) c.put_some-3.result)) same
    (put-on (g.L.Link.told c.args.link.now) (g.L.Link.told c.put_some-2.new.link) (g.L.Link.told c.put_some-3.new.link)
    c.deref-2.result.now said c.put_some-3.result c.in_ok-put_some.ensures.told c.put_some-3.ensures.told)

pub returns-in_err-put_some-clause-told : goal.returns-in_err-put_some-clause-told
returns-in_err-put_some-clause-told g c = grind (arith, common_steps)
