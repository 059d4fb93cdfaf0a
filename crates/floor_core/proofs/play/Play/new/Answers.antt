use Rattle.std.proofs.Common.{◌≡◌, ◌∙◌, sym, ap, ℕ, ◌+◌, map}
use Rattle.std.specs.Prelude.{replicate, Option, None}
use Rattle.level_plan.specs.Plans.{PlanTerms}
use Rattle.table_engine.specs.Hands.{HandTerms}
use Rattle.tournament_rules.specs.Books.{BookState}
use Rattle.tournament_rules.specs.Effects.{first_book}
use Rattle.tournament_rules.specs.Apart.{start_of, acts_of}
use Rattle.tournament_rules.proofs.Layers.{map_empty}
use Rattle.floor_core.proofs.play.Play.new.Goals as goal

pub invariant_of-result : goal.invariant_of-result
invariant_of-result c =
    let none : Option HandTerms = None in
    let count : ℕ = c.args.plan.tables + 1 in
    let hands : c.in_ok-hands.hands.items ≡ replicate count none = c.in_ok-hands.ensures
    ∙ ap (λ (plan : PlanTerms). replicate (plan.tables + 1) none) c.plan.view_is in
    let book : c.in_ok-book.book ≡ first_book c.args.plan = c.in_ok-book.ensures in
    ap (map start_of) hands ∙ (map_empty start_of count none ∙ sym (ap (λ (book : BookState). book.started) book))

pub returns : goal.returns
returns c =
    let none : Option HandTerms = None in
    let count : ℕ = c.args.plan.tables + 1 in
    let hands : c.in_ok-hands.hands.items ≡ replicate count none = c.in_ok-hands.ensures
    ∙ ap (λ (plan : PlanTerms). replicate (plan.tables + 1) none) c.plan.view_is in
    let book : c.in_ok-book.book ≡ first_book c.args.plan = c.in_ok-book.ensures in
    let acts = ap (map acts_of) hands ∙ map_empty acts_of count none in
    λ i. record { book = book i; acts = acts i }
