use Rattle.std.proofs.Common.{◌≡◌, ◌∙◌, sym, ap, subst, true}
use Rattle.level_plan.specs.Plans.{PlanTerms, is_right}
use Rattle.tournament_rules.specs.Books.{no_hands}
use Rattle.floor_book.proofs.Entered.{first_state_of}
use Rattle.tournament_rules.specs.Valid.{IsValid}
use Rattle.tournament_rules.proofs.Entries.{valid_first}
use Rattle.floor_book.proofs.book.Book.new.Goals as goal

pub invariant_of-result : goal.invariant_of-result
invariant_of-result c =
    let right : is_right c.args.plan ≡ true = rw (sym c.plan.view_is) c.plan.invariant in
    let started : c.in_ok-started.started.items ≡ no_hands c.args.plan.tables = c.in_ok-started.ensures
    ∙ ap (λ (plan : PlanTerms). no_hands plan.tables) c.plan.view_is in
    subst IsValid (sym (first_state_of c.args.plan c.new-2.result c.in_ok-seats.seats c.in_ok-started.started.items
    c.in_ok-busts.busts c.new-2.ensures c.in_ok-seats.ensures started c.in_ok-busts.ensures))
    (valid_first c.args.plan right)
