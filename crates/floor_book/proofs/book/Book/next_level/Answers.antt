use Rattle.std.proofs.Common.{◌≡◌, ◌∙◌, ◌+◌, sym, ap, subst, length, arith}
use Rattle.std.proofs.lemmas.Grind.{common_steps}
use Rattle.std.specs.Prelude.{None}
use Rattle.level_plan.specs.Plans.{unit_of_level}
use Rattle.level_plan.proofs.Levels.{unit_of_level_above}
use Rattle.tournament_events.specs.declared.event.Event.TheVariants.{Level}
use Rattle.tournament_rules.specs.Books.{BookState}
use Rattle.tournament_rules.specs.Checks.{book_refusal}
use Rattle.tournament_rules.specs.Effects.{leveled}
use Rattle.tournament_rules.specs.Valid.{IsValid}
use Rattle.tournament_rules.proofs.Entries.{right_has}
use Rattle.tournament_rules.proofs.Levels.{level_passed, valid_leveled}
use Rattle.floor_book.specs.Fields.{book_of}
use Rattle.floor_book.proofs.Joins.{answered_no}
use Rattle.floor_book.proofs.Announced.{level_refusal, leveled_state}
use Rattle.floor_book.proofs.book.Book.next_level.Goals as goal

pub returns-in_err-check_level-clause-answer : goal.returns-in_err-check_level-clause-answer
returns-in_err-check_level-clause-answer c =
    let book = c.args.self.now in
    answered_no (book_refusal book Level) c.in_err-check_level.field-0.0 c.from_residual.result
    (level_refusal book ∙ c.in_err-check_level.ensures) c.from_residual.ensures.0 c.from_residual.ensures.1

pub unit_of_level-before-requires-clause-first : goal.unit_of_level-before-requires-clause-first
unit_of_level-before-requires-clause-first c = c.self.invariant.plan.first

pub unit_of_level-before-requires-clause-last : goal.unit_of_level-before-requires-clause-last
unit_of_level-before-requires-clause-last c =
    let size = ap (λ (book : BookState). length book.plan.blinds) c.self.view_is in
    omega (arith, c.self.invariant.plan.last, size)

pub unit_of_level-unit-requires-clause-last : goal.unit_of_level-unit-requires-clause-last
unit_of_level-unit-requires-clause-last c =
    let may = level_passed c.args.self.now (level_refusal c.args.self.now ∙ c.in_ok-check_level.ensures) in
    let level = ap (λ (book : BookState). book.level) c.self.view_is in
    let further = may.further in
    omega (arith, further, level)

pub announce_from-requires : goal.announce_from-requires
announce_from-requires c =
    let book = book_of c.self.inside in
    let some = unit_of_level_above book.plan.blinds (book.level + 1)
    (right_has book.plan c.self.invariant.plan.right).levels in
    let same = ap (λ (other : BookState). unit_of_level other.plan.blinds (book.level + 1)) c.self.view_is in
    omega (arith, some, same, c.unit_of_level-unit.ensures)

pub invariant_of-self : goal.invariant_of-self
invariant_of-self c =
    let book = book_of c.self.inside in
    let before = c.unit_of_level-before.ensures
    ∙ sym (ap (λ (other : BookState). unit_of_level other.plan.blinds book.level) c.self.view_is) in
    let unit = c.unit_of_level-unit.ensures
    ∙ sym (ap (λ (other : BookState). unit_of_level other.plan.blinds (book.level + 1)) c.self.view_is) in
    let state = leveled_state book c.unit_of_level-before.result c.unit_of_level-unit.result c.announce_from.new.seats
    before unit c.announce_from.ensures in
    let free : book_refusal book Level ≡ None = ap (λ (book : BookState). book_refusal book Level) c.self.view_is
    ∙ (level_refusal c.args.self.now ∙ c.in_ok-check_level.ensures) in
    subst IsValid (sym state) (valid_leveled book c.self.invariant free)

pub returns-clause-answer : goal.returns-clause-answer
returns-clause-answer c = level_refusal c.args.self.now ∙ c.in_ok-check_level.ensures

pub returns-clause-state : goal.returns-clause-state
returns-clause-state c =
    let book = book_of c.self.inside in
    let before = c.unit_of_level-before.ensures
    ∙ sym (ap (λ (other : BookState). unit_of_level other.plan.blinds book.level) c.self.view_is) in
    let unit = c.unit_of_level-unit.ensures
    ∙ sym (ap (λ (other : BookState). unit_of_level other.plan.blinds (book.level + 1)) c.self.view_is) in
    leveled_state book c.unit_of_level-before.result c.unit_of_level-unit.result c.announce_from.new.seats before unit
    c.announce_from.ensures ∙ ap leveled c.self.view_is

pub overflow_add-self-inside : goal.overflow_add-self-inside
overflow_add-self-inside c = grind (arith, common_steps)

pub overflow_add-self : goal.overflow_add-self
overflow_add-self c = grind (arith, common_steps)
