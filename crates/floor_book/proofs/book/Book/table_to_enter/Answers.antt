use Rattle.std.proofs.Common.{◌<◌, ◌≤◌, ◌∙◌, sym, ap, subst}
use Rattle.std.specs.Prelude.{is_some}
use Rattle.seat_book.specs.Counts.{count_at}
use Rattle.tournament_rules.specs.Books.{BookState}
use Rattle.floor_book.proofs.CheckSteps.{lacking_not_entered, empty_not_entered, entered_before, entered_open}
use Rattle.floor_book.proofs.book.Book.table_to_enter.Goals.{else-self-gt0-via-then-self-gt0+else-count-eq0, else-self-gt0-via-else-self-gt0}
use Rattle.floor_book.proofs.book.Book.table_to_enter.Goals as goal

pub returns-in_err-number-clause-there : goal.returns-in_err-number-clause-there
returns-in_err-number-clause-there c = ap is_some c.from_residual.ensures
    ∙ sym (lacking_not_entered c.args.self.now c.args.table (sym c.in_err-number.ensures.there))

pub returns-then-count-eq0-clause-there : goal.returns-then-count-eq0-clause-there
returns-then-count-eq0-clause-there c =
    let begun = subst (λ (book : BookState). 0 < book.begun) c.self.view_is c.if-self-gt0.true in
    let seen = ap (λ (book : BookState). count_at book.seating.players c.args.table) c.self.view_is in
    let counted = c.count.ensures.count ∙ ap (count_at c.self.inside.seats.players) c.in_ok-number.ensures.same in
    sym (empty_not_entered c.args.self.now c.args.table (sym c.in_ok-number.ensures.there) begun
    (sym (counted ∙ seen) ∙ c.if-count-eq0.true))

pub returns-clause-there : goal.returns-clause-there
returns-clause-there c =
    let seen = ap (λ (book : BookState). count_at book.seating.players c.args.table) c.self.view_is in
    elim c.else-self-gt0.branch [
      | else-self-gt0-via-then-self-gt0+else-count-eq0 w ↦
          let counted = w.count.ensures.count ∙ ap (count_at c.self.inside.seats.players) c.in_ok-number.ensures.same in
          sym (entered_open c.args.self.now c.args.table (sym c.in_ok-number.ensures.there)
          (λ none. w.if-count-eq0.false (counted ∙ (seen ∙ none))))
      | else-self-gt0-via-else-self-gt0 w ↦
          let none = subst (λ (book : BookState). book.begun ≤ 0) c.self.view_is w.if-self-gt0.false in
          sym (entered_before c.args.self.now c.args.table (sym c.in_ok-number.ensures.there) none)
    ]
