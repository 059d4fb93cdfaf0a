use Rattle.std.proofs.Common.{◌∙◌, sym, ap, ℕ, ◌==◌, length}
use Rattle.std.specs.Prelude.{not}
use Rattle.tournament_rules.specs.Books.{BookState}
use Rattle.floor_book.proofs.CheckSteps.{over_by_count, not_over_before}
use Rattle.floor_book.proofs.book.Book.over.Goals as goal

pub returns-then-not-is_empty : goal.returns-then-not-is_empty
returns-then-not-is_empty c =
    let some = sym (ap (λ (book : BookState). length book.busts == 0) c.self.view_is)
    ∙ (sym c.is_empty.ensures ∙ c.if-not-is_empty.true) in
    ap (λ (count : ℕ). count == 1) c.count_players.ensures ∙ sym (over_by_count c.args.self.now some)

pub returns-else-not-is_empty : goal.returns-else-not-is_empty
returns-else-not-is_empty c =
    let none = sym (ap (λ (book : BookState). length book.busts == 0) c.self.view_is)
    ∙ (sym c.is_empty.ensures ∙ c.if-not-is_empty.false) in
    ap not c.if-not-is_empty.false ∙ sym (not_over_before c.args.self.now none)
