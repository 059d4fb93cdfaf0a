use Rattle.std.proofs.Common.{◌∙◌, sym, ap, List, ℕ, ◌++◌, Bool}
use Rattle.std.specs.Prelude.{Some, None}
use Rattle.rulebook.specs.Checks.{first_that_holds}
use Rattle.floor_text.specs.declared.refusal.Refusal.{Refusal}
use Rattle.tournament_rules.specs.Checks.{going_checks, open_table_checks, leaving_checks, draw_checks, round_checks, break_checks}
use Rattle.floor_book.proofs.Joins.{checked_on}
use Rattle.floor_book.proofs.MoveChecks.{found_first, found_second, found_third}
use Rattle.floor_book.proofs.book.Book.check_break.Goals as goal

pub returns-in_err-table-clause-checked : goal.returns-in_err-table-clause-checked
returns-in_err-table-clause-checked c =
    let book = c.args.self.now in
    let front : List (Refusal × Bool) = going_checks book ++ open_table_checks book c.args.table
    ++ leaving_checks book c.args.table in
    checked_on (break_checks book c.args.table c.args.places.now c.args.names.now) c.in_err-table.field-0.0
    c.from_residual.result
    (found_first front (draw_checks book c.args.table c.args.places.now c.args.names.now) (round_checks book)
    c.in_err-table.field-0.0 c.in_err-table.ensures.checked) c.from_residual.ensures.0 c.from_residual.ensures.1

pub returns-in_err-check_break_draw-clause-checked : goal.returns-in_err-check_break_draw-clause-checked
returns-in_err-check_break_draw-clause-checked c =
    let book = c.args.self.now in
    let places = c.args.places.now in
    let names = c.args.names.now in
    let front : List (Refusal × Bool) = going_checks book ++ open_table_checks book c.args.table
    ++ leaving_checks book c.args.table in
    let found = sym (ap (λ (n : ℕ). first_that_holds (draw_checks book n places names)) c.in_ok-table.ensures.same)
    ∙ c.in_err-check_break_draw.ensures in
    checked_on (break_checks book c.args.table places names) c.in_err-check_break_draw.field-0.0
    c.from_residual-in_err-check_break_draw.result
    (found_second front (draw_checks book c.args.table places names) (round_checks book)
    c.in_err-check_break_draw.field-0.0 c.in_ok-table.ensures.checked found)
    c.from_residual-in_err-check_break_draw.ensures.0 c.from_residual-in_err-check_break_draw.ensures.1

pub returns-in_err-check_round-clause-checked : goal.returns-in_err-check_round-clause-checked
returns-in_err-check_round-clause-checked c =
    let book = c.args.self.now in
    let places = c.args.places.now in
    let names = c.args.names.now in
    let front : List (Refusal × Bool) = going_checks book ++ open_table_checks book c.args.table
    ++ leaving_checks book c.args.table in
    let none = sym (ap (λ (n : ℕ). first_that_holds (draw_checks book n places names)) c.in_ok-table.ensures.same)
    ∙ c.in_ok-check_break_draw.ensures in
    checked_on (break_checks book c.args.table places names) c.in_err-check_round.field-0.0
    c.from_residual-in_err-check_round.result
    (found_third front (draw_checks book c.args.table places names) (round_checks book)
    (Some c.in_err-check_round.field-0.0) c.in_ok-table.ensures.checked none c.in_err-check_round.ensures)
    c.from_residual-in_err-check_round.ensures.0 c.from_residual-in_err-check_round.ensures.1

pub returns-clause-checked : goal.returns-clause-checked
returns-clause-checked c =
    let book = c.args.self.now in
    let places = c.args.places.now in
    let names = c.args.names.now in
    let front : List (Refusal × Bool) = going_checks book ++ open_table_checks book c.args.table
    ++ leaving_checks book c.args.table in
    let none = sym (ap (λ (n : ℕ). first_that_holds (draw_checks book n places names)) c.in_ok-table.ensures.same)
    ∙ c.in_ok-check_break_draw.ensures in
    found_third front (draw_checks book c.args.table places names) (round_checks book) None
    c.in_ok-table.ensures.checked none c.in_ok-check_round.ensures
