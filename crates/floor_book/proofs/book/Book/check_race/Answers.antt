use Rattle.std.proofs.Common.{◌∙◌, sym, ap, ℕ, Bool, List, ◌∷◌, ◌++◌}
use Rattle.std.specs.Prelude.{not, Some, None}
use Rattle.rulebook.specs.Checks.{first_that_holds}
use Rattle.rulebook.proofs.Checks.{first_that_holds-later, first_that_holds-sooner}
use Rattle.floor_text.specs.declared.refusal.Refusal.{Refusal}
use Rattle.floor_text.specs.declared.refusal.Refusal.TheVariants.{NoRace}
use Rattle.tournament_rules.specs.Checks.{going_checks, open_table_checks, not_playing_checks, deck_checks, over_checks, is_race_due, race_checks}
use Rattle.floor_book.proofs.Joins.{checked_on}
use Rattle.floor_book.proofs.MoveChecks.{found_first, found_second, found_third}
use Rattle.floor_book.proofs.book.Book.check_race.Goals as goal

pub returns-in_err-check_going-clause-checked : goal.returns-in_err-check_going-clause-checked
returns-in_err-check_going-clause-checked c =
    let book = c.args.self.now in
    let table = c.args.table in
    let two = going_checks book ++ open_table_checks book table in
    let three = two ++ not_playing_checks book table in
    let due : List (Refusal × Bool) = (NoRace, not (is_race_due book table)) ∷ over_checks book in
    let found = c.in_err-check_going.field-0.0 in
    checked_on (race_checks book table c.args.row.now) found c.from_residual.result
    (first_that_holds-sooner (three ++ deck_checks c.args.row.now) due found
    (first_that_holds-sooner three (deck_checks c.args.row.now) found
    (found_first (going_checks book) (open_table_checks book table) (not_playing_checks book table) found
    c.in_err-check_going.ensures))) c.from_residual.ensures.0 c.from_residual.ensures.1

pub returns-in_err-table-clause-checked : goal.returns-in_err-table-clause-checked
returns-in_err-table-clause-checked c =
    let book = c.args.self.now in
    let table = c.args.table in
    let two = going_checks book ++ open_table_checks book table in
    let three = two ++ not_playing_checks book table in
    let due : List (Refusal × Bool) = (NoRace, not (is_race_due book table)) ∷ over_checks book in
    let found = c.in_err-table.field-0.0 in
    checked_on (race_checks book table c.args.row.now) found c.from_residual-in_err-table.result
    (first_that_holds-sooner (three ++ deck_checks c.args.row.now) due found
    (first_that_holds-sooner three (deck_checks c.args.row.now) found
    (found_second (going_checks book) (open_table_checks book table) (not_playing_checks book table) found
    c.in_ok-check_going.ensures c.in_err-table.ensures.checked))) c.from_residual-in_err-table.ensures.0
    c.from_residual-in_err-table.ensures.1

pub returns-in_err-check_not_playing-clause-checked : goal.returns-in_err-check_not_playing-clause-checked
returns-in_err-check_not_playing-clause-checked c =
    let book = c.args.self.now in
    let table = c.args.table in
    let two = going_checks book ++ open_table_checks book table in
    let three = two ++ not_playing_checks book table in
    let due : List (Refusal × Bool) = (NoRace, not (is_race_due book table)) ∷ over_checks book in
    let found = c.in_err-check_not_playing.field-0.0 in
    let is = sym (ap (λ (n : ℕ). first_that_holds (not_playing_checks book n)) c.in_ok-table.ensures.same)
    ∙ c.in_err-check_not_playing.ensures in
    let none = first_that_holds-later (going_checks book) (open_table_checks book table) c.in_ok-check_going.ensures
    ∙ c.in_ok-table.ensures.checked in
    checked_on (race_checks book table c.args.row.now) found c.from_residual-in_err-check_not_playing.result
    (first_that_holds-sooner (three ++ deck_checks c.args.row.now) due found
    (found_second two (not_playing_checks book table) (deck_checks c.args.row.now) found none is))
    c.from_residual-in_err-check_not_playing.ensures.0 c.from_residual-in_err-check_not_playing.ensures.1

pub returns-in_err-deck-clause-checked : goal.returns-in_err-deck-clause-checked
returns-in_err-deck-clause-checked c =
    let book = c.args.self.now in
    let table = c.args.table in
    let two = going_checks book ++ open_table_checks book table in
    let three = two ++ not_playing_checks book table in
    let due : List (Refusal × Bool) = (NoRace, not (is_race_due book table)) ∷ over_checks book in
    let found = c.in_err-deck.field-0.0 in
    let rests = sym (ap (λ (n : ℕ). first_that_holds (not_playing_checks book n)) c.in_ok-table.ensures.same)
    ∙ c.in_ok-check_not_playing.ensures in
    let none = found_third (going_checks book) (open_table_checks book table) (not_playing_checks book table) None
    c.in_ok-check_going.ensures c.in_ok-table.ensures.checked rests in
    checked_on (race_checks book table c.args.row.now) found c.from_residual-in_err-deck.result
    (found_second three (deck_checks c.args.row.now) due found none c.in_err-deck.ensures.checked)
    c.from_residual-in_err-deck.ensures.0 c.from_residual-in_err-deck.ensures.1

pub returns-in_err-check_due-clause-checked : goal.returns-in_err-check_due-clause-checked
returns-in_err-check_due-clause-checked c =
    let book = c.args.self.now in
    let table = c.args.table in
    let two = going_checks book ++ open_table_checks book table in
    let three = two ++ not_playing_checks book table in
    let due : List (Refusal × Bool) = (NoRace, not (is_race_due book table)) ∷ over_checks book in
    let found = c.in_err-check_due.field-0.0 in
    let rests = sym (ap (λ (n : ℕ). first_that_holds (not_playing_checks book n)) c.in_ok-table.ensures.same)
    ∙ c.in_ok-check_not_playing.ensures in
    let none = found_third (going_checks book) (open_table_checks book table) (not_playing_checks book table) None
    c.in_ok-check_going.ensures c.in_ok-table.ensures.checked rests in
    let is = sym (ap (λ (n : ℕ). first_that_holds ((NoRace, not (is_race_due book n)) ∷ over_checks book))
    c.in_ok-table.ensures.same) ∙ c.in_err-check_due.ensures in
    checked_on (race_checks book table c.args.row.now) found c.from_residual-in_err-check_due.result
    (found_third three (deck_checks c.args.row.now) due (Some found) none c.in_ok-deck.ensures.checked is)
    c.from_residual-in_err-check_due.ensures.0 c.from_residual-in_err-check_due.ensures.1

pub returns-clause-checked : goal.returns-clause-checked
returns-clause-checked c =
    let book = c.args.self.now in
    let table = c.args.table in
    let two = going_checks book ++ open_table_checks book table in
    let three = two ++ not_playing_checks book table in
    let due : List (Refusal × Bool) = (NoRace, not (is_race_due book table)) ∷ over_checks book in
    let rests = sym (ap (λ (n : ℕ). first_that_holds (not_playing_checks book n)) c.in_ok-table.ensures.same)
    ∙ c.in_ok-check_not_playing.ensures in
    let none = found_third (going_checks book) (open_table_checks book table) (not_playing_checks book table) None
    c.in_ok-check_going.ensures c.in_ok-table.ensures.checked rests in
    let is = sym (ap (λ (n : ℕ). first_that_holds ((NoRace, not (is_race_due book n)) ∷ over_checks book))
    c.in_ok-table.ensures.same) ∙ c.in_ok-check_due.ensures in
    found_third three (deck_checks c.args.row.now) due None none c.in_ok-deck.ensures.checked is
