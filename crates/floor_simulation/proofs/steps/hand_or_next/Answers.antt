use Rattle.std.proofs.Common.{◌≡◌, ◌∙◌, sym, ap, ℕ, true, Option, None, Ok, Err, Result, OnOk}
use Rattle.std.specs.Prelude.{is_none, if◌then◌else◌}
use Rattle.std.specs.Result.{is_ok}
use Rattle.floor_text.specs.declared.refusal.Refusal.{Refusal}
use Rattle.tournament_events.specs.declared.event.Event.TheVariants.{Begin}
use Rattle.tournament_rules.specs.Checks.{book_refusal}
use Rattle.simulation_rules.specs.declared.step.SimStep.TheVariants.{Take}
use Rattle.simulation_rules.specs.Steps.{after_table, row_drawn}
use Rattle.simulation_rules.proofs.DrawnRows.{row-repeats_none}
use Rattle.floor_simulation.proofs.DrawnRows.{row-is_drawn}
use Rattle.floor_simulation.proofs.steps.hand_or_next.Goals as goal

passed_so : {E : Type 0} (result : Result (Unit {0}) E) (P : Type 0) → is_ok result ≡ true → OnOk result P → P
passed_so (Ok done) P ok is = is
passed_so (Err fault) P ok is = absurd cc

pub returns-then-is_ok : goal.returns-then-is_ok
returns-then-is_ok c =
    let book = c.args.book.now in
    let place = c.args.place in
    let drawn = row_drawn c.args.seed c.args.number in
    let row = row-is_drawn c.deck_of-row.result c.args.seed c.args.number c.deck_of-row.ensures.drawn in
    let free : book_refusal book (Begin place.table drawn) ≡ None =
    ap (λ (table : ℕ). book_refusal book (Begin table drawn)) (sym c.from-table.ensures)
    ∙ passed_so c.check_table_begins.result _ (sym c.if-is_ok.ensures.value) c.check_table_begins.ensures.ok drawn
    (row-repeats_none c.args.seed c.args.number) in
    (λ i. Take (Begin (c.from-table.ensures i) (row i)) place)
    ∙ sym (ap (λ (found : Option Refusal). if is_none found then Take (Begin place.table drawn) place
    else after_table book place) free)
