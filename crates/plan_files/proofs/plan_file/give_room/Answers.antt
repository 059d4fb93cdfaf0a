-- The game, the tables and the seats are given in turn.
use Rattle.std.proofs.Common.{◌≡◌, rules}
use Rattle.std.specs.Prelude.{option_map}
use Rattle.toml.specs.View.{table_view}
use Rattle.level_plan.specs.declared.line.PlanItem.TheVariants as items
use Rattle.level_plan.specs.declared.line.PlanLine.TheVariants as lines
use Rattle.level_plan.specs.Drafts.{Draft}
use Rattle.plan_files.specs.PlanFiles.{given}
use Rattle.plan_files.specs.Steps.{after_line, after_room}
use Rattle.plan_files.proofs.Wrong.{handed_on, first_wrong, second_wrong, third_wrong, third_given}
use Rattle.plan_files.proofs.plan_file.give_room.Goals as goal

pub returns-in_err-give-clause-wrong : goal.returns-in_err-give-clause-wrong
unfolding after_room
returns-in_err-give-clause-wrong c =
    let said : Draft = given (table_view c.args.file.now) in
    let first : c.map-game.result ≡ option_map lines.Game said.game = search rules in
    handed_on (after_room said c.args.draft.now) c.in_err-give.field-0.0 c.from_residual.result c.from_residual.ensures.1
    (first_wrong (after_line items.Game (option_map lines.Game said.game) c.args.draft.now)
    (after_line items.Tables (option_map lines.Tables said.tables))
    (after_line items.Seats (option_map lines.Seats said.seats)) c.in_err-give.field-0.0
    (rw first at c.in_err-give.ensures.wrong))

pub returns-in_err-give-2-clause-wrong : goal.returns-in_err-give-2-clause-wrong
unfolding after_room
returns-in_err-give-2-clause-wrong c =
    let said : Draft = given (table_view c.args.file.now) in
    let first : c.map-game.result ≡ option_map lines.Game said.game = search rules in
    let second : c.map-tables.result ≡ option_map lines.Tables said.tables = search rules in
    handed_on (after_room said c.args.draft.now) c.in_err-give-2.field-0.0 c.from_residual-in_err-give-2.result
    c.from_residual-in_err-give-2.ensures.1
    (second_wrong (after_line items.Game (option_map lines.Game said.game) c.args.draft.now)
    (after_line items.Tables (option_map lines.Tables said.tables))
    (after_line items.Seats (option_map lines.Seats said.seats)) c.give.new.draft c.in_err-give-2.field-0.0
    (rw first at c.in_ok-give.ensures.given) (rw second at c.in_err-give-2.ensures.wrong))

pub returns-clause-given : goal.returns-clause-given
unfolding after_room
returns-clause-given c =
    let said : Draft = given (table_view c.args.file.now) in
    let first : c.map-game.result ≡ option_map lines.Game said.game = search rules in
    let second : c.map-tables.result ≡ option_map lines.Tables said.tables = search rules in
    let third : c.map-seats.result ≡ option_map lines.Seats said.seats = search rules in
    third_given (after_line items.Game (option_map lines.Game said.game) c.args.draft.now)
    (after_line items.Tables (option_map lines.Tables said.tables))
    (after_line items.Seats (option_map lines.Seats said.seats)) c.give.new.draft c.give-2.new.draft
    c.give-3.new.draft c.give-3.result (rw first at c.in_ok-give.ensures.given)
    (rw second at c.in_ok-give-2.ensures.given) (rw third at c.give-3.ensures.given)

pub returns-clause-wrong : goal.returns-clause-wrong
unfolding after_room
returns-clause-wrong c =
    let said : Draft = given (table_view c.args.file.now) in
    let first : c.map-game.result ≡ option_map lines.Game said.game = search rules in
    let second : c.map-tables.result ≡ option_map lines.Tables said.tables = search rules in
    let third : c.map-seats.result ≡ option_map lines.Seats said.seats = search rules in
    third_wrong (after_line items.Game (option_map lines.Game said.game) c.args.draft.now)
    (after_line items.Tables (option_map lines.Tables said.tables))
    (after_line items.Seats (option_map lines.Seats said.seats)) c.give.new.draft c.give-2.new.draft
    c.give-3.result (rw first at c.in_ok-give.ensures.given) (rw second at c.in_ok-give-2.ensures.given)
    (rw third at c.give-3.ensures.wrong)
