use Rattle.std.proofs.Common.{◌≡◌, ◌∙◌, rules, Some}
use Rattle.tournament_events.specs.declared.event.Item.TheVariants as items
use Rattle.floor_events.specs.Grammar.{item_of_words, item_of_bytes}
use Rattle.floor_events.proofs.EventLaws.{found_there, only_there, line_again}
use Rattle.floor_events.proofs.item_reader.read_item.Goals as goal

pub returns-then-is_note-clause-only : goal.returns-then-is_note-clause-only
unfolding item_of_bytes
returns-then-is_note-clause-only c =
    let exact : Some items.Note ≡ item_of_bytes c.args.line.now = search rules in
    λ item holds. exact ∙ line_again item c.args.line.now holds

pub returns-then-is-clause-found : goal.returns-then-is-clause-found
unfolding item_of_words item_of_bytes
returns-then-is-clause-found c = found_there c.args.line.now c.read_shares.result (search rules)

pub returns-then-is-clause-only : goal.returns-then-is-clause-only
unfolding item_of_words item_of_bytes
returns-then-is-clause-only c = only_there c.args.line.now c.read_shares.result (search rules)

pub returns-then-is-2-clause-found : goal.returns-then-is-2-clause-found
unfolding item_of_words item_of_bytes
returns-then-is-2-clause-found c = found_there c.args.line.now c.read_break.result (search rules)

pub returns-then-is-2-clause-only : goal.returns-then-is-2-clause-only
unfolding item_of_words item_of_bytes
returns-then-is-2-clause-only c = only_there c.args.line.now c.read_break.result (search rules)

pub returns-clause-only : goal.returns-clause-only
unfolding item_of_words item_of_bytes
returns-clause-only c =
    let exact : c.read_fields.result ≡ item_of_bytes c.args.line.now = search rules in
    λ item holds. exact ∙ line_again item c.args.line.now holds
