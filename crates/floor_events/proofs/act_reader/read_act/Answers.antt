use Rattle.std.proofs.Common.{◌≡◌, ◌∙◌, ◌≤◌, sym, ap, length, option_map, rules, arith}
use Rattle.floor_text.specs.Limits.{longest_line}
use Rattle.floor_events.specs.Grammar.{item_of_bytes}
use Rattle.floor_events.specs.Acts.{item_of_act}
use Rattle.floor_events.proofs.ActLines.{item_behind, begins_so, act_found, act_again}
use Rattle.floor_events.proofs.act_reader.read_act.Goals as goal

pub returns-then-line-gt-LONGEST_LINE-clause-only : goal.returns-then-line-gt-LONGEST_LINE-clause-only
returns-then-line-gt-LONGEST_LINE-clause-only c = λ read holds.
    let short = (begins_so c.args.line.now read holds).0 in
    absurd (omega (arith, short, c.if-line-gt-LONGEST_LINE.true))

pub returns-in_err-strip_prefix-clause-only : goal.returns-in_err-strip_prefix-clause-only
returns-in_err-strip_prefix-clause-only c = λ read holds.
    let begins = (begins_so c.args.line.now read holds).1 in
    absurd (cc (begins, c.in_err-strip_prefix.ensures.cases))

item_read : (c : goal.After-read_act_fields) → item_of_bytes c.args.line.now
    ≡ option_map item_of_act c.read_act_fields.result
item_read c =
    let short : length c.args.line.now ≤ longest_line = search rules in
    let parts = c.in_ok-strip_prefix.ensures.cases in
    item_behind c.args.line.now c.in_ok-strip_prefix.field-0.now short parts.0 parts.1
    ∙ ap (option_map item_of_act) (sym c.read_act_fields.ensures)

pub returns-clause-found : goal.returns-clause-found
returns-clause-found c = act_found (item_of_bytes c.args.line.now) c.read_act_fields.result (item_read c)

pub returns-clause-only : goal.returns-clause-only
returns-clause-only c = act_again (item_of_bytes c.args.line.now) c.read_act_fields.result (item_read c)
