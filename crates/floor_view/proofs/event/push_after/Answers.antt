use Rattle.std.proofs.Common.{◌∙◌, ◌++◌, List, ℕ, ap}
use Rattle.std.proofs.lemmas.Result.{on_ok_weaker}
use Rattle.floor_view.proofs.Begun.{text-given}
use Rattle.floor_view.proofs.event.push_after.Goals as goal

pub returns-in-Race-clause-told : goal.returns-in-Race-clause-told
returns-in-Race-clause-told c =
    on_ok_weaker c.push_race.result (λ written. written c.args.who) c.push_race.ensures.told

pub returns-in_default-clause-told : goal.returns-in_default-clause-told
returns-in_default-clause-told c =
    on_ok_weaker c.push_floor_lines.result
    (λ written before. written ∙ ap (λ (text : List ℕ). c.args.text.now.items ++ text)
    (text-given c.args.who before c.args.tournament.now c.args.event.now c.requires c.in_default.not-Begin
    c.in_default.not-Race))
    c.push_floor_lines.ensures.ok
