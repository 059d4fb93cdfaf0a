use Rattle.std.proofs.Common.{◌≡◌, ◌∙◌, ◌≤◌, ◌++◌, List, ap, length, length-append, arith}
use Rattle.history_lock.specs.Passes.{seen}
use Rattle.view_rules.specs.declared.entries.JournalEntry.{JournalEntry}
use Rattle.dock_tests.proofs.script.ask_one.Goals as goal

-- What is seen after a hold is no shorter than what was seen before.
longer : (before at after more added : List JournalEntry) → at ≡ before ++ more → after ≡ at ++ added
    → length before ≤ length after
longer before at after more added grown left =
    let whole : length after ≡ length ((before ++ more) ++ added) =
    ap length (left ∙ ap (λ (front : List JournalEntry). front ++ added) grown) in
    omega (arith, whole, length-append (before ++ more) added, length-append before more)

pub returns-clause-more : goal.returns-clause-more
returns-clause-more g c =
    let hold = c.order-pass.ensures.stands.hold in
    longer (seen c.args.pass) c.order-pass.ensures.stands.at (seen c.order-pass.result.0) hold.others.0
    c.order-pass.ensures.stands.added hold.others.1 hold.left
