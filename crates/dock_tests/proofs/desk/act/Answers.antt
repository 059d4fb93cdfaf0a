use Rattle.std.proofs.Common.{◌≡◌, ◌∙◌, ◌≤◌, ◌++◌, List, ap, append_assoc, length, length-append, take, arith}
use Rattle.std.proofs.Math.Seq.{take-append_seam}
use Rattle.history_lock.specs.Passes.{seen}
use Rattle.view_rules.specs.declared.entries.TableEntry.{TableEntry}
use Rattle.dock_tests.proofs.desk.act.Goals as goal

-- What was seen begins what is seen after a hold.
kept : (before at after more added : List TableEntry) → at ≡ before ++ more → after ≡ at ++ added
    → (take (length before) after ≡ before) × (length before ≤ length after)
kept before at after more added grown left =
    let whole : after ≡ before ++ (more ++ added) =
    left ∙ (ap (λ (front : List TableEntry). front ++ added) grown ∙ append_assoc before more added) in (
      ap (take (length before)) whole ∙ take-append_seam before (more ++ added),
      rw whole (omega (arith, length-append before (more ++ added))),
    )

pub returns-clause-more : goal.returns-clause-more
returns-clause-more g c =
    let hold = c.act-desk.ensures.stands.hold in
    (kept (seen c.args.desk) c.act-desk.ensures.stands.at (seen c.act-desk.result.0) hold.others.0
    c.act-desk.ensures.stands.added hold.others.1 hold.left).1

pub returns-clause-kept : goal.returns-clause-kept
returns-clause-kept g c =
    let hold = c.act-desk.ensures.stands.hold in
    (kept (seen c.args.desk) c.act-desk.ensures.stands.at (seen c.act-desk.result.0) hold.others.0
    c.act-desk.ensures.stands.added hold.others.1 hold.left).0
