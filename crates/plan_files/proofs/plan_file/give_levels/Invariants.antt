use Rattle.std.proofs.Common.{◌≡◌, drop}
use Rattle.plan_files.specs.Steps.{after_levels}
use Rattle.plan_files.proofs.plan_file.give_levels.Given as goal

abbrev pub invariant-levels : goal.invariant-levels
invariant-levels l = after_levels (drop l.blind-index l.blinds) l.draft ≡ after_levels l.blinds l.initial.draft
