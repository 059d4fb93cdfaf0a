use Rattle.std.proofs.Common.{◌≡◌, ◌++◌, map, take}
use Rattle.level_plan.specs.declared.line.PlanLine.TheVariants as lines
use Rattle.plan_files.proofs.lines.push_levels.Given as goal

abbrev pub invariant-loop-blind : goal.invariant-loop-blind
invariant-loop-blind l = l.lines.items ≡ l.initial.lines.items ++ map lines.Blinds (take l.blind-index l.blinds)
