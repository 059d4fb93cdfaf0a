use Rattle.std.proofs.Common.{◌≡◌, ◌++◌, take}
use Rattle.std.specs.List.{flat_map}
use Rattle.view_rules.specs.Spelling.{Floor, StackIs, line_text}
use Rattle.player_view.proofs.floor.push_stacks.Given as goal

abbrev pub invariant-loop-line : goal.invariant-loop-line
invariant-loop-line l = l.out.items ≡ l.initial.out.items
    ++ flat_map (λ line. line_text (Floor (StackIs line))) (take l.line-index l.stacks)
