use Rattle.std.proofs.Common.{◌≡◌, ◌++◌, drop, map}
use Rattle.std.specs.List.{flat_map}
use Rattle.replay_rules.specs.Replay.{event_line}
use Rattle.dock_rules.specs.Journals.{act_event}
use Rattle.floor_online.proofs.text.push_acts.Given as goal

abbrev pub invariant-loop-act : goal.invariant-loop-act
invariant-loop-act l =
    l.text.items ++ flat_map event_line (map (act_event l.table) (drop l.act-index l.acts))
    ≡ l.fn.text.items ++ flat_map event_line (map (act_event l.table) l.acts)
