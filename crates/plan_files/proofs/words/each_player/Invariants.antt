use Rattle.std.proofs.Common.{◌≡◌}
use Rattle.toml.specs.View.{members_view}
use Rattle.plan_files.specs.Words.{each_player}
use Rattle.plan_files.proofs.EachItem.{behind}
use Rattle.plan_files.proofs.words.each_player.Given as goal

abbrev pub invariant-members : goal.invariant-members
invariant-members l =
    (goal.iterator-members).can_next l.key-iterator × (goal.iterator-members).is_finite l.key-iterator
    × (behind l.players (each_player (members_view l.key-iterator)) ≡ each_player (members_view l.members.entries))
