-- One player more.
use Rattle.std.proofs.Common.{◌≡◌, ℕ, List, ◌∷◌, ap, sym, ◌∙◌, Some, arith, string_bytes}
use Rattle.std.proofs.lemmas.Grind.{common_steps}
use Rattle.toml.specs.View.{view, members_view}
use Rattle.toml.proofs.Views.{Entry}
use Rattle.plan_files.specs.Words.{player_of, each_player}
use Rattle.plan_files.proofs.EachItem.{behind, player_more}
use Rattle.plan_files.proofs.words.each_player.Goals as goal

pub members-preserved : goal.members-preserved
members-preserved c =
    let (can, finite, same) = c.members.invariant in
    let entry : Entry = (c.in-Some.key.now, c.in-Some.value.now) in
    let all = each_player (members_view c.args.members.now.entries) in
    let iterator : c.members.key-iterator ≡ entry ∷ c.next.new.self = grind (arith, common_steps) in
    let before : behind c.members.players (each_player (members_view (entry ∷ c.next.new.self))) ≡ all =
    rw iterator at same in
    let says : player_of (string_bytes entry.0) (view entry.1) ≡ Some c.in-Some-2.player =
    ap (λ (key : List ℕ). player_of key (view c.in-Some.value.now)) (sym c.as_str.ensures.value)
    ∙ sym c.in_ok-player.ensures
    ∙ c.in-Some-2.is in (
      tt,
      tt,
      rw c.in_ok-push.ensures.ok
          (player_more entry c.next.new.self c.in-Some-2.player c.members.players all says before),
    )
