use Rattle.std.proofs.Common.{◌≡◌, ◌∙◌, ◌+◌, ◌-◌, get_or, ap, arith}
use Rattle.std.proofs.lemmas.Bool.{not-true, not-false}
use Rattle.pot_layers.specs.Tallies.{Tally, put_in_at, folded_at}
use Rattle.pot_layers.proofs.Raised.{no_put}
use Rattle.pot_layers.proofs.Told.{live-told, folded-told, tally-of}
use Rattle.pot_layers.proofs.pot_tally.PotTally.of.Goals.{then-not-put, else-not-put}
use Rattle.pot_layers.proofs.pot_tally.PotTally.of.Goals as goal

pub loop-index-preserved : goal.loop-index-preserved
loop-index-preserved c =
    let back : c.loop-index.index + 1 - 1 ≡ c.loop-index.index = omega arith in
    let told = ap (λ (t : Tally). t.puts) c.loop-index.invariant in
    let added = ap (λ (t : Tally). t.puts) c.add.ensures
    ∙ ap (λ n. put_in_at c.loop-index.tally.puts n (get_or c.args.puts.now c.loop-index.index no_put).amount) back in
    let none = ap (λ (t : Tally). t.dead) c.add.ensures ∙ ap (λ (t : Tally). t.dead) c.loop-index.invariant in
    elim c.if-not-put.branch [
      | then-not-put w ↦
          tally-of _ _ 0
          (ap (λ (t : Tally). t.puts) (w.tally-is ∙ w.fold.ensures) ∙ ap (λ n. folded_at c.add.new.self.puts n) back
          ∙ ap (λ puts. folded_at puts c.loop-index.index) added
          ∙ folded-told c.args.puts.now c.loop-index.tally.puts c.loop-index.index
          (omega arith) c.told-puts told
          (not-true (get_or c.args.puts.now c.loop-index.index no_put).live w.if-not-put.true))
          (ap (λ (t : Tally). t.dead) (w.tally-is ∙ w.fold.ensures) ∙ none)
      | else-not-put w ↦
          tally-of _ _ 0
          (ap (λ (t : Tally). t.puts) w.tally-is ∙ added
          ∙ live-told c.args.puts.now c.loop-index.tally.puts c.loop-index.index
          (omega arith) c.told-puts told
          (not-false (get_or c.args.puts.now c.loop-index.index no_put).live w.if-not-put.false))
          (ap (λ (t : Tally). t.dead) w.tally-is ∙ none)
    ]
