use Rattle.std.proofs.Common.{◌∙◌, ◌-◌, ap, sym, arith}
use Rattle.std.specs.Prelude.{map}
use Rattle.std.specs.Option.{is_some}
use Rattle.pot_layers.proofs.PayersSoFar.{so_far-yes, so_far-no}
use Rattle.showdown.proofs.Writes.{seats-all}
use Rattle.table_engine.specs.Deals.{dealt_seats}
use Rattle.table_engine.proofs.dealing.dealt_seats.Goals.{then-is_some, else-is_some}
use Rattle.table_engine.proofs.dealing.dealt_seats.Goals as goal

pub loop-index-preserved : goal.loop-index-preserved
loop-index-preserved c =
    elim c.if-is_some.branch [
      | then-is_some w ↦
          w.dealt-is ∙ w.with-dealt.ensures.same
          ∙ so_far-yes is_some c.args.players.now c.loop-index.index c.loop-index.dealt
          c.index-players-index.result
          (omega arith) c.type_inv.players c.loop-index.invariant (sym c.is_some.ensures ∙ w.if-is_some.true)
      | else-is_some w ↦
          w.dealt-is
          ∙ so_far-no is_some c.args.players.now c.loop-index.index c.loop-index.dealt
          c.index-players-index.result
          (omega arith) c.type_inv.players c.loop-index.invariant (sym c.is_some.ensures ∙ w.if-is_some.false)
    ]

pub returns : goal.returns
unfolding dealt_seats
returns c =
    c.loop-index.invariant
    ∙ seats-all is_some c.args.players.now c.loop-index.index (10 - c.loop-index.index) (omega arith)
    (omega arith)
    ∙ ap (map is_some) c.requires
