use Rattle.std.proofs.Common.{arith, subst, sym}
use Rattle.std.proofs.lemmas.Grind.{common_steps}
use Rattle.table_engine.specs.Hands.{HandTerms}
use Rattle.view_rules.specs.Entries.{IsLawfulAct}
use Rattle.player_view.proofs.Taking.{lawful-each}
use Rattle.player_view.proofs.teller.play_all.Goals as goal

pub play-requires : goal.play-requires
play-requires c =
    subst (λ (hand : HandTerms). IsLawfulAct hand c.act-item.result) (sym c.loop-act.invariant)
    (lawful-each (record { start = c.args.start; acts = c.args.acts.now }) c.loop-act.act-index c.act-item.result
    c.requires.play c.loop-act-test.true c.act-item.is)

pub loop-act-preserved : goal.loop-act-preserved
loop-act-preserved c = grind (arith, common_steps)

pub returns-clause-hand : goal.returns-clause-hand
returns-clause-hand c = grind (arith, common_steps)
