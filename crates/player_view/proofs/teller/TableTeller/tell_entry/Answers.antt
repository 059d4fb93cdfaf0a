use Rattle.std.proofs.Common.{arith}
use Rattle.std.proofs.lemmas.Grind.{common_steps}
use Rattle.std.proofs.lemmas.Result.{on_ok_weaker}
use Rattle.player_view.proofs.Telling.{text-closed}
use Rattle.player_view.proofs.Texts.{nothing-more}
use Rattle.player_view.proofs.teller.TableTeller.tell_entry.Goals as goal

pub returns-in-Acted-clause-told : goal.returns-in-Acted-clause-told
returns-in-Acted-clause-told c =
    rw c.in-Acted.is (on_ok_weaker c.act.result (λ told. told c.in-Acted.caller) c.act.ensures.told)

pub returns-in-Closed-clause-ok : goal.returns-in-Closed-clause-ok
returns-in-Closed-clause-ok c = rw c.in-Closed.is (nothing-more c.args.out.now.items _ (text-closed c.args.self.now))

pub returns-in-Closed-clause-extends : goal.returns-in-Closed-clause-extends
returns-in-Closed-clause-extends c = grind (arith, common_steps)
