use Rattle.std.proofs.Common.{◌∙◌, ◌-◌, [], ap, refl}
use Rattle.std.specs.Prelude.{map}
use Rattle.std.specs.Option.{is_some}
use Rattle.rulebook.proofs.Found.{somes-made}
use Rattle.betting_round.specs.declared.street.Street.{Street}
use Rattle.betting_round.specs.StreetActs.{at_next_street}
use Rattle.table_engine.proofs.Running.{at-next, lawful-bet, ready-start, right-next, somes-street}
use Rattle.table_engine.proofs.betting.Betting.begin_next.Goals as goal

pub start-requires : goal.start-requires
start-requires c = rw (c.next_bettors-bettors.ensures, c.put.ensures.put, c.bet_with-bet.ensures)
    (right-next c.args.start.now c.args.self.now _ _ c.requires.lawful c.requires.ready refl)

pub returns-clause-at : goal.returns-clause-at
returns-clause-at c = λ streets at.
    at-next c.args.start.now streets c.args.self.now _ c.requires.lawful c.requires.ready c.requires.some at
    (rw (c.next_bettors-bettors.ensures, c.put.ensures.put, c.bet_with-bet.ensures) at c.start.ensures)
    (rw c.put.ensures.put refl) refl c.bet_with-bet.ensures refl

pub returns-clause-ready : goal.returns-clause-ready
returns-clause-ready c =
    let right = right-next c.args.start.now c.args.self.now _ (c.args.self.now.left - 1) c.requires.lawful
    c.requires.ready refl in
    ready-start _ _ (rw (c.next_bettors-bettors.ensures, c.put.ensures.put, c.bet_with-bet.ensures) right)
    c.start.ensures (rw (c.next_bettors-bettors.ensures, c.put.ensures.put) right.chips) refl
    (rw c.bet_with-bet.ensures (lawful-bet c.args.start.now (c.args.self.now.left - 1) c.requires.lawful).0) refl

pub returns-clause-there : goal.returns-clause-there
returns-clause-there c =
    ap (λ (s : Street). map is_some s.players) c.start.ensures
    ∙ somes-street _ []
    ∙ ap (map is_some) c.next_bettors-bettors.ensures
    ∙ somes-made at_next_street c.args.self.now.round.players
