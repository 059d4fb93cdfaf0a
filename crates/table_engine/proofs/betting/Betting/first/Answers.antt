use Rattle.std.proofs.Common.{◌∙◌, [], ap, refl, arith}
use Rattle.std.specs.Prelude.{map}
use Rattle.std.specs.Option.{is_some}
use Rattle.std.proofs.lemmas.Bool.{lt-ltb}
use Rattle.rulebook.proofs.Found.{somes-made}
use Rattle.betting_round.specs.declared.street.Street.{Street}
use Rattle.table_engine.specs.Hands.{lacking, players_by_seat, seated}
use Rattle.table_engine.proofs.BySeat.{sum-of_start}
use Rattle.table_engine.proofs.Running.{lawful-some, ready-start, somes-street}
use Rattle.table_engine.proofs.Starts.{few-first, few-lacking, right-first}
use Rattle.table_engine.proofs.betting.Betting.first.Goals as goal

pub all_lacking-counted-requires : goal.all_lacking-counted-requires
all_lacking-counted-requires c =
    let few = few-lacking c.args.start.now c.requires in
    rw (c.items.ensures, ← sum-of_start c.args.start.now (lacking c.args.start.now) c.requires) (omega (arith, few))

pub start-requires : goal.start-requires
start-requires c = rw (
  c.all_seated-bettors.ensures,
  c.all_lacking-counted.ensures,
  c.items.ensures,
  ← sum-of_start c.args.start.now (lacking c.args.start.now) c.requires,
) (right-first c.args.start.now c.requires)

pub returns-clause-at : goal.returns-clause-at
returns-clause-at c = record {
  round = rw (
    c.all_seated-bettors.ensures,
    c.all_lacking-counted.ensures,
    c.items.ensures,
    ← sum-of_start c.args.start.now (lacking c.args.start.now) c.requires,
  ) at c.start.ensures;
  before = let dead = c.antes.ensures in omega arith;
  left = refl;
  bet = refl;
  wagers = let some = lt-ltb 0 c.args.start.now.blind.big (lawful-some c.args.start.now c.requires) in rw some refl;
  right = right-first c.args.start.now c.requires;
}

pub returns-clause-ready : goal.returns-clause-ready
returns-clause-ready c = ready-start _ _ (rw (
  c.all_seated-bettors.ensures,
  c.all_lacking-counted.ensures,
  c.items.ensures,
  ← sum-of_start c.args.start.now (lacking c.args.start.now) c.requires,
) (right-first c.args.start.now c.requires)) c.start.ensures
    (let few = few-first c.args.start.now c.requires in
    rw (c.antes.ensures, c.all_seated-bettors.ensures) few) refl
    (lawful-some c.args.start.now c.requires)
    (let some = lt-ltb 0 c.args.start.now.blind.big (lawful-some c.args.start.now c.requires) in rw some refl)

pub returns-clause-there : goal.returns-clause-there
returns-clause-there c =
    ap (λ (s : Street). map is_some s.players) c.start.ensures
    ∙ somes-street _ []
    ∙ ap (map is_some) c.all_seated-bettors.ensures
    ∙ somes-made (seated c.args.start.now) (players_by_seat c.args.start.now)
