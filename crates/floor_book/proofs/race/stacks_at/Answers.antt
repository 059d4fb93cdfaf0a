use Rattle.std.proofs.Common.{◌≡◌, ◌∙◌, ◌<◌, ◌++◌, sym, ap, ℕ, List, [], ◌∷◌, take, drop, set, get_or, arith}
use Rattle.rulebook.proofs.Rewrites.{written-next}
use Rattle.tournament_rules.specs.Racing.{stacks_at}
use Rattle.tournament_rules.proofs.BySeats.{stacks-at}
use Rattle.floor_book.proofs.race.stacks_at.Goals as goal

pub loop-below-preserved : goal.loop-below-preserved
loop-below-preserved c =
    let seats = c.args.seats.now in
    let below = c.loop-below.below in
    let stacks = stacks_at seats.players c.args.table in
    let zeros : List ℕ = 0 ∷ 0 ∷ 0 ∷ 0 ∷ 0 ∷ 0 ∷ 0 ∷ 0 ∷ 0 ∷ 0 ∷ [] in
    let within : below < 10 = omega (arith, c.loop-below-test.true) in
    let stack : c.stack_in.result ≡ get_or stacks below 0 =
    c.stack_in.ensures ∙ sym (stacks-at seats.players c.args.table below within) in
    ap (λ (index : ℕ). set c.loop-below.stacks index c.stack_in.result) c.from.ensures
    ∙ written-next stacks zeros c.loop-below.stacks below c.stack_in.result 0 c.loop-below.invariant within within stack

pub returns : goal.returns
returns c =
    let seats = c.args.seats.now in
    let all : c.loop-below.below ≡ 10 = omega (arith, c.loop-below-test.false) in
    let stacks = stacks_at seats.players c.args.table in
    let zeros : List ℕ = 0 ∷ 0 ∷ 0 ∷ 0 ∷ 0 ∷ 0 ∷ 0 ∷ 0 ∷ 0 ∷ 0 ∷ [] in
    c.loop-below.invariant ∙ ap (λ (n : ℕ). take n stacks ++ drop n zeros) all
