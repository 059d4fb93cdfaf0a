use Rattle.std.proofs.lemmas.Grind.{common_steps}
use Rattle.std.proofs.Common.{◌≡◌, ◌≢◌, ◌∙◌, sym, subst, ◌<◌, ℕ, true, false, ◌==◌, List, length, get_or, arith}
use Rattle.std.proofs.lemmas.Bool.{eq-eqb}
use Rattle.std.proofs.lemmas.Bool.Decides.{nat_tests}
use Rattle.table_engine.specs.declared.start.StartSeat.{StartSeat}
use Rattle.table_engine.specs.Plays.{recorded_hand}
use Rattle.floor_book.proofs.GoingOut.{is_broke, bust_first, bust_next, stay_next, next_leaves, stack_at}
use Rattle.floor_book.proofs.bust.bust_players.Goals as goal
use Rattle.floor_book.proofs.bust.bust_players.Goals.{then-stacks-index-eq0, else-stacks-index-eq0}

pub loop-index-init : goal.loop-index-init
loop-index-init c = bust_first c.args.done.now.start.seats (is_broke (recorded_hand c.args.done.now)) c.args.group
    c.args.seats.now c.args.busts.now c.requires.may

pub bust-requires : goal.bust-requires
bust-requires c =
    let within = subst (λ (players : List StartSeat). c.loop-index.index < length players) c.items-players.ensures
    c.loop-index-test.true in
    let here = subst (λ (players : List StartSeat). c.index-players-index.result ≡ get_or players c.loop-index.index
    c.index-players-index.result) c.items-players.ensures c.index-players-index.is in
    let leaves = next_leaves c.args.done.now.start.seats (is_broke (recorded_hand c.args.done.now)) c.args.group
    c.args.seats.now c.loop-index.seats c.args.busts.now c.loop-index.busts c.loop-index.index
    c.index-players-index.result c.requires.may c.loop-index.invariant within here in
    record { entry = grind (arith, common_steps); sits = leaves.sits; room = leaves.room; once = leaves.new }

is_nothing : (stack after : ℕ) → stack ≡ after → stack ≡ 0 → (after == 0) ≡ true
is_nothing stack after same none = eq-eqb after 0 (sym same ∙ none)

is_something : (stack after : ℕ) → stack ≡ after → stack ≢ 0 → (after == 0) ≡ false
is_something stack after same some = grind (arith, nat_tests)

pub loop-index-preserved : goal.loop-index-preserved
loop-index-preserved c =
    let starters = c.args.done.now.start.seats in
    let hand = recorded_hand c.args.done.now in
    let player = c.index-players-index.result in
    let within = subst (λ (players : List StartSeat). c.loop-index.index < length players) c.items-players.ensures
    c.loop-index-test.true in
    let here = subst (λ (players : List StartSeat). player ≡ get_or players c.loop-index.index player)
    c.items-players.ensures c.index-players-index.is in
    let his = stack_at hand c.items-stacks.result.now c.loop-index.index player
    (c.items-stacks.ensures ∙ c.requires.play.stacks) within here in
    elim c.if-stacks-index-eq0.branch [
      | then-stacks-index-eq0 w ↦ bust_next starters (is_broke hand) c.args.group c.args.seats.now c.loop-index.seats
          c.if-stacks-index-eq0.seats c.args.busts.now c.loop-index.busts c.if-stacks-index-eq0.busts
          c.loop-index.index player c.requires.may c.loop-index.invariant within here
          (is_nothing _ _ his w.if-stacks-index-eq0.true) (w.seats-is ∙ w.bust.ensures.seats)
          (w.busts-is ∙ w.bust.ensures.busts)
      | else-stacks-index-eq0 w ↦ rw (w.seats-is, w.busts-is) (stay_next starters (is_broke hand) c.args.group
          c.args.seats.now c.loop-index.seats c.args.busts.now c.loop-index.busts c.loop-index.index player
          c.loop-index.invariant within here (is_something _ _ his w.if-stacks-index-eq0.false))
    ]

pub returns-clause-busts : goal.returns-clause-busts
returns-clause-busts c = grind (arith, common_steps)

pub returns-clause-seats : goal.returns-clause-seats
returns-clause-seats c = grind (arith, common_steps)
