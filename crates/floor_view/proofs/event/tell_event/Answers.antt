use Rattle.std.proofs.Common.{arith, ◌∙◌, sym}
use Rattle.std.proofs.lemmas.Grind.{common_steps}
use Rattle.std.proofs.lemmas.Result.{on_ok_weaker}
use Rattle.floor_view.specs.Turns.{act_made}
use Rattle.floor_view.proofs.Acted.{written-told}
use Rattle.floor_view.proofs.Looked.{found-nothing, found-start, found-turn, told-found}
use Rattle.floor_view.proofs.Settled.{written-settled}
use Rattle.floor_view.proofs.Taken.{spelled, written-accepted, written-refused}
use Rattle.floor_view.proofs.event.tell_event.Goals as goal

pub returns-then-not-branch-clause-told : goal.returns-then-not-branch-clause-told
returns-then-not-branch-clause-told c =
    let old = c.args.text.now.items in
    spelled c.args.who c.args.tournament.now c.args.event.now old old
    (written-refused c.args.who c.args.tournament.now c.args.event.now old
    (sym c.in_ok-take_event.ensures.accepted ∙ c.if-not-branch.true))

pub push_turn-requires-clause-before : goal.push_turn-requires-clause-before
push_turn-requires-clause-before c =
    (told-found c.args.tournament.now c.take_event.new.tournament c.args.event.now c.in-Turn.table c.in-Turn.turn
    c.requires.valid
    (found-turn c.args.tournament.now c.args.event.now c.in_ok-before.before c.in-Turn.table c.in-Turn.turn
    c.in_ok-before.ensures c.in-Turn.is)
    (sym c.in_ok-take_event.ensures.accepted ∙ c.if-not-branch.false) c.in_ok-take_event.ensures.state).before

pub push_turn-requires-clause-left : goal.push_turn-requires-clause-left
push_turn-requires-clause-left c =
    (told-found c.args.tournament.now c.take_event.new.tournament c.args.event.now c.in-Turn.table c.in-Turn.turn
    c.requires.valid
    (found-turn c.args.tournament.now c.args.event.now c.in_ok-before.before c.in-Turn.table c.in-Turn.turn
    c.in_ok-before.ensures c.in-Turn.is)
    (sym c.in_ok-take_event.ensures.accepted ∙ c.if-not-branch.false) c.in_ok-take_event.ensures.state).left

pub returns-in-Turn-clause-told : goal.returns-in-Turn-clause-told
returns-in-Turn-clause-told c =
    let who = c.args.who in
    let state = c.args.tournament.now in
    let after = c.take_event.new.tournament in
    let event = c.args.event.now in
    let table = c.in-Turn.table in
    let old = c.args.text.now.items in
    let new = c.push_turn.new.text.items in
    let found = found-turn state event c.in_ok-before.before table c.in-Turn.turn c.in_ok-before.ensures c.in-Turn.is in
    let taken = sym c.in_ok-take_event.ensures.accepted ∙ c.if-not-branch.false in
    let told = told-found state after event table c.in-Turn.turn c.requires.valid found taken
    c.in_ok-take_event.ensures.state in
    on_ok_weaker c.push_turn.result
    (λ written. spelled who state event old new
    (written-accepted who state after event old new taken c.in_ok-take_event.ensures.state
    (written-told who state after table event c.in-Turn.turn told old new found.here
    (written who told.hand (act_made event told.hand) told.now told.turn_is))))
    c.push_turn.ensures.told

pub push_settled-requires : goal.push_settled-requires
push_settled-requires c =
    (found-start c.args.tournament.now c.args.event.now c.in_ok-before.before c.in-Start.start c.in_ok-before.ensures
    c.in-Start.is).lawful

pub returns-in-Start-clause-told : goal.returns-in-Start-clause-told
returns-in-Start-clause-told c =
    let who = c.args.who in
    let state = c.args.tournament.now in
    let after = c.take_event.new.tournament in
    let event = c.args.event.now in
    let start = c.in-Start.start in
    let old = c.args.text.now.items in
    let new = c.push_settled.new.text.items in
    let found = found-start state event c.in_ok-before.before start c.in_ok-before.ensures c.in-Start.is in
    let taken = sym c.in_ok-take_event.ensures.accepted ∙ c.if-not-branch.false in
    on_ok_weaker c.push_settled.result
    (λ written. spelled who state event old new
    (written-settled who state after found.table event start old new c.requires.valid found.settle taken
    c.in_ok-take_event.ensures.state found.began written))
    c.push_settled.ensures.told

pub push_after-requires : goal.push_after-requires
push_after-requires c =
    found-nothing c.args.tournament.now c.args.event.now c.in_ok-before.before c.in_ok-before.ensures c.in-Nothing.is
    (sym c.in_ok-take_event.ensures.accepted ∙ c.if-not-branch.false)

pub returns-clause-told : goal.returns-clause-told
returns-clause-told c =
    let who = c.args.who in
    let state = c.args.tournament.now in
    let event = c.args.event.now in
    let old = c.args.text.now.items in
    let new = c.push_after.new.text.items in
    on_ok_weaker c.push_after.result
    (λ written. spelled who state event old new
    (written-accepted who state c.take_event.new.tournament event old new
    (sym c.in_ok-take_event.ensures.accepted ∙ c.if-not-branch.false) c.in_ok-take_event.ensures.state
    (written state)))
    c.push_after.ensures.told

pub returns-in_err-before-clause-kept : goal.returns-in_err-before-clause-kept
returns-in_err-before-clause-kept c = grind (arith, common_steps)

pub returns-in_err-take_event-clause-kept : goal.returns-in_err-take_event-clause-kept
returns-in_err-take_event-clause-kept c = grind (arith, common_steps)

pub returns-then-not-branch-clause-kept : goal.returns-then-not-branch-clause-kept
returns-then-not-branch-clause-kept c = grind (arith, common_steps)
