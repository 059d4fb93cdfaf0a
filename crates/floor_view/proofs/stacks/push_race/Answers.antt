use Rattle.std.proofs.Common.{◌≡◌, ◌∙◌, List, ap, map}
use Rattle.std.proofs.lemmas.Result.{on_ok_weaker}
use Rattle.seat_book.specs.declared.seated.Seated.{Seated}
use Rattle.seat_book.specs.Players.{players_at}
use Rattle.seat_book.specs.Seatings.{Seating}
use Rattle.tournament_rules.specs.States.{players_of}
use Rattle.view_rules.specs.Lines.{stack_at_rest}
use Rattle.floor_view.proofs.Listed.{players-seated, written-raced}
use Rattle.floor_view.proofs.stacks.push_race.Goals as goal

pub returns-clause-told : goal.returns-clause-told
returns-clause-told c =
    let state = c.args.tournament.now in
    let listed : c.deref.result.now ≡ map stack_at_rest (players_at (players_of state) c.args.table)
    = c.deref.ensures.value
    ∙ (c.in_ok-stacks.ensures
    ∙ ap (λ (players : List Seated). map stack_at_rest players)
    (c.slots_at.ensures
    ∙ ap (λ (players : List Seated). players_at players c.args.table)
    (ap (λ (seating : Seating). seating.players) c.seats.ensures.seats ∙ players-seated state.play))) in
    on_ok_weaker c.push_floor_lines.result
    (λ written who before. written-raced who before state c.args.table c.args.event.now c.deref.result.now
    c.args.text.now.items c.push_floor_lines.new.out.items c.requires listed written)
    c.push_floor_lines.ensures.ok
