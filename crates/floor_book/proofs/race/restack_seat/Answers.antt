use Rattle.std.proofs.Common.{◌≡◌, ◌∙◌, refl, sym, ap, false, List}
use Rattle.std.specs.Prelude.{Option, Some, None, is_some, option_map}
use Rattle.seat_book.specs.declared.seated.Seated.{Seated}
use Rattle.seat_book.specs.Players.{player_at}
use Rattle.floor_book.proofs.Raced.{with_stack-nobody}
use Rattle.floor_book.proofs.race.restack_seat.Goals as goal

none_read : {A B : Type 0} (f : A → B) (found : Option A) → is_some (option_map f found) ≡ false → found ≡ None
none_read f None none = refl
none_read f (Some x) none = absurd cc

pub returns-else-is_some : goal.returns-else-is_some
returns-else-is_some c =
    let seats = c.args.seats.now in
    let nobody : player_at seats.players c.args.place ≡ None =
    none_read (λ (seated : Seated). (seated.player, seated.name, seated.stack)) (player_at seats.players c.args.place)
    (sym (ap is_some c.at.ensures.player) ∙ (sym c.is_some.ensures ∙ c.if-is_some.false)) in
    ap (λ (players : List Seated). record seats { players = players })
    (sym (with_stack-nobody seats.players c.args.place c.args.stack nobody))
