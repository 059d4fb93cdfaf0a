use Rattle.std.proofs.Common.{◌≡◌, ◌∙◌, ℕ, ◌+◌, ◌<◌, List, ◌∷◌, length, get_or, drop, suc, sym, ap, add-one, drop-cons}
use Rattle.std.specs.Prelude.{Option, Some, None, slice_get, option_map}
use Rattle.seat_book.specs.declared.seated.Seated.{Seated}
use Rattle.seat_book.specs.Players.{players_in}
use Rattle.floor_book.proofs.report.first_number.Goals as goal

-- the players in the slots from an index on are the one in the slot there and those behind it
players_from : (slots : List (Option Seated)) (i : ℕ) (fallback slot : Option Seated) → i < length slots
    → get_or slots i fallback ≡ slot → players_in (drop i slots) ≡ players_in (slot ∷ drop (i + 1) slots)
players_from slots i fallback slot within is =
    let slots_from : drop i slots ≡ slot ∷ drop (i + 1) slots =
    rw (add-one, drop-cons slots i fallback) (ap (λ (s : Option Seated). s ∷ drop (suc i) slots) is) in
    ap players_in slots_from

pub loop-slot-preserved : goal.loop-slot-preserved
loop-slot-preserved c = c.loop-slot.invariant
    ∙ players_from c.args.slots.now c.loop-slot.slot-index c.slot-item.result None c.loop-slot-test.true
    (sym c.slot-item.is ∙ c.in_default.is)

pub returns-in-Some : goal.returns-in-Some
returns-in-Some c =
    let players = c.loop-slot.invariant
    ∙ players_from c.args.slots.now c.loop-slot.slot-index c.slot-item.result (Some c.in-Some.player)
    c.loop-slot-test.true (sym c.slot-item.is ∙ c.in-Some.is) in
    sym (ap (λ (seated : List Seated). option_map (λ player. player.player) (slice_get seated 0)) players)
