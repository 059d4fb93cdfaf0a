-- No two orders are both the first by the rule.
use Rattle.std.proofs.Common.{◌≡◌, ◌∙◌, refl, sym, ap, subst, ℕ, List, Option, Some, None, inl, inr, arith}
use Rattle.std.proofs.lemmas.Bool.{both_ways, cases_lt}
use Rattle.std.proofs.lemmas.Option.{same_Some}
use Rattle.seat_book.specs.declared.place.Place.{Place}
use Rattle.seat_book.specs.Counts.{is_open}
use Rattle.seat_book.specs.Seatings.{Seating}
use Rattle.balance_rule.specs.Filling.{fill_seats, names_at}
use Rattle.balance_rule.specs.Moves.{IsLawfulMove}
use Rattle.balance_rule.specs.Moves.{Balance as ByBalance, Break as ByBreak}
use Rattle.break_draw.specs.declared.random.DrawKind.TheVariants.{Seats, Names}
use Rattle.break_draw.specs.Generator.{drawn_order}
use Rattle.tournament_events.specs.declared.event.Event.{Event}
use Rattle.tournament_events.specs.declared.event.Event.TheVariants as events
use Rattle.floor_director.specs.Owed.{IsNextOrder, IsOwedBalance, IsOwedBreak}

-- two tables that break lawfully are one
one-last : (seating : Seating) (table other : ℕ) (seats others : List Place) (names more : List (List ℕ))
    → IsLawfulMove seating (ByBreak table seats names) → IsLawfulMove seating (ByBreak other others more)
    → table ≡ other
one-last seating table other seats others names more one two = elim (cases_lt table other) [
  | inl higher ↦ absurd (both_ways (is_open seating.players other)
      (one.lawful.last other two.lawful.free.number higher) two.lawful.free.opened)
  | inr no_higher ↦
      elim (cases_lt other table) [
        | inl lower ↦ absurd (both_ways (is_open seating.players table)
            (two.lawful.last table one.lawful.free.number lower) one.lawful.free.opened)
        | inr no_lower ↦ omega (arith, no_higher, no_lower)
      ]
]

one-break : (seating : Seating) (seed : List ℕ) (number table other : ℕ) (seats others : List Place)
    (names more : List (List ℕ)) → IsOwedBreak seating seed number table seats names
    → IsOwedBreak seating seed number other others more
    → Some (events.Break table seats names) ≡ Some (events.Break other others more)
one-break seating seed number table other seats others names more one two =
    let same = one-last seating table other seats others names more one.lawful two.lawful in
    let chosen = same_Some one.fill.0 two.fill.0
    (sym one.fill.1.0 ∙ (ap (fill_seats seating) same ∙ two.fill.1.0)) in
    let places = one.fill.1.1 ∙ (ap (drawn_order seed Seats number) chosen ∙ sym two.fill.1.1) in
    let players = one.players
    ∙ (ap (λ (n : ℕ). drawn_order seed Names number (names_at seating n)) same ∙ sym two.players) in
    λ i. Some (events.Break (same i) (places i) (players i))

one-balance : (seating : Seating) (from to other another : ℕ) → IsOwedBalance seating from to
    → IsOwedBalance seating other another → Some (events.Balance from to) ≡ Some (events.Balance other another)
one-balance seating from to other another one two =
    let low = one.lowest_from other another two.lawful.0 two.lawful.1 in
    let high = two.lowest_from from to one.lawful.0 one.lawful.1 in
    let same : from ≡ other = omega (arith, low, high) in
    let low_to = one.lowest_to another two.lawful.0
    (subst (λ (n : ℕ). IsLawfulMove seating (ByBalance n another two.lawful.0)) (sym same) two.lawful.1) in
    let high_to = two.lowest_to to one.lawful.0
    (subst (λ (n : ℕ). IsLawfulMove seating (ByBalance n to one.lawful.0)) same one.lawful.1) in
    let same_to : to ≡ another = omega (arith, low_to, high_to) in
    λ i. Some (events.Balance (same i) (same_to i))

-- No two orders are both the first by the rule.
pub one-order : (seating : Seating) (seed : List ℕ) (number : ℕ) (one other : Option Event)
    → IsNextOrder seating seed number one → IsNextOrder seating seed number other → one ≡ other
one-order seating seed number None None is also = refl
one-order seating seed number None (Some (events.Break table seats names)) is also =
    absurd (is (ByBreak table seats names) also.lawful)
one-order seating seed number None (Some (events.Balance from to)) is also =
    absurd (is (ByBalance from to also.lawful.0) also.lawful.1)
one-order seating seed number None (Some _) is also = absurd also
one-order seating seed number (Some (events.Break table seats names)) None is also =
    absurd (also (ByBreak table seats names) is.lawful)
one-order seating seed number (Some (events.Break table seats names)) (Some (events.Break other others more)) is also =
    one-break seating seed number table other seats others names more is also
one-order seating seed number (Some (events.Break table seats names)) (Some (events.Balance from to)) is also =
    absurd (also.no_break table seats names is.lawful)
one-order seating seed number (Some (events.Break table seats names)) (Some _) is also = absurd also
one-order seating seed number (Some (events.Balance from to)) None is also =
    absurd (also (ByBalance from to is.lawful.0) is.lawful.1)
one-order seating seed number (Some (events.Balance from to)) (Some (events.Break table seats names)) is also =
    absurd (is.no_break table seats names also.lawful)
one-order seating seed number (Some (events.Balance from to)) (Some (events.Balance other another)) is also =
    one-balance seating from to other another is also
one-order seating seed number (Some (events.Balance from to)) (Some _) is also = absurd also
one-order seating seed number (Some _) other is also = absurd is
