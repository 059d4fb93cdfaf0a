-- The book once two tables are balanced, and once a table broke.
use Rattle.std.proofs.Common.{◌≡◌, ◌∙◌, refl, ap, ℕ, ◌+◌, ◌≤◌, Bool, true, cond, List, [], ◌∷◌, arith}
use Rattle.std.specs.Prelude.{count_by, Some, None}
use Rattle.std.proofs.lemmas.Bool.{and_from}
use Rattle.rulebook.specs.Checks.{first_that_holds}
use Rattle.rulebook.specs.Pairs.{are_distinct}
use Rattle.rulebook.proofs.Tests.{count_by-cons, none_by_count}
use Rattle.seat_book.specs.declared.place.Place.{Place}
use Rattle.seat_book.specs.declared.seated.Seated.{Seated}
use Rattle.seat_book.specs.Seatings.{Seating}
use Rattle.seat_book.proofs.PlaceOrder.{same_place-itself}
use Rattle.balance_rule.specs.declared.balance.Move.{Move}
use Rattle.balance_rule.specs.Balance.{balance_move, after_move}
use Rattle.balance_rule.specs.Filling.{is_same_place}
use Rattle.tournament_events.specs.declared.event.Event.TheVariants.{Balance, Break}
use Rattle.tournament_rules.specs.Books.{BookState}
use Rattle.tournament_rules.specs.Checks.{book_refusal, all_balance_checks, break_checks}
use Rattle.tournament_rules.specs.Moving.{after_all}
use Rattle.tournament_rules.specs.Effects.{balanced, broken, with_table, forgotten}
use Rattle.tournament_rules.specs.Valid.{IsValid}
use Rattle.tournament_rules.proofs.Breaks.{break_passed, may_take}
use Rattle.floor_book.specs.Moves.{AreFree}

-- The refusal of a balance is that of its checks.
pub balance_refusal : (book : BookState) (from to : ℕ) → book_refusal book (Balance from to)
    ≡ first_that_holds (all_balance_checks book from to)
unfolding book_refusal
balance_refusal book from to = refl

-- The refusal of a break is that of its checks.
pub break_refusal : (book : BookState) (table : ℕ) (places : List Place) (names : List (List ℕ))
    → book_refusal book (Break table places names) ≡ first_that_holds (break_checks book table places names)
unfolding book_refusal
break_refusal book table places names = refl

-- A book whose player took the place of the move is that of the balance.
pub balanced_state : (book : BookState) (from to : ℕ) (move_ : Move) (player : Seated) (seats : Seating)
    → balance_move book.seating from to ≡ Some move_ → player.player ≡ move_.player → player.place ≡ move_.from
    → seats ≡ after_move (record { player = player.player; from = player.place; to = move_.to }) book.seating
    → record book { seating = seats; accepted = book.accepted + 1 } ≡ balanced book from to
balanced_state book from to move_ player seats moves number place after =
    let same : record { player = player.player; from = player.place; to = move_.to } ≡ move_ =
    λ i. record { player = number i; from = place i; to = move_.to } in
    let seated : seats ≡ after_move move_ book.seating = after ∙ ap (λ (o : Move). after_move o book.seating) same in
    rw moves (ap (λ (s : Seating). record book { seating = s; accepted = book.accepted + 1 }) seated)

-- A book whose players took the places of the draw is that of the break.
pub broken_state : (book : BookState) (table number : ℕ) (places : List Place) (names : List (List ℕ))
    (bare seats : Seating) → number ≡ table → bare ≡ with_table book.seating number forgotten
    → seats ≡ after_all number names places bare
    → record book { seating = seats; accepted = book.accepted + 1 } ≡ broken book table places names
broken_state book table number places names bare seats same bare_is after =
    ap (λ (s : Seating). record book { seating = s; accepted = book.accepted + 1 })
    (after ∙ (ap (after_all number names places) bare_is
    ∙ ap (λ (n : ℕ). after_all n names places (with_table book.seating n forgotten)) same))

-- Where each place comes once at most, no two are one.
apart_once : (places : List Place) → ((place : Place) → count_by (is_same_place place) places ≤ 1)
    → are_distinct is_same_place places ≡ true
apart_once [] once = refl
apart_once (first ∷ places) once =
    and_from _ _ (none_by_count (is_same_place first) places none) (apart_once places (λ place.
    let one = count_by-cons (is_same_place place) first places in
    let most = once place in
    omega (arith, one, most)))
  where
    none : count_by (is_same_place first) places ≡ 0
    none =
        let itself = ap (λ (b : Bool). cond {A = ℕ} b 1 0) (same_place-itself first) in
        let one = count_by-cons (is_same_place first) first places in
        let most = once first in
        omega (arith, itself, one, most)

-- The places of a break that is not refused are free, once the table's marks are forgotten.
pub break-free : (book : BookState) (table : ℕ) (places : List Place) (names : List (List ℕ)) → IsValid book
    → book_refusal book (Break table places names) ≡ None
    → AreFree (with_table book.seating table forgotten) places
break-free book table places names valid none =
    let may = may_take book table places names valid (break_passed book table places names none) in
    record { within = may.within; empty = may.free; apart = apart_once places may.once }
