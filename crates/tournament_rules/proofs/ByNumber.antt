-- Who is found by his number is found in his place.
use Rattle.std.proofs.Common.{◌≡◌, ◌∙◌, refl, sym, ap, subst, ℕ, Bool, true, false, cond, List, [], ◌∷◌, arith}
use Rattle.std.specs.Prelude.{not, Option, Some, None, option_map}
use Rattle.std.specs.List.{list_all}
use Rattle.std.proofs.lemmas.Bool.{and_parts, eqb-true, not-true}
use Rattle.std.proofs.lemmas.Bool.Decides.{nat_tests}
use Rattle.std.proofs.lemmas.Option.{same_Some}
use Rattle.rulebook.proofs.Passing.{map-fixed, none-find}
use Rattle.seat_book.specs.declared.place.Place.{Place}
use Rattle.seat_book.specs.declared.seated.Seated.{Seated}
use Rattle.seat_book.specs.Places.{comes_before, are_rising}
use Rattle.seat_book.specs.Players.{sits_in, is_numbered, player_of, place_of, with_stack, places_of, are_in_order, are_apart}
use Rattle.seat_book.proofs.PlaceOrder.{before-apart, before-other}
use Rattle.table_engine.specs.declared.start.StartSeat.{StartSeat}
use Rattle.tournament_rules.specs.Players.{with_rest, pay_one}

-- who sits in his place sits there
pub sits_there : (player : Seated) → sits_in player.place player ≡ true
sits_there player = grind (arith, nat_tests)

-- nobody of a list sits in a place that comes before all of theirs
none_in : (place : Place) (stack : ℕ) (players : List Seated) → list_all (comes_before place) (places_of players)
    ≡ true → with_stack place stack players ≡ players
none_in place stack [] later = refl
none_in place stack (player ∷ players) later =
    let parts = and_parts (comes_before place player.place) (list_all (comes_before place) (places_of players)) later in
    rw (before-other place.table place.seat player.place.table player.place.seat parts.0)
    (ap (◌∷◌ player) (none_in place stack players parts.1))

-- nobody of a list has a number that none of them has
none_numbered : (payee : StartSeat) (players : List Seated)
    → list_all (λ other. not (is_numbered payee.player other)) players ≡ true → pay_one players payee ≡ players
none_numbered payee players others =
    map-fixed (λ (other : Seated). not (is_numbered payee.player other))
    (λ player. cond (is_numbered payee.player player) (with_rest player payee.stack) player) players
    (λ player differs. ap (λ (b : Bool). cond b (with_rest player payee.stack) player)
    (not-true (is_numbered payee.player player) differs)) others

-- the place of a number is later than one that comes before all places
place_later : (place found : Place) (number : ℕ) (players : List Seated)
    → list_all (comes_before place) (places_of players) ≡ true → place_of players number ≡ Some found
    → comes_before place found ≡ true
place_later place found number [] later is = absurd cc
place_later place found number (player ∷ players) later is =
    let parts = and_parts (comes_before place player.place) (list_all (comes_before place) (places_of players)) later in
    by_test (is_numbered number player) refl parts.0 (λ (more : place_of players number ≡ Some found). place_later
    place found number players parts.1 more)
  where
    by_test : (b : Bool) → is_numbered number player ≡ b → comes_before place player.place ≡ true
        → (place_of players number ≡ Some found → comes_before place found ≡ true) → comes_before place found ≡ true
    by_test true his before rest =
        let here : player.place ≡ found = same_Some player.place found (rw his at is) in
        rw (← here) before
    by_test false his before rest = rest (rw his at is)

-- the first of a list is paid in his place
first_paid : (player : Seated) (players : List Seated) (payee : StartSeat) → is_numbered payee.player player ≡ true
    → list_all (comes_before player.place) (places_of players) ≡ true → pay_one players payee ≡ players
    → with_stack player.place payee.stack (player ∷ players) ≡ pay_one (player ∷ players) payee
first_paid player players payee his later nobody =
    let tail : with_stack player.place payee.stack players
    ≡ pay_one players payee = none_in player.place payee.stack players later ∙ sym nobody in
    rw (sits_there player, his) (ap (◌∷◌ (with_rest player payee.stack)) tail)

-- Where no two have one place or one number, who is found by his number is paid in his place.
pub paid_in_place : (players : List Seated) (payee : StartSeat) (place : Place) → are_in_order players ≡ true
    → are_apart players ≡ true → place_of players payee.player ≡ Some place → with_stack place payee.stack players
    ≡ pay_one players payee
paid_in_place [] payee place ordered apart found = absurd cc
paid_in_place (player ∷ players) payee place ordered apart found =
    let order = and_parts (list_all (comes_before player.place) (places_of players)) (are_rising (places_of players))
    ordered in
    let others = and_parts (list_all (λ other. not (is_numbered player.player other)) players) (are_apart players)
    apart in
    by_test (is_numbered payee.player player) refl order.0 others.0
    (λ (more : place_of players payee.player ≡ Some place). paid_in_place players payee place order.1 others.1 more)
  where
    by_test : (b : Bool) → is_numbered payee.player player ≡ b
        → list_all (comes_before player.place) (places_of players) ≡ true
        → list_all (λ other. not (is_numbered player.player other)) players ≡ true
        → (place_of players payee.player ≡ Some place → with_stack place payee.stack players ≡ pay_one players payee)
        → with_stack place payee.stack (player ∷ players) ≡ pay_one (player ∷ players) payee
    by_test true his later others rest =
        let here : player.place ≡ place = same_Some player.place place (rw his at found) in
        let number : player.player ≡ payee.player = eqb-true player.player payee.player his in
        let nobody = none_numbered payee players (rw number at others) in
        subst (λ (place : Place). with_stack place payee.stack (player ∷ players) ≡ pay_one (player ∷ players) payee)
        here (first_paid player players payee his later nobody)
    by_test false his later others rest =
        let behind = place_later player.place place payee.player players later (rw his at found) in
        let away = before-apart player.place.table player.place.seat place.table place.seat behind in
        rw (away, his) (ap (◌∷◌ player) (rest (rw his at found)))

-- Where nobody has the number, nobody is paid.
pub paid_nobody : (players : List Seated) (payee : StartSeat) → place_of players payee.player ≡ None
    → pay_one players payee ≡ players
paid_nobody players payee none =
    none_numbered payee players (none-find (is_numbered payee.player) players
    (by_found (player_of players payee.player) none))
  where
    by_found : (found : Option Seated) → option_map (λ (seated : Seated). seated.place) found ≡ None → found ≡ None
    by_found None none = refl
    by_found (Some player) none = absurd cc
