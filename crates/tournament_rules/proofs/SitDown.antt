-- What holds of a seating once a player sits down in a free seat.
use Rattle.std.proofs.Common.{◌≡◌, ◌∙◌, refl, sym, ap, subst, ℕ, suc, Bool, true, false, cond, ◌==◌, ◌&&◌, List, [], ◌∷◌, take, drop, arith}
use Rattle.std.specs.Prelude.{not, count_by, Some, None}
use Rattle.std.specs.List.{list_all}
use Rattle.std.proofs.lemmas.Bool.{and_parts, and_from}
use Rattle.std.proofs.lemmas.Bool.Decides.{nat_tests}
use Rattle.std.proofs.lemmas.List.Folds.{list_all-map}
use Rattle.std.proofs.lemmas.List.{take-append-drop}
use Rattle.rulebook.specs.Pairs.{is_pairwise}
use Rattle.seat_book.specs.declared.seated.Seated.{Seated}
use Rattle.seat_book.specs.Places.{comes_before}
use Rattle.seat_book.specs.Players.{sits_in, is_numbered, player_at, sit_down, are_in_order, are_apart}
use Rattle.seat_book.specs.Seatings.{Seating, IsSeating, sits_within, is_entry}
use Rattle.rulebook.proofs.Pairs.{is_pairwise-between}
use Rattle.rulebook.proofs.Passing.{count_by-none}
use Rattle.rulebook.proofs.Tests.{eqb-swap, count_by-cons, list_all-follows}
use Rattle.seat_book.proofs.PlaceOrder.{before-back, before-before}
use Rattle.tournament_rules.proofs.Insertions.{list_all-insert, is_pairwise-insert}

-- The place of a player comes before that of another.
abbrev pub sits_before : Seated → Seated → Bool
sits_before one other = comes_before one.place other.place

-- A player has another number than another.
abbrev pub differs : Seated → Seated → Bool
differs one other = not (is_numbered one.player other)

-- The order of the players as a test of each with each later one.
pub in_order-pairs : (players : List Seated) → are_in_order players ≡ is_pairwise sits_before players
in_order-pairs [] = refl
in_order-pairs (player ∷ players) = rw
    (list_all-map (comes_before player.place) (λ (other : Seated). other.place) players, in_order-pairs players) refl

-- That no two players have one number, as such a test.
pub apart-pairs : (players : List Seated) → are_apart players ≡ is_pairwise differs players
apart-pairs [] = refl
apart-pairs (player ∷ players) = rw (apart-pairs players) refl

-- a place is before another, or after it, or it is that place
after_other : (a b x y : ℕ) → ((a == x) && (b == y)) ≡ false
    → comes_before (record { table = a; seat = b }) (record { table = x; seat = y }) ≡ false
    → comes_before (record { table = x; seat = y }) (record { table = a; seat = b }) ≡ true
after_other a b x y differ late = grind (arith, nat_tests)

-- whoever comes before a player comes before all who come after that one
before_later : (new first : Seated) (players : List Seated) → sits_before new first ≡ true
    → list_all (sits_before first) players ≡ true → list_all (sits_before new) players ≡ true
before_later new first players before later =
    list_all-follows (sits_before first) (sits_before new) players
    (λ next is. before-before new.place.table new.place.seat first.place.table first.place.seat next.place.table
    next.place.seat before is) later

-- nobody who comes after a player counts as before him
none_back : (new : Seated) (players : List Seated) → list_all (sits_before new) players ≡ true
    → count_by (λ other. sits_before other new) players ≡ 0
none_back new players later =
    count_by-none (λ other. sits_before other new) players
    (list_all-follows (sits_before new) (λ other. not (sits_before other new)) players
    (λ next is. ap not (before-back new.place.table new.place.seat next.place.table next.place.seat is)) later)

free_first : (new first : Seated) (players : List Seated) → player_at (first ∷ players) new.place ≡ None
    → (sits_in new.place first ≡ false) × (player_at players new.place ≡ None)
free_first new first players free = by_test (sits_in new.place first) free
  where
    by_test : (sits : Bool) → cond sits (Some first) (player_at players new.place) ≡ None
        → (sits ≡ false) × (player_at players new.place ≡ None)
    by_test true free = cc
    by_test false free = (refl, free)

-- A new player in a free seat parts those who sit before him from those who sit after him.
pub record Parts (new : Seated) (players : List Seated) (count : ℕ) : Type 0 where
  pub before : list_all (λ other. sits_before other new) (take count players) ≡ true
  pub after : list_all (sits_before new) (drop count players) ≡ true

parts-step : (new first : Seated) (players : List Seated) (b : Bool) → sits_before first new ≡ b
    → list_all (sits_before first) players ≡ true → sits_in new.place first ≡ false
    → Parts new players (count_by (λ other. sits_before other new) players)
    → Parts new (first ∷ players) (count_by (λ other. sits_before other new) (first ∷ players))
parts-step new first players true is later free parts =
    let one = count_by-cons (λ other. sits_before other new) first players in
    let here = ap (λ (b : Bool). cond {A = ℕ} b 1 0) is in
    let next : suc (count_by (λ other. sits_before other new) players) ≡ count_by (λ other. sits_before other new)
    (first ∷ players) = omega (arith, one, here) in
    subst (λ (n : ℕ). Parts new (first ∷ players) n) next
    (record { before = and_from _ _ is parts.before; after = parts.after })
parts-step new first players false is later free parts =
    let behind = after_other first.place.table first.place.seat new.place.table new.place.seat free is in
    let all = before_later new first players behind later in
    let one = count_by-cons (λ other. sits_before other new) first players in
    let here = ap (λ (b : Bool). cond {A = ℕ} b 1 0) is in
    let none : 0 ≡ count_by (λ other. sits_before other new) (first ∷ players) = omega
    (arith, one, here, none_back new players all) in
    subst (λ (n : ℕ). Parts new (first ∷ players) n) none (record { before = refl; after = and_from _ _ behind all })

parted : (new : Seated) (players : List Seated) → is_pairwise sits_before players ≡ true
    → player_at players new.place ≡ None → Parts new players (count_by (λ other. sits_before other new) players)
parted new [] ordered free = record { before = refl; after = refl }
parted new (first ∷ players) ordered free =
    let parts = and_parts (list_all (sits_before first) players) (is_pairwise sits_before players) ordered in
    let frees = free_first new first players free in
    parts-step new first players (sits_before first new) refl parts.0 frees.0 (parted new players parts.1 frees.1)

-- A player who sits down in a free seat leaves the players in order.
pub in_order-sit_down : (new : Seated) (players : List Seated) → are_in_order players ≡ true
    → player_at players new.place ≡ None → are_in_order (sit_down new players) ≡ true
in_order-sit_down new players ordered free =
    let pairs = sym (in_order-pairs players) ∙ ordered in
    let count = count_by (λ other. sits_before other new) players in
    let parts = parted new players pairs free in
    in_order-pairs (sit_down new players)
    ∙ is_pairwise-between sits_before (take count players) new (drop count players)
    (rw (take-append-drop count players) pairs) parts.before parts.after

other_way : (new : Seated) (players : List Seated) → list_all (differs new) players ≡ true
    → list_all (λ other. differs other new) players ≡ true
other_way new players all =
    list_all-follows (differs new) (λ other. differs other new) players
    (λ player is. ap not (eqb-swap new.player player.player) ∙ is) all

-- A player with a new number leaves the numbers apart.
pub apart-sit_down : (new : Seated) (players : List Seated) → are_apart players ≡ true
    → list_all (differs new) players ≡ true → are_apart (sit_down new players) ≡ true
apart-sit_down new players apart differ =
    apart-pairs (sit_down new players)
    ∙ is_pairwise-insert differs players (count_by (λ other. sits_before other new) players) new
    (sym (apart-pairs players) ∙ apart) (other_way new players differ) differ

-- A seating once a player with a new number sits down in a free seat.
pub seating-sit_down : (seating : Seating) (new : Seated) → IsSeating seating
    → sits_within seating.table_count seating.seat_count new ≡ true → is_entry new ≡ true
    → player_at seating.players new.place ≡ None → list_all (differs new) seating.players ≡ true
    → IsSeating (record seating { players = sit_down new seating.players })
seating-sit_down seating new lawful within entry free differ = record {
  some_tables = lawful.some_tables;
  most_tables = lawful.most_tables;
  some_seats = lawful.some_seats;
  most_seats = lawful.most_seats;
  tables = lawful.tables;
  statuses = lawful.statuses;
  within = list_all-insert
      (sits_within seating.table_count seating.seat_count) seating.players _ new lawful.within within;
  ordered = in_order-sit_down new seating.players lawful.ordered free;
  entries = list_all-insert is_entry seating.players _ new lawful.entries entry;
  apart = apart-sit_down new seating.players lawful.apart differ;
}
