-- The players divided at a place: who comes before it, who sits there, if one does, and who comes after it.
use Rattle.std.proofs.Common.{◌≡◌, ◌∙◌, refl, sym, ap, ℕ, suc, ◌+◌, ◌<◌, Bool, true, false, cond, List, ◌∷◌, ◌++◌, length, map, take, drop, set, get_or, Option, None, Some, arith, length-take, length-drop, drop-cons}
use Rattle.std.specs.Prelude.{not, count_by, insert}
use Rattle.std.specs.List.{list_all, cons_option}
use Rattle.std.proofs.lemmas.List.{take-append-drop, set_split, take_at, drop_at, map-append}
use Rattle.std.proofs.lemmas.List.Elements.{filter-append, filter_map-append}
use Rattle.std.proofs.lemmas.List.Sums.{sum_by-append}
use Rattle.std.proofs.lemmas.List.Folds.{find-append}
use Rattle.rulebook.proofs.Tests.{list_all-follows}
use Rattle.seat_book.specs.declared.place.Place.{Place}
use Rattle.seat_book.specs.declared.seated.Seated.{Seated}
use Rattle.seat_book.specs.Places.{comes_before, IsPlaceOf}
use Rattle.seat_book.specs.Players.{players_in, sits_in, is_numbered, player_at, sit_down, lifted, with_stack}
use Rattle.seat_book.specs.Kept.{slot_of, AllStand}
use Rattle.seat_book.proofs.PlaceOrder.{before-apart, before-other, before-back}
use Rattle.seat_book.proofs.AllStand.{stand-take, stand-drop, list_all-stand, stands-before, stands-after}
use Rattle.rulebook.proofs.Passing.{count_by-all, count_by-none, find-none, filter-all, map-fixed}

-- the players in the slots before one
abbrev pub front_of : ℕ → List (Option Seated) → List Seated
front_of slot slots = players_in (take slot slots)

-- the players in the slots after one
abbrev pub back_of : ℕ → List (Option Seated) → List Seated
back_of slot slots = players_in (drop (suc slot) slots)

-- the players are those before a slot, the one in it, and those after it
pub players_in-split : (slot : ℕ) (slots : List (Option Seated)) → slot < length slots
    → players_in slots ≡ front_of slot slots ++ cons_option (get_or slots slot None) (back_of slot slots)
players_in-split slot slots within =
    let parts : take slot slots ++ (get_or slots slot None ∷ drop (suc slot) slots) ≡ slots = rw
    (← drop-cons slots slot None within) (take-append-drop slot slots) in
    ap players_in (sym parts) ∙ filter_map-append (λ slot. slot) (take slot slots)
    (get_or slots slot None ∷ drop (suc slot) slots)

-- the same once a slot is written
pub players_in-set : (slot : ℕ) (slots : List (Option Seated)) (new : Option Seated) → slot < length slots
    → players_in (set slots slot new) ≡ front_of slot slots ++ cons_option new (back_of slot slots)
players_in-set slot slots new within =
    ap players_in (set_split slots slot new within) ∙ filter_map-append (λ slot. slot) (take slot slots)
    (new ∷ drop (suc slot) slots)

-- A place stands between those in front of it and those behind it.
pub record StandsBetween (place : Place) (front back : List Seated) : Type 0 where
  pub before : list_all (λ other. comes_before other.place place) front ≡ true
  pub after : list_all (λ other. comes_before place other.place) back ≡ true

-- a place stands between the players in the slots before its own and those in the slots after it
pub stands-between : (tables seats : ℕ) (slots : List (Option Seated)) (place : Place) → IsPlaceOf tables seats place
    → AllStand seats 0 slots → slot_of seats place < length slots
    → StandsBetween place (front_of (slot_of seats place) slots) (back_of (slot_of seats place) slots)
stands-between tables seats slots place at stand within = record {
  before = list_all-stand (λ other. comes_before other.place place) seats 0 (slot_of seats place) 0
      (take (slot_of seats place) slots)
      (λ slot other low high stands. stands-before tables seats slot place other at high stands)
      (stand-take seats 0 (slot_of seats place) slots stand) (omega arith)
      (omega (arith, length-take (slot_of seats place) slots));
  after = list_all-stand (λ other. comes_before place other.place) seats (suc (slot_of seats place)) (length slots)
      (0 + suc (slot_of seats place)) (drop (suc (slot_of seats place)) slots)
      (λ slot other low high stands. stands-after tables seats slot place other at low stands)
      (stand-drop seats 0 (suc (slot_of seats place)) slots stand) (omega arith)
      (omega (arith, length-drop (suc (slot_of seats place)) slots));
}

-- nobody in front of a place sits in it
none_front : (place : Place) (front : List Seated) → list_all (λ other. comes_before other.place place) front ≡ true
    → list_all (λ seated. not (sits_in place seated)) front ≡ true
none_front place front before =
    list_all-follows (λ other. comes_before other.place place) (λ seated. not (sits_in place seated)) front
    (λ other is. ap not (before-apart other.place.table other.place.seat place.table place.seat is)) before

-- nobody behind a place sits in it
none_back : (place : Place) (back : List Seated) → list_all (λ other. comes_before place other.place) back ≡ true
    → list_all (λ seated. not (sits_in place seated)) back ≡ true
none_back place back after =
    list_all-follows (λ other. comes_before place other.place) (λ seated. not (sits_in place seated)) back
    (λ other is. ap not (before-other place.table place.seat other.place.table other.place.seat is)) after

-- nobody sits in a place where its slot is empty
pub player_at-empty : (place : Place) (front back : List Seated) → StandsBetween place front back
    → player_at (front ++ back) place ≡ None
player_at-empty place front back between =
    find-append (sits_in place) front back
    ∙ rw (
      find-none (sits_in place) front (none_front place front between.before),
      find-none (sits_in place) back
          (none_back place back between.after),
    ) refl

-- who is in its slot sits in a place
pub player_at-there : (place : Place) (front back : List Seated) (seated : Seated) → StandsBetween place front back
    → sits_in place seated ≡ true → player_at (front ++ seated ∷ back) place ≡ Some seated
player_at-there place front back seated between sits =
    find-append (sits_in place) front (seated ∷ back)
    ∙ rw (find-none (sits_in place) front (none_front place front between.before), sits) refl

-- who sits down comes between those before and those after
pub sit_down-between : (seated : Seated) (front back : List Seated) → StandsBetween seated.place front back
    → sit_down seated (front ++ back) ≡ front ++ seated ∷ back
sit_down-between seated front back between =
    let behind = list_all-follows (λ (other : Seated). comes_before seated.place other.place)
    (λ (other : Seated). not (comes_before other.place seated.place)) back
    (λ other is. ap not (before-back seated.place.table seated.place.seat other.place.table other.place.seat is))
    between.after in
    let first : count_by (λ (other : Seated). comes_before other.place seated.place) front ≡ length front =
    count_by-all (λ (other : Seated). comes_before other.place seated.place) front between.before in
    let none : count_by (λ (other : Seated). comes_before other.place seated.place) back ≡ 0 = count_by-none
    (λ (other : Seated). comes_before other.place seated.place) back behind in
    let parts = sum_by-append (λ (other : Seated). cond (comes_before other.place seated.place) 1 0) front back in
    let count : count_by (λ (other : Seated). comes_before other.place seated.place) (front ++ back) ≡ length front =
    omega (arith, first, none, parts) in
    ap (λ (n : ℕ). insert (front ++ back) n seated) count
    ∙ insert-between seated front back
  where
    insert-between : (seated : Seated) (front back : List Seated)
        → insert (front ++ back) (length front) seated ≡ front ++ seated ∷ back
    insert-between seated front back = rw (
      take_at front back (length front) refl,
      drop_at front back (length front)
          refl,
    ) refl

-- who sits in a place gets the stack, and all others keep theirs
pub with_stack-there : (place : Place) (stack : ℕ) (front back : List Seated) (seated : Seated)
    → StandsBetween place front back → sits_in place seated ≡ true
    → with_stack place stack (front ++ seated ∷ back) ≡ front ++ (record seated { stack = stack }) ∷ back
with_stack-there place stack front back seated between sits =
    map-append (λ seated. cond (sits_in place seated) (record seated { stack = stack }) seated) front (seated ∷ back)
    ∙ rw (kept front (none_front place front between.before), kept back (none_back place back between.after), sits) refl
  where
    stays : (seated : Seated) → not (sits_in place seated) ≡ true
        → cond (sits_in place seated) (record seated { stack = stack }) seated ≡ seated
    stays seated is = stays_by (sits_in place seated) is
      where
        stays_by : (b : Bool) → not b ≡ true → cond b (record seated { stack = stack }) seated ≡ seated
        stays_by true is = absurd cc
        stays_by false is = refl

    kept : (others : List Seated) → list_all (λ seated. not (sits_in place seated)) others ≡ true
        → map (λ seated. cond (sits_in place seated) (record seated { stack = stack }) seated) others ≡ others
    kept others none = map-fixed (λ seated. not (sits_in place seated))
        (λ seated. cond (sits_in place seated) (record seated { stack = stack }) seated) others stays none

-- who is lifted leaves those before and those after
pub lifted-between : (number : ℕ) (front back : List Seated) (seated : Seated)
    → list_all (λ other. not (is_numbered number other)) front ≡ true
    → list_all (λ other. not (is_numbered number other)) back ≡ true
    → is_numbered number seated ≡ true → lifted number (front ++ seated ∷ back) ≡ front ++ back
lifted-between number front back seated front_none back_none is =
    filter-append (λ other. not (is_numbered number other)) front (seated ∷ back)
    ∙ rw (
      filter-all (λ other. not (is_numbered number other)) front front_none,
      is,
      filter-all
          (λ other. not (is_numbered number other)) back back_none,
    ) refl
