-- What changes of a table leave as it was at all tables.
use Rattle.std.proofs.Common.{◌≡◌, ◌∙◌, refl, ap, subst, ℕ, zero, suc, ◌<◌, ◌≤◌, Bool, false, List, [], ◌∷◌, length, get_or, arith}
use Rattle.std.specs.Prelude.{◌||◌, find, slice_set, Option, Some, None, is_some}
use Rattle.std.specs.List.{list_any}
use Rattle.std.specs.Option.{option_map_or}
use Rattle.std.proofs.lemmas.List.{get_or_default}
use Rattle.std.proofs.lemmas.List.Folds.{list_any_none}
use Rattle.seat_book.specs.declared.place.Place.{Place}
use Rattle.seat_book.specs.declared.seated.Seated.{Seated}
use Rattle.seat_book.specs.declared.table_status.TableStatus.{TableStatus}
use Rattle.seat_book.specs.Counts.{table_numbers}
use Rattle.seat_book.specs.Tables.{fresh_status, status_at, with_status}
use Rattle.seat_book.specs.Seatings.{Seating}
use Rattle.balance_rule.specs.declared.balance.Move.{Move}
use Rattle.balance_rule.specs.Balance.{after_move}
use Rattle.floor_director.proofs.FirstTables.{IsFirst, tables-first}
use Rattle.tournament_rules.specs.Moving.{after_all, move_of}
use Rattle.tournament_rules.specs.Units.{is_due}

-- Where one table stands otherwise, each table keeps what the change keeps.
pub key-with_status : {K : Type 0} (key : TableStatus → K) (change : TableStatus → TableStatus)
    → ((status : TableStatus) → key (change status) ≡ key status) → (tables : List TableStatus) (at table : ℕ)
    → key (status_at (with_status tables at (change (status_at tables at))) table) ≡ key (status_at tables table)
key-with_status key change same tables zero table = refl
key-with_status key change same tables (suc below) zero = refl
key-with_status key change same tables (suc below) (suc other) = by_list tables below other
  where
    by_list : (tables : List TableStatus) (below other : ℕ)
        → key (get_or (slice_set tables below (change (get_or tables below fresh_status))) other fresh_status)
        ≡ key (get_or tables other fresh_status)
    by_list [] below other = refl
    by_list (status ∷ tables) zero zero = same status
    by_list (status ∷ tables) zero (suc other) = refl
    by_list (status ∷ tables) (suc below) zero = refl
    by_list (status ∷ tables) (suc below) (suc other) = by_list tables below other

-- Where the change keeps the race, a race is pending at some table just where one was.
pub pending-with_status : (change : TableStatus → TableStatus)
    → ((status : TableStatus) → (change status).race ≡ status.race) → (tables : List TableStatus) (at : ℕ)
    → list_any is_due (with_status tables at (change (status_at tables at))) ≡ list_any is_due tables
pending-with_status change same tables zero = refl
pending-with_status change same tables (suc below) = by_list tables below
  where
    by_list : (tables : List TableStatus) (below : ℕ)
        → list_any is_due (slice_set tables below (change (get_or tables below fresh_status)))
        ≡ list_any is_due tables
    by_list [] below = refl
    by_list (status ∷ tables) zero =
        ap (λ (race : Option ℕ). is_some race || list_any is_due tables) (same status)
    by_list (status ∷ tables) (suc below) = ap (λ (b : Bool). is_due status || b) (by_list tables below)

-- A move of a player, if one is made, keeps what does not depend on the players.
pub key-moved : {K : Type 0} (key : Seating → K)
    → ((seating : Seating) (players : List Seated) → key (record seating { players = players }) ≡ key seating)
    → (seating : Seating) (found : Option Move)
    → key (option_map_or (λ move_. after_move move_ seating) found seating) ≡ key seating
key-moved key same seating None = refl
key-moved key same seating (Some move_) = same seating _

-- So do players who take places.
pub key-after_all : {K : Type 0} (key : Seating → K)
    → ((seating : Seating) (players : List Seated) → key (record seating { players = players }) ≡ key seating)
    → (table : ℕ) (names : List (List ℕ)) (places : List Place) (seating : Seating)
    → key (after_all table names places seating) ≡ key seating
key-after_all key same table [] places seating = refl
key-after_all key same table (name ∷ names) [] seating = refl
key-after_all key same table (name ∷ names) (place ∷ places) seating =
    key-after_all key same table names places _ ∙ key-moved key same seating (move_of seating table name place)

-- Where no table of the numbers has a race, none is pending.
pub none_pending : (tables : List TableStatus) (count : ℕ) → length tables ≡ count
    → find (λ table. is_some (status_at tables table).race) (table_numbers count) ≡ None
    → list_any is_due tables ≡ false
none_pending tables count size none =
    list_any_none is_due tables (λ k d within.
    ap is_due (get_or_default tables k d fresh_status within) ∙ passed (suc k) (omega arith) (omega arith))
  where
    passed : (other : ℕ) → 0 < other → other ≤ count → is_some (status_at tables other).race ≡ false
    passed = subst (IsFirst (λ table. is_some (status_at tables table).race) 0 count) none
        (tables-first (λ table. is_some (status_at tables table).race) count)
