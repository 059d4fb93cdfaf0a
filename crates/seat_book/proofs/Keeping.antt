-- What each call writes keeps what holds of a seat book's fields.
use Rattle.std.proofs.Common.{◌≡◌, ◌≢◌, ◌∙◌, refl, sym, ap, subst, ℕ, zero, suc, ◌+◌, ◌-◌, ◌*◌, ◌<◌, ◌≤◌, Bool, true, false, cond, ◌==◌, List, [], ◌∷◌, ◌++◌, length, take, drop, replicate, set, get_or, Option, None, Some, inl, inr, arith, length-take, length-set, get_or-set_same, get_or-set_other}
use Rattle.std.specs.Prelude.{not, find, option_map}
use Rattle.std.specs.List.{list_all}
use Rattle.std.proofs.lemmas.Bool.{and_from, and_parts, cases_eq, eqb-true, eq-eqb, ne_eqb, lt-ltb, ltb-true}
use Rattle.std.proofs.lemmas.List.{length-replicate, get_or_read, set_split, get_or-replicate}
use Rattle.rulebook.specs.Limits.{most_entries}
use Rattle.rulebook.proofs.Repeats.{get_or-repeated}
use Rattle.rulebook.proofs.Tests.{find-all}
use Rattle.seat_book.specs.declared.place.Place.{Place}
use Rattle.seat_book.specs.declared.seated.Seated.{Seated}
use Rattle.seat_book.specs.declared.table_status.TableStatus.{TableStatus}
use Rattle.seat_book.specs.Places.{IsTableOf, IsPlaceOf}
use Rattle.seat_book.specs.Players.{players_in, sits_in, is_numbered, player_at, player_of, place_of, sit_down, lifted, with_stack, are_apart}
use Rattle.seat_book.specs.Counts.{count_at}
use Rattle.seat_book.specs.Tables.{fresh_status, status_at, IsStatusOf}
use Rattle.seat_book.specs.Seatings.{is_entry, IsSeating}
use Rattle.seat_book.specs.Kept.{slot_of, StandsIn, AllStand, IsKept}
use Rattle.seat_book.proofs.AllStand.{stand-empty, stand-moved, stand-take, stand-drop, stand-append, stand-ordered}
use Rattle.rulebook.proofs.Passing.{none-find}
use Rattle.seat_book.proofs.Splits.{front_of, back_of, players_in-split, players_in-set, stands-between, sit_down-between, lifted-between, with_stack-there}
use Rattle.seat_book.proofs.Numbers.{have_not, list_all-parts, list_all-joined, apart-insert, apart-remove, place_of-with, place_of-without, count_at-with}
use Rattle.seat_book.proofs.Rows.{count_at-most}
use Rattle.seat_book.proofs.Slots.{slot-within, stands-at, stands-sits, slot-has, all-within, slot-numbered}

-- what holds of the fields makes a seating
pub IsSeating-kept : {tables seats : ℕ} {slots : List (Option Seated)} {places : List (Option Place)}
    {counts : List ℕ} {statuses : List TableStatus} (hands : Bool) → IsKept tables seats slots places counts statuses
    → IsSeating (record {
      table_count = tables;
      seat_count = seats;
      players = players_in slots;
      tables = statuses;
      hands = hands;
    })
IsSeating-kept {tables} {seats} {slots} {places} {counts} {statuses} hands kept = record {
  some_tables = kept.some_tables;
  most_tables = kept.most_tables;
  some_seats = kept.some_seats;
  most_seats = kept.most_seats;
  tables = kept.standing;
  statuses = kept.lawful;
  within = all-within tables seats slots kept.stand kept.room;
  ordered = stand-ordered seats 0 slots kept.stand;
  entries = kept.entries;
  apart = kept.apart;
}

-- where what is kept of a table is
pub table-bound : {tables seats table : ℕ} {slots : List (Option Seated)} {places : List (Option Place)}
    {counts : List ℕ} {statuses : List TableStatus} → IsKept tables seats slots places counts statuses
    → IsTableOf tables table
    → (table - 1 < length counts) × (table - 1 < length statuses)
table-bound {tables} {seats} {table} {slots} {places} {counts} {statuses} kept at =
    let first : 1 ≤ table = at.first in
    let last : table ≤ tables = at.last in
    let counted : length counts ≡ tables = kept.counted in
    let standing : length statuses ≡ tables = kept.standing in
    (omega (arith, first, last, counted), omega (arith, first, last, standing))

-- the kept count of a table is its count, and no more than it has seats
pub count-kept : {tables seats table : ℕ} {slots : List (Option Seated)} {places : List (Option Place)}
    {counts : List ℕ} {statuses : List TableStatus} (index count : ℕ)
    → IsKept tables seats slots places counts statuses → IsTableOf tables table
    → index ≡ table - 1 → count ≡ get_or counts index count → (count ≡ get_or counts (table - 1) 0)
    × (count ≡ count_at (players_in slots) table) × (count ≤ seats)
count-kept {tables} {seats} {table} {slots} {places} {counts} {statuses} index count kept at same read =
    let bound = table-bound kept at in
    let within : index < length counts = omega (arith, same, bound.0) in
    let here : count ≡ get_or counts (table - 1) 0 = get_or_read counts index count within read 0
    ∙ ap (λ (n : ℕ). get_or counts n 0) same in
    let counted : count ≡ count_at (players_in slots) table = here ∙ kept.full table at in
    let most = count_at-most tables seats table slots kept.stand kept.room at in
    (here, counted, omega (arith, counted, most))

-- the slot of a place has the player who sits there, if one does
pub slot-kept : (tables seats : ℕ) (slots : List (Option Seated)) (places : List (Option Place)) (counts : List ℕ)
    (statuses : List TableStatus) (place : Place)
    → IsKept tables seats slots places counts statuses → IsPlaceOf tables seats place
    → get_or slots (slot_of seats place) None ≡ player_at (players_in slots) place
slot-kept tables seats slots places counts statuses place kept at =
    let bound = slot-within tables seats place at in
    let room : length slots ≡ tables * seats = kept.room in
    slot-has tables seats slots place at kept.stand (omega (arith, bound, room))

-- the slot of a place is there
pub slot-bound : {tables seats : ℕ} {slots : List (Option Seated)} {places : List (Option Place)} {counts : List ℕ}
    {statuses : List TableStatus} {place : Place}
    → IsKept tables seats slots places counts statuses → IsPlaceOf tables seats place
    → slot_of seats place < length slots
slot-bound {tables} {seats} {slots} {places} {counts} {statuses} {place} kept at =
    let bound = slot-within tables seats place at in
    let room : length slots ≡ tables * seats = kept.room in
    omega (arith, bound, room)

-- a slot that is read has the player who sits there, if one does
pub slot-read : {tables seats : ℕ} {slots : List (Option Seated)} {places : List (Option Place)} {counts : List ℕ}
    {statuses : List TableStatus} {place : Place} (slot : ℕ) (read : Option Seated)
    → IsKept tables seats slots places counts statuses → IsPlaceOf tables seats place → slot ≡ slot_of seats place
    → read ≡ get_or slots slot read
    → (player_at (players_in slots) place ≡ read) × (get_or slots (slot_of seats place) None ≡ read)
slot-read {tables} {seats} {slots} {places} {counts} {statuses} {place} slot read kept at same is =
    let bound = slot-bound kept at in
    let within : slot < length slots = omega (arith, same, bound) in
    let here : get_or slots (slot_of seats place) None ≡ read = sym
    (get_or_read slots slot read within is None ∙ ap (λ (n : ℕ). get_or slots n None) same) in
    (sym (slot-kept tables seats slots places counts statuses place kept at) ∙ here, here)

-- a player who is found is an entry
pub entry-found : (players : List Seated) (place : Place) (seated : Seated) → list_all is_entry players ≡ true
    → player_at players place ≡ Some seated → seated.player < most_entries
entry-found players place seated entries is = ltb-true seated.player most_entries
    (find-all (sits_in place) is_entry players seated is entries)

-- what is kept of a number: the player, his place, and the slot that has him
pub found-number : {tables seats : ℕ} {slots : List (Option Seated)} {places : List (Option Place)} {counts : List ℕ}
    {statuses : List TableStatus} {number : ℕ} {place : Place}
    → IsKept tables seats slots places counts statuses → number < most_entries → get_or places number None ≡ Some place
    → (seated : Seated) × ((player_of (players_in slots) number ≡ Some seated) × (seated.place ≡ place) × IsPlaceOf
    tables seats place × (get_or slots (slot_of seats place) None ≡ Some seated))
found-number {tables} {seats} {slots} {places} {counts} {statuses} {number} {place} kept entry is = by_found
    (player_of (players_in slots) number) refl (sym (kept.found number entry) ∙ is)
  where
    at_place : (seated : Seated) → player_of (players_in slots) number ≡ Some seated → seated.place ≡ place
        → IsPlaceOf tables seats place × (get_or slots (slot_of seats place) None ≡ Some seated)
    at_place seated found same =
        subst (λ (place : Place). IsPlaceOf tables seats place
        × (get_or slots (slot_of seats place) None ≡ Some seated)) same
        (slot-numbered tables seats number slots seated kept.stand kept.room found)

    by_found : (found : Option Seated) → player_of (players_in slots) number ≡ found
        → option_map (λ seated. seated.place) found ≡ Some place
        → (seated : Seated) × ((player_of (players_in slots) number ≡ Some seated) × (seated.place ≡ place) ×
        IsPlaceOf tables seats place × (get_or slots (slot_of seats place) None ≡ Some seated))
    by_found None found same = absurd cc
    by_found (Some seated) found same = let here : seated.place ≡ place = cc in let slot = at_place seated found
        here in (seated, (found, here, slot.0, slot.1))

-- a slot that is written with one who stands there, or with nobody
stand-set : (seats slot : ℕ) (slots : List (Option Seated)) (new : Option Seated) → slot < length slots
    → AllStand seats 0 slots → AllStand seats slot (new ∷ []) → AllStand seats 0 (set slots slot new)
stand-set seats slot slots new within stand here =
    let size : 0 + length (take slot slots) ≡ slot = omega (arith, length-take slot slots) in
    rw (set_split slots slot new within) (stand-append seats 0 (take slot slots) (new ∷ drop (suc slot) slots)
    (stand-take seats 0 slot slots stand)
    (rw size (with_new new here)))
  where
    rest : AllStand seats (suc slot) (drop (suc slot) slots)
    rest = stand-moved seats (0 + suc slot) (suc slot) (drop (suc slot) slots) (omega arith)
        (stand-drop seats 0 (suc slot) slots stand)

    with_new : (new : Option Seated) → AllStand seats slot (new ∷ [])
        → AllStand seats slot (new ∷ drop (suc slot) slots)
    with_new None here = rest
    with_new (Some seated) here = (here.0, rest)

-- nobody who sits has the number of one whose place is not found
pub numbers-none : (number : ℕ) (players : List Seated) → place_of players number ≡ None
    → have_not number players ≡ true
numbers-none number players none = none-find (is_numbered number) players
    (by_found (find (is_numbered number) players) none)
  where
    by_found : (found : Option Seated) → option_map (λ seated. seated.place) found ≡ None → found ≡ None
    by_found None none = refl
    by_found (Some seated) none = absurd cc

-- the counts once one more sits at a table
counts-more : (tables table other : ℕ) (counts : List ℕ) (was now : ℕ) → length counts ≡ tables
    → IsTableOf tables table → IsTableOf tables other → get_or counts (other - 1) 0 ≡ was
    → now ≡ cond (table == other) 1 0 + was → get_or (set counts (table - 1) (get_or counts (table - 1) 0 + 1))
    (other - 1) 0 ≡ now
counts-more tables table other counts was now size at there is_was is_now =
    elim (cases_eq table other) [
      | inl same ↦
          let first : 1 ≤ table = at.first in
          let last : table ≤ tables = at.last in
          let within : table - 1 < length counts = omega (arith, first, last, size) in
          let one : now ≡ 1 + was = is_now ∙ ap (λ (b : Bool). cond {A = ℕ} b 1 0 + was) (eq-eqb table other same) in
          let old : get_or counts (table - 1) 0 ≡ was = ap (λ (n : ℕ). get_or counts (n - 1) 0) same ∙ is_was in
          ap (λ (n : ℕ). get_or (set counts (table - 1) (get_or counts (table - 1) 0 + 1)) (n - 1) 0) (sym same)
          ∙ (get_or-set_same counts (table - 1) (get_or counts (table - 1) 0 + 1) 0 within ∙ omega (arith, old, one))
      | inr apart ↦
          let first : 1 ≤ table = at.first in
          let other_first : 1 ≤ other = there.first in
          let differ : other - 1 ≢ table - 1 = λ same. apart (omega (arith, first, other_first, same)) in
          let none : now ≡ 0 + was = is_now ∙ ap (λ (b : Bool). cond {A = ℕ} b 1 0 + was) (ne_eqb table other apart) in
          get_or-set_other counts (table - 1) (other - 1) (get_or counts (table - 1) 0 + 1) 0 differ
          ∙ omega (arith, is_was, none)
    ]

-- the counts once one less sits at a table
counts-less : (tables table other : ℕ) (counts : List ℕ) (was now : ℕ) → length counts ≡ tables
    → IsTableOf tables table → IsTableOf tables other → get_or counts (other - 1) 0 ≡ was
    → was ≡ cond (table == other) 1 0 + now → get_or (set counts (table - 1) (get_or counts (table - 1) 0 - 1))
    (other - 1) 0 ≡ now
counts-less tables table other counts was now size at there is_was is_now =
    elim (cases_eq table other) [
      | inl same ↦
          let first : 1 ≤ table = at.first in
          let last : table ≤ tables = at.last in
          let within : table - 1 < length counts = omega (arith, first, last, size) in
          let one : was ≡ 1 + now = is_now ∙ ap (λ (b : Bool). cond {A = ℕ} b 1 0 + now) (eq-eqb table other same) in
          let old : get_or counts (table - 1) 0 ≡ was = ap (λ (n : ℕ). get_or counts (n - 1) 0) same ∙ is_was in
          ap (λ (n : ℕ). get_or (set counts (table - 1) (get_or counts (table - 1) 0 - 1)) (n - 1) 0) (sym same)
          ∙ (get_or-set_same counts (table - 1) (get_or counts (table - 1) 0 - 1) 0 within ∙ omega (arith, old, one))
      | inr apart ↦
          let first : 1 ≤ table = at.first in
          let other_first : 1 ≤ other = there.first in
          let differ : other - 1 ≢ table - 1 = λ same. apart (omega (arith, first, other_first, same)) in
          let none : was ≡ 0 + now = is_now ∙ ap (λ (b : Bool). cond {A = ℕ} b 1 0 + now) (ne_eqb table other apart) in
          get_or-set_other counts (table - 1) (other - 1) (get_or counts (table - 1) 0 - 1) 0 differ
          ∙ omega (arith, is_was, none)
    ]

-- the kept places once one of them is written
places-set : (places : List (Option Place)) (player number : ℕ) (new was now : Option Place)
    → length places ≡ most_entries
    → player < most_entries → get_or places number None ≡ was
    → now ≡ cond (player == number) new was → get_or (set places player new) number None ≡ now
places-set places player number new was now size entry is_was is_now =
    elim (cases_eq player number) [
      | inl same ↦
          let within : player < length places = omega (arith, size, entry) in
          ap (λ (n : ℕ). get_or (set places player new) n None) (sym same)
          ∙ (get_or-set_same places player new None within
          ∙ sym (is_now ∙ ap (λ (b : Bool). cond b new was) (eq-eqb player number same)))
      | inr apart ↦
          let differ : number ≢ player = λ same. apart (sym same) in
          get_or-set_other places player number new None differ
          ∙ (is_was ∙ sym (is_now ∙ ap (λ (b : Bool). cond b new was) (ne_eqb player number apart)))
    ]

-- the players when one sits down
pub players-seated : (tables seats : ℕ) (slots : List (Option Seated)) (seated : Seated) → AllStand seats 0 slots
    → length slots ≡ tables * seats → IsPlaceOf tables seats seated.place
    → player_at (players_in slots) seated.place ≡ None
    → (players_in slots ≡ front_of (slot_of seats seated.place) slots ++ back_of (slot_of seats seated.place) slots)
    × (players_in (set slots (slot_of seats seated.place) (Some seated)) ≡ front_of (slot_of seats seated.place) slots
    ++ seated ∷ back_of (slot_of seats seated.place) slots)
    × (players_in (set slots (slot_of seats seated.place) (Some seated)) ≡ sit_down seated (players_in slots))
players-seated tables seats slots seated stand room at empty =
    let slot = slot-within tables seats seated.place at in
    let within : slot_of seats seated.place < length slots = omega (arith, slot, room) in
    let none : get_or slots (slot_of seats seated.place) None ≡ None = slot-has tables seats slots seated.place at
    stand within ∙ empty in
    let was : players_in slots ≡ front_of (slot_of seats seated.place) slots ++ back_of (slot_of seats seated.place)
    slots = rw none at (players_in-split (slot_of seats seated.place) slots within) in
    let now = players_in-set (slot_of seats seated.place) slots (Some seated) within in
    let between = stands-between tables seats slots seated.place at stand within in (
      was,
      now,
      now ∙ sym (ap (sit_down seated) was ∙ sit_down-between seated
          (front_of (slot_of seats seated.place) slots) (back_of (slot_of seats seated.place) slots) between),
    )

-- the fields when a player sits down
pub kept-seated : (tables seats : ℕ) (slots : List (Option Seated)) (places : List (Option Place)) (counts : List ℕ)
    (statuses : List TableStatus) (seated : Seated)
    → IsKept tables seats slots places counts statuses → IsPlaceOf tables seats seated.place
    → seated.player < most_entries
    → player_at (players_in slots) seated.place ≡ None → place_of (players_in slots) seated.player ≡ None
    → IsKept tables seats (set slots (slot_of seats seated.place) (Some seated))
    (set places seated.player (Some seated.place)) (set counts (seated.place.table - 1)
    (get_or counts (seated.place.table - 1) 0 + 1)) statuses
kept-seated tables seats slots places counts statuses seated kept at entry empty stands =
    let slot = slot_of seats seated.place in
    let front = front_of slot slots in
    let back = back_of slot slots in
    let bound = slot-within tables seats seated.place at in
    let room : length slots ≡ tables * seats = kept.room in
    let within : slot < length slots = omega (arith, bound, room) in
    let parts = players-seated tables seats slots seated kept.stand kept.room at empty in
    let was : players_in slots ≡ front ++ back = parts.0 in
    let now : players_in (set slots slot (Some seated)) ≡ front ++ seated ∷ back = parts.1 in
    let absent = list_all-parts (λ other. not (is_numbered seated.player other)) front back
    (rw was at (numbers-none seated.player (players_in slots) stands)) in
    let entries = list_all-parts is_entry front back (rw was at kept.entries) in
    record {
      some_tables = kept.some_tables;
      most_tables = kept.most_tables;
      some_seats = kept.some_seats;
      most_seats = kept.most_seats;
      room = length-set slots slot (Some seated) ∙ kept.room;
      stand = stand-set seats slot slots (Some seated) within kept.stand
          (record { table = at.table.first; first = at.first; last = at.last; here = refl }, tt);
      entries = rw now (list_all-joined is_entry front (seated ∷ back) entries.0
          (and_from (is_entry seated) (list_all is_entry back) (lt-ltb seated.player most_entries entry) entries.1));
      apart = rw now (apart-insert front back seated (rw was at kept.apart) absent.0 absent.1);
      numbers = length-set places seated.player (Some seated.place) ∙ kept.numbers;
      found = λ number less. places-set places seated.player number (Some seated.place)
          (place_of (players_in slots) number) (place_of (players_in (set slots slot (Some seated))) number)
          kept.numbers entry (kept.found number less)
          (rw (now, was) (place_of-with number front back seated absent.0));
      counted = length-set counts (seated.place.table - 1) (get_or counts (seated.place.table - 1) 0 + 1)
          ∙ kept.counted;
      full = λ table there. counts-more tables seated.place.table table counts (count_at (players_in slots) table)
          (count_at (players_in (set slots slot (Some seated))) table) kept.counted at.table there
          (kept.full table there)
          (rw (now, was) (count_at-with table front back seated));
      standing = kept.standing;
      lawful = kept.lawful;
    }

-- the players when one is lifted out of the slot of his place
pub players-lifted : (tables seats : ℕ) (slots : List (Option Seated)) (seated : Seated) → AllStand seats 0 slots
    → length slots ≡ tables * seats → IsPlaceOf tables seats seated.place → are_apart (players_in slots) ≡ true
    → get_or slots (slot_of seats seated.place) None ≡ Some seated
    → (players_in slots ≡ front_of (slot_of seats seated.place) slots ++ seated ∷ back_of (slot_of seats seated.place)
    slots)
    × (players_in (set slots (slot_of seats seated.place) None) ≡ front_of (slot_of seats seated.place) slots ++
    back_of (slot_of seats seated.place) slots)
    × (players_in (set slots (slot_of seats seated.place) None) ≡ lifted seated.player (players_in slots))
players-lifted tables seats slots seated stand room at apart is =
    let slot = slot_of seats seated.place in
    let front = front_of slot slots in
    let back = back_of slot slots in
    let bound = slot-within tables seats seated.place at in
    let within : slot < length slots = omega (arith, bound, room) in
    let was : players_in slots ≡ front ++ seated ∷ back = rw is at (players_in-split slot slots within) in
    let now : players_in (set slots slot None) ≡ front ++ back = players_in-set slot slots None within in
    let absent = apart-remove front back seated (rw was at apart) in (
      was,
      now,
      now ∙ sym (ap (lifted seated.player) was ∙ lifted-between seated.player front back seated absent.1
          absent.2 (eq-eqb seated.player seated.player refl)),
    )

-- the fields when a player is lifted
pub kept-lifted : (tables seats : ℕ) (slots : List (Option Seated)) (places : List (Option Place)) (counts : List ℕ)
    (statuses : List TableStatus) (seated : Seated)
    → IsKept tables seats slots places counts statuses → IsPlaceOf tables seats seated.place
    → seated.player < most_entries
    → get_or slots (slot_of seats seated.place) None ≡ Some seated
    → IsKept tables seats (set slots (slot_of seats seated.place) None) (set places seated.player None)
    (set counts (seated.place.table - 1) (get_or counts (seated.place.table - 1) 0 - 1)) statuses
kept-lifted tables seats slots places counts statuses seated kept at entry is =
    let slot = slot_of seats seated.place in
    let front = front_of slot slots in
    let back = back_of slot slots in
    let bound = slot-within tables seats seated.place at in
    let room : length slots ≡ tables * seats = kept.room in
    let within : slot < length slots = omega (arith, bound, room) in
    let parts = players-lifted tables seats slots seated kept.stand kept.room at kept.apart is in
    let was : players_in slots ≡ front ++ seated ∷ back = parts.0 in
    let now : players_in (set slots slot None) ≡ front ++ back = parts.1 in
    let absent = apart-remove front back seated (rw was at kept.apart) in
    let entries = list_all-parts is_entry front (seated ∷ back) (rw was at kept.entries) in
    let rest = and_parts (is_entry seated) (list_all is_entry back) entries.1 in
    record {
      some_tables = kept.some_tables;
      most_tables = kept.most_tables;
      some_seats = kept.some_seats;
      most_seats = kept.most_seats;
      room = length-set slots slot None ∙ kept.room;
      stand = stand-set seats slot slots None within kept.stand tt;
      entries = rw now (list_all-joined is_entry front back entries.0 rest.1);
      apart = rw now absent.0;
      numbers = length-set places seated.player None ∙ kept.numbers;
      found = λ number less. places-set places seated.player number None (place_of (players_in slots) number)
          (place_of (players_in (set slots slot None)) number) kept.numbers entry (kept.found number less)
          (rw (now, was) (place_left number front back absent.1 absent.2));
      counted = length-set counts (seated.place.table - 1) (get_or counts (seated.place.table - 1) 0 - 1)
          ∙ kept.counted;
      full = λ table there. counts-less tables seated.place.table table counts (count_at (players_in slots) table)
          (count_at (players_in (set slots slot None)) table) kept.counted at.table there (kept.full table there)
          (rw (now, was) (count_at-with table front back seated));
      standing = kept.standing;
      lawful = kept.lawful;
    }
  where
    place_left : (number : ℕ) (front back : List Seated) → have_not seated.player front ≡ true
        → have_not seated.player back ≡ true
        → place_of (front ++ back) number ≡ cond (seated.player == number) None
        (place_of (front ++ seated ∷ back) number)
    place_left number front back front_none back_none = by_number (seated.player == number) refl
      where
        by_number : (b : Bool) → (seated.player == number) ≡ b
            → place_of (front ++ back) number ≡ cond b None (place_of (front ++ seated ∷ back) number)
        by_number true same = place_of-without number front back
            (ap (λ (n : ℕ). have_not n front) (sym (eqb-true seated.player number same)) ∙ front_none)
            (ap (λ (n : ℕ). have_not n back) (sym (eqb-true seated.player number same)) ∙ back_none)
        by_number false apart = sym (place_of-with number front back seated front_none ∙ rw apart refl)

-- the players when one gets a stack
pub players-stacked : (tables seats stack : ℕ) (slots : List (Option Seated)) (place : Place) (seated : Seated)
    → AllStand seats 0 slots → length slots ≡ tables * seats → IsPlaceOf tables seats place
    → get_or slots (slot_of seats place) None ≡ Some seated
    → (players_in slots ≡ front_of (slot_of seats place) slots ++ seated ∷ back_of (slot_of seats place) slots)
    × (players_in (set slots (slot_of seats place) (Some (record seated { stack = stack }))) ≡ front_of
    (slot_of seats place) slots ++ (record seated { stack = stack }) ∷ back_of (slot_of seats place) slots)
    × (players_in (set slots (slot_of seats place) (Some (record seated { stack = stack }))) ≡ with_stack place stack
    (players_in slots))
players-stacked tables seats stack slots place seated stand room at is =
    let slot = slot_of seats place in
    let bound = slot-within tables seats place at in
    let within : slot < length slots = omega (arith, bound, room) in
    let was : players_in slots ≡ front_of slot slots ++ seated ∷ back_of slot slots = rw is at
    (players_in-split slot slots within) in
    let now = players_in-set slot slots (Some (record seated { stack = stack })) within in
    let between = stands-between tables seats slots place at stand within in
    let stands : StandsIn seats slot seated = let zero_more : 0 + slot ≡ slot = omega arith in rw zero_more at
    (stands-at seats 0 slot slots seated stand is) in (
      was,
      now,
      now ∙ sym (ap (with_stack place stack) was
          ∙ with_stack-there place stack (front_of slot slots) (back_of slot slots) seated between
          (stands-sits tables seats place seated at stands)),
    )

-- the fields when a player gets a stack
pub kept-stacked : (tables seats stack : ℕ) (slots : List (Option Seated)) (places : List (Option Place))
    (counts : List ℕ) (statuses : List TableStatus) (place : Place) (seated : Seated)
    → IsKept tables seats slots places counts statuses → IsPlaceOf tables seats place
    → get_or slots (slot_of seats place) None ≡ Some seated
    → IsKept tables seats (set slots (slot_of seats place) (Some (record seated { stack = stack }))) places counts
    statuses
kept-stacked tables seats stack slots places counts statuses place seated kept at is =
    let slot = slot_of seats place in
    let new : Seated = record seated { stack = stack } in
    let front = front_of slot slots in
    let back = back_of slot slots in
    let bound = slot-within tables seats place at in
    let room : length slots ≡ tables * seats = kept.room in
    let within : slot < length slots = omega (arith, bound, room) in
    let parts = players-stacked tables seats stack slots place seated kept.stand kept.room at is in
    let was : players_in slots ≡ front ++ seated ∷ back = parts.0 in
    let now : players_in (set slots slot (Some new)) ≡ front ++ new ∷ back = parts.1 in
    let absent = apart-remove front back seated (rw was at kept.apart) in
    let entries = list_all-parts is_entry front (seated ∷ back) (rw was at kept.entries) in
    let stands : StandsIn seats slot seated = let zero_more : 0 + slot ≡ slot = omega arith in rw zero_more at
    (stands-at seats 0 slot slots seated kept.stand is) in
    record {
      some_tables = kept.some_tables;
      most_tables = kept.most_tables;
      some_seats = kept.some_seats;
      most_seats = kept.most_seats;
      room = length-set slots slot (Some new) ∙ kept.room;
      stand = stand-set seats slot slots (Some new) within kept.stand
          (record { table = stands.table; first = stands.first; last = stands.last; here = stands.here }, tt);
      entries = rw now (list_all-joined is_entry front (new ∷ back) entries.0 entries.1);
      apart = rw now (apart-insert front back new absent.0 absent.1 absent.2);
      numbers = kept.numbers;
      found = λ number less. kept.found number less ∙ rw (now, was)
          (place_of-with number front back seated absent.1 ∙ sym (place_of-with number front back new absent.1));
      counted = kept.counted;
      full = λ table there. kept.full table there ∙ rw (now, was)
          (count_at-with table front back seated ∙ sym (count_at-with table front back new));
      standing = kept.standing;
      lawful = kept.lawful;
    }

-- the fields when a table stands anew
pub kept-status : (tables seats table : ℕ) (slots : List (Option Seated)) (places : List (Option Place))
    (counts : List ℕ) (statuses : List TableStatus) (status : TableStatus)
    → IsKept tables seats slots places counts statuses → IsTableOf tables table → IsStatusOf seats status
    → IsKept tables seats slots places counts (set statuses (table - 1) status)
kept-status tables seats table slots places counts statuses status kept at lawful = record {
  some_tables = kept.some_tables;
  most_tables = kept.most_tables;
  some_seats = kept.some_seats;
  most_seats = kept.most_seats;
  room = kept.room;
  stand = kept.stand;
  entries = kept.entries;
  apart = kept.apart;
  numbers = kept.numbers;
  found = kept.found;
  counted = kept.counted;
  full = kept.full;
  standing = length-set statuses (table - 1) status ∙ kept.standing;
  lawful = status_at_set;
}
  where
    status_at_set : (other : ℕ) → IsStatusOf seats (status_at (set statuses (table - 1) status) other)
    status_at_set zero = kept.lawful zero
    status_at_set (suc below) = elim (cases_eq (table - 1) below) [
      | inl same ↦
          let first : 1 ≤ table = at.first in
          let last : table ≤ tables = at.last in
          let size : length statuses ≡ tables = kept.standing in
          let within : below < length statuses = omega (arith, same, first, last, size) in
          rw (same, get_or-set_same statuses below status fresh_status within) lawful
      | inr apart ↦
          let differ : below ≢ table - 1 = λ same. apart (sym same) in
          rw (get_or-set_other statuses (table - 1) below status fresh_status differ) (kept.lawful (suc below))
    ]

-- how a table stands
pub status_at-get : (table : ℕ) (statuses : List TableStatus) → 1 ≤ table
    → get_or statuses (table - 1) fresh_status ≡ status_at statuses table
status_at-get zero statuses first = absurd (omega arith)
status_at-get (suc below) statuses first = let same : suc below - 1 ≡ below = omega arith in ap
    (λ (n : ℕ). get_or statuses n fresh_status) same

-- nobody sits in empty slots
pub players_in-empty : (count : ℕ) → players_in (replicate count None) ≡ []
players_in-empty zero = refl
players_in-empty (suc count) = players_in-empty count

-- the fields of a book where nobody sits
pub kept-empty : (tables seats : ℕ) → 1 ≤ tables → tables ≤ 64 → 2 ≤ seats → seats ≤ 10
    → IsKept tables seats (replicate (tables * seats) None) (replicate most_entries None) (replicate tables 0)
    (replicate tables fresh_status)
kept-empty tables seats some_tables most_tables some_seats most_seats = record {
  some_tables = some_tables;
  most_tables = most_tables;
  some_seats = some_seats;
  most_seats = most_seats;
  room = length-replicate {A = Option Seated} (tables * seats) None;
  stand = stand-empty seats 0 (tables * seats);
  entries = ap (list_all is_entry) (players_in-empty (tables * seats));
  apart = ap are_apart (players_in-empty (tables * seats));
  numbers = length-replicate {A = Option Place} most_entries None;
  found = λ number less. get_or-replicate {A = Option Place} most_entries number None None less
      ∙ sym (ap (λ players. place_of players number) (players_in-empty (tables * seats)));
  counted = length-replicate tables 0;
  full = λ table there. let within : table - 1 < tables = let first : 1 ≤ table = there.first in let last : table ≤
      tables = there.last in omega (arith, first, last) in
      get_or-replicate tables (table - 1) 0 0 within ∙ sym (ap (λ players. count_at players table)
      (players_in-empty (tables * seats)));
  standing = length-replicate tables fresh_status;
  lawful = λ table. rw (status_at-empty table tables) fresh_lawful;
}
  where
    fresh_lawful : IsStatusOf seats fresh_status
    fresh_lawful = record { marks = λ marks none. absurd cc; unit = omega arith; race = λ unit none. absurd cc }

    status_at-empty : (table count : ℕ) → status_at (replicate count fresh_status) table ≡ fresh_status
    status_at-empty zero count = refl
    status_at-empty (suc below) count = get_or-repeated count below fresh_status
