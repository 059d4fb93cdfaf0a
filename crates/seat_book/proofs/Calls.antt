-- The same as each call writes it: at the index that it computed, over what it read.
use Rattle.std.proofs.Common.{◌≡◌, ◌∙◌, refl, sym, ap, ℕ, ◌+◌, ◌-◌, ◌<◌, ◌≤◌, ◌==◌, List, length, set, get_or, Option, None, Some, arith}
use Rattle.std.specs.Prelude.{IfSome, IsSome}
use Rattle.std.proofs.lemmas.Bool.{eqb-true, eq-eqb, cond-true}
use Rattle.std.proofs.lemmas.List.{get_or_read}
use Rattle.rulebook.specs.Limits.{most_entries}
use Rattle.rulebook.proofs.Tests.{find-passes}
use Rattle.seat_book.specs.declared.place.Place.{Place}
use Rattle.seat_book.specs.declared.seated.Seated.{Seated}
use Rattle.seat_book.specs.declared.table_status.TableStatus.{TableStatus}
use Rattle.seat_book.specs.Places.{IsTableOf, IsPlaceOf}
use Rattle.seat_book.specs.Players.{players_in, is_numbered, player_at, player_of, place_of, sit_down, lifted, with_stack}
use Rattle.seat_book.specs.Counts.{count_at}
use Rattle.seat_book.specs.Tables.{fresh_status, status_at, IsStatusOf}
use Rattle.seat_book.specs.Kept.{slot_of, IsKept}
use Rattle.seat_book.proofs.Splits.{front_of, back_of}
use Rattle.seat_book.proofs.Numbers.{count_at-with}
use Rattle.seat_book.proofs.Slots.{slot-numbered}
use Rattle.seat_book.proofs.Keeping.{slot-read, found-number, count-kept, table-bound, kept-seated, players-seated, kept-lifted, players-lifted, kept-stacked, players-stacked, kept-status, status_at-get}

module _ {tables seats : ℕ} {slots : List (Option Seated)} {places : List (Option Place)} {counts : List ℕ}
    {statuses : List TableStatus} (kept : IsKept tables seats slots places counts statuses) where
  -- the place that is kept of a number is one that the tables have
  pub place-read : (number : ℕ) (read : Option Place) → number < most_entries → read ≡ get_or places number read
      → IfSome read (IsPlaceOf tables seats)
  place-read number None entry is = tt
  place-read number (Some place) entry is =
      let size : length places ≡ most_entries = kept.numbers in
      let here = found-number kept entry (sym (get_or_read places number (Some place) (omega (arith, size, entry)) is
      None)) in
      here.1.2

  -- the player of a number, by the place that is kept of it
  pub number-read : (number : ℕ) (place : Place) (read : Option Place) → number < most_entries
      → read ≡ get_or places number read → read ≡ Some place
      → (seated : Seated) × ((player_of (players_in slots) number ≡ Some seated) × (seated.place ≡ place) × IsPlaceOf
      tables seats place × (get_or slots (slot_of seats place) None ≡ Some seated))
  number-read number place read entry is some =
      let size : length places ≡ most_entries = kept.numbers in
      found-number kept entry (sym (get_or_read places number read (omega (arith, size, entry)) is None) ∙ some)

  -- a player sits down
  module _ (seated : Seated) (slot index count : ℕ) (at : IsPlaceOf tables seats seated.place)
      (slot_is : slot ≡ slot_of seats seated.place) where
    -- what holds of a seat book holds once a player who did not sit takes an empty seat
    pub seat-keeps : index ≡ seated.place.table - 1 → count ≡ get_or counts index count → seated.player < most_entries
        → player_at (players_in slots) seated.place ≡ None → place_of (players_in slots) seated.player ≡ None
        → IsKept tables seats (set slots slot (Some seated)) (set places seated.player (Some seated.place))
        (set counts index (count + 1)) statuses
    seat-keeps index_is read entry empty stands =
        let counted = count-kept index count kept at.table index_is read in
        rw (slot_is, index_is, counted.0) (kept-seated tables seats slots places counts statuses seated kept at entry
        empty stands)

    -- a player who takes an empty seat sits in his order among the others
    pub seat-seats : player_at (players_in slots) seated.place ≡ None
        → players_in (set slots slot (Some seated)) ≡ sit_down seated (players_in slots)
    seat-seats empty = rw slot_is (players-seated tables seats slots seated kept.stand kept.room at empty).2

  -- a player is lifted
  module _ (seated : Seated) (number slot index count : ℕ) (at : IsPlaceOf tables seats seated.place)
      (slot_is : slot ≡ slot_of seats seated.place) (found : player_of (players_in slots) number ≡ Some seated) where
    is_his : seated.player ≡ number
    is_his = eqb-true seated.player number (find-passes (is_numbered number) (players_in slots) seated found)

    in_slot : get_or slots (slot_of seats seated.place) None ≡ Some seated
    in_slot = (slot-numbered tables seats number slots seated kept.stand kept.room found).1

    -- what holds of a seat book holds once a player has left his seat
    pub lift-keeps : index ≡ seated.place.table - 1 → count ≡ get_or counts index count → number < most_entries
        → IsKept tables seats (set slots slot None) (set places number None) (set counts index (count - 1)) statuses
    lift-keeps index_is read entry =
        let counted = count-kept index count kept at.table index_is read in
        rw (slot_is, index_is, counted.0, ← is_his) (kept-lifted tables seats slots places counts statuses seated kept
        at (rw is_his entry) in_slot)

    -- once a player has left his seat the others sit as they did
    pub lift-seats : players_in (set slots slot None) ≡ lifted number (players_in slots)
    lift-seats = rw (slot_is, ← is_his) (players-lifted tables seats slots seated kept.stand kept.room at kept.apart
        in_slot).2

    -- at least one player is counted at the table of a player who is lifted
    pub lift-counted : index ≡ seated.place.table - 1 → count ≡ get_or counts index count → 1 ≤ count
    lift-counted index_is read =
        let counted = count-kept index count kept at.table index_is read in
        let parts = players-lifted tables seats slots seated kept.stand kept.room at kept.apart in_slot in
        let one = ap (λ players. count_at players seated.place.table) parts.0
        ∙ count_at-with seated.place.table (front_of (slot_of seats seated.place) slots)
        (back_of (slot_of seats seated.place) slots) seated in
        let here = cond-true {A = ℕ} (seated.place.table == seated.place.table) 1 0
        (eq-eqb seated.place.table seated.place.table refl) in
        omega (arith, counted.1, one, here)

  -- a player gets a stack
  pub stack-sits : (place : Place) (slot : ℕ) (read : Option Seated) → IsPlaceOf tables seats place
      → slot ≡ slot_of seats place → read ≡ get_or slots slot read → IsSome (player_at (players_in slots) place)
      → IsSome read
  stack-sits place slot read at slot_is is sits = let here = slot-read slot read kept at slot_is is in rw here.0 at sits

  module _ (place : Place) (seated : Seated) (slot stack : ℕ) (read : Option Seated)
      (at : IsPlaceOf tables seats place) (slot_is : slot ≡ slot_of seats place) (is : read ≡ get_or slots slot read)
      (some : read ≡ Some seated) where
    -- what holds of a seat book holds once the player in a seat has another stack
    pub stack-keeps : IsKept tables seats (set slots slot (Some (record seated { stack = stack }))) places counts
        statuses
    stack-keeps = let here = slot-read slot read kept at slot_is is in rw slot_is
        (kept-stacked tables seats stack slots places counts statuses place seated kept at (here.1 ∙ some))

    -- once the player in a seat gets a stack everyone sits as before, and he has that stack
    pub stack-seats : players_in (set slots slot (Some (record seated { stack = stack }))) ≡ with_stack place stack
        (players_in slots)
    stack-seats = let here = slot-read slot read kept at slot_is is in rw slot_is
        (players-stacked tables seats stack slots place seated kept.stand kept.room at (here.1 ∙ some)).2

  -- a table stands anew
  module _ (table index : ℕ) (at : IsTableOf tables table) (index_is : index ≡ table - 1) where
    -- what holds of a seat book holds once a table has another lawful status
    pub status-keeps : (status : TableStatus) → IsStatusOf seats status
        → IsKept tables seats slots places counts (set statuses index status)
    status-keeps status lawful = rw index_is (kept-status tables seats table slots places counts statuses status kept
        at lawful)

    -- the status that is read at the index of a table is that of the table
    pub status-read : (read : TableStatus) → read ≡ get_or statuses index read → read ≡ status_at statuses table
    status-read read is =
        let bound = table-bound kept at in
        get_or_read statuses index read (omega (arith, index_is, bound.1)) is fresh_status
        ∙ (ap (λ (n : ℕ). get_or statuses n fresh_status) index_is ∙ status_at-get table statuses at.first)
