-- The counts of the tables, as they are kept.
use Rattle.std.proofs.Common.{◌≡◌, ◌∙◌, refl, sym, ap, ℕ, zero, suc, ◌+◌, ◌-◌, ◌<◌, ◌≤◌, min, max, drop, Bool, true, false, cond, ◌==◌, ◌&&◌, ◌||◌, List, [], ◌∷◌, map, length, get_or, Option, arith}
use Rattle.std.specs.Prelude.{nat_lt, filter, fold}
use Rattle.std.specs.List.{list_any}
use Rattle.std.proofs.Math.Bool.{and-false, and-true}
use Rattle.std.proofs.lemmas.Bool.{lt-ltb, le-ltb}
use Rattle.std.proofs.lemmas.Bool.Decides.{nat_tests}
use Rattle.std.proofs.lemmas.List.{same_lists, drop-map, get_or-map, length-map, get_or_default}
use Rattle.rulebook.specs.Seats.{walk}
use Rattle.rulebook.proofs.Tests.{list_any-made}
use Rattle.rulebook.proofs.Walks.{get_or-walk, length-walk}
use Rattle.seat_book.specs.declared.place.Place.{Place}
use Rattle.seat_book.specs.declared.seated.Seated.{Seated}
use Rattle.seat_book.specs.declared.table_status.TableStatus.{TableStatus}
use Rattle.seat_book.specs.Players.{players_in}
use Rattle.seat_book.specs.Counts.{count_at, is_open, table_numbers, open_counts, greatest_of, least_of, greatest_count, least_count}
use Rattle.seat_book.specs.Kept.{IsKept}

-- the counts that are kept are those of the tables, by number
pub counts-are : {tables seats : ℕ} {slots : List (Option Seated)} {places : List (Option Place)} {counts : List ℕ}
    {statuses : List TableStatus} → IsKept tables seats slots places counts statuses
    → counts ≡ map (count_at (players_in slots)) (table_numbers tables)
counts-are {tables} {seats} {slots} {places} {counts} {statuses} kept =
    same_lists counts (map (count_at (players_in slots)) (table_numbers tables))
    (kept.counted ∙ sym (length-map (table_numbers tables) (count_at (players_in slots)) ∙ length-walk tables 0))
    each
  where
    each : (k d : ℕ) → k < length counts → get_or counts k d ≡ get_or
        (map (count_at (players_in slots)) (table_numbers tables)) k d
    each k d less =
        let size : length counts ≡ tables = kept.counted in
        let within : k < tables = omega (arith, size, less) in
        let index : suc k - 1 ≡ k = omega arith in
        let number : get_or (table_numbers tables) k 0 ≡ suc k = get_or-walk tables 0 k 0 within ∙ omega arith in
        let long : k < length (table_numbers tables) = omega (arith, within, length-walk tables 0) in
        get_or_default counts k d 0 less
        ∙ (ap (λ (n : ℕ). get_or counts n 0) (sym index)
        ∙ (kept.full (suc k) (record { first = omega arith; last = omega (arith, within) })
        ∙ sym (get_or-map (count_at (players_in slots)) (table_numbers tables) k 0 d long
        ∙ ap (count_at (players_in slots)) number)))

-- to leave out numbers of which a function fails a test, and to leave out what the function makes of them, is one
filter-map : (test : ℕ → Bool) (f : ℕ → ℕ) (xs : List ℕ) → filter test (map f xs) ≡ map f (filter (λ x. test (f x)) xs)
filter-map test f [] = refl
filter-map test f (x ∷ xs) = by_test (test (f x)) (filter-map test f xs)
  where
    by_test : (b : Bool) → filter test (map f xs) ≡ map f (filter (λ x. test (f x)) xs)
        → cond b (f x ∷ filter test (map f xs)) (filter test (map f xs)) ≡ map f
        (cond b (x ∷ filter (λ x. test (f x)) xs) (filter (λ x. test (f x)) xs))
    by_test true others = ap (λ rest. f x ∷ rest) others
    by_test false others = others

-- the counts of the open tables are those that are kept and are not 0
pub open_counts-are : {tables seats : ℕ} {slots : List (Option Seated)} {places : List (Option Place)}
    {counts : List ℕ} {statuses : List TableStatus} → IsKept tables seats slots places counts statuses
    → open_counts tables (players_in slots) ≡ filter (nat_lt 0) counts
open_counts-are {tables} {seats} {slots} {places} {counts} {statuses} kept =
    sym (ap (filter (nat_lt 0)) (counts-are kept) ∙ filter-map (nat_lt 0) (count_at (players_in slots))
    (table_numbers tables))

fold-max_open : (start : ℕ) (counts : List ℕ) → fold max start (filter (nat_lt 0) counts) ≡ fold max start counts
fold-max_open start [] = refl
fold-max_open start (zero ∷ counts) =
    let same : max start 0 ≡ start = omega arith in
    fold-max_open start counts ∙ ap (λ (n : ℕ). fold max n counts) (sym same)
fold-max_open start (suc count ∷ counts) =
    let some : nat_lt 0 (suc count) ≡ true = lt-ltb 0 (suc count) (omega arith) in
    rw some (fold-max_open (max start (suc count)) counts)

-- the greatest of the kept counts is that of the open tables
pub greatest-kept : {tables seats : ℕ} {slots : List (Option Seated)} {places : List (Option Place)} {counts : List ℕ}
    {statuses : List TableStatus} → IsKept tables seats slots places counts statuses
    → fold max 0 counts ≡ greatest_count tables (players_in slots)
greatest-kept {tables} {seats} {slots} {places} {counts} {statuses} kept = sym
    (ap greatest_of (open_counts-are kept) ∙ fold-max_open 0 counts)

-- the least count of an open table so far, once one more count is seen
abbrev pub lesser : ℕ → ℕ → ℕ
lesser least count = cond (nat_lt 0 count && (least == 0 || nat_lt count least)) count least

fold-lesser_open : (start : ℕ) (counts : List ℕ) → 0 < start
    → fold lesser start counts ≡ fold min start (filter (nat_lt 0) counts)
fold-lesser_open start [] some = refl
fold-lesser_open start (zero ∷ counts) some = fold-lesser_open start counts some
fold-lesser_open start (suc count ∷ counts) some =
    let next : lesser start (suc count) ≡ min start (suc count) = grind (arith, nat_tests) in
    let open_one : nat_lt 0 (suc count) ≡ true = lt-ltb 0 (suc count) (omega arith) in
    ap (λ (n : ℕ). fold lesser n counts) next ∙ (fold-lesser_open (min start (suc count)) counts (omega arith)
    ∙ sym (ap (λ (b : Bool). fold min start (cond b (suc count ∷ filter (nat_lt 0) counts)
    (filter (nat_lt 0) counts))) open_one))

fold-lesser : (counts : List ℕ) → fold lesser 0 counts ≡ least_of (filter (nat_lt 0) counts)
fold-lesser [] = refl
fold-lesser (zero ∷ counts) = fold-lesser counts
fold-lesser (suc count ∷ counts) =
    let open_one : nat_lt 0 (suc count) ≡ true = lt-ltb 0 (suc count) (omega arith) in
    rw open_one (fold-lesser_open (suc count) counts (omega arith))

-- the least of the kept counts is that of the open tables
pub least-kept : {tables seats : ℕ} {slots : List (Option Seated)} {places : List (Option Place)} {counts : List ℕ}
    {statuses : List TableStatus} → IsKept tables seats slots places counts statuses
    → fold lesser 0 counts ≡ least_count tables (players_in slots)
least-kept {tables} {seats} {slots} {places} {counts} {statuses} kept = fold-lesser counts
    ∙ sym (ap least_of (open_counts-are kept))

-- each number of a walk that counts up from one no lower is higher
all-above : (test : ℕ → Bool) (number steps from : ℕ) → number ≤ from
    → list_any (λ other. test other && nat_lt number other) (walk suc steps from) ≡ list_any test (walk suc steps from)
all-above test number zero from low = refl
all-above test number (suc steps) from low =
    let above : nat_lt number (suc from) ≡ true = lt-ltb number (suc from) (omega (arith, low)) in
    let here : (test (suc from) && nat_lt number (suc from)) ≡ test (suc from) =
    ap (λ (b : Bool). test (suc from) && b) above ∙ and-true (test (suc from)) in
    ap (λ (b : Bool). b || list_any (λ other. test other && nat_lt number other) (walk suc steps (suc from))) here
    ∙ ap (λ (b : Bool). test (suc from) || b) (all-above test number steps (suc from) (omega (arith, low)))

-- the numbers of a walk that counts up which are higher than another are those that are left without the first
some-above : (test : ℕ → Bool) (steps from left : ℕ)
    → list_any (λ other. test other && nat_lt (from + left) other) (walk suc steps from)
    ≡ list_any test (drop left (walk suc steps from))
some-above test steps from zero = all-above test (from + 0) steps from (omega arith)
some-above test zero from (suc left) = refl
some-above test (suc steps) from (suc left) =
    let below : nat_lt (from + suc left) (suc from) ≡ false = le-ltb (from + suc left) (suc from) (omega arith) in
    let next : from + suc left ≡ suc from + left = omega arith in
    ap (λ (b : Bool). b || list_any (λ other. test other && nat_lt (from + suc left) other) (walk suc steps (suc from)))
    (ap (λ (b : Bool). test (suc from) && b) below ∙ and-false (test (suc from)))
    ∙ (ap (λ (n : ℕ). list_any (λ other. test other && nat_lt n other) (walk suc steps (suc from))) next
    ∙ some-above test steps (suc from) left)

-- a kept count behind those of so many tables is not 0 where an open table has a higher number
pub open-above : {tables seats : ℕ} {slots : List (Option Seated)} {places : List (Option Place)} {counts : List ℕ}
    {statuses : List TableStatus} (table : ℕ) → IsKept tables seats slots places counts statuses
    → list_any (nat_lt 0) (drop table counts)
    ≡ list_any (λ other. is_open (players_in slots) other && nat_lt table other) (table_numbers tables)
open-above {tables} {seats} {slots} {places} {counts} {statuses} table kept =
    let first : 0 + table ≡ table = omega arith in
    ap (λ (counts : List ℕ). list_any (nat_lt 0) (drop table counts)) (counts-are kept)
    ∙ (ap (list_any (nat_lt 0)) (drop-map (count_at (players_in slots)) table (table_numbers tables))
    ∙ (list_any-made (nat_lt 0) (count_at (players_in slots)) (drop table (table_numbers tables))
    ∙ (sym (some-above (is_open (players_in slots)) tables 0 table)
    ∙ ap (λ (n : ℕ). list_any (λ other. is_open (players_in slots) other && nat_lt n other) (table_numbers tables))
    first)))
