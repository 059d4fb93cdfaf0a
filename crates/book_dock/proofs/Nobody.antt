-- Nobody sits at a table that a book has not.
use Rattle.std.proofs.Common.{◌≡◌, ◌∙◌, refl, ap, ℕ, ◌<◌, Bool, true, false, cond, List, [], ◌∷◌, filter, arith}
use Rattle.std.specs.Prelude.{◌==◌}
use Rattle.std.specs.List.{list_all}
use Rattle.std.proofs.lemmas.Bool.{and_parts}
use Rattle.std.proofs.lemmas.Bool.Decides.{nat_tests}
use Rattle.level_plan.specs.Items.{is_between}
use Rattle.seat_book.specs.declared.seated.Seated.{Seated}
use Rattle.seat_book.specs.Players.{players_at, sits_at}
use Rattle.seat_book.specs.Seatings.{IsSeating, Seating, sits_within}

apart : (tables place table : ℕ) → is_between 1 tables place ≡ true → is_between 1 tables table ≡ false
    → (place == table) ≡ false
apart tables place table here beyond = grind (arith, nat_tests)

none-there : (tables seats table : ℕ) (players : List Seated) → is_between 1 tables table ≡ false
    → list_all (sits_within tables seats) players ≡ true → filter (sits_at table) players ≡ []
none-there tables seats table [] beyond within = refl
none-there tables seats table (seated ∷ players) beyond within =
    let parts = and_parts (sits_within tables seats seated) (list_all (sits_within tables seats) players) within in
    let here : is_between 1 tables seated.place.table ≡ true =
    (and_parts (is_between 1 tables seated.place.table) (is_between 1 seats seated.place.seat) parts.0).0 in
    ap (λ (there : Bool). cond there (seated ∷ filter (sits_at table) players) (filter (sits_at table) players))
    (apart tables seated.place.table table here beyond)
    ∙ none-there tables seats table players beyond parts.1

-- Nobody sits at a table of a number that no table has.
pub nobody-there : (seating : Seating) (table : ℕ) → IsSeating seating
    → is_between 1 seating.table_count table ≡ false → players_at seating.players table ≡ []
nobody-there seating table lawful beyond =
    none-there seating.table_count seating.seat_count table seating.players beyond lawful.within

-- No table has the number 0.
pub none-zero : (tables table : ℕ) → table ≡ 0 → is_between 1 tables table ≡ false
none-zero tables table zero_is = grind (arith, nat_tests)

-- None has a number above that of the last.
pub none-above : (tables table : ℕ) → tables < table → is_between 1 tables table ≡ false
none-above tables table above = grind (arith, nat_tests)
