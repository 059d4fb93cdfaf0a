-- The tables of which the first have begun anew, when one more begins.
use Rattle.std.proofs.Common.{◌≡◌, ◌∙◌, ap, ℕ, ◌+◌, ◌<◌, Bool, List, length, add-one, map, take, drop, ◌++◌, get_or}
use Rattle.std.proofs.lemmas.List.Edits.{map_over_more}
use Rattle.std.proofs.lemmas.List.{get_or_default}
use Rattle.seat_book.specs.declared.table_status.TableStatus.{TableStatus}
use Rattle.seat_book.specs.Tables.{fresh_status, status_at, with_status}
use Rattle.seat_book.specs.Seatings.{Seating}
use Rattle.hand_rounds.specs.Rounds.{begun_by}

-- One more of the tables stands as the test says.
pub one-more : (test : TableStatus → Bool) (first now : List TableStatus) (below : ℕ) (read : TableStatus)
    → below < length first → below < length now → now ≡ map (begun_by test) (take below first) ++ drop below first
    → read ≡ status_at now (below + 1)
    → with_status now (below + 1) (begun_by test read)
    ≡ map (begun_by test) (take (below + 1) first) ++ drop (below + 1) first
one-more test first now below read within inside is read_is =
    let there : read ≡ get_or now below fresh_status = read_is
    ∙ ap (λ (n : ℕ). status_at now n) (add-one below) in
    ap (λ (n : ℕ). with_status now n (begun_by test read)) (add-one below)
    ∙ map_over_more (begun_by test) first now below read within is
    (there ∙ get_or_default now below fresh_status read inside)

-- The seating after one more table stands as the test says.
pub one-more-seating : (test : TableStatus → Bool) (first now new : Seating) (below : ℕ) (read : TableStatus)
    (begun : Bool) → below < length first.tables → below < length now.tables
    → now ≡ record first { tables = map (begun_by test) (take below first.tables) ++ drop below first.tables }
    → read ≡ status_at now.tables (below + 1) → begun ≡ test read
    → new ≡ record now { tables = with_status now.tables (below + 1) (record read { begun = begun }) }
    → new ≡ record first {
      tables = map (begun_by test) (take (below + 1) first.tables)
          ++ drop (below + 1) first.tables;
    }
one-more-seating test first now new below read begun within inside same read_is begun_is new_is =
    let tables = one-more test first.tables now.tables below read within inside
    (ap (λ (seating : Seating). seating.tables) same) read_is in
    new_is
    ∙ (ap (λ (b : Bool). record now { tables = with_status now.tables (below + 1) (record read { begun = b }) })
    begun_is
    ∙ (ap (λ (tables : List TableStatus). record now { tables = tables }) tables
    ∙ ap (λ (seating : Seating). record seating {
      tables = map (begun_by test) (take (below + 1) first.tables)
          ++ drop (below + 1) first.tables;
    }) same))
