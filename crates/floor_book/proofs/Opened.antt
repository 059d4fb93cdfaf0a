-- Tables that are set up one after another.
use Rattle.std.proofs.Common.{◌≡◌, ◌∙◌, ap, ◌<◌, ℕ, ◌+◌, List, ◌++◌, drop, add-one, arith}
use Rattle.std.specs.Prelude.{replicate}
use Rattle.std.proofs.lemmas.List.{length-replicate, append-nil, drop_all}
use Rattle.level_plan.specs.Plans.{PlanTerms}
use Rattle.seat_book.specs.declared.table_status.TableStatus.{TableStatus}
use Rattle.seat_book.specs.Tables.{fresh_status, with_status}
use Rattle.seat_book.specs.Seatings.{Seating, empty_seating}
use Rattle.tournament_rules.specs.Effects.{first_status, first_seating}
use Rattle.floor_book.proofs.Filled.{filled}

-- the tables of which so many are set up
abbrev pub set_up : PlanTerms → ℕ → List TableStatus
set_up plan below = replicate below (first_status plan) ++ drop below (replicate plan.tables fresh_status)

-- One table more is set up.
pub set_up_next : (plan : PlanTerms) (below : ℕ) → below < plan.tables
    → with_status (set_up plan below) (below + 1) (first_status plan) ≡ set_up plan (below + 1)
set_up_next plan below within =
    ap (λ (table : ℕ). with_status (set_up plan below) table (first_status plan)) (add-one below)
    ∙ filled (first_status plan) (replicate plan.tables fresh_status) below
    (rw (length-replicate plan.tables fresh_status) within)

-- All tables are set up.
pub set_up_all : (plan : PlanTerms) (below : ℕ) → below ≡ plan.tables → set_up plan below
    ≡ replicate plan.tables (first_status plan)
set_up_all plan below all =
    ap (set_up plan) all ∙ (ap (λ (rest : List TableStatus). replicate plan.tables (first_status plan) ++ rest)
    (drop_all plan.tables (replicate plan.tables fresh_status)
    (rw (length-replicate plan.tables fresh_status) (omega arith)))
    ∙ append-nil (replicate plan.tables (first_status plan)))

-- the seats of a plan of whose tables so many are set up
abbrev pub opened : PlanTerms → ℕ → Seating
opened plan below = record (empty_seating plan.tables plan.seats) { tables = set_up plan below }

-- One table more is set up, of the seats.
pub opened_next : (plan : PlanTerms) (now next : Seating) (below : ℕ) (status : TableStatus) → now
    ≡ opened plan below → status ≡ first_status plan → below < plan.tables
    → next ≡ record now { tables = with_status now.tables (below + 1) status } → next ≡ opened plan (below + 1)
opened_next plan now next below status now_is status_is within is =
    (rw (now_is, status_is) at is) ∙ ap (λ (tables : List TableStatus). record (empty_seating plan.tables plan.seats)
    { tables = tables }) (set_up_next plan below within)

-- All tables are set up, of the seats.
pub opened_last : (plan : PlanTerms) (now : Seating) (below : ℕ) → now ≡ opened plan below → below ≡ plan.tables
    → now ≡ first_seating plan
opened_last plan now below now_is all =
    now_is ∙ ap (λ (tables : List TableStatus). record (empty_seating plan.tables plan.seats) { tables = tables })
    (set_up_all plan below all)
