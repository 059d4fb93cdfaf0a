-- Tables that a level raises one after another.
use Rattle.std.proofs.Common.{◌≡◌, ◌∙◌, refl, sym, ap, ◌<◌, ℕ, zero, suc, ◌+◌, cond, List, [], ◌∷◌, map, length, set, get_or, add-one, arith}
use Rattle.std.specs.Prelude.{nat_lt}
use Rattle.std.specs.List.{enumerate_from}
use Rattle.rulebook.specs.Checks.{first_that_holds}
use Rattle.level_plan.specs.Plans.{unit_of_level}
use Rattle.tournament_events.specs.declared.event.Event.TheVariants.{Level}
use Rattle.tournament_rules.specs.Books.{BookState}
use Rattle.tournament_rules.specs.Checks.{level_checks, book_refusal}
use Rattle.seat_book.specs.declared.seated.Seated.{Seated}
use Rattle.seat_book.specs.declared.table_status.TableStatus.{TableStatus}
use Rattle.seat_book.specs.Counts.{is_open}
use Rattle.seat_book.specs.Tables.{fresh_status}
use Rattle.seat_book.specs.Seatings.{Seating}
use Rattle.tournament_rules.specs.Effects.{with_table, leveled}
use Rattle.tournament_rules.specs.Racing.{announced_table, announced}

-- the tables of which so many are announced, where the first has this number
announced_first : ℕ → List Seated → ℕ → ℕ → List TableStatus → List TableStatus
announced_first unit players zero from tables = tables
announced_first unit players (suc count) from [] = []
announced_first unit players (suc count) from (status ∷ tables) =
    announced_table unit (is_open players from) status ∷ announced_first unit players count (suc from) tables

first-more : (unit : ℕ) (players : List Seated) (count from : ℕ) (tables : List TableStatus) → count < length tables
    → set (announced_first unit players count from tables) count
    (announced_table unit (is_open players (from + count))
    (get_or (announced_first unit players count from tables) count fresh_status))
    ≡ announced_first unit players (suc count) from tables
unfolding announced_first
first-more unit players count from [] within = absurd (omega arith)
first-more unit players zero from (status ∷ tables) within =
    let here : from + 0 ≡ from = omega arith in
    ap (λ (n : ℕ). announced_table unit (is_open players n) status ∷ tables) here
first-more unit players (suc count) from (status ∷ tables) within =
    let here : from + suc count ≡ suc from + count = omega arith in
    let rest = announced_first unit players count (suc from) tables in
    ap (◌∷◌ (announced_table unit (is_open players from) status))
    (ap (λ (n : ℕ). set rest count (announced_table unit (is_open players n) (get_or rest count fresh_status))) here
    ∙ first-more unit players count (suc from) tables (omega (arith, within)))

first-all : (unit : ℕ) (players : List Seated) (from : ℕ) (tables : List TableStatus)
    → announced_first unit players (length tables) from tables
    ≡ map (λ row. announced_table unit (is_open players row.0) row.1) (enumerate_from from tables)
unfolding announced_first
first-all unit players from [] = refl
first-all unit players from (status ∷ tables) =
    ap (◌∷◌ (announced_table unit (is_open players from) status)) (first-all unit players (suc from) tables
    ∙ ap (λ (n : ℕ). map (λ row. announced_table unit (is_open players row.0) row.1) (enumerate_from n tables))
    (sym (add-one from)))

-- the seats once so many tables are announced
pub announced_so_far : ℕ → Seating → ℕ → Seating
announced_so_far unit seating below =
    record seating { tables = announced_first unit seating.players below 1 seating.tables }

-- Before any table all stand as they do.
pub announced-none : (unit : ℕ) (seating : Seating) → seating ≡ announced_so_far unit seating 0
unfolding announced_so_far announced_first
announced-none unit seating = refl

-- As many tables stay.
pub announced-count : (unit : ℕ) (seating : Seating) (below : ℕ)
    → (announced_so_far unit seating below).table_count ≡ seating.table_count
unfolding announced_so_far
announced-count unit seating below = refl

-- One table more is announced.
pub announced-next : (unit : ℕ) (before now next : Seating) (below : ℕ) → below < length before.tables
    → now ≡ announced_so_far unit before below
    → next ≡ with_table now (below + 1) (announced_table unit (is_open now.players (below + 1)))
    → next ≡ announced_so_far unit before (below + 1)
unfolding announced_so_far
announced-next unit before now next below within now_is next_is =
    let players = before.players in
    let so_far = announced_first unit players below 1 before.tables in
    let more : set so_far below (announced_table unit (is_open players (suc below)) (get_or so_far below fresh_status))
    ≡ announced_first unit players (suc below) 1 before.tables =
    ap (λ (n : ℕ). set so_far below (announced_table unit (is_open players n) (get_or so_far below fresh_status)))
    (omega arith) ∙ first-more unit players below 1 before.tables within in
    next_is
    ∙ (ap (λ (seats : Seating). with_table seats (below + 1) (announced_table unit (is_open seats.players (below + 1))))
    now_is
    ∙ (ap (λ (n : ℕ). with_table (announced_so_far unit before below) n (announced_table unit (is_open players n)))
    (add-one below)
    ∙ (ap (λ (tables : List TableStatus). record before { tables = tables }) more
    ∙ ap (λ (n : ℕ). announced_so_far unit before n) (sym (add-one below)))))

-- All tables are announced.
pub announced-all : (unit : ℕ) (before now : Seating) (below : ℕ) → below ≡ length before.tables
    → now ≡ announced_so_far unit before below → now ≡ announced unit before
unfolding announced_so_far
announced-all unit before now below all now_is =
    now_is ∙ (ap (announced_so_far unit before) all
    ∙ ap (λ (tables : List TableStatus). record before { tables = tables })
    (first-all unit before.players 1 before.tables))

-- The refusal of the next level is that of its checks.
pub level_refusal : (book : BookState) → book_refusal book Level ≡ first_that_holds (level_checks book)
unfolding book_refusal
level_refusal book = refl

-- The fields that the next level writes make the book of the definition.
pub leveled_state : (book : BookState) (before unit : ℕ) (seats : Seating)
    → before ≡ unit_of_level book.plan.blinds book.level → unit ≡ unit_of_level book.plan.blinds (book.level + 1)
    → seats ≡ cond (nat_lt before unit) (announced unit book.seating) book.seating
    → record book { seating = seats; level = book.level + 1; accepted = book.accepted + 1 } ≡ leveled book
leveled_state book before unit seats before_is unit_is seats_is =
    let now : cond (nat_lt before unit) (announced unit book.seating) book.seating
    ≡ (leveled book).seating =
    λ i. cond (nat_lt (before_is i) (unit_is i)) (announced (unit_is i) book.seating) book.seating in
    ap (λ (seats : Seating). record book { seating = seats; level = book.level + 1; accepted = book.accepted + 1 })
    (seats_is ∙ now)
