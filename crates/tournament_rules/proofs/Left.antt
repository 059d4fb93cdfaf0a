-- Nobody sits at a table once it broke.
use Rattle.std.proofs.Common.{◌≡◌, ◌∙◌, refl, sym, ap, ℕ, ◌+◌, Bool, true, false, cond, ◌==◌, ◌&&◌, List, [], ◌∷◌, map, length, arith}
use Rattle.std.specs.Prelude.{not, find, count_by, nat_lt, Option, Some, None}
use Rattle.std.specs.List.{list_all}
use Rattle.std.specs.Str.{bytes_eq}
use Rattle.std.proofs.lemmas.Bool.{and_parts, not-true}
use Rattle.std.proofs.lemmas.List.Sorted.{sum_by-IsPermutation, length_permutation}
use Rattle.std.proofs.lemmas.List.Sums.{length-filter}
use Rattle.std.proofs.lemmas.Slice.Eq.{bytes_eq-Decides}
use Rattle.rulebook.proofs.Passing.{count_by-none, filter-filter, find-filter, none-find}
use Rattle.rulebook.proofs.Tests.{count_by-cons, find-passes, list_all-follows, sum_by-map}
use Rattle.seat_book.specs.declared.place.Place.{Place}
use Rattle.seat_book.specs.declared.seated.Seated.{Seated}
use Rattle.seat_book.specs.Players.{sits_at, players_at}
use Rattle.seat_book.specs.Counts.{count_at}
use Rattle.seat_book.specs.Seatings.{Seating}
use Rattle.balance_rule.specs.Filling.{is_other_open, names_at}
use Rattle.break_draw.proofs.FillLaws.{chosen-elsewhere}
use Rattle.break_draw.proofs.Names.{names-length}
use Rattle.break_draw.proofs.Room.{filled-length}
use Rattle.entry_list.proofs.Added.{other_way}
use Rattle.tournament_rules.specs.Books.{BookState, has_table}
use Rattle.tournament_rules.specs.Effects.{broken}
use Rattle.tournament_rules.specs.Moving.{is_called, after_taking, after_all}
use Rattle.tournament_rules.specs.Valid.{IsValid}
use Rattle.tournament_rules.proofs.Moved.{sum-moved}
use Rattle.tournament_rules.proofs.Breaks.{MayBreak, MayTake, all-permuted, named-found, taking, taken, taken_book, bare_book, may_take, valid_forgotten}

-- Whether a player of this name sits at a table.
abbrev has_name_at : ℕ → List ℕ → Seated → Bool
has_name_at table name player = sits_at table player && bytes_eq name player.name

-- How often a name comes among those of a table's players.
names-counted : (table : ℕ) (name : List ℕ) (players : List Seated)
    → count_by (bytes_eq name) (map (λ seated. seated.name) (players_at players table))
    ≡ count_by (has_name_at table name) players
names-counted table name players =
    sum_by-map (λ (other : List ℕ). cond {A = ℕ} (bytes_eq name other) 1 0) (λ (seated : Seated). seated.name)
    (players_at players table)
    ∙ sym (length-filter (λ (seated : Seated). bytes_eq name seated.name) (players_at players table))
    ∙ ap length (filter-filter (sits_at table) (λ seated. bytes_eq name seated.name) players)
    ∙ length-filter (has_name_at table name) players

same_name : (name : List ℕ) → bytes_eq name name ≡ true
same_name name = (bytes_eq-Decides name name).1 refl

-- Where no name comes among those of a table, nobody sits there.
nobody_named : (table : ℕ) (players : List Seated) → ((name : List ℕ) → count_by (has_name_at table name) players ≡ 0)
    → players_at players table ≡ []
nobody_named table [] none = refl
nobody_named table (player ∷ players) none =
    by_test (sits_at table player) refl (λ later. nobody_named table players later)
  where
    one : (name : List ℕ) → count_by (has_name_at table name) (player ∷ players)
        ≡ cond (has_name_at table name player) 1 0 + count_by (has_name_at table name) players
    one name = count_by-cons (has_name_at table name) player players

    by_test : (b : Bool) → sits_at table player ≡ b
        → (((name : List ℕ) → count_by (has_name_at table name) players ≡ 0) → players_at players table ≡ [])
        → cond b (player ∷ players_at players table) (players_at players table) ≡ []
    by_test true is rest =
        let his = ap (λ (b : Bool). cond {A = ℕ} (b && bytes_eq player.name player.name) 1 0) is in
        let same = ap (λ (b : Bool). cond {A = ℕ} b 1 0) (same_name player.name) in
        let all = one player.name in
        let zero = none player.name in
        absurd (omega (arith, his, same, all, zero))
    by_test false is rest = rest (λ name.
        let all = one name in
        let zero = none name in
        let here = ap (λ (b : Bool). cond {A = ℕ} (b && bytes_eq name player.name) 1 0) is in
        omega (arith, all, zero, here))

-- A name that comes among those of a table is found there.
name_found : (table : ℕ) (name : List ℕ) (players : List Seated)
    → find (is_called name) (players_at players table) ≡ None → count_by (has_name_at table name) players ≡ 0
name_found table name players none =
    count_by-none (has_name_at table name) players
    (list_all-follows (λ (player : Seated). not (sits_at table player && is_called name player))
    (λ player. not (has_name_at table name player)) players
    (λ player fails. not_named (sits_at table player) player.name fails)
    (none-find (λ player. sits_at table player && is_called name player) players
    (sym (find-filter (sits_at table) (is_called name) players) ∙ none)))
  where
    not_named : (sits : Bool) (other : List ℕ) → not (sits && bytes_eq other name) ≡ true
        → not (sits && bytes_eq name other) ≡ true
    not_named true other fails = ap not (other_way other name (not-true (bytes_eq other name) fails))
    not_named false other fails = refl

-- Nobody sits at a table once its players took places at other tables.
left_all : (book : BookState) (table : ℕ) (names : List (List ℕ)) (places : List Place) → IsValid book
    → MayTake book table places → list_all (λ place. not (place.table == table)) places ≡ true
    → length names ≡ length places
    → ((name : List ℕ) → count_by (has_name_at table name) book.seating.players ≡ count_by (bytes_eq name) names)
    → players_at (after_all table names places book.seating).players table ≡ []
left_all book table [] places valid may away many alike = nobody_named table book.seating.players alike
left_all book table (name ∷ names) [] valid may away many alike = absurd (omega (arith, many))
left_all book table (name ∷ names) (place ∷ places) valid may away many alike =
    by_find (find (is_called name) (players_at book.seating.players table)) refl
    (λ next valid may alike. left_all next table names places valid may
    (and_parts (not (place.table == table)) (list_all (λ place. not (place.table == table)) places) away).1
    (omega (arith, many)) alike)
  where
    by_find : (found : Option Seated) → find (is_called name) (players_at book.seating.players table) ≡ found
        → ((next : BookState) → IsValid next → MayTake next table places
        → ((other : List ℕ) → count_by (has_name_at table other) next.seating.players
        ≡ count_by (bytes_eq other) names)
        → players_at (after_all table names places next.seating).players table ≡ [])
        → players_at (after_all table names places (after_taking table name place book.seating)).players table ≡ []
    by_find None is rest =
        let none = name_found table name book.seating.players is in
        let some = alike name in
        let first = count_by-cons (bytes_eq name) name names in
        let same = ap (λ (b : Bool). cond {A = ℕ} b 1 0) (same_name name) in
        absurd (omega (arith, none, some, first, same))
    by_find (Some player) is rest =
        let players = book.seating.players in
        let apart = valid.tables.lawful.apart in
        let after = taken book table name place places valid may in
        let moves = taking book.seating table name place player apart is in
        let there = sym (find-filter (sits_at table) (is_called name) players) ∙ is in
        let parts = and_parts (sits_at table player) (is_called name player)
        (find-passes (λ other. sits_at table other && is_called name other) players player there) in
        let named : player.name ≡ name = (bytes_eq-Decides player.name name).0 parts.1 in
        let elsewhere = not-true (place.table == table)
        (and_parts (not (place.table == table)) (list_all (λ place. not (place.table == table)) places) away).0 in
        rest (taken_book book table name place places valid may) after.0 after.1 (λ other.
        let sum = sum-moved place player players apart (named-found players table name player apart is)
        (λ seated. cond {A = ℕ} (has_name_at table other seated) 1 0) in
        let now = ap (λ (seating : Seating). count_by (has_name_at table other) seating.players) moves in
        let before = alike other in
        let first = count_by-cons (bytes_eq other) name names in
        let his = ap (λ (b : Bool). cond {A = ℕ} (b && bytes_eq other player.name) 1 0) parts.0 in
        let same = ap (λ (n : List ℕ). cond {A = ℕ} (bytes_eq other n) 1 0) named in
        let gone = ap (λ (b : Bool). cond {A = ℕ} (b && bytes_eq other player.name) 1 0) elsewhere in
        omega (arith, sum, now, before, first, his, same, gone))

-- Nobody sits at a table once it broke.
pub broken_left : (book : BookState) (table : ℕ) (places : List Place) (names : List (List ℕ)) → IsValid book
    → MayBreak book table places names → players_at (broken book table places names).seating.players table ≡ []
broken_left book table places names valid may =
    let opened = and_parts (has_table book table) (nat_lt 0 (count_at book.seating.players table)) may.opened in
    let fill = may.drawn.fill in
    let there = count_at book.seating.players table in
    let right = may.drawn.right in
    let many = filled-length book.seating table there fill may.drawn.is in
    let few = length_permutation fill places right.places in
    let all = length_permutation (names_at book.seating table) names right.players in
    let sit = names-length book.seating table in
    left_all (bare_book book table) table names places (valid_forgotten book table valid opened.0)
    (may_take book table places names valid may)
    (all-permuted (λ (place : Place). not (place.table == table)) fill places right.places
    (list_all-follows (λ (place : Place). is_other_open book.seating table place.table)
    (λ place. not (place.table == table)) fill
    (λ place is. (and_parts (nat_lt 0 (count_at book.seating.players place.table)) (not (place.table == table)) is).1)
    (chosen-elsewhere book.seating table there fill may.drawn.is)))
    (omega (arith, many, few, all, sit))
    (λ name.
    let same = sum_by-IsPermutation (λ (other : List ℕ). cond {A = ℕ} (bytes_eq name other) 1 0)
    (names_at book.seating table) names right.players in
    let counted = names-counted table name book.seating.players in
    omega (arith, same, counted))
