-- Who sits where once a table broke: the others take places at open tables, and nobody sits at that table.
use Rattle.std.proofs.Common.{◌≡◌, ◌∙◌, refl, sym, ap, ℕ, ◌<◌, ◌≤◌, Bool, true, false, cond, ◌==◌, List, [], ◌∷◌, length, arith}
use Rattle.std.specs.Prelude.{not, nat_lt, find, count_by, Option, Some, None, option_map}
use Rattle.std.specs.List.{list_all}
use Rattle.std.specs.Option.{option_map_or}
use Rattle.std.proofs.lemmas.Bool.{and_parts, and_from, both_ways, eq-eqb, eqb-true, false_from_ne_true, lt-ltb}
use Rattle.std.proofs.lemmas.List.Sums.{length-filter}
use Rattle.rulebook.proofs.Passing.{count_by-none}
use Rattle.rulebook.proofs.Tests.{count_by-cons, list_all-follows}
use Rattle.seat_book.specs.declared.place.Place.{Place}
use Rattle.seat_book.specs.declared.seated.Seated.{Seated}
use Rattle.seat_book.specs.Places.{comes_before}
use Rattle.seat_book.specs.Players.{is_numbered, lifted, player_of, players_at, sits_at}
use Rattle.seat_book.specs.Counts.{count_at, is_open}
use Rattle.seat_book.specs.Seatings.{Seating}
use Rattle.balance_rule.specs.declared.balance.Move.{Move}
use Rattle.balance_rule.specs.Balance.{after_move, reseated}
use Rattle.balance_rule.specs.Filling.{is_other_open}
use Rattle.break_draw.proofs.FillLaws.{chosen-elsewhere}
use Rattle.tournament_rules.specs.Books.{BookState}
use Rattle.tournament_rules.specs.Effects.{broken, forgotten, with_table}
use Rattle.tournament_rules.specs.Moving.{after_all, after_taking, is_called, move_of}
use Rattle.tournament_rules.specs.Valid.{IsValid}
use Rattle.tournament_rules.proofs.Breaks.{MayBreak, all-permuted}
use Rattle.tournament_rules.proofs.Insertions.{list_all-insert}
use Rattle.tournament_rules.proofs.Stayed.{all_stay}
use Rattle.tournament_rules.proofs.Left.{broken_left}

-- Players who take places change nothing but who sits where.
pub only_players : (table : ℕ) (names : List (List ℕ)) (places : List Place) (seating : Seating)
    → after_all table names places seating
    ≡ record seating { players = (after_all table names places seating).players }
only_players table [] places seating = refl
only_players table (name ∷ names) [] seating = refl
only_players table (name ∷ names) (place ∷ places) seating =
    by_move (move_of seating table name place) (only_players table names places)
  where
    by_move : (found : Option Move)
        → ((next : Seating) → after_all table names places next
        ≡ record next { players = (after_all table names places next).players })
        → after_all table names places (option_map_or (λ move_. after_move move_ seating) found seating)
        ≡ record seating {
          players = (after_all table names places
              (option_map_or (λ move_. after_move move_ seating) found seating)).players;
        }
    by_move None rest = rest seating
    by_move (Some move_) rest = rest (after_move move_ seating)

-- All who sit pass a test of places still where one of them took a place that passes it.
all-reseated : (test : Place → Bool) (move_ : Move) (found : Option Seated) (players : List Seated)
    → test move_.to ≡ true → list_all (λ player. test player.place) players ≡ true
    → list_all (λ player. test player.place) (reseated move_ found players) ≡ true
all-reseated test move_ None players to all = all
all-reseated test move_ (Some seated) players to all =
    list_all-insert (λ (player : Seated). test player.place) (lifted seated.player players)
    (count_by (λ other. comes_before other.place move_.to) (lifted seated.player players))
    (record seated { place = move_.to })
    (all_stay (λ (player : Seated). test player.place) (is_numbered seated.player) players all) to

all-taking : (test : Place → Bool) (table : ℕ) (name : List ℕ) (place : Place) (seating : Seating)
    → test place ≡ true → list_all (λ player. test player.place) seating.players ≡ true
    → list_all (λ player. test player.place) (after_taking table name place seating).players ≡ true
all-taking test table name place seating to all = by_find (find (is_called name) (players_at seating.players table))
  where
    by_find : (found : Option Seated)
        → list_all (λ (player : Seated). test player.place)
        (option_map_or (λ move_. after_move move_ seating)
        (option_map (λ player. record { player = player.player; from = player.place; to = place }) found)
        seating).players ≡ true
    by_find None = all
    by_find (Some player) =
        all-reseated test (record { player = player.player; from = player.place; to = place })
        (player_of seating.players player.player) seating.players to all

-- All who sit pass a test of places still where players took places that pass it.
pub all-after_all : (test : Place → Bool) (table : ℕ) (names : List (List ℕ)) (places : List Place) (seating : Seating)
    → list_all test places ≡ true → list_all (λ player. test player.place) seating.players ≡ true
    → list_all (λ player. test player.place) (after_all table names places seating).players ≡ true
all-after_all test table [] places seating free all = all
all-after_all test table (name ∷ names) [] seating free all = all
all-after_all test table (name ∷ names) (place ∷ places) seating free all =
    let parts = and_parts (test place) (list_all test places) free in
    all-after_all test table names places (after_taking table name place seating) parts.1
    (all-taking test table name place seating parts.0 all)

-- Everyone sits at an open table.
all-at_open : (all players : List Seated) → ((table : ℕ) → count_at players table ≤ count_at all table)
    → list_all (λ player. is_open all player.place.table) players ≡ true
all-at_open all [] fewer = refl
all-at_open all (player ∷ players) fewer =
    and_from _ _ (lt-ltb 0 (count_at all player.place.table) here)
    (all-at_open all players (λ table.
    let first = count_by-cons (sits_at table) player players in
    let most = fewer table in
    omega (arith, first, most)))
  where
    here : 0 < count_at all player.place.table
    here =
        let first = count_by-cons (sits_at player.place.table) player players in
        let his = ap (λ (b : Bool). cond {A = ℕ} b 1 0)
        (eq-eqb player.place.table player.place.table refl) in
        let most = fewer player.place.table in
        omega (arith, first, his, most)

module _ (book : BookState) (table : ℕ) (places : List Place) (names : List (List ℕ)) (valid : IsValid book)
    (may : MayBreak book table places names) where
  -- Once a table broke nobody sits where nobody sat.
  pub none-broken : (other : ℕ) → is_open book.seating.players other ≡ false
      → count_at (broken book table places names).seating.players other ≡ 0
  none-broken other closed =
      let players = book.seating.players in
      let test : Place → Bool = λ place. is_open players place.table in
      let fill = may.drawn.fill in
      let after = (broken book table places names).seating.players in
      let chosen = list_all-follows (λ (place : Place). is_other_open book.seating table place.table) test fill
      (λ place is. (and_parts (nat_lt 0 (count_at players place.table)) (not (place.table == table)) is).0)
      (chosen-elsewhere book.seating table (count_at players table) fill may.drawn.is) in
      let free = all-permuted test fill places may.drawn.right.places chosen in
      let all = all-after_all test table names places (with_table book.seating table forgotten) free
      (all-at_open players players (λ number. omega arith)) in
      count_by-none (sits_at other) after
      (list_all-follows (λ (player : Seated). test player.place) (λ player. not (sits_at other player)) after
      (λ player opened. ap not (false_from_ne_true (sits_at other player) (λ sits.
      both_ways (is_open players other) closed
      (ap (is_open players) (sym (eqb-true player.place.table other sits)) ∙ opened)))) all)

  -- And nobody sits at that table.
  pub nobody-broken : count_at (broken book table places names).seating.players table ≡ 0
  nobody-broken =
      sym (length-filter (sits_at table) (broken book table places names).seating.players)
      ∙ ap length (broken_left book table places names valid may)

  -- There are as many tables as before.
  pub tables-broken : (broken book table places names).seating.table_count ≡ book.seating.table_count
  tables-broken =
      ap (λ (seating : Seating). seating.table_count)
      (only_players table names places (with_table book.seating table forgotten))

  -- They stand as before but for the marks of that table.
  pub statuses-broken : (broken book table places names).seating.tables
      ≡ (with_table book.seating table forgotten).tables
  statuses-broken =
      ap (λ (seating : Seating). seating.tables)
      (only_players table names places (with_table book.seating table forgotten))
