-- A book is valid once a player who is in no hand moved to an empty place, with his stack.
use Rattle.std.proofs.Common.{◌≡◌, ◌∙◌, refl, sym, ap, subst, ℕ, ◌+◌, ◌≤◌, Bool, true, false, cond, ◌==◌, List, [], ◌∷◌, ◌++◌, map, ◌%◌, ◌⊎◌, inl, inr, arith}
use Rattle.std.specs.Prelude.{not, find, filter, count_by, sum_by, Some, None}
use Rattle.std.specs.List.{list_all, All}
use Rattle.std.specs.Option.{ForSome}
use Rattle.std.proofs.lemmas.Bool.{and_parts, cases_Bool, eqb-true, and_right}
use Rattle.std.proofs.lemmas.Option.{same_Some}
use Rattle.std.proofs.lemmas.List.Elements.{All-filter, All-head, All-tail, filter-append}
use Rattle.std.proofs.lemmas.List.Sums.{sum_by-append, sum_by-cons, sum_by-insert}
use Rattle.rulebook.proofs.Passing.{filter-all, find-none, none-find}
use Rattle.rulebook.proofs.Tests.{find-all, list_all-filtered}
use Rattle.button_blinds.specs.declared.marks.Marks.{Marks}
use Rattle.seat_book.specs.declared.place.Place.{Place}
use Rattle.seat_book.specs.declared.seated.Seated.{Seated}
use Rattle.seat_book.specs.Places.{comes_before, is_place_of}
use Rattle.seat_book.specs.Players.{sits_at, sits_in, is_numbered, player_at, player_of, sit_down, lifted, are_apart}
use Rattle.seat_book.specs.Counts.{count_at}
use Rattle.seat_book.specs.Tables.{status_at}
use Rattle.seat_book.specs.Seatings.{is_entry, is_race_pending}
use Rattle.tournament_rules.specs.Books.{BookState}
use Rattle.tournament_rules.specs.Players.{start_seat}
use Rattle.tournament_rules.specs.Units.{is_whole_at}
use Rattle.tournament_rules.specs.Valid.{IsValid, is_lent}
use Rattle.tournament_rules.proofs.KeptUnits.{none_due}
use Rattle.tournament_rules.proofs.Insertions.{list_all-insert, All-insert, filter-insert_no}
use Rattle.tournament_rules.proofs.Names.{IsNamed}
use Rattle.tournament_rules.proofs.SitDown.{seating-sit_down}
use Rattle.tournament_rules.proofs.Stayed.{all_stay, seating_left}

-- the players once this one has left his seat and sits in another place, with his stack
abbrev pub moved : Place → Seated → List Seated → List Seated
moved place player players = sit_down (record player { place = place }) (lifted player.player players)

-- One player stands among the others, and they are those who stay when he leaves.
pub record StandsAmong (player : Seated) (players : List Seated) : Type 0 where
  pub front : List Seated
  pub back : List Seated
  pub all : players ≡ front ++ player ∷ back
  pub others : lifted player.player players ≡ front ++ back

-- Who is found by his number stands among the others.
pub stands_among : (player : Seated) (players : List Seated) → are_apart players ≡ true
    → player_of players player.player ≡ Some player → StandsAmong player players
stands_among player [] apart found = absurd cc
stands_among player (first ∷ players) apart found =
    let parts = and_parts (list_all (λ other. not (is_numbered first.player other)) players)
    (are_apart players) apart in
    by_number (is_numbered player.player first) refl parts.0 (stands_among player players parts.1)
  where
    by_number : (b : Bool) → is_numbered player.player first ≡ b
        → list_all (λ other. not (is_numbered first.player other)) players ≡ true
        → (player_of players player.player ≡ Some player → StandsAmong player players)
        → StandsAmong player (first ∷ players)
    by_number true here others later =
        let found : Some first ≡ Some player = rw here at found in
        let same : first ≡ player = cc in
        let number : first.player ≡ player.player = eqb-true first.player player.player here in
        let kept : lifted player.player players ≡ players =
        filter-all (λ other. not (is_numbered player.player other)) players
        (ap (λ (n : ℕ). list_all (λ other. not (is_numbered n other)) players) (sym number) ∙ others) in
        record {
          front = [];
          back = players;
          all = ap (λ (p : Seated). p ∷ players) same;
          others = rw here kept;
        }
    by_number false here others later =
        let found : player_of players player.player ≡ Some player = rw here at found in
        let rest = later found in
        record {
          front = first ∷ rest.front;
          back = rest.back;
          all = ap (λ (ps : List Seated). first ∷ ps) rest.all;
          others = rw here (ap (λ (ps : List Seated). first ∷ ps) rest.others);
        }

module _ (place : Place) (player : Seated) (players : List Seated) (apart : are_apart players ≡ true)
    (found : player_of players player.player ≡ Some player) where
  abbrev there : Seated
  there = record player { place = place }

  among : StandsAmong player players
  among = stands_among player players apart found

  -- What is summed over the players changes by what he counts here and there.
  pub sum-moved : (f : Seated → ℕ) → sum_by f (moved place player players) + f player ≡ sum_by f players + f there
  sum-moved f =
      let others = lifted player.player players in
      let down = sum_by-insert f others (count_by (λ other. comes_before other.place place) others) there in
      let kept = ap (sum_by f) among.others in
      let before = ap (sum_by f) among.all in
      let whole = sum_by-append f among.front (player ∷ among.back) in
      let his = sum_by-cons f player among.back in
      let rest = sum_by-append f among.front among.back in
      omega (arith, down, kept, before, whole, his, rest)

  -- What all pass, all pass who sit then.
  pub all-moved : (test : Seated → Bool) → list_all test players ≡ true → test there ≡ true
      → list_all test (moved place player players) ≡ true
  all-moved test all his =
      list_all-insert test (lifted player.player players) _ there
      (all_stay test (is_numbered player.player) players all) his

  -- Whom a test picks that he does not pass here nor there, it picks then.
  pub filter-moved : (test : Seated → Bool) → test player ≡ false → test there ≡ false
      → filter test (moved place player players) ≡ filter test players
  filter-moved test here away =
      let whole : filter test (among.front ++ player ∷ among.back)
      ≡ filter test among.front ++ filter test among.back = rw
      (filter-append test among.front (player ∷ among.back), here) refl in
      filter-insert_no test (lifted player.player players) _ there away
      ∙ (ap (filter test) among.others ∙ (filter-append test among.front among.back
      ∙ (sym whole ∙ sym (ap (filter test) among.all))))

-- What all of a list are, who is found in it is.
All-found : {A : Type 0} (P : A → Type 0) (test : A → Bool) (items : List A) (found : A) → All P items
    → find test items ≡ Some found → P found
All-found P test [] found all is = absurd cc
All-found P test (item ∷ items) found all is =
    by_test (test item) refl (All-head P item items all)
    (All-found P test items found (All-tail P item items all))
  where
    by_test : (b : Bool) → test item ≡ b → P item → (find test items ≡ Some found → P found) → P found
    by_test true passes here later =
        let first : Some item ≡ Some found = rw passes at is in
        subst P (same_Some item found first) here
    by_test false passes here later = later (rw passes at is)

-- A player may move to a place: he sits and has something at rest, nobody sits in the place, his table has no marks or
-- another player, no race is pending, and both tables have one unit.
pub record MayMove (book : BookState) (player : Seated) (place : Place) : Type 0 where
  pub found : player_of book.seating.players player.player ≡ Some player
  pub rests : (player.stack == 0) ≡ false
  pub within : is_place_of book.seating.table_count book.seating.seat_count place ≡ true
  pub free : player_at book.seating.players place ≡ None
  pub keeps : ForSome (status_at book.seating.tables player.place.table).marks
      (λ marks. 2 ≤ count_at book.seating.players player.place.table)
  pub no_race : is_race_pending book.seating ≡ false
  pub unit : (status_at book.seating.tables place.table).unit
      ≡ (status_at book.seating.tables player.place.table).unit

-- the book once this player sits in another place
abbrev pub book_moved : BookState → Place → Seated → BookState
book_moved book place player =
    record book { seating = record book.seating { players = moved place player book.seating.players } }

-- A book is valid once a player moved who may.
pub valid_moved : (book : BookState) (player : Seated) (place : Place) → IsValid book → MayMove book player place
    → IsValid (book_moved book place player)
valid_moved book player place valid may =
    let players = book.seating.players in
    let tables = book.seating.tables in
    let lawful = valid.tables.lawful in
    let others = lifted player.player players in
    let new : Seated = record player { place = place } in
    let behind = count_by (λ other. comes_before other.place place) others in
    record {
      plan = valid.plan;
      entries = record {
        few = valid.entries.few;
        names = valid.entries.names;
        once = λ number.
            let same = sum-moved place player players lawful.apart may.found
            (λ other. cond {A = ℕ} (is_numbered number other) 1 0) in
            let before = valid.entries.once number in
            omega (arith, same, before);
        named = All-insert (IsNamed book.entries) others behind new
            (All-filter (λ other. not (is_numbered player.player other)) (IsNamed book.entries) players
            valid.entries.named)
            (All-found (IsNamed book.entries) (is_numbered player.player) players player valid.entries.named
            may.found);
      };
      tables = record {
        lawful = seating-sit_down (record book.seating { players = others }) new
            (seating_left book.seating (is_numbered player.player) lawful) may.within
            (find-all (is_numbered player.player) is_entry players player may.found lawful.entries)
            (find-none (sits_in place) others
            (all_stay (λ other. not (sits_in place other)) (is_numbered player.player) players
            (none-find (sits_in place) players may.free)))
            (list_all-filtered (λ other. not (is_numbered player.player other)) players);
        tables = valid.tables.tables;
        seats = valid.tables.seats;
        room = valid.tables.room;
        nobody = valid.tables.nobody;
        playing = valid.tables.playing;
      };
      hands = record {
        starts = valid.hands.starts;
        lent = λ table. ap (map start_seat)
            (filter-moved place player players lawful.apart may.found (is_lent table)
            (and_right (sits_at table player) (player.stack == 0) may.rests)
            (and_right (place.table == table) (player.stack == 0) may.rests)) ∙ valid.hands.lent table;
      };
      chips =
          let same = sum-moved place player players lawful.apart may.found (λ other. other.stack) in
          let before = valid.chips in
          omega (arith, same, before);
      units = record {
        units = valid.units.units;
        whole = all-moved place player players lawful.apart may.found (is_whole_at tables) valid.units.whole
            (ap (λ (unit : ℕ). player.stack % unit == 0) may.unit
            ∙ find-all (is_numbered player.player) (is_whole_at tables) players player may.found valid.units.whole);
        due = λ table new at. let none = none_due tables may.no_race table in absurd cc;
        few = valid.units.few;
      };
      marked = λ table marks is. still_one table marks is (cases_Bool (player.place.table == table));
      busts = valid.busts;
      counted = valid.counted;
      raised = valid.raised;
    }
  where
    still_one : (table : ℕ) (marks : Marks) → (status_at book.seating.tables table).marks ≡ Some marks
        → ((player.place.table == table) ≡ true) ⊎ ((player.place.table == table) ≡ false)
        → 1 ≤ count_at (moved place player book.seating.players) table
    still_one table marks is (inl same) =
        let here = eqb-true player.place.table table same in
        let two = may.keeps marks (ap (λ (n : ℕ). (status_at book.seating.tables n).marks) here ∙ is) in
        let sit = ap (count_at book.seating.players) here in
        let left = ap (λ (b : Bool). cond {A = ℕ} b 1 0) same in
        let sum = sum-moved place player book.seating.players valid.tables.lawful.apart may.found
        (λ other. cond {A = ℕ} (sits_at table other) 1 0) in
        omega (arith, two, sit, left, sum)
    still_one table marks is (inr differ) =
        let one = valid.marked table marks is in
        let stays = ap (λ (b : Bool). cond {A = ℕ} b 1 0) differ in
        let sum = sum-moved place player book.seating.players valid.tables.lawful.apart may.found
        (λ other. cond {A = ℕ} (sits_at table other) 1 0) in
        omega (arith, one, stays, sum)
