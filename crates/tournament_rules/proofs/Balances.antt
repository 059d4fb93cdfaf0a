-- A book is valid once two tables are balanced.
use Rattle.std.proofs.Common.{◌≡◌, ◌∙◌, refl, sym, ap, subst, ℕ, ◌+◌, ◌≤◌, Bool, true, false, ◌==◌, ◌&&◌, List, arith}
use Rattle.std.specs.Prelude.{not, nat_lt, Option, Some, None}
use Rattle.std.specs.Option.{option_map_or}
use Rattle.std.proofs.lemmas.Bool.{and_parts, not-true, eq-eqb, ltb-false}
use Rattle.rulebook.specs.Checks.{first_that_holds}
use Rattle.rulebook.proofs.Checks.{none_holds}
use Rattle.rulebook.proofs.OccupiedSeats.{found-within}
use Rattle.rulebook.proofs.Passing.{none-filter}
use Rattle.rulebook.proofs.Sides.{others_fail}
use Rattle.rulebook.proofs.Tests.{find-all}
use Rattle.button_blinds.specs.declared.marks.Marks.{Marks}
use Rattle.seat_book.specs.declared.place.Place.{Place}
use Rattle.seat_book.specs.declared.seated.Seated.{Seated}
use Rattle.seat_book.specs.Players.{sits_in, player_at, player_of}
use Rattle.seat_book.specs.Counts.{count_at}
use Rattle.seat_book.specs.Tables.{status_at}
use Rattle.seat_book.specs.Seatings.{Seating, is_race_pending, is_round_open}
use Rattle.balance_rule.specs.declared.balance.Move.{Move}
use Rattle.balance_rule.specs.EmptySeats.{is_empty_seat, worst_of, worst_empty_seat}
use Rattle.balance_rule.specs.Balance.{next_big_seat, next_big_player, move_to, balance_move, balance_checks, reseated, after_move, is_not_fullest, is_not_shortest, is_even_enough}
use Rattle.balance_rule.proofs.FreeSeats.{worst-empty, empty-nobody}
use Rattle.balance_rule.proofs.Movers.{found-numbered, found-place}
use Rattle.break_draw.proofs.Chosen.{place-within}
use Rattle.tournament_events.specs.declared.event.Event.TheVariants.{Balance}
use Rattle.tournament_rules.specs.Books.{BookState, has_table}
use Rattle.tournament_rules.specs.Checks.{book_checks, book_refusal, is_table_open, is_playing}
use Rattle.tournament_rules.specs.Effects.{balanced}
use Rattle.tournament_rules.specs.Valid.{IsValid, is_lent}
use Rattle.tournament_rules.proofs.Passed.{is_so}
use Rattle.tournament_rules.proofs.Ends.{valid_counted}
use Rattle.tournament_rules.proofs.Begins.{all_rest}
use Rattle.tournament_rules.proofs.Fitting.{table_range}
use Rattle.tournament_rules.proofs.KeptUnits.{one_unit}
use Rattle.tournament_rules.proofs.Moved.{MayMove, moved, book_moved, valid_moved}

-- What is so of a balance that is not refused.
pub record MayBalance (book : BookState) (from to : ℕ) : Type 0 where
  pub from_open : is_table_open book from ≡ true
  pub to_open : is_table_open book to ≡ true
  pub rests : is_playing book from ≡ false
  pub no_race : is_race_pending book.seating ≡ false
  pub passed : first_that_holds (balance_checks book.seating from to) ≡ None
  pub gap : count_at book.seating.players to + 2 ≤ count_at book.seating.players from
  pub no_round : is_round_open book.seating ≡ false

-- Where the book does not refuse a balance both tables are open, and one has at least two players more than the other.
pub balance_passed : (book : BookState) (from to : ℕ) → book_refusal book (Balance from to) ≡ None
    → MayBalance book from to
unfolding book_refusal
balance_passed book from to none =
    let all = none_holds (book_checks book (Balance from to)) none in
    let going = and_parts _ _ all in
    let listed = and_parts _ _ going.1 in
    let both = and_parts (is_table_open book from) (is_table_open book to) (is_so _ listed.0) in
    let rests = and_parts _ _ listed.1 in
    let race = and_parts _ _ rests.1 in
    let fullest = and_parts _ _ race.1 in
    let shortest = and_parts _ _ fullest.1 in
    let even = and_parts _ _ shortest.1 in
    let round = and_parts _ _ even.1 in
    record {
      from_open = both.0;
      to_open = both.1;
      rests = not-true _ rests.0;
      no_race = not-true _ race.0;
      passed = none_of_three (not-true _ fullest.0) (not-true _ shortest.0) (not-true _ even.0);
      gap = ltb-false (count_at book.seating.players from) (count_at book.seating.players to + 2) (not-true _ even.0);
      no_round = not-true _ round.0;
    }
  where
    none_of_three : is_not_fullest book.seating from ≡ false → is_not_shortest book.seating to ≡ false
        → is_even_enough book.seating from to ≡ false → first_that_holds (balance_checks book.seating from to) ≡ None
    none_of_three fullest shortest even = rw (fullest, shortest, even) refl

-- Who moves by a balance, and where he sits then.
pub record Mover (seating : Seating) (from to : ℕ) (move_ : Move) : Type 0 where
  pub seated : Seated
  pub seat : ℕ
  pub sits : player_at seating.players (record { table = from; seat = next_big_seat seating from }) ≡ Some seated
  pub worst : worst_empty_seat seating to ≡ Some seat
  pub is : record { player = seated.player; from = seated.place; to = record { table = to; seat = seat } } ≡ move_

-- Where a balance has a move, there is a player who moves.
pub mover : (seating : Seating) (from to : ℕ) (move_ : Move) → balance_move seating from to ≡ Some move_
    → Mover seating from to move_
mover seating from to move_ is = by_parts (next_big_player seating from) refl (worst_empty_seat seating to) refl is
  where
    by_parts : (found : Option Seated) → next_big_player seating from ≡ found → (seat : Option ℕ)
        → worst_empty_seat seating to ≡ seat → move_to to found seat ≡ Some move_ → Mover seating from to move_
    by_parts None sits seat worst moves = absurd cc
    by_parts (Some seated) sits None worst moves = absurd cc
    by_parts (Some seated) sits (Some seat) worst moves =
        record { seated = seated; seat = seat; sits = sits; worst = worst; is = cc }

worst-within : (seats : ℕ) (is_empty : ℕ → Bool) (marks : Option Marks) (seat : ℕ) → 1 ≤ seats
    → worst_of seats is_empty marks ≡ Some seat → (1 ≤ seat) × (seat ≤ seats)
worst-within seats is_empty None seat some is = found-within is_empty seats seats seats seat some is
worst-within seats is_empty (Some marks) seat some is =
    found-within (λ other. is_empty other && not (other == marks.big)) seats seats marks.big seat some is

-- A book is valid once two tables are balanced.
pub valid_balanced : (book : BookState) (from to : ℕ) → IsValid book → book_refusal book (Balance from to) ≡ None
    → IsValid (balanced book from to)
valid_balanced book from to valid none = by_move (balance_move book.seating from to) refl
  where
    may : MayBalance book from to
    may = balance_passed book from to none

    counted : (now : BookState) → IsValid now → now.begun ≡ book.begun → now.group ≡ book.group
        → IsValid (record now { accepted = book.accepted + 1 })
    counted now is begun group =
        let before = valid.counted in
        let raised = valid.raised in
        valid_counted now (book.accepted + 1) now.stopped is (omega (arith, before, begun))
        (omega (arith, raised, group))

    by_mover : (move_ : Move) → Mover book.seating from to move_
        → IsValid (record book { seating = after_move move_ book.seating; accepted = book.accepted + 1 })
    by_mover move_ who =
        let players = book.seating.players in
        let tables = book.seating.tables in
        let lawful = valid.tables.lawful in
        let place : Place = record { table = to; seat = who.seat } in
        let big : Place = record { table = from; seat = next_big_seat book.seating from } in
        let there = found-place players big who.seated who.sits in
        let number = found-numbered (sits_in big) players who.seated lawful.apart who.sits in
        let table : who.seated.place.table ≡ from = ap (λ (p : Place). p.table) there in
        let within = worst-within book.seating.seat_count (is_empty_seat players to)
        (status_at book.seating.tables to).marks who.seat (let some = lawful.some_seats in omega
        (arith, some)) who.worst in
        let opened = and_parts (has_table book to) (nat_lt 0 (count_at players to)) may.to_open in
        let left = and_parts (has_table book from) (nat_lt 0 (count_at players from)) may.from_open in
        let range = table_range 1 book.plan.tables to opened.0 in
        let may_move : MayMove book who.seated place = record {
          found = number;
          rests = others_fail (who.seated.place.table == from) (who.seated.stack == 0)
              (not-true (is_lent from who.seated) (find-all (sits_in big) (λ player. not (is_lent from player)) players
              who.seated who.sits (none-filter (is_lent from) players (all_rest book from valid may.rests))))
              (eq-eqb who.seated.place.table from table);
          within = place-within book.seating.table_count book.seating.seat_count to who.seat range.0
              (let tables = valid.tables.tables in let last = range.1 in omega (arith, tables, last)) within.0 within.1;
          free = empty-nobody players to who.seat (worst-empty book.seating.seat_count (is_empty_seat players to)
              (status_at book.seating.tables to).marks who.seat who.worst);
          keeps = λ marks is.
              let gap = may.gap in
              let same = ap (count_at players) table in
              omega (arith, gap, same);
          no_race = may.no_race;
          unit = one_unit book.plan book.level book.added tables players valid.units may.no_race to opened.0
              ∙ sym (ap (λ (number : ℕ). (status_at tables number).unit) table
              ∙ one_unit book.plan book.level book.added tables players valid.units may.no_race from left.0);
        } in
        let after = counted (book_moved book place who.seated) (valid_moved book who.seated place valid may_move) refl
        refl in
        let moves : reseated (record { player = who.seated.player; from = who.seated.place; to = place })
        (player_of players who.seated.player) players ≡ moved place who.seated players = rw number refl in
        let same : reseated move_ (player_of players move_.player) players ≡ moved place who.seated players =
        subst (λ (o : Move). reseated o (player_of players o.player) players ≡ moved place who.seated players) who.is
        moves in
        subst (λ (ps : List Seated). IsValid (record book {
          seating = record book.seating { players = ps };
          accepted = book.accepted + 1;
        })) (sym same) after

    by_move : (found : Option Move) → balance_move book.seating from to ≡ found
        → IsValid (record book {
          seating = option_map_or (λ move_. after_move move_ book.seating) found book.seating;
          accepted = book.accepted + 1;
        })
    by_move None is = counted book valid refl refl
    by_move (Some move_) is = by_mover move_ (mover book.seating from to move_ is)
