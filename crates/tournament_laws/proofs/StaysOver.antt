-- Once a tournament is over it stays over, with the same last player.
use Rattle.std.proofs.Common.{◌≡◌, ◌∙◌, refl, sym, ap, ℕ, zero, suc, ◌+◌, ◌<◌, ◌≤◌, Bool, true, false, cond, ◌==◌, eq-eqb, List, [], ◌∷◌, length, get_or, arith}
use Rattle.std.specs.Prelude.{not, nat_lt, Some, None, is_some}
use Rattle.std.specs.List.{list_all}
use Rattle.std.proofs.lemmas.Bool.{and_parts, eqb-true, ltb-true, not-true}
use Rattle.std.proofs.lemmas.List.Sums.{count_by-le-length, AllPass-from_list_all}
use Rattle.floor_text.specs.declared.refusal.Refusal.TheVariants.{PlanLate}
use Rattle.rulebook.proofs.Checks.{none_holds}
use Rattle.rulebook.proofs.Tests.{count_by-cons}
use Rattle.seat_book.specs.declared.place.Place.{Place}
use Rattle.seat_book.specs.declared.seated.Seated.{Seated}
use Rattle.seat_book.specs.Players.{sits_at}
use Rattle.seat_book.specs.Counts.{count_at, is_open}
use Rattle.seat_book.proofs.Numbers.{list_all-parts}
use Rattle.balance_rule.specs.Filling.{is_other_open, filled}
use Rattle.break_draw.proofs.Room.{filled-last}
use Rattle.break_draw.proofs.FillLaws.{chosen-elsewhere}
use Rattle.tournament_events.specs.declared.event.Event.{Event}
use Rattle.tournament_events.specs.declared.event.Event.TheVariants as events
use Rattle.tournament_rules.specs.Books.{BookState}
use Rattle.tournament_rules.specs.Checks.{Check, book_checks, book_refusal, is_over_for_all, is_playing}
use Rattle.tournament_rules.specs.Effects.{void_at, void_first}
use Rattle.tournament_rules.specs.States.{State, PlayState, refusal_of, play_effect, run}
use Rattle.tournament_rules.specs.Valid.{IsValidPlay}
use Rattle.tournament_rules.proofs.Balances.{balance_passed}
use Rattle.tournament_rules.proofs.Begins.{may_begin}
use Rattle.tournament_rules.proofs.Breaks.{break_passed}
use Rattle.tournament_rules.proofs.Passed.{passed-parts, act_passed, time_passed, settle_passed, plan_late, go_late}
use Rattle.tournament_laws.proofs.Kept.{run_keeps_valid}
use Rattle.tournament_laws.proofs.TheLast.{none_played}

-- Where the check at an index is that the tournament is over, an event that meets none finds it not over.
asked_at : (book : BookState) (event : Event) (index : ℕ) → book_refusal book event ≡ None
    → index < length (book_checks book event)
    → (get_or (book_checks book event) index (PlanLate, false)).1 ≡ is_over_for_all book
    → is_over_for_all book ≡ false
unfolding book_refusal
asked_at book event index none within is =
    let all = none_holds (book_checks book event) none in
    let his = AllPass-from_list_all (λ (check : Check). not check.1) (book_checks book event) all index
    (PlanLate, false)
    within in
    sym is ∙ not-true _ his

-- One player sits at one table.
one_table : (players : List Seated) (table other : ℕ) → length players ≡ 1 → 1 ≤ count_at players table
    → 1 ≤ count_at players other → table ≡ other
one_table [] table other one here there = absurd cc
one_table (player ∷ players) table other one here there = sym (his_table table here) ∙ his_table other there
  where
    his_table : (table : ℕ) → 1 ≤ count_at (player ∷ players) table → player.place.table ≡ table
    his_table table some =
        by_test (sits_at table player) refl (count_by-cons (sits_at table) player players)
        (count_by-le-length (sits_at table) players)
      where
        by_test : (sits : Bool) → sits_at table player ≡ sits
            → count_at (player ∷ players) table ≡ cond {A = ℕ} (sits_at table player) 1 0 + count_at players table
            → count_at players table ≤ length players → player.place.table ≡ table
        by_test true is all few = eqb-true player.place.table table is
        by_test false is all few =
            let none = ap (λ (sits : Bool). cond {A = ℕ} sits 1 0) is in
            absurd (omega (arith, one, some, none, all, few))

-- The tournament is over at each table: a single player has nobody to play with.
module _ (play : PlayState) (valid : IsValidPlay play) (over : is_over_for_all play.book ≡ true) where
  one : length play.book.seating.players ≡ 1
  one = eqb-true (length play.book.seating.players) 1
      (and_parts (nat_lt 0 (length play.book.busts)) (length play.book.seating.players == 1) over).1

  -- Nobody sits there with another.
  alone : (table : ℕ) → count_at play.book.seating.players table ≤ 1
  alone table =
      let most = count_by-le-length (sits_at table) play.book.seating.players in
      let all = one in
      omega (arith, most, all)

  -- No table plays.
  rests : (table : ℕ) → is_playing play.book table ≡ true → ⊥
  rests table playing =
      let none = ap is_some (none_played play.book table valid.book one) in
      let stands = valid.book.tables.playing table in
      absurd cc

  -- No table has where to send its player.
  nowhere : (table : ℕ) (chosen : List Place) (count : ℕ) → count_at play.book.seating.players table ≡ count
      → 1 ≤ count → filled play.book.seating table count ≡ Some chosen → ⊥
  nowhere table chosen zero there some is = absurd (omega (arith, some))
  nowhere table chosen (suc count) there some is =
      let test : Place → Bool = λ place. is_other_open play.book.seating table place.table in
      let last = filled-last play.book.seating table count chosen is in
      let elsewhere = chosen-elsewhere play.book.seating table (suc count) chosen is in
      let place = list_all-parts test last.0 (last.1.0 ∷ []) (sym (ap (list_all test) last.1.1.2) ∙ elsewhere) in
      let opened = and_parts (is_open play.book.seating.players last.1.0.table) (not (last.1.0.table == table))
      (and_parts (test last.1.0) true place.1).0 in
      let sits = ltb-true 0 (count_at play.book.seating.players last.1.0.table) opened.0 in
      let same = one_table play.book.seating.players last.1.0.table table one (omega (arith, sits))
      (omega (arith, there, some)) in
      let differs = not-true (last.1.0.table == table) opened.1 in
      let is_same = eq-eqb last.1.0.table table same in
      absurd cc

  -- A stop leaves who sits where.
  void_nothing : (tables : ℕ) → void_first play.book tables ≡ play.book
  void_nothing zero = refl
  void_nothing (suc tables) =
      ap (λ (book : BookState). void_at book (suc tables)) (void_nothing tables)
      ∙ rw (none_played play.book (suc tables) valid.book one) refl

  -- Who sits where and who is out stay as they are.
  record StaysSo (later : PlayState) : Type 0 where
    players : later.book.seating.players ≡ play.book.seating.players
    busts : later.book.busts ≡ play.book.busts

  -- Nothing is accepted but a stop.
  stays_so : (event : Event) → refusal_of play event ≡ None → StaysSo (play_effect play event)
  stays_so (events.Plan line) none =
      absurd (plan_late play.book line (passed-parts play (events.Plan line) none).0)
  stays_so events.Go none = absurd (go_late play.book (passed-parts play events.Go none).0)
  stays_so (events.Enter name table seat) none =
      let open_still = asked_at play.book (events.Enter name table seat) 7
      (passed-parts play (events.Enter name table seat) none).0 (omega arith) refl in
      let closed = over in
      absurd cc
  stays_so (events.Reenter name table seat) none =
      let open_still = asked_at play.book (events.Reenter name table seat) 7
      (passed-parts play (events.Reenter name table seat) none).0 (omega arith) refl in
      let closed = over in
      absurd cc
  stays_so (events.Begin table row) none =
      let two = (may_begin play.book table row (passed-parts play (events.Begin table row) none).0).two in
      let one = alone table in
      absurd (omega (arith, two, one))
  stays_so (events.Act table name act) none =
      absurd (rests table (act_passed play.book table name act
      (passed-parts play (events.Act table name act) none).0).playing)
  stays_so (events.Time table) none =
      absurd (rests table (time_passed play.book table (passed-parts play (events.Time table) none).0).playing)
  stays_so (events.Settle table) none =
      absurd (rests table (settle_passed play.book table (passed-parts play (events.Settle table) none).0).playing)
  stays_so (events.Balance from to) none =
      let gap = (balance_passed play.book from to (passed-parts play (events.Balance from to) none).0).gap in
      let one = alone from in
      absurd (omega (arith, gap, one))
  stays_so (events.Break table places names) none =
      let may = break_passed play.book table places names
      (passed-parts play (events.Break table places names) none).0 in
      let opened = (and_parts _ _ may.opened).1 in
      absurd (nowhere table may.drawn.fill (count_at play.book.seating.players table) refl
      (ltb-true 0 (count_at play.book.seating.players table) opened) may.drawn.is)
  stays_so events.Level none =
      let open_still = asked_at play.book events.Level 3 (passed-parts play events.Level none).0 (omega arith) refl in
      let closed = over in
      absurd cc
  stays_so (events.Race table row) none =
      let open_still = asked_at play.book (events.Race table row) 5 (passed-parts play (events.Race table row) none).0
      (omega arith) refl in
      let closed = over in
      absurd cc
  stays_so (events.Hands true) none =
      let open_still = asked_at play.book (events.Hands true) 2 (passed-parts play (events.Hands true) none).0
      (omega arith) refl in
      let closed = over in
      absurd cc
  stays_so (events.Hands false) none =
      let open_still = asked_at play.book (events.Hands false) 3 (passed-parts play (events.Hands false) none).0
      (omega arith) refl in
      let closed = over in
      absurd cc
  stays_so events.Round none =
      let open_still = asked_at play.book events.Round 3 (passed-parts play events.Round none).0 (omega arith) refl in
      let closed = over in
      absurd cc
  stays_so events.Stop none =
      let same = void_nothing play.book.plan.tables in
      record {
        players = ap (λ (book : BookState). book.seating.players) same;
        busts = ap (λ (book : BookState). book.busts) same;
      }

  -- It is over after any event that is accepted, with the same players.
  pub still_over : (event : Event) → refusal_of play event ≡ None
      → (is_over_for_all (play_effect play event).book ≡ true)
      × ((play_effect play event).book.seating.players ≡ play.book.seating.players)
  still_over event none =
      let so = stays_so event none in
      (rw (so.busts, so.players) over, so.players)

-- Once it is over it stays so after any list of events.
pub over-run : (state : State) (events : List Event) (earlier later : PlayState) → state.play ≡ Some earlier
    → (run state events).play ≡ Some later → IsValidPlay earlier → is_over_for_all earlier.book ≡ true
    → (is_over_for_all later.book ≡ true) × (later.book.seating.players ≡ earlier.book.seating.players)
over-run state events earlier later before after valid over =
    run_keeps_valid
    (λ play. (is_over_for_all play.book ≡ true) × (play.book.seating.players ≡ earlier.book.seating.players))
    (λ play event valid none so.
    let still = still_over play valid so.0 event none in (still.0, still.1 ∙ so.1))
    state events earlier later before after valid (over, refl)
