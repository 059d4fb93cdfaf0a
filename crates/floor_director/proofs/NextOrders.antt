-- The order that the floor owes by the tables' counts is the first among all lawful moves.
use Rattle.std.proofs.Common.{◌≡◌, ◌∙◌, refl, sym, ap, subst, ℕ, ◌+◌, ◌<◌, Bool, true, false, cond, List, [], ◌∷◌, Option, Some, None, inl, inr, arith}
use Rattle.std.specs.Prelude.{not, find, nat_lt, ◌&&◌, ◌||◌}
use Rattle.std.proofs.lemmas.Bool.{both_ways, cases_lt, cond_both, false_from_ne_true, lt-ltb, le-ltb, ltb-false}
use Rattle.rulebook.specs.Checks.{first_that_holds}
use Rattle.floor_text.specs.declared.refusal.Refusal.TheVariants.{NotFullest, NotShortest, EvenEnough}
use Rattle.seat_book.specs.declared.place.Place.{Place}
use Rattle.seat_book.specs.Places.{IsTableOf}
use Rattle.seat_book.specs.Counts.{count_at, greatest_count, is_open, least_count, table_numbers}
use Rattle.seat_book.specs.Seatings.{Seating, is_not_last, is_race_pending, is_round_open}
use Rattle.balance_rule.specs.declared.balance.Move.{Move}
use Rattle.balance_rule.specs.Balance.{balance_move, is_even_enough, is_not_fullest, is_not_shortest}
use Rattle.balance_rule.specs.Filling.{fill_seats, names_at}
use Rattle.balance_rule.specs.Moves.{FloorMove, IsLawfulMove}
use Rattle.balance_rule.specs.Moves.{Balance as ByBalance, Break as ByBreak}
use Rattle.balance_rule.proofs.Extremes.{greatest-above, least-below}
use Rattle.balance_rule.proofs.Balances.{checked-lawful}
use Rattle.balance_rule.proofs.Converse.{lawful-checked}
use Rattle.break_draw.specs.declared.random.DrawKind.TheVariants.{Seats, Names}
use Rattle.break_draw.specs.Generator.{drawn_order}
use Rattle.break_draw.proofs.Shuffles.{drawn-permutes}
use Rattle.tournament_events.specs.declared.event.Event.{Event}
use Rattle.tournament_events.specs.declared.event.Event.TheVariants as events
use Rattle.floor_director.specs.Orders.{balance_of, break_of, drawn_break, first_order, giver, is_last_open, is_playing, last_open, may_give, may_take, next_order, owed_balance, owed_break, taker}
use Rattle.floor_director.specs.Owed.{IsNextOrder, IsOwedBalance, IsOwedBreak}
use Rattle.floor_director.proofs.FirstTables.{IsFirst, IsLowest, tables-any, tables-first, tables-none}

-- what each of three tests tells where the first passes and the others fail
record PassesFirst (one two three : Bool) : Type 0 where
  first : one ≡ true
  second : two ≡ false
  third : three ≡ false

gives : (one two three : Bool) → one ≡ true → two ≡ false → three ≡ false → (one && not two && not three) ≡ true
gives one two three one_is two_is three_is = rw (one_is, two_is, three_is) refl

given : (one two three : Bool) → (one && not two && not three) ≡ true → PassesFirst one two three
given true false false all = record { first = refl; second = refl; third = refl }
given true false true all = absurd cc
given true true three all = absurd cc
given false two three all = absurd cc

takes : (one two : Bool) → one ≡ true → two ≡ false → (one && not two) ≡ true
takes one two one_is two_is = rw (one_is, two_is) refl

-- Where one test passes and another fails.
pub taken : (one two : Bool) → (one && not two) ≡ true → (one ≡ true) × (two ≡ false)
taken true false all = (refl, refl)
taken true true all = absurd cc
taken false two all = absurd cc

-- none of three checks holds
none_three : {A : Type 0} (a b c : A) (one two three : Bool)
    → first_that_holds ((a, one) ∷ (b, two) ∷ (c, three) ∷ []) ≡ None
    → (one ≡ false) × ((two ≡ false) × (three ≡ false))
none_three a b c false false false none = (refl, (refl, refl))
none_three a b c true two three none = absurd cc
none_three a b c false true three none = absurd cc
none_three a b c false false true none = absurd cc

three_none : {A : Type 0} (a b c : A) (one two three : Bool) → one ≡ false → two ≡ false → three ≡ false
    → first_that_holds ((a, one) ∷ (b, two) ∷ (c, three) ∷ []) ≡ None
three_none a b c one two three one_is two_is three_is = rw (one_is, two_is, three_is) refl

neither : (one two : Bool) → (one || two) ≡ false → (one ≡ false) × (two ≡ false)
neither true two none = absurd cc
neither false two none = (refl, none)

-- Where no check of a balance but the last may hold, what is answered tells whether the last holds.
pub last-free : {A : Type 0} (a b c : A) (one two three : Bool) → one ≡ false → two ≡ false
    → first_that_holds ((a, one) ∷ (b, two) ∷ (c, three) ∷ []) ≡ None → three ≡ false
last-free a b c one two three one_is two_is none = (none_three a b c one two three none).1.1

pub last-held : {A : Type 0} (a b c found : A) (one two three : Bool) → one ≡ false → two ≡ false
    → first_that_holds ((a, one) ∷ (b, two) ∷ (c, three) ∷ []) ≡ Some found → three ≡ true
last-held a b c found false false true one_is two_is held = refl
last-held a b c found false false false one_is two_is held = absurd cc
last-held a b c found true two three one_is two_is held = absurd cc
last-held a b c found false true three one_is two_is held = absurd cc

-- What the table that gives a player and the one that takes him pass.
pub giver-gives : (seating : Seating) (from : ℕ) → giver seating ≡ Some from
    → (is_open seating.players from ≡ true)
    × ((is_playing seating from ≡ false) × (is_not_fullest seating from ≡ false))
unfolding giver
giver-gives seating from is =
    let first = subst (IsFirst (may_give seating) 0 seating.table_count) is
    (tables-first (may_give seating) seating.table_count) in
    let parts = given (is_open seating.players from) (is_playing seating from) (is_not_fullest seating from)
    first.passes in
    (parts.first, (parts.second, parts.third))

pub taker-takes : (seating : Seating) (to : ℕ) → taker seating ≡ Some to
    → (is_open seating.players to ≡ true) × (is_not_shortest seating to ≡ false)
unfolding taker
taker-takes seating to is =
    let first = subst (IsFirst (may_take seating) 0 seating.table_count) is
    (tables-first (may_take seating) seating.table_count) in
    taken (is_open seating.players to) (is_not_shortest seating to) first.passes

-- No balance is owed where no table gives a player, or none takes one.
pub balance-without_giver : (seating : Seating) → giver seating ≡ None → owed_balance seating ≡ None
unfolding owed_balance
balance-without_giver seating none = rw none refl

pub balance-without_taker : (seating : Seating) → taker seating ≡ None → owed_balance seating ≡ None
unfolding owed_balance
balance-without_taker seating none = by_giver (giver seating) (taker seating) none
  where
    by_giver : (from to : Option ℕ) → to ≡ None → balance_of seating from to ≡ None
    by_giver None to is = refl
    by_giver (Some from) to is = rw is refl

-- The balance that is owed between the table that gives a player and the one that takes him.
pub balance-between : (seating : Seating) (from to : ℕ) (even : Bool) → giver seating ≡ Some from
    → taker seating ≡ Some to → is_even_enough seating from to ≡ even
    → owed_balance seating ≡ cond even None (Some (events.Balance from to))
unfolding owed_balance
balance-between seating from to even from_is to_is even_is =
    (λ i. balance_of seating (from_is i) (to_is i))
    ∙ ap (λ (b : Bool). cond {A = Option Event} b None (Some (events.Balance from to))) even_is

-- Of two balances that are one, the tables are the same: so the move of the one is that of the other.
pub moved-on : (seating : Seating) (a b from to one other : ℕ) (move_ : Move) → a ≡ one → b ≡ other
    → Some (events.Balance a b) ≡ Some (events.Balance from to) → balance_move seating one other ≡ Some move_
    → (moved : Move) × (balance_move seating from to ≡ Some moved)
moved-on seating a b from to one other move_ a_is b_is same is =
    let first : from ≡ one = cc in
    let second : to ≡ other = cc in
    (move_, (λ i. balance_move seating (first i) (second i)) ∙ is)

-- No break is owed where no table is open, while the last one plays, or where there is no room.
pub break-without_table : (seating : Seating) (seed : List ℕ) (number : ℕ) → last_open seating ≡ None
    → owed_break seating seed number ≡ None
unfolding owed_break
break-without_table seating seed number none = rw none refl

pub break-playing : (seating : Seating) (seed : List ℕ) (number table : ℕ) → last_open seating ≡ Some table
    → is_playing seating table ≡ true → owed_break seating seed number ≡ None
unfolding owed_break
break-playing seating seed number table last playing = rw (last, playing) refl

pub break-without_room : (seating : Seating) (seed : List ℕ) (number table : ℕ) → last_open seating ≡ Some table
    → is_playing seating table ≡ false → fill_seats seating table ≡ None → owed_break seating seed number ≡ None
unfolding owed_break
break-without_room seating seed number table last resting none =
    ap (break_of seating seed number) last
    ∙ (ap (λ (b : Bool). cond {A = Option Event} b None (drawn_break seating seed number table
    (fill_seats seating table))) resting
    ∙ ap (drawn_break seating seed number table) none)

-- The break that is owed, by its fill list.
pub break-drawn : (seating : Seating) (seed : List ℕ) (number table : ℕ) (fill : List Place)
    → last_open seating ≡ Some table → is_playing seating table ≡ false → fill_seats seating table ≡ Some fill
    → owed_break seating seed number
    ≡ Some (events.Break table (drawn_order seed Seats number fill)
    (drawn_order seed Names number (names_at seating table)))
unfolding owed_break
break-drawn seating seed number table fill last resting is =
    ap (break_of seating seed number) last
    ∙ (ap (λ (b : Bool). cond {A = Option Event} b None (drawn_break seating seed number table
    (fill_seats seating table))) resting
    ∙ ap (drawn_break seating seed number table) is)

-- The order that is owed is none where no move may be made, and else that of the break or, where none is owed, of the
-- balance.
pub order-held : (seating : Seating) (seed : List ℕ) (number : ℕ)
    → (is_race_pending seating || is_round_open seating) ≡ true → next_order seating seed number ≡ None
unfolding next_order
order-held seating seed number held =
    ap (λ (b : Bool). cond {A = Option Event} b None (first_order (owed_break seating seed number)
    (owed_balance seating))) held

pub order-free : (seating : Seating) (seed : List ℕ) (number : ℕ) → is_race_pending seating ≡ false
    → is_round_open seating ≡ false
    → next_order seating seed number ≡ first_order (owed_break seating seed number) (owed_balance seating)
unfolding next_order
order-free seating seed number no_race no_round =
    λ i. cond {A = Option Event} (no_race i || no_round i) None (first_order (owed_break seating seed number)
    (owed_balance seating))

and_first : (one two : Bool) → one ≡ false → (one && two) ≡ false
and_first one two fails = rw fails refl

and_second : (one two : Bool) → two ≡ false → (one && two) ≡ false
and_second true two fails = fails
and_second false two fails = refl

and_both : (one two : Bool) → one ≡ true → two ≡ true → (one && two) ≡ true
and_both one two first second = rw (first, second) refl

-- A table that breaks lawfully is the open one with the highest number.
pub lawful-last : (seating : Seating) (table : ℕ) (seats : List Place) (names : List (List ℕ))
    → IsLawfulMove seating (ByBreak table seats names) → is_last_open seating table ≡ true
lawful-last seating table seats names lawful =
    let own = lawful.lawful in
    takes (is_open seating.players table) (is_not_last seating table) own.free.opened
    (tables-none (λ other. is_open seating.players other && nat_lt table other) seating.table_count
    (λ other above within. elim (cases_lt table other) [
      | inl higher ↦ and_first (is_open seating.players other) (nat_lt table other)
          (own.last other (record { first = omega (arith, above); last = within }) higher)
      | inr lower ↦ and_second (is_open seating.players other) (nat_lt table other) (le-ltb table other lower)
    ]))

-- an open table with a higher number than another
not_last-above : (seating : Seating) (table other : ℕ) → IsTableOf seating.table_count other
    → is_open seating.players other ≡ true → table < other → is_not_last seating table ≡ true
not_last-above seating table other at opened higher =
    let first = at.first in
    tables-any (λ one. is_open seating.players one && nat_lt table one) seating.table_count other
    (omega (arith, first)) at.last
    (and_both (is_open seating.players other) (nat_lt table other) opened (lt-ltb table other higher))

-- the table that breaks lawfully is the one that is found
only-last : (seating : Seating) (table other : ℕ) (seats : List Place) (names : List (List ℕ))
    → IsLowest (is_last_open seating) 0 seating.table_count table
    → IsLawfulMove seating (ByBreak other seats names) → other ≡ table
only-last seating table other seats names first lawful =
    let own = lawful.lawful in
    let low = own.free.number.first in
    let least = first.lowest other (omega (arith, low)) own.free.number.last
    (lawful-last seating other seats names lawful) in
    elim (cases_lt table other) [
      | inl higher ↦ absurd (both_ways (is_not_last seating table)
          (taken (is_open seating.players table) (is_not_last seating table) first.passes).1
          (not_last-above seating table other own.free.number own.free.opened higher))
      | inr lower ↦ omega (arith, least, lower)
    ]

-- What is answered for the break.
abbrev pub IsBreakAnswer : Seating → List ℕ → ℕ → Option Event → Type 0
IsBreakAnswer seating seed number None = (table : ℕ) (seats : List Place) (names : List (List ℕ))
    → ¬ IsLawfulMove seating (ByBreak table seats names)
IsBreakAnswer seating seed number (Some order) = IsNextOrder seating seed number (Some order)

module _ (seating : Seating) (seed : List ℕ) (number : ℕ) (no_race : is_race_pending seating ≡ false)
    (no_round : is_round_open seating ≡ false) where
  owed-lawful : (table : ℕ) (fill : List Place) → IsLowest (is_last_open seating) 0 seating.table_count table
      → is_playing seating table ≡ false → fill_seats seating table ≡ Some fill
      → IsOwedBreak seating seed number table (drawn_order seed Seats number fill)
      (drawn_order seed Names number (names_at seating table))
  owed-lawful table fill first resting is =
      let parts = taken (is_open seating.players table) (is_not_last seating table) first.passes in
      record {
        lawful = record {
          no_race = no_race;
          no_round = no_round;
          lawful = record {
            free = record {
              number = record { first = (let above = first.above in omega (arith, above)); last = first.within };
              opened = parts.0;
              playing = resting;
            };
            last = λ other at higher. false_from_ne_true (is_open seating.players other)
                (λ opened. both_ways (is_not_last seating table) parts.1
                (not_last-above seating table other at opened higher));
            fill = (fill, (is, drawn-permutes seed Seats number fill));
            players = drawn-permutes seed Names number (names_at seating table);
          };
        };
        fill = (fill, (is, refl));
        players = refl;
      }

  by_fill : (table : ℕ) → IsLowest (is_last_open seating) 0 seating.table_count table
      → is_playing seating table ≡ false → (fill : Option (List Place)) → fill_seats seating table ≡ fill
      → IsBreakAnswer seating seed number (drawn_break seating seed number table fill)
  by_fill table first resting None none = λ other seats names lawful.
      let same = only-last seating table other seats names first lawful in
      let chosen = lawful.lawful.fill in
      let some : fill_seats seating table ≡ Some chosen.0 =
      ap (fill_seats seating) (sym same) ∙ chosen.1.0 in
      let never : None ≡ Some chosen.0 = sym none ∙ some in absurd cc
  by_fill table first resting (Some fill) is = owed-lawful table fill first resting is

  by_last : (last : Option ℕ) → IsFirst (is_last_open seating) 0 seating.table_count last
      → IsBreakAnswer seating seed number (break_of seating seed number last)
  by_last None none = λ table seats names lawful.
      let low = lawful.lawful.free.number.first in
      both_ways (is_last_open seating table)
      (none table (omega (arith, low)) lawful.lawful.free.number.last)
      (lawful-last seating table seats names lawful)
  by_last (Some table) first =
      cond_both {A = Option Event} (is_playing seating table) None
      (drawn_break seating seed number table (fill_seats seating table)) (IsBreakAnswer seating seed number)
      (λ playing other seats names lawful.
      let same = only-last seating table other seats names first lawful in
      both_ways (is_playing seating table)
      (ap (is_playing seating) (sym same) ∙ lawful.lawful.free.playing) playing)
      (λ resting. by_fill table first resting (fill_seats seating table) refl)

  -- The break that is owed is lawful, and where none is owed none is lawful.
  pub break-answer : IsBreakAnswer seating seed number (owed_break seating seed number)
  unfolding owed_break last_open
  break-answer = by_last (find (is_last_open seating) (table_numbers seating.table_count))
      (tables-first (is_last_open seating) seating.table_count)

-- the tables of a lawful balance may give and take
lawful-gives : (seating : Seating) (from to : ℕ) (move_ : Move) → IsLawfulMove seating (ByBalance from to move_)
    → may_give seating from ≡ true
lawful-gives seating from to move_ lawful =
    let own = lawful.lawful in
    gives (is_open seating.players from) (is_playing seating from) (is_not_fullest seating from) own.free.opened
    own.free.playing
    (none_three NotFullest NotShortest EvenEnough (is_not_fullest seating from) (is_not_shortest seating to)
    (is_even_enough seating from to) (lawful-checked seating from to move_ lawful)).0

lawful-takes : (seating : Seating) (from to : ℕ) (move_ : Move) → IsLawfulMove seating (ByBalance from to move_)
    → may_take seating to ≡ true
lawful-takes seating from to move_ lawful =
    takes (is_open seating.players to) (is_not_shortest seating to) lawful.lawful.opened
    (none_three NotFullest NotShortest EvenEnough (is_not_fullest seating from) (is_not_shortest seating to)
    (is_even_enough seating from to) (lawful-checked seating from to move_ lawful)).1.0

-- tables that give and take differ by two players where a lawful balance is anywhere
gap-anywhere : (seating : Seating) (from to a b : ℕ) (move_ : Move) → is_not_fullest seating from ≡ false
    → is_not_shortest seating to ≡ false → IsLawfulMove seating (ByBalance a b move_)
    → is_even_enough seating from to ≡ false
gap-anywhere seating from to a b move_ full short lawful =
    let own = lawful.lawful in
    let most = ltb-false (count_at seating.players from) (greatest_count seating.table_count seating.players) full in
    let least = ltb-false (least_count seating.table_count seating.players) (count_at seating.players to) short in
    let above = greatest-above seating.table_count a seating.players own.free.number own.free.opened in
    let below = least-below seating.table_count b seating.players own.number own.opened in
    let gap = own.gap in
    le-ltb (count_at seating.players from) (count_at seating.players to + 2)
    (omega (arith, most, least, above, below, gap))

module _ (seating : Seating) (seed : List ℕ) (number : ℕ) (no_race : is_race_pending seating ≡ false)
    (no_round : is_round_open seating ≡ false)
    (no_break : (table : ℕ) (seats : List Place) (names : List (List ℕ))
    → ¬ IsLawfulMove seating (ByBreak table seats names)) where
  never : ((from to : ℕ) (move_ : Move) → ¬ IsLawfulMove seating (ByBalance from to move_)) → (move : FloorMove)
      → ¬ IsLawfulMove seating move
  never balances (ByBalance from to move_) lawful = balances from to move_ lawful
  never balances (ByBreak table seats names) lawful = no_break table seats names lawful

  first-balance : (from to : ℕ) → IsLowest (may_give seating) 0 seating.table_count from
      → IsLowest (may_take seating) 0 seating.table_count to → is_even_enough seating from to ≡ false
      → (move_ : Move) × (balance_move seating from to ≡ Some move_) → IsOwedBalance seating from to
  first-balance from to gives_first takes_first uneven moved =
      let giving = given (is_open seating.players from) (is_playing seating from) (is_not_fullest seating from)
      gives_first.passes in
      let taking = taken (is_open seating.players to) (is_not_shortest seating to) takes_first.passes in
      record {
        no_break = no_break;
        lawful = (
          moved.0,
          checked-lawful seating from to moved.0 no_race no_round (record {
            number = record {
              first = (let above = gives_first.above in omega (arith, above));
              last = gives_first.within;
            };
            opened = giving.first;
            playing = giving.second;
          }) (record {
            first = (let above = takes_first.above in omega (arith, above));
            last = takes_first.within;
          }) taking.0
              (three_none NotFullest NotShortest EvenEnough (is_not_fullest seating from) (is_not_shortest seating to)
              (is_even_enough seating from to) giving.third taking.1 uneven) moved.1,
        );
        lowest_from = λ other another move_ lawful.
            let low = lawful.lawful.free.number.first in
            gives_first.lowest other (omega (arith, low)) lawful.lawful.free.number.last
            (lawful-gives seating other another move_ lawful);
        lowest_to = λ another move_ lawful.
            let low = lawful.lawful.number.first in
            takes_first.lowest another (omega (arith, low)) lawful.lawful.number.last
            (lawful-takes seating from another move_ lawful);
      }

  by_tables : (from to : Option ℕ) → IsFirst (may_give seating) 0 seating.table_count from
      → IsFirst (may_take seating) 0 seating.table_count to
      → ((a b : ℕ) → balance_of seating from to ≡ Some (events.Balance a b)
      → (move_ : Move) × (balance_move seating a b ≡ Some move_))
      → IsNextOrder seating seed number (balance_of seating from to)
  by_tables None to none_gives takes_first moved = never (λ from another move_ lawful.
      let low = lawful.lawful.free.number.first in
      both_ways (may_give seating from) (none_gives from (omega (arith, low)) lawful.lawful.free.number.last)
      (lawful-gives seating from another move_ lawful))
  by_tables (Some from) None gives_first none_takes moved = never (λ other another move_ lawful.
      let low = lawful.lawful.number.first in
      both_ways (may_take seating another) (none_takes another (omega (arith, low)) lawful.lawful.number.last)
      (lawful-takes seating other another move_ lawful))
  by_tables (Some from) (Some to) gives_first takes_first moved =
      cond_both {A = Option Event} (is_even_enough seating from to) None (Some (events.Balance from to))
      (IsNextOrder seating seed number)
      (λ even. never (λ other another move_ lawful.
      both_ways (is_even_enough seating from to)
      (gap-anywhere seating from to other another move_
      (given (is_open seating.players from) (is_playing seating from) (is_not_fullest seating from)
      gives_first.passes).third
      (taken (is_open seating.players to) (is_not_shortest seating to) takes_first.passes).1 lawful) even))
      (λ uneven. first-balance from to gives_first takes_first uneven
      (moved from to (ap (λ (b : Bool). cond {A = Option Event} b None (Some (events.Balance from to))) uneven)))

  -- Where no break is lawful, the balance that is owed is the first, and where none is owed no move is lawful.
  pub balance-answer : ((from to : ℕ) → owed_balance seating ≡ Some (events.Balance from to)
      → (move_ : Move) × (balance_move seating from to ≡ Some move_))
      → IsNextOrder seating seed number (owed_balance seating)
  unfolding owed_balance giver taker
  balance-answer moved =
      by_tables (find (may_give seating) (table_numbers seating.table_count))
      (find (may_take seating) (table_numbers seating.table_count))
      (tables-first (may_give seating) seating.table_count) (tables-first (may_take seating) seating.table_count) moved
