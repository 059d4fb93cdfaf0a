-- What comes next, by what is known of the book.
use Rattle.std.proofs.Common.{◌≡◌, ◌∙◌, refl, sym, ap, subst, ℕ, true, false, List, length, find, Option, Some, None}
use Rattle.std.specs.Prelude.{nat_lt, option_map}
use Rattle.std.specs.Option.{ForSome, option_map_or}
use Rattle.seat_book.specs.Counts.{table_numbers}
use Rattle.tournament_rules.specs.Books.{BookState}
use Rattle.tournament_rules.specs.Checks.{is_race_due}
use Rattle.tournament_rules.specs.States.{PlayState, State}
use Rattle.simulation_rules.specs.declared.place.SimPlace.{SimPlace}
use Rattle.simulation_rules.specs.declared.step.SimStep.TheVariants.{Take, End}
use Rattle.simulation_rules.specs.Course.{IsUnderWay}
use Rattle.simulation_rules.specs.Entrants.{entrants, next_entry}
use Rattle.simulation_rules.specs.Steps.{at_table, next_in_play, racing, simulated_next}

-- The book of a tournament, if it has one.
abbrev pub book_in : Option PlayState → Option BookState
book_in play = option_map (λ play. play.book) play

-- A tournament has one book.
pub same_book : (found : Option PlayState) (play : PlayState) (book : BookState) → book_in found ≡ Some book
    → found ≡ Some play → play.book ≡ book
same_book None play book has is = absurd cc
same_book (Some other) play book has is =
    let one : other ≡ play = cc in let its : other.book ≡ book = cc in
    ap (λ (play : PlayState). play.book) (sym one) ∙ its

module _ (seed : List ℕ) (number : ℕ) (play : PlayState) (place : SimPlace) where
  -- Nothing comes after a stop.
  next-stopped : play.book.stopped ≡ true → next_in_play seed number play place ≡ End
  unfolding next_in_play
  next-stopped stopped = rw stopped refl

  module _ (going : play.book.stopped ≡ false) where
    -- While there are seats to take, the next player enters.
    pub next-enters : nat_lt (length play.book.entries) (entrants play.book.plan) ≡ true
        → next_in_play seed number play place ≡ Take (next_entry play.book) place
    unfolding next_in_play
    next-enters some = rw (going, some) refl

    module _ (all : nat_lt (length play.book.entries) (entrants play.book.plan) ≡ false) where
      -- Where the tables are done, a race comes, or the next round.
      pub next-races : place.done ≡ true → next_in_play seed number play place
          ≡ racing seed number place (find (is_race_due play.book) (table_numbers play.book.plan.tables))
      unfolding next_in_play
      next-races done = rw (going, all, done) refl

      -- Else a table has its turn.
      pub next-turns : place.done ≡ false
          → next_in_play seed number play place ≡ at_table seed number play place
      unfolding next_in_play
      next-turns undone = rw (going, all, undone) refl

-- Nothing comes before there is a plan.
pub none-comes : (seed : List ℕ) (state : State) (place : SimPlace) → book_in state.play ≡ None
    → simulated_next seed state place ≡ End
none-comes seed state place none = by_play state.play none
  where
    by_play : (play : Option PlayState) → book_in play ≡ None
        → option_map_or (λ play. next_in_play seed state.accepted play place) play End ≡ End
    by_play None none = refl
    by_play (Some play) none = absurd cc

-- Nor once it is stopped.
pub stopped-comes : (seed : List ℕ) (state : State) (place : SimPlace) (book : BookState)
    → book_in state.play ≡ Some book → book.stopped ≡ true → simulated_next seed state place ≡ End
stopped-comes seed state place book has stopped = by_play state.play has
  where
    by_play : (play : Option PlayState) → book_in play ≡ Some book
        → option_map_or (λ play. next_in_play seed state.accepted play place) play End ≡ End
    by_play None has = absurd cc
    by_play (Some play) has =
        let same : play.book ≡ book = cc in
        next-stopped seed state.accepted play place (ap (λ (book : BookState). book.stopped) same ∙ stopped)

-- Once a tournament has a book, and until it is stopped, it is under way.
pub under_way-by : (found : Option PlayState) (place : SimPlace) (book : BookState)
    → ForSome found (λ play. play.book.stopped ≡ false → IsUnderWay play.book place) → book_in found ≡ Some book
    → book.stopped ≡ false → IsUnderWay book place
under_way-by None place book course has going = absurd cc
under_way-by (Some play) place book course has going =
    let same : play.book ≡ book = cc in
    subst (λ (book : BookState). IsUnderWay book place) same
    (course play refl (ap (λ (book : BookState). book.stopped) same ∙ going))
