-- What a begin and a settle that are taken make of the starts of the hands that are out.
use Rattle.std.proofs.Common.{◌≡◌, ◌∙◌, refl, sym, ap, ℕ, zero, suc, false, List, [], ◌∷◌, arith}
use Rattle.std.specs.Prelude.{◌==◌, Option, Some, None, option_map, slice_index_or, slice_set}
use Rattle.std.specs.Option.{option_map_or}
use Rattle.std.proofs.lemmas.List.{get_or-set_same, get_or-set_other}
use Rattle.rulebook.proofs.Tests.{some_there}
use Rattle.card_set.specs.declared.card.CardRow.{CardRow}
use Rattle.table_engine.specs.declared.start.HandStart.{HandStart}
use Rattle.tournament_events.specs.declared.event.Event.TheVariants as events
use Rattle.tournament_rules.specs.Books.{start_at}
use Rattle.tournament_rules.specs.Dealing.{next_start}
use Rattle.tournament_rules.specs.Effects.{settled}
use Rattle.tournament_rules.specs.States.{PlayState, acts_at, play_effect, refusal_of}
use Rattle.tournament_rules.specs.Valid.{IsValidPlay}
use Rattle.tournament_rules.proofs.Begins.{may_begin, none_started}
use Rattle.tournament_rules.proofs.Fitting.{other_number, table_range}
use Rattle.tournament_rules.proofs.Going.{goes_on}
use Rattle.tournament_rules.proofs.Passed.{passed-parts, settle_passed}

-- A place that is set to what stands for none is found as that.
pub reset : {A : Type 0} (items : List A) (place : ℕ) (none : A)
    → slice_index_or (slice_set items place none) place none ≡ none
reset [] place none = refl
reset (first ∷ items) zero none = refl
reset (first ∷ items) (suc place) none = reset items place none

-- A begin is taken: the tournament goes on, and the next hand is out at a table where none was.
pub record IsBegunAt (play : PlayState) (table : ℕ) (row : CardRow) : Type 0 where
  pub going : play.book.stopped ≡ false
  pub before : start_at play.book.started table ≡ None
  pub after : start_at (play_effect play (events.Begin table row)).book.started table
      ≡ Some (next_start play.book table row.cards)

-- It is so of each begin that is not refused.
pub begun-at : (play : PlayState) (table : ℕ) (row : CardRow) → IsValidPlay play
    → refusal_of play (events.Begin table row) ≡ None → IsBegunAt play table row
begun-at play table row valid none =
    let free = (passed-parts play (events.Begin table row) none).0 in
    let may = may_begin play.book table row free in
    let range = table_range 1 play.book.plan.tables table may.there in
    let room = valid.book.tables.room in
    record {
      going = goes_on play.book (events.Begin table row) free;
      before = none_started play.book table valid.book may.rests;
      after = get_or-set_same play.book.started table (Some (next_start play.book table row.cards)) None
          (omega (arith, range.1, room));
    }

-- A settle is taken: the tournament goes on, and the hand of this start is out at the table, and no longer after it.
pub record IsSettledAt (play : PlayState) (table : ℕ) (start : HandStart) : Type 0 where
  pub going : play.book.stopped ≡ false
  pub before : start_at play.book.started table ≡ Some start
  pub here : start.table ≡ table
  pub after : start_at (play_effect play (events.Settle table)).book.started table ≡ None
  pub elsewhere : (other : ℕ) → (table == other) ≡ false
      → start_at (play_effect play (events.Settle table)).book.started other ≡ start_at play.book.started other

-- It is so of each settle that is not refused.
pub settled-at : (play : PlayState) (table : ℕ) → IsValidPlay play → refusal_of play (events.Settle table) ≡ None
    → (start : HandStart) × IsSettledAt play table start
settled-at play table valid none =
    let free = (passed-parts play (events.Settle table) none).0 in
    let plays = (settle_passed play.book table free).playing in
    let found = some_there (start_at play.book.started table) (sym (valid.book.tables.playing table) ∙ plays) in
    let here = (valid.book.hands.starts table found.0 found.1).here in
    let starts : (play_effect play (events.Settle table)).book.started ≡ slice_set play.book.started table None =
    ap (λ (start : Option HandStart). (option_map_or (settled play.book)
    (option_map (λ (start : HandStart). record { start = start; acts = acts_at play.acts table }) start)
    play.book).started) found.1
    ∙ ap (λ (number : ℕ). slice_set play.book.started number None) here in (
      found.0,
      record {
        going = goes_on play.book (events.Settle table) free;
        before = found.1;
        here = here;
        after = ap (λ (started : List (Option HandStart)). start_at started table) starts
            ∙ reset play.book.started table None;
        elsewhere = λ other apart. ap (λ (started : List (Option HandStart)). start_at started other) starts
            ∙ get_or-set_other play.book.started table other None None (other_number table other apart);
      },
    )
