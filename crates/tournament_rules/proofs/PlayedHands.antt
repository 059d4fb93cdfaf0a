-- The hand that is played at a table.
use Rattle.std.proofs.Common.{◌≡◌, ◌∙◌, sym, ap, ℕ, true}
use Rattle.std.specs.Prelude.{Option, Some, option_map}
use Rattle.rulebook.proofs.Tests.{some_there}
use Rattle.table_engine.specs.declared.start.HandStart.{HandStart}
use Rattle.table_engine.specs.Hands.{HandTerms}
use Rattle.tournament_rules.specs.Books.{start_at}
use Rattle.tournament_rules.specs.Checks.{is_playing}
use Rattle.tournament_rules.specs.States.{PlayState, acts_at, hand_at}
use Rattle.tournament_rules.specs.Valid.{IsValidPlay}

-- The hand that is played at a table, and that it is that table's.
pub record IsPlayedAt (play : PlayState) (table : ℕ) : Type 0 where
  pub hand : HandTerms
  pub is : hand_at play table ≡ Some hand
  pub here : hand.start.table ≡ table

-- There is a hand at a table that is played at.
pub hand_there : (play : PlayState) (table : ℕ) → IsValidPlay play → is_playing play.book table ≡ true
    → IsPlayedAt play table
hand_there play table valid playing =
    let found = some_there (start_at play.book.started table) (sym (valid.book.tables.playing table) ∙ playing) in
    record {
      hand = record { start = found.0; acts = acts_at play.acts table };
      is = ap (λ (start : Option HandStart). option_map
          (λ (start : HandStart). record { start = start; acts = acts_at play.acts table }) start) found.1;
      here = (valid.book.hands.starts table found.0 found.1).here;
    }
