-- The state to which the whole comes, beside that of the journal; and the entries of the plan.
use Rattle.std.proofs.Common.{◌≡◌, ◌∙◌, refl, sym, ap, ℕ, ◌+◌, ◌⊎◌, inl, inr, true, List, [], ◌∷◌, ◌++◌, drop, length}
use Rattle.std.specs.Prelude.{Some, None}
use Rattle.level_plan.specs.Drafts.{plan_of}
use Rattle.rulebook.proofs.Repeats.{get_or-repeated}
use Rattle.table_engine.specs.declared.record.ActOf.{ActOf}
use Rattle.tournament_events.specs.declared.event.Event.{Event}
use Rattle.tournament_events.specs.declared.event.Event.TheVariants as events
use Rattle.tournament_rules.specs.States.{State, PlayState, first_play, run, state_after}
use Rattle.tournament_rules.proofs.Entries.{start_none}
use Rattle.view_rules.specs.declared.entries.JournalEntry.{JournalEntry}
use Rattle.dock_rules.specs.Journals.{Settled, Tale, acts_before, are_accepted, events_of, told_one}
use Rattle.dock_rules.specs.Whole.{TableHands, first_acts, hands_played, whole_events}
use Rattle.whole_laws.proofs.Beside.{IsBeside}
use Rattle.whole_laws.proofs.Planning.{by_plan, end-makes, line-leaves}
use Rattle.whole_laws.proofs.AtTables.{hands_at}

-- The acts that the whole has at each table: those of the hand behind as many as were settled there.
abbrev pub acts_due : (ℕ → TableHands) → List Settled → ℕ → List ActOf
acts_due tables settled table = first_acts (drop (length (hands_at table settled)) (hands_played (tables table)))

-- Before the plan is whole, the whole comes to the state of the journal.
pub record ArePlanning (tale : Tale) (state : State) : Type 0 where
  pub none : tale.state.play ≡ None
  pub same : state ≡ tale.state

-- Once it is whole, both come to tournaments with one book.
pub record ArePlaying (tables : ℕ → TableHands) (tale : Tale) (state : State) : Type 0 where
  pub told : PlayState
  pub whole : PlayState
  pub told_is : tale.state.play ≡ Some told
  pub whole_is : state.play ≡ Some whole
  pub beside : IsBeside (acts_due tables tale.settled) told whole

-- The whole comes to a state beside that of the journal.
abbrev pub AreBeside : (ℕ → TableHands) → Tale → State → Type 0
AreBeside tables tale state = ArePlanning tale state ⊎ ArePlaying tables tale state

-- Its events are accepted, and lead there.
pub record IsWholeOf (tables : ℕ → TableHands) (tale : Tale) (state : State) (made : List Event) : Type 0 where
  pub accepted : are_accepted state made ≡ true
  pub beside : AreBeside tables tale (run state made)

-- An entry of the plan, in the whole.
pub step-planning : (tables : ℕ → TableHands) (tale : Tale) (state : State) (entry : JournalEntry)
    → ArePlanning tale state → are_accepted tale.state (events_of entry) ≡ true
    → IsWholeOf tables (told_one tale entry) state (whole_events tables tale entry.event)
step-planning tables tale state entry planning accepted = by_plan tale.state
    (λ event acts. are_accepted tale.state (acts_before event acts ++ event ∷ []) ≡ true
    → IsWholeOf tables (told_one tale (record entry { event = event; acts = acts })) state
    (whole_events tables tale event)) planning.none
    (λ line acts taken. record {
      accepted = ap (λ (state : State). are_accepted state (events.Plan line ∷ [])) planning.same ∙ taken;
      beside = inl (record {
        none = line-leaves tale.state line planning.none;
        same = ap (λ (state : State). state_after state (events.Plan line)) planning.same;
      });
    })
    (λ acts ends taken.
    let first : PlayState = first_play (plan_of tale.state.draft) in
    let made = end-makes tale.state planning.none ends in
    record {
      accepted = ap (λ (state : State). are_accepted state (events.Go ∷ [])) planning.same ∙ taken;
      beside = inr (record {
        told = first;
        whole = first;
        told_is = made;
        whole_is = ap (λ (state : State). (state_after state events.Go).play) planning.same ∙ made;
        beside = record {
          book = refl;
          rests = λ table. get_or-repeated (first.book.plan.tables + 1) table [];
          plays = λ going table start out.
              let none = start_none (first.book.plan.tables + 1) table in
              let never : None ≡ Some start = sym none ∙ out in
              absurd cc;
        };
      });
    })
    entry.event entry.acts accepted accepted
