-- The hand as a list of events leaves it: it started lawfully, and as the hand that is played now did.
use Rattle.std.proofs.Common.{◌≡◌, ◌∙◌, refl, sym, ap, ℕ, Bool, true, false, cond, List, [], ◌∷◌}
use Rattle.std.specs.Prelude.{is_some, Option, Some, None, option_and_then}
use Rattle.std.specs.Option.{ForSome}
use Rattle.std.proofs.lemmas.Option.{same_Some}
use Rattle.table_engine.specs.Hands.{HandTerms}
use Rattle.table_engine.specs.Starts.{IsLawfulStart}
use Rattle.tournament_events.specs.declared.event.Event.{Event}
use Rattle.tournament_rules.specs.States.{State, PlayState, hand_at, state_after}
use Rattle.tournament_rules.specs.Valid.{IsValidPlay, IsValidState}
use Rattle.tournament_rules.proofs.Acting.{started_at}
use Rattle.tournament_rules.proofs.Steps.{valid_state_after}
use Rattle.view_rules.specs.Seen.{hand_in}
use Rattle.view_rules.specs.Entries.{with_act}
use Rattle.view_rules.specs.Agreeing.{hand_left}
use Rattle.view_laws.proofs.GoesOn.{GoesOn, Ends, Stays, Begins, Acts, state-goes_on}

-- A hand that is played in a valid state started lawfully.
played-lawful : (state : State) (table : ℕ) → IsValidState state
    → ForSome (hand_in state table) (λ hand. IsLawfulStart hand.start)
played-lawful state table valid = by_play state.play valid.play
  where
    by_play : (play : Option PlayState) → ForSome play IsValidPlay
        → ForSome (option_and_then (λ play. hand_at play table) play) (λ hand. IsLawfulStart hand.start)
    by_play None valid = λ hand is. absurd cc
    by_play (Some play) valid = λ hand is.
        let good = valid play refl in
        (good.book.hands.starts table hand.start (started_at play table hand good is).started).lawful

-- So did the hand as a list of events leaves it.
pub left-lawful : (events : List Event) (state : State) (table : ℕ) → IsValidState state
    → ForSome (hand_left state table events) (λ hand. IsLawfulStart hand.start)
left-lawful [] state table valid = played-lawful state table valid
left-lawful (event ∷ events) state table valid =
    by_some (is_some (hand_in (state_after state event) table))
    (left-lawful events (state_after state event) table (valid_state_after state event valid))
  where
    by_some : (some : Bool)
        → ForSome (hand_left (state_after state event) table events) (λ hand. IsLawfulStart hand.start)
        → ForSome (cond some (hand_left (state_after state event) table events) (hand_in state table))
        (λ hand. IsLawfulStart hand.start)
    by_some true later = later
    by_some false later = played-lawful state table valid

-- One hand is another.
same-start : (found : Option HandTerms) (hand left : HandTerms) → found ≡ Some hand → found ≡ Some left
    → left.start ≡ hand.start
same-start found hand left one other = ap (λ (hand : HandTerms). hand.start) (same_Some left hand (sym other ∙ one))

-- A hand that is played now has its start as a list of events leaves it.
pub left-start : (events : List Event) (state : State) (table : ℕ) (hand left : HandTerms) → IsValidState state
    → hand_in state table ≡ Some hand → hand_left state table events ≡ Some left → left.start ≡ hand.start
left-start [] state table hand left valid now is = same-start (hand_in state table) hand left now is
left-start (event ∷ events) state table hand left valid now is =
    by_some (is_some (hand_in (state_after state event) table)) refl is
    (λ next there later. left-start events (state_after state event) table next left
    (valid_state_after state event valid) there later)
  where
    by_goes : GoesOn (hand_in state table) event table (hand_in (state_after state event) table)
        → is_some (hand_in (state_after state event) table) ≡ true
        → ((next : HandTerms) → hand_in (state_after state event) table ≡ Some next → left.start ≡ next.start)
        → left.start ≡ hand.start
    by_goes (Ends none) some later = let never : is_some {T = HandTerms} None ≡ true = ap is_some (sym none) ∙ some in
        absurd cc
    by_goes (Stays same) some later = later hand (same ∙ now)
    by_goes (Begins begins) some later = let never : None ≡ Some hand = sym begins.none ∙ now in absurd cc
    by_goes (Acts acts) some later =
        later (with_act acts.act acts.hand) acts.now
        ∙ ap (λ (hand : HandTerms). hand.start) (same_Some acts.hand hand (sym acts.was ∙ now))

    by_some : (some : Bool) → is_some (hand_in (state_after state event) table) ≡ some
        → cond some (hand_left (state_after state event) table events) (hand_in state table) ≡ Some left
        → ((next : HandTerms) → hand_in (state_after state event) table ≡ Some next
        → hand_left (state_after state event) table events ≡ Some left → left.start ≡ next.start)
        → left.start ≡ hand.start
    by_some true some is later =
        by_goes (state-goes_on state event table valid) some (λ next there. later next there is)
    by_some false some is later = same-start (hand_in state table) hand left now is
