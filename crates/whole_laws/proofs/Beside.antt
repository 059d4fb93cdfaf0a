-- A tournament that plays each hand as it begins beside one that plays it as it is settled: both have one book.
use Rattle.std.proofs.Common.{◌≡◌, ◌≢◌, ◌∙◌, refl, sym, ap, ℕ, true, false, List, [], ◌∷◌, map, length, inl, inr}
use Rattle.std.specs.Prelude.{◌==◌, Some, None, option_map, option_and_then, slice_set}
use Rattle.std.specs.Option.{option_or}
use Rattle.std.proofs.lemmas.Bool.{and_from, cases_Bool, eqb-true}
use Rattle.std.proofs.lemmas.List.{get_or-set_other}
use Rattle.rulebook.proofs.Repeats.{get_or-repeated}
use Rattle.card_set.specs.declared.card.CardRow.{CardRow}
use Rattle.table_engine.specs.declared.start.HandStart.{HandStart}
use Rattle.table_engine.specs.declared.record.ActOf.{ActOf}
use Rattle.table_engine.specs.Plays.{IsLawfulPlay}
use Rattle.tournament_events.specs.declared.event.Event.{Event}
use Rattle.tournament_events.specs.declared.event.Event.TheVariants as events
use Rattle.tournament_rules.specs.Books.{BookState, start_at}
use Rattle.tournament_rules.specs.Checks.{book_refusal}
use Rattle.tournament_rules.specs.Dealing.{next_start}
use Rattle.tournament_rules.specs.Effects.{book_effect}
use Rattle.tournament_rules.specs.Kinds.{leaves_hands}
use Rattle.tournament_rules.specs.States.{State, PlayState, acts_at, hand_about, play_effect, refusal_of, run, state_after}
use Rattle.tournament_rules.specs.Valid.{IsValidPlay, IsValidState}
use Rattle.tournament_rules.specs.Apart.{hand_refusal}
use Rattle.tournament_rules.proofs.Fitting.{other_number}
use Rattle.tournament_rules.proofs.Going.{goes_on}
use Rattle.tournament_rules.proofs.Passed.{passed-parts, refusal-parts}
use Rattle.tournament_rules.proofs.Steps.{valid_state_after}
use Rattle.dock_rules.specs.Journals.{act_event, are_accepted}
use Rattle.dock_rules.proofs.Coming.{accepted-in_play}
use Rattle.whole_laws.proofs.HandActs.{HasActed, acts-walk}
use Rattle.whole_laws.proofs.Starts.{begun-at, reset, settled-at}

-- The hands at rest in one tournament have no acts, and in the other, which has the same book, each hand that is out
-- has these acts.
pub record IsBeside (acts : ℕ → List ActOf) (told whole : PlayState) : Type 0 where
  pub book : whole.book ≡ told.book
  pub rests : (table : ℕ) → acts_at told.acts table ≡ []
  pub plays : told.book.stopped ≡ false → (table : ℕ) (start : HandStart)
      → start_at told.book.started table ≡ Some start → acts_at whole.acts table ≡ acts table

-- Two tournaments with one book and one hand that an event is about refuse it alike, and it makes one book of them.
pub record AreAlike (one other : PlayState) (event : Event) : Type 0 where
  pub refusal : refusal_of one event ≡ refusal_of other event
  pub book : (play_effect one event).book ≡ (play_effect other event).book

-- It is so of all such tournaments.
pub alike : (one other : PlayState) (event : Event) → one.book ≡ other.book
    → hand_about one event ≡ hand_about other event → AreAlike one other event
alike one other event book hand = record {
  refusal = refusal-parts one event
      ∙ ((λ i. option_or (book_refusal (book i) event) (option_and_then (hand_refusal event) (hand i)))
      ∙ sym (refusal-parts other event));
  book = λ i. book_effect (book i) (hand i) event;
}

-- What the whole comes to where it takes events: they are accepted, and it is beside the tournament that is told.
pub record GoesOn (acts : ℕ → List ActOf) (told : PlayState) (state : State) (made : List Event) : Type 0 where
  pub accepted : are_accepted state made ≡ true
  pub whole : PlayState
  pub whole_is : (run state made).play ≡ Some whole
  pub beside : IsBeside acts told whole

-- Where none has acts but at one table, none has once they are taken from there.
rests-set : (acts : List (List ActOf)) (table other : ℕ) → (other ≢ table → acts_at acts other ≡ [])
    → acts_at (slice_set acts table []) other ≡ []
rests-set acts table other elsewhere = elim (cases_Bool (table == other)) [
  | inl same ↦ ap (acts_at (slice_set acts table [])) (sym (eqb-true table other same)) ∙ reset acts table []
  | inr differ ↦
      let apart = other_number table other differ in
      get_or-set_other acts table other [] [] apart ∙ elsewhere apart
]

-- An order that leaves the hands as they are is taken by both.
pub order-beside : (acts : ℕ → List ActOf) (told whole : PlayState) (state : State) (event : Event)
    → leaves_hands event ≡ true → state.play ≡ Some whole → IsBeside acts told whole → refusal_of told event ≡ None
    → GoesOn acts (play_effect told event) state (event ∷ [])
order-beside acts told whole state (events.Plan line) leaves is beside free = absurd cc
order-beside acts told whole state events.Go leaves is beside free = absurd cc
order-beside acts told whole state (events.Begin table row) leaves is beside free = absurd cc
order-beside acts told whole state (events.Act table name act) leaves is beside free = absurd cc
order-beside acts told whole state (events.Time table) leaves is beside free = absurd cc
order-beside acts told whole state (events.Settle table) leaves is beside free = absurd cc
order-beside acts told whole state events.Stop leaves is beside free = absurd cc
order-beside acts told whole state event leaves is beside free =
    let same = alike whole told event beside.book refl in
    let accept = accepted-in_play state whole event is (same.refusal ∙ free) in
    record {
      accepted = and_from _ _ accept.yes refl;
      whole = play_effect whole event;
      whole_is = accept.play_is;
      beside = record {
        book = same.book;
        rests = beside.rests;
        plays = λ going. beside.plays (goes_on told.book event (passed-parts told event free).0);
      };
    }

-- So is the stop, and then no hand is out.
pub stop-beside : (acts : ℕ → List ActOf) (told whole : PlayState) (state : State) → state.play ≡ Some whole
    → IsBeside acts told whole → refusal_of told events.Stop ≡ None
    → GoesOn acts (play_effect told events.Stop) state (events.Stop ∷ [])
stop-beside acts told whole state is beside free =
    let same = alike whole told events.Stop beside.book refl in
    let accept = accepted-in_play state whole events.Stop is (same.refusal ∙ free) in
    record {
      accepted = and_from _ _ accept.yes refl;
      whole = play_effect whole events.Stop;
      whole_is = accept.play_is;
      beside = record {
        book = same.book;
        rests = λ table. get_or-repeated (length told.acts) table [];
        plays = λ going. absurd cc;
      };
    }

-- A begin is taken by both, and in the whole the acts of its hand behind it.
pub begin-beside : (acts : ℕ → List ActOf) (told whole : PlayState) (state : State) (table : ℕ) (row : CardRow)
    → IsValidState state → state.play ≡ Some whole → IsBeside acts told whole
    → refusal_of told (events.Begin table row) ≡ None
    → IsLawfulPlay (record { start = next_start told.book table row.cards; acts = acts table })
    → GoesOn acts (play_effect told (events.Begin table row)) state
    (events.Begin table row ∷ map (act_event table) (acts table))
begin-beside acts told whole state table row valid is beside free lawful =
    let event : Event = events.Begin table row in
    let start : HandStart = next_start told.book table row.cards in
    let same = alike whole told event beside.book refl in
    let free_too = same.refusal ∙ free in
    let accept = accepted-in_play state whole event is free_too in
    let at = begun-at whole table row (valid.play whole is) free_too in
    let walk = acts-walk (state_after state event) (play_effect whole event) table start [] (acts table) (acts table)
    (valid_state_after state event valid) accept.play_is
    (record {
      going = at.going;
      started = at.after ∙ ap (λ (book : BookState). Some (next_start book table row.cards)) beside.book;
      has = reset whole.acts table [];
    }) lawful refl in
    record {
      accepted = and_from _ _ accept.yes walk.accepted;
      whole = walk.play;
      whole_is = walk.play_is;
      beside = record {
        book = walk.acted.book ∙ same.book;
        rests = λ other. rests-set told.acts table other (λ apart. beside.rests other);
        plays = λ going other out started. elim (cases_Bool (table == other)) [
          | inl here ↦
              let one = eqb-true table other here in
              ap (acts_at walk.play.acts) (sym one) ∙ (walk.acted.here ∙ ap acts one)
          | inr differ ↦
              let apart = other_number table other differ in
              walk.acted.elsewhere other apart
              ∙ (get_or-set_other whole.acts table other [] [] apart
              ∙ beside.plays (ap (λ (book : BookState). book.stopped) (sym beside.book) ∙ at.going) other out
              (sym (get_or-set_other told.book.started table other (Some start) None apart) ∙ started))
        ];
      };
    }

-- A settle is taken by both, where the one has made the acts of its hand just before it.
pub settle-beside : (acts after : ℕ → List ActOf) (told mid whole : PlayState) (state : State) (table : ℕ)
    → state.play ≡ Some whole → IsBeside acts told whole → IsValidPlay mid → HasActed told mid table (acts table)
    → refusal_of mid (events.Settle table) ≡ None
    → ((other : ℕ) → (table == other) ≡ false → after other ≡ acts other)
    → GoesOn after (play_effect mid (events.Settle table)) state (events.Settle table ∷ [])
settle-beside acts after told mid whole state table is beside valid acted free later =
    let event : Event = events.Settle table in
    let found = settled-at mid table valid free in
    let at = found.1 in
    let goes = ap (λ (book : BookState). book.stopped) (sym acted.book) ∙ at.going in
    let books = beside.book ∙ sym acted.book in
    let started = ap (λ (book : BookState). start_at book.started table) (sym acted.book) ∙ at.before in
    let made : acts_at whole.acts table ≡ acts_at mid.acts table =
    beside.plays goes table found.0 started ∙ sym acted.here in
    let same = alike whole mid event books
    (λ i. option_map (λ (start : HandStart). record { start = start; acts = made i })
    (start_at (books i).started table)) in
    let accept = accepted-in_play state whole event is (same.refusal ∙ free) in
    record {
      accepted = and_from _ _ accept.yes refl;
      whole = play_effect whole event;
      whole_is = accept.play_is;
      beside = record {
        book = same.book;
        rests = λ other. rests-set mid.acts table other (λ apart. acted.elsewhere other apart ∙ beside.rests other);
        plays = λ going other out out_after. elim (cases_Bool (table == other)) [
          | inl here ↦
              let one = eqb-true table other here in
              let none = ap (start_at (play_effect mid event).book.started) (sym one) ∙ at.after in
              let never : None ≡ Some out = sym none ∙ out_after in
              absurd cc
          | inr differ ↦
              let out_before = ap (λ (book : BookState). start_at book.started other) (sym acted.book)
              ∙ (sym (at.elsewhere other differ) ∙ out_after) in
              get_or-set_other whole.acts table other [] [] (other_number table other differ)
              ∙ (beside.plays goes other out out_before ∙ sym (later other differ))
        ];
      };
    }
