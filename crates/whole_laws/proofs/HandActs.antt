-- The acts of a hand that is out are accepted one after another, and the hand then has them.
use Rattle.std.proofs.Common.{◌≡◌, ◌≢◌, ◌∙◌, refl, sym, ap, ℕ, ◌<◌, Bool, true, false, List, [], ◌∷◌, ◌++◌, map, length, append_assoc, append-nil, arith}
use Rattle.std.specs.Prelude.{Option, Some, None, slice_set, option_map, if◌then◌else◌}
use Rattle.std.specs.Option.{option_map_or}
use Rattle.std.proofs.lemmas.Bool.{and_from}
use Rattle.std.proofs.lemmas.List.{get_or-set_same, get_or-set_other}
use Rattle.table_engine.specs.declared.start.HandStart.{HandStart}
use Rattle.table_engine.specs.declared.record.ActOf.{ActOf}
use Rattle.table_engine.specs.Acts.{hand_after_time}
use Rattle.table_engine.specs.Hands.{HandTerms}
use Rattle.table_engine.specs.Plays.{IsLawfulPlay}
use Rattle.table_engine.proofs.Plays.{lawful_play-each}
use Rattle.table_engine.proofs.TurnLaws.{time-again, time-free_again}
use Rattle.tournament_events.specs.declared.event.Event.{Event}
use Rattle.tournament_events.specs.declared.event.Event.TheVariants as events
use Rattle.tournament_rules.specs.Books.{start_at}
use Rattle.tournament_rules.specs.States.{State, PlayState, acts_at, hand_at, play_effect, refusal_of, run, state_after}
use Rattle.tournament_rules.specs.Valid.{IsValidPlay, IsValidState}
use Rattle.tournament_rules.proofs.Acting.{acts_freely}
use Rattle.tournament_rules.proofs.Fitting.{table_range, table_started}
use Rattle.tournament_rules.proofs.Steps.{valid_state_after}
use Rattle.dock_rules.specs.Journals.{act_event, are_accepted}
use Rattle.dock_rules.proofs.Coming.{accepted-in_play}

-- A hand is out at a table, with the acts that were made in it so far, and the tournament goes on.
pub record IsOut (play : PlayState) (table : ℕ) (start : HandStart) (acts : List ActOf) : Type 0 where
  pub going : play.book.stopped ≡ false
  pub started : start_at play.book.started table ≡ Some start
  pub has : acts_at play.acts table ≡ acts

-- It is the hand at that table.
hand-out : (play : PlayState) (table : ℕ) (start : HandStart) (acts : List ActOf) → IsOut play table start acts
    → hand_at play table ≡ Some (record { start = start; acts = acts })
hand-out play table start acts out =
    λ i. option_map (λ (start : HandStart). record { start = start; acts = out.has i }) (out.started i)

-- There is room for its acts.
room-out : (play : PlayState) (table : ℕ) (start : HandStart) → IsValidPlay play
    → start_at play.book.started table ≡ Some start → table < length play.acts
room-out play table start valid started =
    let book = play.book in
    let there = table_started book.plan book.seating book.started table start valid.book.tables started in
    let last = (table_range 1 book.plan.tables table there).1 in
    let room = valid.room in
    omega (arith, last, room)

-- What acts at a table leave of a tournament: the hand there has them, and nothing else changes.
pub record HasActed (before after : PlayState) (table : ℕ) (acts : List ActOf) : Type 0 where
  pub book : after.book ≡ before.book
  pub here : acts_at after.acts table ≡ acts
  pub elsewhere : (other : ℕ) → other ≢ table → acts_at after.acts other ≡ acts_at before.acts other

-- Events are accepted, and with them a hand at a table has these acts.
pub record AreActed (state : State) (made : List Event) (before : PlayState) (table : ℕ) (acts : List ActOf)
    : Type 0 where
  pub accepted : are_accepted state made ≡ true
  pub play : PlayState
  pub play_is : (run state made).play ≡ Some play
  pub acted : HasActed before play table acts

-- What an act that is not refused makes of a tournament in which its hand has these acts.
record IsActTaken (play : PlayState) (table : ℕ) (act : ActOf) (front : List ActOf) : Type 0 where
  free : refusal_of play (act_event table act) ≡ None
  effect : play_effect play (act_event table act)
      ≡ record play { acts = slice_set play.acts table (front ++ act ∷ []) }

-- The next act of a lawful play is taken.
act-taken : (play : PlayState) (table : ℕ) (start : HandStart) (front : List ActOf) (act : ActOf)
    (back all : List ActOf) → IsValidPlay play → IsOut play table start front
    → IsLawfulPlay (record { start = start; acts = all }) → all ≡ front ++ act ∷ back
    → IsActTaken play table act front
act-taken play table start front act back all valid out lawful same =
    let is = by_time act.by_time refl in record { free = is.0; effect = is.1 }
  where
    hand : HandTerms
    hand = record { start = start; acts = all }

    there : hand_at play table ≡ Some (record { start = start; acts = front })
    there = hand-out play table start front out

    by_time : (timed : Bool) → act.by_time ≡ timed
        → (refusal_of play (if timed then events.Time table else events.Act table act.name act.act) ≡ None)
        × (play_effect play (if timed then events.Time table else events.Act table act.name act.act)
        ≡ record play { acts = slice_set play.acts table (front ++ act ∷ []) })
    by_time false not_timed = (
      acts_freely play table valid (events.Act table act.name act.act) refl
          (record {
            going = out.going;
            hand = record { start = start; acts = front };
            started = there;
            free = lawful_play-each hand front act back lawful same;
          }),
      λ i. record play {
        acts = slice_set play.acts table (out.has i
            ++ (record { name = act.name; act = act.act; by_time = sym not_timed i }) ∷ []);
      },
    )
    by_time true timed = (
      acts_freely play table valid (events.Time table) refl
          (record {
            going = out.going;
            hand = record { start = start; acts = front };
            started = there;
            free = time-free_again hand front act back lawful same timed;
          }),
      ap (λ (found : Option HandTerms). record play {
        acts = slice_set play.acts table (option_map_or (λ hand. (hand_after_time hand).acts) found []);
      }) there
          ∙ ap (λ (hand : HandTerms). record play { acts = slice_set play.acts table hand.acts })
          (time-again hand front act back lawful same timed),
    )

-- All acts of a lawful play are accepted where its hand is out, and the hand then has them.
pub acts-walk : (state : State) (play : PlayState) (table : ℕ) (start : HandStart) (front back all : List ActOf)
    → IsValidState state → state.play ≡ Some play → IsOut play table start front
    → IsLawfulPlay (record { start = start; acts = all }) → all ≡ front ++ back
    → AreActed state (map (act_event table) back) play table all
acts-walk state play table start front [] all valid is out lawful same = record {
  accepted = refl;
  play = play;
  play_is = is;
  acted = record {
    book = refl;
    here = out.has ∙ sym (same ∙ append-nil front);
    elsewhere = λ other apart. refl;
  };
}
acts-walk state play table start front (act ∷ back) all valid is out lawful same =
    let event : Event = act_event table act in
    let taken = act-taken play table start front act back all (valid.play play is) out lawful same in
    let accept = accepted-in_play state play event is taken.free in
    let more : List ActOf = front ++ act ∷ [] in
    let next : PlayState = record play { acts = slice_set play.acts table more } in
    let room = room-out play table start (valid.play play is) out.started in
    let rest = acts-walk (state_after state event) next table start more back all
    (valid_state_after state event valid) (accept.play_is ∙ ap Some taken.effect)
    (record { going = out.going; started = out.started; has = get_or-set_same play.acts table more [] room }) lawful
    (same ∙ sym (append_assoc front (act ∷ []) back)) in
    record {
      accepted = and_from _ _ accept.yes rest.accepted;
      play = rest.play;
      play_is = rest.play_is;
      acted = record {
        book = rest.acted.book;
        here = rest.acted.here;
        elsewhere = λ other apart. rest.acted.elsewhere other apart
            ∙ get_or-set_other play.acts table other more [] apart;
      };
    }
