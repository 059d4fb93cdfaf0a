-- An act of a player or a called time is accepted just where the tournament goes on and the hand at its table does not
-- refuse it.
use Rattle.std.proofs.Common.{◌≡◌, ◌∙◌, refl, sym, ap, subst, ℕ, zero, suc, Bool, true, false, cond, List, [], ◌∷◌, map}
use Rattle.std.specs.Prelude.{◌||◌, filter, slice_get, Option, Some, None, is_some, option_map, option_and_then}
use Rattle.std.specs.List.{list_any, All}
use Rattle.std.specs.Str.{bytes_eq}
use Rattle.std.proofs.lemmas.Bool.{and_parts, or_left, or_right}
use Rattle.std.proofs.lemmas.List.Elements.{All-head, All-tail}
use Rattle.std.proofs.lemmas.Slice.Eq.{bytes_eq-Decides}
use Rattle.std.proofs.lemmas.Option.{same_Some}
use Rattle.rulebook.proofs.Checks.{none_holds}
use Rattle.rulebook.proofs.Tests.{list_any-made}
use Rattle.betting_round.specs.declared.act.Act.{Act}
use Rattle.entry_list.specs.Entries.{is_known}
use Rattle.seat_book.specs.declared.seated.Seated.{Seated}
use Rattle.table_engine.specs.declared.start.HandStart.{HandStart}
use Rattle.table_engine.specs.declared.start.StartSeat.{StartSeat}
use Rattle.table_engine.specs.Hands.{HandTerms}
use Rattle.table_engine.specs.Acts.{is_dealt, act_checks}
use Rattle.tournament_events.specs.declared.event.Event.{Event}
use Rattle.tournament_events.specs.declared.event.Event.TheVariants as events
use Rattle.tournament_rules.specs.Books.{BookState, start_at, starters_of, has_table}
use Rattle.tournament_rules.specs.Players.{start_seat}
use Rattle.tournament_rules.specs.Checks.{book_refusal, is_playing}
use Rattle.tournament_rules.specs.States.{PlayState, act_table, acts_at, hand_at, refusal_of}
use Rattle.tournament_rules.specs.Valid.{IsValid, IsValidPlay, is_lent, without_stack}
use Rattle.tournament_rules.specs.Apart.{hand_refusal}
use Rattle.tournament_rules.proofs.Fitting.{table_started}
use Rattle.tournament_rules.proofs.Names.{IsNamed}
use Rattle.tournament_rules.proofs.Passed.{is_so, refusal-parts, passed-parts, act_passed, time_passed}
use Rattle.tournament_rules.proofs.PlayedHands.{hand_there}
use Rattle.tournament_rules.proofs.Going.{goes_on}

-- What is so of each act and of a called time at a table is so of each event that is one of these.
pub by_act : (P : Event → Type 0) (table : ℕ) → ((name : List ℕ) (act : Act) → P (events.Act table name act))
    → P (events.Time table) → (event : Event) → act_table event ≡ Some table → P event
by_act P table acts time (events.Act there name act) at =
    subst (λ (there : ℕ). P (events.Act there name act)) (sym (same_Some there table at)) (acts name act)
by_act P table acts time (events.Time there) at =
    subst (λ (there : ℕ). P (events.Time there)) (sym (same_Some there table at)) time
by_act P table acts time _ at = absurd cc

-- Some item of a list passes a test where the one at an index does.
any_at : {A : Type 0} (test : A → Bool) (items : List A) (index : ℕ) (item : A) → slice_get items index ≡ Some item
    → test item ≡ true → list_any test items ≡ true
any_at test [] index item is passes = absurd cc
any_at test (first ∷ items) zero item is passes =
    let same = same_Some first item is in or_left (test first) (list_any test items) (ap test same ∙ passes)
any_at test (first ∷ items) (suc index) item is passes =
    or_right (test first) (list_any test items) (any_at test items index item is passes)

-- Somebody entered under each name of those who are picked of the players.
picked_known : (entries : List (List ℕ)) (name : List ℕ) (test : Seated → Bool) (players : List Seated)
    → All (IsNamed entries) players
    → list_any (λ (player : StartSeat). bytes_eq player.name name) (map start_seat (filter test players)) ≡ true
    → is_known entries name ≡ true
picked_known entries name test [] named some = absurd cc
picked_known entries name test (player ∷ players) named some =
    by_test (test player) some
    (picked_known entries name test players (All-tail (IsNamed entries) player players named))
  where
    his : bytes_eq player.name name ≡ true → is_known entries name ≡ true
    his same =
        let is : player.name ≡ name = (bytes_eq-Decides player.name name).0 same in
        any_at (bytes_eq name) entries player.player player.name (All-head (IsNamed entries) player players named)
        ((bytes_eq-Decides name player.name).1 (sym is))

    by_name : (b : Bool) → bytes_eq player.name name ≡ b
        → (b || list_any (λ (player : StartSeat). bytes_eq player.name name) (map start_seat (filter test players)))
        ≡ true
        → (list_any (λ (player : StartSeat). bytes_eq player.name name) (map start_seat (filter test players)) ≡ true
        → is_known entries name ≡ true)
        → is_known entries name ≡ true
    by_name true is some others = his is
    by_name false is some others = others some

    by_test : (b : Bool)
        → list_any (λ (player : StartSeat). bytes_eq player.name name)
        (map start_seat (cond b (player ∷ filter test players) (filter test players)))
        ≡ true
        → (list_any (λ (player : StartSeat). bytes_eq player.name name) (map start_seat (filter test players)) ≡ true
        → is_known entries name ≡ true)
        → is_known entries name ≡ true
    by_test true some others = by_name (bytes_eq player.name name) refl some others
    by_test false some others = others some

-- Who is dealt in to a hand that is played has entered.
pub dealt_known : (book : BookState) (table : ℕ) (start : HandStart) (name : List ℕ) → IsValid book
    → start_at book.started table ≡ Some start → is_dealt start name ≡ true → is_known book.entries name ≡ true
dealt_known book table start name valid started dealt =
    let has_name = λ (player : StartSeat). bytes_eq player.name name in
    let there = ap (λ (start : Option HandStart). list_any has_name (map without_stack (starters_of start))) started in
    let here = ap (λ (starters : List StartSeat). list_any has_name starters) (valid.hands.lent table) in
    picked_known book.entries name (is_lent table) book.seating.players valid.entries.named
    (here ∙ (there ∙ (list_any-made has_name without_stack start.seats ∙ dealt)))

-- What is so where an act or a called time is accepted.
pub record MayAct (play : PlayState) (table : ℕ) (event : Event) : Type 0 where
  pub going : play.book.stopped ≡ false
  pub hand : HandTerms
  pub started : hand_at play table ≡ Some hand
  pub free : hand_refusal event hand ≡ None

-- This is so where the tournament goes on, the table is played at and its hand does not refuse the event.
acting : (play : PlayState) (table : ℕ) (event : Event) → IsValidPlay play → play.book.stopped ≡ false
    → is_playing play.book table ≡ true → option_and_then (hand_refusal event) (hand_at play table) ≡ None
    → MayAct play table event
acting play table event valid going playing free =
    let started = hand_there play table valid playing in
    record { going = going; hand = started.hand; started = started.is; free = rw started.is at free }

-- Where an act or a called time is accepted, this is so.
pub may_act : (play : PlayState) (table : ℕ) → IsValidPlay play → (event : Event) → act_table event ≡ Some table
    → refusal_of play event ≡ None → MayAct play table event
may_act play table valid = by_act (λ event. refusal_of play event ≡ None → MayAct play table event) table
    (λ name act none.
    let parts = passed-parts play (events.Act table name act) none in
    acting play table (events.Act table name act) valid (goes_on play.book (events.Act table name act) parts.0)
    (act_passed play.book table name act parts.0).playing
    parts.1)
    (λ none.
    let parts = passed-parts play (events.Time table) none in
    acting play table (events.Time table) valid (goes_on play.book (events.Time table) parts.0)
    (time_passed play.book table parts.0).playing
    parts.1)

-- What a book has where a hand is played at a table.
pub record IsStartedAt (book : BookState) (table : ℕ) (start : HandStart) : Type 0 where
  pub started : start_at book.started table ≡ Some start
  pub there : has_table book table ≡ true
  pub playing : is_playing book table ≡ true

-- A hand that is played is at a table of the plan.
pub started_at : (play : PlayState) (table : ℕ) (hand : HandTerms) → IsValidPlay play → hand_at play table ≡ Some hand
    → IsStartedAt play.book table hand.start
started_at play table hand valid is = by_start (start_at play.book.started table) refl is
  where
    by_start : (start : Option HandStart) → start_at play.book.started table ≡ start
        → option_map (λ start. record { start = start; acts = acts_at play.acts table }) start ≡ Some hand
        → IsStartedAt play.book table hand.start
    by_start None started is = absurd cc
    by_start (Some start) started is =
        let same : start ≡ hand.start = ap (λ (hand : HandTerms). hand.start) (same_Some _ hand is) in
        let found : start_at play.book.started table ≡ Some hand.start = started ∙ ap Some same in
        record {
          started = found;
          there = table_started play.book.plan play.book.seating play.book.started table hand.start valid.book.tables
              found;
          playing = valid.book.tables.playing table ∙ ap is_some found;
        }

-- The book does not refuse an act of who entered, at such a table, before a stop.
act_free : (book : BookState) (table : ℕ) (name : List ℕ) (act : Act) → book.stopped ≡ false
    → is_known book.entries name ≡ true → has_table book table ≡ true → is_playing book table ≡ true
    → book_refusal book (events.Act table name act) ≡ None
unfolding book_refusal
act_free book table name act going known there playing = rw (going, known, there, playing) refl

-- Nor does it refuse a settle there.
pub settle_free : (book : BookState) (table : ℕ) → book.stopped ≡ false → has_table book table ≡ true
    → is_playing book table ≡ true → book_refusal book (events.Settle table) ≡ None
unfolding book_refusal
settle_free book table going there playing = rw (going, there, playing) refl

-- Nor does it refuse a called time there.
time_free : (book : BookState) (table : ℕ) → book.stopped ≡ false → has_table book table ≡ true
    → is_playing book table ≡ true → book_refusal book (events.Time table) ≡ None
unfolding book_refusal
time_free book table going there playing = rw (going, there, playing) refl

-- A player whose act a hand does not refuse is dealt in.
act_dealt : (hand : HandTerms) (table : ℕ) (name : List ℕ) (act : Act)
    → hand_refusal (events.Act table name act) hand ≡ None → is_dealt hand.start name ≡ true
unfolding act_checks
act_dealt hand table name act none = is_so _ (and_parts _ _ (none_holds (act_checks hand name act) none)).0

-- Where this is so, an act or a called time is accepted.
pub acts_freely : (play : PlayState) (table : ℕ) → IsValidPlay play → (event : Event) → act_table event ≡ Some table
    → MayAct play table event → refusal_of play event ≡ None
acts_freely play table valid = by_act (λ event. MayAct play table event → refusal_of play event ≡ None) table
    (λ name act may.
    let event = events.Act table name act in
    let has = started_at play table may.hand valid may.started in
    let known = dealt_known play.book table may.hand.start name valid.book has.started
    (act_dealt may.hand table name act may.free) in
    let book = act_free play.book table name act may.going known has.there has.playing in
    refusal-parts play event ∙ rw (book, may.started) may.free)
    (λ may.
    let has = started_at play table may.hand valid may.started in
    let book = time_free play.book table may.going has.there has.playing in
    refusal-parts play (events.Time table) ∙ rw (book, may.started) may.free)
