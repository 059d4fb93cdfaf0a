-- The stacks that the players of a hand have at rest once it is settled are those after it.
use Rattle.std.proofs.Common.{◌≡◌, ◌∙◌, refl, sym, ap, ℕ, Bool, true, false, cond, ◌==◌, ◌||◌, List, [], ◌∷◌, ◌++◌, map, append-nil}
use Rattle.std.specs.Prelude.{not, filter, find, Option, Some, None, option_map, option_and_then}
use Rattle.std.specs.List.{list_all, list_any, AllByRecursion}
use Rattle.std.specs.Option.{option_map_or, ForSome}
use Rattle.std.proofs.lemmas.Bool.{and_parts, eq-eqb, eqb-true, not-true, or_left, or_parts, or_right}
use Rattle.std.proofs.lemmas.Option.{same_Some}
use Rattle.rulebook.specs.Pairs.{are_distinct}
use Rattle.rulebook.proofs.Passing.{list_any-none, none-find, not-any}
use Rattle.rulebook.proofs.Tests.{eqb-swap, find-passes}
use Rattle.level_plan.specs.Drafts.{Draft}
use Rattle.seat_book.specs.declared.seated.Seated.{Seated}
use Rattle.seat_book.specs.Players.{is_numbered, player_of}
use Rattle.table_engine.specs.declared.start.HandStart.{HandStart}
use Rattle.table_engine.specs.declared.start.StartSeat.{StartSeat}
use Rattle.table_engine.specs.Hands.{HandTerms, is_over}
use Rattle.table_engine.specs.Results.{players_after, stack_after_hand, with_stack}
use Rattle.tournament_events.specs.declared.event.Event.{Event}
use Rattle.tournament_events.specs.declared.event.Event.TheVariants as events
use Rattle.tournament_rules.specs.Apart.{hand_refusal}
use Rattle.tournament_rules.specs.Effects.{settled}
use Rattle.tournament_rules.specs.Players.{is_among, is_one_of, paid, put_back, stayed, with_rest}
use Rattle.tournament_rules.specs.States.{State, PlayState, answer_to, is_accepted, accepted, hand_at, play_effect, players_of, refusal_of, state_after}
use Rattle.tournament_rules.specs.Valid.{IsValidPlay, IsValidState}
use Rattle.tournament_rules.proofs.Acting.{started_at}
use Rattle.tournament_rules.proofs.Leaving.{starter_sits}
use Rattle.tournament_rules.proofs.Passed.{end_passed, passed-parts, settle_passed}
use Rattle.tournament_rules.proofs.Paying.{any_number, numbers_of, paid-stacks}
use Rattle.tournament_rules.proofs.PlayedHands.{hand_there}
use Rattle.tournament_rules.proofs.Restacked.{key_changed}
use Rattle.tournament_rules.proofs.Steps.{accepted_none}
use Rattle.view_rules.specs.declared.entries.StackLine.{StackLine}
use Rattle.view_rules.specs.Shown.{Viewer}
use Rattle.view_rules.specs.Seen.{hand_in, seen_hand}
use Rattle.view_rules.specs.Spelling.{ViewLine, Floor, lines_text}
use Rattle.view_rules.specs.Lines.{floor_lines, lines_of_event, stack_after}
use Rattle.floor_view.specs.Stacks.{rest_of, stack_now}
use Rattle.floor_view.specs.Told.{settled_text, text_between, text_of}
use Rattle.floor_view.proofs.Taken.{written-accepted}

-- Who sits is found by his number.
found-there : (number : ℕ) (players : List Seated) → list_any (is_numbered number) players ≡ true
    → (player : Seated) × (player_of players number ≡ Some player)
found-there number players some = by_found (player_of players number) refl
  where
    by_found : (found : Option Seated) → player_of players number ≡ found
        → (player : Seated) × (player_of players number ≡ Some player)
    by_found None is =
        let never : not true ≡ true = sym (ap not some)
        ∙ (not-any (is_numbered number) players ∙ none-find (is_numbered number) players is) in
        absurd cc
    by_found (Some player) is = (player, is)

-- Who is found once stacks went back is who was found, with the stack that went back to him.
found-paid : (payees : List StartSeat) (number : ℕ) (players : List Seated)
    → player_of (put_back payees players) number ≡ option_map (paid payees) (player_of players number)
found-paid payees number [] = refl
found-paid payees number (player ∷ players) =
    ap (λ (b : Bool). cond b (Some (paid payees player)) (player_of (put_back payees players) number))
    (key_changed (is_numbered number) (paid payees) (record { same = λ player stack. refl }) (paid-stacks payees)
    player)
    ∙ by_test (is_numbered number player) (found-paid payees number players)
  where
    by_test : (b : Bool)
        → player_of (put_back payees players) number ≡ option_map (paid payees) (player_of players number)
        → cond b (Some (paid payees player)) (player_of (put_back payees players) number)
        ≡ option_map (paid payees) (cond b (Some player) (player_of players number))
    by_test true rest = refl
    by_test false rest = rest

-- Who is found once some have left is who was found, but for those who left.
found-stayed : (leaving : List StartSeat) (number : ℕ) (players : List Seated)
    → player_of (stayed leaving players) number ≡ cond (is_among number leaving) None (player_of players number)
found-stayed leaving number [] = nobody (is_among number leaving)
  where
    nobody : (b : Bool) → player_of [] number ≡ cond b None (player_of [] number)
    nobody true = refl
    nobody false = refl
found-stayed leaving number (player ∷ players) =
    by_tests (is_numbered number player) (is_one_of leaving player) refl refl (found-stayed leaving number players)
  where
    others : List Seated
    others = stayed leaving players

    by_tests : (his leaves : Bool) → is_numbered number player ≡ his → is_one_of leaving player ≡ leaves
        → player_of others number ≡ cond (is_among number leaving) None (player_of players number)
        → player_of (cond (not leaves) (player ∷ others) others) number
        ≡ cond (is_among number leaving) None (cond his (Some player) (player_of players number))
    by_tests true true is leaves rest =
        let same = eqb-true player.player number is in
        let among : is_among number leaving ≡ true = ap (λ (own : ℕ). is_among own leaving) (sym same) ∙ leaves in
        let none : player_of others number ≡ None
        = rest ∙ ap (λ (b : Bool). cond b None (player_of players number)) among in
        none ∙ sym (ap (λ (b : Bool). cond b None (Some player)) among)
    by_tests true false is leaves rest =
        let same = eqb-true player.player number is in
        let among : is_among number leaving ≡ false = ap (λ (own : ℕ). is_among own leaving) (sym same) ∙ leaves in
        ap (λ (b : Bool). cond b (Some player) (player_of others number)) is
        ∙ sym (ap (λ (b : Bool). cond b None (Some player)) among)
    by_tests false true is leaves rest = rest
    by_tests false false is leaves rest =
        ap (λ (b : Bool). cond b (Some player) (player_of others number)) is ∙ rest

-- the players of a hand with these stacks after it
abbrev payees_of : (StartSeat → ℕ) → List StartSeat → List StartSeat
payees_of stack starters = map (λ player. with_stack player (stack player)) starters

-- those of them who have nothing then
abbrev broke_of : (StartSeat → ℕ) → List StartSeat → List StartSeat
broke_of stack starters = filter (λ player. stack player == 0) starters

-- What each player of a hand has to himself, where these are the stacks after it: his stack goes back to him, and he
-- leaves where it is nothing.
record IsOwn (stack : StartSeat → ℕ) (starters : List StartSeat) (player : StartSeat) : Type 0 where
  among : is_among player.player starters ≡ true
  back : find (λ payee. payee.player == player.player) (payees_of stack starters)
      ≡ Some (with_stack player (stack player))
  leaves : is_among player.player (broke_of stack starters) ≡ (stack player == 0)

-- Where all have other numbers, nobody has this one.
none_later : (number : ℕ) (starters : List StartSeat)
    → list_all (λ other. not (number == other)) (numbers_of starters) ≡ true → is_among number starters ≡ false
none_later number starters differ =
    any_number number starters
    ∙ list_any-none (λ (other : ℕ). not (number == other)) (λ other. other == number) (numbers_of starters)
    (λ other differs. eqb-swap other number ∙ not-true (number == other) differs) differ

-- The first of a list has it where nobody behind him has his number.
own-first : (stack : StartSeat → ℕ) (first : StartSeat) (starters : List StartSeat)
    → is_among first.player starters ≡ false → IsOwn stack (first ∷ starters) first
own-first stack first starters alone =
    let same = eq-eqb first.player first.player refl in
    record {
      among = or_left (first.player == first.player) (is_among first.player starters) same;
      back = ap (λ (b : Bool). cond b (Some (with_stack first (stack first)))
          (find (λ payee. payee.player == first.player) (payees_of stack starters)))
          same;
      leaves = by_stack (stack first == 0) same (none-left starters alone);
    }
  where
    none-left : (starters : List StartSeat) → is_among first.player starters ≡ false
        → is_among first.player (broke_of stack starters) ≡ false
    none-left [] alone = refl
    none-left (starter ∷ starters) alone =
        let parts = or_parts (starter.player == first.player) (is_among first.player starters) alone in
        by_test (stack starter == 0) parts.0 (none-left starters parts.1)
      where
        by_test : (b : Bool) → (starter.player == first.player) ≡ false
            → is_among first.player (broke_of stack starters) ≡ false
            → is_among first.player (cond b (starter ∷ broke_of stack starters)
            (broke_of stack starters)) ≡ false
        by_test true differs rest = rw (differs, rest) refl
        by_test false differs rest = rest

    by_stack : (b : Bool) → (first.player == first.player) ≡ true
        → is_among first.player (broke_of stack starters) ≡ false
        → is_among first.player (cond b (first ∷ broke_of stack starters)
        (broke_of stack starters)) ≡ b
    by_stack true same rest =
        or_left (first.player == first.player) (is_among first.player (broke_of stack starters)) same
    by_stack false same rest = rest

-- Who has it has it where somebody with another number stands before.
own-behind : (stack : StartSeat → ℕ) (first : StartSeat) (starters : List StartSeat) (player : StartSeat)
    → (first.player == player.player) ≡ false → IsOwn stack starters player → IsOwn stack (first ∷ starters) player
own-behind stack first starters player differs own = record {
  among = or_right (first.player == player.player) (is_among player.player starters) own.among;
  back = ap (λ (b : Bool). cond b (Some (with_stack first (stack first)))
      (find (λ payee. payee.player == player.player) (payees_of stack starters)))
      differs
      ∙ own.back;
  leaves = by_stack (stack first == 0);
}
  where
    by_stack : (b : Bool)
        → is_among player.player (cond b (first ∷ broke_of stack starters)
        (broke_of stack starters)) ≡ (stack player == 0)
    by_stack true =
        ap (λ (b : Bool). b || is_among player.player (broke_of stack starters)) differs ∙ own.leaves
    by_stack false = own.leaves

-- So all behind have it.
own-later : (stack : StartSeat → ℕ) (first : StartSeat) (starters others : List StartSeat)
    → list_all (λ number. not (first.player == number)) (numbers_of others) ≡ true
    → AllByRecursion (IsOwn stack starters) others → AllByRecursion (IsOwn stack (first ∷ starters)) others
own-later stack first starters [] differ own = tt
own-later stack first starters (player ∷ others) differ own =
    let parts = and_parts (not (first.player == player.player))
    (list_all (λ number. not (first.player == number)) (numbers_of others)) differ in (
      own-behind stack first starters player (not-true (first.player == player.player) parts.0) own.0,
      own-later stack first starters others parts.1 own.1,
    )

-- Where no two have one number, all have it.
each-own : (stack : StartSeat → ℕ) (starters : List StartSeat)
    → are_distinct (λ one other. one == other) (numbers_of starters) ≡ true
    → AllByRecursion (IsOwn stack starters) starters
each-own stack [] distinct = tt
each-own stack (first ∷ starters) distinct =
    let parts = and_parts (list_all (λ number. not (first.player == number)) (numbers_of starters))
    (are_distinct (λ one other. one == other) (numbers_of starters)) distinct in (
      own-first stack first starters (none_later first.player starters parts.0),
      own-later stack first starters starters parts.0 (each-own stack starters parts.1),
    )

-- the players of a tournament once these stacks went back to the players of a hand, and those with nothing left
abbrev paid_off : (StartSeat → ℕ) → List StartSeat → List Seated → List Seated
paid_off stack starters players =
    stayed (broke_of stack starters)
    (put_back (payees_of stack starters) players)

-- Each player of the hand who sat has his stack at rest then.
rest-own : (stack : StartSeat → ℕ) (starters : List StartSeat) (players : List Seated) (player : StartSeat)
    → IsOwn stack starters player → list_any (is_numbered player.player) players ≡ true
    → rest_of (paid_off stack starters players) player.player ≡ stack player
rest-own stack starters players player own sits =
    let payees = payees_of stack starters in
    let found = found-there player.player players sits in
    let same : found.0.player ≡ player.player = eqb-true found.0.player player.player
    (find-passes (is_numbered player.player) players found.0 found.1) in
    let owed : find (λ (payee : StartSeat). payee.player == found.0.player) payees
    ≡ Some (with_stack player (stack player))
    = ap (λ (number : ℕ). find (λ (payee : StartSeat). payee.player == number) payees) same ∙ own.back in
    let his : paid payees found.0 ≡ with_rest found.0 (stack player)
    = ap (λ (payee : Option StartSeat). option_map_or (λ payee. with_rest found.0 payee.stack) payee found.0) owed in
    let here : option_map (paid payees) (player_of players player.player)
    ≡ Some (with_rest found.0 (stack player)) = ap (option_map (paid payees)) found.1 ∙ ap Some his in
    let now : player_of (paid_off stack starters players) player.player
    ≡ cond (stack player == 0) None (Some (with_rest found.0 (stack player)))
    = found-stayed (broke_of stack starters) player.player (put_back payees players)
    ∙ (λ i. cond (own.leaves i) None ((found-paid payees player.player players ∙ here) i)) in
    ap (λ (found : Option Seated). option_map_or (λ seated. seated.stack) found 0) now
    ∙ by_stack (stack player == 0) refl found.0
  where
    by_stack : (b : Bool) → (stack player == 0) ≡ b → (seated : Seated)
        → option_map_or (λ seated. seated.stack) (cond b None (Some (with_rest seated (stack player)))) 0
        ≡ stack player
    by_stack true is seated = sym (eqb-true (stack player) 0 is)
    by_stack false is seated = refl

-- So the stacks at rest, in the order of the hand's players, are those after it.
rests-own : (stack : StartSeat → ℕ) (table : ℕ) (starters : List StartSeat) (players : List Seated)
    (some : List StartSeat)
    → AllByRecursion (IsOwn stack starters) some
    → ((number : ℕ) → is_among number starters ≡ true → list_any (is_numbered number) players ≡ true)
    → map (stack_now (paid_off stack starters players) table) some
    ≡ map (stack_after table) (payees_of stack some)
rests-own stack table starters players [] own sit = refl
rests-own stack table starters players (player ∷ some) own sit =
    let rest = rest-own stack starters players player own.0 (sit player.player own.0.among) in
    let others = rests-own stack table starters players some own.1 sit in
    λ i. record {
      place = record { table = table; seat = player.seat };
      name = player.name;
      stack = rest i;
    } ∷ others i

-- A hand that may be settled, with what its players have at rest once it is.
record IsSettledIn (play : PlayState) (table : ℕ) : Type 0 where
  hand : HandTerms
  was : hand_at play table ≡ Some hand
  here : hand.start.table ≡ table
  over : is_over hand ≡ true
  rest : map (stack_now (play_effect play (events.Settle table)).book.seating.players table) hand.start.seats
      ≡ map (stack_after table) (players_after hand)

-- A settle that is not refused settles one.
settled-play : (play : PlayState) (table : ℕ) → IsValidPlay play → refusal_of play (events.Settle table) ≡ None
    → IsSettledIn play table
settled-play play table valid none =
    let parts = passed-parts play (events.Settle table) none in
    let played = hand_there play table valid (settle_passed play.book table parts.0).playing in
    let hand = played.hand in
    let started = (started_at play table hand valid played.is).started in
    let lawful = (valid.book.hands.starts table hand.start started).lawful in
    record {
      hand = hand;
      was = played.is;
      here = played.here;
      over = end_passed hand (ap (option_and_then (hand_refusal (events.Settle table))) (sym played.is) ∙ parts.1);
      rest =
          ap (λ (found : Option HandTerms). map (stack_now
          (option_map_or (settled play.book) found play.book).seating.players table) hand.start.seats) played.is
          ∙ rests-own (stack_after_hand hand) table hand.start.seats play.book.seating.players hand.start.seats
          (each-own (stack_after_hand hand) hand.start.seats lawful.numbers)
          (λ number among. starter_sits play.book table number hand.start valid.book started among);
    }

-- The same of a state.
pub record IsSettled (state : State) (table : ℕ) : Type 0 where
  pub hand : HandTerms
  pub was : hand_in state table ≡ Some hand
  pub here : hand.start.table ≡ table
  pub over : is_over hand ≡ true
  pub rest : map (stack_now (players_of (state_after state (events.Settle table))) table) hand.start.seats
      ≡ map (stack_after table) (players_after hand)

-- A settle that is accepted settles a hand.
pub settled-state : (state : State) (table : ℕ) → IsValidState state
    → is_accepted (answer_to state (events.Settle table)) ≡ true → IsSettled state table
settled-state state table valid taken = by_play state.draft state.play state.accepted valid.play taken
  where
    by_play : (draft : Draft) (play : Option PlayState) (count : ℕ) → ForSome play IsValidPlay
        → is_accepted (answer_to (record { draft = draft; play = play; accepted = count }) (events.Settle table)) ≡ true
        → IsSettled (record { draft = draft; play = play; accepted = count }) table
    by_play draft None count valid taken = absurd cc
    by_play draft (Some play) count valid taken =
        let state : State = record { draft = draft; play = Some play; accepted = count } in
        let in_play = settled-play play table (valid play refl)
        (accepted_none (refusal_of play (events.Settle table)) taken) in
        record {
          hand = in_play.hand;
          was = in_play.was;
          here = in_play.here;
          over = in_play.over;
          rest = ap (λ (taken : Bool). map (stack_now
              (players_of (cond taken (accepted state (events.Settle table)) state)) table) in_play.hand.start.seats)
              taken
              ∙ in_play.rest;
        }

-- the lines of a settle, of the hand that is played before it, if one is
abbrev settle_lines : Viewer → ℕ → Option HandTerms → List ViewLine
settle_lines who table hand =
    map Floor (floor_lines (events.Settle table) 0
    (option_map_or (λ seen. map (stack_after table) seen.after) (option_map (seen_hand who) hand) []))
    ++ []

-- They are the lines of the settle.
settle-lines : (who : Viewer) (before after : State) (table : ℕ)
    → lines_text (settle_lines who table (hand_in before table)) ≡ text_between who before (events.Settle table) after
unfolding text_between lines_of_event
settle-lines who before after table = refl

-- the text of a settle with these stacks
abbrev settle_text : ℕ → List StackLine → List ℕ
settle_text table stacks = lines_text (map Floor (floor_lines (events.Settle table) 0 stacks))

-- The text of a settle of a hand that is over.
settle-over : (who : Viewer) (table : ℕ) (hand : HandTerms) → is_over hand ≡ true
    → settle_text table (map (stack_after table) (players_after hand)) ≡ lines_text (settle_lines who table (Some hand))
unfolding seen_hand
settle-over who table hand over =
    sym (ap (λ (b : Bool). settle_text table (map (stack_after table) (cond b (players_after hand) []))) over)
    ∙ ap lines_text (sym (append-nil (map Floor (floor_lines (events.Settle table) 0
    (map (stack_after table) (cond (is_over hand) (players_after hand) []))))))

-- The text of a settle that is accepted: what the players of the hand have at rest after it is told.
pub text-settled : (who : Viewer) (before after : State) (table : ℕ) (start : HandStart) (hand : IsSettled before table)
    → after ≡ state_after before (events.Settle table) → start ≡ hand.hand.start
    → settled_text (events.Settle table) start after ≡ text_between who before (events.Settle table) after
text-settled who before after table start hand is same =
    let stacks : map (stack_now (players_of after) start.table) start.seats
    ≡ map (stack_after table) (players_after hand.hand)
    = (λ i. map (stack_now (players_of (is i)) (same i).table) (same i).seats)
    ∙ (ap (λ (number : ℕ). map (stack_now (players_of (state_after before (events.Settle table))) number)
    hand.hand.start.seats) hand.here
    ∙ hand.rest) in
    ap (settle_text table) stacks
    ∙ (settle-over who table hand.hand hand.over
    ∙ (ap (λ (found : Option HandTerms). lines_text (settle_lines who table found)) (sym hand.was)
    ∙ settle-lines who before after table))

-- What was written of a settle that is accepted, from how its hand began, is what tells of it.
pub written-settled : (who : Viewer) (state after : State) (table : ℕ) (event : Event) (began : HandStart)
    (old new : List ℕ)
    → IsValidState state → event ≡ events.Settle table → is_accepted (answer_to state event) ≡ true
    → after ≡ state_after state event → option_map (λ hand. hand.start) (hand_in state table) ≡ Some began
    → new ≡ old ++ settled_text event began after
    → new ≡ old ++ text_of who state event
written-settled who state after table event began old new valid settle taken is found written =
    let accepted : is_accepted (answer_to state (events.Settle table)) ≡ true
    = ap (λ (event : Event). is_accepted (answer_to state event)) (sym settle) ∙ taken in
    let hand = settled-state state table valid accepted in
    let same : began ≡ hand.hand.start = same_Some began hand.hand.start
    (sym found ∙ ap (option_map (λ (hand : HandTerms). hand.start)) hand.was) in
    let now : after ≡ state_after state (events.Settle table)
    = is ∙ ap (λ (event : Event). state_after state event) settle in
    let text : settled_text event began after ≡ text_between who state event after
    = ap (λ (event : Event). settled_text event began after) settle
    ∙ (text-settled who state after table began hand now same
    ∙ ap (λ (event : Event). text_between who state event after) (sym settle)) in
    written-accepted who state after event old new taken is (written ∙ ap (λ (text : List ℕ). old ++ text) text)

-- A hand was played at the table of a settle that is accepted.
pub some-settled : (state : State) (table : ℕ) (event : Event) (start : Option HandStart)
    → IsValidState state → event ≡ events.Settle table → is_accepted (answer_to state event) ≡ true
    → start ≡ option_map (λ hand. hand.start) (hand_in state table) → start ≡ None → ⊥
some-settled state table event start valid settle taken found none =
    let accepted : is_accepted (answer_to state (events.Settle table)) ≡ true
    = ap (λ (event : Event). is_accepted (answer_to state event)) (sym settle) ∙ taken in
    let hand = settled-state state table valid accepted in
    let never : None ≡ Some hand.hand.start
    = sym none ∙ (found ∙ ap (option_map (λ (hand : HandTerms). hand.start)) hand.was) in
    absurd cc
