-- Whose stacks an event leaves as they are.
use Rattle.std.proofs.Common.{◌≡◌, ◌≢◌, ◌∙◌, refl, sym, ap, ℕ, ◌+◌, Bool, true, false, cond, ◌==◌, ◌||◌, List, [], ◌∷◌, map, length, arith}
use Rattle.std.specs.Prelude.{not, filter, find, nat_lt, count_by, sum_by, if◌then◌else◌, Option, Some, None, option_map}
use Rattle.std.specs.List.{list_all}
use Rattle.std.specs.Option.{option_map_or, ForSome}
use Rattle.std.proofs.lemmas.Bool.{and_parts, eqb-true, ne_eqb, not-true, or_parts}
use Rattle.std.proofs.lemmas.List.Sums.{sum_by-cons, sum_by-insert}
use Rattle.rulebook.proofs.Tests.{find-passes}
use Rattle.card_set.specs.declared.card.CardRow.{CardRow}
use Rattle.level_plan.specs.Plans.{unit_of_level}
use Rattle.seat_book.specs.declared.place.Place.{Place}
use Rattle.seat_book.specs.declared.seated.Seated.{Seated}
use Rattle.seat_book.specs.Places.{comes_before}
use Rattle.seat_book.specs.Players.{is_numbered, player_of, are_apart, players_at}
use Rattle.seat_book.specs.Seatings.{Seating}
use Rattle.balance_rule.specs.declared.balance.Move.{Move}
use Rattle.balance_rule.specs.Balance.{balance_move, after_move}
use Rattle.table_engine.specs.declared.start.HandStart.{HandStart}
use Rattle.table_engine.specs.declared.start.StartSeat.{StartSeat}
use Rattle.table_engine.specs.Hands.{HandTerms}
use Rattle.table_engine.specs.Results.{with_stack, stack_after_hand, players_after}
use Rattle.tournament_events.specs.declared.event.Event.{Event}
use Rattle.tournament_events.specs.declared.event.Event.TheVariants as events
use Rattle.tournament_rules.specs.Books.{BookState, number_in, start_at, starters_of}
use Rattle.tournament_rules.specs.Dealing.{next_at, next_start}
use Rattle.tournament_rules.specs.Effects.{newcomer, returner, busted_by, settled}
use Rattle.tournament_rules.specs.Moving.{after_all, after_taking, is_called}
use Rattle.tournament_rules.specs.Players.{is_among, is_dealt_in, is_one_of, start_seat, with_rest, dealt_in, dealt_seats, paid, put_back, stayed}
use Rattle.tournament_rules.specs.Racing.{announced}
use Rattle.tournament_rules.specs.States.{State, PlayState, first_state, acts_at, refusal_of, answer_to, is_accepted, accepted, play_effect, players_of, state_after, run}
use Rattle.tournament_rules.specs.Valid.{IsValid, IsValidPlay}
use Rattle.tournament_rules.proofs.Breaks.{MayTake, bare_book, break_passed, may_take, taken, taken_book, valid_forgotten}
use Rattle.tournament_rules.proofs.Moved.{sum-moved}
use Rattle.tournament_rules.proofs.Passed.{passed-parts}
use Rattle.tournament_rules.proofs.Paying.{paid-nothing, paid-stacks}
use Rattle.tournament_rules.proofs.Restacked.{key_changed}
use Rattle.tournament_rules.proofs.Steps.{accepted_none, valid_events}
use Rattle.level_plan.specs.Drafts.{Draft}
use Rattle.tournament_rules.proofs.Plays.{play_keeps}
use Rattle.tournament_laws.specs.Stacks.{stack_at_rest, moves_chips}

-- what a player counts for a number: one more than his stack where he has it, and else nothing
abbrev weight : ℕ → Seated → ℕ
weight number player = cond (is_numbered number player) (1 + player.stack) 0

-- what all players count for a number
abbrev weight_in : ℕ → List Seated → ℕ
weight_in number players = sum_by (weight number) players

-- Who all have other numbers count nothing.
no_weight : (number : ℕ) (players : List Seated) → list_all (λ other. not (is_numbered number other)) players ≡ true
    → weight_in number players ≡ 0
no_weight number [] none = refl
no_weight number (player ∷ players) none =
    let parts = and_parts (not (is_numbered number player)) (list_all (λ other. not (is_numbered number other)) players)
    none in
    let differs = not-true (is_numbered number player) parts.0 in
    let all = sum_by-cons (weight number) player players in
    let here = ap (λ (b : Bool). cond {A = ℕ} b (1 + player.stack) 0) differs in
    omega (arith, all, here, no_weight number players parts.1)

-- Where no two have one number, the players count for a number what the stack of its player tells.
stack-weight : (number : ℕ) (players : List Seated) → are_apart players ≡ true
    → weight_in number players ≡ option_map_or (λ stack. 1 + stack) (stack_at_rest players number) 0
stack-weight number [] apart = refl
stack-weight number (player ∷ players) apart =
    let parts = and_parts (list_all (λ other. not (is_numbered player.player other)) players)
    (are_apart players) apart in
    by_number (is_numbered number player) refl parts.0 (sum_by-cons (weight number) player players)
    (stack-weight number players parts.1)
  where
    by_number : (b : Bool) → is_numbered number player ≡ b
        → list_all (λ other. not (is_numbered player.player other)) players ≡ true
        → weight_in number (player ∷ players) ≡ weight number player + weight_in number players
        → weight_in number players ≡ option_map_or (λ stack. 1 + stack) (stack_at_rest players number) 0
        → weight_in number (player ∷ players)
        ≡ option_map_or (λ stack. 1 + stack) (stack_at_rest (player ∷ players) number) 0
    by_number true is others all rest =
        let same = eqb-true player.player number is in
        let none = no_weight number players (rw same at others) in
        rw is (omega (arith, rw is at all, none))
    by_number false is others all rest = rw is (omega (arith, rw is at all, rest))

same_stack : (one other : Option ℕ)
    → option_map_or (λ stack. 1 + stack) one 0 ≡ option_map_or (λ stack. 1 + stack) other 0 → one ≡ other
same_stack None None same = refl
same_stack None (Some stack) same = absurd (omega (arith, same))
same_stack (Some stack) None same = absurd (omega (arith, same))
same_stack (Some one) (Some other) same = ap Some (omega (arith, same))

-- Where players count the same for a number, its player has the same stack.
by_weight : (number : ℕ) (before after : List Seated) → are_apart before ≡ true → are_apart after ≡ true
    → weight_in number after ≡ weight_in number before → stack_at_rest after number ≡ stack_at_rest before number
by_weight number before after apart still same =
    same_stack (stack_at_rest after number) (stack_at_rest before number)
    (sym (stack-weight number after still) ∙ (same ∙ stack-weight number before apart))

-- A player who moves counts what he did.
weight-moved : (number : ℕ) (move_ : Move) (seating : Seating) → are_apart seating.players ≡ true
    → weight_in number (after_move move_ seating).players ≡ weight_in number seating.players
weight-moved number move_ seating apart = by_player (player_of seating.players move_.player) refl
  where
    by_player : (found : Option Seated) → player_of seating.players move_.player ≡ found
        → weight_in number (after_move move_ seating).players ≡ weight_in number seating.players
    by_player None is = rw is refl
    by_player (Some player) is =
        let number_is = eqb-true player.player move_.player
        (find-passes (is_numbered move_.player) seating.players player is) in
        let his = ap (player_of seating.players) number_is ∙ is in
        let sum = sum-moved move_.to player seating.players apart his (weight number) in
        rw is (omega (arith, sum))

-- So do players who take places, one after another.
weight-taken : (number : ℕ) (table : ℕ) (name : List ℕ) (place : Place) (seating : Seating)
    → are_apart seating.players ≡ true
    → weight_in number (after_taking table name place seating).players ≡ weight_in number seating.players
weight-taken number table name place seating apart = by_player
    (find (is_called name) (players_at seating.players table))
  where
    by_player : (found : Option Seated)
        → weight_in number (option_map_or (λ move_. after_move move_ seating)
        (option_map (λ player. record { player = player.player; from = player.place; to = place }) found)
        seating).players ≡ weight_in number seating.players
    by_player None = refl
    by_player (Some player) = weight-moved number
        (record { player = player.player; from = player.place; to = place }) seating apart

weight-all : (number : ℕ) (book : BookState) (table : ℕ) (names : List (List ℕ)) (places : List Place) → IsValid book
    → MayTake book table places
    → weight_in number (after_all table names places book.seating).players ≡ weight_in number book.seating.players
weight-all number book table [] places valid may = refl
weight-all number book table (name ∷ names) [] valid may = refl
weight-all number book table (name ∷ names) (place ∷ places) valid may =
    let first = taken book table name place places valid may in
    weight-all number (taken_book book table name place places valid may) table names places first.0 first.1
    ∙ weight-taken number table name place book.seating valid.tables.lawful.apart

-- What an event that moves no chips leaves of what the players count.
weight-effect : (number : ℕ) (play : PlayState) (event : Event) → IsValidPlay play → refusal_of play event ≡ None
    → moves_chips event ≡ false
    → weight_in number (play_effect play event).book.seating.players ≡ weight_in number play.book.seating.players
weight-effect number play (events.Balance from to) valid none kind =
    by_move (balance_move play.book.seating from to)
  where
    by_move : (found : Option Move)
        → weight_in number (option_map_or (λ move_. after_move move_ play.book.seating) found play.book.seating).players
        ≡ weight_in number play.book.seating.players
    by_move None = refl
    by_move (Some move_) = weight-moved number move_ play.book.seating valid.book.tables.lawful.apart
weight-effect number play (events.Break table places names) valid none kind =
    let may = break_passed play.book table places names (passed-parts play (events.Break table places names) none).0 in
    let there = (and_parts _ _ may.opened).0 in
    weight-all number (bare_book play.book table) table names places (valid_forgotten play.book table valid.book there)
    (may_take play.book table places names valid.book may)
weight-effect number play events.Level valid none kind =
    by_units (nat_lt (unit_of_level play.book.plan.blinds play.book.level)
    (unit_of_level play.book.plan.blinds (play.book.level + 1)))
  where
    by_units : (greater : Bool)
        → weight_in number
        (if greater then announced (unit_of_level play.book.plan.blinds (play.book.level + 1)) play.book.seating
        else play.book.seating).players ≡ weight_in number play.book.seating.players
    by_units true = refl
    by_units false = refl
weight-effect number play _ valid none kind = cc

-- An event that moves no chips leaves all stacks.
pub stack-kept : (number : ℕ) (play : PlayState) (event : Event) → IsValidPlay play → refusal_of play event ≡ None
    → moves_chips event ≡ false
    → stack_at_rest (play_effect play event).book.seating.players number
    ≡ stack_at_rest play.book.seating.players number
stack-kept number play event valid none kind =
    by_weight number play.book.seating.players (play_effect play event).book.seating.players
    valid.book.tables.lawful.apart (play_keeps play event valid none).book.tables.lawful.apart
    (weight-effect number play event valid none kind)

-- An entry leaves the stacks of all who are in.
pub stack-entered : (number : ℕ) (play : PlayState) (name : List ℕ) (table seat : ℕ) → IsValidPlay play
    → refusal_of play (events.Enter name table seat) ≡ None → number ≢ length play.book.entries
    → stack_at_rest (play_effect play (events.Enter name table seat)).book.seating.players number
    ≡ stack_at_rest play.book.seating.players number
stack-entered number play name table seat valid none other =
    let new = newcomer play.book name table seat in
    let sum = sum_by-insert (weight number) play.book.seating.players
    (count_by (λ other. comes_before other.place new.place) play.book.seating.players) new in
    let differs = ne_eqb (length play.book.entries) number (λ same. other (sym same)) in
    let his = ap (λ (b : Bool). cond {A = ℕ} b (1 + play.book.plan.stack) 0) differs in
    by_weight number play.book.seating.players
    (play_effect play (events.Enter name table seat)).book.seating.players valid.book.tables.lawful.apart
    (play_keeps play (events.Enter name table seat) valid none).book.tables.lawful.apart
    (omega (arith, sum, his))

-- A re-entry leaves the stacks of all but the player who re-enters.
pub stack-reentered : (number : ℕ) (play : PlayState) (name : List ℕ) (table seat : ℕ) → IsValidPlay play
    → refusal_of play (events.Reenter name table seat) ≡ None → number ≢ number_in play.book name
    → stack_at_rest (play_effect play (events.Reenter name table seat)).book.seating.players number
    ≡ stack_at_rest play.book.seating.players number
stack-reentered number play name table seat valid none other =
    let new = returner play.book name table seat in
    let sum = sum_by-insert (weight number) play.book.seating.players
    (count_by (λ other. comes_before other.place new.place) play.book.seating.players) new in
    let differs = ne_eqb (number_in play.book name) number (λ same. other (sym same)) in
    let his = ap (λ (b : Bool). cond {A = ℕ} b (1 + play.book.plan.stack) 0) differs in
    by_weight number play.book.seating.players
    (play_effect play (events.Reenter name table seat)).book.seating.players valid.book.tables.lawful.apart
    (play_keeps play (events.Reenter name table seat) valid none).book.tables.lawful.apart
    (omega (arith, sum, his))

-- Who is not dealt in counts what he did.
weight-dealt : (number table : ℕ) (waiting : List Bool) (players : List Seated)
    → is_among number (dealt_seats table waiting players) ≡ false
    → weight_in number (dealt_in table waiting players) ≡ weight_in number players
weight-dealt number table waiting [] none = refl
weight-dealt number table waiting (player ∷ players) none =
    by_test (is_dealt_in table waiting player) none (weight-dealt number table waiting players)
    (sum_by-cons (weight number) player players)
  where
    by_test : (b : Bool)
        → is_among number (map start_seat (cond b (player ∷ filter (is_dealt_in table waiting) players)
        (filter (is_dealt_in table waiting) players))) ≡ false
        → (is_among number (dealt_seats table waiting players) ≡ false
        → weight_in number (dealt_in table waiting players) ≡ weight_in number players)
        → weight_in number (player ∷ players) ≡ weight number player + weight_in number players
        → weight_in number ((if b then with_rest player 0 else player) ∷ dealt_in table waiting players)
        ≡ weight_in number (player ∷ players)
    by_test true none rest all =
        let parts = or_parts (player.player == number) (is_among number (dealt_seats table waiting players)) none in
        let before = ap (λ (b : Bool). cond {A = ℕ} b (1 + player.stack) 0) parts.0 in
        let after = ap (λ (b : Bool). cond {A = ℕ} b 1 0) parts.0 in
        let new = sum_by-cons (weight number) (with_rest player 0) (dealt_in table waiting players) in
        omega (arith, all, before, after, new, rest parts.1)
    by_test false none rest all =
        let new = sum_by-cons (weight number) player (dealt_in table waiting players) in
        omega (arith, all, new, rest none)

-- A begin leaves the stacks of all who are not dealt in.
pub stack-begun : (number : ℕ) (play : PlayState) (table : ℕ) (row : CardRow) → IsValidPlay play
    → refusal_of play (events.Begin table row) ≡ None
    → is_among number (next_start play.book table row.cards).seats ≡ false
    → stack_at_rest (play_effect play (events.Begin table row)).book.seating.players number
    ≡ stack_at_rest play.book.seating.players number
stack-begun number play table row valid none other =
    by_weight number play.book.seating.players
    (play_effect play (events.Begin table row)).book.seating.players valid.book.tables.lawful.apart
    (play_keeps play (events.Begin table row) valid none).book.tables.lawful.apart
    (weight-dealt number table (next_at play.book table).waiting play.book.seating.players other)

-- Who is among those whom a test picks of a start's players is among them.
among-picked : (number : ℕ) (test : StartSeat → Bool) (starters : List StartSeat) → is_among number starters ≡ false
    → is_among number (filter test starters) ≡ false
among-picked number test [] none = refl
among-picked number test (starter ∷ starters) none =
    let parts = or_parts (starter.player == number) (is_among number starters) none in
    by_test (test starter) parts.0 (among-picked number test starters parts.1)
  where
    by_test : (b : Bool) → (starter.player == number) ≡ false → is_among number (filter test starters) ≡ false
        → is_among number (cond b (starter ∷ filter test starters) (filter test starters)) ≡ false
    by_test true differs rest = rw (differs, rest) refl
    by_test false differs rest = rest

-- The players of a hand have their numbers after it.
among-after : (number : ℕ) (hand : HandTerms) (starters : List StartSeat)
    → is_among number (map (λ player. with_stack player (stack_after_hand hand player)) starters)
    ≡ is_among number starters
among-after number hand [] = refl
among-after number hand (starter ∷ starters) =
    ap (◌||◌ (starter.player == number)) (among-after number hand starters)

-- Who is not paid and does not leave counts what he did.
weight-stayed : (number : ℕ) (payees leaving : List StartSeat) (players : List Seated)
    → is_among number payees ≡ false → is_among number leaving ≡ false
    → weight_in number (stayed leaving (put_back payees players)) ≡ weight_in number players
weight-stayed number payees leaving [] unpaid stays = refl
weight-stayed number payees leaving (player ∷ players) unpaid stays =
    by_number (is_numbered number player) refl (weight-stayed number payees leaving players unpaid stays)
    (sum_by-cons (weight number) player players)
  where
    others : List Seated
    others = stayed leaving (put_back payees players)

    -- who has another number counts nothing, whether he leaves or not
    by_leaving : (leaves : Bool) → is_numbered number player ≡ false
        → weight_in number (cond (not leaves) (paid payees player ∷ others) others) ≡ weight_in number others
    by_leaving true differs = refl
    by_leaving false differs =
        let his = key_changed (λ (player : Seated). player.player) (paid payees)
        (record { same = λ player stack. refl })
        (paid-stacks payees) player in
        let none = ap (λ (own : ℕ). own == number) his ∙ differs in
        let here = ap (λ (b : Bool). cond {A = ℕ} b (1 + (paid payees player).stack) 0) none in
        let all = sum_by-cons (weight number) (paid payees player) others in
        omega (arith, here, all)

    by_number : (b : Bool) → is_numbered number player ≡ b → weight_in number others ≡ weight_in number players
        → weight_in number (player ∷ players) ≡ weight number player + weight_in number players
        → weight_in number (stayed leaving (put_back payees (player ∷ players))) ≡ weight_in number (player ∷ players)
    by_number true is rest all =
        let same = eqb-true player.player number is in
        let his : is_among player.player payees ≡ false = ap (λ (own : ℕ). is_among own payees) same ∙ unpaid in
        let stay : is_one_of leaving player ≡ false = ap (λ (own : ℕ). is_among own leaving) same ∙ stays in
        let new = sum_by-cons (weight number) player others in
        rw (paid-nothing payees player his, stay) (omega (arith, all, new, rest))
    by_number false is rest all =
        let here = ap (λ (b : Bool). cond {A = ℕ} b (1 + player.stack) 0) is in
        by_leaving (is_one_of leaving (paid payees player)) is ∙ omega (arith, rest, all, here)

-- What a settle leaves of what the players count.
weight-settled : (number : ℕ) (play : PlayState) (table : ℕ)
    → is_among number (starters_of (start_at play.book.started table)) ≡ false
    → weight_in number (play_effect play (events.Settle table)).book.seating.players
    ≡ weight_in number play.book.seating.players
weight-settled number play table none = by_start (start_at play.book.started table) none
  where
    by_start : (start : Option HandStart) → is_among number (starters_of start) ≡ false
        → weight_in number (option_map_or (settled play.book)
        (option_map (λ start. record { start = start; acts = acts_at play.acts table }) start)
        play.book).seating.players
        ≡ weight_in number play.book.seating.players
    by_start None none = refl
    by_start (Some start) none =
        let hand : HandTerms = record { start = start; acts = acts_at play.acts table } in
        weight-stayed number (players_after hand) (busted_by hand) play.book.seating.players
        (among-after number hand start.seats ∙ none)
        (among-picked number (λ player. stack_after_hand hand player == 0) start.seats none)

-- A settle leaves the stacks of all who are not in its hand.
pub stack-settled : (number : ℕ) (play : PlayState) (table : ℕ) → IsValidPlay play
    → refusal_of play (events.Settle table) ≡ None
    → is_among number (starters_of (start_at play.book.started table)) ≡ false
    → stack_at_rest (play_effect play (events.Settle table)).book.seating.players number
    ≡ stack_at_rest play.book.seating.players number
stack-settled number play table valid none other =
    by_weight number play.book.seating.players
    (play_effect play (events.Settle table)).book.seating.players valid.book.tables.lawful.apart
    (play_keeps play (events.Settle table) valid none).book.tables.lawful.apart
    (weight-settled number play table other)

-- What every event that is not refused leaves of a tournament's players, every event leaves of a state's.
pub left_in_state : (before : List Event) (event : Event) (number : ℕ) (P : PlayState → Type 0)
    → ((play : PlayState) → IsValidPlay play → refusal_of play event ≡ None → P play
    → stack_at_rest (play_effect play event).book.seating.players number
    ≡ stack_at_rest play.book.seating.players number)
    → ForSome (run first_state before).play P
    → stack_at_rest (players_of (state_after (run first_state before) event)) number
    ≡ stack_at_rest (players_of (run first_state before)) number
left_in_state before event number P kept so = by_state state.draft state.play state.accepted
    (valid_events before).play so
  where
    state : State
    state = run first_state before

    by_play : (draft : Draft) (play : Option PlayState) (count : ℕ) → ForSome play IsValidPlay → ForSome play P
        → is_accepted (answer_to (record { draft = draft; play = play; accepted = count }) event) ≡ true
        → stack_at_rest (players_of (accepted (record { draft = draft; play = play; accepted = count }) event)) number
        ≡ stack_at_rest (players_of (record { draft = draft; play = play; accepted = count })) number
    by_play draft None count valid so is_taken = by_event event
      where
        by_event : (event : Event)
            → stack_at_rest (players_of (accepted (record { draft = draft; play = None; accepted = count }) event))
            number
            ≡ stack_at_rest [] number
        by_event events.Go = refl
        by_event _ = refl
    by_play draft (Some play) count valid so is_taken =
        kept play (valid play refl) (accepted_none (refusal_of play event) is_taken) (so play refl)

    by_state : (draft : Draft) (play : Option PlayState) (count : ℕ) → ForSome play IsValidPlay → ForSome play P
        → stack_at_rest (players_of (state_after (record { draft = draft; play = play; accepted = count }) event))
        number
        ≡ stack_at_rest (players_of (record { draft = draft; play = play; accepted = count })) number
    by_state draft play count valid so =
        by_answer (is_accepted (answer_to (record { draft = draft; play = play; accepted = count }) event)) refl
      where
        before_it : State
        before_it = record { draft = draft; play = play; accepted = count }

        by_answer : (taken : Bool) → is_accepted (answer_to before_it event) ≡ taken
            → stack_at_rest (players_of (if taken then accepted before_it event else before_it)) number
            ≡ stack_at_rest (players_of before_it) number
        by_answer true is_taken = by_play draft play count valid so is_taken
        by_answer false is_taken = refl
