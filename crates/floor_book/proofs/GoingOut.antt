-- Players who are broke go out one after another.
use Rattle.std.proofs.Common.{◌≡◌, ◌∙◌, refl, sym, ap, ◌<◌, ◌≤◌, ℕ, ◌+◌, Bool, true, false, cond, ◌==◌, List, [], ◌∷◌, ◌++◌, length, take, get_or, map, arith, append_assoc}
use Rattle.std.specs.Prelude.{count_by, filter, Some}
use Rattle.std.specs.List.{list_any}
use Rattle.std.proofs.lemmas.Bool.{eq-eqb}
use Rattle.std.proofs.lemmas.List.{take_more, append-nil, get_or-map, map-append}
use Rattle.std.proofs.lemmas.List.Elements.{filter-append}
use Rattle.std.proofs.lemmas.List.Folds.{list_any_at}
use Rattle.std.proofs.lemmas.List.Sums.{AllPass-from_list_all, list_all-from_AllPass}
use Rattle.rulebook.specs.Limits.{most_entries}
use Rattle.place_list.specs.declared.bust.Bust.{Bust}
use Rattle.seat_book.specs.Players.{is_numbered, lifted}
use Rattle.seat_book.specs.Seatings.{Seating}
use Rattle.table_engine.specs.declared.start.HandStart.{HandStart}
use Rattle.table_engine.specs.declared.start.StartSeat.{StartSeat}
use Rattle.table_engine.specs.Hands.{HandTerms}
use Rattle.table_engine.specs.Results.{stack_after_hand, stacks_after_hand}
use Rattle.tournament_rules.specs.Books.{BookState, start_at}
use Rattle.tournament_rules.specs.Players.{paid, put_back, stayed}
use Rattle.tournament_rules.specs.Effects.{bust_of}
use Rattle.tournament_rules.specs.Valid.{IsValid, AreOnce, is_bust_of}
use Rattle.tournament_rules.proofs.InOrBust.{MayLeave, may_leave, once-leaves}
use Rattle.tournament_rules.proofs.Leaving.{stayed-none, stayed-more, still_sits, starter_sits, sits_paid, later_differs}
use Rattle.tournament_rules.proofs.Restacked.{count_changed}
use Rattle.tournament_rules.proofs.Paying.{paid-stacks}
use Rattle.floor_book.specs.Busts.{MayGoOut}
use Rattle.floor_book.proofs.Dealt.{seated_as}

-- The players of a hand that is out may go out once stacks went back to them.
pub may_all : (book : BookState) (table : ℕ) (start : HandStart) (payees : List StartSeat) → IsValid book
    → start_at book.started table ≡ Some start → MayGoOut start.seats (put_back payees book.seating.players) book.busts
may_all book table start payees valid is =
    let lawful = (valid.hands.starts table start is).lawful in
    let players = book.seating.players in
    record {
      entries = book.entries;
      few = let few = valid.entries.few in omega (arith, few);
      once = λ number. ap (λ (seats : ℕ). seats + count_by (is_bust_of number) book.busts)
          (count_changed (is_numbered number) (paid payees) (record { same = λ player stack. refl })
          (paid-stacks payees) players) ∙ valid.entries.once number;
      apart = lawful.numbers;
      listed = lawful.entries;
      sit = list_all-from_AllPass (λ starter. list_any (is_numbered starter.player) (put_back payees players))
          start.seats (λ k d within. sits (get_or start.seats k d).player (list_any_at
          (λ starter. starter.player == (get_or start.seats k d).player) start.seats k d within
          (eq-eqb (get_or start.seats k d).player (get_or start.seats k d).player refl)));
    }
  where
    sits : (number : ℕ) → list_any (λ starter. starter.player == number) start.seats ≡ true
        → list_any (is_numbered number) (put_back payees book.seating.players) ≡ true
    sits number among = sits_paid payees number book.seating.players
        ∙ starter_sits book table number start valid is among

-- whether a hand leaves a player without chips
abbrev pub is_broke : HandTerms → StartSeat → Bool
is_broke hand player = stack_after_hand hand player == 0

-- the seats and the players who are out once those of the first so many players who are broke went out
pub record IsBustSoFar (players : List StartSeat) (test : StartSeat → Bool) (group : ℕ) (before now : Seating)
    (started out_now : List Bust) (index : ℕ) : Type 0 where
  pub seats : now ≡ seated_as before (stayed (filter test (take index players)) before.players)
  pub busts : out_now ≡ started ++ map (bust_of group) (filter test (take index players))
  pub entries : List (List ℕ)
  pub few : length entries ≤ most_entries
  pub once : AreOnce entries now.players out_now

-- Before any player nobody went out.
pub bust_first : (players : List StartSeat) (test : StartSeat → Bool) (group : ℕ) (before : Seating) (started : List Bust)
    → MayGoOut players before.players started → IsBustSoFar players test group before before started started 0
bust_first players test group before started may = record {
  seats = ap (seated_as before) (sym (stayed-none before.players));
  busts = sym (append-nil started);
  entries = may.entries;
  few = may.few;
  once = may.once;
}

-- The next player sits.
next_sits : (players : List StartSeat) (test : StartSeat → Bool) (group : ℕ) (before now : Seating)
    (started out_now : List Bust) (index : ℕ) (player : StartSeat) → MayGoOut players before.players started
    → IsBustSoFar players test group before now started out_now index → index < length players
    → player ≡ get_or players index player → list_any (is_numbered player.player) now.players ≡ true
next_sits players test group before now started out_now index player may so_far within is =
    let sat : list_any (is_numbered player.player) before.players ≡ true = rw (← is)
    at (AllPass-from_list_all (λ (player : StartSeat). list_any (is_numbered player.player) before.players) players
    may.sit index player within) in
    let other = rw (← is) at (later_differs test players index player may.apart within) in
    let still = still_sits (filter test (take index players)) player.player before.players sat other in
    rw so_far.seats still

-- He may leave his seat.
pub next_leaves : (players : List StartSeat) (test : StartSeat → Bool) (group : ℕ) (before now : Seating)
    (started out_now : List Bust) (index : ℕ) (player : StartSeat) → MayGoOut players before.players started
    → IsBustSoFar players test group before now started out_now index → index < length players
    → player ≡ get_or players index player → MayLeave now.players out_now player.player
next_leaves players test group before now started out_now index player may so_far within is =
    may_leave so_far.entries now.players out_now player.player so_far.once so_far.few
    (next_sits players test group before now started out_now index player may so_far within is)

-- Those of the first so many players and of one more whom a test picks.
picked_more : (players : List StartSeat) (test : StartSeat → Bool) (index : ℕ) (player : StartSeat)
    → index < length players → player ≡ get_or players index player
    → filter test (take (index + 1) players)
    ≡ filter test (take index players) ++ cond (test player) (player ∷ []) []
picked_more players test index player within is =
    ap (filter test) (take_more players index player within)
    ∙ (filter-append test (take index players) (get_or players index player ∷ [])
    ∙ ap (λ (player : StartSeat). filter test (take index players) ++ filter test (player ∷ [])) (sym is))

-- One player more, who is broke.
pub bust_next : (players : List StartSeat) (test : StartSeat → Bool) (group : ℕ) (before now next : Seating)
    (started out_now out_next : List Bust) (index : ℕ) (player : StartSeat) → MayGoOut players before.players started
    → IsBustSoFar players test group before now started out_now index → index < length players
    → player ≡ get_or players index player → test player ≡ true
    → next ≡ seated_as now (lifted player.player now.players) → out_next ≡ out_now ++ bust_of group player ∷ []
    → IsBustSoFar players test group before next started out_next (index + 1)
bust_next players test group before now next started out_now out_next index player may so_far within is broke next_is
    out_is =
    let gone = filter test (take index players) in
    let more : gone ++ player ∷ [] ≡ filter test (take (index + 1) players) =
    sym (picked_more players test index player within is
    ∙ ap (λ (b : Bool). gone ++ cond b (player ∷ []) []) broke) in
    let sits = next_sits players test group before now started out_now index player may so_far within is in
    record {
      seats = (rw so_far.seats at next_is)
          ∙ ap (seated_as before) (sym (stayed-more gone player before.players)
          ∙ ap (λ (gone : List StartSeat). stayed gone before.players) more);
      busts = out_is ∙ (ap (λ (busts : List Bust). busts ++ bust_of group player ∷ []) so_far.busts
          ∙ (append_assoc started (map (bust_of group) gone) (bust_of group player ∷ [])
          ∙ (ap (λ (rows : List Bust). started ++ rows) (sym (map-append (bust_of group) gone (player ∷ [])))
          ∙ ap (λ (gone : List StartSeat). started ++ map (bust_of group) gone) more)));
      entries = so_far.entries;
      few = so_far.few;
      once = rw (next_is, out_is) (once-leaves so_far.entries now.players out_now (bust_of group player) so_far.once
          sits);
    }

-- One player more, who is not.
pub stay_next : (players : List StartSeat) (test : StartSeat → Bool) (group : ℕ) (before now : Seating)
    (started out_now : List Bust) (index : ℕ) (player : StartSeat)
    → IsBustSoFar players test group before now started out_now index → index < length players
    → player ≡ get_or players index player → test player ≡ false
    → IsBustSoFar players test group before now started out_now (index + 1)
stay_next players test group before now started out_now index player so_far within is stays =
    let gone = filter test (take index players) in
    let same : gone ≡ filter test (take (index + 1) players) = sym (picked_more players test index player within is
    ∙ (ap (λ (b : Bool). gone ++ cond b (player ∷ []) []) stays ∙ append-nil gone)) in
    record {
      seats = so_far.seats ∙ ap (λ (gone : List StartSeat). seated_as before (stayed gone before.players)) same;
      busts = so_far.busts ∙ ap (λ (gone : List StartSeat). started ++ map (bust_of group) gone) same;
      entries = so_far.entries;
      few = so_far.few;
      once = so_far.once;
    }

-- The stacks after a hand have each player's in his place.
pub stack_at : (hand : HandTerms) (stacks : List ℕ) (index : ℕ) (player : StartSeat) → stacks ≡ stacks_after_hand hand
    → index < length hand.start.seats → player ≡ get_or hand.start.seats index player
    → get_or stacks index 0 ≡ stack_after_hand hand player
stack_at hand stacks index player stacks_is within is =
    ap (λ (stacks : List ℕ). get_or stacks index 0) stacks_is
    ∙ (get_or-map (stack_after_hand hand) hand.start.seats index player 0 within ∙ ap (stack_after_hand hand) (sym is))
