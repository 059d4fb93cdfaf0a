-- Players leave their seats.
use Rattle.std.proofs.Common.{◌≡◌, ◌∙◌, refl, sym, ap, ℕ, zero, suc, ◌<◌, Bool, true, false, cond, ◌==◌, ◌||◌, List, [], ◌∷◌, ◌++◌, map, length, take, get_or, arith}
use Rattle.std.specs.Prelude.{not, filter, Option, Some}
use Rattle.std.specs.List.{list_all, list_any}
use Rattle.std.proofs.lemmas.Bool.{eqb-true, and_parts, not-true}
use Rattle.std.proofs.lemmas.List.Folds.{list_all-map}
use Rattle.std.proofs.lemmas.List.Sums.{AllPass-from_list_all}
use Rattle.rulebook.specs.Pairs.{are_distinct}
use Rattle.rulebook.proofs.Tests.{eqb-swap}
use Rattle.seat_book.specs.declared.seated.Seated.{Seated}
use Rattle.seat_book.specs.Players.{is_numbered, lifted}
use Rattle.table_engine.specs.declared.start.HandStart.{HandStart}
use Rattle.table_engine.specs.declared.start.StartSeat.{StartSeat}
use Rattle.tournament_rules.specs.Books.{BookState, start_at, starters_of}
use Rattle.tournament_rules.specs.Players.{is_among, start_seat, paid, put_back, stayed}
use Rattle.tournament_rules.specs.Valid.{IsValid, is_lent, without_stack}
use Rattle.tournament_rules.proofs.Members.{has_number, any_without}
use Rattle.tournament_rules.proofs.Restacked.{any_changed}
use Rattle.tournament_rules.proofs.Paying.{numbers_of, paid-stacks}

-- Where nobody leaves, all stay.
pub stayed-none : (players : List Seated) → stayed [] players ≡ players
stayed-none [] = refl
stayed-none (player ∷ players) = ap (λ (others : List Seated). player ∷ others) (stayed-none players)

-- Where one more leaves, he leaves those who stayed before.
pub stayed-more : (leaving : List StartSeat) (more : StartSeat) (players : List Seated)
    → stayed (leaving ++ more ∷ []) players ≡ lifted more.player (stayed leaving players)
stayed-more leaving more [] = refl
stayed-more leaving more (player ∷ players) =
    by_tests (is_among player.player leaving) (is_numbered more.player player)
    (one_more player.player leaving) refl (stayed-more leaving more players)
  where
    one_more : (number : ℕ) (leaving : List StartSeat)
        → is_among number (leaving ++ more ∷ []) ≡ (is_among number leaving || (number == more.player))
    one_more number [] = by_test (more.player == number) (eqb-swap more.player number)
      where
        by_test : (b : Bool) → b ≡ (number == more.player) → (b || false) ≡ (number == more.player)
        by_test true is = is
        by_test false is = is
    one_more number (starter ∷ leaving) =
        by_test (starter.player == number) (one_more number leaving)
      where
        by_test : (b : Bool)
            → is_among number (leaving ++ more ∷ []) ≡ (is_among number leaving || (number == more.player))
            → (b || is_among number (leaving ++ more ∷ []))
            ≡ ((b || is_among number leaving) || (number == more.player))
        by_test true rest = refl
        by_test false rest = rest

    by_tests : (gone last : Bool) → is_among player.player (leaving ++ more ∷ []) ≡ (gone || last)
        → is_numbered more.player player ≡ last
        → stayed (leaving ++ more ∷ []) players ≡ lifted more.player (stayed leaving players)
        → stayed (leaving ++ more ∷ []) (player ∷ players)
        ≡ lifted more.player (cond (not gone) (player ∷ stayed leaving players) (stayed leaving players))
    by_tests true last all his rest = rw all rest
    by_tests false true all his rest = rw (all, his) rest
    by_tests false false all his rest = rw (all, his) (ap (λ (others : List Seated). player ∷ others) rest)

-- Who sits and does not leave still sits.
pub still_sits : (leaving : List StartSeat) (number : ℕ) (players : List Seated)
    → list_any (is_numbered number) players ≡ true → is_among number leaving ≡ false
    → list_any (is_numbered number) (stayed leaving players) ≡ true
still_sits leaving number [] sits stays = sits
still_sits leaving number (player ∷ players) sits stays =
    by_tests (is_numbered number player) (is_among player.player leaving) refl refl
    (λ later. still_sits leaving number players later stays)
  where
    by_tests : (his leaves : Bool) → is_numbered number player ≡ his → is_among player.player leaving ≡ leaves
        → (list_any (is_numbered number) players ≡ true
        → list_any (is_numbered number) (stayed leaving players) ≡ true)
        → list_any (is_numbered number) (cond (not leaves) (player ∷ stayed leaving players) (stayed leaving players))
        ≡ true
    by_tests true true his leaves rest =
        let same = eqb-true player.player number his in
        let both : is_among number leaving ≡ true = rw same at leaves in
        absurd cc
    by_tests true false his leaves rest = rw his refl
    by_tests false true his leaves rest = rest (rw his at sits)
    by_tests false false his leaves rest = rw his (rest (rw his at sits))

-- Who is picked of the players for a start sits.
picked_sits : (number : ℕ) (test : Seated → Bool) (players : List Seated)
    → list_any (has_number number) (map start_seat (filter test players)) ≡ true
    → list_any (is_numbered number) players ≡ true
picked_sits number test [] picked = picked
picked_sits number test (player ∷ players) picked =
    by_tests (test player) (is_numbered number player) refl picked (picked_sits number test players)
  where
    by_tests : (b his : Bool) → is_numbered number player ≡ his
        → list_any (has_number number) (map start_seat (cond b (player ∷ filter test players) (filter test players)))
        ≡ true
        → (list_any (has_number number) (map start_seat (filter test players)) ≡ true
        → list_any (is_numbered number) players ≡ true)
        → (is_numbered number player || list_any (is_numbered number) players) ≡ true
    by_tests b true is picked rest = rw is refl
    by_tests true false is picked rest = rw is (rest (rw is at picked))
    by_tests false false is picked rest = rw is (rest picked)

-- The players of a hand that is played sit.
pub starter_sits : (book : BookState) (table number : ℕ) (start : HandStart) → IsValid book
    → start_at book.started table ≡ Some start → is_among number start.seats ≡ true
    → list_any (is_numbered number) book.seating.players ≡ true
starter_sits book table number start valid is among =
    let started : map start_seat (filter (is_lent table) book.seating.players) ≡ map without_stack start.seats
    = valid.hands.lent table ∙ ap (λ (start : Option HandStart). map without_stack (starters_of start)) is in
    picked_sits number (is_lent table) book.seating.players
    (ap (λ (starters : List StartSeat). list_any (has_number number) starters) started
    ∙ (any_without number start.seats ∙ among))

-- Who sits still does once stacks went back.
pub sits_paid : (payees : List StartSeat) (number : ℕ) (players : List Seated)
    → list_any (is_numbered number) (put_back payees players) ≡ list_any (is_numbered number) players
sits_paid payees number players = any_changed (is_numbered number) (paid payees)
    (record { same = λ player stack. refl }) (paid-stacks payees) players

-- Of players with distinct numbers a later one is not among some of the earlier ones.
pub later_differs : (test : StartSeat → Bool) (starters : List StartSeat) (index : ℕ) (d : StartSeat)
    → are_distinct (λ one other. one == other) (map (λ starter. starter.player) starters) ≡ true
    → index < length starters
    → is_among (get_or starters index d).player (filter test (take index starters)) ≡ false
later_differs test [] index d distinct within = absurd (omega (arith, within))
later_differs test (first ∷ starters) zero d distinct within = refl
later_differs test (first ∷ starters) (suc index) d distinct within =
    let parts = and_parts (list_all (λ other. not (first.player == other)) (numbers_of starters))
    (are_distinct (λ one other. one == other) (numbers_of starters)) distinct in
    let all = sym (list_all-map (λ number. not (first.player == number)) (λ (starter : StartSeat). starter.player)
    starters) ∙ parts.0 in
    let differ = AllPass-from_list_all (λ (other : StartSeat). not (first.player == other.player)) starters all
    index d (omega (arith, within)) in
    by_test (test first) (not-true _ differ)
    (later_differs test starters index d parts.1 (omega (arith, within)))
  where
    by_test : (b : Bool) → (first.player == (get_or starters index d).player) ≡ false
        → is_among (get_or starters index d).player (filter test (take index starters)) ≡ false
        → is_among (get_or starters index d).player
        (cond b (first ∷ filter test (take index starters)) (filter test (take index starters))) ≡ false
    by_test true differs rest = rw (differs, rest) refl
    by_test false differs rest = rest
