-- Where one player alone is in, he has all chips that were sold.
use Rattle.std.proofs.Common.{◌≡◌, ◌∙◌, refl, sym, ap, ℕ, suc, ◌+◌, true, ◌==◌, List, [], ◌∷◌, length, map, arith}
use Rattle.std.specs.Prelude.{nat_lt, filter, sum_by, Option, Some, None}
use Rattle.std.proofs.lemmas.Bool.{and_parts, eqb-true}
use Rattle.std.proofs.lemmas.List.{length-map}
use Rattle.std.proofs.lemmas.List.Sums.{sum_by-cons, length-filter, count_by-le-length}
use Rattle.rulebook.proofs.Found.{none-found}
use Rattle.seat_book.specs.declared.seated.Seated.{Seated}
use Rattle.table_engine.specs.declared.start.HandStart.{HandStart}
use Rattle.tournament_rules.specs.Books.{BookState, start_at, starters_of}
use Rattle.tournament_rules.specs.Checks.{is_over_for_all}
use Rattle.tournament_rules.specs.Players.{start_seat}
use Rattle.tournament_rules.specs.Chips.{sold_by}
use Rattle.tournament_rules.specs.Valid.{IsValid, is_lent, without_stack}
use Rattle.tournament_rules.proofs.Fitting.{chips_of_start}
use Rattle.tournament_rules.proofs.Paying.{stack_of}

-- Where one player alone is in, no hand is played: two are dealt into one.
pub none_played : (book : BookState) (table : ℕ) → IsValid book → length book.seating.players ≡ 1
    → start_at book.started table ≡ None
none_played book table valid one = none-found (start_at book.started table) no_start
  where
    no_start : (start : HandStart) → start_at book.started table ≡ Some start → ⊥
    no_start start is =
        let two = (valid.hands.starts table start is).lawful.two in
        let here = filter (is_lent table) book.seating.players in
        let started : map start_seat here ≡ map without_stack start.seats = valid.hands.lent table
        ∙ ap (λ (start : Option HandStart). map without_stack (starters_of start)) is in
        let many = sym (length-map here start_seat) ∙ (ap length started ∙ length-map start.seats without_stack) in
        let few = count_by-le-length (is_lent table) book.seating.players in
        let counted = length-filter (is_lent table) book.seating.players in
        absurd (omega (arith, two, many, few, counted, one))

-- Where no hand is played, no chips are in play.
none_in_play : (started : List (Option HandStart)) → ((table : ℕ) → start_at started table ≡ None)
    → sum_by chips_of_start started ≡ 0
none_in_play [] none = refl
none_in_play (start ∷ started) none =
    let first = sum_by-cons chips_of_start start started in
    let here = ap chips_of_start (none 0) in
    let rest = none_in_play started (λ table. none (suc table)) in
    omega (arith, first, here, rest)

-- Where the tournament is over, the last player has all chips that were sold and those that races gave, but for those
-- that they took away.
pub last_has_all : (book : BookState) → IsValid book → is_over_for_all book ≡ true
    → map (λ player. player.stack + book.removed) book.seating.players ≡ (sold_by book + book.added) ∷ []
last_has_all book valid over =
    let one = eqb-true (length book.seating.players) 1
    (and_parts (nat_lt 0 (length book.busts)) (length book.seating.players == 1) over).1 in
    let none = none_in_play book.started (λ table. none_played book table valid one) in
    let kept = valid.chips in
    by_players book.seating.players one (omega (arith, kept, none))
  where
    by_players : (players : List Seated) → length players ≡ 1
        → sum_by stack_of players + book.removed ≡ sold_by book + book.added
        → map (λ player. player.stack + book.removed) players ≡ (sold_by book + book.added) ∷ []
    by_players [] one kept = absurd cc
    by_players (player ∷ []) one kept =
        let his = sum_by-cons stack_of player [] in
        ap (λ (stack : ℕ). stack ∷ []) (omega (arith, his, kept))
    by_players (player ∷ other ∷ players) one kept = absurd (omega (arith, one))
