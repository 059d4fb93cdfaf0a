-- Who stands where: everyone whom standings have has entered.
use Rattle.std.proofs.Common.{ℕ, ◌+◌, ◌<◌, ◌≤◌, Bool, true, false, cond, ◌==◌, List, [], ◌∷◌, map, length, arith}
use Rattle.std.specs.Prelude.{Option, None, nat_lt, count_by, slice_get, option_map, if◌then◌else◌}
use Rattle.std.specs.List.{All}
use Rattle.std.proofs.lemmas.Bool.Decides.{nat_tests}
use Rattle.std.proofs.lemmas.List.Elements.{All-nil, All-cons, All-head, All-tail, All-append, All-map}
use Rattle.std.proofs.lemmas.Option.{slice_get_within}
use Rattle.rulebook.proofs.Tests.{count_by-cons}
use Rattle.place_list.specs.declared.bust.Bust.{Bust}
use Rattle.place_list.specs.declared.standing.Standing.{Standing}
use Rattle.place_list.specs.Prizes.{prizes_of}
use Rattle.place_list.specs.Standings.{comes_before, put_in_order, ordered, standing_of, standings_of, winner_of}
use Rattle.seat_book.specs.declared.seated.Seated.{Seated}
use Rattle.tournament_rules.specs.Books.{BookState}
use Rattle.tournament_rules.specs.Checks.{is_over_for_all}
use Rattle.tournament_rules.specs.Report.{pool_in, standings_in}
use Rattle.tournament_rules.specs.Valid.{IsValid, rows_owed, is_bust_of}
use Rattle.tournament_rules.proofs.Names.{IsNamed}

-- what is so of a standing and of all others is so of all once it is put in order
put_keeps : (P : Standing → Type 0) (standing : Standing) (standings : List Standing) → P standing → All P standings
    → All P (put_in_order standing standings)
unfolding put_in_order
put_keeps P standing [] his all = All-cons P standing [] his (All-nil P)
put_keeps P standing (other ∷ others) his all =
    by_test (comes_before standing other)
    (put_keeps P standing others his (All-tail P other others all))
  where
    by_test : (sooner : Bool) → All P (put_in_order standing others)
        → All P (if sooner then standing ∷ other ∷ others else other ∷ put_in_order standing others)
    by_test true rest = All-cons P standing (other ∷ others) his all
    by_test false rest = All-cons P other (put_in_order standing others) (All-head P other others all) rest

ordered_keeps : (P : Standing → Type 0) (standings : List Standing) → All P standings → All P (ordered standings)
unfolding ordered
ordered_keeps P [] all = All-nil P
ordered_keeps P (standing ∷ standings) all =
    put_keeps P standing (ordered standings) (All-head P standing standings all)
    (ordered_keeps P standings (All-tail P standing standings all))

-- What is so of the winner's standing and of that of each who is out is so of all standings.
pub standings_are : (P : Standing → Type 0) (entries : ℕ) (last : Option ℕ) (pool : ℕ) (shares : List ℕ)
    (busts : List Bust) → All P (winner_of (prizes_of entries pool shares) last)
    → All (λ bust. P (standing_of entries (prizes_of entries pool shares) busts bust)) busts
    → All P (standings_of entries last pool shares busts)
unfolding standings_of
standings_are P entries last pool shares busts first others =
    let prizes = prizes_of entries pool shares in
    All-append P (winner_of prizes last) (ordered (map (standing_of entries prizes busts) busts)) first
    (ordered_keeps P (map (standing_of entries prizes busts) busts)
    (All-map P (standing_of entries prizes busts) busts others))

-- a number that is owed a row is below the number of entries
owed_within : (number entries more : ℕ) → cond {A = ℕ} (number == number) 1 0 + more
    ≤ cond {A = ℕ} (nat_lt number entries) 1 0 → number < entries
owed_within number entries more owed = grind (arith, nat_tests)

-- who is out has entered
outs_entered : (entries : List (List ℕ)) (busts : List Bust)
    → ((number : ℕ) → count_by (is_bust_of number) busts ≤ rows_owed entries number)
    → All (λ bust. bust.player < length entries) busts
outs_entered entries [] owed = All-nil (λ bust. bust.player < length entries)
outs_entered entries (bust ∷ busts) owed =
    let here = count_by-cons (is_bust_of bust.player) bust busts in
    let his = owed bust.player in
    All-cons (λ bust. bust.player < length entries) bust busts
    (owed_within bust.player (length entries) (count_by (is_bust_of bust.player) busts) (omega (arith, here, his)))
    (outs_entered entries busts (λ number.
    let first = count_by-cons (is_bust_of number) bust busts in
    let both = owed number in
    omega (arith, first, both)))

-- the winner has entered
winner_entered : (entries : List (List ℕ)) (prizes : List ℕ) (players : List Seated) (over : Bool)
    → All (IsNamed entries) players
    → All (λ standing. standing.player < length entries)
    (winner_of prizes (if over then option_map (λ player. player.player) (slice_get players 0) else None))
winner_entered entries prizes [] true named = All-nil (λ standing. standing.player < length entries)
winner_entered entries prizes (player ∷ players) true named =
    All-cons (λ standing. standing.player < length entries) _ []
    (slice_get_within entries player.player player.name (All-head (IsNamed entries) player players named))
    (All-nil (λ standing. standing.player < length entries))
winner_entered entries prizes players false named = All-nil (λ standing. standing.player < length entries)

-- Everyone whom the standings of a valid book have has entered.
pub standings_entered : (book : BookState) → IsValid book
    → All (λ standing. standing.player < length book.entries) (standings_in book)
standings_entered book valid =
    standings_are (λ standing. standing.player < length book.entries) (length book.entries) _ (pool_in book)
    book.plan.shares book.busts
    (winner_entered book.entries (prizes_of (length book.entries) (pool_in book) book.plan.shares)
    book.seating.players (is_over_for_all book) valid.entries.named)
    (outs_entered book.entries book.busts (λ number. let once = valid.entries.once number in omega (arith, once)))
