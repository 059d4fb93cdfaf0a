-- Whom a report names: each player who entered once, and nobody else.
use Rattle.std.proofs.Common.{◌≡◌, ◌∙◌, refl, sym, ap, subst, ℕ, zero, suc, ◌+◌, ◌<◌, ◌≤◌, ◌⊎◌, inl, inr, Bool, true, false, cond, ◌==◌, eq-eqb, List, [], ◌∷◌, map, length, get_or, arith}
use Rattle.std.specs.Prelude.{sum_by, count_by, nat_lt, slice_get, slice_index_or, Option, Some, None}
use Rattle.std.specs.List.{All}
use Rattle.std.specs.Option.{option_to_list, ForSome, IfSome}
use Rattle.std.specs.Str.{bytes_eq}
use Rattle.std.proofs.lemmas.Bool.{eqb-true, or_left, or_right}
use Rattle.std.proofs.lemmas.Bool.Decides.{nat_tests}
use Rattle.std.proofs.lemmas.List.Elements.{All-map, All-cons, All-head}
use Rattle.std.proofs.lemmas.List.Sums.{sum_by-cons}
use Rattle.std.proofs.lemmas.Option.{MatchOption-from_none, same_Some, slice_get_within, slice_get-get_or}
use Rattle.std.proofs.lemmas.Slice.Eq.{bytes_eq-Decides}
use Rattle.rulebook.specs.Pairs.{are_distinct}
use Rattle.rulebook.proofs.Tests.{sum_by-map}
use Rattle.entry_list.specs.Entries.{is_known}
use Rattle.place_list.specs.declared.bust.Bust.{Bust}
use Rattle.place_list.specs.declared.standing.Standing.{Standing}
use Rattle.place_list.specs.Prizes.{prizes_of, prizes_together}
use Rattle.place_list.specs.Standings.{standing_of, ordered, standings_of}
use Rattle.place_list.proofs.Counts.{count_by-some}
use Rattle.seat_book.specs.Players.{is_numbered}
use Rattle.tournament_events.specs.declared.report.ReportOut.{ReportOut}
use Rattle.tournament_events.specs.declared.report.ReportSeat.{ReportSeat}
use Rattle.tournament_rules.specs.Books.{BookState}
use Rattle.tournament_rules.specs.Report.{winner, pool_in, reported, reported_out, standings_in, book_report}
use Rattle.tournament_rules.specs.Valid.{IsValid, is_bust_of}
use Rattle.tournament_rules.proofs.Names.{IsNamed, names_differ}
use Rattle.tournament_laws.proofs.Holds.{in_or_bust}
use Rattle.tournament_laws.proofs.Lists.{counts_agree}
use Rattle.tournament_laws.proofs.OrderedStandings.{sum_by-ordered, all-ordered}
use Rattle.tournament_laws.proofs.TheWinner.{HasWon, won_or_none}

-- What is so of whatever an option has, is so of what it has if it has something.
pub if_some : {A : Type 0} (P : A → Type 0) (found : Option A) → ForSome found P → IfSome found P
if_some P None so = MatchOption-from_none None P refl
if_some P (Some item) so = so item refl

-- Names of entries are the same just where their numbers are.
same_entry : (entries : List (List ℕ)) (i j : ℕ) (one other : List ℕ) → are_distinct bytes_eq entries ≡ true
    → slice_get entries i ≡ Some one → slice_get entries j ≡ Some other → bytes_eq one other ≡ (i == j)
same_entry entries i j one other distinct his hers = by_number (i == j) refl
  where
    by_number : (same : Bool) → (i == j) ≡ same → bytes_eq one other ≡ same
    by_number true same =
        (bytes_eq-Decides one other).1 (same_Some one other (sym his
        ∙ (ap (slice_get entries) (eqb-true i j same) ∙ hers)))
    by_number false apart = names_differ entries i j one other distinct his hers apart

-- The name of an entry is known.
pub known_at : (entries : List (List ℕ)) (number : ℕ) (name : List ℕ) → slice_get entries number ≡ Some name
    → is_known entries name ≡ true
known_at [] number name is = absurd cc
known_at (first ∷ entries) zero name is =
    or_left (bytes_eq name first) (is_known entries name)
    ((bytes_eq-Decides name first).1 (sym (same_Some first name is)))
known_at (first ∷ entries) (suc number) name is =
    or_right (bytes_eq name first) (is_known entries name) (known_at entries number name is)

-- A report names a player in as many lines of seats as he has seats.
pub seats_named : (book : BookState) (number : ℕ) (name : List ℕ) → IsValid book
    → slice_get book.entries number ≡ Some name
    → count_by (λ line. bytes_eq line.name name) (book_report book).seats
    ≡ count_by (is_numbered number) book.seating.players
seats_named book number name valid is =
    sum_by-map (λ (line : ReportSeat). cond {A = ℕ} (bytes_eq line.name name) 1 0) (reported book.started)
    book.seating.players
    ∙ counts_agree (λ player. bytes_eq player.name name) (is_numbered number) book.seating.players
    (λ k d within. same_entry book.entries (get_or book.seating.players k d).player number
    (get_or book.seating.players k d).name name valid.entries.names (valid.entries.named k d within) is)

-- Who is named in a line of a seat is known.
pub seats_known : (book : BookState) → IsValid book
    → All (λ line. is_known book.entries line.name ≡ true) (book_report book).seats
seats_known book valid =
    All-map (λ line. is_known book.entries line.name ≡ true) (reported book.started) book.seating.players
    (λ k d within. known_at book.entries (get_or book.seating.players k d).player
    (get_or book.seating.players k d).name (valid.entries.named k d within))

-- What is so of the numbers of those who are out, and of the winner's, is so of the number of each standing.
all-standings : (P : ℕ → Type 0) (entries : ℕ) (last : Option ℕ) (pool : ℕ) (shares : List ℕ) (busts : List Bust)
    → ForSome last P → All (λ bust. P bust.player) busts
    → All (λ standing. P standing.player) (standings_of entries last pool shares busts)
unfolding standings_of
all-standings P entries None pool shares busts won out =
    all-ordered (λ standing. P standing.player) (map (standing_of entries (prizes_of entries pool shares) busts) busts)
    (All-map (λ (standing : Standing). P standing.player) (standing_of entries (prizes_of entries pool shares) busts)
    busts out)
all-standings P entries (Some last) pool shares busts won out =
    All-cons (λ standing. P standing.player)
    (record { player = last; place = 1; prize = prizes_together (prizes_of entries pool shares) 1 1 })
    (ordered (map (standing_of entries (prizes_of entries pool shares) busts) busts)) (won last refl)
    (all-ordered (λ standing. P standing.player)
    (map (standing_of entries (prizes_of entries pool shares) busts) busts)
    (All-map (λ (standing : Standing). P standing.player) (standing_of entries (prizes_of entries pool shares) busts)
    busts out))

-- Of the numbers of standings as many pass a test as of those who are out and of the winner.
count-standings : (test : ℕ → Bool) (entries : ℕ) (last : Option ℕ) (pool : ℕ) (shares : List ℕ) (busts : List Bust)
    → count_by (λ standing. test standing.player) (standings_of entries last pool shares busts)
    ≡ count_by (λ bust. test bust.player) busts + count_by test (option_to_list last)
unfolding standings_of
count-standings test entries last pool shares busts = by_winner last
  where
    prizes : List ℕ
    prizes = prizes_of entries pool shares

    weight : Standing → ℕ
    weight standing = cond {A = ℕ} (test standing.player) 1 0

    out : sum_by weight (ordered (map (standing_of entries prizes busts) busts))
        ≡ count_by (λ bust. test bust.player) busts
    out = sum_by-ordered weight (map (standing_of entries prizes busts) busts)
        ∙ sum_by-map weight (standing_of entries prizes busts) busts

    by_winner : (last : Option ℕ)
        → count_by (λ standing. test standing.player) (standings_of entries last pool shares busts)
        ≡ count_by (λ bust. test bust.player) busts + count_by test (option_to_list last)
    by_winner None = omega (arith, out)
    by_winner (Some last) =
        let all = sum_by-cons weight (record { player = last; place = 1; prize = prizes_together prizes 1 1 })
        (ordered (map (standing_of entries prizes busts) busts)) in
        omega (arith, all, out)

owed_row : (number count seats rows : ℕ) → seats + rows ≡ cond {A = ℕ} (nat_lt number count) 1 0 → 1 ≤ rows
    → number < count
owed_row number count seats rows is some = grind (arith, nat_tests)

-- Who is out has entered.
busts_entered : (book : BookState) → IsValid book → All (λ bust. bust.player < length book.entries) book.busts
busts_entered book valid = λ k d within.
    let number = (get_or book.busts k d).player in
    let some = count_by-some (is_bust_of number) book.busts k d within (eq-eqb number number refl) in
    owed_row number (length book.entries) (count_by (is_numbered number) book.seating.players)
    (count_by (is_bust_of number) book.busts) (valid.entries.once number) some

-- Who has won has entered.
pub winner_entered : (book : BookState) → IsValid book → ForSome (winner book) (λ last. last < length book.entries)
winner_entered book valid = by_winner (won_or_none book)
  where
    by_winner : ((last : ℕ) × HasWon book last) ⊎ (winner book ≡ None)
        → ForSome (winner book) (λ last. last < length book.entries)
    by_winner (inl won) = λ last is.
        let named = All-head (IsNamed book.entries) won.1.seated []
        (subst (All (IsNamed book.entries)) won.1.alone valid.entries.named) in
        let within = slice_get_within book.entries won.1.seated.player won.1.seated.name named in
        let same : won.0 ≡ last = same_Some won.0 last (sym won.1.is ∙ is) in
        subst (λ (number : ℕ). number < length book.entries) (won.1.number ∙ same) within
    by_winner (inr none) = λ last is. absurd cc

-- Everyone with a standing has entered.
standings_entered : (book : BookState) → IsValid book
    → All (λ standing. standing.player < length book.entries) (standings_in book)
standings_entered book valid =
    all-standings (λ number. number < length book.entries) (length book.entries) (winner book) (pool_in book)
    book.plan.shares book.busts (winner_entered book valid) (busts_entered book valid)

-- A report names a player in a line of a place where he is out, and where he has won.
pub outs_named : (book : BookState) (number : ℕ) (name : List ℕ) → IsValid book
    → slice_get book.entries number ≡ Some name
    → count_by (λ line. bytes_eq line.name name) (book_report book).outs
    ≡ count_by (is_bust_of number) book.busts + count_by (λ last. last == number) (option_to_list (winner book))
outs_named book number name valid is =
    sum_by-map (λ (line : ReportOut). cond {A = ℕ} (bytes_eq line.name name) 1 0) (reported_out book.entries)
    (standings_in book)
    ∙ counts_agree (λ standing. bytes_eq (slice_index_or book.entries standing.player []) name)
    (λ standing. standing.player == number) (standings_in book)
    (λ k d within.
    let his = (get_or (standings_in book) k d).player in
    same_entry book.entries his number (slice_index_or book.entries his []) name valid.entries.names
    (slice_get-get_or book.entries his [] (standings_entered book valid k d within)) is)
    ∙ count-standings (λ last. last == number) (length book.entries) (winner book) (pool_in book) book.plan.shares
    book.busts

-- Who is named in a line of a place is known.
pub outs_known : (book : BookState) → IsValid book
    → All (λ line. is_known book.entries line.name ≡ true) (book_report book).outs
outs_known book valid =
    All-map (λ line. is_known book.entries line.name ≡ true) (reported_out book.entries) (standings_in book)
    (λ k d within.
    let his = (get_or (standings_in book) k d).player in
    known_at book.entries his (slice_index_or book.entries his [])
    (slice_get-get_or book.entries his [] (standings_entered book valid k d within)))

-- A report names each player who entered once, and the winner twice.
pub named_once : (book : BookState) (number : ℕ) (name : List ℕ) → IsValid book
    → slice_get book.entries number ≡ Some name
    → count_by (λ line. bytes_eq line.name name) (book_report book).seats
    + count_by (λ line. bytes_eq line.name name) (book_report book).outs
    ≡ 1 + count_by (λ last. last == number) (option_to_list (winner book))
named_once book number name valid is =
    let seats = seats_named book number name valid is in
    let outs = outs_named book number name valid is in
    let one = in_or_bust book valid number (slice_get_within book.entries number name is) in
    omega (arith, seats, outs, one)
