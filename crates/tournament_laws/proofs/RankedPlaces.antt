-- The places that are reported are a ranking.
use Rattle.std.proofs.Common.{◌≡◌, sym, ap, subst, ℕ, ◌+◌, ◌-◌, ◌<◌, ◌≤◌, ◌⊎◌, inl, inr, Bool, true, false, cond, ◌==◌, ◌&&◌, List, ◌∷◌, map, length, get_or, arith}
use Rattle.std.specs.Prelude.{count_by, nat_lt, ◌||◌, Option, Some, None}
use Rattle.std.specs.List.{All}
use Rattle.std.specs.Option.{option_to_list}
use Rattle.std.proofs.lemmas.Bool.Decides.{nat_tests}
use Rattle.std.proofs.lemmas.List.{length-map}
use Rattle.std.proofs.lemmas.List.Elements.{All-map, All-cons, All-weaker}
use Rattle.rulebook.proofs.Tests.{count_by-cons, sum_by-map}
use Rattle.place_list.specs.declared.bust.Bust.{Bust}
use Rattle.place_list.specs.declared.standing.Standing.{Standing}
use Rattle.place_list.specs.Places.{is_ahead, place_of, still_in}
use Rattle.place_list.specs.Prizes.{prizes_of, prizes_together}
use Rattle.place_list.specs.Standings.{standing_of, ordered, standings_of}
use Rattle.place_list.proofs.Counts.{count_by-none}
use Rattle.place_list.proofs.Ranks.{place_of-ties, place_of-ahead, tied-some}
use Rattle.tournament_events.specs.declared.report.ReportOut.{ReportOut}
use Rattle.tournament_rules.specs.Books.{BookState}
use Rattle.tournament_rules.specs.Report.{winner, pool_in, reported, reported_out, standings_in, book_report}
use Rattle.tournament_rules.specs.Valid.{IsValid}
use Rattle.tournament_rules.proofs.InOrBust.{all-counted}
use Rattle.tournament_laws.proofs.Lists.{counts_agree}
use Rattle.tournament_laws.proofs.OrderedStandings.{sum_by-ordered, all-ordered}
use Rattle.tournament_laws.proofs.TheWinner.{HasWon, won_or_none}

ahead_says : (g s h t p q : ℕ) → ((nat_lt h g || (g == h && nat_lt t s)) ≡ true → p < q)
    → ((g == h && s == t) ≡ true → p ≡ q) → ((nat_lt g h || (h == g && nat_lt s t)) ≡ true → q ≤ p)
    → (nat_lt h g || (g == h && nat_lt t s)) ≡ nat_lt p q
ahead_says g s h t p q ahead level behind = grind (arith, nat_tests)

-- Who is out is ahead of a player just where his place is higher.
ahead-higher : (entries : ℕ) (busts : List Bust) (bust : Bust)
    → All (λ other. is_ahead other bust ≡ nat_lt (place_of entries busts other) (place_of entries busts bust)) busts
ahead-higher entries busts bust k d within =
    let other = get_or busts k d in
    let some = tied-some busts k d within in
    ahead_says (get_or busts k d).group (get_or busts k d).stack bust.group bust.stack
    (place_of entries busts (get_or busts k d)) (place_of entries busts bust)
    (λ ahead. let less = place_of-ahead entries busts (get_or busts k d) bust ahead in omega (arith, less, some))
    (λ level. place_of-ties entries busts (get_or busts k d) bust level)
    (λ behind. let less = place_of-ahead entries busts bust (get_or busts k d) behind in omega (arith, less))

-- how many standings of a list have a higher place
abbrev higher : List Standing → ℕ → ℕ
higher standings place = count_by (λ other. nat_lt other.place place) standings

-- each place of a list is one more than so many and the number of those of the list whose place is higher
abbrev IsRanked : List Standing → ℕ → Type 0
IsRanked standings ahead = All (λ standing. standing.place ≡ 1 + ahead + higher standings standing.place) standings

-- The place of each who is out is one more than the number of those who are in and of those whose place is higher.
ranked-out : (entries : ℕ) (prizes : List ℕ) (busts : List Bust)
    → IsRanked (ordered (map (standing_of entries prizes busts) busts)) (still_in entries busts)
ranked-out entries prizes busts = all-ordered ranked standings
    (All-map ranked (standing_of entries prizes busts) busts (λ k d within. his (get_or busts k d)))
  where
    standings : List Standing
    standings = map (standing_of entries prizes busts) busts

    ranked : Standing → Type 0
    ranked standing = standing.place ≡ 1 + still_in entries busts + higher (ordered standings) standing.place

    his : (bust : Bust) → place_of entries busts bust
        ≡ 1 + still_in entries busts + higher (ordered standings) (place_of entries busts bust)
    his bust =
        let test : Standing → Bool = λ other. nat_lt other.place (place_of entries busts bust) in
        let ahead = counts_agree (λ other. is_ahead other bust)
        (λ other. nat_lt (place_of entries busts other) (place_of entries busts bust)) busts
        (ahead-higher entries busts bust) in
        let made = sum_by-map (λ (other : Standing). cond {A = ℕ} (test other) 1 0)
        (standing_of entries prizes busts) busts in
        let same = sum_by-ordered (λ (other : Standing). cond {A = ℕ} (test other) 1 0) standings in
        omega (arith, ahead, made, same)

-- All places are so before anybody has won.
ranked-none : (entries pool : ℕ) (shares : List ℕ) (busts : List Bust)
    → IsRanked (standings_of entries None pool shares busts) (still_in entries busts)
unfolding standings_of
ranked-none entries pool shares busts = ranked-out entries (prizes_of entries pool shares) busts

first_below : (place more : ℕ) → place ≡ 1 + 1 + more → cond {A = ℕ} (nat_lt 1 place) 1 0 ≡ 1
first_below place more is = grind (arith, nat_tests)

none_above : (place more : ℕ) → place ≡ 1 + 1 + more → nat_lt place 1 ≡ false
none_above place more is = grind (arith, nat_tests)

-- All places are so with the winner, who is the one who is in.
ranked-won : (entries last pool : ℕ) (shares : List ℕ) (busts : List Bust) → still_in entries busts ≡ 1
    → IsRanked (standings_of entries (Some last) pool shares busts) 0
unfolding standings_of
ranked-won entries last pool shares busts one =
    All-cons (λ standing. standing.place ≡ 1 + 0 + higher (first ∷ others) standing.place) first others winning
    (All-weaker (λ standing. standing.place ≡ 1 + 1 + higher others standing.place)
    (λ standing. standing.place ≡ 1 + 0 + higher (first ∷ others) standing.place) losing others placed)
  where
    first : Standing
    first = record { player = last; place = 1; prize = prizes_together (prizes_of entries pool shares) 1 1 }

    others : List Standing
    others = ordered (map (standing_of entries (prizes_of entries pool shares) busts) busts)

    placed : All (λ standing. standing.place ≡ 1 + 1 + higher others standing.place) others
    placed = subst (IsRanked others) one (ranked-out entries (prizes_of entries pool shares) busts)

    winning : 1 ≡ 1 + 0 + higher (first ∷ others) 1
    winning =
        let all = count_by-cons (λ (other : Standing). nat_lt other.place 1) first others in
        let none = count_by-none (λ (other : Standing). nat_lt other.place 1) others
        (λ k d within. none_above (get_or others k d).place (higher others (get_or others k d).place)
        (placed k d within)) in
        omega (arith, all, none)

    losing : (standing : Standing) → standing.place ≡ 1 + 1 + higher others standing.place
        → standing.place ≡ 1 + 0 + higher (first ∷ others) standing.place
    losing standing is =
        let all = count_by-cons (λ (other : Standing). nat_lt other.place standing.place) first others in
        let his = first_below standing.place (higher others standing.place) is in
        omega (arith, all, his, is)

-- The places of those who are out are a ranking, with the winner where there is one.
ranked-book : (book : BookState) → IsValid book
    → IsRanked (standings_in book) (length book.seating.players - length (option_to_list (winner book)))
ranked-book book valid = by_winner (won_or_none book)
  where
    all : length book.seating.players + length book.busts ≡ length book.entries
    all = all-counted book.entries book.seating.players book.busts valid.entries.once

    with_winner : Option ℕ → Type 0
    with_winner last = IsRanked (standings_of (length book.entries) last (pool_in book) book.plan.shares book.busts)
        (length book.seating.players - length (option_to_list last))

    by_winner : ((last : ℕ) × HasWon book last) ⊎ (winner book ≡ None) → with_winner (winner book)
    by_winner (inl won) =
        let one = ap length won.1.alone in
        subst with_winner (sym won.1.is)
        (subst (IsRanked (standings_of (length book.entries) (Some won.0) (pool_in book) book.plan.shares book.busts))
        (none_else (length book.seating.players) one)
        (ranked-won (length book.entries) won.0 (pool_in book) book.plan.shares book.busts (omega (arith, one, all))))
      where
        none_else : (n : ℕ) → n ≡ 1 → 0 ≡ n - 1
        none_else n one = omega arith
    by_winner (inr none) =
        subst with_winner (sym none)
        (subst (IsRanked (standings_of (length book.entries) None (pool_in book) book.plan.shares book.busts))
        (omega (arith, all)) (ranked-none (length book.entries) (pool_in book) book.plan.shares book.busts))

-- The places that are reported are a ranking: each is one more than the number of those who are ahead.
pub ranked-report : (book : BookState) → IsValid book
    → All (λ out. out.place ≡ 1 + (length (book_report book).seats - length (option_to_list (winner book)))
    + count_by (λ other. nat_lt other.place out.place) (book_report book).outs) (book_report book).outs
ranked-report book valid =
    All-map ranked (reported_out book.entries) (standings_in book)
    (All-weaker (λ standing. standing.place
    ≡ 1 + (length book.seating.players - length (option_to_list (winner book)))
    + higher (standings_in book) standing.place)
    (λ standing. ranked (reported_out book.entries standing)) said (standings_in book) (ranked-book book valid))
  where
    ranked : ReportOut → Type 0
    ranked out = out.place ≡ 1 + (length (book_report book).seats - length (option_to_list (winner book)))
        + count_by (λ other. nat_lt other.place out.place) (book_report book).outs

    said : (standing : Standing)
        → standing.place ≡ 1 + (length book.seating.players - length (option_to_list (winner book)))
        + higher (standings_in book) standing.place
        → ranked (reported_out book.entries standing)
    said standing is =
        let seats = length-map book.seating.players (reported book.started) in
        let made = sum_by-map (λ (out : ReportOut). cond {A = ℕ} (nat_lt out.place standing.place) 1 0)
        (reported_out book.entries) (standings_in book) in
        omega (arith, is, seats, made)
