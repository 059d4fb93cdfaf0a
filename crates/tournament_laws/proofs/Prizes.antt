-- The prizes that are reported are the pool.
use Rattle.std.proofs.Common.{◌≡◌, ◌∙◌, refl, ap, ℕ, ◌+◌, ◌≤◌, Bool, true, false, cond, ◌==◌, List, [], ◌∷◌, map, length, arith}
use Rattle.std.specs.Prelude.{sum_by, count_by, not, Option}
use Rattle.std.proofs.lemmas.Bool.{and_from, eq-eqb}
use Rattle.std.proofs.lemmas.List.Folds.{list_all-map}
use Rattle.rulebook.specs.Pairs.{are_distinct}
use Rattle.rulebook.proofs.Tests.{count_by-cons, sum_by-map, list_all-follows, none_by_count, eqb-swap}
use Rattle.place_list.specs.declared.bust.Bust.{Bust}
use Rattle.place_list.specs.Standings.{standings_of}
use Rattle.place_list.proofs.Sums.{over-sum, out-sum}
use Rattle.tournament_events.specs.declared.report.ReportOut.{ReportOut}
use Rattle.tournament_rules.specs.Books.{BookState}
use Rattle.tournament_rules.specs.Checks.{is_over_for_all}
use Rattle.tournament_rules.specs.Report.{pool_in, reported_out, standings_in, book_report}
use Rattle.tournament_rules.specs.Valid.{IsValid, is_bust_of}
use Rattle.tournament_rules.proofs.Entries.{right_has}
use Rattle.tournament_rules.proofs.InOrBust.{all-counted, one_row}
use Rattle.tournament_laws.proofs.TheWinner.{over-won, none_won}

-- Players of whom each number has one at most differ.
once-distinct : (busts : List Bust) → ((number : ℕ) → count_by (is_bust_of number) busts ≤ 1)
    → are_distinct (λ one other. one == other) (map (λ bust. bust.player) busts) ≡ true
once-distinct [] once = refl
once-distinct (bust ∷ busts) once =
    and_from _ _
    (list_all-map (λ number. not (bust.player == number)) (λ (other : Bust). other.player) busts
    ∙ list_all-follows (λ other. not (is_bust_of bust.player other)) (λ other. not (bust.player == other.player)) busts
    (λ other apart. ap not (eqb-swap bust.player other.player) ∙ apart)
    (none_by_count (is_bust_of bust.player) busts nobody))
    (once-distinct busts (λ number.
    let most = once number in
    let all = count_by-cons (is_bust_of number) bust busts in
    omega (arith, most, all)))
  where
    own : (b : Bool) (n : ℕ) → b ≡ true → cond {A = ℕ} b 1 0 + n ≤ 1 → n ≡ 0
    own true n is most = omega (arith, most)
    own false n is most = absurd cc

    nobody : count_by (is_bust_of bust.player) busts ≡ 0
    nobody =
        let most = once bust.player in
        let all = count_by-cons (is_bust_of bust.player) bust busts in
        own (is_bust_of bust.player bust) (count_by (is_bust_of bust.player) busts)
        (eq-eqb bust.player bust.player refl) (omega (arith, most, all))

-- Nobody is out twice.
pub busts-distinct : (book : BookState) → IsValid book
    → are_distinct (λ one other. one == other) (map (λ bust. bust.player) book.busts) ≡ true
busts-distinct book valid = once-distinct book.busts (λ number.
    let his = valid.entries.once number in
    let most = one_row book.entries number in
    omega (arith, his, most))

-- The prizes that are reported are those of the standings.
prizes-reported : (book : BookState) → sum_by (λ out. out.prize) (book_report book).outs
    ≡ sum_by (λ standing. standing.prize) (standings_in book)
prizes-reported book = sum_by-map (λ (out : ReportOut). out.prize) (reported_out book.entries) (standings_in book)

-- the prizes together where so many entered, with this winner
abbrev prizes_with : BookState → Option ℕ → ℕ
prizes_with book last = sum_by (λ standing. standing.prize)
    (standings_of (length book.entries) last (pool_in book) book.plan.shares book.busts)

-- Where the tournament is over the prizes are the pool.
pub prizes-over : (book : BookState) → IsValid book → is_over_for_all book ≡ true
    → sum_by (λ out. out.prize) (book_report book).outs ≡ pool_in book
prizes-over book valid over =
    let won = over-won book over in
    let one = ap length won.1.alone in
    let all = all-counted book.entries book.seating.players book.busts valid.entries.once in
    let plan = right_has book.plan valid.plan.right in
    prizes-reported book
    ∙ ap (prizes_with book) won.1.is
    ∙ over-sum (length book.entries) won.0 (pool_in book) book.plan.shares book.busts (busts-distinct book valid)
    (omega (arith, one, all)) plan.some_shares plan.most_shared

-- Before it is over they are no more.
pub prizes-before : (book : BookState) → IsValid book → is_over_for_all book ≡ false
    → sum_by (λ out. out.prize) (book_report book).outs ≤ pool_in book
prizes-before book valid going =
    let said = prizes-reported book ∙ ap (prizes_with book) (none_won book going) in
    let plan = right_has book.plan valid.plan.right in
    let within = out-sum (length book.entries) (pool_in book) book.plan.shares book.busts (busts-distinct book valid)
    plan.most_shared in
    omega (arith, said, within)
