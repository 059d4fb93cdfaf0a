-- After writable events a report has right names, and no number of it is greater than a number of 64 bits.
use Rattle.std.proofs.Common.{◌≡◌, ◌∙◌, refl, ap, ℕ, ◌+◌, ◌-◌, ◌*◌, ◌%◌, ◌≤◌, ◌<◌, ◌^◌, Bool, true, false, List, [], ◌∷◌, map, length, drop, get_or, leb, arith}
use Rattle.std.specs.Prelude.{Option, Some, None, ◌&&◌, nat_lt, sum, sum_by, if◌then◌else◌}
use Rattle.std.specs.List.{list_all, All, AllByRecursion}
use Rattle.std.specs.Option.{option_map_or, ForSome}
use Rattle.std.proofs.lemmas.Bool.{and_parts, and_from}
use Rattle.std.proofs.lemmas.Bool.Decides.{nat_tests}
use Rattle.std.proofs.Math.Nat.{div-le_self, mul-le-mul}
use Rattle.std.proofs.lemmas.List.Elements.{All-nil, All-cons, All-head, All-tail}
use Rattle.std.proofs.lemmas.List.Folds.{list_all-append}
use Rattle.std.proofs.lemmas.List.Sums.{sum_by-cons, sum_by-take-le, sum_by-take-drop, count_by-le-length}
use Rattle.std.proofs.lemmas.Option.{same_Some, slice_get-get_or}
use Rattle.rulebook.specs.Limits.{most_entries}
use Rattle.rulebook.proofs.Passing.{list_all-get}
use Rattle.rulebook.proofs.Tests.{at_most_one}
use Rattle.place_list.specs.declared.bust.Bust.{Bust}
use Rattle.place_list.specs.declared.standing.Standing.{Standing}
use Rattle.place_list.specs.Places.{is_ahead, tied, tied_before, place_of}
use Rattle.place_list.specs.Prizes.{prizes_of, prizes_together, equal_share}
use Rattle.place_list.specs.Standings.{standing_of, winner_of}
use Rattle.place_list.proofs.Sums.{prizes-within}
use Rattle.floor_text.specs.Names.{is_name}
use Rattle.table_engine.specs.declared.start.HandStart.{HandStart}
use Rattle.table_engine.specs.Hands.{HandTerms}
use Rattle.seat_book.specs.declared.seated.Seated.{Seated}
use Rattle.seat_book.specs.Seatings.{sits_within}
use Rattle.tournament_events.specs.declared.event.Event.{Event}
use Rattle.tournament_events.specs.declared.event.Event.TheVariants as events
use Rattle.floor_events.specs.Spelling.{HasLineParts, IsWritable}
use Rattle.tournament_rules.specs.Books.{BookState}
use Rattle.tournament_rules.specs.Effects.{settled, book_effect}
use Rattle.tournament_rules.specs.Players.{is_in_hand}
use Rattle.tournament_rules.specs.Report.{reported, reported_out, winner, pool_in, standings_in, book_report, report_of, empty_report}
use Rattle.tournament_rules.specs.States.{State, PlayState, first_state, hand_about, answer_to, is_accepted, accepted, state_after, run}
use Rattle.tournament_rules.specs.Valid.{IsValid, IsValidPlay}
use Rattle.tournament_rules.proofs.Begins.{few_chips}
use Rattle.tournament_rules.proofs.Entries.{right_has}
use Rattle.tournament_rules.proofs.Ends.{left-void_first}
use Rattle.tournament_rules.proofs.InOrBust.{all-counted}
use Rattle.tournament_rules.proofs.Names.{IsNamed}
use Rattle.tournament_rules.proofs.Standings.{standings_are, standings_entered}
use Rattle.tournament_rules.proofs.Steps.{valid_events}
use Rattle.tournament_laws.proofs.ReportNotes.{IsSeatNote, IsOutNote, IsReportable}

-- whether all who entered have right names
abbrev are_names : List (List ℕ) → Bool
are_names entries = list_all is_name entries

-- the entries of a state, and none before there is a plan
abbrev entries_in : Option PlayState → List (List ℕ)
entries_in play = option_map_or (λ play. play.book.entries) play []

names_settled : (book : BookState) (hand : Option HandTerms)
    → (option_map_or (settled book) hand book).entries ≡ book.entries
names_settled book None = refl
names_settled book (Some hand) = refl

names_effect : (book : BookState) (hand : Option HandTerms) (event : Event) → HasLineParts event
    → are_names book.entries ≡ true → are_names (book_effect book hand event).entries ≡ true
unfolding HasLineParts
names_effect book hand (events.Enter name table seat) parts names =
    list_all-append is_name book.entries (name ∷ []) ∙ and_from _ _ names (and_from _ _ parts.0 refl)
names_effect book hand (events.Settle table) parts names = ap are_names (names_settled book hand) ∙ names
names_effect book hand events.Stop parts names =
    ap are_names (left-void_first (λ book. book.entries) (record { same = λ book table payees. refl }) book
    book.plan.tables)
    ∙ names
names_effect book hand _ parts names = names

names_accepted : (state : State) (event : Event) → HasLineParts event → are_names (entries_in state.play) ≡ true
    → are_names (entries_in (accepted state event).play) ≡ true
names_accepted state event parts names = by_play state.play names
  where
    by_play : (play : Option PlayState) → are_names (entries_in play) ≡ true
        → are_names (entries_in (accepted (record state { play = play }) event).play) ≡ true
    by_play None names = none_yet event
      where
        none_yet : (event : Event) → are_names (entries_in (accepted (record state { play = None }) event).play) ≡ true
        none_yet events.Go = refl
        none_yet _ = refl
    by_play (Some play) names = names_effect play.book (hand_about play event) event parts names

names_after : (state : State) (event : Event) → HasLineParts event → are_names (entries_in state.play) ≡ true
    → are_names (entries_in (state_after state event).play) ≡ true
names_after state event parts names = by_answer (is_accepted (answer_to state event))
  where
    by_answer : (taken : Bool)
        → are_names (entries_in (if taken then accepted state event else state).play) ≡ true
    by_answer true = names_accepted state event parts names
    by_answer false = names

names_run : (state : State) (events : List Event) → AllByRecursion IsWritable events
    → are_names (entries_in state.play) ≡ true → are_names (entries_in (run state events).play) ≡ true
names_run state [] writable names = names
names_run state (event ∷ events) writable names =
    names_run (state_after state event) events writable.1 (names_after state event writable.0.parts names)

-- the place of a player who sits
place_small : (tables seats : ℕ) (player : Seated) → tables ≤ 64 → seats ≤ 10 → sits_within tables seats player ≡ true
    → (player.place.table < 2 ^ 64) × (player.place.seat < 2 ^ 64)
place_small tables seats player few_tables few_seats within =
    let both = and_parts (leb 1 player.place.table && leb player.place.table tables)
    (leb 1 player.place.seat && leb player.place.seat seats) within in
    let table = and_parts (leb 1 player.place.table) (leb player.place.table tables) both.0 in
    let seat = and_parts (leb 1 player.place.seat) (leb player.place.seat seats) both.1 in
    let low_table : player.place.table ≤ tables = grind (arith, nat_tests, table.1) in
    let low_seat : player.place.seat ≤ seats = grind (arith, nat_tests, seat.1) in
    (omega (arith, low_table, few_tables), omega (arith, low_seat, few_seats))

seats_are : (book : BookState) (started : List (Option HandStart)) (players : List Seated)
    → book.seating.table_count ≤ 64 → book.seating.seat_count ≤ 10 → are_names book.entries ≡ true
    → list_all (sits_within book.seating.table_count book.seating.seat_count) players ≡ true
    → All (IsNamed book.entries) players → sum_by (λ player. player.stack) players < 2 ^ 64
    → AllByRecursion IsSeatNote (map (reported started) players)
seats_are book started [] few_tables few_seats names within named small = tt
seats_are book started (player ∷ players) few_tables few_seats names within named small =
    let parts = and_parts (sits_within book.seating.table_count book.seating.seat_count player)
    (list_all (sits_within book.seating.table_count book.seating.seat_count) players) within in
    let sum = sum_by-cons (λ (player : Seated). player.stack) player players in
    let his : player.stack < 2 ^ 64 = omega (arith, small, sum) in
    let rest : sum_by (λ (player : Seated). player.stack) players < 2 ^ 64 = omega (arith, small, sum) in
    let place = place_small book.seating.table_count book.seating.seat_count player few_tables few_seats parts.0 in (
      record {
        table = place.0;
        number = place.1;
        name = list_all-get is_name book.entries player.player player.name names
            (All-head (IsNamed book.entries) player players named);
        stack = stack_small (is_in_hand started player) his;
      },
      seats_are book started players few_tables few_seats names parts.1
          (All-tail (IsNamed book.entries) player players named) rest,
    )
  where
    stack_small : (in_hand : Bool) → player.stack < 2 ^ 64
        → ForSome (if in_hand then None else Some player.stack) (λ stack. stack < 2 ^ 64)
    stack_small true small = λ stack is. absurd cc
    stack_small false small = λ stack is. let same = same_Some player.stack stack is in omega (arith, same, small)

-- what so many places have together is at most all prizes
together_small : (prizes : List ℕ) (place count : ℕ) → prizes_together prizes place count ≤ sum prizes
together_small prizes place count =
    let first = sum_by-take-le (λ (n : ℕ). n) (drop (place - 1) prizes) count in
    let whole = sum_by-take-drop (λ (n : ℕ). n) prizes (place - 1) in
    omega (arith, first, whole)

-- an equal share is at most one chip more than what is shared
share_small : (together players before : ℕ) → equal_share together players before ≤ together + 1
share_small together players before =
    let part = div-le_self together players in
    let odd = at_most_one (nat_lt before (together % players)) in
    omega (arith, part, odd)

-- no place and no prize is greater than a number of 64 bits
record IsSmall (standing : Standing) : Type 0 where
  place : standing.place < 2 ^ 64
  prize : standing.prize < 2 ^ 64

each_small : (entries : ℕ) (prizes : List ℕ) (all : List Bust) → entries ≤ most_entries → length all ≤ entries
    → sum prizes < 2 ^ 63 → (busts : List Bust) → All (λ bust. IsSmall (standing_of entries prizes all bust)) busts
each_small entries prizes all few out small [] = All-nil (λ bust. IsSmall (standing_of entries prizes all bust))
each_small entries prizes all few out small (bust ∷ busts) =
    let ahead = count_by-le-length (λ (other : Bust). is_ahead other bust) all in
    let together = together_small prizes (place_of entries all bust) (tied all bust) in
    let share = share_small (prizes_together prizes (place_of entries all bust) (tied all bust)) (tied all bust)
    (tied_before all bust) in
    All-cons (λ bust. IsSmall (standing_of entries prizes all bust)) bust busts
    (record { place = omega (arith, ahead, few, out); prize = omega (arith, together, share, small) })
    (each_small entries prizes all few out small busts)

winner_small : (prizes : List ℕ) (last : Option ℕ) → sum prizes < 2 ^ 63 → All IsSmall (winner_of prizes last)
winner_small prizes None small = All-nil IsSmall
winner_small prizes (Some player) small =
    let together = together_small prizes 1 1 in
    All-cons IsSmall _ [] (record { place = omega arith; prize = omega (arith, together, small) }) (All-nil IsSmall)

-- what is paid is less than 2 ^ 63
prizes_small : (book : BookState) → IsValid book
    → sum (prizes_of (length book.entries) (pool_in book) book.plan.shares) < 2 ^ 63
prizes_small book valid =
    let plan = right_has book.plan valid.plan.right in
    let within = prizes-within (length book.entries) (pool_in book) book.plan.shares plan.most_shared in
    pool (length book.entries + book.reentries) book.plan.buyin _ valid.entries.few plan.most_buyin within
  where
    pool : (entries buyin paid : ℕ) → entries ≤ most_entries → buyin ≤ 1000000000 → paid ≤ entries * buyin
        → paid < 2 ^ 63
    pool entries buyin paid few low within =
        let most = mul-le-mul few low in omega (arith, most, within)

standings_small : (book : BookState) → IsValid book → All IsSmall (standings_in book)
standings_small book valid =
    let out = all-counted book.entries book.seating.players book.busts valid.entries.once in
    let small = prizes_small book valid in
    let few = valid.entries.few in
    standings_are IsSmall (length book.entries) (winner book) (pool_in book) book.plan.shares book.busts
    (winner_small (prizes_of (length book.entries) (pool_in book) book.plan.shares) (winner book) small)
    (each_small (length book.entries) (prizes_of (length book.entries) (pool_in book) book.plan.shares) book.busts
    (omega (arith, few)) (omega (arith, out)) small book.busts)

outs_are : (entries : List (List ℕ)) (standings : List Standing) → are_names entries ≡ true
    → All (λ standing. standing.player < length entries) standings → All IsSmall standings
    → AllByRecursion IsOutNote (map (reported_out entries) standings)
outs_are entries [] names entered small = tt
outs_are entries (standing ∷ standings) names entered small =
    let his = All-head (λ standing. standing.player < length entries) standing standings entered in
    let numbers = All-head IsSmall standing standings small in (
      record {
        number = numbers.place;
        name = list_all-get is_name entries standing.player (get_or entries standing.player []) names
            (slice_get-get_or entries standing.player [] his);
        prize = numbers.prize;
      },
      outs_are entries standings names
          (All-tail (λ standing. standing.player < length entries) standing standings entered)
          (All-tail IsSmall standing standings small),
    )

book_reportable : (book : BookState) → IsValid book → are_names book.entries ≡ true → IsReportable (book_report book)
book_reportable book valid names =
    let few = few_chips book valid in
    let kept = valid.chips in
    let last = valid.plan.last in
    let levels = (right_has book.plan valid.plan.right).level_count in
    record {
      level = omega (arith, last, levels);
      sold = omega (arith, few);
      removed = omega (arith, few, kept);
      added = omega (arith, few);
      rest = omega (arith, few, kept);
      play = omega (arith, few, kept);
      seats = seats_are book book.started book.seating.players valid.tables.lawful.most_tables
          valid.tables.lawful.most_seats names valid.tables.lawful.within valid.entries.named
          (omega (arith, few, kept));
      outs = outs_are book.entries (standings_in book) names (standings_entered book valid)
          (standings_small book valid);
    }

-- The report after writable events may stand in lines.
pub reportable : (events : List Event) → AllByRecursion IsWritable events
    → IsReportable (report_of (run first_state events))
reportable events writable =
    by_play (run first_state events).play (valid_events events).play (names_run first_state events writable refl)
  where
    by_play : (play : Option PlayState) → ForSome play IsValidPlay → are_names (entries_in play) ≡ true
        → IsReportable (option_map_or (λ play. book_report play.book) play empty_report)
    by_play None valid names = record {
      level = omega arith;
      sold = omega arith;
      removed = omega arith;
      added = omega arith;
      rest = omega arith;
      play = omega arith;
      seats = tt;
      outs = tt;
    }
    by_play (Some play) valid names = book_reportable play.book (valid play refl).book names
