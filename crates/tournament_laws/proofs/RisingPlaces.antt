-- While nobody enters, the places of those who are out rise or stay.
use Rattle.std.proofs.Common.{◌≡◌, ◌∙◌, refl, ap, ℕ, ◌+◌, ◌<◌, ◌≤◌, Bool, true, false, cond, ◌==◌, ◌&&◌, List, [], ◌∷◌, ◌++◌, length, arith, length-append}
use Rattle.std.specs.Prelude.{◌||◌, nat_lt, nat_le, count_by, Option, Some, None}
use Rattle.std.specs.List.{list_all}
use Rattle.std.specs.Option.{option_map_or}
use Rattle.std.proofs.lemmas.Bool.{lt-ltb, ltb-true}
use Rattle.std.proofs.lemmas.Bool.Decides.{nat_tests}
use Rattle.std.proofs.lemmas.List.Sums.{sum_by-append, count_by-le-length}
use Rattle.rulebook.proofs.Passing.{count_by-all}
use Rattle.rulebook.proofs.Tests.{list_all-follows}
use Rattle.place_list.specs.declared.bust.Bust.{Bust}
use Rattle.place_list.specs.Places.{is_ahead, place_of}
use Rattle.level_plan.specs.Plans.{PlanTerms}
use Rattle.table_engine.specs.Hands.{HandTerms}
use Rattle.tournament_events.specs.declared.event.Event.{Event}
use Rattle.tournament_events.specs.declared.event.Event.TheVariants as events
use Rattle.tournament_rules.specs.Books.{BookState}
use Rattle.tournament_rules.specs.Checks.{is_late}
use Rattle.tournament_rules.specs.Effects.{settled, book_effect}
use Rattle.tournament_rules.specs.Kinds.{is_entry, is_reentry}
use Rattle.tournament_rules.specs.States.{State, PlayState, hand_about, refusal_of, answered, answer_to, is_accepted, play_effect, state_after, run}
use Rattle.tournament_rules.specs.Valid.{IsValid, IsValidPlay}
use Rattle.tournament_rules.proofs.Ends.{left-void_first}
use Rattle.tournament_rules.proofs.InOrBust.{all-counted}
use Rattle.tournament_rules.proofs.Passed.{passed-parts, entry_passed, reentry_passed}
use Rattle.tournament_rules.proofs.Steps.{accepted_none}
use Rattle.tournament_laws.specs.Accepted.{is_any_accepted}
use Rattle.tournament_laws.proofs.Counting.{level-effect, plan-effect}
use Rattle.tournament_laws.proofs.GroupLaws.{Grows, run_grows}
use Rattle.tournament_laws.proofs.Kept.{run_keeps}

-- how many of a list are ahead of a player
abbrev ahead_of : Bust → List Bust → ℕ
ahead_of bust busts = count_by (λ other. is_ahead other bust) busts

ahead-append : (bust : Bust) (busts more : List Bust) → ahead_of bust (busts ++ more)
    ≡ ahead_of bust busts + ahead_of bust more
ahead-append bust busts more = sum_by-append (λ (other : Bust). cond {A = ℕ} (is_ahead other bust) 1 0) busts more

-- Where some more are out, a place rises by one for each of them who is not ahead.
place_of-more : (entries : ℕ) (busts more : List Bust) (bust : Bust) → length busts + length more ≤ entries
    → place_of entries (busts ++ more) bust + length more ≡ place_of entries busts bust + ahead_of bust more
place_of-more entries busts more bust within =
    let all = ahead-append bust busts more in
    let size = length-append busts more in
    omega (arith, all, size, within)

-- So it rises or stays.
place_of-rises : (entries : ℕ) (busts more : List Bust) (bust : Bust) → length busts + length more ≤ entries
    → place_of entries (busts ++ more) bust ≤ place_of entries busts bust
place_of-rises entries busts more bust within =
    let same = place_of-more entries busts more bust within in
    let most = count_by-le-length (λ (other : Bust). is_ahead other bust) more in
    omega (arith, same, most)

-- It stays where all who are out later are in later groups.
place_of-stays : (entries : ℕ) (busts more : List Bust) (bust : Bust) → length busts + length more ≤ entries
    → list_all (λ other. nat_lt bust.group other.group) more ≡ true
    → place_of entries (busts ++ more) bust ≡ place_of entries busts bust
place_of-stays entries busts more bust within later =
    let same = place_of-more entries busts more bust within in
    let all = count_by-all (λ (other : Bust). is_ahead other bust) more
    (list_all-follows (λ other. nat_lt bust.group other.group) (λ other. is_ahead other bust) more
    (λ other is. ahead bust.group bust.stack other.group other.stack is) later) in
    omega (arith, same, all)
  where
    ahead : (g s h t : ℕ) → nat_lt g h ≡ true → (nat_lt g h || (h == g && nat_lt s t)) ≡ true
    ahead g s h t is = rw is refl

-- No event but an entry changes the list of those who entered.
entries-effect : (book : BookState) (hand : Option HandTerms) (event : Event) → is_entry event ≡ false
    → (book_effect book hand event).entries ≡ book.entries
entries-effect book hand (events.Settle table) kind = by_hand hand
  where
    by_hand : (hand : Option HandTerms) → (option_map_or (settled book) hand book).entries ≡ book.entries
    by_hand None = refl
    by_hand (Some hand) = refl
entries-effect book hand events.Stop kind =
    left-void_first (λ book. book.entries) (record { same = λ book table payees. refl }) book book.plan.tables
entries-effect book hand _ kind = cc

-- While nobody enters, that list stays.
entries-run : (state : State) (events : List Event) (earlier later : PlayState) → state.play ≡ Some earlier
    → (run state events).play ≡ Some later → is_any_accepted is_entry state events ≡ false
    → later.book.entries ≡ earlier.book.entries
entries-run state events earlier later before after none =
    run_keeps (λ play. play.book.entries ≡ earlier.book.entries) is_entry
    (λ play event kind free same. entries-effect play.book (hand_about play event) event kind ∙ same)
    state events earlier later before after none refl

-- A re-entry is an entry.
reentry_enters : (event : Event) (taken entered later : Bool) → (is_entry event && taken || entered) ≡ false
    → (entered ≡ false → later ≡ false) → (is_reentry event && taken || later) ≡ false
reentry_enters (events.Enter name table seat) true entered later none rest = absurd cc
reentry_enters (events.Enter name table seat) false entered later none rest = rest none
reentry_enters (events.Reenter name table seat) true entered later none rest = absurd cc
reentry_enters (events.Reenter name table seat) false entered later none rest = rest none
reentry_enters _ taken entered later none rest = rest none

-- Where nobody enters, for the first time or again, nobody re-enters.
no_reentry : (state : State) (list : List Event) → is_any_accepted is_entry state list ≡ false
    → is_any_accepted is_reentry state list ≡ false
no_reentry state [] none = refl
no_reentry state (event ∷ list) none =
    reentry_enters event (is_accepted (answer_to state event)) (is_any_accepted is_entry (state_after state event) list)
    (is_any_accepted is_reentry (state_after state event) list) none (no_reentry (state_after state event) list)

-- There is room among the entries for all who are out later.
room_for : (earlier later : BookState) (grows : Grows earlier later) → IsValid later
    → later.entries ≡ earlier.entries → length earlier.busts + length grows.more ≤ length earlier.entries
room_for earlier later grows valid same =
    let all = all-counted later.entries later.seating.players later.busts valid.entries.once in
    let size = ap length grows.is ∙ length-append earlier.busts grows.more in
    let entries = ap length same in
    omega (arith, all, size, entries)

-- A place in the later book is one among the same entries, where some more are out.
place-later : (earlier later : BookState) (grows : Grows earlier later) (bust : Bust) → later.entries ≡ earlier.entries
    → place_of (length later.entries) later.busts bust
    ≡ place_of (length earlier.entries) (earlier.busts ++ grows.more) bust
place-later earlier later grows bust same =
    ap (λ (entries : List (List ℕ)). place_of (length entries) later.busts bust) same
    ∙ ap (λ (busts : List Bust). place_of (length earlier.entries) busts bust) grows.is

-- While nobody enters, the place of a player who is out rises or stays.
pub places-rise : (state : State) (events : List Event) (earlier later : PlayState) (bust : Bust)
    → state.play ≡ Some earlier → (run state events).play ≡ Some later → IsValidPlay later
    → is_any_accepted is_entry state events ≡ false
    → place_of (length later.book.entries) later.book.busts bust
    ≤ place_of (length earlier.book.entries) earlier.book.busts bust
places-rise state events earlier later bust before after valid none =
    let grows = run_grows state events earlier later before after (no_reentry state events none) in
    let same = entries-run state events earlier later before after none in
    let room = room_for earlier.book later.book grows valid.book same in
    let there = place-later earlier.book later.book grows bust same in
    let less = place_of-rises (length earlier.book.entries) earlier.book.busts grows.more bust room in
    omega (arith, there, less)

-- It stays once his group is past.
pub places-stay : (state : State) (events : List Event) (earlier later : PlayState) (bust : Bust)
    → state.play ≡ Some earlier → (run state events).play ≡ Some later → IsValidPlay later
    → bust.group < earlier.book.group → is_any_accepted is_entry state events ≡ false
    → place_of (length later.book.entries) later.book.busts bust
    ≡ place_of (length earlier.book.entries) earlier.book.busts bust
places-stay state events earlier later bust before after valid past none =
    let grows = run_grows state events earlier later before after (no_reentry state events none) in
    let same = entries-run state events earlier later before after none in
    place-later earlier.book later.book grows bust same
    ∙ place_of-stays (length earlier.book.entries) earlier.book.busts grows.more bust
    (room_for earlier.book later.book grows valid.book same)
    (list_all-follows (λ (other : Bust). nat_le earlier.book.group other.group)
    (λ other. nat_lt bust.group other.group) grows.more
    (λ other least. later_group bust.group earlier.book.group other.group past least) grows.least)
  where
    later_group : (own group other : ℕ) → own < group → nat_le group other ≡ true → nat_lt own other ≡ true
    later_group own group other past least = grind (arith, nat_tests)

-- Once entries are late, they stay so.
late-effect : (play : PlayState) (event : Event) → is_late play.book ≡ true
    → is_late (play_effect play event).book ≡ true
late-effect play event late =
    let level = level-effect play.book (hand_about play event) event in
    let plan = ap (λ (plan : PlanTerms). plan.late) (plan-effect play.book (hand_about play event) event) in
    let over = ltb-true play.book.plan.late play.book.level late in
    lt-ltb (play_effect play event).book.plan.late (play_effect play event).book.level
    (omega (arith, level, plan, over))

-- A late entry is refused.
late-refused : (play : PlayState) (event : Event) → is_late play.book ≡ true → refusal_of play event ≡ None
    → is_entry event ≡ false
late-refused play (events.Enter name table seat) late free =
    let free_in_book = (passed-parts play (events.Enter name table seat) free).0 in
    let early = (entry_passed play.book name table seat free_in_book).buys.early in
    absurd cc
late-refused play (events.Reenter name table seat) late free =
    let free_in_book = (passed-parts play (events.Reenter name table seat) free).0 in
    let early = (reentry_passed play.book name table seat free_in_book).buys.early in
    absurd cc
late-refused play _ late free = refl

-- Once entries are late, nobody enters any more.
pub late-closed : (state : State) (events : List Event) (play : PlayState) → state.play ≡ Some play
    → is_late play.book ≡ true → is_any_accepted is_entry state events ≡ false
late-closed state [] play at late = refl
late-closed state (event ∷ events) play at late =
    by_answer (is_accepted (answer_to state event)) refl
    (λ next there late. late-closed (state_after state event) events next there late)
  where
    by_answer : (taken : Bool) → is_accepted (answer_to state event) ≡ taken
        → ((next : PlayState) → (state_after state event).play ≡ Some next → is_late next.book ≡ true
        → is_any_accepted is_entry (state_after state event) events ≡ false)
        → (is_entry event && taken || is_any_accepted is_entry (state_after state event) events) ≡ false
    by_answer true taken rest =
        let next : (state_after state event).play ≡ Some (play_effect play event) = rw (taken, at) refl in
        let here : is_accepted (answered (refusal_of play event)) ≡ true = rw at at taken in
        let kind = late-refused play event late (accepted_none (refusal_of play event) here) in
        rw kind (rest (play_effect play event) next (late-effect play event late))
    by_answer false taken rest =
        let next : (state_after state event).play ≡ Some play = rw taken at in
        let later = rest play next late in
        no_entry (is_entry event) (is_any_accepted is_entry (state_after state event) events) later
      where
        no_entry : (kind later : Bool) → later ≡ false → (kind && false || later) ≡ false
        no_entry true later is = is
        no_entry false later is = is
