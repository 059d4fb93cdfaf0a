-- Who is out sits nowhere, is in no hand and makes no act.
use Rattle.std.proofs.Common.{◌≡◌, ◌≢◌, ◌∙◌, refl, sym, ap, ℕ, Bool, true, false, cond, List, [], ◌∷◌, map, get_or, arith}
use Rattle.std.specs.Prelude.{not, filter, count_by, slice_get, Option, Some, None, option_map, option_and_then}
use Rattle.std.specs.List.{list_all, list_any, All}
use Rattle.std.specs.Str.{bytes_eq}
use Rattle.std.proofs.lemmas.Bool.{and_parts, not-true, eq-eqb}
use Rattle.std.proofs.lemmas.List.Elements.{All-head, All-tail}
use Rattle.rulebook.specs.Pairs.{are_distinct}
use Rattle.rulebook.proofs.Checks.{none_holds}
use Rattle.rulebook.proofs.Tests.{some_there, list_any-made, none_by_count}
use Rattle.card_set.specs.declared.card.Card.{Card}
use Rattle.betting_round.specs.declared.act.Act.{Act}
use Rattle.place_list.proofs.Counts.{count_by-some}
use Rattle.seat_book.specs.declared.seated.Seated.{Seated}
use Rattle.seat_book.specs.Players.{is_numbered}
use Rattle.table_engine.specs.declared.start.HandStart.{HandStart}
use Rattle.table_engine.specs.declared.start.StartSeat.{StartSeat}
use Rattle.table_engine.specs.Hands.{HandTerms}
use Rattle.table_engine.specs.Acts.{is_dealt, act_checks}
use Rattle.tournament_events.specs.declared.answer.Answer.TheVariants.{Ok}
use Rattle.tournament_events.specs.declared.event.Event.TheVariants.{Act as Acts}
use Rattle.tournament_rules.specs.Books.{BookState, start_at, starters_of}
use Rattle.tournament_rules.specs.Players.{is_among, is_dealt_in, start_seat}
use Rattle.tournament_rules.specs.Dealing.{next_at, next_start}
use Rattle.tournament_rules.specs.States.{State, PlayState, acts_at, hand_at, refusal_of, answered, answer_to, is_accepted}
use Rattle.tournament_rules.specs.Valid.{IsValid, IsValidPlay, is_bust_of, is_lent, without_stack}
use Rattle.tournament_rules.specs.Apart.{hand_refusal}
use Rattle.tournament_rules.proofs.Members.{has_number, none_picked, any_without}
use Rattle.tournament_rules.proofs.InOrBust.{one_row}
use Rattle.tournament_rules.proofs.Names.{IsNamed, names_differ}
use Rattle.tournament_rules.proofs.Passed.{is_so, passed-parts, act_passed}
use Rattle.tournament_rules.proofs.Steps.{accepted_none}

-- Who is out has no seat.
pub no_seat : (book : BookState) → IsValid book
    → All (λ bust. count_by (is_numbered bust.player) book.seating.players ≡ 0) book.busts
no_seat book valid = λ k d within.
    let number = (get_or book.busts k d).player in
    let some = count_by-some (is_bust_of number) book.busts k d within (eq-eqb number number refl) in
    let his = valid.entries.once number in
    let most = one_row book.entries number in
    omega (arith, some, his, most)

-- Who has no seat is not dealt in when a hand begins.
pub not_dealt : (book : BookState) (table number : ℕ) (cards : List Card)
    → count_by (is_numbered number) book.seating.players ≡ 0
    → is_among number (next_start book table cards).seats ≡ false
not_dealt book table number cards none =
    none_picked number (is_dealt_in table (next_at book table).waiting) book.seating.players
    (none_by_count (is_numbered number) book.seating.players none)

-- Who has no seat is in no hand that is played.
pub in_no_hand : (book : BookState) (table number : ℕ) → IsValid book
    → count_by (is_numbered number) book.seating.players ≡ 0
    → is_among number (starters_of (start_at book.started table)) ≡ false
in_no_hand book table number valid none =
    sym (any_without number (starters_of (start_at book.started table)))
    ∙ (ap (λ (starters : List StartSeat). list_any (has_number number) starters) (sym (valid.hands.lent table))
    ∙ none_picked number (is_lent table) book.seating.players
    (none_by_count (is_numbered number) book.seating.players none))

-- whether a player of a start has this name
abbrev has_name : List ℕ → StartSeat → Bool
has_name name starter = bytes_eq starter.name name

-- Where none of the players has the number of an entry, none who are picked of them has its name.
none_named : (entries : List (List ℕ)) (number : ℕ) (name : List ℕ) (test : Seated → Bool) (players : List Seated)
    → are_distinct bytes_eq entries ≡ true → slice_get entries number ≡ Some name
    → All (IsNamed entries) players
    → list_all (λ other. not (is_numbered number other)) players ≡ true
    → list_any (has_name name) (map start_seat (filter test players)) ≡ false
none_named entries number name test [] distinct is named others = refl
none_named entries number name test (player ∷ players) distinct is named others =
    let parts = and_parts (not (is_numbered number player)) (list_all (λ other. not (is_numbered number other))
    players) others in
    let his = All-head (IsNamed entries) player players named in
    let later = All-tail (IsNamed entries) player players named in
    by_test (test player)
    (names_differ entries player.player number player.name name distinct his is (not-true _ parts.0))
    (none_named entries number name test players distinct is later parts.1)
  where
    by_test : (b : Bool) → bytes_eq player.name name ≡ false
        → list_any (has_name name) (map start_seat (filter test players)) ≡ false
        → list_any (has_name name) (map start_seat (cond b (player ∷ filter test players) (filter test players)))
        ≡ false
    by_test true here rest = rw (here, rest) refl
    by_test false here rest = rest

any_name_without : (name : List ℕ) (starters : List StartSeat)
    → list_any (has_name name) (map without_stack starters) ≡ list_any (has_name name) starters
any_name_without name starters = list_any-made (has_name name) without_stack starters

-- Who has no seat is not dealt in under his name either.
name_in_no_hand : (book : BookState) (table number : ℕ) (name : List ℕ) → IsValid book
    → slice_get book.entries number ≡ Some name → count_by (is_numbered number) book.seating.players ≡ 0
    → list_any (has_name name) (starters_of (start_at book.started table)) ≡ false
name_in_no_hand book table number name valid is none =
    sym (any_name_without name (starters_of (start_at book.started table)))
    ∙ (ap (λ (starters : List StartSeat). list_any (has_name name) starters) (sym (valid.hands.lent table))
    ∙ none_named book.entries number name (is_lent table) book.seating.players valid.entries.names is
    valid.entries.named (none_by_count (is_numbered number) book.seating.players none))

-- A player whose act a hand does not refuse is dealt in.
act_dealt : (hand : HandTerms) (table : ℕ) (name : List ℕ) (act : Act)
    → hand_refusal (Acts table name act) hand ≡ None → is_dealt hand.start name ≡ true
unfolding act_checks
act_dealt hand table name act none = is_so _ (and_parts _ _ (none_holds (act_checks hand name act) none)).0

-- An act of who has no seat is refused.
act_refused : (play : PlayState) (table number : ℕ) (name : List ℕ) (act : Act) → IsValidPlay play
    → slice_get play.book.entries number ≡ Some name → count_by (is_numbered number) play.book.seating.players ≡ 0
    → refusal_of play (Acts table name act) ≢ None
act_refused play table number name act valid is none = λ free.
    let parts = passed-parts play (Acts table name act) free in
    let playing = (act_passed play.book table name act parts.0).playing in
    let found = some_there (start_at play.book.started table) (sym (valid.book.tables.playing table) ∙ playing) in
    let hand : HandTerms = record { start = found.0; acts = acts_at play.acts table } in
    let started : hand_at play table ≡ Some hand = ap
    (λ (start : Option HandStart). option_map
    (λ (start : HandStart). record { start = start; acts = acts_at play.acts table }) start) found.1 in
    let taken : hand_refusal (Acts table name act) hand ≡ None =
    sym (ap (option_and_then (hand_refusal (Acts table name act))) started) ∙ parts.1 in
    let dealt = act_dealt hand table name act taken in
    let absent = name_in_no_hand play.book table number name valid.book is none in
    let same = ap (λ (start : Option HandStart). list_any (has_name name) (starters_of start)) found.1 in
    absurd cc

-- An act of who has no seat is not accepted.
pub act_not_accepted : (state : State) (play : PlayState) (table number : ℕ) (name : List ℕ) (act : Act)
    → state.play ≡ Some play → IsValidPlay play → slice_get play.book.entries number ≡ Some name
    → count_by (is_numbered number) play.book.seating.players ≡ 0 → answer_to state (Acts table name act) ≢ Ok
act_not_accepted state play table number name act there valid is none = λ ok.
    let answer : answered (refusal_of play (Acts table name act)) ≡ Ok = rw there at ok in
    act_refused play table number name act valid is none
    (accepted_none (refusal_of play (Acts table name act)) (ap is_accepted answer))
