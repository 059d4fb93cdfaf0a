-- What a journal comes to, entry by entry, and as one list of events.
use Rattle.std.proofs.Common.{◌≡◌, ◌∙◌, refl, sym, ap, ◌+◌, Bool, true, false, List, [], ◌∷◌, ◌++◌, fold, length, arith}
use Rattle.std.specs.Prelude.{◌&&◌}
use Rattle.std.proofs.lemmas.List.Sums.{fold-append}
use Rattle.std.proofs.lemmas.Bool.{and_parts, and_from}
use Rattle.tournament_events.specs.declared.event.Event.{Event}
use Rattle.tournament_rules.specs.States.{State, answer_to, is_accepted, run, state_after}
use Rattle.view_rules.specs.declared.entries.JournalEntry.{JournalEntry}
use Rattle.dock_rules.specs.Journals.{Tale, are_accepted, events_of, expand, first_tale, is_legal_list, may_come, seeded, tale_of, told_one}

-- The tale of no entry.
pub tale_nil : tale_of [] ≡ first_tale
unfolding tale_of
tale_nil = refl

-- The tale goes on entry by entry.
pub tale_append : (journal more : List JournalEntry) → tale_of (journal ++ more) ≡ fold told_one (tale_of journal) more
unfolding tale_of
tale_append journal more = fold-append told_one first_tale journal more

-- One entry more.
pub tale_push : (journal : List JournalEntry) (entry : JournalEntry)
    → tale_of (journal ++ entry ∷ []) ≡ told_one (tale_of journal) entry
tale_push journal entry = tale_append journal (entry ∷ [])

-- All entries, from the first on.
pub tale_from : (journal : List JournalEntry) → tale_of journal ≡ fold told_one first_tale journal
unfolding tale_of
tale_from journal = refl

-- Events are run one list after another.
pub run-append : (state : State) (front back : List Event) → run state (front ++ back) ≡ run (run state front) back
run-append state [] back = refl
run-append state (event ∷ front) back = run-append (state_after state event) front back

and_all : (a b c : Bool) → ((a && b) && c) ≡ (a && (b && c))
and_all true b c = refl
and_all false b c = refl

-- Two lists are accepted where the one is, and the other after it.
pub accepted-append : (state : State) (front back : List Event)
    → are_accepted state (front ++ back) ≡ (are_accepted state front && are_accepted (run state front) back)
accepted-append state [] back = refl
accepted-append state (event ∷ front) back =
    ap (λ (rest : Bool). is_accepted (answer_to state event) && rest)
    (accepted-append (state_after state event) front back)
    ∙ sym (and_all (is_accepted (answer_to state event)) (are_accepted (state_after state event) front)
    (are_accepted (run (state_after state event) front) back))

-- The state of entries told is that after their events.
state-from : (tale : Tale) (entries : List JournalEntry)
    → (fold told_one tale entries).state ≡ run tale.state (expand entries)
state-from tale [] = refl
state-from tale (entry ∷ entries) =
    state-from (told_one tale entry) entries ∙ sym (run-append tale.state (events_of entry) (expand entries))

-- The state of a journal is that after its events.
pub state-told : (journal : List JournalEntry) → (tale_of journal).state ≡ run first_tale.state (expand journal)
state-told journal = ap (λ (tale : Tale). tale.state) (tale_from journal) ∙ state-from first_tale journal

-- Entries that are allowed were so before each of them.
pub legal-before : (tale : Tale) (entries : List JournalEntry) → (fold told_one tale entries).legal ≡ true
    → tale.legal ≡ true
legal-before tale [] legal = legal
legal-before tale (entry ∷ entries) legal =
    (and_parts tale.legal (may_come (seeded tale entry) entry) (legal-before (told_one tale entry) entries legal)).0

-- The events of entries that are allowed are accepted.
accepted-from : (tale : Tale) (entries : List JournalEntry) → (fold told_one tale entries).legal ≡ true
    → are_accepted tale.state (expand entries) ≡ true
accepted-from tale [] legal = refl
accepted-from tale (entry ∷ entries) legal =
    let here = (and_parts tale.legal (may_come (seeded tale entry) entry)
    (legal-before (told_one tale entry) entries legal)).1 in
    let own = (and_parts _ _ here).0 in
    let rest = accepted-from (told_one tale entry) entries legal in
    accepted-append tale.state (events_of entry) (expand entries) ∙ and_from _ _ own rest

-- The events of a legal journal are a legal list.
pub accepted-told : (journal : List JournalEntry) → (tale_of journal).legal ≡ true
    → is_legal_list (expand journal) ≡ true
accepted-told journal legal =
    accepted-from first_tale journal (sym (ap (λ (tale : Tale). tale.legal) (tale_from journal)) ∙ legal)

-- The number of entries.
count-from : (tale : Tale) (entries : List JournalEntry)
    → (fold told_one tale entries).count ≡ tale.count + length entries
count-from tale [] = omega arith
count-from tale (entry ∷ entries) = let rest = count-from (told_one tale entry) entries in omega (arith, rest)

-- A tale counts the entries of its journal.
pub count-told : (journal : List JournalEntry) → (tale_of journal).count ≡ length journal
count-told journal =
    let told = ap (λ (tale : Tale). tale.count) (tale_from journal) in
    let count = count-from first_tale journal in
    omega (arith, told, count)
