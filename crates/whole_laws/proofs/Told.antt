-- What a tale has of the hands of a table, and that it only grows along a journal.
use Rattle.std.proofs.Common.{◌≡◌, ◌∙◌, sym, ap, ℕ, true, false, List, [], ◌∷◌, ◌++◌, fold, append_assoc, append-nil}
use Rattle.std.specs.Prelude.{◌==◌, Option, Some, option_map, option_to_list}
use Rattle.table_engine.specs.declared.start.HandStart.{HandStart}
use Rattle.table_engine.specs.declared.record.ActOf.{ActOf}
use Rattle.table_engine.specs.Hands.{HandTerms}
use Rattle.tournament_events.specs.declared.event.Event.TheVariants as events
use Rattle.tournament_rules.specs.Books.{start_at}
use Rattle.view_rules.specs.declared.entries.JournalEntry.{JournalEntry}
use Rattle.dock_rules.specs.Journals.{Begun, Settled, Tale, begun_by, book_of, seeded, settled_by, told_one}
use Rattle.dock_rules.specs.Whole.{begun_at, settled_at}
use Rattle.whole_laws.proofs.AtTables.{hands-append, hands-none, hands-one, hands_at, starts-append, starts-none, starts-one, starts_at}

-- What grows with each entry begins, after entries, with what it was before them.
module _ {A : Type 0} (read : Tale → List A) (new : Tale → JournalEntry → List A)
    (grows : (tale : Tale) (entry : JournalEntry) → read (told_one tale entry) ≡ read tale ++ new tale entry) where
  ahead : (tale : Tale) (entries : List JournalEntry)
      → (rest : List A) × (read (fold told_one tale entries) ≡ read tale ++ rest)
  ahead tale [] = ([], sym (append-nil (read tale)))
  ahead tale (entry ∷ entries) =
      let later = ahead (told_one tale entry) entries in (
        new tale entry ++ later.0,
        later.1 ∙ (ap (λ (items : List A). items ++ later.0) (grows tale entry)
            ∙ append_assoc (read tale) (new tale entry) later.0),
      )

-- The starts at a table after entries begin with those before them.
pub begun-ahead : (table : ℕ) (tale : Tale) (entries : List JournalEntry)
    → (rest : List HandStart) × (begun_at table (fold told_one tale entries) ≡ begun_at table tale ++ rest)
begun-ahead table = ahead (begun_at table)
    (λ tale entry. starts_at table (begun_by (seeded tale entry) entry.caller entry.event))
    (λ tale entry. starts-append table tale.begun (begun_by (seeded tale entry) entry.caller entry.event))

-- So do the hands that were settled there.
pub settled-ahead : (table : ℕ) (tale : Tale) (entries : List JournalEntry)
    → (rest : List HandTerms) × (settled_at table (fold told_one tale entries) ≡ settled_at table tale ++ rest)
settled-ahead table = ahead (settled_at table)
    (λ tale entry. hands_at table (settled_by (seeded tale entry) entry.caller entry.event entry.acts))
    (λ tale entry. hands-append table tale.settled
    (settled_by (seeded tale entry) entry.caller entry.event entry.acts))

-- A settle adds the hand that is out at its table, with the acts that it brings.
pub settled-one : (tale : Tale) (caller table : ℕ) (acts : List ActOf) (start : HandStart)
    → start_at (book_of tale).started table ≡ Some start
    → settled_by tale caller (events.Settle table) acts
    ≡ (record { by = caller; hand = record { start = start; acts = acts } }) ∷ []
settled-one tale caller table acts start out = ap (λ (found : Option HandStart).
    option_to_list (option_map (λ (hand : HandTerms). record { by = caller; hand = hand })
    (option_map (λ (start : HandStart). record { start = start; acts = acts }) found))) out

-- The starts at a table after an entry that begins a hand there.
pub begun-more : (table : ℕ) (tale : Tale) (entry : JournalEntry) (new : Begun)
    → begun_by (seeded tale entry) entry.caller entry.event ≡ new ∷ [] → (new.start.table == table) ≡ true
    → begun_at table (told_one tale entry) ≡ begun_at table tale ++ new.start ∷ []
begun-more table tale entry new is here =
    ap (λ (more : List Begun). starts_at table (tale.begun ++ more)) is
    ∙ (starts-append table tale.begun (new ∷ [])
    ∙ ap (λ (starts : List HandStart). begun_at table tale ++ starts) (starts-one table new here))

-- They are the same after an entry that begins one elsewhere.
pub begun-same : (table : ℕ) (tale : Tale) (entry : JournalEntry) (new : Begun)
    → begun_by (seeded tale entry) entry.caller entry.event ≡ new ∷ [] → (new.start.table == table) ≡ false
    → begun_at table (told_one tale entry) ≡ begun_at table tale
begun-same table tale entry new is apart =
    ap (λ (more : List Begun). starts_at table (tale.begun ++ more)) is
    ∙ (starts-append table tale.begun (new ∷ [])
    ∙ (ap (λ (starts : List HandStart). begun_at table tale ++ starts) (starts-none table new apart)
    ∙ append-nil (begun_at table tale)))

-- The hands that were settled at a table after an entry that settles one there.
pub settled-more : (table : ℕ) (tale : Tale) (entry : JournalEntry) (new : Settled)
    → settled_by (seeded tale entry) entry.caller entry.event entry.acts ≡ new ∷ []
    → (new.hand.start.table == table) ≡ true
    → settled_at table (told_one tale entry) ≡ settled_at table tale ++ new.hand ∷ []
settled-more table tale entry new is here =
    ap (λ (more : List Settled). hands_at table (tale.settled ++ more)) is
    ∙ (hands-append table tale.settled (new ∷ [])
    ∙ ap (λ (hands : List HandTerms). settled_at table tale ++ hands) (hands-one table new here))

-- They are the same after an entry that settles one elsewhere.
pub settled-same : (table : ℕ) (tale : Tale) (entry : JournalEntry) (new : Settled)
    → settled_by (seeded tale entry) entry.caller entry.event entry.acts ≡ new ∷ []
    → (new.hand.start.table == table) ≡ false
    → settled_at table (told_one tale entry) ≡ settled_at table tale
settled-same table tale entry new is apart =
    ap (λ (more : List Settled). hands_at table (tale.settled ++ more)) is
    ∙ (hands-append table tale.settled (new ∷ [])
    ∙ (ap (λ (hands : List HandTerms). settled_at table tale ++ hands) (hands-none table new apart)
    ∙ append-nil (settled_at table tale)))
