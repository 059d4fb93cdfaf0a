-- When the hands of a table's history fit those of a journal, and which acts its next hand then has.
use Rattle.std.proofs.Common.{◌≡◌, ◌∙◌, sym, ap, ℕ, true, List, [], ◌∷◌, ◌++◌, drop, fold, length, append_assoc}
use Rattle.std.specs.Prelude.{◌==◌, take, option_to_list}
use Rattle.table_engine.specs.declared.start.HandStart.{HandStart}
use Rattle.table_engine.specs.Hands.{HandTerms}
use Rattle.table_engine.specs.Plays.{IsLawfulPlay}
use Rattle.view_rules.specs.declared.entries.JournalEntry.{JournalEntry}
use Rattle.dock_rules.specs.Journals.{Begun, Settled, Tale, begun_by, seeded, settled_by, told_one}
use Rattle.dock_rules.specs.Whole.{TableHands, begun_at, first_acts, hands_played, settled_at}
use Rattle.whole_laws.proofs.InTurn.{starts_of}
use Rattle.whole_laws.proofs.LawfulHands.{AreLawful}
use Rattle.whole_laws.proofs.NextHands.{IsNextSettled, begun-lawful, settled-next}
use Rattle.whole_laws.proofs.Told.{begun-ahead, begun-more, settled-ahead, settled-more}

-- The hands of a table fit those of a journal: they are lawful plays, those that began are all of them and maybe more
-- behind them, and those that were settled are the first that were closed.
pub record DoFit (table : ℕ) (hands : TableHands) (tale : Tale) : Type 0 where
  pub lawful : AreLawful (hands_played hands)
  pub later : List HandStart
  pub starts : begun_at table tale ≡ starts_of (hands_played hands) ++ later
  pub ended : settled_at table tale ≡ take (length (settled_at table tale)) hands.closed

-- A hand that begins is a lawful play of its start, with the acts that the whole has behind its begin.
pub begins-lawfully : (table : ℕ) (hands : TableHands) (tale : Tale) (entry : JournalEntry)
    (rest : List JournalEntry) (new : Begun) → DoFit table hands (fold told_one tale (entry ∷ rest))
    → begun_by (seeded tale entry) entry.caller entry.event ≡ new ∷ [] → (new.start.table == table) ≡ true
    → IsLawfulPlay (record {
      start = new.start;
      acts = first_acts (drop (length (begun_at table tale)) (hands_played hands));
    })
begins-lawfully table hands tale entry rest new fit is here =
    let ahead = begun-ahead table (told_one tale entry) rest in
    let next = begun-more table tale entry new is here in
    begun-lawful (hands_played hands) (begun_at table tale) new.start ahead.0 fit.later fit.lawful
    (sym (append_assoc (begun_at table tale) (new.start ∷ []) ahead.0)
    ∙ (ap (λ (starts : List HandStart). starts ++ ahead.0) (sym next) ∙ (sym ahead.1 ∙ fit.starts)))

-- A hand that is settled has the acts of the one that is behind as many as were settled before it.
pub settles-next : (table : ℕ) (hands : TableHands) (tale : Tale) (entry : JournalEntry)
    (rest : List JournalEntry) (new : Settled) → DoFit table hands (fold told_one tale (entry ∷ rest))
    → settled_by (seeded tale entry) entry.caller entry.event entry.acts ≡ new ∷ []
    → (new.hand.start.table == table) ≡ true → IsNextSettled (hands_played hands) (settled_at table tale) new.hand
settles-next table hands tale entry rest new fit is here =
    let ahead = settled-ahead table (told_one tale entry) rest in
    let next = settled-more table tale entry new is here in
    settled-next (length (settled_at table (fold told_one tale (entry ∷ rest)))) hands.closed
    (option_to_list hands.lying) (settled_at table tale) new.hand ahead.0 fit.lawful
    (sym (append_assoc (settled_at table tale) (new.hand ∷ []) ahead.0)
    ∙ (ap (λ (hands : List HandTerms). hands ++ ahead.0) (sym next) ∙ (sym ahead.1 ∙ fit.ended)))
