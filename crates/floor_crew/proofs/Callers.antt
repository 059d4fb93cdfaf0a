-- Of whom the entries of a journal are: those of each pass of the book are a worker's, or settle no hand.
use Rattle.std.proofs.Common.{◌≡◌, ◌∙◌, sym, ap, subst, ℕ, List, [], ◌∷◌, ◌++◌, inl, inr, map}
use Rattle.std.specs.Prelude.{◌⊎◌, All, Any, Option, vec_len}
use Rattle.std.specs.List.{AllZip, flat_map}
use Rattle.std.proofs.lemmas.List.Elements.{All-cons, All-head, All-nil, All-tail, recursion_from_All}
use Rattle.history_lock.specs.Entries.{entries_by}
use Rattle.history_lock.specs.Passes.{own, pass_number, seen}
use Rattle.history_lock.specs.declared.pass.Pass.{Pass}
use Rattle.plan_files.specs.Words.{WordTerms}
use Rattle.links.specs.Telling.{DoorTelling, Telling}
use Rattle.view_rules.specs.declared.entries.JournalEntry.{JournalEntry}
use Rattle.dock_rules.specs.Journals.{journal_caller}
use Rattle.dock_rules.specs.Tables.{IsLegalTableHistory}
use Rattle.dock_rules.proofs.Tables.{legal-front}
use Rattle.book_dock.specs.contracts.hold.BookHoldGrows.TheImpl as of_book
use Rattle.book_dock.specs.declared.hold.BookHold.{BookHold}
use Rattle.session_desk.specs.Desks.{Sights, numbers_of, sights}
use Rattle.session_desk.specs.Talks.{Served, WasServed}
use Rattle.floor_crew.specs.declared.floor.Floor.{Floor}
use Rattle.floor_crew.specs.declared.jobs.Attended.{Attended}
use Rattle.floor_crew.specs.declared.jobs.Work.{Work}
use Rattle.floor_crew.specs.AtHand.{IsWorkSeen}
use Rattle.floor_crew.specs.Working.{HasAttended, HasDone}
use Rattle.floor_crew.proofs.DeskOrders.{desk-none, orders_in}
use Rattle.floor_crew.proofs.LawfulSettles.{IsWorkers, SettlesNone}
use Rattle.floor_crew.proofs.OfHands.{settles}

-- A pass of the book.
abbrev pub Book : Type 0
Book = Pass BookHold JournalEntry of_book.ghosts

module _ (end : Sights) where
  -- The entries that have a pass's number are those that it made.
  abbrev HasOwn : Book → Type 0
  HasOwn pass = entries_by journal_caller (pass_number pass) end.journal ≡ own pass

  -- They are a worker's, or settle no hand.
  abbrev IsKnown : Book → Type 0
  IsKnown pass = IsWorkers (pass_number pass) end.journal ⊎ SettlesNone (pass_number pass) end.journal

  worker-known : ((table : ℕ) → IsLegalTableHistory (end.tables table)) → (before after : Work)
      → HasDone before after → IsWorkSeen end after → HasOwn after.book → IsKnown after.book
  worker-known legal before after done saw has =
      inl (record {
        table = after.table;
        noted = seen after.book;
        history = seen after.dock;
        rest = saw.of_book.0;
        is = sym saw.of_book.1;
        own = has ∙ sym after.book.mine;
        legal = legal-front (seen after.dock) saw.of_table.0
            (subst IsLegalTableHistory (sym saw.of_table.1) (legal saw.table));
        brought = done.brought;
      })

  workers-known : ((table : ℕ) → IsLegalTableHistory (end.tables table)) → (before after : List Work)
      → AllZip HasDone before after → All (IsWorkSeen end) after
      → All HasOwn (map (λ (work : Work). work.book) after) → All IsKnown (map (λ (work : Work). work.book) after)
  workers-known legal [] [] done saw has = All-nil IsKnown
  workers-known legal [] (one ∷ after) done saw has = absurd done
  workers-known legal (work ∷ before) [] done saw has = absurd done
  workers-known legal (work ∷ before) (one ∷ after) done saw has =
      let later = map (λ (work : Work). work.book) after in
      All-cons IsKnown one.book later
      (worker-known legal work one done.0 (All-head (IsWorkSeen end) one after saw) (All-head HasOwn one.book later has))
      (workers-known legal before after done.1 (All-tail (IsWorkSeen end) one after saw)
      (All-tail HasOwn one.book later has))

  module _ {D L : Type 0} (door_told : D → Option (DoorTelling L)) (door_faults : D → ℕ)
      (link_told : L → Option Telling) (link_faults : L → ℕ) (words : WordTerms) (floor : Floor) where
    desk-known : (door : D) (one : Attended D)
        → HasAttended floor door_told door_faults link_told link_faults words door one → HasOwn one.desk.book
        → IsKnown one.desk.book
    desk-known door one attended has =
        let worked = attended.worked in
        let orders = orders_in (flat_map (λ (one : Served L). one.log) worked.sessions) in
        let made : own one.desk.book ≡ orders =
        worked.moved.book.own_after ∙ ap (λ (l : List JournalEntry). l ++ orders) attended.none_at_book in
        inr (record {
          none = ap settles (has ∙ made)
              ∙ desk-none link_told link_faults words (vec_len floor.docks) (numbers_of attended.start)
              (sights attended.start) (sights one.desk) worked.sessions
              (recursion_from_All (WasServed link_told link_faults words (vec_len floor.docks)
              (numbers_of attended.start) (sights attended.start) (sights one.desk)) worked.sessions worked.each);
        })

    desks-known : (doors : List D) (attended : List (Attended D)) (rest : List Book)
        → AllZip (HasAttended floor door_told door_faults link_told link_faults words) doors attended
        → (All HasOwn rest → All IsKnown rest)
        → All HasOwn (map (λ (one : Attended D). one.desk.book) attended ++ rest)
        → All IsKnown (map (λ (one : Attended D). one.desk.book) attended ++ rest)
    desks-known [] [] rest each others has = others has
    desks-known [] (one ∷ attended) rest each others has = absurd each
    desks-known (door ∷ doors) [] rest each others has = absurd each
    desks-known (door ∷ doors) (one ∷ attended) rest each others has =
        let later = map (λ (one : Attended D). one.desk.book) attended ++ rest in
        All-cons IsKnown one.desk.book later (desk-known door one each.0 (All-head HasOwn one.desk.book later has))
        (desks-known doors attended rest each.1 others (All-tail HasOwn one.desk.book later has))

    -- So it is for each number of a pass of the desks and of the workers.
    pub caller-known : ((table : ℕ) → IsLegalTableHistory (end.tables table)) → (doors : List D)
        (attended : List (Attended D)) → AllZip (HasAttended floor door_told door_faults link_told link_faults words)
        doors attended → (before after : List Work) → AllZip HasDone before after → All (IsWorkSeen end) after
        → (passes : List Book)
        → passes ≡ map (λ (one : Attended D). one.desk.book) attended ++ map (λ (work : Work). work.book) after
        → All HasOwn passes → (k : ℕ) → Any (λ pass. pass_number pass ≡ k) passes
        → IsWorkers k end.journal ⊎ SettlesNone k end.journal
    caller-known legal doors attended each before after done saw passes are has k any =
        let theirs = map (λ (work : Work). work.book) after in
        let known = subst (All IsKnown) (sym are)
        (desks-known doors attended theirs each (workers-known legal before after done saw) (subst (All HasOwn) are has)) in
        let P : Book → Type 0 = λ pass. IsKnown pass in
        let here = subst P any.3 (known any.0 any.1 any.2) in
        subst (λ (n : ℕ). IsWorkers n end.journal ⊎ SettlesNone n end.journal) any.4 here
