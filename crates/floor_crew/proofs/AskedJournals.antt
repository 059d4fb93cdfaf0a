-- What a journal's events come of was brought by the desks.
use Rattle.std.proofs.Common.{◌≡◌, ◌∙◌, refl, sym, ap, ◌==◌, ℕ, ◌+◌, ◌*◌, ◌<◌, ◌≤◌, Bool, true, false, cond, List, [], ◌∷◌, ◌++◌, map, arith}
use Rattle.std.specs.Prelude.{filter}
use Rattle.std.specs.List.{AllByRecursion, list_any}
use Rattle.std.proofs.lemmas.Bool.{eqb-true, or_parts}
use Rattle.std.proofs.lemmas.Bool.Decides.{nat_tests}
use Rattle.std.proofs.lemmas.List.Elements.{filter-append}
use Rattle.level_plan.specs.Plans.{PlanTerms}
use Rattle.level_plan.specs.declared.line.PlanLine.{PlanLine}
use Rattle.plan_files.specs.PlanLines.{lines_of_plan}
use Rattle.tournament_events.specs.declared.event.Event.{Event}
use Rattle.tournament_events.specs.declared.event.Event.TheVariants as events
use Rattle.history_lock.specs.Entries.{entries_by}
use Rattle.history_lock.specs.Limits.{opener}
use Rattle.simulation_rules.specs.Runs.{is_settle}
use Rattle.view_rules.specs.declared.entries.JournalEntry.{JournalEntry}
use Rattle.view_rules.specs.declared.entries.TableEntry.{TableEntry}
use Rattle.view_rules.specs.declared.entries.TableEntry.TheVariants.{Acted}
use Rattle.dock_rules.specs.Journals.{act_event, acts_before, events_of, expand, journal_caller, plain_entry}
use Rattle.dock_rules.specs.Tables.{table_caller}
use Rattle.book_dock.specs.Opening.{opening}
use Rattle.session_desk.specs.declared.desk.Asked.{Asked}
use Rattle.session_desk.specs.Desks.{Brought, acted_at}
use Rattle.floor_crew.specs.Wishes.{Wish}
use Rattle.floor_crew.proofs.Weights.{one_if, weigh, weigh-append, weigh-both, weigh-callers, weigh-flat, weigh-le, weigh-map, weigh-swap}
use Rattle.floor_crew.proofs.AskedFor.{asked_weight, brought_weight, entry_weight, event_weight}
use Rattle.floor_crew.proofs.AskedHands.{act_weight, settle_weight, table_weight, whole_weight}
use Rattle.floor_crew.proofs.OfHands.{settles}

-- A desk in brief: the numbers of its passes, and what it brought.
pub record DeskBrief : Type 0 where
  pub book : ℕ
  pub tables : ℕ → ℕ
  pub brought : Brought

-- A worker in brief: the number of its pass of the book, and its table.
pub record WorkBrief : Type 0 where
  pub book : ℕ
  pub table : ℕ

-- whether a number is among some
abbrev pub is_among : List ℕ → ℕ → Bool
is_among numbers k = list_any (λ (other : ℕ). k == other) numbers

-- Numbers rise, from one on.
abbrev pub AreRising : ℕ → List ℕ → Type 0
AreRising least [] = Unit {0}
AreRising least (n ∷ numbers) = (least ≤ n) × AreRising (n + 1) numbers

-- A number below those that rise is none of them.
below-none : (v a least : ℕ) (numbers : List ℕ) → AreRising least numbers → a < least
    → weigh (λ (n : ℕ). v * one_if (a == n)) numbers ≡ 0
below-none v a least [] rising less = refl
below-none v a least (n ∷ numbers) rising less =
    let here = rising.0 in
    let apart : (a == n) ≡ false = grind (arith, nat_tests) in
    let none : v * one_if (a == n) ≡ v * one_if false = ap (λ (so : Bool). v * one_if so) apart in
    let later = below-none v a (n + 1) numbers rising.1 (omega (arith, here, less)) in
    omega (arith, none, later)

-- A number is one of those that rise at most once.
at-most-once : (v a least : ℕ) (numbers : List ℕ) → AreRising least numbers
    → weigh (λ (n : ℕ). v * one_if (a == n)) numbers ≤ v
at-most-once v a least [] rising = omega arith
at-most-once v a least (n ∷ numbers) rising =
    by_first (a == n) refl (at-most-once v a (n + 1) numbers rising.1) (below-none v a (n + 1) numbers rising.1)
  where
    by_first : (so : Bool) → (a == n) ≡ so → weigh (λ (n : ℕ). v * one_if (a == n)) numbers ≤ v
        → (a < n + 1 → weigh (λ (n : ℕ). v * one_if (a == n)) numbers ≡ 0)
        → v * one_if so + weigh (λ (n : ℕ). v * one_if (a == n)) numbers ≤ v
    by_first true is later none =
        let same : a ≡ n = eqb-true a n is in
        let zero_later = none (omega (arith, same)) in
        omega (arith, zero_later)
    by_first false is later none = omega (arith, later)

module _ (f : Wish → ℕ) where
  -- The acts that were brought at a table weigh what those weigh that are at it.
  acted-weight : (caller table : ℕ) (acts : List Asked)
      → weigh (table_weight f table) (acted_at caller table acts)
      ≡ weigh (λ (asked : Asked). asked_weight f asked * one_if (asked.table == table)) acts
  acted-weight caller table [] = refl
  acted-weight caller table (asked ∷ acts) = by_table (asked.table == table) refl (acted-weight caller table acts)
    where
      by_table : (so : Bool) → (asked.table == table) ≡ so
          → weigh (table_weight f table) (acted_at caller table acts)
          ≡ weigh (λ (asked : Asked). asked_weight f asked * one_if (asked.table == table)) acts
          → weigh (table_weight f table) (map (λ (asked : Asked). Acted caller asked.act)
          (cond so (asked ∷ filter (λ (asked : Asked). asked.table == table) acts)
          (filter (λ (asked : Asked). asked.table == table) acts)))
          ≡ asked_weight f asked * one_if so
          + weigh (λ (asked : Asked). asked_weight f asked * one_if (asked.table == table)) acts
      by_table true is later =
          let here : act_weight f table asked.act ≡ asked_weight f asked =
          ap (λ (t : ℕ). event_weight f (act_event t asked.act)) (sym (eqb-true asked.table table is)) in
          omega (arith, here, later)
      by_table false is later = omega (arith, later)

  -- Entries of which none is a settle settle no acts.
  none-settled : (entries : List JournalEntry) → settles entries ≡ false → weigh (settle_weight f) entries ≡ 0
  none-settled [] none = refl
  none-settled (entry ∷ entries) none =
      let parts = or_parts (is_settle entry.event) (settles entries) none in
      let here = by_event entry.event parts.0 in
      let later = none-settled entries parts.1 in
      omega (arith, here, later)
    where
      by_event : (event : Event) → is_settle event ≡ false
          → weigh (event_weight f) (acts_before event entry.acts) ≡ 0
      by_event (events.Settle table) is = absurd cc
      by_event event is = refl

  -- The plan's lines and their end come of no wish.
  plan-weight : (seed : List ℕ) (lines : List PlanLine)
      → weigh (whole_weight f) (map (plain_entry opener seed) (map events.Plan lines ++ events.Go ∷ [])) ≡ 0
  plan-weight seed [] = refl
  plan-weight seed (line ∷ lines) = let later = plan-weight seed lines in omega (arith, later)

  -- The events of a journal weigh what its entries weigh with the acts that they settle.
  expand-weight : (journal : List JournalEntry)
      → weigh (event_weight f) (expand journal) ≡ weigh (whole_weight f) journal
  expand-weight journal =
      weigh-flat (event_weight f) events_of journal ∙ (λ i. weigh (λ (entry : JournalEntry). one entry i) journal)
    where
      one : (entry : JournalEntry) → weigh (event_weight f) (events_of entry) ≡ whole_weight f entry
      one entry =
          let sum = weigh-append (event_weight f) (acts_before entry.event entry.acts) (entry.event ∷ []) in
          omega (arith, sum)

  -- A journal that was opened with a plan weighs no more than what its callers brought.
  callers-weight : (seed : List ℕ) (plan : PlanTerms) (journal added : List JournalEntry) (numbers : List ℕ)
      → journal ≡ opening seed plan ++ added
      → AllByRecursion (λ (entry : JournalEntry). is_among numbers entry.caller ≡ true) added
      → weigh (whole_weight f) journal
      ≤ weigh (λ (k : ℕ). weigh (whole_weight f) (entries_by journal_caller k journal)) numbers
  callers-weight seed plan journal added numbers is all =
      let opened = plan-weight seed (lines_of_plan plan) in
      let sum = weigh-append (whole_weight f) (opening seed plan) added in
      let same : weigh (whole_weight f) journal ≡ weigh (whole_weight f) (opening seed plan ++ added) =
      ap (weigh (whole_weight f)) is in
      let within = weigh-callers journal_caller (whole_weight f) numbers added all in
      let less = weigh-le (λ (k : ℕ). weigh (whole_weight f) (entries_by journal_caller k added))
      (λ (k : ℕ). weigh (whole_weight f) (entries_by journal_caller k journal)) each numbers in
      omega (arith, opened, sum, same, within, less)
    where
      each : (k : ℕ) → weigh (whole_weight f) (entries_by journal_caller k added)
          ≤ weigh (whole_weight f) (entries_by journal_caller k journal)
      each k =
          let parts : weigh (whole_weight f) (entries_by journal_caller k journal)
          ≡ weigh (whole_weight f)
          (entries_by journal_caller k (opening seed plan) ++ entries_by journal_caller k added) =
          ap (λ (l : List JournalEntry). weigh (whole_weight f) (entries_by journal_caller k l)) is
          ∙ ap (weigh (whole_weight f))
          (filter-append (λ (entry : JournalEntry). journal_caller entry == k) (opening seed plan) added) in
          let sum = weigh-append (whole_weight f) (entries_by journal_caller k (opening seed plan))
          (entries_by journal_caller k added) in
          omega (arith, parts, sum)

  module _ (journal : List JournalEntry) (histories : ℕ → List TableEntry) where
    -- What a desk brought is what its passes made.
    pub record IsBriefOf (desk : DeskBrief) : Type 0 where
      pub orders : entries_by journal_caller desk.book journal ≡ desk.brought.orders
      pub none_settled : settles desk.brought.orders ≡ false

    -- What a worker brought weighs no more than the history of its table, of which the worker made no act, and the
    -- desks the others.
    pub record IsTableOf (desks : List DeskBrief) (work : WorkBrief) : Type 0 where
      pub within : weigh (whole_weight f) (entries_by journal_caller work.book journal)
          ≤ weigh (table_weight f work.table) (histories work.table)
      pub callers : AllByRecursion (λ (entry : TableEntry).
          is_among (map (λ (desk : DeskBrief). desk.tables work.table) desks ++ 0 ∷ []) (table_caller entry) ≡ true)
          (histories work.table)
      pub none_own : weigh (table_weight f work.table) (entries_by table_caller 0 (histories work.table)) ≡ 0
      pub acts : AllByRecursion (λ (desk : DeskBrief).
          entries_by table_caller (desk.tables work.table) (histories work.table)
          ≡ acted_at (desk.tables work.table) work.table desk.brought.acts) desks

    -- what the acts weigh that a desk brought at a table
    abbrev at_table : WorkBrief → DeskBrief → ℕ
    at_table work desk =
        weigh (λ (asked : Asked). asked_weight f asked * one_if (asked.table == work.table)) desk.brought.acts

    desks-at : (work : WorkBrief) (desks : List DeskBrief)
        → AllByRecursion (λ (desk : DeskBrief).
        entries_by table_caller (desk.tables work.table) (histories work.table)
        ≡ acted_at (desk.tables work.table) work.table desk.brought.acts) desks
        → weigh (λ (n : ℕ). weigh (table_weight f work.table) (entries_by table_caller n (histories work.table)))
        (map (λ (desk : DeskBrief). desk.tables work.table) desks)
        ≡ weigh (at_table work) desks
    desks-at work [] acts = refl
    desks-at work (desk ∷ desks) acts =
        let here : weigh (table_weight f work.table)
        (entries_by table_caller (desk.tables work.table) (histories work.table)) ≡ at_table work desk =
        ap (weigh (table_weight f work.table)) acts.0
        ∙ acted-weight (desk.tables work.table) work.table desk.brought.acts in
        let later = desks-at work desks acts.1 in
        omega (arith, here, later)

    work-within : (desks : List DeskBrief) (work : WorkBrief) → IsTableOf desks work
        → weigh (whole_weight f) (entries_by journal_caller work.book journal) ≤ weigh (at_table work) desks
    work-within desks work its =
        let numbers = map (λ (desk : DeskBrief). desk.tables work.table) desks in
        let all = weigh-callers table_caller (table_weight f work.table) (numbers ++ 0 ∷ []) (histories work.table)
        its.callers in
        let sum = weigh-append
        (λ (n : ℕ). weigh (table_weight f work.table) (entries_by table_caller n (histories work.table))) numbers
        (0 ∷ []) in
        let parts = desks-at work desks its.acts in
        let none = its.none_own in
        let within = its.within in
        omega (arith, all, sum, parts, none, within)

    works-within : (desks : List DeskBrief) (works : List WorkBrief) → AllByRecursion (IsTableOf desks) works
        → weigh (λ (k : ℕ). weigh (whole_weight f) (entries_by journal_caller k journal))
        (map (λ (work : WorkBrief). work.book) works)
        ≤ weigh (λ (work : WorkBrief). weigh (at_table work) desks) works
    works-within desks [] all = omega arith
    works-within desks (work ∷ works) all =
        let here = work-within desks work all.0 in
        let later = works-within desks works all.1 in
        omega (arith, here, later)

    desks-within : (desks : List DeskBrief) → AllByRecursion IsBriefOf desks
        → weigh (λ (k : ℕ). weigh (whole_weight f) (entries_by journal_caller k journal))
        (map (λ (desk : DeskBrief). desk.book) desks)
        ≡ weigh (λ (desk : DeskBrief). weigh (entry_weight f) desk.brought.orders) desks
    desks-within [] all = refl
    desks-within (desk ∷ desks) all =
        let orders = desk.brought.orders in
        let here : weigh (whole_weight f) (entries_by journal_caller desk.book journal)
        ≡ weigh (whole_weight f) orders =
        ap (weigh (whole_weight f)) all.0.orders in
        let sum = weigh-both (settle_weight f) (entry_weight f) orders in
        let none = none-settled orders all.0.none_settled in
        let later = desks-within desks all.1 in
        omega (arith, here, sum, none, later)

    -- Each act stands at one table.
    one-table : (least : ℕ) (works : List WorkBrief) → AreRising least (map (λ (work : WorkBrief). work.table) works)
        → (desk : DeskBrief)
        → weigh (λ (work : WorkBrief). at_table work desk) works ≤ weigh (asked_weight f) desk.brought.acts
    one-table least works rising desk =
        let swapped = weigh-swap (λ (work : WorkBrief) (asked : Asked).
        asked_weight f asked * one_if (asked.table == work.table)) works desk.brought.acts in
        let less = weigh-le (λ (asked : Asked).
        weigh (λ (work : WorkBrief). asked_weight f asked * one_if (asked.table == work.table)) works)
        (asked_weight f) once desk.brought.acts in
        omega (arith, swapped, less)
      where
        once : (asked : Asked)
            → weigh (λ (work : WorkBrief). asked_weight f asked * one_if (asked.table == work.table)) works
            ≤ asked_weight f asked
        once asked =
            let most = at-most-once (asked_weight f asked) asked.table least
            (map (λ (work : WorkBrief). work.table) works) rising in
            let same = weigh-map (λ (n : ℕ). asked_weight f asked * one_if (asked.table == n))
            (λ (work : WorkBrief). work.table) works in
            omega (arith, most, same)

    -- The events of a journal weigh no more than what the desks brought.
    pub journal-weight : (seed : List ℕ) (plan : PlanTerms) (added : List JournalEntry) (least : ℕ)
        (desks : List DeskBrief) (works : List WorkBrief) → journal ≡ opening seed plan ++ added
        → AllByRecursion (λ (entry : JournalEntry).
        is_among (map (λ (desk : DeskBrief). desk.book) desks ++ map (λ (work : WorkBrief). work.book) works)
        entry.caller ≡ true) added
        → AllByRecursion IsBriefOf desks → AllByRecursion (IsTableOf desks) works
        → AreRising least (map (λ (work : WorkBrief). work.table) works)
        → weigh (event_weight f) (expand journal)
        ≤ weigh (λ (desk : DeskBrief). brought_weight f desk.brought) desks
    journal-weight seed plan added least desks works is callers each_desk each_work rising =
        let Whole : ℕ → ℕ = λ (k : ℕ). weigh (whole_weight f) (entries_by journal_caller k journal) in
        let books = map (λ (desk : DeskBrief). desk.book) desks in
        let others = map (λ (work : WorkBrief). work.book) works in
        let all = expand-weight journal in
        let within = callers-weight seed plan journal added (books ++ others) is callers in
        let sum = weigh-append Whole books others in
        let orders = desks-within desks each_desk in
        let acts = works-within desks works each_work in
        let swapped = weigh-swap (λ (work : WorkBrief) (desk : DeskBrief). at_table work desk) works desks in
        let less = weigh-le (λ (desk : DeskBrief). weigh (λ (work : WorkBrief). at_table work desk) works)
        (λ (desk : DeskBrief). weigh (asked_weight f) desk.brought.acts) (one-table least works rising) desks in
        let both = weigh-both (λ (desk : DeskBrief). weigh (asked_weight f) desk.brought.acts)
        (λ (desk : DeskBrief). weigh (entry_weight f) desk.brought.orders) desks in
        omega (arith, all, within, sum, orders, acts, swapped, less, both)
