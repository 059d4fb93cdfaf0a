-- The balances and breaks of a tournament that was held at doors are owed, but for those that were asked for by name.
use Rattle.std.proofs.Common.{◌≡◌, ◌∙◌, refl, sym, ap, subst, ◌==◌, ℕ, ◌+◌, ◌≤◌, true, List, [], ◌∷◌, ◌++◌, Option, Some, length, length-append, map, arith}
use Rattle.std.specs.Prelude.{vec_len}
use Rattle.std.specs.List.{AllByRecursion, AllZip, flat_map}
use Rattle.std.proofs.lemmas.Grind.{flat_map-append}
use Rattle.std.proofs.lemmas.List.Elements.{filter-append, recursion_from_All}
use mathlib.Core.List.{IsPrefix}
use Rattle.history_lock.specs.Entries.{entries_by}
use Rattle.history_lock.specs.Limits.{opener}
use Rattle.history_lock.specs.Passes.{own, pass_number, seen}
use Rattle.history_lock.proofs.Prefixes.{prefix_trans}
use Rattle.level_plan.specs.Plans.{PlanTerms}
use Rattle.level_plan.specs.declared.line.PlanLine.{PlanLine}
use Rattle.plan_files.specs.PlanLines.{lines_of_plan}
use Rattle.plan_files.specs.Words.{WordTerms}
use Rattle.tournament_events.specs.declared.event.Event.TheVariants as events
use Rattle.links.specs.Telling.{DoorTelling, Telling}
use Rattle.view_rules.specs.declared.entries.JournalEntry.{JournalEntry}
use Rattle.dock_rules.specs.Journals.{Tale, first_tale, journal_caller, plain_entry, tale_of, told_one}
use Rattle.book_dock.specs.Opening.{opening}
use Rattle.session_desk.specs.Desks.{Numbers, Sights, numbers_of, sights}
use Rattle.session_desk.specs.Exchanges.{Exchange}
use Rattle.session_desk.specs.Standings.{Standing, first_standing, standing_after}
use Rattle.session_desk.specs.Talks.{Served, WasServed, sights_through, sum_from}
use Rattle.session_desk.specs.Works.{AreInTurn}
use Rattle.floor_crew.specs.declared.floor.Floor.{Floor}
use Rattle.floor_crew.specs.declared.jobs.Attended.{Attended}
use Rattle.floor_crew.specs.declared.jobs.Work.{Work}
use Rattle.floor_crew.specs.Asks.{LineSaid, asks_at, asks_told}
use Rattle.floor_crew.specs.Wishes.{unowed}
use Rattle.floor_crew.specs.Working.{HasAttended, HasDone}
use Rattle.floor_crew.proofs.AskedAtDoors.{both-parts, door-asked}
use Rattle.floor_crew.proofs.AskedFor.{said_weight}
use Rattle.floor_crew.proofs.AskedJournals.{is_among}
use Rattle.floor_crew.proofs.DeskOrders.{orders_in}
use Rattle.floor_crew.proofs.HeldRuns.{runs_of}
use Rattle.floor_crew.proofs.NamedMoves.{log-named, move_wished}
use Rattle.floor_crew.proofs.UnowedMoves.{Step, bad, bad_in, both-weigh, good_in, good-longer, good_of, his_steps, log-grown, named_of, orders_of, step_caller, steps, steps-many, steps-more, unowed-weight, work-none-bad}
use Rattle.floor_crew.proofs.Weights.{weigh, weigh-append, weigh-callers, weigh-le}

-- The plan's lines and their end are no balances and no breaks.
plan-bad : (seed : List ℕ) (tale : Tale) (lines : List PlanLine)
    → weigh bad (steps tale (map (plain_entry opener seed) (map events.Plan lines ++ events.Go ∷ []))) ≡ 0
plan-bad seed tale [] = refl
plan-bad seed tale (line ∷ lines) =
    let later = plan-bad seed (told_one tale (plain_entry opener seed (events.Plan line))) lines in
    omega (arith, later)

steps-among : (numbers : List ℕ) (tale : Tale) (entries : List JournalEntry)
    → AllByRecursion (λ (entry : JournalEntry). is_among numbers entry.caller ≡ true) entries
    → AllByRecursion (λ (step : Step). is_among numbers (step_caller step) ≡ true) (steps tale entries)
steps-among numbers tale [] all = tt
steps-among numbers tale (entry ∷ entries) all = (all.0, steps-among numbers (told_one tale entry) entries all.1)

-- The balances and breaks of a journal that are not owed are those of its callers.
pub journal-unowed : (seed : List ℕ) (plan : PlanTerms) (journal added : List JournalEntry) (numbers : List ℕ)
    → journal ≡ opening seed plan ++ added
    → AllByRecursion (λ (entry : JournalEntry). is_among numbers entry.caller ≡ true) added
    → unowed journal ≤ weigh (λ (k : ℕ). bad_in k journal) numbers
journal-unowed seed plan journal added numbers is all =
    let opened = plan-bad seed first_tale (lines_of_plan plan) in
    let told = unowed-weight first_tale journal in
    let split : weigh bad (steps first_tale journal)
    ≡ weigh bad (steps first_tale (opening seed plan)) + weigh bad (steps (tale_of (opening seed plan)) added) =
    ap (λ (l : List JournalEntry). weigh bad (steps first_tale l)) is
    ∙ (ap (weigh bad) (steps-more (opening seed plan) added)
    ∙ weigh-append bad (steps first_tale (opening seed plan)) (steps (tale_of (opening seed plan)) added)) in
    let within = weigh-callers step_caller bad numbers (steps (tale_of (opening seed plan)) added)
    (steps-among numbers (tale_of (opening seed plan)) added all) in
    let less = weigh-le (λ (k : ℕ). weigh bad (his_steps k (steps (tale_of (opening seed plan)) added)))
    (λ (k : ℕ). bad_in k journal) each numbers in
    omega (arith, opened, told, split, within, less)
  where
    each : (k : ℕ) → weigh bad (his_steps k (steps (tale_of (opening seed plan)) added)) ≤ bad_in k journal
    each k =
        let parts : bad_in k journal
        ≡ weigh bad (his_steps k (steps first_tale (opening seed plan)))
        + weigh bad (his_steps k (steps (tale_of (opening seed plan)) added)) =
        ap (λ (l : List JournalEntry). weigh bad (his_steps k (steps first_tale l))) is
        ∙ (ap (λ (l : List Step). weigh bad (his_steps k l)) (steps-more (opening seed plan) added)
        ∙ (ap (weigh bad) (filter-append (λ (step : Step). step_caller step == k)
        (steps first_tale (opening seed plan)) (steps (tale_of (opening seed plan)) added))
        ∙ weigh-append bad (his_steps k (steps first_tale (opening seed plan)))
        (his_steps k (steps (tale_of (opening seed plan)) added)))) in
        omega (arith, parts)

-- how long a list is that is made of another
flat-long : {A B : Type 0} (make : A → List B) (items : List A)
    → length (flat_map make items) ≡ weigh (λ (item : A). length (make item)) items
flat-long make [] = refl
flat-long make (item ∷ items) =
    length-append (make item) (flat_map make items)
    ∙ ap (λ (n : ℕ). length (make item) + n) (flat-long make items)

module _ (words : WordTerms) (count : ℕ) where
  orders-long : (standing : Standing) (log : List Exchange)
      → length (orders_in log) ≡ sum_from words count orders_of standing log
  orders-long standing [] = refl
  orders-long standing (said ∷ log) =
      length-append said.brought.orders (orders_in log)
      ∙ ap (λ (n : ℕ). length said.brought.orders + n) (orders-long (standing_after words count standing said) log)

  -- what is counted in sessions
  abbrev sum_in : {L : Type 0} → (Standing → Exchange → ℕ) → List (Served L) → ℕ
  sum_in {L} size sessions = weigh (λ (one : Served L). sum_from words count size first_standing one.log) sessions

  all-orders : {L : Type 0} (sessions : List (Served L))
      → length (orders_in (flat_map (λ (one : Served L). one.log) sessions)) ≡ sum_in orders_of sessions
  all-orders [] = refl
  all-orders {L} (one ∷ sessions) =
      let more = flat_map (λ (one : Served L). one.log) sessions in
      ap length (flat_map-append (λ (said : Exchange). said.brought.orders) one.log more)
      ∙ (length-append (orders_in one.log) (orders_in more)
      ∙ (λ i. orders-long first_standing one.log i + all-orders sessions i))

  module _ {L : Type 0} (told_by : L → Option Telling) (faults : L → ℕ) (numbers : Numbers) (first now : Sights)
      (journal : List JournalEntry) (noted : IsPrefix now.journal journal) where
    -- Sessions in turn bring as many orders as are good or were asked for by their names, and the journal has so many
    -- good ones.
    record HasGrownBy (seen : Sights) (sessions : List (Served L)) : Type 0 where
      few : sum_in orders_of sessions ≤ sum_in (good_of words) sessions + sum_in (named_of words) sessions
      grown : good_in numbers.book seen.journal + sum_in (good_of words) sessions ≤ good_in numbers.book journal

    sessions-grown : (seen : Sights) (sessions : List (Served L)) → IsPrefix seen.journal journal
        → AllByRecursion (WasServed told_by faults words count numbers first now) sessions → AreInTurn seen sessions
        → HasGrownBy seen sessions
    sessions-grown seen [] before each turns =
        let more = good-longer numbers.book seen.journal journal before in
        record { few = omega arith; grown = omega (arith, more) }
    sessions-grown seen (one ∷ sessions) before each turns =
        let end : Sights = sights_through one.began one.log in
        let later = sessions-grown end sessions
        (prefix_trans end.journal now.journal journal each.0.earlier.journal noted) each.1 turns.1 in
        let here = log-grown words count numbers one.began first_standing [] one.log refl each.0.moments in
        let since = good-longer numbers.book seen.journal one.began.journal turns.0.journal in
        let few = later.few in
        let grown = later.grown in
        let some = here.few in
        let more = here.grown in
        record { few = omega (arith, few, some); grown = omega (arith, since, more, grown) }

    -- A caller's balances and breaks that are not owed are no more than were asked for by name.
    pub caller-unowed : (seen : Sights) (sessions : List (Served L)) → IsPrefix seen.journal journal
        → AllByRecursion (WasServed told_by faults words count numbers first now) sessions → AreInTurn seen sessions
        → entries_by journal_caller numbers.book journal
        ≡ orders_in (flat_map (λ (one : Served L). one.log) sessions)
        → bad_in numbers.book journal ≤ sum_in (named_of words) sessions
    caller-unowed seen sessions before each turns orders =
        let all = sessions-grown seen sessions before each turns in
        let few = all.few in
        let grown = all.grown in
        let both = both-weigh (his_steps numbers.book (steps first_tale journal)) in
        let many = steps-many numbers.book first_tale journal in
        let size = ap length orders in
        let sum = all-orders sessions in
        omega (arith, few, grown, both, many, size, sum)

module _ {D L : Type 0} (door_told : D → Option (DoorTelling L)) (door_faults : D → ℕ)
    (link_told : L → Option Telling) (link_faults : L → ℕ) (words : WordTerms) (floor : Floor)
    (journal : List JournalEntry) where
  abbrev Has : D → Attended D → Type 0
  Has door one = HasAttended floor door_told door_faults link_told link_faults words door one

  -- The balances and breaks of desks that are not owed were asked for by name at their doors.
  pub desks-unowed : (doors : List D) (attended : List (Attended D)) → AllZip Has doors attended
      → (said : List LineSaid) → asks_at door_told link_told words (runs_of doors attended) ≡ Some said
      → AllByRecursion (λ (one : Attended D).
      entries_by journal_caller (pass_number one.desk.book) journal ≡ own one.desk.book) attended
      → AllByRecursion (λ (one : Attended D). IsPrefix (seen one.desk.book) journal) attended
      → weigh (λ (one : Attended D). bad_in (pass_number one.desk.book) journal) attended
      ≤ weigh (said_weight move_wished) said
  desks-unowed [] [] each said is has noted = omega arith
  desks-unowed [] (one ∷ attended) each said is has noted = absurd each
  desks-unowed (door ∷ doors) [] each said is has noted = omega arith
  desks-unowed (door ∷ doors) (one ∷ attended) each said is has noted =
      let its = each.0 in
      let worked = its.worked in
      let count = vec_len floor.docks in
      let sessions = worked.sessions in
      let parts = both-parts (asks_told link_told words (door_told door) (door_told one.door))
      (asks_at door_told link_told words (runs_of doors attended)) said is in
      let later = desks-unowed doors attended each.1 parts.second parts.other_is has.1 noted.1 in
      let served = recursion_from_All (WasServed link_told link_faults words count (numbers_of its.start)
      (sights its.start) (sights one.desk)) sessions worked.each in
      let asked = door-asked words count (λ (log : List Exchange).
      sum_from words count (named_of words) first_standing log) (said_weight move_wished)
      (λ numbers start front last are going. log-named words count first_standing front last going) link_told
      link_faults (numbers_of its.start) (sights its.start) (sights one.desk) (door_told door) (door_told one.door)
      sessions parts.first served worked.door parts.one_is in
      let number : pass_number one.desk.book ≡ (numbers_of its.start).book = worked.moved.book.number in
      let orders : entries_by journal_caller (numbers_of its.start).book journal
      ≡ orders_in (flat_map (λ (s : Served L). s.log) sessions) =
      subst (λ (k : ℕ). entries_by journal_caller k journal
      ≡ orders_in (flat_map (λ (s : Served L). s.log) sessions)) number
      (has.0
      ∙ (worked.moved.book.own_after
      ∙ ap (λ (l : List JournalEntry). l ++ orders_in (flat_map (λ (s : Served L). s.log) sessions))
      its.none_at_book)) in
      let here = caller-unowed words count link_told link_faults (numbers_of its.start) (sights its.start)
      (sights one.desk) journal noted.0 (sights its.start) sessions
      (prefix_trans (seen its.start.book) (seen one.desk.book) journal worked.moved.book.longer noted.0) served
      worked.turns orders in
      let same : bad_in (pass_number one.desk.book) journal ≡ bad_in (numbers_of its.start).book journal =
      ap (λ (k : ℕ). bad_in k journal) number in
      let all : weigh (said_weight move_wished) said
      ≡ weigh (said_weight move_wished) (parts.first ++ parts.second) =
      ap (weigh (said_weight move_wished)) parts.all_is in
      let sum = weigh-append (said_weight move_wished) parts.first parts.second in
      omega (arith, later, asked, here, same, all, sum)

  -- Those of the workers are owed.
  pub works-unowed : (before after : List Work) → AllZip HasDone before after
      → AllByRecursion (λ (work : Work).
      entries_by journal_caller (pass_number work.book) journal ≡ own work.book) after
      → AllByRecursion (λ (work : Work). IsPrefix (seen work.book) journal) after
      → weigh (λ (work : Work). bad_in (pass_number work.book) journal) after ≡ 0
  works-unowed [] [] done has noted = refl
  works-unowed [] (work ∷ after) done has noted = absurd done
  works-unowed (first ∷ before) [] done has noted = refl
  works-unowed (first ∷ before) (work ∷ after) done has noted =
      let later = works-unowed before after done.1 has.1 noted.1 in
      let k = pass_number work.book in
      let same : entries_by journal_caller k (seen work.book ++ noted.0.0)
      ≡ entries_by journal_caller k (seen work.book) =
      ap (entries_by journal_caller k) noted.0.1 ∙ (has.0 ∙ sym work.book.mine) in
      let none : bad_in k journal ≡ 0 =
      ap (bad_in k) (sym noted.0.1)
      ∙ work-none-bad k work.table (seen work.book) noted.0.0 done.0.brought.work same in
      omega (arith, later, none)
