-- How many balances and breaks are not the order that is owed, by who brought them.
use Rattle.std.proofs.Common.{◌≡◌, ◌∙◌, refl, sym, ap, subst, ◌==◌, ℕ, ◌+◌, ◌*◌, ◌≤◌, Bool, true, false, cond, List, [], ◌∷◌, ◌++◌, append_assoc, Option, Some, None, inl, inr, fold, length, length-append, append-nil, arith}
use Rattle.std.specs.Prelude.{◌&&◌, not, unwrap_or, if◌then◌else◌}
use Rattle.std.specs.Option.{option_map_or}
use Rattle.std.specs.Str.{bytes_eq}
use Rattle.std.proofs.lemmas.Bool.{and_from, eqb-true}
use Rattle.std.proofs.lemmas.Bool.Decides.{nat_tests}
use Rattle.std.proofs.lemmas.List.Elements.{filter-append}
use Rattle.std.proofs.lemmas.List.Sums.{fold-append}
use Rattle.std.proofs.lemmas.Slice.Eq.{bytes_eq-Decides}
use lib.Pointwise.{pointwise}
use mathlib.Core.List.{IsPrefix}
use Rattle.level_plan.specs.Items.{is_between}
use Rattle.plan_files.specs.Words.{WordTerms}
use Rattle.seat_book.specs.declared.place.Place.{Place}
use Rattle.tournament_events.specs.declared.event.Event.{Event}
use Rattle.tournament_events.specs.declared.event.Event.TheVariants as events
use Rattle.history_lock.specs.Entries.{entries_by}
use Rattle.view_rules.specs.declared.entries.JournalEntry.{JournalEntry}
use Rattle.dock_rules.specs.declared.asks.Ask.{Ask}
use Rattle.dock_rules.specs.declared.asks.Ask.TheVariants as asks
use Rattle.dock_rules.specs.declared.asks.AskAnswer.TheVariants as answers
use Rattle.dock_rules.specs.Added.{only_if}
use Rattle.dock_rules.specs.Journals.{Tale, book_of, entry_told, first_tale, journal_caller, tale_of, told_one}
use Rattle.dock_rules.specs.Points.{ask_answer, event_answer, event_done, order_owed}
use Rattle.dock_rules.proofs.JournalTales.{tale_from, tale_nil, tale_push}
use Rattle.floor_text.specs.declared.refusal.Refusal.TheVariants.{Stopped}
use Rattle.table_worker.specs.Ties.{AreWork, work_owed}
use Rattle.table_worker.proofs.Owed.{IsMove, owed-move}
use Rattle.session_lines.specs.declared.meaning.Meaning.{Meaning}
use Rattle.session_lines.specs.declared.meaning.Meaning.TheVariants as meanings
use Rattle.session_lines.specs.declared.reply.Reply.{Reply}
use Rattle.session_lines.specs.declared.request.Request.{Request}
use Rattle.session_lines.specs.declared.request.Request.TheVariants as requests
use Rattle.session_desk.specs.Answers.{IsReply, IsReplyTo, IsRightAnswer, is_done, order_reply}
use Rattle.session_desk.specs.Desks.{Brought, Numbers, Sights}
use Rattle.session_desk.specs.Exchanges.{Answered, Exchange}
use Rattle.session_desk.specs.Standings.{Standing, first_standing, meaning_said, standing_after, standing_through}
use Rattle.session_desk.specs.Talks.{AreMomentsBehind, sights_through, sum_from}
use Rattle.floor_crew.specs.Wishes.{is_move, is_unowed, same_move, same_place, unowed_from}
use Rattle.floor_crew.proofs.Weights.{by-first, one_if, weigh, weigh-append}

-- An entry of a journal, with the tale before it.
pub record Step : Type 0 where
  pub tale : Tale
  pub entry : JournalEntry

abbrev pub steps : Tale → List JournalEntry → List Step
steps tale [] = []
steps tale (entry ∷ entries) = record { tale = tale; entry = entry } ∷ steps (told_one tale entry) entries

abbrev pub step_caller : Step → ℕ
step_caller step = step.entry.caller

-- one where a step is a balance or a break that is not owed, and one where it is none such
abbrev pub bad : Step → ℕ
bad step = one_if (is_unowed step.tale step.entry.event)

abbrev pub good : Step → ℕ
good step = one_if (not (is_unowed step.tale step.entry.event))

steps-append : (tale : Tale) (front back : List JournalEntry)
    → steps tale (front ++ back) ≡ steps tale front ++ steps (fold told_one tale front) back
steps-append tale [] back = refl
steps-append tale (entry ∷ front) back =
    ap (λ (l : List Step). record { tale = tale; entry = entry } ∷ l) (steps-append (told_one tale entry) front back)

-- The steps of a journal that goes on.
pub steps-more : (front back : List JournalEntry)
    → steps first_tale (front ++ back) ≡ steps first_tale front ++ steps (tale_of front) back
steps-more front back =
    steps-append first_tale front back
    ∙ ap (λ (tale : Tale). steps first_tale front ++ steps tale back) (sym (tale_from front))

pub unowed-weight : (tale : Tale) (entries : List JournalEntry)
    → unowed_from tale entries ≡ weigh bad (steps tale entries)
unowed-weight tale [] = refl
unowed-weight tale (entry ∷ entries) =
    let later = unowed-weight (told_one tale entry) entries in
    let here = same-one (is_unowed tale entry.event) in
    omega (arith, later, here)
  where
    same-one : (so : Bool) → (if so then 1 else 0) ≡ one_if so
    same-one true = refl
    same-one false = refl

-- Each step is the one or the other.
pub both-weigh : (list : List Step) → weigh bad list + weigh good list ≡ length list
both-weigh [] = refl
both-weigh (step ∷ list) =
    let later = both-weigh list in
    let here = either-one (is_unowed step.tale step.entry.event) in
    omega (arith, later, here)
  where
    either-one : (so : Bool) → one_if so + one_if (not so) ≡ 1
    either-one true = refl
    either-one false = refl

module _ (k : ℕ) where
  -- a caller's steps
  abbrev pub his_steps : List Step → List Step
  his_steps list = entries_by step_caller k list

  -- They are as many as his entries.
  pub steps-many : (tale : Tale) (entries : List JournalEntry)
      → length (his_steps (steps tale entries)) ≡ length (entries_by journal_caller k entries)
  steps-many tale [] = refl
  steps-many tale (entry ∷ entries) = by_caller (entry.caller == k) (steps-many (told_one tale entry) entries)
    where
      by_caller : (so : Bool)
          → length (his_steps (steps (told_one tale entry) entries))
          ≡ length (entries_by journal_caller k entries)
          → length (cond so (record { tale = tale; entry = entry } ∷ his_steps (steps (told_one tale entry) entries))
          (his_steps (steps (told_one tale entry) entries)))
          ≡ length (cond so (entry ∷ entries_by journal_caller k entries) (entries_by journal_caller k entries))
      by_caller true later = omega (arith, later)
      by_caller false later = later

  -- how many of a caller's steps in a journal are owed, or no balance and no break
  abbrev pub good_in : List JournalEntry → ℕ
  good_in journal = weigh good (his_steps (steps first_tale journal))

  abbrev pub bad_in : List JournalEntry → ℕ
  bad_in journal = weigh bad (his_steps (steps first_tale journal))

  good-more : (front back : List JournalEntry)
      → good_in (front ++ back) ≡ good_in front + weigh good (his_steps (steps (tale_of front) back))
  good-more front back =
      ap (λ (l : List Step). weigh good (his_steps l)) (steps-more front back)
      ∙ (ap (weigh good)
      (filter-append (λ (step : Step). step_caller step == k) (steps first_tale front) (steps (tale_of front) back))
      ∙ weigh-append good (his_steps (steps first_tale front)) (his_steps (steps (tale_of front) back)))

  -- In a longer journal there are no fewer.
  pub good-longer : (before after : List JournalEntry) → IsPrefix before after → good_in before ≤ good_in after
  good-longer before after longer =
      let more = good-more before longer.0 in
      let same : good_in (before ++ longer.0) ≡ good_in after = ap good_in longer.1 in
      omega (arith, more, same)

  -- An entry of the caller that is owed, or no balance and no break, is one more.
  good-one : (at : List JournalEntry) (entry : JournalEntry) → entry.caller ≡ k
      → is_unowed (tale_of at) entry.event ≡ false → good_in (at ++ entry ∷ []) ≡ good_in at + 1
  good-one at entry his owed =
      let more = good-more at (entry ∷ []) in
      let first = by-first step_caller good k (record { tale = tale_of at; entry = entry }) [] in
      let here : one_if (not (is_unowed (tale_of at) entry.event)) ≡ 1 = ap (λ (so : Bool). one_if (not so)) owed in
      let so : (entry.caller == k) ≡ true = grind (arith, nat_tests) in
      let mine : one_if (entry.caller == k) ≡ 1 = ap one_if so in
      let both : one_if (not (is_unowed (tale_of at) entry.event)) * one_if (entry.caller == k) ≡ 1 * 1 =
      (λ i. here i * mine i) in
      omega (arith, more, first, both)

-- The order that is owed is the same as itself.
same-places : (places : List Place) → pointwise same_place places places ≡ true
same-places [] = refl
same-places (place ∷ places) =
    let table : (place.table == place.table) ≡ true = grind (arith, nat_tests) in
    let seat : (place.seat == place.seat) ≡ true = grind (arith, nat_tests) in
    and_from (same_place place place) (pointwise same_place places places)
    (and_from (place.table == place.table) (place.seat == place.seat) table seat) (same-places places)

same-bytes : (bytes : List ℕ) → bytes_eq bytes bytes ≡ true
same-bytes bytes = (bytes_eq-Decides bytes bytes).1 refl

same-names : (names : List (List ℕ)) → pointwise bytes_eq names names ≡ true
same-names [] = refl
same-names (name ∷ names) =
    and_from (bytes_eq name name) (pointwise bytes_eq names names) (same-bytes name) (same-names names)

same-itself : (event : Event) → IsMove event → same_move event event ≡ true
same-itself (events.Balance from to) moves =
    let one : (from == from) ≡ true = grind (arith, nat_tests) in
    let other : (to == to) ≡ true = grind (arith, nat_tests) in
    and_from (from == from) (to == to) one other
same-itself (events.Break table seats names) moves =
    let one : (table == table) ≡ true = grind (arith, nat_tests) in
    and_from (table == table) (pointwise same_place seats seats && pointwise bytes_eq names names) one
    (and_from (pointwise same_place seats seats) (pointwise bytes_eq names names) (same-places seats)
    (same-names names))
same-itself event moves = absurd moves

-- The order that is owed is owed.
pub owed-is : (tale : Tale) (order : Event) → order_owed tale ≡ Some order → is_unowed tale order ≡ false
owed-is tale order owed =
    let same : option_map_or (λ (other : Event). same_move other order) (order_owed tale) false ≡ true =
    ap (λ (found : Option Event). option_map_or (λ (other : Event). same_move other order) found false) owed
    ∙ same-itself order (owed-move tale order owed) in
    ap (λ (so : Bool). is_move order && not so) same ∙ and-false (is_move order)
  where
    and-false : (so : Bool) → (so && false) ≡ false
    and-false true = refl
    and-false false = refl

-- What the worker of a table may bring is owed, or no balance and no break.
work-good : (table : ℕ) (tale : Tale) (event : Event) → work_owed table tale event ≡ Some event
    → is_unowed tale event ≡ false
work-good table tale (events.Begin other row) owed = refl
work-good table tale (events.Settle other) owed = refl
work-good table tale event owed = owed-is tale event owed

-- The balances and breaks of the worker of a table are owed.
work-along : (k table : ℕ) (journal front entries : List JournalEntry) → AreWork k table journal
    → journal ≡ front ++ entries → weigh bad (his_steps k (steps (tale_of front) entries)) ≡ 0
work-along k table journal front [] work is = refl
work-along k table journal front (entry ∷ entries) work is =
    let later = work-along k table journal (front ++ entry ∷ []) entries work
    (is ∙ sym (append_assoc front (entry ∷ []) entries)) in
    let next : weigh bad (his_steps k (steps (told_one (tale_of front) entry) entries)) ≡ 0 =
    ap (λ (tale : Tale). weigh bad (his_steps k (steps tale entries))) (sym (tale_push front entry)) ∙ later in
    let first = by-first step_caller bad k (record { tale = tale_of front; entry = entry })
    (steps (told_one (tale_of front) entry) entries) in
    let here = by_caller (entry.caller == k) refl in
    omega (arith, next, first, here)
  where
    by_caller : (so : Bool) → (entry.caller == k) ≡ so
        → one_if (is_unowed (tale_of front) entry.event) * one_if so ≡ 0
    by_caller true at =
        let owed = work-good table (tale_of front) entry.event
        (work front entries entry is (eqb-true entry.caller k at)) in
        let none : one_if (is_unowed (tale_of front) entry.event) ≡ 0 = ap one_if owed in
        omega (arith, none)
    by_caller false at = omega arith

nothing-weighs : (g : Step → ℕ) (list : List Step) → length list ≡ 0 → weigh g list ≡ 0
nothing-weighs g [] none = refl
nothing-weighs g (step ∷ list) none = absurd (omega (arith, none))

-- So they are in a longer journal, to which he brought nothing.
pub work-none-bad : (k table : ℕ) (noted rest : List JournalEntry) → AreWork k table noted
    → entries_by journal_caller k (noted ++ rest) ≡ entries_by journal_caller k noted → bad_in k (noted ++ rest) ≡ 0
work-none-bad k table noted rest work same =
    let here = work-along k table noted [] noted work refl in
    let start : weigh bad (his_steps k (steps first_tale noted)) ≡ 0 =
    ap (λ (tale : Tale). weigh bad (his_steps k (steps tale noted))) (sym tale_nil) ∙ here in
    let split = ap (λ (l : List Step). weigh bad (his_steps k l)) (steps-more noted rest)
    ∙ (ap (weigh bad) (filter-append (λ (step : Step). step_caller step == k) (steps first_tale noted)
    (steps (tale_of noted) rest))
    ∙ weigh-append bad (his_steps k (steps first_tale noted)) (his_steps k (steps (tale_of noted) rest))) in
    let all = steps-many k first_tale (noted ++ rest) in
    let front = steps-many k first_tale noted in
    let both = ap length same in
    let parts : length (his_steps k (steps first_tale (noted ++ rest)))
    ≡ length (his_steps k (steps first_tale noted)) + length (his_steps k (steps (tale_of noted) rest)) =
    ap (λ (l : List Step). length (his_steps k l)) (steps-more noted rest)
    ∙ (ap length (filter-append (λ (step : Step). step_caller step == k) (steps first_tale noted)
    (steps (tale_of noted) rest))
    ∙ length-append (his_steps k (steps first_tale noted)) (his_steps k (steps (tale_of noted) rest))) in
    let none = nothing-weighs bad (his_steps k (steps (tale_of noted) rest)) (omega (arith, all, front, both, parts)) in
    omega (arith, start, split, none)

-- whether a line asks for a balance or a break by its name
abbrev pub is_named : Option Meaning → Bool
is_named (Some (meanings.Asks (requests.Order (asks.Balance from to)))) = true
is_named (Some (meanings.Asks (requests.Order (asks.Break table)))) = true
is_named meaning = false

-- what an exchange brought that is owed, or no balance and no break
abbrev pub good_of : WordTerms → Standing → Exchange → ℕ
good_of words standing said =
    cond (is_named (meaning_said words standing.speaker said.answered)) 0 (length said.brought.orders)

-- one where the line of an exchange asks for a balance or a break by its name
abbrev pub named_of : WordTerms → Standing → Exchange → ℕ
named_of words standing said = one_if (is_named (meaning_said words standing.speaker said.answered))

-- how many orders an exchange brought
abbrev pub orders_of : Standing → Exchange → ℕ
orders_of standing said = length said.brought.orders

-- The event of an order is owed, or no balance and no break, where it was not asked for by its name.
asked-good : (tale : Tale) (ask : Ask) → is_named (Some (meanings.Asks (requests.Order ask))) ≡ false
    → is_done (order_reply (ask_answer tale ask)) ≡ true → is_unowed tale (event_done tale ask) ≡ false
asked-good tale (asks.Enter name table seat) named done = refl
asked-good tale (asks.Reenter name table seat) named done = refl
asked-good tale (asks.Balance from to) named done = absurd cc
asked-good tale (asks.Break table) named done = absurd cc
asked-good tale asks.Level named done = refl
asked-good tale (asks.Race table) named done = refl
asked-good tale (asks.Hands on) named done = refl
asked-good tale asks.Round named done = refl
asked-good tale asks.Stop named done = refl
asked-good tale asks.NextOrder named done = by_stop (book_of tale).stopped done
  where
    by_order : (found : Option Event) → order_owed tale ≡ found
        → is_done (order_reply (event_answer tale found)) ≡ true
        → is_unowed tale (unwrap_or found events.Stop) ≡ false
    by_order None owed done = absurd cc
    by_order (Some order) owed done = owed-is tale order owed

    by_stop : (stopped : Bool)
        → is_done (order_reply (if stopped then answers.No Stopped else event_answer tale (order_owed tale))) ≡ true
        → is_unowed tale (unwrap_or (order_owed tale) events.Stop) ≡ false
    by_stop true done = absurd cc
    by_stop false done = by_order (order_owed tale) refl done

module _ (count : ℕ) (numbers : Numbers) (before after : Sights) where
  -- What an exchange brings: one order at most; and where it was not asked for by its name the journal has one more
  -- that is owed, or no balance and no break.
  pub record IsGrown (named : Bool) (brought : Brought) : Type 0 where
    pub few : length brought.orders ≤ 1
    pub grown : good_in numbers.book before.journal + cond named 0 (length brought.orders)
        ≤ good_in numbers.book after.journal

  none-grown : (named : Bool) (brought : Brought) → IsPrefix before.journal after.journal → brought.orders ≡ []
      → IsGrown named brought
  none-grown named brought longer none =
      let more = good-longer numbers.book before.journal after.journal longer in
      let size : length brought.orders ≡ 0 = ap length none in
      record { few = omega (arith, size); grown = by_name named (omega (arith, more, size)) (omega (arith, more)) }
    where
      by_name : (named : Bool)
          → good_in numbers.book before.journal + length brought.orders ≤ good_in numbers.book after.journal
          → good_in numbers.book before.journal + 0 ≤ good_in numbers.book after.journal
          → good_in numbers.book before.journal + cond named 0 (length brought.orders)
          ≤ good_in numbers.book after.journal
      by_name true one other = other
      by_name false one other = one

  order-grown : (ask : Ask) (reply : Reply) (brought : Brought) → IsPrefix before.journal after.journal
      → IsReplyTo count numbers before after (requests.Order ask) reply brought
      → IsGrown (is_named (Some (meanings.Asks (requests.Order ask)))) brought
  order-grown ask reply brought longer is = elim is [
    | inl ran_out ↦
        none-grown (is_named (Some (meanings.Asks (requests.Order ask)))) brought longer
        (ap (λ (b : Brought). b.orders) ran_out.none)
    | inr stands ↦
        let tale : Tale = tale_of stands.at in
        let entry : JournalEntry = entry_told tale numbers.book (event_done tale ask) [] in
        let orders : brought.orders ≡ only_if (is_done reply) entry =
        ap (λ (b : Brought). b.orders) stands.brought_is in
        by_done (is_done reply) refl stands.at entry orders stands.later stands.earlier refl
        (λ named done. asked-good tale ask named (sym (ap is_done stands.reply_is) ∙ done))
  ]
    where
      named : Bool
      named = is_named (Some (meanings.Asks (requests.Order ask)))

      by_done : (done : Bool) → is_done reply ≡ done → (at : List JournalEntry) (entry : JournalEntry)
          → brought.orders ≡ only_if done entry → IsPrefix before.journal at
          → IsPrefix (at ++ brought.orders) after.journal → entry.caller ≡ numbers.book
          → (is_named (Some (meanings.Asks (requests.Order ask))) ≡ false → is_done reply ≡ true
          → is_unowed (tale_of at) entry.event ≡ false)
          → IsGrown (is_named (Some (meanings.Asks (requests.Order ask)))) brought
      by_done false is at entry orders later earlier his owed =
          none-grown (is_named (Some (meanings.Asks (requests.Order ask)))) brought longer orders
      by_done true is at entry orders later earlier his owed =
          let size : length brought.orders ≡ 1 = ap length orders in
          record {
            few = omega (arith, size);
            grown = by_name (is_named (Some (meanings.Asks (requests.Order ask)))) refl size;
          }
        where
          by_name : (so : Bool) → is_named (Some (meanings.Asks (requests.Order ask))) ≡ so
              → length brought.orders ≡ 1
              → good_in numbers.book before.journal + cond so 0 (length brought.orders)
              ≤ good_in numbers.book after.journal
          by_name true named size =
              let more = good-longer numbers.book before.journal after.journal longer in omega (arith, more)
          by_name false named size =
              let first = good-longer numbers.book before.journal at later in
              let one = good-one numbers.book at entry his (owed named is) in
              let same : good_in numbers.book (at ++ brought.orders) ≡ good_in numbers.book (at ++ entry ∷ []) =
              ap (λ (l : List JournalEntry). good_in numbers.book (at ++ l)) orders in
              let last = good-longer numbers.book (at ++ brought.orders) after.journal earlier in
              omega (arith, size, first, one, same, last)

  request-grown : (request : Request) (reply : Reply) (brought : Brought) → IsPrefix before.journal after.journal
      → IsReplyTo count numbers before after request reply brought
      → IsGrown (is_named (Some (meanings.Asks request))) brought
  request-grown (requests.Watch table) reply brought longer is =
      none-grown false brought longer (ap (λ (b : Brought). b.orders) is.none)
  request-grown (requests.Act table name act) reply brought longer is = by_table (is_between 1 count table) refl
    where
      by_table : (there : Bool) → is_between 1 count table ≡ there → IsGrown false brought
      by_table false missing =
          none-grown false brought longer (ap (λ (b : Brought). b.orders) (is.missing missing).1)
      by_table true there = elim (is.there there) [
        | inl ran_out ↦ none-grown false brought longer (ap (λ (b : Brought). b.orders) ran_out.none)
        | inr stands ↦ none-grown false brought longer (ap (λ (b : Brought). b.orders) stands.brought_is)
      ]
  request-grown (requests.Time table) reply brought longer is = by_table (is_between 1 count table) refl
    where
      by_table : (there : Bool) → is_between 1 count table ≡ there → IsGrown false brought
      by_table false missing =
          none-grown false brought longer (ap (λ (b : Brought). b.orders) (is.missing missing).1)
      by_table true there = elim (is.there there) [
        | inl ran_out ↦ none-grown false brought longer (ap (λ (b : Brought). b.orders) ran_out.none)
        | inr stands ↦ none-grown false brought longer (ap (λ (b : Brought). b.orders) stands.brought_is)
      ]
  request-grown (requests.Order ask) reply brought longer is = order-grown ask reply brought longer is

  meaning-grown : (meaning : Meaning) (reply : Reply) (brought : Brought) → IsPrefix before.journal after.journal
      → IsReply count numbers before after meaning reply brought → IsGrown (is_named (Some meaning)) brought
  meaning-grown meanings.Quit reply brought longer is =
      none-grown false brought longer (ap (λ (b : Brought). b.orders) is.none)
  meaning-grown (meanings.Hello speaker) reply brought longer is =
      none-grown false brought longer (ap (λ (b : Brought). b.orders) is.none)
  meaning-grown meanings.Stranger reply brought longer is =
      none-grown false brought longer (ap (λ (b : Brought). b.orders) is.none)
  meaning-grown meanings.Nonsense reply brought longer is =
      none-grown false brought longer (ap (λ (b : Brought). b.orders) is.none)
  meaning-grown (meanings.Asks request) reply brought longer is = request-grown request reply brought longer is

  -- So it is of each exchange.
  pub answer-grown : (meaning : Option Meaning) (answered : Option Answered) (brought : Brought)
      → IsPrefix before.journal after.journal → IsRightAnswer count numbers before after meaning answered brought
      → IsGrown (is_named meaning) brought
  answer-grown None None brought longer is =
      none-grown false brought longer (ap (λ (b : Brought). b.orders) is)
  answer-grown None (Some answered) brought longer is =
      none-grown false brought longer (ap (λ (b : Brought). b.orders) is)
  answer-grown (Some meaning) None brought longer is =
      none-grown (is_named (Some meaning)) brought longer (ap (λ (b : Brought). b.orders) is)
  answer-grown (Some meaning) (Some answered) brought longer is =
      meaning-grown meaning answered.reply brought longer is

module _ (words : WordTerms) (count : ℕ) (numbers : Numbers) (start : Sights) where
  -- What a session brought: as many orders as are good or were asked for by their names; and the journal has so many
  -- more good ones.
  pub record HasGrown (standing : Standing) (before log : List Exchange) : Type 0 where
    pub few : sum_from words count orders_of standing log
        ≤ sum_from words count (good_of words) standing log + sum_from words count (named_of words) standing log
    pub grown : good_in numbers.book (sights_through start before).journal
        + sum_from words count (good_of words) standing log
        ≤ good_in numbers.book (sights_through start (before ++ log)).journal

  pub log-grown : (standing : Standing) (before log : List Exchange) → standing ≡ standing_through words count before
      → AreMomentsBehind words count numbers start before log → HasGrown standing before log
  log-grown standing before [] same are =
      let all : good_in numbers.book (sights_through start (before ++ [])).journal
      ≡ good_in numbers.book (sights_through start before).journal =
      ap (λ (l : List Exchange). good_in numbers.book (sights_through start l).journal) (append-nil before) in
      record { few = omega arith; grown = omega (arith, all) }
  log-grown standing before (said ∷ log) same are =
      let right = subst (λ (s : Standing). IsRightAnswer count numbers (sights_through start before) said.at
      (meaning_said words s.speaker said.answered) said.answered said.brought) (sym same) are.0.right in
      let here = answer-grown count numbers (sights_through start before) said.at
      (meaning_said words standing.speaker said.answered) said.answered said.brought are.0.later.journal right in
      let next = standing_after words count standing said in
      let follows : next ≡ standing_through words count (before ++ said ∷ []) =
      ap (λ (s : Standing). standing_after words count s said) same
      ∙ sym (fold-append (standing_after words count) first_standing before (said ∷ [])) in
      let later = log-grown next (before ++ said ∷ []) log follows are.1 in
      let at : good_in numbers.book (sights_through start (before ++ said ∷ [])).journal
      ≡ good_in numbers.book said.at.journal =
      ap (λ (s : Sights). good_in numbers.book s.journal)
      (fold-append (λ (seen : Sights) (e : Exchange). e.at) start before (said ∷ [])) in
      let end : good_in numbers.book (sights_through start ((before ++ said ∷ []) ++ log)).journal
      ≡ good_in numbers.book (sights_through start (before ++ said ∷ log)).journal =
      ap (λ (l : List Exchange). good_in numbers.book (sights_through start l).journal)
      (append_assoc before (said ∷ []) log) in
      let either = few-either (is_named (meaning_said words standing.speaker said.answered))
      (length said.brought.orders) here.few in
      let first = here.grown in
      let few = later.few in
      let grown = later.grown in
      record { few = omega (arith, either, few); grown = omega (arith, first, grown, at, end) }
    where
      few-either : (named : Bool) (n : ℕ) → n ≤ 1 → n ≤ cond named 0 n + one_if named
      few-either true n few = omega (arith, few)
      few-either false n few = omega (arith, few)
