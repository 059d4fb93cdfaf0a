-- A desk begins and settles no hand.
use Rattle.std.proofs.Common.{◌≡◌, ◌∙◌, refl, ap, ℕ, Bool, true, false, List, [], ◌∷◌, ◌++◌, inl, inr}
use Rattle.std.specs.Prelude.{◌||◌, Option, None, Some, unwrap_or}
use Rattle.std.specs.List.{AllByRecursion, flat_map}
use Rattle.std.proofs.lemmas.Grind.{flat_map-append}
use Rattle.std.proofs.lemmas.List.Folds.{list_any-append}
use Rattle.level_plan.specs.Items.{is_between}
use Rattle.plan_files.specs.Words.{WordTerms}
use Rattle.tournament_events.specs.declared.event.Event.{Event}
use Rattle.tournament_events.specs.declared.event.Event.TheVariants as events
use Rattle.links.specs.Telling.{Telling}
use Rattle.view_rules.specs.declared.entries.JournalEntry.{JournalEntry}
use Rattle.dock_rules.specs.Added.{only_if}
use Rattle.dock_rules.specs.Journals.{Tale, entry_told, tale_of}
use Rattle.dock_rules.specs.Points.{event_done, order_owed}
use Rattle.dock_rules.specs.declared.asks.Ask.{Ask}
use Rattle.dock_rules.specs.declared.asks.Ask.TheVariants as asks
use Rattle.session_lines.specs.declared.meaning.Meaning.{Meaning}
use Rattle.session_lines.specs.declared.meaning.Meaning.TheVariants as meanings
use Rattle.session_lines.specs.declared.reply.Reply.{Reply}
use Rattle.session_lines.specs.declared.request.Request.{Request}
use Rattle.session_lines.specs.declared.request.Request.TheVariants as requests
use Rattle.session_desk.specs.Answers.{IsReply, IsReplyTo, IsRightAnswer, is_done}
use Rattle.session_desk.specs.Desks.{Brought, Numbers, Sights}
use Rattle.session_desk.specs.Exchanges.{Answered, Exchange}
use Rattle.session_desk.specs.Standings.{meaning_said, standing_through}
use Rattle.session_desk.specs.Talks.{AreMomentsBehind, Served, WasServed, sights_through}
use Rattle.table_worker.proofs.Owed.{IsMove, owed-move}
use Rattle.floor_crew.proofs.OfHands.{has_hands, is_of_hand, settles, settles-none}

move-none : (event : Event) → IsMove event → is_of_hand event ≡ false
move-none (events.Begin table row) moves = absurd moves
move-none (events.Settle table) moves = absurd moves
move-none event moves = refl

-- What an ask comes to is none of them.
asked-none : (tale : Tale) (ask : Ask) → is_of_hand (event_done tale ask) ≡ false
asked-none tale asks.NextOrder = by_order (order_owed tale) refl
  where
    by_order : (found : Option Event) → order_owed tale ≡ found → is_of_hand (unwrap_or found events.Stop) ≡ false
    by_order None none = refl
    by_order (Some order) owed = move-none order (owed-move tale order owed)
asked-none tale ask = refl

only-none : (done : Bool) (entry : JournalEntry) → is_of_hand entry.event ≡ false → has_hands (only_if done entry) ≡ false
only-none true entry none = ap (λ (is : Bool). is || false) none
only-none false entry none = refl

module _ (count : ℕ) (numbers : Numbers) (before after : Sights) where
  nothing-none : (brought : Brought) → brought ≡ record { acts = []; orders = [] } → has_hands brought.orders ≡ false
  nothing-none brought is = ap (λ (brought : Brought). has_hands brought.orders) is

  request-none : (request : Request) (reply : Reply) (brought : Brought)
      → IsReplyTo count numbers before after request reply brought → has_hands brought.orders ≡ false
  request-none (requests.Watch table) reply brought is = nothing-none brought is.none
  request-none (requests.Act table name act) reply brought is = by_table (is_between 1 count table) refl
    where
      by_table : (there : Bool) → is_between 1 count table ≡ there → has_hands brought.orders ≡ false
      by_table false missing = nothing-none brought (is.missing missing).1
      by_table true there = elim (is.there there) [
        | inl ran_out ↦ nothing-none brought ran_out.none
        | inr stands ↦ ap (λ (brought : Brought). has_hands brought.orders) stands.brought_is
      ]
  request-none (requests.Time table) reply brought is = by_table (is_between 1 count table) refl
    where
      by_table : (there : Bool) → is_between 1 count table ≡ there → has_hands brought.orders ≡ false
      by_table false missing = nothing-none brought (is.missing missing).1
      by_table true there = elim (is.there there) [
        | inl ran_out ↦ nothing-none brought ran_out.none
        | inr stands ↦ ap (λ (brought : Brought). has_hands brought.orders) stands.brought_is
      ]
  request-none (requests.Order ask) reply brought is = elim is [
    | inl ran_out ↦ nothing-none brought ran_out.none
    | inr stands ↦
        ap (λ (brought : Brought). has_hands brought.orders) stands.brought_is
        ∙ only-none (is_done reply)
        (entry_told (tale_of stands.at) numbers.book (event_done (tale_of stands.at) ask) [])
        (asked-none (tale_of stands.at) ask)
  ]

  meaning-none : (meaning : Meaning) (reply : Reply) (brought : Brought)
      → IsReply count numbers before after meaning reply brought → has_hands brought.orders ≡ false
  meaning-none meanings.Quit reply brought is = nothing-none brought is.none
  meaning-none (meanings.Hello speaker) reply brought is = nothing-none brought is.none
  meaning-none meanings.Stranger reply brought is = nothing-none brought is.none
  meaning-none meanings.Nonsense reply brought is = nothing-none brought is.none
  meaning-none (meanings.Asks request) reply brought is = request-none request reply brought is

  answer-none : (meaning : Option Meaning) (answered : Option Answered) (brought : Brought)
      → IsRightAnswer count numbers before after meaning answered brought → has_hands brought.orders ≡ false
  answer-none None None brought is = nothing-none brought is
  answer-none None (Some answered) brought is = nothing-none brought is
  answer-none (Some meaning) None brought is = nothing-none brought is
  answer-none (Some meaning) (Some answered) brought is = meaning-none meaning answered.reply brought is

-- the entries that exchanges brought
abbrev pub orders_in : List Exchange → List JournalEntry
orders_in log = flat_map (λ (said : Exchange). said.brought.orders) log

none-append : (one other : List JournalEntry) → has_hands one ≡ false → has_hands other ≡ false
    → has_hands (one ++ other) ≡ false
none-append one other first second =
    list_any-append (λ (entry : JournalEntry). is_of_hand entry.event) one other
    ∙ (ap (λ (is : Bool). is || has_hands other) first ∙ second)

-- No exchange of a session begins or settles a hand.
session-none : (words : WordTerms) (count : ℕ) (numbers : Numbers) (start : Sights) (before log : List Exchange)
    → AreMomentsBehind words count numbers start before log → has_hands (orders_in log) ≡ false
session-none words count numbers start before [] are = refl
session-none words count numbers start before (said ∷ log) are =
    none-append said.brought.orders (orders_in log)
    (answer-none count numbers (sights_through start before) said.at
    (meaning_said words (standing_through words count before).speaker said.answered) said.answered said.brought
    are.0.right)
    (session-none words count numbers start (before ++ said ∷ []) log are.1)

orders-append : (one other : List Exchange) → has_hands (orders_in one) ≡ false → has_hands (orders_in other) ≡ false
    → has_hands (orders_in (one ++ other)) ≡ false
orders-append one other first second =
    ap has_hands (flat_map-append (λ (said : Exchange). said.brought.orders) one other)
    ∙ none-append (orders_in one) (orders_in other) first second

-- No session at a desk does.
pub desk-no_hands : {L : Type 0} (told_by : L → Option Telling) (faults : L → ℕ) (words : WordTerms) (count : ℕ)
    (numbers : Numbers) (first seen : Sights) (sessions : List (Served L))
    → AllByRecursion (WasServed told_by faults words count numbers first seen) sessions
    → has_hands (orders_in (flat_map (λ (one : Served L). one.log) sessions)) ≡ false
desk-no_hands told_by faults words count numbers first seen [] each = refl
desk-no_hands {L} told_by faults words count numbers first seen (one ∷ sessions) each =
    orders-append one.log (flat_map (λ (one : Served L). one.log) sessions)
    (session-none words count numbers one.began [] one.log each.0.moments)
    (desk-no_hands told_by faults words count numbers first seen sessions each.1)

-- So none settles one.
pub desk-none : {L : Type 0} (told_by : L → Option Telling) (faults : L → ℕ) (words : WordTerms) (count : ℕ)
    (numbers : Numbers) (first seen : Sights) (sessions : List (Served L))
    → AllByRecursion (WasServed told_by faults words count numbers first seen) sessions
    → settles (orders_in (flat_map (λ (one : Served L). one.log) sessions)) ≡ false
desk-none {L} told_by faults words count numbers first seen sessions each =
    settles-none (orders_in (flat_map (λ (one : Served L). one.log) sessions))
    (desk-no_hands told_by faults words count numbers first seen sessions each)
