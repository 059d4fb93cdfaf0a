-- What the lines of a session brought was asked for by them.
use Rattle.std.proofs.Common.{◌≡◌, ◌∙◌, refl, sym, ap, subst, ℕ, ◌+◌, ◌≤◌, Bool, true, false, List, [], ◌∷◌, ◌++◌, Option, Some, None, inl, inr, arith}
use Rattle.std.specs.Prelude.{option_map, option_to_list, unwrap_or, if◌then◌else◌, codes}
use Rattle.std.specs.Option.{option_map_or}
use Rattle.std.specs.Str.{bytes_eq}
use Rattle.std.proofs.lemmas.List.Sums.{fold-append}
use Rattle.level_plan.specs.Items.{is_between}
use Rattle.plan_files.specs.Words.{WordTerms}
use Rattle.betting_round.specs.declared.act.Act.{Act}
use Rattle.table_engine.specs.Acts.{time_act}
use Rattle.table_engine.specs.Hands.{HandTerms}
use Rattle.tournament_events.specs.declared.event.Event.{Event}
use Rattle.tournament_events.specs.declared.event.Event.TheVariants as events
use Rattle.view_rules.specs.declared.entries.JournalEntry.{JournalEntry}
use Rattle.view_rules.specs.declared.entries.TableEntry.{TableEntry}
use Rattle.dock_rules.specs.declared.asks.Ask.{Ask}
use Rattle.dock_rules.specs.declared.asks.Ask.TheVariants as asks
use Rattle.dock_rules.specs.declared.asks.AskAnswer.TheVariants as answers
use Rattle.dock_rules.specs.Added.{only_if}
use Rattle.dock_rules.specs.Journals.{Tale, act_event, book_of, entry_told, tale_of}
use Rattle.dock_rules.specs.Points.{ask_answer, event_answer, event_done, order_owed}
use Rattle.dock_rules.specs.Tables.{lying_hand}
use Rattle.floor_text.specs.declared.refusal.Refusal.TheVariants.{Stopped}
use Rattle.session_lines.specs.declared.hello.Speaker.{Speaker}
use Rattle.session_lines.specs.declared.hello.Speaker.TheVariants.{Floor, Player}
use Rattle.session_lines.specs.declared.meaning.Meaning.{Meaning}
use Rattle.session_lines.specs.declared.meaning.Meaning.TheVariants as meanings
use Rattle.session_lines.specs.declared.reply.Reply.{Reply}
use Rattle.session_lines.specs.declared.request.Request.{Request}
use Rattle.session_lines.specs.declared.request.Request.TheVariants as requests
use Rattle.session_lines.specs.Hellos.{hello_of}
use Rattle.session_lines.specs.Meanings.{meaning_of}
use Rattle.session_lines.specs.Requests.{request_of}
use Rattle.session_desk.specs.declared.desk.Asked.{Asked}
use Rattle.session_desk.specs.Answers.{IsReply, IsReplyTo, IsRightAnswer, act_asked, is_done, order_reply, times_asked}
use Rattle.session_desk.specs.Desks.{Brought, Numbers, Sights, nothing}
use Rattle.session_desk.specs.Exchanges.{Answered, Exchange, line_answered}
use Rattle.session_desk.specs.Standings.{Standing, first_standing, is_quit, meaning_said, speaker_after, standing_after, standing_through}
use Rattle.session_desk.specs.Talks.{AreGoingFrom, AreMomentsBehind, lines_in, sights_through}
use Rattle.table_worker.proofs.Owed.{IsMove, owed-move}
use Rattle.floor_crew.specs.Asks.{LineSaid, asks_from, said_by}
use Rattle.floor_crew.specs.Wishes.{Wish, wish_of, wish_said}
use Rattle.floor_crew.proofs.Weights.{weigh, weigh-append, weight_of}
use Rattle.floor_crew.proofs.Speakers.{IsOwn, own-request}

is-timed : (hand : HandTerms) → (time_act hand).by_time ≡ true
unfolding time_act
is-timed hand = refl

module _ (f : Wish → ℕ) where
  -- what an event weighs by the wish that it comes of, and a line by what it asks for
  abbrev pub event_weight : Event → ℕ
  event_weight event = weight_of f (wish_of event)

  abbrev pub said_weight : LineSaid → ℕ
  said_weight said = weight_of f (wish_said said)

  -- what acts and orders weigh that were brought
  abbrev pub asked_weight : Asked → ℕ
  asked_weight asked = event_weight (act_event asked.table asked.act)

  abbrev pub entry_weight : JournalEntry → ℕ
  entry_weight entry = event_weight entry.event

  abbrev pub brought_weight : Brought → ℕ
  brought_weight brought = weigh asked_weight brought.acts + weigh entry_weight brought.orders

  abbrev wished : Speaker → Request → ℕ
  wished who request = f (record { who = who; what = request })

  none-brought : (brought : Brought) → brought ≡ nothing → brought_weight brought ≡ 0
  none-brought brought is = ap brought_weight is

  -- A called time comes of the floor's wish.
  time-weight : (table : ℕ) (found : Option HandTerms)
      → weigh asked_weight (option_to_list (option_map (λ (hand : HandTerms).
      record { who = None; table = table; act = time_act hand }) found)) ≤ wished Floor (requests.Time table)
  time-weight table None = omega arith
  time-weight table (Some hand) =
      let timed : (time_act hand).by_time ≡ true = is-timed hand in
      let same : asked_weight (record { who = None; table = table; act = time_act hand })
      ≡ wished Floor (requests.Time table) =
      ap (λ (so : Bool). event_weight (if so then events.Time table
      else events.Act table (time_act hand).name (time_act hand).act)) timed in
      omega (arith, same)

  move-weight : (event : Event) → IsMove event → event_weight event ≡ 0
  move-weight (events.Balance from to) is = refl
  move-weight (events.Break table seats names) is = refl
  move-weight event is = absurd is

  -- An order that was carried out comes of the floor's wish, or is a balance or a break.
  order-weight : (tale : Tale) (ask : Ask) → is_done (order_reply (ask_answer tale ask)) ≡ true
      → event_weight (event_done tale ask) ≤ wished Floor (requests.Order ask)
  order-weight tale (asks.Enter name table seat) done = omega arith
  order-weight tale (asks.Reenter name table seat) done = omega arith
  order-weight tale (asks.Balance from to) done = omega arith
  order-weight tale (asks.Break table) done = omega arith
  order-weight tale asks.Level done = omega arith
  order-weight tale (asks.Race table) done = omega arith
  order-weight tale (asks.Hands on) done = omega arith
  order-weight tale asks.Round done = omega arith
  order-weight tale asks.Stop done = omega arith
  order-weight tale asks.NextOrder done = by_stop (book_of tale).stopped done
    where
      by_order : (found : Option Event) → order_owed tale ≡ found
          → is_done (order_reply (event_answer tale found)) ≡ true
          → event_weight (unwrap_or found events.Stop) ≤ wished Floor (requests.Order asks.NextOrder)
      by_order None owed done = absurd cc
      by_order (Some order) owed done =
          let none = move-weight order (owed-move tale order owed) in omega (arith, none)

      by_stop : (stopped : Bool)
          → is_done (order_reply (if stopped then answers.No Stopped else event_answer tale (order_owed tale))) ≡ true
          → event_weight (unwrap_or (order_owed tale) events.Stop) ≤ wished Floor (requests.Order asks.NextOrder)
      by_stop true done = absurd cc
      by_stop false done = by_order (order_owed tale) refl done

  only-weight : (done : Bool) (entry : JournalEntry) (most : ℕ) → (done ≡ true → entry_weight entry ≤ most)
      → weigh entry_weight (only_if done entry) ≤ most
  only-weight true entry most within = let here = within refl in omega (arith, here)
  only-weight false entry most within = omega arith

  act-weight : (done : Bool) (table : ℕ) (name : List ℕ) (act : Act)
      → weigh asked_weight (if done then act_asked table name act ∷ [] else [])
      ≤ wished (Player name) (requests.Act table name act)
  act-weight true table name act = omega arith
  act-weight false table name act = omega arith

  times-weight : (done : Bool) (table : ℕ) (history : List TableEntry)
      → weigh asked_weight (if done then times_asked table history else []) ≤ wished Floor (requests.Time table)
  times-weight true table history = time-weight table (lying_hand history)
  times-weight false table history = omega arith

  module _ (count : ℕ) (numbers : Numbers) (before after : Sights) where
    -- What is asked for brings no more than was asked for.
    request-weight : (who : Speaker) (request : Request) (reply : Reply) (brought : Brought) → IsOwn who request
        → IsReplyTo count numbers before after request reply brought → brought_weight brought ≤ wished who request
    request-weight who (requests.Watch table) reply brought own is =
        let none = none-brought brought is.none in omega (arith, none)
    request-weight Floor (requests.Act table name act) reply brought own is = absurd own
    request-weight (Player player) (requests.Act table name act) reply brought own is =
        by_table (is_between 1 count table) refl
      where
        by_table : (there : Bool) → is_between 1 count table ≡ there
            → brought_weight brought ≤ wished (Player player) (requests.Act table name act)
        by_table false missing = let none = none-brought brought (is.missing missing).1 in omega (arith, none)
        by_table true there = elim (is.there there) [
          | inl ran_out ↦ let none = none-brought brought ran_out.none in omega (arith, none)
          | inr stands ↦
              let same : brought_weight brought
              ≡ weigh asked_weight (if is_done reply then act_asked table name act ∷ [] else []) + 0 =
              ap brought_weight stands.brought_is in
              let most = act-weight (is_done reply) table name act in
              let whose : wished (Player name) (requests.Act table name act)
              ≡ wished (Player player) (requests.Act table name act) =
              ap (λ (n : List ℕ). wished (Player n) (requests.Act table name act)) own in
              omega (arith, same, most, whose)
        ]
    request-weight (Player player) (requests.Time table) reply brought own is = absurd own
    request-weight Floor (requests.Time table) reply brought own is = by_table (is_between 1 count table) refl
      where
        by_table : (there : Bool) → is_between 1 count table ≡ there
            → brought_weight brought ≤ wished Floor (requests.Time table)
        by_table false missing = let none = none-brought brought (is.missing missing).1 in omega (arith, none)
        by_table true there = elim (is.there there) [
          | inl ran_out ↦ let none = none-brought brought ran_out.none in omega (arith, none)
          | inr stands ↦
              let same : brought_weight brought
              ≡ weigh asked_weight (if is_done reply then times_asked table stands.at else []) + 0 =
              ap brought_weight stands.brought_is in
              let most = times-weight (is_done reply) table stands.at in omega (arith, same, most)
        ]
    request-weight (Player player) (requests.Order ask) reply brought own is = absurd own
    request-weight Floor (requests.Order ask) reply brought own is = elim is [
      | inl ran_out ↦ let none = none-brought brought ran_out.none in omega (arith, none)
      | inr stands ↦
          let tale : Tale = tale_of stands.at in
          let entry : JournalEntry = entry_told tale numbers.book (event_done tale ask) [] in
          let same : brought_weight brought ≡ 0 + weigh entry_weight (only_if (is_done reply) entry) =
          ap brought_weight stands.brought_is in
          let most = only-weight (is_done reply) entry (wished Floor (requests.Order ask))
          (λ done. order-weight tale ask (sym (ap is_done stands.reply_is) ∙ done)) in
          omega (arith, same, most)
    ]

    -- Whoever ends the session brings nothing by it.
    quit-weight : (meaning : Meaning) (reply : Reply) (brought : Brought) → is_quit (Some meaning) ≡ true
        → IsReply count numbers before after meaning reply brought → brought_weight brought ≡ 0
    quit-weight meanings.Quit reply brought quits is = none-brought brought is.none
    quit-weight meaning reply brought quits is = absurd cc

    hello-weight : (quits : Bool) (found : Option Speaker) (reply : Reply) (brought : Brought)
        → IsReply count numbers before after
        (if quits then meanings.Quit else option_map_or meanings.Hello found meanings.Stranger) reply brought
        → brought_weight brought ≡ 0
    hello-weight true found reply brought is = none-brought brought is.none
    hello-weight false None reply brought is = none-brought brought is.none
    hello-weight false (Some speaker) reply brought is = none-brought brought is.none

    asks-weight : (who : Speaker) (quits : Bool) (found : Option Request) (reply : Reply) (brought : Brought)
        → ((request : Request) → found ≡ Some request → IsOwn who request)
        → IsReply count numbers before after
        (if quits then meanings.Quit else option_map_or meanings.Asks found meanings.Nonsense) reply brought
        → brought_weight brought
        ≤ weight_of f (option_map (λ (what : Request). record { who = who; what = what }) found)
    asks-weight who true found reply brought own is =
        let none = none-brought brought is.none in omega (arith, none)
    asks-weight who false None reply brought own is =
        let none = none-brought brought is.none in omega (arith, none)
    asks-weight who false (Some request) reply brought own is =
        request-weight who request reply brought (own request refl) is

    -- A line brings no more than it says that somebody asks for.
    line-weight : (words : WordTerms) (speaker : Option Speaker) (line : Option (List ℕ)) (reply : Reply)
        (brought : Brought) → IsReply count numbers before after (meaning_of words speaker line) reply brought
        → brought_weight brought ≤ weigh said_weight (said_by speaker line)
    unfolding meaning_of
    line-weight words None None reply brought is =
        let none = none-brought brought is.none in omega (arith, none)
    line-weight words None (Some line) reply brought is =
        let none = hello-weight (bytes_eq line (codes "quit")) (hello_of words line) reply brought is in
        omega (arith, none)
    line-weight words (Some who) None reply brought is =
        let none = none-brought brought is.none in omega (arith, none)
    line-weight words (Some who) (Some line) reply brought is =
        let most = asks-weight who (bytes_eq line (codes "quit")) (request_of who line) reply brought
        (λ request h. own-request who line request h) is in
        omega (arith, most)

    -- An exchange brings no more than its line says, and the lines behind it are said by whoever speaks then.
    exchange-weight : (words : WordTerms) (speaker : Option Speaker) (answered : Option Answered) (brought : Brought)
        (rest : List (Option (List ℕ)))
        → IsRightAnswer count numbers before after (meaning_said words speaker answered) answered brought
        → is_quit (meaning_said words speaker answered) ≡ false
        → brought_weight brought
        + weigh said_weight (asks_from words (speaker_after (meaning_said words speaker answered) speaker) rest)
        ≤ weigh said_weight (asks_from words speaker (line_answered answered ++ rest))
    exchange-weight words speaker None brought rest is going =
        let none = none-brought brought is in omega (arith, none)
    exchange-weight words speaker (Some answered) brought rest is going =
        let meaning = meaning_of words speaker answered.line in
        let later = asks_from words (speaker_after (Some meaning) speaker) rest in
        let same : weigh said_weight (asks_from words speaker (answered.line ∷ rest))
        ≡ weigh said_weight (said_by speaker answered.line ++ later) =
        ap (λ (quits : Bool). weigh said_weight (if quits then [] else said_by speaker answered.line ++ later)) going in
        let parts = weigh-append said_weight (said_by speaker answered.line) later in
        let most = line-weight words speaker answered.line answered.reply brought is in
        omega (arith, same, parts, most)

    -- The last exchange brings no more than its line says, if it is not the one that ends the session.
    last-weight : (words : WordTerms) (speaker : Option Speaker) (answered : Option Answered) (brought : Brought)
        → IsRightAnswer count numbers before after (meaning_said words speaker answered) answered brought
        → brought_weight brought ≤ weigh said_weight (asks_from words speaker (line_answered answered ++ []))
    last-weight words speaker None brought is = let none = none-brought brought is in omega (arith, none)
    last-weight words speaker (Some answered) brought is =
        by_end (is_quit (Some (meaning_of words speaker answered.line))) refl
      where
        by_end : (quits : Bool) → is_quit (Some (meaning_of words speaker answered.line)) ≡ quits
            → brought_weight brought ≤ weigh said_weight (asks_from words speaker (answered.line ∷ []))
        by_end true quits =
            let none = quit-weight (meaning_of words speaker answered.line) answered.reply brought quits is in
            omega (arith, none)
        by_end false going =
            let most = exchange-weight words speaker (Some answered) brought [] is going in omega (arith, most)

  -- what exchanges brought
  abbrev pub log_weight : List Exchange → ℕ
  log_weight log = weigh (λ (said : Exchange). brought_weight said.brought) log

  module _ (words : WordTerms) (count : ℕ) (numbers : Numbers) (start : Sights) where
    -- Exchanges bring no more than their lines say, where none but the last ends the session.
    pub log-asked : (standing : Standing) (before log : List Exchange) (last : Option Exchange)
        → standing ≡ standing_through words count before
        → AreMomentsBehind words count numbers start before (log ++ option_to_list last)
        → AreGoingFrom words count standing log
        → log_weight (log ++ option_to_list last)
        ≤ weigh said_weight (asks_from words standing.speaker (lines_in (log ++ option_to_list last)))
    log-asked standing before [] None same are going = omega arith
    log-asked standing before [] (Some last) same are going =
        let right = subst (λ (s : Standing). IsRightAnswer count numbers (sights_through start before) last.at
        (meaning_said words s.speaker last.answered) last.answered last.brought) (sym same) are.0.right in
        let most = last-weight count numbers (sights_through start before) last.at words standing.speaker last.answered
        last.brought right in
        omega (arith, most)
    log-asked standing before (said ∷ log) last same are going =
        let right = subst (λ (s : Standing). IsRightAnswer count numbers (sights_through start before) said.at
        (meaning_said words s.speaker said.answered) said.answered said.brought) (sym same) are.0.right in
        let next = standing_after words count standing said in
        let follows : next ≡ standing_through words count (before ++ said ∷ []) =
        ap (λ (s : Standing). standing_after words count s said) same
        ∙ sym (fold-append (standing_after words count) first_standing before (said ∷ [])) in
        let later = log-asked next (before ++ said ∷ []) log last follows are.1 going.1 in
        let most = exchange-weight count numbers (sights_through start before) said.at words standing.speaker
        said.answered said.brought (lines_in (log ++ option_to_list last)) right going.0 in
        omega (arith, later, most)
