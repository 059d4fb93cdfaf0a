-- A line is handled, or an Idle.
use Rattle.std.proofs.Common.{◌≡◌, ◌⊎◌, ◌∙◌, inl, inr, refl, sym, ap, subst, ℕ, ◌+◌, Bool, List, [], ◌∷◌, ◌++◌, Option, Some, None, Result, Ok, Err, take, append-nil, arith}
use Rattle.std.specs.Prelude.{◌&&◌, not, IfSome, is_err, is_some, if◌then◌else◌}
use mathlib.Core.List.{IsPrefix}
use Rattle.floor_text.specs.declared.outside.Failed.{Failed}
use Rattle.floor_text.specs.declared.refusal.Refusal.{Refusal}
use Rattle.view_rules.specs.declared.entries.TableEntry.{TableEntry}
use Rattle.plan_files.specs.Words.{WordTerms}
use Rattle.links.specs.Telling.{Telling}
use Rattle.links.specs.Links.{Puts, with_put}
use Rattle.dock_rules.specs.Journals.{tale_of}
use Rattle.history_lock.specs.Passes.{seen}
use Rattle.history_lock.proofs.Prefixes.{prefix_trans}
use Rattle.session_lines.specs.Meanings.{meaning_of}
use Rattle.session_lines.specs.Replies.{reply_line}
use Rattle.session_lines.specs.declared.meaning.Meaning.{Meaning}
use Rattle.session_lines.specs.declared.meaning.Meaning.TheVariants as meanings
use Rattle.session_lines.specs.declared.reply.Reply.{Reply}
use Rattle.session_lines.specs.declared.request.Request.TheVariants as requests
use Rattle.session_desk.specs.declared.desk.Asked.{Asked}
use Rattle.session_desk.specs.declared.desk.Desk.{Desk}
use Rattle.session_desk.specs.declared.session.Session.{Session}
use Rattle.session_desk.specs.declared.session.SessionEnd.TheVariants as ends
use Rattle.session_desk.specs.declared.session.Step.{Step}
use Rattle.session_desk.specs.declared.session.Step.TheVariants.{Idled, Over, Replied}
use Rattle.session_desk.specs.Answers.{IsAtTable, IsReply, RanOut, StandsAtTable}
use Rattle.session_desk.specs.Asking.{HasAnswered}
use Rattle.session_desk.specs.Desks.{AreLater, Brought, HasDeskMoved, Numbers, Sights, acted_at, nothing, numbers_of, sights}
use Rattle.session_desk.specs.Exchanges.{Exchange, exchange_text, news_text}
use Rattle.session_desk.specs.Standings.{count_of, is_asked_at, is_memory, is_quit}
use Rattle.session_desk.specs.Telling.{HasToldKnown, Reach, reach_after, reach_of, watch_of}
use Rattle.session_desk.specs.Turns.{HasPut, HasSaid, took_idle, took_nothing}
use Rattle.session_desk.proofs.DeskMoves.{both-moved, later-sights, moved-alike}

-- What stands at a table's history stands there however much is seen after.
table-later : (caller table : ℕ) (refusal : List TableEntry → Option Refusal)
    (brings : List TableEntry → List Asked) (before after later : List TableEntry) (reply : Reply) (brought : Brought)
    → IsPrefix after later
    → RanOut reply brought ⊎ StandsAtTable caller table refusal brings before after reply brought
    → RanOut reply brought ⊎ StandsAtTable caller table refusal brings before later reply brought
table-later caller table refusal brings before after later reply brought longer (inl out) = inl out
table-later caller table refusal brings before after later reply brought longer (inr stands) = inr record {
  at = stands.at;
  later = stands.later;
  earlier = prefix_trans (stands.at ++ acted_at caller table brought.acts) after later stands.earlier longer;
  reply_is = stands.reply_is;
  brought_is = stands.brought_is;
}

at-later : (count : ℕ) (numbers : Numbers) (table : ℕ) (refusal : List TableEntry → Option Refusal)
    (brings : List TableEntry → List Asked) (before after later : Sights) (reply : Reply) (brought : Brought)
    → AreLater after later → IsAtTable count numbers table refusal brings before after reply brought
    → IsAtTable count numbers table refusal brings before later reply brought
at-later count numbers table refusal brings before after later reply brought longer at = record {
  missing = at.missing;
  there = λ is.
      table-later (numbers.tables table) table refusal brings (before.tables table) (after.tables table)
      (later.tables table) reply brought (longer.tables table) (at.there is);
}

-- A right reply is right however much is seen after.
reply-later : (count : ℕ) (numbers : Numbers) (before after later : Sights) (meaning : Meaning) (reply : Reply)
    (brought : Brought) → AreLater after later → IsReply count numbers before after meaning reply brought
    → IsReply count numbers before later meaning reply brought
reply-later count numbers before after later meanings.Quit reply brought longer is = is
reply-later count numbers before after later (meanings.Hello speaker) reply brought longer is = is
reply-later count numbers before after later meanings.Stranger reply brought longer is = is
reply-later count numbers before after later meanings.Nonsense reply brought longer is = is
reply-later count numbers before after later (meanings.Asks (requests.Watch table)) reply brought longer is = is
reply-later count numbers before after later (meanings.Asks (requests.Act table name act)) reply brought longer is =
    at-later count numbers table _ _ before after later reply brought longer is
reply-later count numbers before after later (meanings.Asks (requests.Time table)) reply brought longer is =
    at-later count numbers table _ _ before after later reply brought longer is
reply-later count numbers before after later (meanings.Asks (requests.Order ask)) reply brought longer (inl out) =
    inl out
reply-later count numbers before after later (meanings.Asks (requests.Order ask)) reply brought longer (inr stands) =
    inr record {
      at = stands.at;
      later = stands.later;
      earlier =
          prefix_trans (stands.at ++ brought.orders) after.journal later.journal stands.earlier longer.journal;
      reply_is = stands.reply_is;
      brought_is = stands.brought_is;
    }

-- What was put is what was said, or where the put failed a front of it.
put-said : (count : ℕ) (said : Exchange) (text : List ℕ) (put : Result (Unit {0}) Failed) (last : Option Telling)
    (t : Telling) → text ≡ exchange_text count said → Puts t text last put
    → (u : Telling) × (last ≡ Some u) × HasPut count said (is_err put) t u
put-said count said text (Ok done) last t same puts =
    (with_put t text, puts, record { put = text; is_put = same; told = refl })
put-said count said text (Err failed) last t same puts =
    let size : ℕ = puts.0 in (
      with_put t (take size text),
      puts.1,
      record { put = take size text; is_put = (size, ap (take size) same); told = refl },
    )

told-said : (count : ℕ) (said : Exchange) (text : List ℕ) (put : Result (Unit {0}) Failed)
    (first last : Option Telling) → text ≡ exchange_text count said → IfSome first (λ t. Puts t text last put)
    → IfSome first (λ t. (u : Telling) × (last ≡ Some u) × HasPut count said (is_err put) t u)
told-said count said text put None last same puts = tt
told-said count said text put (Some t) last same puts = put-said count said text put last t same puts

-- A line was handled.
module _ (words : WordTerms) (count : ℕ) (before after : Session) (mid : Desk) (middle : Reach)
    (line : Option (List ℕ)) (reply : Reply) (behind : Bool) (text : List ℕ) (put : Result (Unit {0}) Failed)
    (first last : Option Telling) (step : Step) where
  -- what the line means
  abbrev meaning : Meaning
  meaning = meaning_of words before.told.speaker line

  -- how often each table's pass was held for the line, and for the news
  abbrev asked : ℕ → ℕ
  asked table = count_of (is_asked_at count table meaning && not (is_memory reply))

  abbrev watched : ℕ → ℕ
  watched table = count_of (is_some (watch_of (reach_of before.told) table))

  line-is : HasAnswered count before.desk mid meaning reply
      → HasDeskMoved (count_of (is_some before.told.speaker)) watched nothing mid after.desk
      → HasToldKnown count (sights after.desk) (reach_of before.told) middle behind [] text
      → reach_of after.told ≡ reach_after count (Some meaning) middle
      → IfSome first (λ t. Puts t (text ++ reply_line reply behind) last put)
      → step ≡ (if is_err put then Over ends.LinkWrite else if is_quit (Some meaning) then Over ends.Quit else Replied)
      → HasSaid words count (line ∷ []) took_nothing first last before after step
  line-is answered moved known changed puts step_is =
      let said : Exchange = record {
        at = sights after.desk;
        news = known.news;
        behind = behind;
        answered = Some record { line = line; reply = reply };
        brought = answered.brought;
      } in
      let whole : Brought = record {
        acts = answered.brought.acts ++ [];
        orders = answered.brought.orders ++ [];
      } in
      let same : whole ≡ answered.brought = λ i. record {
        acts = append-nil answered.brought.acts i;
        orders = append-nil answered.brought.orders i;
      } in
      let looks : ℕ = count_of (is_some before.told.speaker) in
      let none : 0 + looks ≡ looks = omega arith in
      let both = both-moved 0 looks asked watched answered.brought nothing before.desk mid after.desk answered.moved
      moved in
      let later = later-sights looks watched nothing mid after.desk moved in
      record {
        said = said;
        cut = is_err put;
        lines_are = refl;
        exchange = record {
          at = refl;
          right = reply-later count (numbers_of before.desk) (sights before.desk) (sights mid) (sights after.desk)
              meaning reply answered.brought later answered.reply_is;
          moved = moved-alike looks (λ table. asked table + watched table) (λ table. watched table + asked table)
              answered.brought before.desk after.desk (λ table. omega arith)
              (subst (λ (x : ℕ × Brought).
              HasDeskMoved x.0 (λ table. asked table + watched table) x.1 before.desk after.desk)
              (λ i. (none i, same i)) both);
          middle = middle;
          news = known.told;
          changed = changed;
        };
        told = told-said count said (text ++ reply_line reply behind) put first last
            (ap (λ (l : List ℕ). l ++ reply_line reply behind) known.text) puts;
        step_is = step_is;
      }

  pub line-said : (means : Meaning) → means ≡ meaning → HasAnswered count before.desk mid means reply
      → HasDeskMoved (count_of (is_some before.told.speaker)) watched nothing mid after.desk
      → HasToldKnown count (sights after.desk) (reach_of before.told) middle behind [] text
      → reach_of after.told ≡ reach_after count (Some means) middle
      → IfSome first (λ t. Puts t (text ++ reply_line reply behind) last put)
      → step ≡ (if is_err put then Over ends.LinkWrite else if is_quit (Some means) then Over ends.Quit else Replied)
      → HasSaid words count (line ∷ []) took_nothing first last before after step
  line-said means is answered moved known changed puts step_is =
      line-is (subst (λ (m : Meaning). HasAnswered count before.desk mid m reply) is answered) moved known
      (subst (λ (m : Meaning). reach_of after.told ≡ reach_after count (Some m) middle) is changed) puts
      (subst (λ (m : Meaning). step
      ≡ (if is_err put then Over ends.LinkWrite else if is_quit (Some m) then Over ends.Quit else Replied)) is step_is)

-- An Idle was handled.
pub idle-said : (words : WordTerms) (count : ℕ) (before after : Session) (behind stopped : Bool) (text : List ℕ)
    (put : Result (Unit {0}) Failed) (first last : Option Telling) (step : Step)
    → HasDeskMoved 1 (λ table. count_of (is_some (watch_of (reach_of before.told) table))) nothing before.desk
    after.desk → HasToldKnown count (sights after.desk) (reach_of before.told) (reach_of after.told) behind [] text
    → stopped ≡ (tale_of (seen after.desk.book)).ended → IfSome first (λ t. Puts t text last put)
    → step ≡ (if is_err put then Over ends.LinkWrite else if stopped then Over ends.Closed else Idled)
    → HasSaid words count [] took_idle first last before after step
idle-said words count before after behind stopped text put first last step moved known ended puts step_is =
    let said : Exchange = record {
      at = sights after.desk;
      news = known.news;
      behind = behind;
      answered = None;
      brought = nothing;
    } in
    record {
      said = said;
      cut = is_err put;
      lines_are = refl;
      exchange = record {
        at = refl;
        right = refl;
        moved = moved;
        middle = reach_of after.told;
        news = known.told;
        changed = refl;
      };
      told = told-said count said text put first last
          (known.text ∙ sym (append-nil (news_text count known.news))) puts;
      step_is =
          step_is
          ∙ ap (λ (s : Bool). let r : Step =
          if is_err put then Over ends.LinkWrite else if s then Over ends.Closed else Idled in r) ended;
    }
