-- A session so far.
use Rattle.std.proofs.Common.{◌≡◌, ◌∙◌, refl, sym, ap, subst, ℕ, ◌+◌, Bool, List, [], ◌∷◌, ◌++◌, Option, Some, None, length}
use Rattle.std.specs.Prelude.{IfSome, is_some}
use Rattle.view_rules.specs.declared.entries.JournalEntry.{JournalEntry}
use Rattle.view_rules.specs.Spelling.{ViewLine}
use Rattle.plan_files.specs.Words.{WordTerms}
use Rattle.session_lines.specs.declared.hello.Speaker.{Speaker}
use Rattle.session_lines.specs.Meanings.{meaning_of}
use Rattle.session_lines.specs.declared.meaning.Meaning.{Meaning}
use Rattle.session_desk.specs.declared.desk.Desk.{Desk}
use Rattle.session_desk.specs.declared.session.Session.{Session}
use Rattle.session_desk.specs.Desks.{AreLater, Brought, HasDeskMoved, Numbers, Sights, numbers_of, sights}
use Rattle.session_desk.specs.Exchanges.{Answered, Exchange, News}
use Rattle.session_desk.specs.Standings.{Standing, first_standing, meaning_said, standing_after, standing_through}
use Rattle.session_desk.specs.Talks.{AreMoments, book_looks_in, brought_in, floor_in, lines_of_table, sights_through, table_looks_in}
use Rattle.session_desk.specs.Telling.{AreNews, Reach, first_reach, reach_of, standing_of, watch_of}
use Rattle.session_desk.specs.Turns.{IsExchange, IsQuiet, IsRight, MayMean, book_looks, table_looks}
use Rattle.session_desk.proofs.Beginning.{none-watched}
use Rattle.session_desk.proofs.DeskMoves.{both-moved, later-sights, moved-still, numbers-kept, same-desk}
use Rattle.session_desk.proofs.Longer.{brought-more, flat-more, moments-more, sights-more, standing-more, sum-more}
use Rattle.session_desk.proofs.Meant.{may-mean, same-speaker}
use Rattle.session_desk.proofs.Moments.{is-moment}
use Rattle.session_desk.proofs.SoFar.{AreToldSoFar, changed-so-far, none-so-far, told-on}
use Rattle.session_desk.proofs.StandingOn.{standing-on, watches-count}

-- What was said since a session's start, where its desk and its client stand so: the desk has seen and done what the
-- exchanges say, each of them is right, and the client stands where they leave him, and was told what they tell.
pub record IsTalk (words : WordTerms) (count : ℕ) (start : Desk) (log : List Exchange) (desk : Desk) (told : Reach)
    : Type 0 where
  pub seen : sights_through (sights start) log ≡ sights desk
  pub moved : HasDeskMoved (book_looks_in words count log) (table_looks_in words count log) (brought_in log) start desk
  pub moments : AreMoments words count (numbers_of start) (sights start) log
  pub stands : standing_of told ≡ standing_through words count log
  pub so_far : AreToldSoFar (sights desk) told (floor_in log) (λ table. lines_of_table table log)

-- Nothing was said yet.
pub talk-none : (words : WordTerms) (count tables : ℕ) (start : Desk)
    → IsTalk words count start [] start (first_reach tables)
talk-none words count tables start = record {
  seen = refl;
  moved = moved-still (λ table. 0) start start (λ table. refl) (same-desk start);
  moments = tt;
  stands = λ i. record { speaker = None; watched = λ table. ap is_some (none-watched tables table) i };
  so_far = none-so-far (sights start) tables;
}

-- where the client is told nothing before he said hello, he watches nothing once the news are told
still-stranger : (speaker : Option Speaker) (seen : Sights) (before middle : Reach) (news : News) (behind : Bool)
    → before.speaker ≡ speaker → (before.speaker ≡ None → (table : ℕ) → watch_of before table ≡ None)
    → AreNews speaker seen before middle news behind → middle.speaker ≡ None → (table : ℕ)
    → watch_of middle table ≡ None
still-stranger None seen before middle news behind who stranger told nobody table =
    ap (λ (r : Reach). watch_of r table) told.same ∙ stranger who table
still-stranger (Some speaker) seen before middle news behind who stranger told nobody table =
    absurd (let same : middle.speaker ≡ before.speaker = told.speaker in cc)

-- what a line means may come of whoever speaks
may-said : (words : WordTerms) (speaker who : Option Speaker) (answered : Option Answered) → who ≡ speaker
    → IfSome (meaning_said words speaker answered) (MayMean who)
may-said words speaker who None same = tt
may-said words speaker who (Some answered) same =
    subst (λ (s : Option Speaker). MayMean s (meaning_of words speaker answered.line)) (sym same)
    (may-mean words speaker answered.line)

-- One exchange more.
module _ (words : WordTerms) (count : ℕ) (start : Desk) (log : List Exchange) (said : Exchange)
    (before after : Session) (talk : IsTalk words count start log before.desk (reach_of before.told))
    (one : IsExchange words count before after said) (counted : count ≡ length after.told.watches.items) where
  abbrev first : Reach
  first = reach_of before.told

  abbrev meaning : Option Meaning
  meaning = meaning_said words first.speaker said.answered

  -- what the desk has seen then
  later : AreLater (sights before.desk) (sights after.desk)
  later =
      later-sights (book_looks (standing_of first) said.answered)
      (table_looks words count (standing_of first) said.answered) said.brought before.desk after.desk one.moved

  -- what the client was told once the news were told
  so-far-then : AreToldSoFar (sights after.desk) one.middle (floor_in (log ++ said ∷ []))
      (λ table. lines_of_table table (log ++ said ∷ []))
  so-far-then =
      subst (λ (x : List JournalEntry × (ℕ → List ViewLine)). AreToldSoFar (sights after.desk) one.middle x.0 x.1)
      (λ i. (
        sym (flat-more (λ (e : Exchange). e.news.floor) log said) i,
        λ table. sym (flat-more (λ (e : Exchange). e.news.tables table) log said) i,
      ))
      (told-on first.speaker (sights before.desk) (sights after.desk) first one.middle said.news said.behind
      (floor_in log) (λ table. lines_of_table table log) later before.within talk.so_far one.news)

  -- as many tables are told of
  counted-then : count ≡ length one.middle.watches
  counted-then =
      counted
      ∙ (ap (λ (r : Reach). length r.watches) one.changed ∙ watches-count count meaning one.middle)

  -- the desk's passes did what the exchanges say
  looks-then : (table : ℕ)
      → table_looks_in words count log table + table_looks words count (standing_of first) said.answered table
      ≡ table_looks_in words count (log ++ said ∷ []) table
  looks-then table =
      ap (λ (s : Standing). table_looks_in words count log table + table_looks words count s said.answered table)
      talk.stands
      ∙ sym (sum-more words count (λ standing e. table_looks words count standing e.answered table) first_standing log
      said)

  moved-then : HasDeskMoved (book_looks_in words count (log ++ said ∷ []))
      (table_looks_in words count (log ++ said ∷ [])) (brought_in (log ++ said ∷ [])) start after.desk
  moved-then =
      let book : book_looks_in words count log + book_looks (standing_of first) said.answered
      ≡ book_looks_in words count (log ++ said ∷ []) =
      ap (λ (s : Standing). book_looks_in words count log + book_looks s said.answered) talk.stands
      ∙ sym (sum-more words count (λ standing e. book_looks standing e.answered) first_standing log said) in
      subst (λ (x : ℕ × (ℕ → ℕ) × Brought). HasDeskMoved x.0 x.1 x.2 start after.desk)
      (λ i. (book i, λ table. looks-then table i, sym (brought-more log said) i))
      (both-moved (book_looks_in words count log) (book_looks (standing_of first) said.answered)
      (table_looks_in words count log) (table_looks words count (standing_of first) said.answered) (brought_in log)
      said.brought start before.desk after.desk talk.moved one.moved)

  -- the exchange is right
  right-then : IsRight words count (numbers_of start) first.speaker (sights before.desk) (sights after.desk) said
  right-then =
      let same : numbers_of before.desk ≡ numbers_of start =
      numbers-kept (book_looks_in words count log) (table_looks_in words count log) (brought_in log) start before.desk
      talk.moved in
      subst (λ (n : Numbers). IsRight words count n first.speaker (sights before.desk) (sights after.desk) said) same
      one.right

  -- What was said since the start with it.
  pub talk-more : IsTalk words count start (log ++ said ∷ []) after.desk (reach_of after.told)
  talk-more = record {
    seen = sights-more (sights start) log said ∙ one.at;
    moved = moved-then;
    moments =
        moments-more words count (numbers_of start) (sights start) [] log said talk.moments
        (is-moment words count (numbers_of start) (sights start) (sights before.desk) (sights after.desk) log said first
        one.middle talk.seen one.at talk.stands later right-then one.news so-far-then);
    stands =
        ap standing_of one.changed
        ∙ (standing-on words count (sights after.desk) first one.middle said counted-then one.news
        ∙ (ap (λ (s : Standing). standing_after words count s said) talk.stands
        ∙ sym (standing-more words count log said)));
    so_far =
        subst (λ (r : Reach). AreToldSoFar (sights after.desk) r (floor_in (log ++ said ∷ []))
        (λ table. lines_of_table table (log ++ said ∷ []))) (sym one.changed)
        (changed-so-far count meaning (sights after.desk) one.middle (floor_in (log ++ said ∷ []))
        (λ table. lines_of_table table (log ++ said ∷ []))
        (may-said words first.speaker one.middle.speaker said.answered
        (same-speaker first.speaker (sights after.desk) first one.middle said.news said.behind one.news))
        counted-then
        (still-stranger first.speaker (sights after.desk) first one.middle said.news said.behind refl
        before.within.stranger one.news)
        so-far-then);
  }

-- Nothing was said.
pub talk-quiet : (words : WordTerms) (count : ℕ) (start : Desk) (log : List Exchange) (before after : Session)
    → IsTalk words count start log before.desk (reach_of before.told) → IsQuiet before after
    → IsTalk words count start log after.desk (reach_of after.told)
talk-quiet words count start log before after talk quiet =
    subst (λ (x : Desk × Reach). IsTalk words count start log x.0 x.1) (λ i. (sym quiet.desk i, sym quiet.told i)) talk
