-- What was said is right, by what was said before it.
use Rattle.std.proofs.Common.{◌≡◌, ◌∙◌, sym, ap, subst, ℕ, Bool, true, false, List, [], ◌∷◌, ◌++◌, Option, Some, None, length, arith}
use Rattle.std.specs.Prelude.{is_some}
use Rattle.std.proofs.lemmas.List.{take_all}
use mathlib.Core.List.{IsPrefix}
use Rattle.view_rules.specs.declared.entries.JournalEntry.{JournalEntry}
use Rattle.view_rules.specs.Spelling.{ViewLine}
use Rattle.dock_rules.specs.Tables.{entries_lines}
use Rattle.plan_files.specs.Words.{WordTerms}
use Rattle.session_lines.specs.declared.hello.Speaker.{Speaker}
use Rattle.session_desk.specs.declared.told.Watch.{Watch}
use Rattle.session_desk.specs.Desks.{AreLater, Numbers, Sights}
use Rattle.session_desk.specs.Exchanges.{Exchange, News, no_news}
use Rattle.session_desk.specs.Standings.{Standing, standing_through}
use Rattle.session_desk.specs.Talks.{AreFirstLines, IsMoment, floor_in, lines_of_table, sights_through}
use Rattle.session_desk.specs.Telling.{AreNews, IsAllTold, IsTableTold, Reach, first_teller, standing_of, viewer_of, watch_of}
use Rattle.session_desk.specs.Turns.{IsRight}
use Rattle.session_desk.proofs.Fronts.{front-begins}
use Rattle.session_desk.proofs.Meant.{same-speaker}
use Rattle.session_desk.proofs.SoFar.{AreToldSoFar, all-lines, first-lines}
use Rattle.session_desk.proofs.StandingOn.{same-watched}

module _ (seen : Sights) (before middle : Reach) (news : News) (behind : Bool) where
  -- A stranger is told nothing.
  none-told : (speaker : Option Speaker) → AreNews speaker seen before middle news behind → speaker ≡ None
      → (news ≡ no_news) × (behind ≡ false)
  none-told None told nobody = (told.none, told.all)
  none-told (Some speaker) told nobody = absurd (cc (nobody))

  -- Nothing is told of a table that is not watched.
  none-of-table : (speaker : Option Speaker) (table : ℕ) → AreNews speaker seen before middle news behind
      → is_some (watch_of before table) ≡ false → news.tables table ≡ []
  none-of-table None table told unwatched = ap (λ (n : News). n.tables table) told.none
  none-of-table (Some speaker) table told unwatched =
      unwatched-none (watch_of before table) (watch_of middle table) (told.tables table) unwatched
    where
      unwatched-none : (one other : Option Watch) → IsTableTold (seen.tables table) one other (news.tables table)
          → is_some one ≡ false → news.tables table ≡ []
      unwatched-none None None told unwatched = told
      unwatched-none None (Some watch) told unwatched = absurd told
      unwatched-none (Some watch) other told unwatched = absurd (cc (unwatched))

  -- Whoever speaks is told all, unless some are behind.
  all-of-journal : (speaker : Option Speaker) → AreNews speaker seen before middle news behind
      → is_some speaker ≡ true → behind ≡ false → middle.journal ≡ length seen.journal
  all-of-journal None told there all = absurd (cc (there))
  all-of-journal (Some speaker) told there all = told.all_floor all

  all-of-table : (speaker : Option Speaker) (table : ℕ) → AreNews speaker seen before middle news behind
      → is_some speaker ≡ true → behind ≡ false → IsAllTold (seen.tables table) (watch_of middle table)
  all-of-table None table told there all = absurd (cc (there))
  all-of-table (Some speaker) table told there all = told.all_tables all table

-- An exchange, by the standing before it and by what was told so far with it.
pub is-moment : (words : WordTerms) (count : ℕ) (numbers : Numbers) (start old new : Sights) (log : List Exchange)
    (said : Exchange) (before middle : Reach) → sights_through start log ≡ old → said.at ≡ new
    → standing_of before ≡ standing_through words count log → AreLater old new
    → IsRight words count numbers before.speaker old new said
    → AreNews before.speaker new before middle said.news said.behind
    → AreToldSoFar new middle (floor_in (log ++ said ∷ [])) (λ table. lines_of_table table (log ++ said ∷ []))
    → IsMoment words count numbers start log said
is-moment words count numbers start old new log said before middle seen at stands later right told so_far =
    let standing : Standing = standing_through words count log in
    let who : before.speaker ≡ standing.speaker = ap (λ (s : Standing). s.speaker) stands in
    let same : middle.speaker ≡ before.speaker =
    same-speaker before.speaker new before middle said.news said.behind told in
    let watched : (table : ℕ) → is_some (watch_of before table) ≡ standing.watched table =
    λ table. ap (λ (s : Standing). s.watched table) stands in
    let lines : (table : ℕ) → List ViewLine = λ table. lines_of_table table (log ++ said ∷ []) in
    record {
      later = subst (λ (x : Sights × Sights). AreLater x.0 x.1) (λ i. (sym seen i, sym at i)) later;
      right =
          subst (λ (x : Option Speaker × Sights × Sights). IsRight words count numbers x.0 x.1 x.2 said)
          (λ i. (who i, sym seen i, sym at i)) right;
      stranger = λ nobody.
          none-told new before middle said.news said.behind before.speaker told (who ∙ nobody);
      unwatched = λ table none.
          none-of-table new before middle said.news said.behind before.speaker table told (watched table ∙ none);
      floor =
          subst (λ (x : List JournalEntry × Sights). IsPrefix x.0 x.1.journal)
          (λ i. (sym so_far.floor_is i, sym at i)) (front-begins middle.journal new.journal);
      tables = λ table.
          subst (λ (x : Option Speaker × Sights).
          AreFirstLines (first_teller (viewer_of x.0) table) (x.1.tables table) (lines table))
          (λ i. ((same ∙ who) i, sym at i))
          (first-lines (first_teller (viewer_of middle.speaker) table) (new.tables table) (watch_of middle table)
          (lines table) (so_far.tables_are table));
      all_floor = λ there none.
          let all : middle.journal ≡ length new.journal =
          all-of-journal new before middle said.news said.behind before.speaker told (ap is_some who ∙ there) none in
          so_far.floor_is
          ∙ (take_all middle.journal new.journal (omega (arith, all)) ∙ ap (λ (s : Sights). s.journal) (sym at));
      all_tables = λ there none table watches.
          all-lines (first_teller (viewer_of middle.speaker) table) (new.tables table) (watch_of middle table)
          (lines table)
          (same-watched before.speaker new before middle said.news said.behind table told ∙ (watched table ∙ watches))
          (all-of-table new before middle said.news said.behind before.speaker table told (ap is_some who ∙ there) none)
          (so_far.tables_are table)
          ∙ (λ i. entries_lines (first_teller (viewer_of ((same ∙ who) i)) table) ((sym at i).tables table));
    }
