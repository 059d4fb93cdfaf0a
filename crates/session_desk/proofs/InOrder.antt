-- A client is told in order.
use Rattle.std.proofs.Common.{◌≡◌, ◌⊎◌, ◌∙◌, inl, inr, refl, sym, ap, subst, ℕ, List, [], ◌∷◌, ◌++◌, Option, Some, None, append-nil, append_assoc}
use Rattle.std.specs.List.{fold}
use Rattle.std.proofs.lemmas.List.Concat.{flat_map-cons}
use Rattle.std.proofs.lemmas.List.Sums.{fold-append}
use mathlib.Core.List.{IsPrefix}
use Rattle.plan_files.specs.Words.{WordTerms}
use Rattle.session_lines.specs.Meanings.{meaning_of}
use Rattle.session_lines.specs.declared.hello.Speaker.{Speaker}
use Rattle.session_lines.specs.declared.meaning.Meaning.{Meaning}
use Rattle.session_lines.specs.declared.meaning.Meaning.TheVariants as meanings
use Rattle.session_desk.specs.Desks.{Numbers, Sights}
use Rattle.session_desk.specs.Exchanges.{Answered, Exchange, News}
use Rattle.session_desk.specs.Standings.{Standing, first_standing, meaning_said, speaker_after, standing_after, standing_through}
use Rattle.session_desk.specs.Talks.{AreFirstLines, AreMoments, AreMomentsBehind, IsMoment, floor_in, lines_of_table, sights_through}
use Rattle.session_desk.specs.Telling.{first_teller, viewer_of}
use Rattle.session_desk.specs.Turns.{MayMean}
use Rattle.session_desk.proofs.Longer.{flat-more, sights-more, standing-more}
use Rattle.session_desk.proofs.Meant.{may-mean}

-- who speaks goes on to do so, whatever a line means
goes-on-speaking : (speaker : Speaker) (meaning : Meaning) → MayMean (Some speaker) meaning
    → speaker_after (Some meaning) (Some speaker) ≡ Some speaker
goes-on-speaking speaker meanings.Quit may = refl
goes-on-speaking speaker (meanings.Hello other) may = absurd may
goes-on-speaking speaker meanings.Stranger may = refl
goes-on-speaking speaker meanings.Nonsense may = refl
goes-on-speaking speaker (meanings.Asks request) may = refl

speaks-behind : (words : WordTerms) (speaker : Speaker) (answered : Option Answered)
    → speaker_after (meaning_said words (Some speaker) answered) (Some speaker) ≡ Some speaker
speaks-behind words speaker None = refl
speaks-behind words speaker (Some answered) =
    goes-on-speaking speaker (meaning_of words (Some speaker) answered.line)
    (may-mean words (Some speaker) answered.line)

module _ (words : WordTerms) (count : ℕ) where
  -- Who speaks goes on to do so behind an exchange, and behind several.
  speaks-on : (standing : Standing) (said : Exchange) (speaker : Speaker) → standing.speaker ≡ Some speaker
      → (standing_after words count standing said).speaker ≡ Some speaker
  speaks-on standing said speaker is =
      ap (λ (who : Option Speaker). speaker_after (meaning_said words who said.answered) who) is
      ∙ speaks-behind words speaker said.answered

  speaks-through : (standing : Standing) (log : List Exchange) (speaker : Speaker) → standing.speaker ≡ Some speaker
      → (fold (standing_after words count) standing log).speaker ≡ Some speaker
  speaks-through standing [] speaker is = is
  speaks-through standing (said ∷ log) speaker is =
      speaks-through (standing_after words count standing said) log speaker (speaks-on standing said speaker is)

  -- So nobody spoke before, where nobody speaks.
  nobody-before : (standing : Standing) (log : List Exchange) (who : Option Speaker) → standing.speaker ≡ who
      → (fold (standing_after words count) standing log).speaker ≡ None → who ≡ None
  nobody-before standing log None is none = refl
  nobody-before standing log (Some speaker) is none =
      absurd (let never = sym (speaks-through standing log speaker is) ∙ none in cc (never))

  module _ (numbers : Numbers) (start : Sights) (table : ℕ) where
    -- Nothing is told of a table before somebody speaks.
    none-of-stranger : (before log : List Exchange) → AreMomentsBehind words count numbers start before log
        → (standing_through words count (before ++ log)).speaker ≡ None → lines_of_table table log ≡ []
    none-of-stranger before [] moments none = refl
    none-of-stranger before (said ∷ log) moments none =
        let there = fold-append (standing_after words count) first_standing before (said ∷ log) in
        let standing : Standing = standing_through words count before in
        let nobody : standing.speaker ≡ None =
        nobody-before standing (said ∷ log) standing.speaker refl
        (sym (ap (λ (s : Standing). s.speaker) there) ∙ none) in
        let told : said.news.tables table ≡ [] =
        ap (λ (n : News). n.tables table) (moments.0.stranger nobody).0 in
        let others = none-of-stranger (before ++ said ∷ []) log moments.1
        (ap (λ (l : List Exchange). (standing_through words count l).speaker) (append_assoc before (said ∷ []) log)
        ∙ none) in
        flat_map-cons (λ (one : Exchange). one.news.tables table) said log
        ∙ (λ i. told i ++ others i)

  -- The last exchange, if there is one, and those before it.
  last-moment : (numbers : Numbers) (start : Sights) (before log : List Exchange)
      → AreMomentsBehind words count numbers start before log
      → (log ≡ []) ⊎ ((front : List Exchange) × (last : Exchange) × (log ≡ front ++ last ∷ [])
      × AreMomentsBehind words count numbers start before front × IsMoment words count numbers start
      (before ++ front) last)
  last-moment numbers start before [] moments = inl refl
  last-moment numbers start before (said ∷ log) moments =
      elim (last-moment numbers start (before ++ said ∷ []) log moments.1) [
        | inl none ↦
            inr (
              [],
              said,
              ap (λ (l : List Exchange). said ∷ l) none,
              tt,
              subst (λ (l : List Exchange). IsMoment words count numbers start l said) (sym
                  (append-nil before)) moments.0,
            )
        | inr more ↦
            inr (
              said ∷ more.0,
              more.1,
              ap (λ (l : List Exchange). said ∷ l) more.2,
              (moments.0, more.3),
              subst (λ (l : List Exchange). IsMoment words count numbers start l more.1)
                  (append_assoc before (said ∷ []) more.0) more.4,
            )
      ]

  module _ (numbers : Numbers) (start : Sights) where
    -- The floor's lines are told in order.
    pub floor-in-order : (log : List Exchange) → AreMoments words count numbers start log
        → IsPrefix (floor_in log) (sights_through start log).journal
    floor-in-order log moments =
        elim (last-moment numbers start [] log moments) [
          | inl none ↦
              subst (λ (l : List Exchange). IsPrefix (floor_in l) (sights_through start l).journal) (sym none)
              (start.journal, refl)
          | inr more ↦
              subst (λ (l : List Exchange). IsPrefix (floor_in l) (sights_through start l).journal) (sym more.2)
              (subst (λ (s : Sights). IsPrefix (floor_in (more.0 ++ more.1 ∷ [])) s.journal)
              (sym (sights-more start more.0 more.1)) more.4.floor)
        ]

    -- the lines of a table behind a last exchange, by who spoke before it
    table-at-last : (front : List Exchange) (last : Exchange) (table : ℕ) (who : Option Speaker)
        → (standing_through words count front).speaker ≡ who → AreMomentsBehind words count numbers start [] front
        → IsMoment words count numbers start front last
        → AreFirstLines (first_teller (viewer_of (standing_through words count (front ++ last ∷ [])).speaker) table)
        (last.at.tables table) (lines_of_table table (front ++ last ∷ []))
    table-at-last front last table None is before moment =
        let earlier = none-of-stranger numbers start table [] front before is in
        let told : last.news.tables table ≡ [] = ap (λ (n : News). n.tables table) (moment.stranger is).0 in
        record {
          front = [];
          is_front = (last.at.tables table, refl);
          lines_are =
              flat-more (λ (one : Exchange). one.news.tables table) front last
              ∙ (λ i. earlier i ++ told i);
        }
    table-at-last front last table (Some speaker) is before moment =
        let same : (standing_through words count (front ++ last ∷ [])).speaker
        ≡ (standing_through words count front).speaker =
        ap (λ (s : Standing). s.speaker) (standing-more words count front last)
        ∙ (speaks-on (standing_through words count front) last speaker is ∙ sym is) in
        subst (λ (who : Option Speaker). AreFirstLines (first_teller (viewer_of who) table) (last.at.tables table)
        (lines_of_table table (front ++ last ∷ []))) (sym same) (moment.tables table)

    -- And so are those of each table.
    pub tables-in-order : (log : List Exchange) (table : ℕ) → AreMoments words count numbers start log
        → AreFirstLines (first_teller (viewer_of (standing_through words count log).speaker) table)
        ((sights_through start log).tables table) (lines_of_table table log)
    tables-in-order log table moments =
        let P : List Exchange → Type 0 = λ (l : List Exchange).
        AreFirstLines (first_teller (viewer_of (standing_through words count l).speaker) table)
        ((sights_through start l).tables table) (lines_of_table table l) in
        elim (last-moment numbers start [] log moments) [
          | inl none ↦
              subst P (sym none) (record { front = []; is_front = (start.tables table, refl); lines_are = refl })
          | inr more ↦
              subst P (sym more.2)
              (subst (λ (s : Sights). AreFirstLines
              (first_teller (viewer_of (standing_through words count (more.0 ++ more.1 ∷ [])).speaker) table)
              (s.tables table) (lines_of_table table (more.0 ++ more.1 ∷ [])))
              (sym (sights-more start more.0 more.1))
              (table-at-last more.0 more.1 table (standing_through words count more.0).speaker refl more.3 more.4))
        ]
