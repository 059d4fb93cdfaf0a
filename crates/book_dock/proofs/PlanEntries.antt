-- The entries of a plan's lines and of their end.
use Rattle.std.proofs.Common.{◌≡◌, ◌∙◌, refl, sym, ap, ℕ, zero, suc, ◌+◌, List, [], ◌∷◌, ◌++◌, map, arith}
use Rattle.std.specs.Prelude.{All, Option, None, count_by, is_some, replicate}
use Rattle.std.proofs.lemmas.List.{append_assoc, append-nil, map-append}
use Rattle.std.proofs.lemmas.List.Elements.{All-map}
use Rattle.rulebook.proofs.Tests.{count_by-cons}
use Rattle.level_plan.specs.Plans.{PlanTerms}
use Rattle.level_plan.specs.declared.line.PlanLine.{PlanLine}
use Rattle.plan_files.specs.PlanLines.{lines_of_plan}
use Rattle.table_engine.specs.declared.start.HandStart.{HandStart}
use Rattle.tournament_events.specs.declared.event.Event.TheVariants as events
use Rattle.tournament_rules.specs.Effects.{first_book}
use Rattle.simulation_rules.specs.Runs.{plan_events}
use Rattle.view_rules.specs.declared.entries.JournalEntry.{JournalEntry}
use Rattle.history_lock.specs.Limits.{opener}
use Rattle.dock_rules.specs.Journals.{journal_caller, plain_entry}
use Rattle.dock_rules.specs.Kept.{owed}
use Rattle.book_dock.specs.Opening.{opening}

module _ {A B : Type 0} (made : A → B) where
  -- What is made of one item more, the first of those that are left.
  pub made-next : (first now after : List B) (all left rest : List A) (item : A) → left ≡ item ∷ rest
      → after ≡ now ++ made item ∷ [] → now ++ map made left ≡ first ++ map made all
      → after ++ map made rest ≡ first ++ map made all
  made-next first now after all left rest item are pushed so_far =
      ap (λ (front : List B). front ++ map made rest) pushed
      ∙ append_assoc now (made item ∷ []) (map made rest)
      ∙ sym (ap (λ (items : List A). now ++ map made items) are) ∙ so_far

  -- What is made of all, once none is left.
  pub made-all : (first now : List B) (all left : List A) → left ≡ []
      → now ++ map made left ≡ first ++ map made all → now ≡ first ++ map made all
  made-all first now all left none so_far =
      sym (append-nil now) ∙ sym (ap (λ (items : List A). now ++ map made items) none) ∙ so_far

lines-made : (seed : List ℕ) (lines : List PlanLine)
    → map (plain_entry opener seed) (map events.Plan lines)
    ≡ map (λ line. plain_entry opener seed (events.Plan line)) lines
lines-made seed [] = refl
lines-made seed (line ∷ lines) =
    ap (λ (rest : List JournalEntry). plain_entry opener seed (events.Plan line) ∷ rest) (lines-made seed lines)

-- The journal of a plan is the entries of its lines, and the one of their end.
pub opening-made : (seed : List ℕ) (plan : PlanTerms)
    → map (λ line. plain_entry opener seed (events.Plan line)) (lines_of_plan plan)
    ++ plain_entry opener seed events.Go ∷ [] ≡ opening seed plan
opening-made seed plan =
    sym (map-append (plain_entry opener seed) (map events.Plan (lines_of_plan plan)) (events.Go ∷ [])
    ∙ ap (λ (front : List JournalEntry). front ++ plain_entry opener seed events.Go ∷ [])
    (lines-made seed (lines_of_plan plan)))

-- All its entries are the opener's.
pub opening-openers : (seed : List ℕ) (plan : PlanTerms)
    → All (λ entry. journal_caller entry ≡ opener) (opening seed plan)
opening-openers seed plan =
    All-map (λ (entry : JournalEntry). journal_caller entry ≡ opener) (plain_entry opener seed) (plan_events plan)
    (λ k d within. refl)

none-out : (count : ℕ) → count_by is_some (replicate {A = Option HandStart} count None) ≡ 0
none-out zero = refl
none-out (suc count) =
    let rest = none-out count in
    let more = count_by-cons is_some None (replicate {A = Option HandStart} count None) in
    omega (arith, rest, more)

-- No settle is owed at first.
pub owed-first : (plan : PlanTerms) → owed (first_book plan) ≡ 0
owed-first plan = none-out (plan.tables + 1)
