-- What out has where its text could not be written.
use Rattle.std.proofs.Common.{◌≡◌, ◌∙◌, ℕ, inl, inr, refl, ap, subst, sym, List, ◌++◌, take, Option, Some, None, length, arith}
use Rattle.std.specs.Prelude.{◌⊎◌, IfErr, IfOk, IfSome, IsErrAnd, OnOk, Result, Ok, Err}
use Rattle.std.proofs.lemmas.List.{take_all}
use Rattle.level_plan.specs.Plans.{PlanTerms}
use Rattle.plan_files.specs.Words.{WordTerms}
use Rattle.view_rules.specs.declared.entries.JournalEntry.{JournalEntry}
use Rattle.replay_rules.specs.Replay.{tournament_text}
use Rattle.dock_rules.specs.Journals.{expand}
use Rattle.command_lines.specs.declared.fault.Fault.{Fault}
use Rattle.command_lines.specs.declared.fault.Fault.TheVariants as faults
use Rattle.command_lines.specs.Endings.{IsOfWriting}
use Rattle.floor_crew.specs.Tournaments.{IsWholeJournal}
use Rattle.floor_online.specs.Served.{HasFront, HasText, IsFile, IsOfServing, MayHavePut}

-- A front of a text was put, of some size.
pub front-put : (text : List ℕ) (before after : Option (List ℕ))
    → IfSome before (λ old. (n : ℕ) × (after ≡ Some (old ++ take n text)))
    → (n : ℕ) × IfSome before (λ old. after ≡ Some (old ++ take n text))
front-put text None after put = (0, tt)
front-put text (Some old) after put = (put.0, put.1)

-- What holds of a fault holds of it where it is handed on.
pub handed-on : {A : Type 0} (P : Fault → Type 0) (result : Result A Fault) (fault : Fault)
    → IsErrAnd result (λ given. given ≡ fault) → P fault → IfErr result P
handed-on P (Ok value) fault is holds = absurd is
handed-on P (Err given) fault is holds = subst P (sym is) holds

-- And where it is handed on as a fault of a kind, it was of that kind.
pub handed-cause : {A X : Type 0} (wanted : Fault) (result : Result A Fault) (fault : Fault)
    → IsErrAnd result (λ given. given ≡ fault) → (fault ≡ wanted → X) → result ≡ Err wanted → X
handed-cause wanted (Ok value) fault is cause was = absurd is
handed-cause wanted (Err given) fault is cause was = let same : given ≡ wanted = cc in cause (sym is ∙ same)

-- Where the whole text was put, that is a front of it.
pub front-whole : (journal : List JournalEntry) (before after : Option (List ℕ)) → HasText journal before after
    → HasFront journal before after
front-whole journal None after put = tt
front-whole journal (Some text) after put =
    let whole = tournament_text (expand journal) in (
      length whole,
      put ∙ ap (λ (all : List ℕ). Some (text ++ all)) (sym (take_all (length whole) whole (omega arith))),
    )

-- A front of the text of a whole tournament's journal was put.
pub front-may : (left : Option (List ℕ)) (seed : List ℕ) (before after : Option (List ℕ)) (plan : PlanTerms)
    (words : WordTerms) (journal : List JournalEntry) → IsFile left plan words → IsWholeJournal plan seed journal
    → HasFront journal before after → MayHavePut left seed before after
front-may left seed before after plan words journal read whole front =
    let put = front-put (tournament_text (expand journal)) before after front in inr (record {
      plan = plan;
      words = words;
      read = read;
      journal = journal;
      whole = whole;
      size = put.0;
      put = put.1;
    })

-- What holds where nothing else is known of a result holds where it is Ok.
pub held-at-ok : {A E X : Type 0} (result : Result A E) → X → OnOk result X
held-at-ok (Ok value) holds = holds
held-at-ok (Err fault) holds = tt

-- What each fault of one kind is, a result's fault is where it is of that kind.
pub fault-weaker : {A E : Type 0} (result : Result A E) (P Q : E → Type 0) → ((fault : E) → P fault → Q fault)
    → IfErr result P → IfErr result Q
fault-weaker (Ok value) P Q weaker holds = tt
fault-weaker (Err fault) P Q weaker holds = weaker fault holds

-- What holds of an Ok, and what holds where it is one, are more together.
pub both-at-ok : {A E X : Type 0} (result : Result A E) (P Q : A → Type 0) → ((value : A) → P value → X → Q value)
    → IfOk result P → OnOk result X → IfOk result Q
both-at-ok (Ok value) P Q more holds there = more value holds there
both-at-ok (Err fault) P Q more holds there = tt

-- A fault of a hall is one of serving.
pub of-holding : (fault : Fault) → (fault ≡ faults.Hall) ⊎ (fault ≡ faults.NoMemory) → IsOfServing fault
of-holding fault (inl hall) = subst IsOfServing (sym hall) tt
of-holding fault (inr memory) = subst IsOfServing (sym memory) tt

-- A fault of writing is one of serving.
pub of-writing : (fault : Fault) → IsOfWriting fault → IsOfServing fault
of-writing faults.Usage is = absurd is
of-writing faults.Read is = absurd is
of-writing faults.Write is = tt
of-writing faults.NoMemory is = tt
of-writing (faults.Plan item) is = absurd is
of-writing faults.Hall is = absurd is
of-writing faults.InputTooLong is = absurd is

module _ {S : Type 0} (first now : S) where
  -- A fault of writing is one at which something may have been put.
  pub writing-untouched : (fault : Fault) → IsOfWriting fault
      → (fault ≡ faults.Write) ⊎ ((fault ≡ faults.NoMemory) ⊎ (now ≡ first))
  writing-untouched faults.Write is = inl refl
  writing-untouched faults.NoMemory is = inr (inl refl)
  writing-untouched faults.Usage is = absurd is
  writing-untouched faults.Read is = absurd is
  writing-untouched (faults.Plan item) is = absurd is
  writing-untouched faults.Hall is = absurd is
  writing-untouched faults.InputTooLong is = absurd is
