-- Checks that are joined, and errors that are handed on.
use Rattle.std.proofs.Common.{◌≡◌, ◌∙◌, refl, sym, ap, subst, ℕ, Bool, true, false, List}
use Rattle.std.specs.Prelude.{Option, Some, None, Result, Ok, Err}
use Rattle.std.specs.Result.{IsErr, IsErrAnd, IfErr, OnOk}
use Rattle.rulebook.specs.Checks.{first_that_holds, IsChecked}
use Rattle.floor_text.specs.declared.refusal.Refusal.{Refusal}
use Rattle.table_engine.specs.declared.record.ActFault.{ActFault}
use Rattle.table_engine.specs.declared.record.ActFault.TheVariants.{No, NoMemory}
use Rattle.table_engine.specs.Acts.{IsAnswer}
use Rattle.tournament_events.specs.declared.event.Event.TheVariants.{Enter, Reenter, Stop}
use Rattle.tournament_rules.specs.Books.{BookState}
use Rattle.tournament_rules.specs.Checks.{going_checks, enter_checks, reenter_checks, book_refusal}

-- An error that is handed on is that of the checks.
pub checked_on : {A T : Type 0} (checks : List (A × Bool)) (found : A) (result : Result T A)
    → first_that_holds checks ≡ Some found → IsErr result → IsErrAnd result (λ error. error ≡ found)
    → IsChecked checks result
checked_on checks found (Ok value) holds error same = let never : false ≡ true = error in absurd cc
checked_on checks found (Err other) holds error same = holds ∙ ap Some (sym same)

-- A refusal that is handed on is the one that there is.
pub refused_on : {T : Type 0} (refusal : Option Refusal) (found : Refusal) (result : Result T Refusal) → refusal
    ≡ Some found → IsErr result → IsErrAnd result (λ error. error ≡ found)
    → IfErr result (λ error. refusal ≡ Some error)
refused_on refusal found (Ok value) is error same = let never : false ≡ true = error in absurd cc
refused_on refusal found (Err other) is error same = is ∙ ap Some (sym same)

-- Where the checks that a refusal comes from pass, there is none.
pub passed_on : {T : Type 0} (refusal : Option Refusal) (checks : List (Refusal × Bool)) (result : Result T Refusal)
    → refusal ≡ first_that_holds checks → IsChecked checks result → OnOk result (refusal ≡ None)
passed_on refusal checks (Ok value) same is = same ∙ is
passed_on refusal checks (Err found) same is = tt

-- Where one of the checks that a refusal comes from holds, it is that of the first.
pub held_on : {T : Type 0} (refusal : Option Refusal) (checks : List (Refusal × Bool)) (result : Result T Refusal)
    → refusal ≡ first_that_holds checks → IsChecked checks result → IfErr result (λ error. refusal ≡ Some error)
held_on refusal checks (Ok value) same is = tt
held_on refusal checks (Err found) same is = same ∙ is

-- A refusal that is handed on is the answer.
pub answered_no : {T : Type 0} (refusal : Option Refusal) (found : Refusal) (result : Result T ActFault) → refusal
    ≡ Some found → IsErr result → IsErrAnd result (λ fault. fault ≡ No found) → IsAnswer refusal result
answered_no refusal found (Ok value) is error same = let never : false ≡ true = error in absurd cc
answered_no refusal found (Err (No other)) is error same = is ∙ ap Some (same_refusal found other (sym same))
  where
    same_refusal : (one other : Refusal) → No one ≡ No other → one ≡ other
    same_refusal one other same = cc
answered_no refusal found (Err NoMemory) is error same = absurd cc

-- A fault that is handed on is the answer, whatever else the result may hold.
pub answered_on : {T : Type 0} (U : Type 0) (refusal : Option Refusal) (fault : ActFault)
    (result : Result T ActFault) → IsAnswer {T = U} refusal (Err fault) → IsErr result
    → IsErrAnd result (λ other. other ≡ fault) → IsAnswer refusal result
answered_on U refusal fault (Ok value) answer error same = let never : false ≡ true = error in absurd cc
answered_on U refusal fault (Err (No found)) answer error same = let P : ActFault
    → Type 0 = λ fault. IsAnswer {T = U} refusal (Err fault) in subst P (sym same) answer
answered_on U refusal fault (Err NoMemory) answer error same = let P : ActFault
    → Type 0 = λ fault. IsAnswer {T = U} refusal (Err fault) in subst P (sym same) answer

-- The refusal of an entry is that of its checks.
pub entry_refusal : (book : BookState) (name : List ℕ) (table seat : ℕ)
    → book_refusal book (Enter name table seat) ≡ first_that_holds (enter_checks book name table seat)
unfolding book_refusal
entry_refusal book name table seat = refl

-- The refusal of a re-entry is that of its checks.
pub reentry_refusal : (book : BookState) (name : List ℕ) (table seat : ℕ)
    → book_refusal book (Reenter name table seat) ≡ first_that_holds (reenter_checks book name table seat)
unfolding book_refusal
reentry_refusal book name table seat = refl

-- Want of memory that is handed on is no refusal.
pub answered_memory : {T : Type 0} (refusal : Option Refusal) (result : Result T ActFault) → refusal ≡ None
    → IsErr result → IsErrAnd result (λ fault. fault ≡ NoMemory) → IsAnswer refusal result
answered_memory refusal (Ok value) none error same = let never : false ≡ true = error in absurd cc
answered_memory refusal (Err (No found)) none error same = absurd cc
answered_memory refusal (Err NoMemory) none error same = none

-- The refusal of a stop is that of its checks.
pub stop_refusal : (book : BookState) → book_refusal book Stop ≡ first_that_holds (going_checks book)
unfolding book_refusal
stop_refusal book = refl
