-- A number, or the index of a name, leads back to its refusal, so two refusals share neither.
use Rattle.std.proofs.Common.{◌≡◌, ℕ, List, [], ◌∷◌, refl, ap, sym, ◌∙◌}
use Rattle.std.specs.Prelude.{cond, ◌==◌}
use Rattle.std.specs.Str.{bytes_eq}
use Rattle.floor_text.specs.declared.refusal.Refusal.{Refusal}
use Rattle.floor_text.specs.declared.refusal.Refusal.TheVariants.{Syntax, NoPlan, PlanLate, PlanWrong, Stopped, NameKnown, NameUnknown, NoTable, NoSeat, SeatTaken, NotFewest, LateClosed, Playing, NotPlaying, Lone, Halted, RaceDue, RoundDone, DeckWrong, NotDealt, NotTurn, HandOver, NotOver, CheckFacing, NothingToCall, BetFacing, NothingToRaise, TooSmall, PastStack, PastPot, NotReopened, NotUnit, NotFullest, NotShortest, EvenEnough, NotNextToBreak, NoRoom, DrawWrong, LastLevel, RoundOpen, SwitchWrong, NoRace, Over, ListFull, StillIn}
use Rattle.floor_text.specs.Refusals.{refusal_number, refusal_name}

abbrev refusals : List Refusal
refusals = Syntax ∷ NoPlan ∷ PlanLate ∷ PlanWrong ∷ Stopped ∷ NameKnown ∷ NameUnknown ∷ NoTable ∷ NoSeat ∷ SeatTaken ∷
    NotFewest ∷ LateClosed ∷ Playing ∷ NotPlaying ∷ Lone ∷ Halted ∷ RaceDue ∷ RoundDone ∷ DeckWrong ∷ NotDealt ∷ NotTurn
    ∷ HandOver ∷ NotOver ∷ CheckFacing ∷ NothingToCall ∷ BetFacing ∷ NothingToRaise ∷ TooSmall ∷ PastStack ∷ PastPot ∷
    NotReopened ∷ NotUnit ∷ NotFullest ∷ NotShortest ∷ EvenEnough ∷ NotNextToBreak ∷ NoRoom ∷ DrawWrong ∷ LastLevel ∷
    RoundOpen ∷ SwitchWrong ∷ NoRace ∷ Over ∷ ListFull ∷ StillIn ∷ []

abbrev first_with_number : ℕ → List Refusal → Refusal
first_with_number n [] = Syntax
first_with_number n (r ∷ rs) = cond (refusal_number r == n) r (first_with_number n rs)

abbrev first_with_name : List ℕ → List Refusal → Refusal
first_with_name name [] = Syntax
first_with_name name (r ∷ rs) = cond (bytes_eq (refusal_name r) name) r (first_with_name name rs)

from_number : (r : Refusal) → first_with_number (refusal_number r) refusals ≡ r
from_number Syntax = refl
from_number _ = refl

from_name : (r : Refusal) → first_with_name (refusal_name r) refusals ≡ r
from_name Syntax = refl
from_name _ = refl

pub same_number : (r s : Refusal) → refusal_number r ≡ refusal_number s → r ≡ s
same_number r s e = sym (from_number r) ∙ ap (λ n. first_with_number n refusals) e ∙ from_number s

pub same_name : (r s : Refusal) → refusal_name r ≡ refusal_name s → r ≡ s
same_name r s e = sym (from_name r) ∙ ap (λ n. first_with_name n refusals) e ∙ from_name s
