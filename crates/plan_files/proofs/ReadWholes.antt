-- A source is read block by block.
use Rattle.std.proofs.Common.{◌≡◌, ℕ, ◌+◌, ◌<◌, ◌≤◌, List, [], ◌∷◌, ◌++◌, length, take, drop, Option, Some, None, IfSome, refl, sym, ap, ◌∙◌, arith, subst, inl, inr, length-drop, length-take, length-append, ⊎_elim}
use Rattle.std.proofs.Math.Seq.{take-add, take-length}
use Rattle.std.proofs.lemmas.List.{append-nil, drop-drop}
use Rattle.std.proofs.lemmas.Option.{MatchOption-at_some}
use Rattle.std.specs.Prelude.{Result, Ok, Err, IsErrAnd}
use Rattle.floor_text.specs.Outside.{Takes, Rose}
use Rattle.plan_files.specs.Wholes.{TakesUpTo}
use Rattle.plan_files.specs.declared.whole.WholeEnd.{WholeEnd}
use Rattle.plan_files.specs.declared.whole.WholeEnd.TheVariants.{InputTooLong}

-- what was read is a front of all, and the rest is left
pub record IsFront (all : List ℕ) (now : Option (List ℕ)) (whole : List ℕ) : Type 0 where
  pub within : length whole ≤ length all
  pub same : whole ≡ take (length whole) all
  pub rest : now ≡ Some (drop (length whole) all)

-- of a source that tells its bytes a front was read
abbrev pub HasRead : Option (List ℕ) → Option (List ℕ) → List ℕ → Type 0
HasRead old now whole = IfSome old (λ all. IsFront all now whole)

-- nothing was read yet
pub nothing_read : (old : Option (List ℕ)) → HasRead old old []
nothing_read None = tt
nothing_read (Some all) = record { within = omega arith; same = refl; rest = refl }

-- a block more
pub read_more : (old now next : Option (List ℕ)) (whole block : List ℕ) (n : ℕ) → HasRead old now whole
    → IfSome now (λ bytes. Takes bytes next block n) → HasRead old next (whole ++ take n block)
read_more None now next whole block n is takes = tt
read_more (Some all) now next whole block n is takes =
    let came : Takes (drop (length whole) all) next block n =
    MatchOption-at_some (Unit {0}) (λ (bytes : List ℕ). Takes bytes next block n) (drop (length whole) all) is.rest takes in
    let fits : length whole + n ≤ length all =
    omega (arith, length-drop (length whole) all, came.within, is.within) in
    let joined : whole ++ take n block ≡ take (length whole + n) all =
    ap (λ (xs : List ℕ). whole ++ xs) came.given
    ∙ ap (λ (xs : List ℕ). xs ++ take n (drop (length whole) all)) is.same
    ∙ sym (take-add (length whole) n all) in
    let size : length (whole ++ take n block) ≡ length whole + n =
    ap length joined ∙ length-take (length whole + n) all ∙ omega arith in
    record {
      within = omega arith;
      same = joined ∙ ap (λ (k : ℕ). take k all) (sym size);
      rest = came.rest ∙ ap Some (drop-drop n (length whole) all ∙ ap (λ (k : ℕ). drop k all) (sym size));
    }

no_items : (xs : List ℕ) → length xs ≡ 0 → xs ≡ []
no_items [] none = refl
no_items (x ∷ xs) none = absurd (omega arith)

-- at the end all was read
pub all_read : (old now next : Option (List ℕ)) (whole block : List ℕ) (n : ℕ) → HasRead old now whole
    → IfSome now (λ bytes. Takes bytes next block n) → n ≡ 0 → 0 < length block
    → IfSome old (λ bytes. (whole ≡ bytes) × (next ≡ Some []))
all_read None now next whole block n is takes none some = tt
all_read (Some all) now next whole block n is takes none some =
    let came : Takes (drop (length whole) all) next block n =
    MatchOption-at_some (Unit {0}) (λ (bytes : List ℕ). Takes bytes next block n) (drop (length whole) all) is.rest takes in
    let ended : length (drop (length whole) all) ≡ 0 =
    ⊎_elim (λ empty. absurd (omega (arith, empty, some))) (λ ended. ended) (came.at_end none) in
    let size : length whole ≡ length all = omega (arith, length-drop (length whole) all, ended, is.within) in
    let left : drop n (drop (length whole) all) ≡ [] =
    ap (λ (k : ℕ). drop k (drop (length whole) all)) none ∙ no_items (drop (length whole) all) ended in (
      is.same ∙ ap (λ (k : ℕ). take k all) size ∙ take-length all,
      came.rest ∙ ap Some left,
    )

-- how much was taken
pub taken_up_to : (limit : ℕ) (old now : Option (List ℕ)) (whole : List ℕ) (IsTooLong : Type 0) → HasRead old now whole
    → (IsTooLong → limit < length whole) → (limit < length whole → IsTooLong)
    → IfSome old (λ bytes. TakesUpTo limit bytes now IsTooLong)
taken_up_to limit None now whole IsTooLong is to from = tt
taken_up_to limit (Some all) now whole IsTooLong is to from =
    record { taken = length whole; within = is.within; rest = is.rest; too_long = (to, from) }

-- a count that rose later rose
pub rose_later : (before between now : ℕ) → before ≤ between → Rose between now → Rose before now
rose_later before between now later rose =
    ⊎_elim (λ above. inl (omega arith)) (λ last. inr last) rose

-- nothing was read of this block
pub read_none : (old now next : Option (List ℕ)) (whole block : List ℕ) (n : ℕ) → HasRead old now whole
    → IfSome now (λ bytes. Takes bytes next block n) → n ≡ 0 → HasRead old next whole
read_none old now next whole block n is takes none =
    let same : whole ++ take n block ≡ whole =
    ap (λ (k : ℕ). whole ++ take k block) none ∙ append-nil whole in
    subst (HasRead old next) same (read_more old now next whole block n is takes)

-- nothing was read before
pub first_read : (old : Option (List ℕ)) (whole : List ℕ) → whole ≡ [] → HasRead old old whole
first_read old whole none = subst (HasRead old old) (sym none) (nothing_read old)

-- how long what is read is with a block more
pub length-more : (whole block : List ℕ) (n : ℕ) → n ≤ length block
    → length (whole ++ take n block) ≡ length whole + n
length-more whole block n within = omega (arith, length-append whole (take n block), length-take n block)

-- another end than a long input
pub not_too_long : {T : Type 0} (result : Result T WholeEnd) (end : WholeEnd)
    → IsErrAnd result (λ other. other ≡ end) → (end ≡ InputTooLong → ⊥) → result ≡ Err InputTooLong → ⊥
not_too_long (Ok value) end is other same = cc
not_too_long (Err found) end is other same =
    let here : found ≡ InputTooLong = cc in other (sym is ∙ here)
