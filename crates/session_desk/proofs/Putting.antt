-- What two puts leave.
use Rattle.std.proofs.Common.{◌≡◌, ℕ, ◌+◌, List, ◌++◌, length, take, Option, Some, None, Result, Ok, Err, sym, ap, ◌∙◌, subst, arith, append_assoc}
use Rattle.std.specs.Prelude.{IfSome, min}
use Rattle.std.proofs.lemmas.List.{take-append-le, take_min}
use Rattle.std.proofs.Math.Seq.{take-append-add}
use Rattle.floor_text.specs.declared.outside.Failed.{Failed}
use Rattle.links.specs.Telling.{Telling}
use Rattle.links.specs.Links.{Puts, with_put}

-- A put of the first bytes failed: so did that of more bytes, of which these are the first.
pub put-cut : (before after : Option Telling) (xs ys : List ℕ) (failed : Failed)
    → IfSome before (λ t. Puts t xs after (Err failed)) → IfSome before (λ t. Puts t (xs ++ ys) after (Err failed))
put-cut None after xs ys failed cut = tt
put-cut (Some t) after xs ys failed cut =
    let n = cut.0 in
    let same : take (min n (length xs)) (xs ++ ys) ≡ take n xs =
    take-append-le (min n (length xs)) xs ys (omega arith) ∙ take_min n xs in
    (min n (length xs), cut.1 ∙ ap (λ l. Some (with_put t l)) (sym same))

-- The first bytes were put, and then the others, or a front of them: so was a front of both.
pub put-on : (before mid after : Option Telling) (xs ys : List ℕ) (result : Result (Unit {0}) Failed)
    → IfSome before (λ t. Puts t xs mid (Ok tt)) → IfSome mid (λ t. Puts t ys after result)
    → IfSome before (λ t. Puts t (xs ++ ys) after result)
put-on None mid after xs ys result first second = tt
put-on (Some t) mid after xs ys (Ok u) first second =
    let P : Option Telling → Type 0 = λ o. IfSome o (λ t. Puts t ys after (Ok u)) in
    let then : P (Some (with_put t xs)) = subst P first second in
    then ∙ ap (λ l. Some (record t { put = l })) (append_assoc t.put xs ys)
put-on (Some t) mid after xs ys (Err e) first second =
    let P : Option Telling → Type 0 = λ o. IfSome o (λ t. Puts t ys after (Err e)) in
    let then : P (Some (with_put t xs)) = subst P first second in (
      length xs + then.0,
      then.1
          ∙ (ap (λ l. Some (record t { put = l })) (append_assoc t.put xs (take then.0 ys))
          ∙ ap (λ l. Some (with_put t l)) (sym (take-append-add xs ys then.0))),
    )
