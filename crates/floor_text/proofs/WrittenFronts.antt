-- A writer takes the bytes of a put piece by piece, and is flushed behind them.
use Rattle.std.proofs.Common.{◌≡◌, ℕ, ◌+◌, ◌≤◌, List, [], ◌++◌, length, take, drop, Option, Some, None, IfSome, sym, ap, ◌∙◌, arith, append_assoc, length-drop}
use Rattle.std.proofs.Math.Seq.{take-add, take-length}
use Rattle.std.proofs.lemmas.List.{append-nil, drop-drop}
use Rattle.std.specs.Prelude.{Result, Ok, Err}
use Rattle.std.specs.Result.{result_and}
use Rattle.std.specs.Io.KnownBytes.{Keeps}
use Rattle.floor_text.specs.Outside.{Puts, EndsWith}
use Rattle.std.proofs.lemmas.Option.{MatchOption-at_some}

-- of all the bytes a front was written, and the rest is left
abbrev pub IsWritten : Option (List ℕ) → Option (List ℕ) → List ℕ → List ℕ → Type 0
IsWritten old now all rest =
    (k : ℕ) × (k ≤ length all) × (rest ≡ drop k all) × IfSome old (λ before. now ≡ Some (before ++ take k all))

-- one piece more
pub written_more : (old now next : Option (List ℕ)) (all rest more : List ℕ) (n : ℕ) → IsWritten old now all rest
    → n ≤ length rest → more ≡ drop n rest → IfSome now (λ before. next ≡ Some (before ++ take n rest))
    → IsWritten old next all more
written_more None now next all rest more n is fits left piece =
    let size = ap length is.2 in
    (is.0 + n, omega (arith, length-drop is.0 all), left ∙ ap (drop n) is.2 ∙ drop-drop n is.0 all, tt)
written_more (Some before) now next all rest more n is fits left piece =
    let size = ap length is.2 in
    let wrote : next ≡ Some (before ++ take is.0 all ++ take n rest) =
    MatchOption-at_some (Unit {0}) (λ (bs : List ℕ). next ≡ Some (bs ++ take n rest))
    (before ++ take is.0 all) is.3 piece in
    let joined : before ++ take is.0 all ++ take n rest ≡ before ++ take (is.0 + n) all =
    append_assoc before (take is.0 all) (take n rest)
    ∙ ap (λ (xs : List ℕ). before ++ (take is.0 all ++ take n xs)) is.2
    ∙ ap (λ (xs : List ℕ). before ++ xs) (sym (take-add is.0 n all)) in (
      is.0 + n,
      omega (arith, length-drop is.0 all),
      left ∙ ap (drop n) is.2 ∙ drop-drop n is.0 all,
      wrote
          ∙ ap Some joined,
    )

-- what is known ends with no bytes
pub ends_with_none : (known : Option (List ℕ)) → IfSome known (λ bytes. EndsWith bytes [])
ends_with_none None = tt
ends_with_none (Some bytes) = (bytes, sym (append-nil bytes))

-- known bytes that are kept are the same bytes
kept_bytes : (bytes : List ℕ) (mid new : Option (List ℕ)) → mid ≡ Some bytes → Keeps mid new → new ≡ Some bytes
kept_bytes bytes None new is keeps = cc
kept_bytes bytes (Some same) None is keeps = absurd keeps
kept_bytes bytes (Some same) (Some still) is keeps = ap Some keeps ∙ is

-- a put whose bytes were written and then flushed has put them all, and one that failed in either has put a front
pub flushed_behind : {E : Type 0} (old mid new : Option (List ℕ)) (bytes : List ℕ)
    (written flushed : Result (Unit {0}) E) → IfSome old (λ before. Puts before bytes mid written) → Keeps mid new
    → IfSome old (λ before. Puts before bytes new (result_and written flushed))
flushed_behind None mid new bytes written flushed puts keeps = tt
flushed_behind (Some before) mid new bytes (Ok _) (Ok _) puts keeps = kept_bytes (before ++ bytes) mid new puts keeps
flushed_behind (Some before) mid new bytes (Ok _) (Err _) puts keeps = (
  length bytes,
  kept_bytes (before ++ bytes) mid new puts keeps ∙ ap (λ all. Some (before ++ all)) (sym (take-length bytes)),
)
flushed_behind (Some before) mid new bytes (Err _) flushed puts keeps =
    (puts.0, kept_bytes (before ++ take puts.0 bytes) mid new puts.1 keeps)
