-- What is left of the bytes in a buffer.
use Rattle.std.proofs.Common.{◌≡◌, ◌≢◌, ◌⊎◌, inl, inr, ℕ, ◌+◌, ◌-◌, ◌≤◌, Bool, true, false, List, [], ◌∷◌, ◌++◌, Option, Some, None, length, take, drop, refl, sym, ap, ◌∙◌, arith, length-take}
use Rattle.std.specs.Prelude.{◌||◌, ◌↔◌, IsSome, is_some, nat_lt, slice_range, if◌then◌else◌}
use Rattle.std.proofs.lemmas.List.Folds.{list_any-append}
use Rattle.std.proofs.Math.Dec.{eqb}
use Rattle.std.proofs.lemmas.Bool.Decides.{eqb_tells}
use Rattle.std.specs.List.{list_any}
use Rattle.std.proofs.lemmas.List.{drop-drop, drop-take}
use Rattle.floor_text.specs.declared.line_cutter.Cut.{Cut}
use Rattle.floor_text.specs.Lines.{HasNoFeed, is_line_feed, lines_of_bytes}
use Rattle.floor_text.specs.LineCutter.{begun_after}
use Rattle.floor_text.specs.declared.limits.TheConstants.{KEPT}

-- behind the first byte of what is left
pub behind-first : (bytes rest behind : List ℕ) (byte : ℕ) → length rest ≤ length bytes
    → rest ≡ drop (length bytes - length rest) bytes → (rest ≡ byte ∷ behind) × (length behind + 1 ≡ length rest)
    → (length behind ≤ length bytes) × (behind ≡ drop (length bytes - length behind) bytes)
behind-first bytes rest behind byte shorter is first =
    let n : length bytes - length rest + 1 ≡ length bytes - length behind = omega (arith, first.1, shorter) in
    let next : behind ≡ drop 1 (drop (length bytes - length rest) bytes) = ap (drop 1) (sym first.0 ∙ is) in (
      omega (arith, first.1, shorter),
      next ∙ (drop-drop 1 (length bytes - length rest) bytes ∙ ap
          (λ k. drop k bytes) n),
    )

-- One byte more was looked at.
pub cut-on : (before begun bytes rest behind : List ℕ) (byte : ℕ) (tail : List ℕ) → rest ≡ byte ∷ behind
    → lines_of_bytes (before ++ (bytes ++ tail)) ≡ lines_of_bytes (begun ++ (rest ++ tail))
    → lines_of_bytes (before ++ (bytes ++ tail)) ≡ lines_of_bytes (begun ++ byte ∷ (behind ++ tail))
cut-on before begun bytes rest behind byte tail first is =
    is ∙ ap (λ (left : List ℕ). lines_of_bytes (begun ++ (left ++ tail))) first

-- A cutter answers at a line feed alone.
pub cut-at_feed : (byte : ℕ) (cut : Option Cut) → (IsSome cut ↔ (byte ≡ 10)) → is_some cut ≡ is_line_feed byte
cut-at_feed byte cut answers = by_test (eqb_tells byte 10) cut answers
  where
    by_test : ((eqb byte 10 ≡ true) × (byte ≡ 10)) ⊎ ((eqb byte 10 ≡ false) × (byte ≢ 10)) → (cut : Option Cut)
        → (IsSome cut ↔ (byte ≡ 10)) → is_some cut ≡ is_line_feed byte
    by_test (inl feed) (Some cut) answers = sym feed.0
    by_test (inl feed) None answers = absurd (let never : false ≡ true = answers.1 feed.1 in cc)
    by_test (inr other) (Some cut) answers = absurd (other.1 (answers.0 refl))
    by_test (inr other) None answers = sym other.0

-- What is begun has no line feed after a byte either.
pub begun-no_feed : (begun : List ℕ) (byte : ℕ) → HasNoFeed begun → HasNoFeed (begun_after begun byte)
begun-no_feed begun byte none = by_test (is_line_feed byte) refl
  where
    kept : (room : Bool) → is_line_feed byte ≡ false
        → HasNoFeed (if room then begun ++ byte ∷ [] else begun)
    kept true other = list_any-append is_line_feed begun (byte ∷ []) ∙ ((λ i. none i || (other i || false)))
    kept false other = none

    by_test : (feed : Bool) → is_line_feed byte ≡ feed → HasNoFeed (begun_after begun byte)
    by_test true is = ap (λ (feed : Bool). list_any is_line_feed (if feed then [] else (if nat_lt
        (length begun) KEPT then begun ++ byte ∷ [] else begun))) is
    by_test false is = ap (λ (feed : Bool). list_any is_line_feed (if feed then [] else (if nat_lt
        (length begun) KEPT then begun ++ byte ∷ [] else begun))) is
        ∙ kept (nat_lt (length begun) KEPT) is

-- A byte that is no line feed tells nothing of whether one is among the bytes.
pub held-on : (bytes rest behind : List ℕ) (byte : ℕ) → rest ≡ byte ∷ behind → is_line_feed byte ≡ false
    → list_any is_line_feed bytes ≡ list_any is_line_feed rest
    → list_any is_line_feed bytes ≡ list_any is_line_feed behind
held-on bytes rest behind byte first other held =
    held ∙ (ap (list_any is_line_feed) first ∙ ap (λ (one : Bool). one || list_any is_line_feed behind) other)

-- Where the first byte that is left is a line feed, one is among the bytes.
pub held-first : (bytes rest behind : List ℕ) (byte : ℕ) → rest ≡ byte ∷ behind → is_line_feed byte ≡ true
    → list_any is_line_feed bytes ≡ list_any is_line_feed rest → list_any is_line_feed bytes ≡ true
held-first bytes rest behind byte first feed held =
    held ∙ (ap (list_any is_line_feed) first ∙ ap (λ (one : Bool). one || list_any is_line_feed behind) feed)

-- what is unread once some of it was looked at
pub unread-behind : (buffer : List ℕ) (start end n : ℕ) → n ≤ length (slice_range buffer start end)
    → drop n (slice_range buffer start end) ≡ slice_range buffer (start + n) end
unread-behind buffer start end n within =
    let all : length (slice_range buffer start end) ≤ end - start =
    omega (arith, length-take (end - start) (drop start buffer)) in
    let m = end - start - n in
    let both : end - start ≡ n + m = omega (arith, within, all) in
    ap (λ k. drop n (take k (drop start buffer))) both
    ∙ (drop-take n m (drop start buffer)
    ∙ (ap (take m) (drop-drop n start buffer) ∙ ap (λ k. take k (drop (start + n) buffer)) (omega arith)))
