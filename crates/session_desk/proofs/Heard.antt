-- The bytes that a session took, and their lines.
use Rattle.std.proofs.Common.{◌≡◌, ◌∙◌, inl, inr, refl, sym, ap, subst, ℕ, zero, suc, ◌+◌, ◌≤◌, Bool, true, false, List, [], ◌∷◌, ◌++◌, Option, length, append-nil, append_assoc, length-append, arith}
use Rattle.std.specs.Prelude.{◌||◌}
use Rattle.std.specs.List.{list_any}
use Rattle.std.proofs.lemmas.List.{nil_from_length}
use mathlib.Core.List.{IsPrefix}
use Rattle.floor_text.specs.Lines.{HasNoFeed, cut_line, ended_lines, is_line_feed, lines_of_bytes}
use Rattle.floor_text.proofs.CutLines.{first_feed, handed_so_far, lines_of_bytes-last, lines_of_bytes-line, lines_of_bytes-nil}
use Rattle.history_lock.proofs.Prefixes.{prefix_self}
use Rattle.session_desk.specs.Inboxes.{is_line_held}
use Rattle.session_desk.specs.Talks.{lines_taken}
use Rattle.session_desk.specs.Turns.{AreHandled, MayTake, Taking, bytes_taken, failed, is_end, took_bytes, took_end, took_idle, took_nothing}

-- What was handled of the bytes that were taken, and what waits: before the end of the link, whatever comes behind;
-- once it ended, all was handled and nothing waits.
abbrev pub AreHeard : Bool → List ℕ → List (Option (List ℕ)) → List ℕ → Type 0
AreHeard false bytes lines left =
    (rest : List ℕ) → lines_of_bytes (bytes ++ rest) ≡ lines ++ lines_of_bytes (left ++ rest)
AreHeard true bytes lines left = (lines_of_bytes bytes ≡ lines) × (left ≡ [])

-- bytes without a line are none
no-line : (bytes : List ℕ) → lines_of_bytes bytes ≡ [] → bytes ≡ []
no-line [] is = refl
no-line (byte ∷ bytes) is =
    absurd (elim (first_feed (byte ∷ bytes)) [
      | inl none ↦
          let one : lines_of_bytes (byte ∷ bytes) ≡ cut_line (byte ∷ bytes) ∷ [] =
          lines_of_bytes-last (byte ∷ bytes) none (omega arith) in
          (cc)
      | inr cut ↦
          let more : lines_of_bytes (byte ∷ bytes) ≡ cut_line cut.0 ∷ lines_of_bytes cut.1 =
          ap lines_of_bytes cut.2 ∙ lines_of_bytes-line cut.0 cut.1 cut.3 in
          (cc)
    ])

-- two lists that are nothing together are nothing each
both-none : {A : Type 0} (items others : List A) → items ++ others ≡ [] → (items ≡ []) × (others ≡ [])
both-none [] others is = (refl, is)
both-none (item ∷ items) others is = absurd (cc (is))

-- what was handled before the end
heard-before : (taken bytes left after : List ℕ) (lines more : List (Option (List ℕ))) → AreHeard false bytes lines left
    → ((rest : List ℕ) → lines_of_bytes (left ++ (taken ++ rest)) ≡ more ++ lines_of_bytes (after ++ rest))
    → AreHeard false (bytes ++ taken) (lines ++ more) after
heard-before taken bytes left after lines more heard handled rest =
    ap lines_of_bytes (append_assoc bytes taken rest)
    ∙ (heard (taken ++ rest)
    ∙ (ap (λ (l : List (Option (List ℕ))). lines ++ l) (handled rest)
    ∙ sym (append_assoc lines more (lines_of_bytes (after ++ rest)))))

-- at the end
heard-end : (bytes left after : List ℕ) (lines more : List (Option (List ℕ))) → AreHeard false bytes lines left
    → AreHandled took_end left more after → AreHeard true (bytes ++ []) (lines ++ more) after
heard-end bytes left after lines more heard handled = (
  heard []
      ∙ ap (λ (l : List (Option (List ℕ))). lines ++ l)
      (ap lines_of_bytes (append-nil left) ∙ handled.0),
  handled.1,
)

-- and behind it
heard-behind : (bytes left after : List ℕ) (lines more : List (Option (List ℕ))) → AreHeard true bytes lines left
    → AreHandled took_nothing left more after → AreHeard true (bytes ++ []) (lines ++ more) after
heard-behind bytes left after lines more heard handled =
    let none : more ++ lines_of_bytes (after ++ []) ≡ [] =
    sym (handled []) ∙ (ap (λ (l : List ℕ). lines_of_bytes (l ++ [])) heard.1 ∙ lines_of_bytes-nil) in
    let both = both-none more (lines_of_bytes (after ++ [])) none in (
      ap lines_of_bytes (append-nil bytes)
          ∙ (heard.0 ∙ (sym (append-nil lines) ∙ ap (λ (l : List (Option (List ℕ))). lines ++ l) (sym both.0))),
      no-line after (ap lines_of_bytes (sym (append-nil after)) ∙ both.1),
    )

-- What was handled after a turn.
pub heard-on : (held ended : Bool) (taking : Taking) (bytes left after : List ℕ)
    (lines more : List (Option (List ℕ))) → MayTake held ended taking → AreHeard ended bytes lines left
    → AreHandled taking left more after
    → AreHeard (ended || is_end taking) (bytes ++ bytes_taken taking) (lines ++ more) after
heard-on held false took_nothing bytes left after lines more may heard handled =
    heard-before [] bytes left after lines more heard handled
heard-on held false (took_bytes taken) bytes left after lines more may heard handled =
    heard-before taken bytes left after lines more heard handled
heard-on held false took_idle bytes left after lines more may heard handled =
    heard-before [] bytes left after lines more heard handled
heard-on held false took_end bytes left after lines more may heard handled =
    heard-end bytes left after lines more heard handled
heard-on held false failed bytes left after lines more may heard handled =
    heard-before [] bytes left after lines more heard handled
heard-on held true took_nothing bytes left after lines more may heard handled =
    heard-behind bytes left after lines more heard handled
heard-on true true taking bytes left after lines more may heard handled = absurd may
heard-on false true taking bytes left after lines more may heard handled = absurd may

-- the lines that are ended in some bytes, and what is behind them
abbrev IsSplit : List ℕ → Type 0
IsSplit bytes =
    (lines : List (Option (List ℕ))) × (left : List ℕ) × HasNoFeed left
    × ((rest : List ℕ) → lines_of_bytes (bytes ++ rest) ≡ lines ++ lines_of_bytes (left ++ rest))

split-of : (n : ℕ) (bytes : List ℕ) → length bytes ≤ n → IsSplit bytes
split-of zero bytes size =
    ([], bytes, ap (list_any is_line_feed) (nil_from_length bytes (omega arith)), λ rest. refl)
split-of (suc n) bytes size =
    elim (first_feed bytes) [
      | inl none ↦ ([], bytes, none, λ rest. refl)
      | inr cut ↦
          let all : length bytes ≡ length cut.0 + length (10 ∷ cut.1) =
          ap length cut.2 ∙ length-append cut.0 (10 ∷ cut.1) in
          let more : IsSplit cut.1 = split-of n cut.1 (omega arith) in (
            cut_line cut.0 ∷ more.0,
            more.1,
            more.2,
            λ rest.
                ap lines_of_bytes
                (ap (λ (l : List ℕ). l ++ rest) cut.2 ∙ append_assoc cut.0 (10 ∷ cut.1) rest)
                ∙ (lines_of_bytes-line cut.0 (cut.1 ++ rest) cut.3
                ∙ ap (λ (l : List (Option (List ℕ))). cut_line cut.0 ∷ l) (more.3 rest)),
          )
    ]

-- what was handled are the first of the lines that are ended
first-ended : (bytes left : List ℕ) (lines : List (Option (List ℕ))) → AreHeard false bytes lines left
    → IsPrefix lines (ended_lines bytes)
first-ended bytes left lines heard =
    let split : IsSplit left = split-of (length left) left (omega arith) in (
      split.0,
      handed_so_far bytes split.1 (lines ++ split.0) split.2
          (λ rest.
          heard rest
          ∙ (ap (λ (l : List (Option (List ℕ))). lines ++ l) (split.3 rest)
          ∙ sym (append_assoc lines split.0 (lines_of_bytes (split.1 ++ rest))))),
    )

-- The lines that were handled are the first of those that were taken.
pub heard-first : (ended : Bool) (bytes left : List ℕ) (lines : List (Option (List ℕ)))
    → AreHeard ended bytes lines left → IsPrefix lines (lines_taken ended bytes)
heard-first false bytes left lines heard = first-ended bytes left lines heard
heard-first true bytes left lines heard =
    subst (λ (l : List (Option (List ℕ))). IsPrefix lines l) (sym heard.0) (prefix_self lines)

-- And they are all of them where no line is held, or the link has ended.
pub heard-all : (ended : Bool) (bytes left : List ℕ) (lines : List (Option (List ℕ))) → is_line_held left ≡ false
    → AreHeard ended bytes lines left → lines ≡ lines_taken ended bytes
heard-all false bytes left lines none heard = handed_so_far bytes left lines none heard
heard-all true bytes left lines none heard = sym heard.0
