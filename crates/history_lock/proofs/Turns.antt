-- What the steps of one call tell together.
use Rattle.std.proofs.Common.{◌≡◌, ◌≢◌, ◌==◌, ℕ, Bool, true, false, List, [], ◌∷◌, sym, ap, ◌∙◌, subst, arith, Option, Some, None, MatchBool}
use Rattle.std.proofs.lemmas.Bool.Decides.{nat_tests}
use Rattle.atomic_table.specs.Table.{Me, Step, rest}
use Rattle.history_lock.specs.declared.view.Share.{Share}
use Rattle.history_lock.specs.declared.view.View.{View}
use Rattle.history_lock.specs.Views.{first_share, ticketed_view}
use Rattle.history_lock.specs.Steps.{looked, IsFound, served_view}

module _ {Val : Type 0} where
  -- what the slot in hand has
  abbrev in_hand : Option Val → List (ℕ × Option Val) → Option Val
  in_hand d [] = d
  in_hand d (x ∷ xs) = x.1

module _ {Val E : Type 0} where
  -- a seat that waits as it began
  pub waits : (ticket : ℕ) (first me : Me (Option Val) (View E)) → first.0 ≡ ticketed_view ticket first.0 → first.1 ≡ []
      → me ≡ first → me ≡ (ticketed_view ticket me.0, [])
  waits ticket first me view slots same = subst (λ (m : Me (Option Val) (View E)). m ≡ (ticketed_view ticket m.0, []))
      (sym same) (λ i. (view i, slots i))

module _ {Val E : Type 0} (history : Val → List E) (caller_of : E → ℕ) where
  abbrev M : Type 0
  M = Me (Option Val) (View E)

  -- the value that a seat holds once its ticket is served
  abbrev pub Holds : M → M → Val → Type 0
  Holds before after x = (after ≡ (served_view before.0 (first_share before.0.shares) (history x), (0, Some x) ∷ []))
      × IsFound history caller_of (first_share before.0.shares) before.0.known x

  abbrev Tells : Bool → M → M → Share E → Type 0
  Tells b before after share =
      MatchBool b ((x : Val) × (after ≡ (served_view before.0 share (history x), (0, Some x) ∷ before.1))
      × IsFound history caller_of share before.0.known x) (after ≡ before)

  tells : (st : Step (Option Val)) (ticket found : ℕ) (before after : M) → before ≡ (ticketed_view ticket before.0, [])
      → looked history caller_of st before found after
      → Tells (found == ticket) before after (first_share before.0.shares)
  tells st ticket found before after is told = told ticket (first_share before.0.shares) (ap (λ (m : M). m.0.ticket) is)
      (ap (λ (m : M). m.0.shares) is)

  -- a seat that waits, and finds that its own ticket is served, holds the value
  pub look_hit : (st : Step (Option Val)) (ticket found : ℕ) (before after : M)
      → before ≡ (ticketed_view ticket before.0, []) → looked history caller_of st before found after → found ≡ ticket
      → (x : Val) × Holds before after x
  look_hit st ticket found before after is told hit =
      let test : (found == ticket) ≡ true = grind (arith, nat_tests) in
      let t = subst (λ b. Tells b before after (first_share before.0.shares)) test
      (tells st ticket found before after is told) in (
        t.0,
        (
          t.1 ∙ ap (λ (c : List (ℕ × Option Val)). let m : M =
              (served_view before.0 (first_share before.0.shares) (history t.0), (0, Some t.0) ∷ c) in m)
              (ap (λ (m : M). m.1) is),
          t.2,
        ),
      )

  -- a seat that waits, and finds that another ticket is served, stays as it was
  pub look_miss : (st : Step (Option Val)) (ticket found : ℕ) (before after : M)
      → before ≡ (ticketed_view ticket before.0, []) → looked history caller_of st before found after → found ≢ ticket
      → after ≡ before
  look_miss st ticket found before after is told miss =
      let test : (found == ticket) ≡ false = grind (arith, nat_tests) in
      subst (λ b. Tells b before after (first_share before.0.shares)) test (tells st ticket found before after is told)

  -- the value is taken out of the slot
  pub taken_out : (before after last : M) (x : Val) (got : Option Val) → Holds before after x
      → after.1 ≡ (0, got) ∷ rest after.1 → last ≡ (after.0, (0, None) ∷ rest after.1)
      → (got ≡ Some x) × (last ≡ (served_view before.0 (first_share before.0.shares) (history x), (0, None) ∷ []))
  taken_out before after last x got holds found out =
      let slots : after.1 ≡ (0, Some x) ∷ [] = ap (λ (m : M). m.1) holds.0 in
      let same : got ≡ Some x = ap (in_hand got) (sym found ∙ slots) in
      (same, out ∙ ap (λ (m : M). let z : M = (m.0, (0, None) ∷ rest m.1) in z) holds.0)

  -- one whole turn: the ticket was found to be served, and the value was taken out
  pub turn_taken : (st : Step (Option Val)) (ticket found : ℕ) (first before after last : M) (got : Option Val)
      → first.0 ≡ ticketed_view ticket first.0 → first.1 ≡ [] → before ≡ first
      → looked history caller_of st before found after → found ≡ ticket → after.1 ≡ (0, got) ∷ rest after.1
      → last ≡ (after.0, (0, None) ∷ rest after.1)
      → (x : Val) × (got ≡ Some x)
      × (last ≡ (served_view first.0 (first_share first.0.shares) (history x), (0, None) ∷ []))
      × IsFound history caller_of (first_share first.0.shares) first.0.known x
  turn_taken st ticket found first before after last got view slots same told hit held out =
      let h = look_hit st ticket found before after (waits ticket first before view slots same) told hit in
      let t = taken_out before after last h.0 got h.1 held out in (
        h.0,
        t.0,
        t.1 ∙ ap (λ (m : M). let z : M =
            (served_view m.0 (first_share m.0.shares) (history h.0), (0, None) ∷ []) in z) same,
        subst
            (λ (m : M). IsFound history caller_of (first_share m.0.shares) m.0.known h.0) same h.1.1,
      )
