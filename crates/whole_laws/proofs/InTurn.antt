-- The hands that began at a table are those that were settled there and, where one is out, that one behind them.
use Rattle.std.proofs.Common.{◌≡◌, ◌∙◌, sym, ap, subst, ℕ, true, false, inl, inr, List, [], ◌∷◌, ◌++◌, map, append-nil}
use Rattle.std.specs.Prelude.{◌==◌, Option, Some, None, option_to_list}
use Rattle.std.proofs.lemmas.Bool.{cases_Bool}
use Rattle.std.proofs.lemmas.List.{map-append}
use Rattle.table_engine.specs.declared.start.HandStart.{HandStart}
use Rattle.table_engine.specs.Hands.{HandTerms}
use Rattle.dock_rules.specs.Journals.{Begun, Settled}
use Rattle.whole_laws.proofs.AtTables.{hands-append, hands-none, hands-one, hands_at, starts-append, starts-none, starts-one, starts_at}

-- the starts of hands
abbrev pub starts_of : List HandTerms → List HandStart
starts_of hands = map (λ (hand : HandTerms). hand.start) hands

-- This is so of the hands of a table.
abbrev pub IsInTurn : ℕ → List Begun → List Settled → Option HandStart → Type 0
IsInTurn table begun settled out =
    starts_at table begun ≡ starts_of (hands_at table settled) ++ option_to_list out

-- It stays so where none begins and none is settled.
pub still-in_turn : (table : ℕ) (begun : List Begun) (settled : List Settled) (before after : Option HandStart)
    → after ≡ before → IsInTurn table begun settled before → IsInTurn table (begun ++ []) (settled ++ []) after
still-in_turn table begun settled before after same turn =
    ap (starts_at table) (append-nil begun)
    ∙ (turn ∙ (λ i. starts_of (hands_at table (sym (append-nil settled) i)) ++ option_to_list (sym same i)))

-- One begins at the table, where none is out.
begins-here : (table : ℕ) (begun : List Begun) (settled : List Settled) (new : Begun)
    → (new.start.table == table) ≡ true → IsInTurn table begun settled None
    → IsInTurn table (begun ++ new ∷ []) (settled ++ []) (Some new.start)
begins-here table begun settled new here turn =
    starts-append table begun (new ∷ [])
    ∙ ((λ i. (turn ∙ append-nil (starts_of (hands_at table settled))) i ++ starts-one table new here i)
    ∙ ap (λ (settled : List Settled). starts_of (hands_at table settled) ++ new.start ∷ [])
    (sym (append-nil settled)))

-- One begins at another table.
begins-elsewhere : (table : ℕ) (begun : List Begun) (settled : List Settled) (new : Begun) (out : Option HandStart)
    → (new.start.table == table) ≡ false → IsInTurn table begun settled out
    → IsInTurn table (begun ++ new ∷ []) (settled ++ []) out
begins-elsewhere table begun settled new out apart turn =
    starts-append table begun (new ∷ [])
    ∙ (ap (λ (starts : List HandStart). starts_at table begun ++ starts) (starts-none table new apart)
    ∙ (append-nil (starts_at table begun)
    ∙ (turn ∙ ap (λ (settled : List Settled). starts_of (hands_at table settled) ++ option_to_list out)
    (sym (append-nil settled)))))

-- It stays so where one begins, at the table only if none is out there.
pub begins-in_turn : (table : ℕ) (begun : List Begun) (settled : List Settled) (new : Begun)
    (before after : Option HandStart)
    → ((new.start.table == table) ≡ true → (before ≡ None) × (after ≡ Some new.start))
    → ((new.start.table == table) ≡ false → after ≡ before) → IsInTurn table begun settled before
    → IsInTurn table (begun ++ new ∷ []) (settled ++ []) after
begins-in_turn table begun settled new before after here elsewhere turn =
    elim (cases_Bool (new.start.table == table)) [
      | inl mine ↦ subst (IsInTurn table (begun ++ new ∷ []) (settled ++ [])) (sym (here mine).1)
          (begins-here table begun settled new mine (subst (IsInTurn table begun settled) (here mine).0 turn))
      | inr apart ↦ subst (IsInTurn table (begun ++ new ∷ []) (settled ++ [])) (sym (elsewhere apart))
          (begins-elsewhere table begun settled new before apart turn)
    ]

-- The one that is out at the table is settled.
settles-here : (table : ℕ) (begun : List Begun) (settled : List Settled) (new : Settled)
    → (new.hand.start.table == table) ≡ true → IsInTurn table begun settled (Some new.hand.start)
    → IsInTurn table (begun ++ []) (settled ++ new ∷ []) None
settles-here table begun settled new here turn =
    let hands = hands-append table settled (new ∷ [])
    ∙ ap (λ (hands : List HandTerms). hands_at table settled ++ hands) (hands-one table new here) in
    let starts = ap starts_of hands
    ∙ map-append (λ (hand : HandTerms). hand.start) (hands_at table settled) (new.hand ∷ []) in
    ap (starts_at table) (append-nil begun)
    ∙ (turn ∙ (sym starts ∙ sym (append-nil (starts_of (hands_at table (settled ++ new ∷ []))))))

-- One is settled at another table.
settles-elsewhere : (table : ℕ) (begun : List Begun) (settled : List Settled) (new : Settled) (out : Option HandStart)
    → (new.hand.start.table == table) ≡ false → IsInTurn table begun settled out
    → IsInTurn table (begun ++ []) (settled ++ new ∷ []) out
settles-elsewhere table begun settled new out apart turn =
    let hands = hands-append table settled (new ∷ [])
    ∙ (ap (λ (hands : List HandTerms). hands_at table settled ++ hands) (hands-none table new apart)
    ∙ append-nil (hands_at table settled)) in
    ap (starts_at table) (append-nil begun)
    ∙ (turn ∙ ap (λ (hands : List HandTerms). starts_of hands ++ option_to_list out) (sym hands))

-- It stays so where one is settled, at the table the one that is out there.
pub settles-in_turn : (table : ℕ) (begun : List Begun) (settled : List Settled) (new : Settled)
    (before after : Option HandStart)
    → ((new.hand.start.table == table) ≡ true → (before ≡ Some new.hand.start) × (after ≡ None))
    → ((new.hand.start.table == table) ≡ false → after ≡ before) → IsInTurn table begun settled before
    → IsInTurn table (begun ++ []) (settled ++ new ∷ []) after
settles-in_turn table begun settled new before after here elsewhere turn =
    elim (cases_Bool (new.hand.start.table == table)) [
      | inl mine ↦ subst (IsInTurn table (begun ++ []) (settled ++ new ∷ [])) (sym (here mine).1)
          (settles-here table begun settled new mine (subst (IsInTurn table begun settled) (here mine).0 turn))
      | inr apart ↦ subst (IsInTurn table (begun ++ []) (settled ++ new ∷ [])) (sym (elsewhere apart))
          (settles-elsewhere table begun settled new before apart turn)
    ]
