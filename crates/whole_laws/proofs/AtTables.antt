-- Which of those hands that began, and of those that were settled, are of a table.
use Rattle.std.proofs.Common.{◌≡◌, ◌∙◌, ap, ℕ, Bool, true, false, cond, List, [], ◌∷◌, ◌++◌, map}
use Rattle.std.specs.Prelude.{◌==◌, filter}
use Rattle.std.proofs.lemmas.List.{map-append}
use Rattle.std.proofs.lemmas.List.Elements.{filter-append}
use Rattle.table_engine.specs.declared.start.HandStart.{HandStart}
use Rattle.table_engine.specs.Hands.{HandTerms}
use Rattle.dock_rules.specs.Journals.{Begun, Settled}

-- the starts of those hands that began at a table
abbrev pub starts_at : ℕ → List Begun → List HandStart
starts_at table begun = map (λ (one : Begun). one.start) (filter (λ (one : Begun). one.start.table == table) begun)

-- those hands that were settled at a table
abbrev pub hands_at : ℕ → List Settled → List HandTerms
hands_at table settled =
    map (λ (one : Settled). one.hand) (filter (λ (one : Settled). one.hand.start.table == table) settled)

-- The starts of hands and of others behind them.
pub starts-append : (table : ℕ) (begun more : List Begun)
    → starts_at table (begun ++ more) ≡ starts_at table begun ++ starts_at table more
starts-append table begun more =
    ap (map (λ (one : Begun). one.start)) (filter-append (λ (one : Begun). one.start.table == table) begun more)
    ∙ map-append (λ (one : Begun). one.start) (filter (λ (one : Begun). one.start.table == table) begun)
    (filter (λ (one : Begun). one.start.table == table) more)

-- The hands that were settled and others behind them.
pub hands-append : (table : ℕ) (settled more : List Settled)
    → hands_at table (settled ++ more) ≡ hands_at table settled ++ hands_at table more
hands-append table settled more =
    ap (map (λ (one : Settled). one.hand))
    (filter-append (λ (one : Settled). one.hand.start.table == table) settled more)
    ∙ map-append (λ (one : Settled). one.hand)
    (filter (λ (one : Settled). one.hand.start.table == table) settled)
    (filter (λ (one : Settled). one.hand.start.table == table) more)

-- A hand that begins at a table is one there.
pub starts-one : (table : ℕ) (new : Begun) → (new.start.table == table) ≡ true
    → starts_at table (new ∷ []) ≡ new.start ∷ []
starts-one table new here = ap (λ (mine : Bool). map (λ (one : Begun). one.start) (cond mine (new ∷ []) [])) here

-- One that begins at another table is none there.
pub starts-none : (table : ℕ) (new : Begun) → (new.start.table == table) ≡ false → starts_at table (new ∷ []) ≡ []
starts-none table new apart = ap (λ (mine : Bool). map (λ (one : Begun). one.start) (cond mine (new ∷ []) [])) apart

-- A hand that is settled at a table is one there.
pub hands-one : (table : ℕ) (new : Settled) → (new.hand.start.table == table) ≡ true
    → hands_at table (new ∷ []) ≡ new.hand ∷ []
hands-one table new here = ap (λ (mine : Bool). map (λ (one : Settled). one.hand) (cond mine (new ∷ []) [])) here

-- One that is settled at another table is none there.
pub hands-none : (table : ℕ) (new : Settled) → (new.hand.start.table == table) ≡ false
    → hands_at table (new ∷ []) ≡ []
hands-none table new apart = ap (λ (mine : Bool). map (λ (one : Settled). one.hand) (cond mine (new ∷ []) [])) apart
