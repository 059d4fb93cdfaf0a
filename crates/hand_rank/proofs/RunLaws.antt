-- Runs of five ranks among ranks that occur.
use Rattle.std.proofs.Common.{◌≡◌, ℕ, ◌-◌, ◌<◌, ◌≤◌, ◌⊎◌, inl, inr, Bool, true, false, ◌&&◌, cond, eqb, leb, List, [], ◌∷◌, Some, None, refl, sym, ap, ◌∙◌, subst, eqb-true, eq-eqb, leb-true, le-leb, arith}
use Rattle.std.specs.Cmp.Lexicographic.{pointwise}
use Rattle.std.proofs.lemmas.Bool.{and_from, and_parts, or_cases, or_left, or_right}
use Rattle.std.proofs.lemmas.Bool.Decides.{nat_tests}
use Rattle.hand_rank.specs.Picks.{highest_below, without}
use Rattle.hand_rank.specs.Runs.{holds_step, is_run, highest_run}
use Rattle.hand_rank.specs.Values.{run_top}
use Rattle.hand_rank.proofs.PickLaws.{highest-is, highest-none, Has, without-other}
use Rattle.hand_rank.proofs.Needs.{Among}

-- a test passes wherever another does
abbrev pub Implies : (ℕ → Bool) → (ℕ → Bool) → Type 0
Implies p q = (r : ℕ) → p r ≡ true → q r ≡ true

holds_step-more : (p q : ℕ → Bool) → Implies p q → Implies (holds_step p) (holds_step q)
holds_step-more p q more step h =
    elim (or_cases (p step) (eqb step 1 && p 14) h) [
      | inl here ↦ or_left (q step) (eqb step 1 && q 14) (more step here)
      | inr ace ↦
          let parts = and_parts (eqb step 1) (p 14) ace in
          or_right (q step) (eqb step 1 && q 14) (and_from (eqb step 1) (q 14) parts.0 (more 14 parts.1))
    ]

-- each of the five steps of a run is held
pub run_parts : (p : ℕ → Bool) (t : ℕ) → is_run p t ≡ true
    → (holds_step p t ≡ true) × (holds_step p (t - 1) ≡ true) × (holds_step p (t - 2) ≡ true)
    × (holds_step p (t - 3) ≡ true) × (holds_step p (t - 4) ≡ true)
run_parts p t h =
    let a = and_parts (holds_step p t && holds_step p (t - 1) && holds_step p (t - 2) && holds_step p (t - 3))
    (holds_step p (t - 4)) h in
    let b = and_parts (holds_step p t && holds_step p (t - 1) && holds_step p (t - 2)) (holds_step p (t - 3)) a.0 in
    let c = and_parts (holds_step p t && holds_step p (t - 1)) (holds_step p (t - 2)) b.0 in
    let d = and_parts (holds_step p t) (holds_step p (t - 1)) c.0 in
    (d.0, d.1, c.1, b.1, a.1)

-- five steps in a row that are held make a run to the highest of them
pub run_from : (p : ℕ → Bool) (t : ℕ) → holds_step p t ≡ true → holds_step p (t - 1) ≡ true → holds_step p (t - 2)
    ≡ true
    → holds_step p (t - 3) ≡ true → holds_step p (t - 4) ≡ true → is_run p t ≡ true
run_from p t a b c d e =
    and_from _ _ (and_from _ _ (and_from _ _ (and_from _ _ a b) c) d) e

-- a run to a rank stays one when further ranks are held and none is lost
pub is_run-more : (p q : ℕ → Bool) (t : ℕ) → Implies p q → is_run p t ≡ true → is_run q t ≡ true
is_run-more p q t more is =
    let parts = run_parts p t is in
    let held = holds_step-more p q more in
    run_from q t (held t parts.0) (held (t - 1) parts.1) (held (t - 2) parts.2) (held (t - 3) parts.3)
    (held (t - 4) parts.4)

-- there is a highest run, no lower than one that there is
pub run-found : (p : ℕ → Bool) (t : ℕ) → 5 ≤ t → t < 15 → is_run p t ≡ true
    → (top : ℕ) × (highest_run p ≡ Some top) × (t ≤ top)
unfolding highest_run
run-found p t low high is =
    let test : ℕ → Bool = λ top. leb 5 top && is_run p top in
    let passes : test t ≡ true = and_from (leb 5 t) (is_run p t) (le-leb 5 t low) is in
    elim (highest_below test 15) as (λ o. highest_below test 15 ≡ o → (top : ℕ) × (o ≡ Some top) × (t ≤ top)) [
      | None ↦ λ none. let fails = highest-none test 15 t none high in absurd cc
      | Some top ↦ λ some. let found = highest-is test 15 top some in (top, refl, found.above t high passes)
    ] refl

-- the highest run is one
pub record IsRunTo (p : ℕ → Bool) (top : ℕ) : Type 0 where
  pub low : 5 ≤ top
  pub high : top < 15
  pub runs : is_run p top ≡ true

-- the highest run, if there is one, has five steps in a row that are all held, and a top from the five to the ace
pub run-is : (p : ℕ → Bool) (top : ℕ) → highest_run p ≡ Some top → IsRunTo p top
unfolding highest_run
run-is p top is =
    let test : ℕ → Bool = λ t. leb 5 t && is_run p t in
    let found = highest-is test 15 top is in
    let parts = and_parts (leb 5 top) (is_run p top) found.passes in
    record { low = leb-true 5 top parts.0; high = found.below; runs = parts.1 }

-- two tests that pass the same ranks have the same highest run
pub run-same : (p q : ℕ → Bool) → ((r : ℕ) → p r ≡ q r) → highest_run p ≡ highest_run q
unfolding highest_run
run-same p q same = λ i. highest_below (λ top. leb 5 top && is_run (λ r. same r i) top) 15

-- ranks that occur
abbrev pub occurring : (ℕ → ℕ) → ℕ → Bool
occurring count r = leb 1 (count r)

-- the lowest step of a run: the ace where it is below the two
step-held : (count : ℕ → ℕ) (step : ℕ) → 2 ≤ step → holds_step (occurring count) step ≡ true → 1 ≤ count step
step-held count step high h =
    elim (or_cases (occurring count step) (eqb step 1 && occurring count 14) h) [
      | inl here ↦ leb-true 1 (count step) here
      | inr ace ↦ let one = eqb-true step 1 (and_parts (eqb step 1) (occurring count 14) ace).0 in
          absurd (omega arith)
    ]

lowest-held : (count : ℕ → ℕ) (step : ℕ) → holds_step (occurring count) step ≡ true
    → (1 ≤ count step) ⊎ ((step ≡ 1) × (1 ≤ count 14))
lowest-held count step h =
    elim (or_cases (occurring count step) (eqb step 1 && occurring count 14) h) [
      | inl here ↦ inl (leb-true 1 (count step) here)
      | inr ace ↦ let parts = and_parts (eqb step 1) (occurring count 14) ace in
          inr (eqb-true step 1 parts.0, leb-true 1 (count 14) parts.1)
    ]

-- five different ranks that occur
five-have : (count : ℕ → ℕ) (a b c d e : ℕ) → a < 15 → b < 15 → c < 15 → d < 15 → e < 15
    → (b ≡ a → ⊥) → (c ≡ a → ⊥) → (c ≡ b → ⊥) → (d ≡ a → ⊥) → (d ≡ b → ⊥) → (d ≡ c → ⊥) → (e ≡ a → ⊥) → (e ≡ b → ⊥)
    → (e ≡ c → ⊥) → (e ≡ d → ⊥)
    → 1 ≤ count a → 1 ≤ count b → 1 ≤ count c → 1 ≤ count d → 1 ≤ count e
    → Has (1 ∷ 1 ∷ 1 ∷ 1 ∷ 1 ∷ []) (a ∷ b ∷ c ∷ d ∷ e ∷ []) count
five-have count a b c d e wa wb wc wd we ba ca cb da db dc ea eb ec ed oa ob oc od oe =
    let b1 = without-other a b count ba in
    let c1 = without-other a c count ca in
    let c2 = without-other b c (without a count) cb in
    let d1 = without-other a d count da in
    let d2 = without-other b d (without a count) db in
    let d3 = without-other c d (without b (without a count)) dc in
    let e1 = without-other a e count ea in
    let e2 = without-other b e (without a count) eb in
    let e3 = without-other c e (without b (without a count)) ec in
    let e4 = without-other d e (without c (without b (without a count))) ed in
    (wa, oa, (wb, omega arith, (wc, omega arith, (wd, omega arith, (we, omega arith, tt)))))

-- the five ranks of a run: the last is the ace in the run to the five
pub record RunRanks (count : ℕ → ℕ) (top : ℕ) : Type 0 where
  pub last : ℕ
  pub which : (last ≡ top - 4) ⊎ ((top ≡ 5) × (last ≡ 14))
  pub have : Has (1 ∷ 1 ∷ 1 ∷ 1 ∷ 1 ∷ []) (top ∷ (top - 1) ∷ (top - 2) ∷ (top - 3) ∷ last ∷ []) count

-- where the rank one does not occur, a run has five different ranks that occur, and the ace is the last in the run to
-- the five
pub run-ranks : (count : ℕ → ℕ) (top : ℕ) → count 1 ≡ 0 → IsRunTo (occurring count) top → RunRanks count top
run-ranks count top none is =
    let t = top in
    let low = is.low in
    let high = is.high in
    let parts = run_parts (occurring count) t is.runs in
    let one = step-held count t (omega arith) parts.0 in
    let two = step-held count (t - 1) (omega arith) parts.1 in
    let three = step-held count (t - 2) (omega arith) parts.2 in
    let four = step-held count (t - 3) (omega arith) parts.3 in
    elim (lowest-held count (t - 4) parts.4) [
      | inl here ↦ record {
        last = t - 4;
        which = inl refl;
        have = five-have count t (t - 1) (t - 2) (t - 3) (t - 4) (omega arith) (omega arith) (omega arith) (omega arith)
            (omega arith)
            (omega arith) (omega arith) (omega arith) (omega arith) (omega arith) (omega arith) (omega arith)
            (omega arith) (omega arith) (omega arith) one two three four here;
      }
      | inr ace ↦
          let step = ace.0 in
          record {
            last = 14;
            which = inr (omega arith, refl);
            have = five-have count t (t - 1) (t - 2) (t - 3) 14 (omega arith) (omega arith) (omega arith) (omega arith)
                (omega arith)
                (omega arith) (omega arith) (omega arith) (omega arith) (omega arith) (omega arith) (omega arith)
                (omega arith) (omega arith) (omega arith) one two three four ace.1;
          }
    ]

-- five ranks that fall and occur
pub record AreFive (count : ℕ → ℕ) (ranks : List ℕ) : Type 0 where
  pub a : ℕ
  pub b : ℕ
  pub c : ℕ
  pub d : ℕ
  pub e : ℕ
  pub are : ranks ≡ a ∷ b ∷ c ∷ d ∷ e ∷ []
  pub top : a < 15
  pub ab : b < a
  pub bc : c < b
  pub cd : d < c
  pub de : e < d
  pub has_a : 1 ≤ count a
  pub has_b : 1 ≤ count b
  pub has_c : 1 ≤ count c
  pub has_d : 1 ≤ count d
  pub has_e : 1 ≤ count e

-- the ace and the ranks from the five down
is_wheel : (a b c d e : ℕ) → Bool
is_wheel a b c d e = pointwise eqb (a ∷ b ∷ c ∷ d ∷ e ∷ []) (14 ∷ 5 ∷ 4 ∷ 3 ∷ 2 ∷ [])

wheel-is : (a b c d e : ℕ) → is_wheel a b c d e ≡ true → (a ≡ 14) × (b ≡ 5) × (c ≡ 4) × (d ≡ 3) × (e ≡ 2)
unfolding is_wheel
wheel-is a b c d e is = (
  grind (arith, nat_tests),
  grind (arith, nat_tests),
  grind (arith, nat_tests),
  grind (arith, nat_tests),
  grind
      (arith, nat_tests),
)

wheel-of : (a b c d e : ℕ) → a ≡ 14 → b ≡ 5 → c ≡ 4 → d ≡ 3 → e ≡ 2 → is_wheel a b c d e ≡ true
unfolding is_wheel
wheel-of a b c d e p q r s t = rw (p, q, r, s, t) refl

held : (count : ℕ → ℕ) (r step : ℕ) → r ≡ step → 1 ≤ count r → holds_step (occurring count) step ≡ true
held count r step is some =
    or_left (occurring count step) (eqb step 1 && occurring count 14)
    (subst (λ p. leb 1 (count p) ≡ true) is (le-leb 1 (count r) some))

-- the top of five ranks that run is that of a run
pub five-run : (count : ℕ → ℕ) (a b c d e top : ℕ) → a < 15 → b < a → c < b → d < c → e < d → 2 ≤ e
    → 1 ≤ count a → 1 ≤ count b → 1 ≤ count c → 1 ≤ count d → 1 ≤ count e
    → run_top (a ∷ b ∷ c ∷ d ∷ e ∷ []) ≡ Some top → IsRunTo (occurring count) top
unfolding is_wheel
five-run count a b c d e top high ab bc cd de low oa ob oc od oe is =
    (elim (is_wheel a b c d e) as (λ w. is_wheel a b c d e ≡ w
    → cond w (Some 5) (cond (eqb (a - e) 4) (Some a) None) ≡ Some top → IsRunTo (occurring count) top) [
      | true ↦ λ wheel found.
          let five : 5 ≡ top = cc in
          let parts = wheel-is a b c d e wheel in
          let ace : holds_step (occurring count) 1 ≡ true =
          or_right (occurring count 1) (eqb 1 1 && occurring count 14)
          (subst (λ r. leb 1 (count r) ≡ true) parts.0 (le-leb 1 (count a) oa)) in
          subst (λ t. IsRunTo (occurring count) t) five
          (record {
            low = omega arith;
            high = omega arith;
            runs =
                run_from (occurring count) 5 (held count b 5 parts.1 ob) (held count c 4 parts.2 oc)
                (held count d 3 parts.3 od) (held count e 2 parts.4 oe) ace;
          })
      | false ↦ λ not_wheel found.
          (elim (eqb (a - e) 4) as (λ w. eqb (a - e) 4 ≡ w → cond w (Some a) None ≡ Some top
          → IsRunTo (occurring count) top) [
            | true ↦ λ apart same.
                let is_top : a ≡ top = cc in
                let four = eqb-true (a - e) 4 apart in
                subst (λ t. IsRunTo (occurring count) t) is_top
                (record {
                  low = omega arith;
                  high = high;
                  runs =
                      run_from (occurring count) a (held count a a refl oa) (held count b (a - 1) (omega arith) ob)
                      (held count c (a - 2) (omega arith) oc) (held count d (a - 3) (omega arith) od)
                      (held count e (a - 4) (omega arith) oe);
                })
            | false ↦ λ apart none. absurd cc
          ]) refl found
    ]) refl is

-- five ranks among those of a run have no lower top
pub run-five : (a b c d e top last : ℕ) → 5 ≤ top → b < a → c < b → d < c → e < d → 2 ≤ e
    → (last ≡ top - 4) ⊎ ((top ≡ 5) × (last ≡ 14))
    → Among a (top ∷ (top - 1) ∷ (top - 2) ∷ (top - 3) ∷ last ∷ [])
    → Among b (top ∷ (top - 1) ∷ (top - 2) ∷ (top - 3) ∷ last ∷ [])
    → Among c (top ∷ (top - 1) ∷ (top - 2) ∷ (top - 3) ∷ last ∷ [])
    → Among d (top ∷ (top - 1) ∷ (top - 2) ∷ (top - 3) ∷ last ∷ [])
    → Among e (top ∷ (top - 1) ∷ (top - 2) ∷ (top - 3) ∷ last ∷ [])
    → run_top (a ∷ b ∷ c ∷ d ∷ e ∷ []) ≡ Some top
unfolding is_wheel
run-five a b c d e top last high ab bc cd de low (inl is) in_a in_b in_c in_d in_e =
    let upper = within a top last is in_a in
    let lower = above e top last is in_e in
    let first : a ≡ top = omega arith in
    let far : eqb (a - e) 4 ≡ true = eq-eqb (a - e) 4 (omega arith) in
    elim (is_wheel a b c d e) as (λ w. is_wheel a b c d e ≡ w
    → cond w (Some 5) (cond (eqb (a - e) 4) (Some a) None) ≡ Some top) [
      | true ↦ λ wheel. let parts = wheel-is a b c d e wheel in absurd (omega arith)
      | false ↦ λ not_wheel. ap (λ w. cond w (Some a) None) far ∙ ap (λ t. Some t) first
    ] refl
  where
    within : (r top last : ℕ) → last ≡ top - 4 → Among r (top ∷ (top - 1) ∷ (top - 2) ∷ (top - 3) ∷ last ∷ []) → r ≤ top
    within r top last is among = grind arith

    above : (r top last : ℕ) → last ≡ top - 4 → Among r (top ∷ (top - 1) ∷ (top - 2) ∷ (top - 3) ∷ last ∷ [])
        → top - 4 ≤ r
    above r top last is among = grind arith
run-five a b c d e top last high ab bc cd de low (inr is) in_a in_b in_c in_d in_e =
    let five = is.0 in
    let ace = is.1 in
    let pa = either a top last five ace in_a in
    let pb = either b top last five ace in_b in
    let pc = either c top last five ace in_c in
    let pd = either d top last five ace in_d in
    let pe = either e top last five ace in_e in
    let wheel = wheel-of a b c d e (grind arith) (grind arith) (grind arith) (grind arith) (grind arith) in
    ap (λ w. cond w (Some 5) (cond (eqb (a - e) 4) (Some a) None)) wheel ∙ ap (λ t. Some t) (sym five)
  where
    either : (r top last : ℕ) → top ≡ 5 → last ≡ 14 → Among r (top ∷ (top - 1) ∷ (top - 2) ∷ (top - 3) ∷ last ∷ [])
        → (r ≤ 5) ⊎ (r ≡ 14)
    either r top last five ace among = grind arith
