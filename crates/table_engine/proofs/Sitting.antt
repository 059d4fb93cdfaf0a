-- Who sits in a seat of a table of players, and who else of the table passes a test.
use Rattle.std.proofs.Common.{◌≡◌, ◌≢◌, ◌∙◌, ℕ, zero, suc, ◌+◌, ◌-◌, ◌≤◌, ◌<◌, Bool, true, false, cond, List, [], ◌∷◌, get_or-set_other, length, map, Some, None, refl, ap, sym, inl, inr, arith}
use Rattle.std.specs.Prelude.{Option, ◌&&◌, ◌⊎◌, count_by, nat_lt, not, slice_index_or, slice_set}
use Rattle.std.specs.List.{list_any}
use Rattle.std.specs.Option.{is_some}
use Rattle.std.proofs.lemmas.Bool.{and_parts, cases_Bool, cases_lt, ltb-false, not-true, or_cases, or_parts}
use Rattle.rulebook.proofs.Passing.{count_by-none, not-any}
use Rattle.rulebook.proofs.Tests.{count_by-cons}
use Rattle.betting_round.specs.declared.bettor.Player.{Player}
use Rattle.betting_round.specs.WhoIsDue.{has_put_most, is_there, player_at}
use Rattle.betting_round.proofs.Turns.{slot-there}
use Rattle.table_engine.specs.declared.start.HandStart.{HandStart}
use Rattle.table_engine.specs.declared.start.StartSeat.{StartSeat}
use Rattle.table_engine.specs.Hands.{player_of, players_by_seat}
use Rattle.table_engine.proofs.Puts.{dealt-there, listed-found}
use Rattle.table_engine.proofs.Sound.{set-at}

-- This player sits in this seat.
pub record Sits (slots : List (Option Player)) (seat : ℕ) (now : Player) : Type 0 where
  pub low : 1 ≤ seat
  pub there : player_at slots seat ≡ Some now

-- Who is at an index sits in the seat after it.
pub sits-index : (slots : List (Option Player)) (index : ℕ) (now : Player) → slice_index_or slots index None ≡ Some now
    → Sits slots (index + 1) now
sits-index slots index now there =
    let back : index + 1 - 1 ≡ index = omega arith in
    record { low = omega arith; there = ap (λ (n : ℕ). slice_index_or slots n None) back ∙ there }

index-within : (slots : List (Option Player)) (index : ℕ) (now : Player) → slice_index_or slots index None ≡ Some now
    → index < length slots
index-within [] index now there = absurd cc
index-within (slot ∷ slots) zero now there = omega arith
index-within (slot ∷ slots) (suc index) now there =
    let later = index-within slots index now there in omega (arith, later)

-- Nobody sits past the last slot.
pub sits-within : (slots : List (Option Player)) (seat : ℕ) (now : Player) → Sits slots seat now → seat ≤ length slots
sits-within slots seat now sits =
    let within = index-within slots (seat - 1) now sits.there in let low = sits.low in omega (arith, within, low)

-- One player alone sits in a seat.
pub sits-same : (slots : List (Option Player)) (seat other : ℕ) (now found : Player) → Sits slots seat now
    → Sits slots other found → other ≡ seat → found ≡ now
sits-same slots seat other now found sits is same =
    let one = ap (player_at slots) same in
    let both : Some found ≡ Some now = sym is.there ∙ one ∙ sits.there in
    cc

-- Who sits in a seat of a table in which one was put into a seat.
pub sits-after : (slots : List (Option Player)) (seat other : ℕ) (now item found : Player) → Sits slots seat now
    → Sits (slice_set slots (seat - 1) (Some item)) other found
    → ((other ≡ seat) × (found ≡ item)) ⊎ ((other ≢ seat) × Sits slots other found)
sits-after slots seat other now item found was is =
    let low = was.low in
    let first = is.low in
    elim (set-at slots (seat - 1) (other - 1) now item found was.there is.there) [
      | inl here ↦ let index = here.0 in let same : other ≡ seat = omega (arith, index, low, first) in
          inl (same, here.1)
      | inr elsewhere ↦
          let apart : other ≢ seat = λ same. elsewhere.0 (ap (λ (n : ℕ). n - 1) same) in
          inr (apart, record { low = first; there = elsewhere.1 })
    ]

-- Who sits in a seat of a street was dealt in there.
pub sits-dealt : (start : HandStart) (slots : List (Option Player)) (seat : ℕ) (now : Player)
    → map is_some slots ≡ map is_some (players_by_seat start) → Sits slots seat now
    → (player : StartSeat) × (player_of start seat ≡ Some player)
sits-dealt start slots seat now there sits =
    let dealt = dealt-there start slots (seat - 1) now there sits.there in
    let found = listed-found start (seat - 1) dealt.0 dealt.1 in
    let low = sits.low in
    let index = found.0 in
    let same : dealt.0.seat ≡ seat = omega (arith, low, index) in
    (dealt.0, ap (player_of start) (sym same) ∙ found.1)

put-at : (slots : List (Option Player)) (index : ℕ) (now item : Player) → slice_index_or slots index None ≡ Some now
    → slice_index_or (slice_set slots index (Some item)) index None ≡ Some item
put-at [] index now item there = absurd cc
put-at (slot ∷ slots) zero now item there = refl
put-at (slot ∷ slots) (suc index) now item there = put-at slots index now item there

-- Who was put into a seat sits there.
pub sits-put : (slots : List (Option Player)) (seat : ℕ) (now item : Player) → Sits slots seat now
    → Sits (slice_set slots (seat - 1) (Some item)) seat item
sits-put slots seat now item was =
    record { low = was.low; there = put-at slots (seat - 1) now item was.there }

-- Who sits in another seat stays there.
pub sits-kept : (slots : List (Option Player)) (seat other : ℕ) (item found : Player) → 1 ≤ seat → other ≢ seat
    → Sits slots other found → Sits (slice_set slots (seat - 1) (Some item)) other found
sits-kept slots seat other item found some apart is =
    let low = is.low in
    let index : other - 1 ≢ seat - 1 = λ same. apart (omega (arith, same, low, some)) in
    record {
      low = low;
      there = get_or-set_other slots (seat - 1) (other - 1) (Some item) None index ∙ is.there;
    }

-- Somebody of a table passes a test.
pub record Passes (test : Player → Bool) (slots : List (Option Player)) : Type 0 where
  pub index : ℕ
  pub found : Player
  pub there : slice_index_or slots index None ≡ Some found
  pub passes : test found ≡ true

abbrev one-later : (test : Player → Bool) (slot : Option Player) (slots : List (Option Player)) → Passes test slots
    → Passes test (slot ∷ slots)
one-later test slot slots some =
    record { index = suc some.index; found = some.found; there = some.there; passes = some.passes }

-- Where it is so that somebody passes a test, this one does.
pub some-passes : (test : Player → Bool) (slots : List (Option Player)) → list_any (is_there test) slots ≡ true
    → Passes test slots
some-passes test [] some = absurd cc
some-passes test (None ∷ slots) some = one-later test None slots (some-passes test slots some)
some-passes test (Some now ∷ slots) some =
    elim (or_cases (test now) (list_any (is_there test) slots) some) [
      | inl here ↦ record { index = 0; found = now; there = refl; passes = here }
      | inr more ↦ one-later test (Some now) slots (some-passes test slots more)
    ]

-- Nobody passes a test where none of those who do is in a slot.
pub none-there : (test : Player → Bool) (slots : List (Option Player)) (index : ℕ) (now : Player)
    → list_any (is_there test) slots ≡ false
    → slice_index_or slots index None ≡ Some now → test now ≡ false
none-there test [] index now none there = absurd cc
none-there test (None ∷ slots) zero now none there = absurd cc
none-there test (Some first ∷ slots) zero now none there =
    let same : first ≡ now = cc in rw (← same) (or_parts (test first) (list_any (is_there test) slots) none).0
none-there test (slot ∷ slots) (suc index) now none there =
    none-there test slots index now (or_parts (is_there test slot) (list_any (is_there test) slots) none).1 there

-- Who passes a test counts.
passes-count : (test : Player → Bool) (slots : List (Option Player)) → Passes test slots
    → 1 ≤ count_by (is_there test) slots
passes-count test slots some = along slots some.index some.found some.there some.passes
  where
    along : (slots : List (Option Player)) (index : ℕ) (found : Player) → slice_index_or slots index None ≡ Some found
        → test found ≡ true → 1 ≤ count_by (is_there test) slots
    along [] index found there passes = absurd cc
    along (slot ∷ slots) zero found there passes =
        let counts : cond {A = ℕ} (is_there test slot) 1 0 ≡ 1 = rw (there, passes) refl in
        let all = count_by-cons (is_there test) slot slots in
        omega (arith, counts, all)
    along (slot ∷ slots) (suc index) found there passes =
        let later = along slots index found there passes in
        let all = count_by-cons (is_there test) slot slots in
        omega (arith, later, all)

-- Another of a table than the one at an index passes a test.
pub record Another (test : Player → Bool) (slots : List (Option Player)) (index : ℕ) : Type 0 where
  pub some : Passes test slots
  pub apart : some.index ≢ index

-- Beside who passes a test another does, or he alone counts.
pub another-or_one : (test : Player → Bool) (slots : List (Option Player)) (index : ℕ) (now : Player)
    → slice_index_or slots index None ≡ Some now → test now ≡ true
    → Another test slots index ⊎ (count_by (is_there test) slots ≡ 1)
another-or_one test [] index now there passes = absurd cc
another-or_one test (slot ∷ slots) zero now there passes =
    let all = count_by-cons (is_there test) slot slots in
    let counts : cond {A = ℕ} (is_there test slot) 1 0 ≡ 1 = rw (there, passes) refl in
    elim (cases_Bool (list_any (is_there test) slots)) [
      | inl some ↦
          let apart : suc (some-passes test slots some).index ≢ 0 = λ same. omega arith in
          inl (record { some = one-later test slot slots (some-passes test slots some); apart = apart })
      | inr none ↦
          let nobody = count_by-none (is_there test) slots (sym (not-any (is_there test) slots) ∙ ap not none) in
          inr (omega (arith, all, counts, nobody))
    ]
another-or_one test (slot ∷ slots) (suc index) now there passes =
    let all = count_by-cons (is_there test) slot slots in
    elim (cases_Bool (is_there test slot)) [
      | inl here ↦
          let first = slot-there test slot here in
          let his : is_there test (Some first.0) ≡ true = ap (is_there test) (sym first.1) ∙ here in
          let apart : 0 ≢ suc index = λ same. omega arith in
          inl (record { some = record { index = 0; found = first.0; there = first.1; passes = his }; apart = apart })
      | inr fails ↦
          let counts : cond {A = ℕ} (is_there test slot) 1 0 ≡ 0 = rw fails refl in
          elim (another-or_one test slots index now there passes) [
            | inl other ↦
                let apart : suc other.some.index ≢ suc index = λ same. other.apart (omega (arith, same)) in
                inl (record { some = one-later test slot slots other.some; apart = apart })
            | inr one ↦ inr (omega (arith, all, counts, one))
          ]
    ]

-- Where one alone passes a test, and somebody passes it and a second one, the one does.
pub only-one : (test second : Player → Bool) (slots : List (Option Player)) (index : ℕ) (now : Player)
    → count_by (is_there test) slots ≡ 1 → list_any (is_there (λ player. test player && second player)) slots ≡ true
    → slice_index_or slots index None ≡ Some now → test now ≡ true → second now ≡ true
only-one test second [] index now one some there passes = absurd cc
only-one test second (slot ∷ slots) zero now one some there passes =
    let all = count_by-cons (is_there test) slot slots in
    let counts : cond {A = ℕ} (is_there test slot) 1 0 ≡ 1 = rw (there, passes) refl in
    elim (or_cases (is_there (λ player. test player && second player) slot)
    (list_any (is_there (λ player. test player && second player)) slots) some) [
      | inl here ↦
          let his : (test now && second now) ≡ true =
          ap (is_there (λ player. test player && second player)) (sym there) ∙ here in
          (and_parts (test now) (second now) his).1
      | inr more ↦
          let other = some-passes (λ player. test player && second player) slots more in
          let his = and_parts (test other.found) (second other.found) other.passes in
          let more_count = passes-count test slots
          (record { index = other.index; found = other.found; there = other.there; passes = his.0 }) in
          absurd (omega (arith, all, counts, more_count, one))
    ]
only-one test second (slot ∷ slots) (suc index) now one some there passes =
    let all = count_by-cons (is_there test) slot slots in
    let mine = passes-count test slots (record { index = index; found = now; there = there; passes = passes }) in
    elim (or_cases (is_there (λ player. test player && second player) slot)
    (list_any (is_there (λ player. test player && second player)) slots) some) [
      | inl here ↦
          let first = slot-there (λ player. test player && second player) slot here in
          let his : (test first.0 && second first.0) ≡ true =
          ap (is_there (λ player. test player && second player)) (sym first.1) ∙ here in
          let passes_too = (and_parts (test first.0) (second first.0) his).0 in
          let counts : cond {A = ℕ} (is_there test slot) 1 0 ≡ 1 = rw (first.1, passes_too) refl in
          absurd (omega (arith, all, counts, mine, one))
      | inr more ↦
          only-one test second slots index now (omega (arith, all, mine, one)) more there passes
    ]

-- Where somebody has put in the most no live player has put in more.
pub most-at : (slots : List (Option Player)) (put seat : ℕ) (now : Player) → has_put_most slots put ≡ true
    → Sits slots seat now → now.bettor.live ≡ true → now.bettor.put ≤ put
most-at slots put seat now most sits live =
    let test : Player → Bool = λ other. other.bettor.live && nat_lt put other.bettor.put in
    let none = not-true (list_any (is_there test) slots) (not-any (is_there test) slots ∙ most) in
    let his : (now.bettor.live && nat_lt put now.bettor.put) ≡ false =
    none-there test slots (seat - 1) now none sits.there in
    ltb-false put now.bettor.put (rw live at his)

-- A live player who has put in no less than any other live player.
pub record Greatest (slots : List (Option Player)) : Type 0 where
  pub index : ℕ
  pub found : Player
  pub there : slice_index_or slots index None ≡ Some found
  pub live : found.bettor.live ≡ true
  pub most : (other : ℕ) (now : Player) → slice_index_or slots other None ≡ Some now → now.bettor.live ≡ true
      → now.bettor.put ≤ found.bettor.put

-- Nobody is live.
abbrev NobodyLives : List (Option Player) → Type 0
NobodyLives slots = (index : ℕ) (now : Player) → slice_index_or slots index None ≡ Some now
    → now.bettor.live ≡ true → ⊥

-- Somebody has put in the most of those who are live, or nobody is live.
greatest-or_none : (slots : List (Option Player)) → Greatest slots ⊎ NobodyLives slots
greatest-or_none [] = inr (λ index now there live. cc)
greatest-or_none (slot ∷ slots) = by_slot slot slots (greatest-or_none slots)
  where
    past : (slot : Option Player) (slots : List (Option Player)) (later : Greatest slots)
        → ((now : Player) → slot ≡ Some now → now.bettor.live ≡ true → now.bettor.put ≤ later.found.bettor.put)
        → Greatest (slot ∷ slots)
    past slot slots later first = record {
      index = suc later.index;
      found = later.found;
      there = later.there;
      live = later.live;
      most = most;
    }
      where
        most : (other : ℕ) (now : Player) → slice_index_or (slot ∷ slots) other None ≡ Some now
            → now.bettor.live ≡ true → now.bettor.put ≤ later.found.bettor.put
        most zero now there live = first now there live
        most (suc other) now there live = later.most other now there live

    front : (now : Player) (slots : List (Option Player)) → now.bettor.live ≡ true
        → ((other : ℕ) (found : Player) → slice_index_or slots other None ≡ Some found → found.bettor.live ≡ true
        → found.bettor.put ≤ now.bettor.put)
        → Greatest (Some now ∷ slots)
    front now slots live rest = record { index = 0; found = now; there = refl; live = live; most = most }
      where
        most : (other : ℕ) (found : Player) → slice_index_or (Some now ∷ slots) other None ≡ Some found
            → found.bettor.live ≡ true → found.bettor.put ≤ now.bettor.put
        most zero found there live =
            let same : now ≡ found = cc in
            let put : now.bettor.put ≡ found.bettor.put = ap (λ (p : Player). p.bettor.put) same in
            omega (arith, put)
        most (suc other) found there live = rest other found there live

    nobody : (slot : Option Player) (slots : List (Option Player)) → NobodyLives slots
        → ((now : Player) → slot ≡ Some now → now.bettor.live ≡ true → ⊥) → NobodyLives (slot ∷ slots)
    nobody slot slots none first zero now there live = first now there live
    nobody slot slots none first (suc index) now there live = none index now there live

    by_slot : (slot : Option Player) (slots : List (Option Player)) → Greatest slots ⊎ NobodyLives slots
        → Greatest (slot ∷ slots) ⊎ NobodyLives (slot ∷ slots)
    by_slot None slots (inl later) = inl (past None slots later (λ now is live. absurd cc))
    by_slot None slots (inr none) = inr (nobody None slots none (λ now is live. cc))
    by_slot (Some now) slots (inl later) =
        elim (cases_lt later.found.bettor.put now.bettor.put) [
          | inl above ↦
              elim (cases_Bool now.bettor.live) [
                | inl live ↦ inl (front now slots live
                    (λ other found there lives.
                    let most = later.most other found there lives in omega (arith, most, above)))
                | inr folded ↦ inl (past (Some now) slots later
                    (λ other is live.
                    let same : now ≡ other = cc in
                    let lives : now.bettor.live ≡ other.bettor.live = ap (λ (p : Player). p.bettor.live) same in
                    let never : false ≡ true = sym folded ∙ lives ∙ live in
                    absurd cc))
              ]
          | inr below ↦ inl (past (Some now) slots later
              (λ other is live.
              let same : now ≡ other = cc in
              let put : now.bettor.put ≡ other.bettor.put = ap (λ (p : Player). p.bettor.put) same in
              omega (arith, put, below)))
        ]
    by_slot (Some now) slots (inr none) =
        elim (cases_Bool now.bettor.live) [
          | inl live ↦ inl (front now slots live (λ other found there lives. absurd (none other found there lives)))
          | inr folded ↦ inr (nobody (Some now) slots none
              (λ other is live.
              let same : now ≡ other = cc in
              let lives : now.bettor.live ≡ other.bettor.live = ap (λ (p : Player). p.bettor.live) same in
              let never : false ≡ true = sym folded ∙ lives ∙ live in
              cc))
        ]

-- Where somebody is live, somebody has put in the most of those who are.
pub greatest-live : (slots : List (Option Player)) (seat : ℕ) (now : Player) → Sits slots seat now
    → now.bettor.live ≡ true → Greatest slots
greatest-live slots seat now sits live =
    elim (greatest-or_none slots) [
      | inl most ↦ most
      | inr none ↦ absurd (none (seat - 1) now sits.there live)
    ]
