-- What a tournament may still take, part by part.
use Rattle.std.proofs.Common.{◌≡◌, ◌∙◌, refl, sym, ap, ℕ, ◌+◌, ◌-◌, ◌*◌, ◌<◌, ◌≤◌, Bool, true, false, List, length, ◌⊎◌, inl, inr, arith}
use Rattle.std.specs.Prelude.{◌||◌, count_by, if◌then◌else◌, is_some, Option}
use Rattle.std.proofs.lemmas.Bool.{cond_both}
use Rattle.level_plan.specs.Plans.{PlanTerms}
use Rattle.table_engine.specs.declared.start.HandStart.{HandStart}
use Rattle.tournament_rules.specs.Books.{BookState, start_at}
use Rattle.tournament_rules.specs.Checks.{is_playing}
use Rattle.tournament_rules.specs.States.{PlayState, hand_at}
use Rattle.tournament_rules.specs.Units.{is_due}
use Rattle.tournament_rules.specs.Valid.{IsValid}
use Rattle.simulation_rules.specs.declared.place.SimPlace.{SimPlace}
use Rattle.simulation_rules.specs.Effort.{effort_in_play, effort_of_entries, effort_of_hand, effort_of_hands, effort_of_levels, effort_of_orders, effort_of_places, most_acts}
use Rattle.simulation_rules.specs.Limits.{most_hands}
use Rattle.simulation_rules.specs.Places.{next_table}

-- what a tournament whose plan is whole may still take: none once it is stopped
abbrev pub left_in_play : PlayState → SimPlace → ℕ
left_in_play play place = if play.book.stopped then 0 else effort_in_play play place

-- the sum of the parts of what it may take while it is not stopped
abbrev pub sum_of_parts : PlayState → SimPlace → ℕ
sum_of_parts play place =
    effort_of_entries play.book + effort_of_orders play.book.seating + effort_of_levels play.book
    + effort_of_hands play.book + effort_of_hand (hand_at play place.table) + effort_of_places play.book place

-- It may take fewer steps where the sum of the parts is less.
pub falls_by_parts : (play later : PlayState) (place next : SimPlace)
    → sum_of_parts later next < sum_of_parts play place → left_in_play later next < effort_in_play play place
unfolding effort_in_play
falls_by_parts play later place next falls =
    cond_both {A = ℕ} later.book.stopped 0 (effort_in_play later next) (λ left. left < effort_in_play play place)
    (λ stopped. omega arith) (λ goes. omega (arith, falls))

-- While it is not stopped it may take two steps or more.
pub two-left : (play : PlayState) (place : SimPlace) → place.table ≤ play.book.plan.tables
    → 2 ≤ effort_in_play play place
unfolding effort_in_play
two-left play place last = omega (arith, last)

-- Levels and races take as many where the plan, the level and the number of pending races are the same.
pub levels-same : (later book : BookState) → later.plan ≡ book.plan → later.level ≡ book.level
    → count_by is_due later.seating.tables ≡ count_by is_due book.seating.tables
    → effort_of_levels later ≡ effort_of_levels book
unfolding effort_of_levels
levels-same later book plan level due = λ i. 65 * (length (plan i).blinds - level i) + due i

-- They take fewer where one race fewer is pending.
pub levels-raced : (later book : BookState) → later.plan ≡ book.plan → later.level ≡ book.level
    → count_by is_due later.seating.tables + 1 ≡ count_by is_due book.seating.tables
    → effort_of_levels later < effort_of_levels book
unfolding effort_of_levels
levels-raced later book plan level due =
    let same : 65 * (length later.plan.blinds - later.level) ≡ 65 * (length book.plan.blinds - book.level) =
    λ i. 65 * (length (plan i).blinds - level i) in
    omega (arith, same, due)

-- And where a level came which announced a race at 64 tables at most.
pub levels-rose : (later book : BookState) → later.plan ≡ book.plan → later.level ≡ book.level + 1
    → book.level < length book.plan.blinds → count_by is_due later.seating.tables ≤ 64
    → effort_of_levels later < effort_of_levels book
unfolding effort_of_levels
levels-rose later book plan level further few =
    let blinds = ap (λ (plan : PlanTerms). length plan.blinds) plan in
    omega (arith, blinds, level, further, few)

-- Hands that may still begin take as many where the plan and the number of begun hands are the same.
pub hands-same : (later book : BookState) → later.plan ≡ book.plan → later.begun ≡ book.begun
    → effort_of_hands later ≡ effort_of_hands book
unfolding effort_of_hands
hands-same later book plan begun = λ i. (most_hands - begun i) * (most_acts + (plan i).tables + 3)

product-next : (more fewer each : ℕ) → more ≡ fewer + 1 → more * each ≡ fewer * each + each
product-next more fewer each is = ap (λ (n : ℕ). n * each) is ∙ omega arith

-- A hand that begins has had its part.
pub hands-begun : (later book : BookState) → later.plan ≡ book.plan → later.begun ≡ book.begun + 1
    → book.begun < most_hands → effort_of_hands later + (most_acts + book.plan.tables + 3) ≡ effort_of_hands book
unfolding effort_of_hands
hands-begun later book plan begun few =
    let each : ℕ = most_acts + book.plan.tables + 3 in
    let fewer : most_hands - book.begun ≡ (most_hands - later.begun) + 1 = omega (arith, begun, few) in
    let next = product-next (most_hands - book.begun) (most_hands - later.begun) each fewer in
    let same = ap (λ (plan : PlanTerms). (most_hands - later.begun) * (most_acts + plan.tables + 3)) plan in
    omega (arith, next, same)

-- Places take as many where the plan is the same and a hand is played at the place's table or not, as before.
pub places-same : (later book : BookState) (place : SimPlace) → later.plan ≡ book.plan
    → is_playing later place.table ≡ is_playing book place.table
    → effort_of_places later place ≡ effort_of_places book place
places-same later book place plan playing =
    λ i. ((plan i).tables + 1 - place.table) + (if place.any_played || playing i then (plan i).tables + 1 else 0)

-- They take those of two rounds at most.
pub places-most : (book : BookState) (place : SimPlace)
    → effort_of_places book place ≤ (book.plan.tables + 1 - place.table) + (book.plan.tables + 1)
places-most book place =
    cond_both {A = ℕ} (place.any_played || is_playing book place.table) (book.plan.tables + 1) 0
    (λ owed. (book.plan.tables + 1 - place.table) + owed
    ≤ (book.plan.tables + 1 - place.table) + (book.plan.tables + 1))
    (λ is. omega arith) (λ is. omega arith)

-- They take those of this round at least.
pub places-least : (book : BookState) (place : SimPlace)
    → book.plan.tables + 1 - place.table ≤ effort_of_places book place
places-least book place = omega arith

-- Where a hand was played in the round, or is played, they take those of two rounds.
pub places-owed : (book : BookState) (place : SimPlace)
    → (place.any_played ≡ true) ⊎ (is_playing book place.table ≡ true)
    → effort_of_places book place ≡ (book.plan.tables + 1 - place.table) + (book.plan.tables + 1)
places-owed book place (inl any) =
    ap (λ b. (book.plan.tables + 1 - place.table)
    + (if b || is_playing book place.table then book.plan.tables + 1 else 0)) any
places-owed book place (inr playing) = by_any place.any_played
  where
    by_any : (any : Bool) → (book.plan.tables + 1 - place.table)
        + (if any || is_playing book place.table then book.plan.tables + 1 else 0)
        ≡ (book.plan.tables + 1 - place.table) + (book.plan.tables + 1)
    by_any true = refl
    by_any false = rw playing refl

-- Where no hand was played in the round, nor is, they take those of this round alone.
pub places-none : (book : BookState) (place : SimPlace) → place.any_played ≡ false
    → is_playing book place.table ≡ false → effort_of_places book place ≡ book.plan.tables + 1 - place.table
places-none book place none rests =
    let nothing : (if place.any_played || is_playing book place.table then book.plan.tables + 1 else 0) ≡ 0 =
    λ i. if none i || rests i then book.plan.tables + 1 else 0 in
    omega (arith, nothing)

owed-least : (any other : Bool) (tables : ℕ)
    → (if any || false then tables else 0) ≤ (if any || other then tables else 0)
owed-least true other tables = omega arith
owed-least false other tables = omega arith

-- They take fewer at the next table, where no hand is played there.
pub places-next : (book : BookState) (place : SimPlace) → place.table < book.plan.tables
    → is_playing book (place.table + 1) ≡ false → effort_of_places book (next_table place) < effort_of_places book place
places-next book place further rests =
    let owed = owed-least place.any_played (is_playing book place.table) (book.plan.tables + 1) in
    let here : (if place.any_played || is_playing book (place.table + 1) then book.plan.tables + 1 else 0)
    ≡ (if place.any_played || false then book.plan.tables + 1 else 0) =
    λ i. if place.any_played || rests i then book.plan.tables + 1 else 0 in
    omega (arith, further, owed, here)

-- Where the book has the same starts, the same tables play.
pub still-playing : (later book : BookState) → IsValid later → IsValid book → later.started ≡ book.started
    → (table : ℕ) → is_playing later table ≡ is_playing book table
still-playing later book after before started table =
    after.tables.playing table
    ∙ (ap (λ (started : List (Option HandStart)). is_some (start_at started table)) started
    ∙ sym (before.tables.playing table))
