-- A table is watched from its first entry on.
use Rattle.std.proofs.Common.{◌≡◌, ◌∙◌, refl, sym, ap, ℕ, ◌+◌, ◌-◌, Bool, true, false, List, Option, Some, None, arith, slice_set}
use Rattle.std.specs.Prelude.{◌&&◌, is_none, slice_get, if◌then◌else◌}
use Rattle.std.specs.Option.{option_flatten}
use Rattle.level_plan.specs.Items.{is_between}
use Rattle.session_lines.specs.declared.meaning.Meaning.TheVariants.{Asks}
use Rattle.session_lines.specs.declared.request.Request.TheVariants as requests
use Rattle.session_desk.specs.declared.told.Watch.{Watch}
use Rattle.session_desk.specs.Telling.{Reach, first_watch, reach_after, viewer_of, watch_of}
use Rattle.session_desk.proofs.Rows.{at-table}

-- both tests hold
both-hold : (there free : Bool) (some others : List (Option Watch)) → there ≡ true → free ≡ true
    → (if there && free then some else others) ≡ some
both-hold true true some others one two = refl
both-hold true false some others one two = absurd (cc (two))
both-hold false free some others one two = absurd (cc (one))

-- the watch of a table, by its index
pub watch-at : (told : Reach) (index : ℕ) (watch : Option Watch) → slice_get told.watches index ≡ Some watch
    → watch_of told (index + 1) ≡ watch
watch-at told index watch is = ap option_flatten (at-table told.watches index ∙ is)

-- A table that was not watched is watched from now on.
pub watched-new : (told : Reach) (count table index : ℕ) (watch : Watch) → is_between 1 count table ≡ true
    → table ≡ index + 1 → slice_get told.watches index ≡ Some None
    → watch ≡ first_watch (viewer_of told.speaker) table
    → record told { watches = slice_set told.watches index (Some watch) }
    ≡ reach_after count (Some (Asks (requests.Watch table))) told
watched-new told count table index watch there its free begun =
    let none : watch_of told table ≡ None = ap (watch_of told) its ∙ watch-at told index None free in
    let test : is_none (watch_of told table) ≡ true = ap is_none none in
    let place : index ≡ table - 1 = omega (arith, its) in
    let whole : slice_set told.watches index (Some watch)
    ≡ slice_set told.watches (table - 1) (Some (first_watch (viewer_of told.speaker) table)) =
    ap (λ (k : ℕ). slice_set told.watches k (Some watch)) place
    ∙ ap (λ (w : Watch). slice_set told.watches (table - 1) (Some w)) begun in
    ap (λ (watches : List (Option Watch)). let r : Reach = record told { watches = watches } in r)
    (whole ∙ sym (both-hold (is_between 1 count table) (is_none (watch_of told table))
    (slice_set told.watches (table - 1) (Some (first_watch (viewer_of told.speaker) table))) told.watches there test))
