-- The standing of a client behind an exchange.
use Rattle.std.proofs.Common.{◌≡◌, ◌≢◌, ◌∙◌, refl, sym, ap, ℕ, ◌+◌, ◌-◌, ◌<◌, Bool, true, false, List, Option, Some, None, length, length-set, arith}
use Rattle.std.specs.Prelude.{◌==◌, ◌&&◌, ◌||◌, is_none, is_some, slice_set, if◌then◌else◌}
use Rattle.std.proofs.Math.Bool.{or-false}
use Rattle.std.proofs.lemmas.Bool.{and_from, and_parts, or_right}
use Rattle.std.proofs.lemmas.Bool.Decides.{nat_tests}
use Rattle.level_plan.specs.Items.{is_between}
use Rattle.view_rules.specs.declared.entries.TableEntry.{TableEntry}
use Rattle.view_rules.specs.Spelling.{ViewLine}
use Rattle.plan_files.specs.Words.{WordTerms}
use Rattle.session_lines.specs.declared.hello.Speaker.{Speaker}
use Rattle.session_lines.specs.declared.meaning.Meaning.TheVariants as meanings
use Rattle.session_lines.specs.declared.meaning.Meaning.{Meaning}
use Rattle.session_lines.specs.declared.request.Request.TheVariants as requests
use Rattle.session_desk.specs.declared.told.Watch.{Watch}
use Rattle.session_desk.specs.Desks.{Sights}
use Rattle.session_desk.specs.Exchanges.{Exchange, News}
use Rattle.session_desk.specs.Standings.{asks_to_watch, meaning_said, speaker_after, standing_after}
use Rattle.session_desk.specs.Telling.{AreNews, IsTableTold, Reach, first_watch, reach_after, standing_of, viewer_of, watch_of, watches_after}
use Rattle.session_desk.proofs.Meant.{same-speaker, there-index}
use Rattle.session_desk.proofs.NewsTold.{set-either}

-- a table of which news are told is watched before and after, or never
watched-both : (history : List TableEntry) (before after : Option Watch) (lines : List ViewLine)
    → IsTableTold history before after lines → is_some after ≡ is_some before
watched-both history None None lines told = refl
watched-both history None (Some watch) lines told = absurd told
watched-both history (Some watch) None lines told = absurd told
watched-both history (Some before) (Some after) lines told = refl

-- The same tables are watched once the news are told.
pub same-watched : (speaker : Option Speaker) (seen : Sights) (before after : Reach) (news : News) (behind : Bool)
    (table : ℕ) → AreNews speaker seen before after news behind
    → is_some (watch_of after table) ≡ is_some (watch_of before table)
same-watched None seen before after news behind table told = ap (λ (r : Reach). is_some (watch_of r table)) told.same
same-watched (Some speaker) seen before after news behind table told =
    watched-both (seen.tables table) (watch_of before table) (watch_of after table) (news.tables table)
    (told.tables table)

-- a table is watched where it was, or where it is set
or-set : (there free : Bool) (other table index : ℕ) (was : Option Watch)
    → ((there && free) ≡ true → other ≡ index + 1) → (table ≡ other → free ≡ is_none was)
    → ((there && free) ≡ true → table ≢ index + 1) → is_some was ≡ (is_some was || (there && (other == table)))
or-set there free other table index (Some was) at same elsewhere = refl
or-set false free other table index None at same elsewhere = refl
or-set true free other table index None at same elsewhere =
    let apart : table ≢ other = λ is. elsewhere (same is) (is ∙ at (same is)) in
    grind (arith, nat_tests)

set-watched : (there free : Bool) (told : Reach) (index other : ℕ) (first : Watch) (table : ℕ)
    → ((there && free) ≡ true → (index < length told.watches) × (other ≡ index + 1))
    → free ≡ is_none (watch_of told other)
    → is_some (watch_of (record told {
      watches = if there && free then slice_set told.watches index (Some first) else told.watches;
    }) table)
    ≡ (is_some (watch_of told table) || (there && (other == table)))
set-watched there free told index other first table within is =
    let was : Option Watch = watch_of told table in
    set-either (λ (watch : Option Watch). is_some watch ≡ (is_some was || (there && (other == table))))
    (there && free) told index first table (λ so. (within so).0)
    (λ so here.
    let both = and_parts there free so in
    let same : (other == table) ≡ true = let at = (within so).1 in grind (arith, nat_tests) in
    sym (or_right (is_some was) (there && (other == table)) (and_from there (other == table) both.0 same)))
    (or-set there free other table index was (λ so. (within so).1)
    (λ same. is ∙ ap (λ (t : ℕ). is_none (watch_of told t)) (sym same)))

-- Behind a line the tables are watched that were, and the one that it asks to be told of.
watched-after : (count : ℕ) (meaning : Option Meaning) (told : Reach) (table : ℕ) → count ≡ length told.watches
    → is_some (watch_of (reach_after count meaning told) table)
    ≡ (is_some (watch_of told table) || asks_to_watch count meaning table)
watched-after count (Some (meanings.Asks (requests.Watch other))) told table counted =
    set-watched (is_between 1 count other) (is_none (watch_of told other)) told (other - 1) other
    (first_watch (viewer_of told.speaker) other) table
    (λ so. let there = there-index count other (is_none (watch_of told other)) so in
    (omega (arith, there.0, counted), there.1)) refl
watched-after count meaning told table counted = sym (or-false (is_some (watch_of told table)))

-- The standing behind an exchange is the one that follows from the standing before it.
pub standing-on : (words : WordTerms) (count : ℕ) (seen : Sights) (before middle : Reach) (said : Exchange)
    → count ≡ length middle.watches → AreNews before.speaker seen before middle said.news said.behind
    → standing_of (reach_after count (meaning_said words before.speaker said.answered) middle)
    ≡ standing_after words count (standing_of before) said
standing-on words count seen before middle said counted told =
    let meaning : Option Meaning = meaning_said words before.speaker said.answered in
    λ i. record {
      speaker =
          ap (speaker_after meaning) (same-speaker before.speaker seen before middle said.news said.behind told) i;
      watched = λ table.
          (watched-after count meaning middle table counted
          ∙ ap (λ (so : Bool). so || asks_to_watch count meaning table)
          (same-watched before.speaker seen before middle said.news said.behind table told)) i;
    }

-- there are as many where one is set
set-count : (so : Bool) (watches : List (Option Watch)) (index : ℕ) (first : Option Watch)
    → length (if so then slice_set watches index first else watches) ≡ length watches
set-count false watches index first = refl
set-count true watches index first = length-set watches index first

-- There are as many watches behind a line.
pub watches-count : (count : ℕ) (meaning : Option Meaning) (told : Reach)
    → length (watches_after count meaning told) ≡ length told.watches
watches-count count (Some (meanings.Asks (requests.Watch other))) told =
    set-count (is_between 1 count other && is_none (watch_of told other)) told.watches (other - 1)
    (Some (first_watch (viewer_of told.speaker) other))
watches-count count meaning told = refl
