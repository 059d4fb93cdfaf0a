-- What a line may mean, and what it leaves of a client.
use Rattle.std.proofs.Common.{◌≡◌, ◌∙◌, refl, sym, ap, subst, ℕ, ◌+◌, ◌-◌, ◌<◌, ◌≤◌, Bool, true, false, List, Option, Some, None, length, arith}
use Rattle.std.specs.Prelude.{◌&&◌, codes, is_none, slice_set, if◌then◌else◌}
use Rattle.std.specs.Option.{option_map_or}
use Rattle.std.specs.Str.{bytes_eq}
use Rattle.std.proofs.lemmas.Bool.Decides.{nat_tests}
use Rattle.std.proofs.lemmas.Option.{same_Some}
use Rattle.level_plan.specs.Items.{is_between}
use Rattle.view_rules.specs.declared.entries.TableEntry.{TableEntry}
use Rattle.view_rules.specs.Shown.{Viewer}
use Rattle.plan_files.specs.Words.{WordTerms}
use Rattle.session_lines.specs.Hellos.{hello_of}
use Rattle.session_lines.specs.Requests.{request_of}
use Rattle.session_lines.specs.Meanings.{meaning_of}
use Rattle.session_lines.specs.declared.hello.Speaker.{Speaker}
use Rattle.session_lines.specs.declared.meaning.Meaning.TheVariants as meanings
use Rattle.session_lines.specs.declared.meaning.Meaning.{Meaning}
use Rattle.session_lines.specs.declared.request.Request.{Request}
use Rattle.session_lines.specs.declared.request.Request.TheVariants as requests
use Rattle.session_desk.specs.declared.told.Watch.{Watch}
use Rattle.session_desk.specs.Desks.{Sights}
use Rattle.session_desk.specs.Exchanges.{News}
use Rattle.session_desk.specs.Telling.{AreNews, IsToldOf, IsWatch, Reach, first_watch, reach_after, viewer_of, watch_of}
use Rattle.session_desk.proofs.NewsTold.{set-either}
use Rattle.session_desk.specs.Turns.{MayMean}

-- a hello of a stranger, or nothing that he may say
hello-meant : (found : Option Speaker) → MayMean None (option_map_or meanings.Hello found meanings.Stranger)
hello-meant None = tt
hello-meant (Some speaker) = tt

request-meant : (speaker : Speaker) (found : Option Request)
    → MayMean (Some speaker) (option_map_or meanings.Asks found meanings.Nonsense)
request-meant speaker None = tt
request-meant speaker (Some request) = tt

quit-or-hello : (quits : Bool) (found : Option Speaker)
    → MayMean None (if quits then meanings.Quit else option_map_or meanings.Hello found meanings.Stranger)
quit-or-hello true found = tt
quit-or-hello false found = hello-meant found

quit-or-request : (speaker : Speaker) (quits : Bool) (found : Option Request)
    → MayMean (Some speaker) (if quits then meanings.Quit else option_map_or meanings.Asks found meanings.Nonsense)
quit-or-request speaker true found = tt
quit-or-request speaker false found = request-meant speaker found

-- The meaning of a line may come of whoever speaks.
pub may-mean : (words : WordTerms) (speaker : Option Speaker) (line : Option (List ℕ))
    → MayMean speaker (meaning_of words speaker line)
unfolding meaning_of
may-mean words None None = tt
may-mean words (Some speaker) None = tt
may-mean words None (Some line) = quit-or-hello (bytes_eq line (codes "quit")) (hello_of words line)
may-mean words (Some speaker) (Some line) =
    quit-or-request speaker (bytes_eq line (codes "quit")) (request_of speaker line)

-- Whoever speaks is the same once the news are told.
pub same-speaker : (speaker : Option Speaker) (seen : Sights) (before after : Reach) (news : News) (behind : Bool)
    → AreNews speaker seen before after news behind → after.speaker ≡ before.speaker
same-speaker None seen before after news behind told = ap (λ (r : Reach). r.speaker) told.same
same-speaker (Some speaker) seen before after news behind told = told.speaker

-- a table that is watched from now on is told of from its first entry on
first-watched : (who : Viewer) (table : ℕ) (history : List TableEntry)
    → IsWatch who table history (first_watch who table)
first-watched who table history = record { within = omega arith; teller = refl }

-- Watches that are right stay so where another is set, and that is right, too.
set-right : (so : Bool) (seen : Sights) (told : Reach) (index : ℕ) (first : Watch)
    → (so ≡ true → index < length told.watches)
    → (so ≡ true → first ≡ first_watch (viewer_of told.speaker) (index + 1))
    → ((table : ℕ) (watch : Watch) → watch_of told table ≡ Some watch
    → IsWatch (viewer_of told.speaker) table (seen.tables table) watch) → (table : ℕ) (watch : Watch)
    → watch_of (record told { watches = if so then slice_set told.watches index (Some first) else told.watches }) table
    ≡ Some watch → IsWatch (viewer_of told.speaker) table (seen.tables table) watch
set-right so seen told index first within begun right table watch =
    let who : Viewer = viewer_of told.speaker in
    set-either (λ (found : Option Watch). found ≡ Some watch → IsWatch who table (seen.tables table) watch) so told
    index first table within
    (λ set here is.
    subst (λ (x : ℕ × Watch). IsWatch who x.0 (seen.tables x.0) x.1)
    (λ i. (sym here i, (sym (begun set) ∙ same_Some first watch is) i))
    (first-watched who (index + 1) (seen.tables (index + 1))))
    (λ elsewhere. right table watch)

-- Where a stranger says hello, nothing is watched.
hello-kept : (seen : Sights) (told : Reach) (speaker : Speaker) → told.speaker ≡ None → IsToldOf seen told
    → IsToldOf seen (record told { speaker = Some speaker })
hello-kept seen told speaker nobody kept = record {
  stranger = λ none. absurd (cc (none));
  journal = kept.journal;
  tables = λ table watch is.
      let none : watch_of told table ≡ None = kept.stranger nobody table in absurd (cc (none, is));
}

-- Only a stranger says hello.
pub hello-stranger : (who : Option Speaker) (speaker : Speaker) → MayMean who (meanings.Hello speaker) → who ≡ None
hello-stranger None speaker may = refl
hello-stranger (Some other) speaker may = absurd may

-- and he asks for nothing
asks-known : (who : Option Speaker) (request : Request) → MayMean who (meanings.Asks request) → who ≡ None → ⊥
asks-known None request may is = may
asks-known (Some speaker) request may is = absurd (cc (is))

-- The number of a table that there is.
pub there-index : (count table : ℕ) (free : Bool) → (is_between 1 count table && free) ≡ true
    → (table - 1 < count) × (table ≡ (table - 1) + 1)
there-index count table free is =
    let low : 1 ≤ table = grind (arith, nat_tests) in
    let high : table ≤ count = grind (arith, nat_tests) in
    (omega (arith, low, high), omega (arith, low))

-- What a line changes leaves it so that the client was told no more than was seen.
pub changed-kept : (count : ℕ) (seen : Sights) (told : Reach) (meaning : Meaning) → MayMean told.speaker meaning
    → count ≡ length told.watches → IsToldOf seen told → IsToldOf seen (reach_after count (Some meaning) told)
changed-kept count seen told meanings.Quit may counted kept = kept
changed-kept count seen told meanings.Stranger may counted kept = kept
changed-kept count seen told meanings.Nonsense may counted kept = kept
changed-kept count seen told (meanings.Hello speaker) may counted kept =
    hello-kept seen told speaker (hello-stranger told.speaker speaker may) kept
changed-kept count seen told (meanings.Asks (requests.Act table name act)) may counted kept = kept
changed-kept count seen told (meanings.Asks (requests.Time table)) may counted kept = kept
changed-kept count seen told (meanings.Asks (requests.Order ask)) may counted kept = kept
changed-kept count seen told (meanings.Asks (requests.Watch table)) may counted kept = record {
  stranger = λ nobody. absurd (asks-known told.speaker (requests.Watch table) may nobody);
  journal = kept.journal;
  tables =
      set-right (is_between 1 count table && is_none (watch_of told table)) seen told (table - 1)
      (first_watch (viewer_of told.speaker) table)
      (λ so. let there = there-index count table (is_none (watch_of told table)) so in
      omega (arith, there.0, counted))
      (λ so. ap (first_watch (viewer_of told.speaker)) (there-index count table (is_none (watch_of told table)) so).1)
      kept.tables;
}
