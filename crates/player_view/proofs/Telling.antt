-- Who tells of a table, from entry to entry.
use Rattle.std.proofs.Common.{◌≡◌, ℕ, zero, suc, ◌-◌, true, List, [], ◌∷◌, ◌++◌, length, take, Some, None, refl, ap, subst}
use Rattle.std.specs.Prelude.{Option, is_none}
use Rattle.std.specs.Option.{ForSome}
use Rattle.std.proofs.lemmas.Bool.{and_from, and_parts}
use Rattle.table_engine.specs.declared.record.ActOf.{ActOf}
use Rattle.table_engine.specs.declared.start.HandStart.{HandStart}
use Rattle.table_engine.specs.Acts.{refusal_of_act}
use Rattle.table_engine.specs.Hands.{HandTerms}
use Rattle.table_engine.specs.Plays.{AreTimedAfter, IsLawfulPlay, are_lawful_after}
use Rattle.table_engine.specs.Starts.{IsLawfulStart}
use Rattle.view_rules.specs.declared.entries.TableEntry.TheVariants.{Acted, Closed, Opened}
use Rattle.view_rules.specs.Entries.{TableTold, begun, entry_lines, with_act}
use Rattle.view_rules.specs.Lines.{act_lines, opening_lines}
use Rattle.view_rules.specs.Seen.{seen_hand}
use Rattle.view_rules.specs.Shown.{Viewer}
use Rattle.view_rules.specs.Spelling.{lines_text}
use Rattle.player_view.specs.declared.teller.Kept.{Kept}
use Rattle.player_view.specs.declared.teller.Told.{Told}
use Rattle.player_view.specs.declared.teller.Told.TheVariants as tolds
use Rattle.player_view.specs.Each.{table_text}
use Rattle.player_view.specs.Tellers.{IsPlayable, IsTelling, kept_hand, kept_of, played, without_last}

-- What is to be played again can be.
pub playable-again : (told : Told) (kept : Kept) → told ≡ tolds.Again kept → IsTelling told
    → IsPlayable (kept_hand kept)
playable-again told kept is telling =
    subst (λ (t : Told). ForSome (kept_of t) IsPlayable) is telling.playable (kept_hand kept) refl

-- A hand that is played again was to be told of.
pub played-some : (hand : Option HandTerms) (found : HandTerms) → played hand ≡ tolds.Played found → hand ≡ Some found
played-some None found is = absurd cc
played-some (Some hand) found is = let same : hand ≡ found = cc in ap (λ (h : HandTerms). Some h) same

some-lawful : (start : HandStart) (before acts : List ActOf) (count : ℕ) → are_lawful_after start before acts ≡ true
    → are_lawful_after start before (take count acts) ≡ true
some-lawful start before acts zero lawful = refl
some-lawful start before [] (suc count) lawful = refl
some-lawful start before (act ∷ acts) (suc count) lawful =
    let parts = and_parts (is_none (refusal_of_act (record { start = start; acts = before }) act.name act.act))
    (are_lawful_after start (before ++ act ∷ []) acts) lawful in
    and_from _ _ parts.0 (some-lawful start (before ++ act ∷ []) acts count parts.1)

some-timed : (start : HandStart) (before acts : List ActOf) (count : ℕ) → AreTimedAfter start before acts
    → AreTimedAfter start before (take count acts)
some-timed start before acts zero timed = tt
some-timed start before [] (suc count) timed = tt
some-timed start before (act ∷ acts) (suc count) timed =
    (timed.0, some-timed start (before ++ act ∷ []) acts count timed.1)

-- A lawful play without its last act can be played again.
pub playable-without_last : (hand : HandTerms) → IsLawfulStart hand.start → IsLawfulPlay hand
    → IsPlayable (kept_hand (without_last hand))
playable-without_last hand lawful play = record {
  start = lawful;
  play = record {
    acts = some-lawful hand.start [] hand.acts (length hand.acts - 1) play.acts;
    timed = some-timed hand.start [] hand.acts (length hand.acts - 1) play.timed;
  };
}

-- The text of the entry of a hand that begins.
pub text-opened : (told : TableTold) (hand : HandTerms) (start : HandStart) → hand ≡ begun start
    → table_text told.table (opening_lines (seen_hand told.who hand)) ≡ lines_text (entry_lines told (Opened start))
unfolding entry_lines
text-opened told hand start is = rw is refl

-- The text of the entry of an act.
pub text-acted : (table : ℕ) (who : Viewer) (hand : Option HandTerms) (before after : HandTerms) (caller : ℕ)
    (act : ActOf)
    → hand ≡ Some before → after ≡ with_act act before
    → table_text table (act_lines (seen_hand who before) act (seen_hand who after))
    ≡ lines_text (entry_lines (record { table = table; who = who; hand = hand }) (Acted caller act))
unfolding entry_lines
text-acted table who hand before after caller act is follows = rw (is, follows) refl

-- The end of a hand has no line.
pub text-closed : (told : TableTold) → [] ≡ lines_text (entry_lines told Closed)
unfolding entry_lines
text-closed told = refl
