-- The text of a tournament is that of one list of events alone.
use Rattle.std.proofs.Common.{◌≡◌, ◌∙◌, refl, sym, ap, ℕ, false, List, [], ◌∷◌, ◌++◌, append_assoc, drop, arith}
use Rattle.std.specs.List.{flat_map, AllByRecursion}
use Rattle.std.proofs.lemmas.Bool.Decides.{nat_tests}
use Rattle.floor_text.specs.Lines.{HasNoFeed}
use Rattle.floor_text.proofs.CutLines.{first_other, rest_other}
use Rattle.tournament_events.specs.declared.event.Event.{Event}
use Rattle.floor_events.specs.Grammar.{is_note}
use Rattle.floor_events.specs.Spelling.{IsWritable, event_text}
use Rattle.floor_events.proofs.EventLaws.{event_text-no_note, one_text, text_no_feed}
use Rattle.tournament_rules.specs.States.{State, first_state, run}
use Rattle.replay_rules.specs.Replay.{event_line, final_text, tournament_text}

-- Two texts without a line feed, each with one behind it, are one where all is, and so is what comes behind.
cut_alike : (one other behind beyond : List ℕ) → HasNoFeed one → HasNoFeed other
    → one ++ 10 ∷ behind ≡ other ++ 10 ∷ beyond → (one ≡ other) × (behind ≡ beyond)
cut_alike [] [] behind beyond first second same = (refl, cc)
cut_alike [] (byte ∷ other) behind beyond first second same =
    let feed : byte ≡ 10 = cc in absurd (first_other byte other second feed)
cut_alike (byte ∷ one) [] behind beyond first second same =
    let feed : byte ≡ 10 = cc in absurd (first_other byte one first feed)
cut_alike (byte ∷ one) (letter ∷ other) behind beyond first second same =
    let head : byte ≡ letter = cc in
    let tail : one ++ 10 ∷ behind ≡ other ++ 10 ∷ beyond = cc in
    let rest = cut_alike one other behind beyond (rest_other byte one first) (rest_other letter other second) tail in
    ((λ i. head i ∷ rest.0 i), rest.1)

-- A line that is no note does not begin with a star.
no_star : (line behind text : List ℕ) → is_note line ≡ false → line ++ 10 ∷ behind ≡ 42 ∷ text → ⊥
no_star [] behind text otherwise same = let never : ◌≡◌ {A = ℕ} 10 42 = cc in absurd (omega arith)
no_star (byte ∷ line) behind text otherwise same =
    let star : byte ≡ 42 = cc in grind (arith, nat_tests, star, otherwise)

-- The lines of a list of events are that of its first event, and those of the others.
first_line : (event : Event) (events : List Event) (behind : List ℕ)
    → flat_map event_line (event ∷ events) ++ behind ≡ event_text event ++ 10 ∷ (flat_map event_line events ++ behind)
first_line event events behind =
    append_assoc (event_line event) (flat_map event_line events) behind
    ∙ append_assoc (event_text event) (10 ∷ []) (flat_map event_line events ++ behind)

-- The lines of writable events are those of one list alone, where what begins with a star stands behind them.
lines_alike : (one other : List Event) (behind beyond : List ℕ) → AllByRecursion IsWritable one
    → AllByRecursion IsWritable other
    → flat_map event_line one ++ 42 ∷ behind ≡ flat_map event_line other ++ 42 ∷ beyond → one ≡ other
lines_alike [] [] behind beyond first second same = refl
lines_alike [] (event ∷ other) behind beyond first second same =
    absurd (no_star (event_text event) (flat_map event_line other ++ 42 ∷ beyond) behind (event_text-no_note event)
    (sym (first_line event other (42 ∷ beyond)) ∙ sym same))
lines_alike (event ∷ one) [] behind beyond first second same =
    absurd (no_star (event_text event) (flat_map event_line one ++ 42 ∷ behind) beyond (event_text-no_note event)
    (sym (first_line event one (42 ∷ behind)) ∙ same))
lines_alike (event ∷ one) (next ∷ other) behind beyond first second same =
    let parts = cut_alike (event_text event) (event_text next) (flat_map event_line one ++ 42 ∷ behind)
    (flat_map event_line other ++ 42 ∷ beyond) (text_no_feed event first.0.parts) (text_no_feed next second.0.parts)
    (sym (first_line event one (42 ∷ behind)) ∙ (same ∙ first_line next other (42 ∷ beyond))) in
    let head = one_text event next first.0 second.0 parts.0 in
    let tail = lines_alike one other behind beyond first.1 second.1 parts.1 in
    λ i. head i ∷ tail i

-- A report begins with a star.
starred : (state : State) → final_text state ≡ 42 ∷ drop 1 (final_text state)
unfolding final_text
starred state = refl

-- The text of a tournament is of no other list of writable events.
pub one_list : (one other : List Event) → AllByRecursion IsWritable one → AllByRecursion IsWritable other
    → tournament_text one ≡ tournament_text other → one ≡ other
one_list one other first second same =
    lines_alike one other (report one) (report other) first second (sym (ends one) ∙ (same ∙ ends other))
  where
    report : List Event → List ℕ
    report events = drop 1 (final_text (run first_state events))

    ends : (events : List Event) → tournament_text events ≡ flat_map event_line events ++ 42 ∷ report events
    ends events = ap (λ (text : List ℕ). flat_map event_line events ++ text) (starred (run first_state events))
