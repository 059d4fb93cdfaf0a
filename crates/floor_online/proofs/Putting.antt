-- Texts that are put one after another, where a put may fail in the midst.
use Rattle.std.proofs.Common.{◌≡◌, ◌∙◌, refl, sym, ap, subst, ℕ, ◌+◌, ◌<◌, List, [], ◌∷◌, ◌++◌, append_assoc, append-nil, take, drop, get_or, length, inl, inr, add-one, drop-cons}
use Rattle.std.specs.Prelude.{◌⊎◌, Option, Some, None, IfSome, Result, Ok, Err, IsErrAnd}
use Rattle.std.specs.List.{flat_map}
use Rattle.std.proofs.lemmas.Grind.{flat_map-append}
use Rattle.std.proofs.lemmas.List.{take-append-drop, take_at}
use Rattle.floor_text.specs.Outside.{Puts}
use Rattle.replay_rules.specs.Replay.{event_line, final_text, tournament_text}
use Rattle.view_rules.specs.declared.entries.JournalEntry.{JournalEntry}
use Rattle.dock_rules.specs.Journals.{events_of, expand, tale_of}
use Rattle.dock_rules.proofs.JournalTales.{state-told}
use Rattle.floor_online.specs.EntryText.{entry_text}

-- All of these bytes were put behind what was written.
abbrev pub PutsAll : Option (List ℕ) → List ℕ → Option (List ℕ) → Type 0
PutsAll first bytes now = IfSome first (λ before. now ≡ Some (before ++ bytes))

-- A front of them was.
abbrev pub PutsFront : Option (List ℕ) → List ℕ → Option (List ℕ) → Type 0
PutsFront first bytes now = IfSome first (λ before. (n : ℕ) × (now ≡ Some (before ++ take n bytes)))

-- They were put as a result says.
abbrev pub PutsAs : {E : Type 0} → Option (List ℕ) → List ℕ → Option (List ℕ) → Result (Unit {0}) E → Type 0
PutsAs first bytes now result = IfSome first (λ before. Puts before bytes now result)

-- What a list begins with is a front of it.
begins : (front rest all : List ℕ) → all ≡ front ++ rest → take (length front) all ≡ front
begins front rest all is = ap (take (length front)) is ∙ take_at front rest (length front) refl

-- A front of the first bytes is a front of all.
pub front_more : (first now : Option (List ℕ)) (front back : List ℕ) → PutsFront first front now
    → PutsFront first (front ++ back) now
front_more None now front back put = tt
front_more (Some before) now front back put =
    let n : ℕ = put.0 in
    let part : List ℕ = take n front in
    let all : front ++ back ≡ part ++ (drop n front ++ back) =
    ap (λ (text : List ℕ). text ++ back) (sym (take-append-drop n front)) ∙ append_assoc part (drop n front) back in (
      length part,
      put.1
          ∙ ap (λ (text : List ℕ). Some (before ++ text))
          (sym (begins part (drop n front ++ back) (front ++ back) all)),
    )

-- A front was put behind the first bytes, of which all were.
pub front_behind : (first mid now : Option (List ℕ)) (front back : List ℕ) → PutsAll first front mid
    → PutsFront mid back now → PutsFront first (front ++ back) now
front_behind None mid now front back all put = tt
front_behind (Some before) mid now front back all put =
    let later = subst (λ (written : Option (List ℕ)). PutsFront written back now) all put in
    let n : ℕ = later.0 in
    let part : List ℕ = front ++ take n back in
    let whole : front ++ back ≡ part ++ drop n back =
    ap (λ (text : List ℕ). front ++ text) (sym (take-append-drop n back))
    ∙ sym (append_assoc front (take n back) (drop n back)) in (
      length part,
      later.1
          ∙ (ap Some (append_assoc before front (take n back))
          ∙ ap (λ (text : List ℕ). Some (before ++ text)) (sym (begins part (drop n back) (front ++ back) whole))),
    )

-- Bytes were put behind the first ones, of which all were.
pub put_behind : {E : Type 0} (first mid now : Option (List ℕ)) (front back : List ℕ) (result : Result (Unit {0}) E)
    → PutsAll first front mid → PutsAs mid back now result → PutsAs first (front ++ back) now result
put_behind None mid now front back result all put = tt
put_behind {E} (Some before) mid now front back (Ok value) all put =
    subst (λ (written : Option (List ℕ)). PutsAll written back now) all put ∙ ap Some (append_assoc before front back)
put_behind (Some before) mid now front back (Err error) all put =
    front_behind (Some before) mid now front back all put

-- A put of which a front came failed.
put_failed : {E : Type 0} (first now : Option (List ℕ)) (bytes : List ℕ) (result : Result (Unit {0}) E) (error : E)
    → result ≡ Err error → PutsFront first bytes now → PutsAs first bytes now result
put_failed {E} first now bytes result error failed put =
    subst (λ (result : Result (Unit {0}) E). PutsAs first bytes now result) (sym failed) put

-- It is so of each failure.
pub put_erred : {E : Type 0} (first now : Option (List ℕ)) (bytes : List ℕ) (result : Result (Unit {0}) E)
    (P : E → Type 0) → IsErrAnd result P → PutsFront first bytes now → PutsAs first bytes now result
put_erred first now bytes (Ok value) P failed put = absurd failed
put_erred first now bytes (Err error) P failed put = put

-- A sink let go of what was put, or failed as it was to do so, and tells what it told.
pub put_closed : {E : Type 0} (first mid now : Option (List ℕ)) (bytes : List ℕ) (ran result : Result (Unit {0}) E)
    (error : E) (late : Type 0) → IfSome mid (λ text. now ≡ Some text)
    → (result ≡ ran) ⊎ ((result ≡ Err error) × late) → PutsAs first bytes mid ran → PutsAs first bytes now result
put_closed None mid now bytes ran result error late kept how put = tt
put_closed {E} (Some before) mid now bytes (Ok value) result error late kept how put =
    let same : now ≡ Some (before ++ bytes) =
    subst (λ (written : Option (List ℕ)). IfSome written (λ text. now ≡ Some text)) put kept in
    elim how [
      | inl own ↦ subst (λ (result : Result (Unit {0}) E). PutsAs (Some before) bytes now result) (sym own) same
      | inr failed ↦
          put_failed (Some before) now bytes result error failed.0 (
            length bytes,
            same ∙ ap (λ (text : List ℕ). Some (before ++ text)) (sym (begins bytes [] bytes (sym (append-nil bytes)))),
          )
    ]
put_closed {E} (Some before) mid now bytes (Err fault) result error late kept how put =
    let same : now ≡ Some (before ++ take put.0 bytes) =
    subst (λ (written : Option (List ℕ)). IfSome written (λ text. now ≡ Some text)) put.1 kept in
    elim how [
      | inl own ↦ put_failed (Some before) now bytes result fault own (put.0, same)
      | inr failed ↦ put_failed (Some before) now bytes result error failed.0 (put.0, same)
    ]

-- The texts of entries are those of the ones before one of them, its own, and those of the ones behind it.
texts_split : (entries : List JournalEntry) (index : ℕ) (entry : JournalEntry) → index < length entries
    → entry ≡ get_or entries index entry
    → flat_map entry_text entries
    ≡ (flat_map entry_text (take index entries) ++ entry_text entry) ++ flat_map entry_text (drop (index + 1) entries)
texts_split entries index entry within is =
    let front = flat_map entry_text (take index entries) in
    let back = flat_map entry_text (drop (index + 1) entries) in
    ap (flat_map entry_text) (sym (take-append-drop index entries))
    ∙ (flat_map-append entry_text (take index entries) (drop index entries)
    ∙ (ap (λ (rest : List JournalEntry). front ++ flat_map entry_text rest)
    (drop-cons entries index entry within ∙ (λ i. sym is i ∷ drop (sym (add-one index) i) entries))
    ∙ sym (append_assoc front (entry_text entry) back)))

-- The put of an entry's text failed, behind those of the entries before it.
pub entry_failed : (first mid now : Option (List ℕ)) (entries : List JournalEntry) (index : ℕ) (entry : JournalEntry)
    → index < length entries → entry ≡ get_or entries index entry
    → PutsAll first (flat_map entry_text (take index entries)) mid → PutsFront mid (entry_text entry) now
    → PutsFront first (flat_map entry_text entries) now
entry_failed first mid now entries index entry within is all put =
    subst (λ (text : List ℕ). PutsFront first text now) (sym (texts_split entries index entry within is))
    (front_more first now (flat_map entry_text (take index entries) ++ entry_text entry)
    (flat_map entry_text (drop (index + 1) entries))
    (front_behind first mid now (flat_map entry_text (take index entries)) (entry_text entry) all put))

lines_are : (entries : List JournalEntry) → flat_map entry_text entries ≡ flat_map event_line (expand entries)
lines_are [] = refl
lines_are (entry ∷ entries) =
    ap (λ (text : List ℕ). entry_text entry ++ text) (lines_are entries)
    ∙ sym (flat_map-append event_line (events_of entry) (expand entries))

-- The texts of a journal's entries and the report after it are the text of its tournament.
pub text_is : (journal : List JournalEntry)
    → flat_map entry_text journal ++ final_text (tale_of journal).state ≡ tournament_text (expand journal)
text_is journal = λ i. lines_are journal i ++ final_text (state-told journal i)
