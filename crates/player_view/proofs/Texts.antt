-- The text of lines of a table, put together.
use Rattle.std.proofs.Common.{◌≡◌, ◌∙◌, ℕ, ◌≤◌, List, [], ◌∷◌, ◌++◌, length, map, refl, ap, sym, append_assoc, append-nil, arith}
use Rattle.std.specs.Prelude.{codes}
use Rattle.std.specs.List.{flat_map, join_with_byte}
use Rattle.std.proofs.lemmas.Grind.{flat_map-append}
use Rattle.std.proofs.lemmas.List.{map-append}
use Rattle.line_words.specs.Words.{line_of_words}
use Rattle.table_engine.specs.declared.start.StartSeat.{StartSeat}
use Rattle.view_rules.specs.Spelling.{TableLine, Table, line_text, lines_text}
use Rattle.player_view.specs.Each.{table_text}

-- Where there is nothing more, what was there is still there.
pub nothing-more : (old more : List ℕ) → [] ≡ more → old ≡ old ++ more
nothing-more old more none = sym (append-nil old) ∙ ap (λ text. old ++ text) none

-- What was written behind what was written is written as one.
pub written-both : (old front now back new : List ℕ) → now ≡ old ++ front → new ≡ now ++ back
    → new ≡ old ++ (front ++ back)
written-both old front now back new first then =
    then ∙ ap (λ text. text ++ back) first ∙ append_assoc old front back

-- What was written behind what was written behind what was written is written as one.
pub written-three : (old first second third one two three : List ℕ) → one ≡ old ++ first → two ≡ one ++ second
    → three ≡ two ++ third → three ≡ old ++ (first ++ (second ++ third))
written-three old first second third one two three a b c =
    written-both one second two third three b c
    ∙ ap (λ text. text ++ (second ++ third)) a
    ∙ append_assoc old first (second ++ third)

-- Words with one more behind them, and a space between.
pub one-word-more : (words : List (List ℕ)) (last : List ℕ) → 1 ≤ length words
    → join_with_byte 32 words ++ (32 ∷ last) ≡ join_with_byte 32 (words ++ last ∷ [])
one-word-more [] last some = absurd (omega arith)
one-word-more (word ∷ []) last some = refl
one-word-more (word ∷ next ∷ words) last some =
    append_assoc word (32 ∷ join_with_byte 32 (next ∷ words)) (32 ∷ last)
    ∙ ap (λ rest. word ++ (32 ∷ rest)) (one-word-more (next ∷ words) last (omega arith))

-- A line of a table whose last word is cards, as it is written.
pub written-cards : (old table last one two three four five : List ℕ) (given : List (List ℕ))
    → one ≡ old ++ (table ++ codes ": ") → two ≡ one ++ join_with_byte 32 given → three ≡ two ++ 32 ∷ []
    → four ≡ three ++ last → five ≡ four ++ 10 ∷ [] → 1 ≤ length given
    → five ≡ old ++ (table ++ (codes ": " ++ line_of_words (given ++ last ∷ [])))
written-cards old table last one two three four five given a b c d e some =
    rw (e, d, c, b, a, ← one-word-more given last some) (simp append_assoc)

-- The text of lines of a table behind others.
pub text-both : (table : ℕ) (front back : List TableLine)
    → table_text table (front ++ back) ≡ table_text table front ++ table_text table back
text-both table front back =
    ap lines_text (map-append (Table table) front back)
    ∙ flat_map-append line_text (map (Table table) front) (map (Table table) back)

-- The text of lines of a table, item by item.
pub text-each : {A : Type 0} (table : ℕ) (lines : A → List TableLine) (items : List A)
    → flat_map (λ item. table_text table (lines item)) items ≡ table_text table (flat_map lines items)
text-each table lines [] = refl
text-each table lines (item ∷ items) =
    ap (λ rest. table_text table (lines item) ++ rest) (text-each table lines items)
    ∙ sym (text-both table (lines item) (flat_map lines items))

-- The text of one line of a table for each item.
pub text-lines : {A : Type 0} (table : ℕ) (line : A → TableLine) (items : List A)
    → flat_map (λ item. line_text (Table table (line item))) items ≡ table_text table (map line items)
text-lines table line [] = refl
text-lines table line (item ∷ items) =
    ap (λ rest. line_text (Table table (line item)) ++ rest) (text-lines table line items)

-- The text of lines, player by player, of two lists that are one.
pub text-halves : (table : ℕ) (lines : StartSeat → List TableLine) (first last all : List StartSeat) → first ++ last ≡ all
    → flat_map (λ player. table_text table (lines player)) first
    ++ flat_map (λ player. table_text table (lines player)) last ≡ table_text table (flat_map lines all)
text-halves table lines first last all whole =
    sym (flat_map-append (λ player. table_text table (lines player)) first last)
    ∙ ap (flat_map (λ player. table_text table (lines player))) whole
    ∙ text-each table lines all
