-- The line of an act: its first word, and the item that is read from the words behind it.
use Rattle.std.proofs.Common.{◌≡◌, ◌∙◌, ℕ, ◌≤◌, true, false, leb, List, ◌∷◌, ◌++◌, length, take, drop, Option, Some, None, option_map, option_and_then, refl, sym, ap, subst, arith}
use Rattle.std.specs.Prelude.{codes}
use Rattle.std.specs.Option.{IfSome}
use Rattle.std.specs.Str.{bytes_eq}
use Rattle.std.proofs.lemmas.Bool.Decides.{nat_tests}
use Rattle.std.proofs.lemmas.List.{take-append-drop}
use Rattle.std.proofs.lemmas.Slice.Eq.{bytes_eq-Decides}
use Rattle.floor_text.specs.Limits.{longest_line}
use Rattle.floor_text.specs.Numbers.{number_of}
use Rattle.betting_round.specs.declared.act.Act.{Act}
use Rattle.line_words.specs.Fields.{next_by, name_of, act_of}
use Rattle.line_words.specs.Words.{words_of_line}
use Rattle.line_words.specs.Rows.{read_fields}
use Rattle.floor_events.specs.declared.act_reader.ActLine.{ActLine}
use Rattle.tournament_events.specs.declared.event.Event.TheVariants as events
use Rattle.tournament_events.specs.declared.event.Item.{Item}
use Rattle.tournament_events.specs.declared.event.Item.TheVariants as found
use Rattle.floor_events.specs.Acts.{act_fields, act_line, item_of_act}
use Rattle.floor_events.specs.Grammar.{is_note, item_of_words, item_of_bytes}
use Rattle.floor_events.proofs.EventLaws.{line_found, act_text}

by_act : (table : ℕ) (name : List ℕ) (act : Option Act)
    → option_map found.Event (option_map (events.Act table name) act)
    ≡ option_map item_of_act (option_map (act_line table name) act)
by_act table name None = refl
by_act table name (Some act) = refl

by_name : (table : ℕ) (name : Option (List ℕ × List (List ℕ)))
    → option_map found.Event (option_and_then (λ read. option_map (events.Act table read.0) (act_of read.1)) name)
    ≡ option_map item_of_act (option_and_then (λ read. option_map (act_line table read.0) (act_of read.1)) name)
by_name table None = refl
by_name table (Some read) = by_act table read.0 (act_of read.1)

by_table : (table : Option (ℕ × List (List ℕ)))
    → option_map found.Event (option_and_then (λ first. option_and_then
    (λ read. option_map (events.Act first.0 read.0) (act_of read.1)) (next_by name_of first.1)) table)
    ≡ option_map item_of_act (option_and_then (λ first. option_and_then
    (λ read. option_map (act_line first.0 read.0) (act_of read.1)) (next_by name_of first.1)) table)
by_table None = refl
by_table (Some first) = by_name first.0 (next_by name_of first.1)

-- The words behind the first are read as the item of what they say.
words_item : (words : List (List ℕ)) → item_of_words (codes "act" ∷ words)
    ≡ option_map item_of_act (read_fields act_fields act_line words)
unfolding item_of_words read_fields
words_item words = by_table (next_by number_of words)

-- A line that begins with the word of an act and a space has the item of what the words behind these say.
pub item_behind : (line fields : List ℕ) → length line ≤ longest_line
    → bytes_eq (take 4 line) (codes "act ") ≡ true → fields ≡ drop 4 line
    → item_of_bytes line ≡ option_map item_of_act (read_fields act_fields act_line (words_of_line fields))
unfolding item_of_bytes
item_behind line fields short begins behind =
    let front = (bytes_eq-Decides (take 4 line) (codes "act ")).0 begins in
    let joined : line ≡ codes "act " ++ fields =
    sym (take-append-drop 4 line) ∙ (ap (λ bytes. bytes ++ drop 4 line) front
    ∙ ap (λ bytes. codes "act " ++ bytes) (sym behind)) in
    let fits : leb (length line) longest_line ≡ true = grind (arith, nat_tests, short) in
    let other : is_note line ≡ false = ap is_note joined ∙ refl in
    let words : words_of_line line ≡ codes "act" ∷ words_of_line fields = ap words_of_line joined ∙ refl in
    rw (fits, other, words) (words_item (words_of_line fields))

-- The line of an act is no longer than a line may be, and begins with its word and a space.
pub begins_so : (line : List ℕ) (read : ActLine) → item_of_bytes line ≡ Some (item_of_act read)
    → (length line ≤ longest_line) × (bytes_eq (take 4 line) (codes "act ") ≡ true)
begins_so line read h =
    let holds = line_found line (item_of_act read) h in
    let text = holds.1 ∙ act_text read.table read.name read.act in
    let short : length line ≤ longest_line =
    subst (λ (l : List ℕ). length l ≤ longest_line) (sym holds.1) holds.0.short in
    (short, ap (λ (l : List ℕ). bytes_eq (take 4 l) (codes "act ")) text ∙ refl)

-- What is read from a line is the act that it holds.
pub act_found : (item : Option Item) (read : Option ActLine) → item ≡ option_map item_of_act read
    → IfSome read (λ read. item ≡ Some (item_of_act read))
act_found item None same = tt
act_found item (Some read) same = same

same_act : (read told : ActLine) → read.table ≡ told.table → read.name ≡ told.name → read.act ≡ told.act
    → read ≡ told
same_act read told table name act i = record { table = table i; name = name i; act = act i }

-- The act that a line holds is read from it.
pub act_again : (item : Option Item) (read : Option ActLine) → item ≡ option_map item_of_act read → (told : ActLine)
    → item ≡ Some (item_of_act told) → read ≡ Some told
act_again item None same told h = absurd cc
act_again item (Some read) same told h =
    let one = sym same ∙ h in
    let table : read.table ≡ told.table = cc in
    let name : read.name ≡ told.name = cc in
    let act : read.act ≡ told.act = cc in
    ap Some (same_act read told table name act)
