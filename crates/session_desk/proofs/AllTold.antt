-- The tables are told of one after another.
use Rattle.std.proofs.Common.{◌≡◌, ◌≢◌, ◌∙◌, refl, sym, ap, subst, ℕ, ◌+◌, zero, suc, ◌<◌, ◌≤◌, Bool, true, false, List, [], ◌∷◌, ◌++◌, Option, None, Some, length, append_assoc, append-nil, arith}
use Rattle.std.specs.Prelude.{◌==◌, ◌||◌, IfSome, is_some, if◌then◌else◌}
use Rattle.std.specs.List.{flat_map, range_with_len}
use Rattle.std.proofs.lemmas.Bool.Decides.{nat_tests}
use Rattle.std.proofs.lemmas.Grind.{flat_map-append}
use Rattle.std.proofs.lemmas.List.Concat.{flat_map-cons}
use mathlib.Core.Logic.{dite}
use native.Mathlib.Decide.{ℕ_discrete}
use Rattle.view_rules.specs.Shown.{Viewer}
use Rattle.view_rules.specs.Spelling.{ViewLine, lines_text}
use Rattle.dock_rules.specs.Tables.{entries_lines}
use Rattle.table_dock.specs.Telling.{entries_between}
use Rattle.session_desk.specs.declared.desk.Desk.{Desk}
use Rattle.session_desk.specs.declared.told.Watch.{Watch}
use Rattle.session_desk.specs.Desks.{HasDeskMoved, IsSameBut, nothing, of_table, sights}
use Rattle.session_desk.specs.Moves.{HasMoved}
use Rattle.session_desk.specs.Standings.{count_of}
use Rattle.session_desk.specs.Telling.{HasToldTable, IsAllTold, IsTableTold, IsWatch, Reach, watch_of}
use Rattle.session_desk.proofs.DeskMoves.{IsMovedAt}
use Rattle.session_desk.proofs.Moving.{moved-none}
use Rattle.session_desk.proofs.Rows.{with-itself}

-- How often the pass of a table is used that is watched so: once, where it is.
abbrev pub watch_looks : Option Watch → ℕ → ℕ
watch_looks watch table = count_of (is_some watch)

-- What is so of one table, from one desk to another.
pub record IsOneTold (table : ℕ) (who : Viewer) (start desk : Desk) (before after : Option Watch)
    (lines : List ViewLine) (behind : Bool) : Type 0 where
  pub moved : IsMovedAt (watch_looks before) [] start desk table
  pub told : IsTableTold ((sights desk).tables table) before after lines
  pub all : behind ≡ false → IsAllTold ((sights desk).tables table) after
  pub watch : IfSome after (IsWatch who table ((sights desk).tables table))

-- It stays so while the table's pass is left alone.
pub one-kept : (table : ℕ) (who : Viewer) (start desk next : Desk) (before after : Option Watch)
    (lines : List ViewLine) (behind later : Bool)
    → of_table next.tables.items table ≡ of_table desk.tables.items table → (later ≡ false → behind ≡ false)
    → IsOneTold table who start desk before after lines behind
    → IsOneTold table who start next before after lines later
one-kept table who start desk next before after lines behind later same weaker one = record {
  moved = rw same one.moved;
  told = rw same one.told;
  all = λ none. rw same (one.all (weaker none));
  watch = rw same one.watch;
}

-- It is so of a table that is not watched, while nothing is done there.
one-skipped : (table : ℕ) (who : Viewer) (start desk : Desk) (before after : Option Watch) (lines : List ViewLine)
    (behind : Bool) → before ≡ None → after ≡ None → lines ≡ []
    → of_table desk.tables.items table ≡ of_table start.tables.items table
    → IsOneTold table who start desk before after lines behind
one-skipped table who start desk before after lines behind was is none row =
    let whole : IsOneTold table who start desk None None [] behind = record {
      moved = rw row
          (with-itself (λ one other. HasMoved 0 [] one other) moved-none (of_table start.tables.items table));
      told = refl;
      all = λ _. tt;
      watch = tt;
    } in
    subst (λ (x : Option Watch × Option Watch × List ViewLine). IsOneTold table who start desk x.0 x.1 x.2 behind)
    (λ i. (sym was i, sym is i, sym none i)) whole

-- The lines of each table, with those of one more.
abbrev pub lines_with : ℕ → List ViewLine → (ℕ → List ViewLine) → ℕ → List ViewLine
lines_with table more lines other = if other == table then more else lines other

lines-here : (table : ℕ) (more : List ViewLine) (lines : ℕ → List ViewLine) → lines_with table more lines table ≡ more
lines-here table more lines = let same : (table == table) ≡ true = grind (arith, nat_tests) in rw same refl

lines-elsewhere : (table other : ℕ) (more : List ViewLine) (lines : ℕ → List ViewLine) → other ≢ table
    → lines_with table more lines other ≡ lines other
lines-elsewhere table other more lines ne =
    let apart : (other == table) ≡ false = grind (arith, nat_tests) in rw apart refl

-- one number more
range-more : (from size : ℕ) → range_with_len from (suc size) ≡ range_with_len from size ++ (from + size) ∷ []
range-more from zero = let e : from ≡ from + 0 = omega arith in ap (λ (n : ℕ). n ∷ []) e
range-more from (suc size) =
    let e : (from + 1) + size ≡ from + suc size = omega arith in
    ap (λ (l : List ℕ). from ∷ l)
    (range-more (from + 1) size ∙ ap (λ (n : ℕ). range_with_len (from + 1) size ++ n ∷ []) e)

-- texts that agree on numbers make the same of them
texts-alike : (f g : ℕ → List ℕ) (from size : ℕ) → ((n : ℕ) → n < from + size → f n ≡ g n)
    → flat_map f (range_with_len from size) ≡ flat_map g (range_with_len from size)
texts-alike f g from zero alike = refl
texts-alike f g from (suc size) alike =
    flat_map-cons f from (range_with_len (from + 1) size)
    ∙ ((λ i. alike from (omega arith) i
    ++ texts-alike f g (from + 1) size (λ n below. alike n (omega (arith, below))) i)
    ∙ sym (flat_map-cons g from (range_with_len (from + 1) size)))

-- The text of the lines of so many tables.
abbrev pub text_to : ℕ → (ℕ → List ViewLine) → List ℕ
text_to index lines = flat_map (λ table. lines_text (lines table)) (range_with_len 1 index)

-- the text of one number
one-text : (f : ℕ → List ℕ) (n : ℕ) (text : List ℕ) → f n ≡ text → flat_map f (n ∷ []) ≡ text
one-text f n text is = flat_map-cons f n [] ∙ (append-nil (f n) ∙ is)

-- With one table more its lines come behind.
text-more : (index : ℕ) (lines : ℕ → List ViewLine) (more : List ViewLine)
    → text_to (index + 1) (lines_with (index + 1) more lines) ≡ text_to index lines ++ lines_text more
text-more index lines more =
    let f : ℕ → List ℕ = λ table. lines_text (lines_with (index + 1) more lines table) in
    let g : ℕ → List ℕ = λ table. lines_text (lines table) in
    let next : index + 1 ≡ suc index = omega arith in
    let last : 1 + index ≡ index + 1 = omega arith in
    ap (λ (k : ℕ). flat_map f (range_with_len 1 k)) next
    ∙ (ap (flat_map f) (range-more 1 index)
    ∙ (flat_map-append f (range_with_len 1 index) ((1 + index) ∷ [])
    ∙ (λ i. texts-alike f g 1 index (λ n below.
    ap lines_text (lines-elsewhere (index + 1) n more lines (λ same. absurd (omega (arith, same, below))))) i
    ++ one-text f (1 + index) (lines_text more) (ap f last ∙ ap lines_text (lines-here (index + 1) more lines)) i)))

-- With one table more that has none they are as they were.
text-none : (index : ℕ) (lines : ℕ → List ViewLine) → lines (index + 1) ≡ []
    → text_to (index + 1) lines ≡ text_to index lines
text-none index lines none =
    let f : ℕ → List ℕ = λ table. lines_text (lines table) in
    let next : index + 1 ≡ suc index = omega arith in
    let last : 1 + index ≡ index + 1 = omega arith in
    ap (λ (k : ℕ). flat_map f (range_with_len 1 k)) next
    ∙ (ap (flat_map f) (range-more 1 index)
    ∙ (flat_map-append f (range_with_len 1 index) ((1 + index) ∷ [])
    ∙ (ap (λ (more : List ℕ). flat_map f (range_with_len 1 index) ++ more)
    (one-text f (1 + index) [] (ap f last ∙ ap lines_text none))
    ∙ append-nil (flat_map f (range_with_len 1 index)))))

-- Of the tables up to one, the lines were told; those behind it are as they were.
pub record AreToldTo (index : ℕ) (who : Viewer) (start desk : Desk) (first now : Reach) (floor behind : Bool)
    (had has : List ℕ) : Type 0 where
  pub book : desk.book ≡ start.book
  pub count : length desk.tables.items ≡ length start.tables.items
  pub asked : desk.asked.items ≡ start.asked.items
  pub speaker : now.speaker ≡ first.speaker
  pub journal : now.journal ≡ first.journal
  pub watches : length now.watches ≡ length first.watches
  pub floor_told : behind ≡ false → floor ≡ false
  pub lines : ℕ → List ViewLine
  pub done : (table : ℕ) → table ≤ index
      → IsOneTold table who start desk (watch_of first table) (watch_of now table) (lines table) behind
  pub rest : (table : ℕ) → index < table → (watch_of now table ≡ watch_of first table)
      × (of_table desk.tables.items table ≡ of_table start.tables.items table) × (lines table ≡ [])
  pub text : has ≡ had ++ text_to index lines

-- of a table that there is not, nothing is told
zero-told : (who : Viewer) (desk : Desk) (first : Reach) (floor : Bool) (table : ℕ) → table ≤ 0
    → IsOneTold table who desk desk (watch_of first table) (watch_of first table) [] floor
zero-told who desk first floor zero below = record { moved = tt; told = refl; all = λ _. tt; watch = tt }
zero-told who desk first floor (suc table) below = absurd (omega (arith, below))

-- where neither is so, each is not
or-left : (one other : Bool) → (one || other) ≡ false → one ≡ false
or-left false other none = refl
or-left true other none = absurd (cc (none))

or-right : (one other : Bool) → (one || other) ≡ false → other ≡ false
or-right false other none = none
or-right true other none = absurd (cc (none))

-- Before any table was told of.
pub told-none : (who : Viewer) (desk : Desk) (first : Reach) (floor : Bool) (had : List ℕ)
    → AreToldTo 0 who desk desk first first floor floor had had
told-none who desk first floor had = record {
  book = refl;
  count = refl;
  asked = refl;
  speaker = refl;
  journal = refl;
  watches = refl;
  floor_told = λ none. none;
  lines = λ table. [];
  done = zero-told who desk first floor;
  rest = λ table above. (refl, refl, refl);
  text = sym (append-nil had);
}

-- And with one more that is not watched.
pub told-skipped : (index : ℕ) (who : Viewer) (start desk : Desk) (first now : Reach) (floor behind : Bool)
    (had has : List ℕ) → AreToldTo index who start desk first now floor behind had has
    → watch_of now (index + 1) ≡ None → AreToldTo (index + 1) who start desk first now floor behind had has
told-skipped index who start desk first now floor behind had has so_far none =
    let untouched = so_far.rest (index + 1) (omega arith) in
    let here : IsOneTold (index + 1) who start desk (watch_of first (index + 1)) (watch_of now (index + 1))
    (so_far.lines (index + 1)) behind =
    one-skipped (index + 1) who start desk (watch_of first (index + 1)) (watch_of now (index + 1))
    (so_far.lines (index + 1)) behind (sym untouched.0 ∙ none) none untouched.2 untouched.1 in
    record {
      book = so_far.book;
      count = so_far.count;
      asked = so_far.asked;
      speaker = so_far.speaker;
      journal = so_far.journal;
      watches = so_far.watches;
      floor_told = so_far.floor_told;
      lines = so_far.lines;
      done = λ table most.
          dite (ℕ_discrete table (index + 1))
          (λ same. subst (λ (t : ℕ). IsOneTold t who start desk (watch_of first t) (watch_of now t) (so_far.lines t)
          behind) (sym same) here)
          (λ ne. so_far.done table (omega (arith, ne, most)));
      rest = λ table above. so_far.rest table (omega (arith, above));
      text = so_far.text ∙ ap (λ (rest : List ℕ). had ++ rest) (sym (text-none index so_far.lines untouched.2));
    }

-- And with one more that is watched.
module _ (index : ℕ) (who : Viewer) (start desk next : Desk) (first now later : Reach) (floor behind more : Bool)
    (had has then_has : List ℕ) (before after : Watch)
    (so_far : AreToldTo index who start desk first now floor behind had has)
    (moved : HasDeskMoved 0 (λ table. count_of (table == index + 1)) nothing desk next)
    (others : IsSameBut (index + 1) desk next)
    (told : HasToldTable ((sights next).tables (index + 1)) before after more has then_has)
    (watch : IsWatch who (index + 1) ((sights next).tables (index + 1)) after)
    (was : watch_of now (index + 1) ≡ Some before) (is : watch_of later (index + 1) ≡ Some after)
    (same : (table : ℕ) → table ≢ index + 1 → watch_of later table ≡ watch_of now table) where
  -- the lines of the table, and of each table then
  abbrev its_lines : List ViewLine
  its_lines =
      entries_lines before.teller (entries_between before.told after.told ((sights next).tables (index + 1)))

  abbrev then_lines : ℕ → List ViewLine
  then_lines = lines_with (index + 1) its_lines so_far.lines

  -- the table itself
  one-here : IsOneTold (index + 1) who start next (watch_of first (index + 1)) (watch_of later (index + 1))
      (then_lines (index + 1)) (behind || more)
  one-here =
      let untouched = so_far.rest (index + 1) (omega arith) in
      let row : of_table desk.tables.items (index + 1) ≡ of_table start.tables.items (index + 1) = untouched.1 in
      let was_first : watch_of first (index + 1) ≡ Some before = sym untouched.0 ∙ was in
      let its : then_lines (index + 1) ≡ its_lines = lines-here (index + 1) its_lines so_far.lines in
      let here : (index + 1 == index + 1) ≡ true = grind (arith, nat_tests) in
      let move : IsMovedAt (watch_looks (Some before)) [] desk next (index + 1) =
      rw here at (moved.tables (index + 1)) in
      let whole : IsOneTold (index + 1) who start next (Some before) (Some after) its_lines (behind || more) = record {
        moved = rw (← row) move;
        told = record { in_order = told.in_order; within = told.within; lines_are = refl };
        all = λ none. told.all (or-right behind more none);
        watch = watch;
      } in
      subst (λ (x : Option Watch × Option Watch × List ViewLine).
      IsOneTold (index + 1) who start next x.0 x.1 x.2 (behind || more))
      (λ i. (sym was_first i, sym is i, sym its i)) whole

  -- each table before it
  one-before : (table : ℕ) → table ≤ index
      → IsOneTold table who start next (watch_of first table) (watch_of later table) (then_lines table)
      (behind || more)
  one-before table below =
      let apart : table ≢ index + 1 = λ here. omega (arith, here, below) in
      subst (λ (x : Option Watch × List ViewLine).
      IsOneTold table who start next (watch_of first table) x.0 x.1 (behind || more))
      (λ i. (sym (same table apart) i, sym (lines-elsewhere (index + 1) table its_lines so_far.lines apart) i))
      (one-kept table who start desk next (watch_of first table) (watch_of now table) (so_far.lines table) behind
      (behind || more) (others.others table apart) (or-left behind more) (so_far.done table below))

  pub told-more : length later.watches ≡ length now.watches → later.speaker ≡ now.speaker
      → later.journal ≡ now.journal
      → AreToldTo (index + 1) who start next first later floor (behind || more) had then_has
  told-more watches speaker journal = record {
    book = others.book ∙ so_far.book;
    count = moved.count ∙ so_far.count;
    asked = moved.asked ∙ (append-nil desk.asked.items ∙ so_far.asked);
    speaker = speaker ∙ so_far.speaker;
    journal = journal ∙ so_far.journal;
    watches = watches ∙ so_far.watches;
    floor_told = λ none. so_far.floor_told (or-left behind more none);
    lines = then_lines;
    done = λ table most.
        dite (ℕ_discrete table (index + 1))
        (λ here. subst (λ (t : ℕ). IsOneTold t who start next (watch_of first t) (watch_of later t) (then_lines t)
        (behind || more)) (sym here) one-here)
        (λ ne. one-before table (omega (arith, ne, most)));
    rest = λ table above.
        let untouched = so_far.rest table (omega (arith, above)) in
        let apart : table ≢ index + 1 = λ here. omega (arith, here, above) in (
          same table apart ∙ untouched.0,
          others.others table apart ∙ untouched.1,
          lines-elsewhere (index + 1) table its_lines so_far.lines apart ∙ untouched.2,
        );
    text =
        told.text
        ∙ (ap (λ (front : List ℕ). front ++ lines_text its_lines) so_far.text
        ∙ (append_assoc had (text_to index so_far.lines) (lines_text its_lines)
        ∙ ap (λ (rest : List ℕ). had ++ rest) (sym (text-more index so_far.lines its_lines))));
  }
