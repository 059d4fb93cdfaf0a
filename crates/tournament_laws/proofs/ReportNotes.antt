-- The lines of a report are notes.
use Rattle.std.proofs.Common.{◌≡◌, ◌∙◌, refl, sym, ap, ℕ, ◌*◌, ◌≤◌, ◌<◌, ◌^◌, true, List, [], ◌∷◌, ◌++◌, map, length, length-append, leb, IsTrue, arith}
use Rattle.std.specs.Prelude.{not, slice_index, Option, Some, None, codes}
use Rattle.std.specs.Char.{is_ascii_alphabetic}
use Rattle.std.specs.Fmt.{decimal}
use Rattle.std.specs.List.{list_all, flat_map, join_with_byte, AllByRecursion}
use Rattle.std.specs.Option.{ForSome}
use Rattle.std.specs.Str.{bytes_eq}
use Rattle.std.proofs.lemmas.Bool.{and_parts, and_from}
use Rattle.std.proofs.lemmas.List.{append-nil}
use Rattle.std.proofs.lemmas.Bool.Decides.{nat_tests}
use Rattle.std.proofs.lemmas.Fmt.{length-decimal-le}
use Rattle.std.proofs.lemmas.Grind.{flat_map-append}
use Rattle.floor_text.specs.Limits.{longest_name}
use Rattle.floor_text.specs.Lines.{HasNoFeed}
use Rattle.floor_text.specs.Names.{is_name, is_name_byte}
use Rattle.tournament_events.specs.declared.report.Report.{Report}
use Rattle.tournament_events.specs.declared.report.ReportSeat.{ReportSeat}
use Rattle.tournament_events.specs.declared.report.ReportOut.{ReportOut}
use Rattle.floor_events.specs.Spelling.{IsNote, stack_word, amount_line, report_head, seat_line, out_line, report_text}
use Rattle.line_words.specs.Words.{line_of_words}
use Rattle.line_words.proofs.Spaces.{is_word, decimal_word, name_word, line_no_feed}
use Rattle.tournament_laws.proofs.Cuts.{with_feed}

-- A word of at most 20 bytes.
pub record IsShort (bytes : List ℕ) : Type 0 where
  pub word : is_word bytes ≡ true
  pub short : length bytes ≤ 20

-- words of which each is short
abbrev AreShort : List (List ℕ) → Type 0
AreShort words = AllByRecursion IsShort words

all_words : (words : List (List ℕ)) → AreShort words → list_all is_word words ≡ true
all_words [] are = refl
all_words (word ∷ words) are = and_from _ _ are.0.word (all_words words are.1)

-- each word brings at most 21 bytes
joined_short : (words : List (List ℕ)) → AreShort words → length (join_with_byte 32 words) ≤ 21 * length words
joined_short [] are = omega arith
joined_short (word ∷ []) are = let short = are.0.short in omega (arith, short)
joined_short (word ∷ next ∷ words) are =
    let short = are.0.short in
    let later = joined_short (next ∷ words) are.1 in
    let joined = length-append word (32 ∷ join_with_byte 32 (next ∷ words)) in
    omega (arith, short, later, joined)

-- A note that is read as it is written: it has no line feed.
pub record IsNoteLine (bytes : List ℕ) : Type 0 where
  pub no_feed : HasNoFeed bytes
  pub note : IsNote bytes

-- a line of a report, by its words
abbrev noted : List (List ℕ) → List ℕ
noted words = join_with_byte 32 (codes "*" ∷ words)

star : IsShort (codes "*")
star = record { word = refl; short = omega arith }

note_of : (first : List ℕ) (words : List (List ℕ)) → AreShort (first ∷ words) → length words ≤ 6
    → IsNoteLine (noted (first ∷ words))
note_of first words are few =
    let most = joined_short (codes "*" ∷ first ∷ words) (star, are) in
    record {
      no_feed = line_no_feed (codes "*" ∷ first ∷ words) (all_words (codes "*" ∷ first ∷ words) (star, are));
      note = record { star = refl; short = omega (arith, most, few) };
    }

number : (n : ℕ) → n < 2 ^ 64 → IsShort (decimal n)
number n small = record {
  word = decimal_word n small;
  short = length-decimal-le 20 n (omega arith) (omega (arith, small)) small;
}

name_is_short : (name : List ℕ) → IsTrue (is_name name) → IsShort name
name_is_short name right =
    let rest = and_parts (is_ascii_alphabetic (slice_index name 0)) _ right in
    let length_test = and_parts (list_all is_name_byte name) _ rest.1 in
    let few = and_parts (leb (length name) longest_name) (not (bytes_eq name (codes "floor"))) length_test.1 in
    record { word = name_word name right; short = grind (arith, nat_tests, few.0) }

-- What may stand in a report's line of a player who is in.
pub record IsSeatNote (seat : ReportSeat) : Type 0 where
  pub table : seat.place.table < 2 ^ 64
  pub number : seat.place.seat < 2 ^ 64
  pub name : IsTrue (is_name seat.name)
  pub stack : ForSome seat.stack (λ stack. stack < 2 ^ 64)

-- What may stand in a report's line of a player who is out.
pub record IsOutNote (out : ReportOut) : Type 0 where
  pub number : out.place < 2 ^ 64
  pub name : IsTrue (is_name out.name)
  pub prize : out.prize < 2 ^ 64

-- What may stand in a report.
pub record IsReportable (report : Report) : Type 0 where
  pub level : report.level < 2 ^ 64
  pub sold : report.sold < 2 ^ 64
  pub removed : report.removed < 2 ^ 64
  pub added : report.added < 2 ^ 64
  pub rest : report.rest < 2 ^ 64
  pub play : report.play < 2 ^ 64
  pub seats : AllByRecursion IsSeatNote report.seats
  pub outs : AllByRecursion IsOutNote report.outs

amount_note : List ℕ → ℕ → List ℕ
amount_note word amount = noted (word ∷ decimal amount ∷ [])

seat_note : ReportSeat → List ℕ
seat_note seat =
    noted (codes "seat" ∷ decimal seat.place.table ∷ decimal seat.place.seat ∷ seat.name ∷ stack_word seat.stack ∷ [])

out_note : ReportOut → List ℕ
out_note out = noted (codes "out" ∷ decimal out.place ∷ out.name ∷ decimal out.prize ∷ [])

abbrev head_notes : Report → List (List ℕ)
head_notes report =
    noted (codes "report" ∷ []) ∷
    amount_note (codes "level") report.level ∷ amount_note (codes "sold") report.sold ∷
    amount_note (codes "removed") report.removed ∷ amount_note (codes "added") report.added ∷
    amount_note (codes "rest") report.rest ∷ amount_note (codes "play") report.play ∷ []

-- The lines of a report.
pub report_lines : Report → List (List ℕ)
report_lines report =
    head_notes report ++ (map seat_note report.seats ++ (map out_note report.outs ++ noted (codes "end" ∷ []) ∷ []))

head_is : (report : Report) → report_head report ≡ flat_map with_feed (head_notes report)
unfolding amount_note
head_is report =
    ap (λ (last : List ℕ). line_of_words (codes "*" ∷ codes "report" ∷ []) ++
    (amount_line (codes "level") report.level ++
    (amount_line (codes "sold") report.sold ++
    (amount_line (codes "removed") report.removed ++
    (amount_line (codes "added") report.added ++
    (amount_line (codes "rest") report.rest ++ last))))))
    (sym (append-nil (amount_line (codes "play") report.play)))

seats_are : (seats : List ReportSeat) → flat_map seat_line seats ≡ flat_map with_feed (map seat_note seats)
unfolding seat_note
seats_are [] = refl
seats_are (seat ∷ seats) = ap (λ (later : List ℕ). seat_line seat ++ later) (seats_are seats)

outs_are : (outs : List ReportOut) → flat_map out_line outs ≡ flat_map with_feed (map out_note outs)
unfolding out_note
outs_are [] = refl
outs_are (out ∷ outs) = ap (λ (later : List ℕ). out_line out ++ later) (outs_are outs)

-- A report's text is its lines, each with its line feed.
pub report_is : (report : Report) → report_text report ≡ flat_map with_feed (report_lines report)
unfolding report_lines
report_is report =
    let end : List (List ℕ) = noted (codes "end" ∷ []) ∷ [] in
    let outs = map out_note report.outs in
    let seats = map seat_note report.seats in
    let later = sym (flat_map-append with_feed outs end) in
    let last = sym (flat_map-append with_feed seats (outs ++ end)) in
    let all = sym (flat_map-append with_feed (head_notes report) (seats ++ (outs ++ end))) in
    paths (head_is report) (paths (seats_are report.seats) (paths (outs_are report.outs) refl ∙ later) ∙ last) ∙ all
  where
    paths : {a b c d : List ℕ} → a ≡ b → c ≡ d → a ++ c ≡ b ++ d
    paths p q = λ i. p i ++ q i

amount_is : (word : List ℕ) (n : ℕ) → IsShort word → n < 2 ^ 64 → IsNoteLine (amount_note word n)
unfolding amount_note
amount_is word n short small = note_of word (decimal n ∷ []) (short, (number n small, tt)) (omega arith)

seat_is : (seat : ReportSeat) → IsSeatNote seat → IsNoteLine (seat_note seat)
unfolding seat_note
seat_is seat is = note_of (codes "seat")
    (decimal seat.place.table ∷ decimal seat.place.seat ∷ seat.name ∷ stack_word seat.stack ∷ []) (
      record { word = refl; short = omega arith },
      (
        number seat.place.table is.table,
        (
          number seat.place.seat is.number,
          (
            name_is_short seat.name is.name,
            (stack_is seat.stack is.stack, tt),
          ),
        ),
      ),
    ) (omega arith)
  where
    stack_is : (stack : Option ℕ) → ForSome stack (λ stack. stack < 2 ^ 64) → IsShort (stack_word stack)
    stack_is None small = record { word = refl; short = omega arith }
    stack_is (Some stack) small = number stack (small stack refl)

out_is : (out : ReportOut) → IsOutNote out → IsNoteLine (out_note out)
unfolding out_note
out_is out is = note_of (codes "out") (decimal out.place ∷ out.name ∷ decimal out.prize ∷ []) (
  record { word = refl; short = omega arith },
  (number out.place is.number, (name_is_short out.name is.name, (number out.prize is.prize, tt))),
) (omega arith)

each_is : {A : Type 0} (Fits : A → Type 0) (write : A → List ℕ) (items : List A)
    → ((item : A) → Fits item → IsNoteLine (write item)) → AllByRecursion Fits items
    → AllByRecursion IsNoteLine (map write items)
each_is Fits write [] is fits = tt
each_is Fits write (item ∷ items) is fits = (is item fits.0, each_is Fits write items is fits.1)

joined : (one other : List (List ℕ)) → AllByRecursion IsNoteLine one → AllByRecursion IsNoteLine other
    → AllByRecursion IsNoteLine (one ++ other)
joined [] other first second = second
joined (line ∷ one) other first second = (first.0, joined one other first.1 second)

-- The lines of a report are notes.
pub lines_are_notes : (report : Report) → IsReportable report → AllByRecursion IsNoteLine (report_lines report)
unfolding report_lines
lines_are_notes report is =
    let end = note_of (codes "end") [] (record { word = refl; short = omega arith }, tt) (omega arith) in
    joined (head_notes report) _ (
      note_of (codes "report") [] (record { word = refl; short = omega arith }, tt) (omega arith),
      (
        amount_is (codes "level") report.level (record { word = refl; short = omega arith }) is.level,
        (
          amount_is (codes "sold") report.sold (record { word = refl; short = omega arith }) is.sold,
          (
            amount_is (codes "removed") report.removed (record { word = refl; short = omega arith }) is.removed,
            (
              amount_is (codes "added") report.added (record { word = refl; short = omega arith }) is.added,
              (
                amount_is (codes "rest") report.rest (record { word = refl; short = omega arith }) is.rest,
                (amount_is (codes "play") report.play (record { word = refl; short = omega arith }) is.play, tt),
              ),
            ),
          ),
        ),
      ),
    )
    (joined (map seat_note report.seats) _ (each_is IsSeatNote seat_note report.seats seat_is is.seats)
    (joined (map out_note report.outs) _ (each_is IsOutNote out_note report.outs out_is is.outs) (end, tt)))
