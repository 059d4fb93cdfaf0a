-- Where the lines of a stream are cut.
use Rattle.std.proofs.Common.{◌≡◌, ◌≢◌, ◌⊎◌, ℕ, zero, suc, ◌+◌, ◌<◌, ◌≤◌, Bool, true, false, List, [], ◌∷◌, ◌++◌, length, map, Option, None, refl, sym, ap, ◌∙◌, inl, inr, arith, subst, append_assoc, length-append}
use Rattle.std.specs.Prelude.{◌||◌}
use Rattle.std.specs.List.{list_any, slice_split, onto_first}
use Rattle.std.proofs.lemmas.Bool.{cases_eq}
use Rattle.std.proofs.lemmas.Bool.Decides.{nat_tests}
use Rattle.std.proofs.lemmas.List.{nil_from_length}
use Rattle.std.proofs.lemmas.List.Folds.{list_any-append}
use Rattle.std.proofs.lemmas.List.Splits.{slice_split-cons_yes, slice_split-cons_no}
use Rattle.floor_text.specs.Lines.{is_line_feed, HasNoFeed, cut_line, without_empty_last, lines_of_bytes, all_but_last, ended_lines}

-- two lists without a line feed, one behind the other, have none
pub HasNoFeed-append : (xs ys : List ℕ) → HasNoFeed xs → HasNoFeed ys → HasNoFeed (xs ++ ys)
HasNoFeed-append xs ys h k =
    list_any-append is_line_feed xs ys ∙ ap (λ (b : Bool). b || list_any is_line_feed ys) h ∙ k

-- a byte that is no line feed, in front of bytes without one, brings none
pub HasNoFeed-cons : (b : ℕ) (bs : List ℕ) → b ≢ 10 → HasNoFeed bs → HasNoFeed (b ∷ bs)
HasNoFeed-cons b bs other none = grind (arith, nat_tests)

-- the first of bytes without a line feed is no line feed
pub first_other : (b : ℕ) (bs : List ℕ) → HasNoFeed (b ∷ bs) → b ≡ 10 → ⊥
first_other b bs none feed = grind (arith, nat_tests)

-- behind the first of bytes without a line feed there is none either
pub rest_other : (b : ℕ) (bs : List ℕ) → HasNoFeed (b ∷ bs) → HasNoFeed bs
rest_other b bs none = grind (arith, nat_tests)

is_feed : (b : ℕ) → b ≡ 10 → is_line_feed b ≡ true
is_feed b feed = grind (arith, nat_tests)

is_other : (b : ℕ) → b ≢ 10 → is_line_feed b ≡ false
is_other b other = grind (arith, nat_tests)

-- the bytes up to the first line feed, if there is one
abbrev pub IsCut : List ℕ → Type 0
IsCut bytes = (front : List ℕ) × (behind : List ℕ) × (bytes ≡ front ++ 10 ∷ behind) × HasNoFeed front

pub first_feed : (bytes : List ℕ) → HasNoFeed bytes ⊎ IsCut bytes
first_feed [] = inl refl
first_feed (b ∷ bs) =
    elim (cases_eq b 10) [
      | inl feed ↦ inr ([], bs, ap (λ (x : ℕ). x ∷ bs) feed, refl)
      | inr other ↦ elim (first_feed bs) [
        | inl none ↦ inl (HasNoFeed-cons b bs other none)
        | inr cut ↦ inr (b ∷ cut.0, cut.1, ap (λ (xs : List ℕ). b ∷ xs) cut.2, HasNoFeed-cons b cut.0 other cut.3)
      ]
    ]

slice_split-feed : (xs ys : List ℕ) → HasNoFeed xs
    → slice_split is_line_feed (xs ++ 10 ∷ ys) ≡ xs ∷ slice_split is_line_feed ys
slice_split-feed [] ys none = refl
slice_split-feed (x ∷ xs) ys none =
    slice_split-cons_no is_line_feed x (xs ++ 10 ∷ ys) (is_other x (first_other x xs none))
    ∙ ap (onto_first x) (slice_split-feed xs ys (rest_other x xs none))

slice_split-none : (xs : List ℕ) → HasNoFeed xs → slice_split is_line_feed xs ≡ xs ∷ []
slice_split-none [] none = refl
slice_split-none (x ∷ xs) none =
    slice_split-cons_no is_line_feed x xs (is_other x (first_other x xs none))
    ∙ ap (onto_first x) (slice_split-none xs (rest_other x xs none))

slice_split-some : (xs : List ℕ)
    → (part : List ℕ) × (parts : List (List ℕ)) × (slice_split is_line_feed xs ≡ part ∷ parts)
slice_split-some [] = ([], [], refl)
slice_split-some (x ∷ xs) =
    elim (cases_eq x 10) [
      | inl feed ↦ ([], slice_split is_line_feed xs, slice_split-cons_yes is_line_feed x xs (is_feed x feed))
      | inr other ↦
          let more = slice_split-some xs in
          (x ∷ more.0, more.1, slice_split-cons_no is_line_feed x xs (is_other x other) ∙ ap (onto_first x) more.2)
    ]

without_empty_last-more : (part next : List ℕ) (parts : List (List ℕ))
    → without_empty_last (part ∷ next ∷ parts) ≡ part ∷ without_empty_last (next ∷ parts)
without_empty_last-more [] next parts = refl
without_empty_last-more (b ∷ bs) next parts = refl

-- a stream without bytes has no lines
pub lines_of_bytes-nil : lines_of_bytes [] ≡ []
unfolding lines_of_bytes
lines_of_bytes-nil = refl

-- the bytes before the first line feed are the first line, and the lines of what follows it come next
pub lines_of_bytes-line : (line rest : List ℕ) → HasNoFeed line
    → lines_of_bytes (line ++ 10 ∷ rest) ≡ cut_line line ∷ lines_of_bytes rest
unfolding lines_of_bytes
lines_of_bytes-line line rest none =
    let parts = slice_split-some rest in
    let split : slice_split is_line_feed (line ++ 10 ∷ rest) ≡ line ∷ parts.0 ∷ parts.1 =
    slice_split-feed line rest none ∙ ap (λ (ps : List (List ℕ)). line ∷ ps) parts.2 in
    let kept : without_empty_last (slice_split is_line_feed (line ++ 10 ∷ rest))
    ≡ line ∷ without_empty_last (slice_split is_line_feed rest) = ap without_empty_last split
    ∙ without_empty_last-more line parts.0 parts.1
    ∙ ap (λ (ps : List (List ℕ)). line ∷ without_empty_last ps) (sym parts.2) in
    ap (λ (ps : List (List ℕ)). map cut_line ps) kept

pub lines_of_bytes-last : (line : List ℕ) → HasNoFeed line → 0 < length line → lines_of_bytes line ≡ cut_line line ∷ []
unfolding lines_of_bytes
lines_of_bytes-last [] none some = absurd (omega arith)
lines_of_bytes-last (b ∷ bs) none some =
    ap (λ (ps : List (List ℕ)). map cut_line (without_empty_last ps)) (slice_split-none (b ∷ bs) none)

pub cut_long : (line : List ℕ) → 400 < length line → cut_line line ≡ None
cut_long line long = grind (arith, nat_tests)

long_last : (xs rest : List ℕ) → HasNoFeed xs → 400 < length xs → HasNoFeed rest
    → lines_of_bytes (xs ++ rest) ≡ None ∷ []
long_last xs rest none long none_after =
    let all : length (xs ++ rest) ≡ length xs + length rest = length-append xs rest in
    lines_of_bytes-last (xs ++ rest) (HasNoFeed-append xs rest none none_after) (omega arith)
    ∙ ap (λ (l : Option (List ℕ)). l ∷ []) (cut_long (xs ++ rest) (omega arith))

long_line : (xs rest front behind : List ℕ) → HasNoFeed xs → 400 < length xs → rest ≡ front ++ 10 ∷ behind
    → HasNoFeed front → lines_of_bytes (xs ++ rest) ≡ None ∷ lines_of_bytes behind
long_line xs rest front behind none long is none_before =
    let all : length (xs ++ front) ≡ length xs + length front = length-append xs front in
    let same : xs ++ rest ≡ (xs ++ front) ++ 10 ∷ behind = ap (λ (ys : List ℕ). xs ++ ys) is
    ∙ sym (append_assoc xs front (10 ∷ behind)) in
    ap lines_of_bytes same ∙ lines_of_bytes-line (xs ++ front) behind (HasNoFeed-append xs front none none_before)
    ∙ ap (λ (l : Option (List ℕ)). l ∷ lines_of_bytes behind) (cut_long (xs ++ front) (omega arith))

-- of the bytes of a line that is too long it does not matter which come, whatever follows
pub lines_of_long : (xs ys rest : List ℕ) → HasNoFeed xs → HasNoFeed ys → 400 < length xs → 400 < length ys
    → lines_of_bytes (xs ++ rest) ≡ lines_of_bytes (ys ++ rest)
lines_of_long xs ys rest no_x no_y long_x long_y =
    elim (first_feed rest) [
      | inl none ↦ long_last xs rest no_x long_x none ∙ sym (long_last ys rest no_y long_y none)
      | inr cut ↦ long_line xs rest cut.0 cut.1 no_x long_x cut.2 cut.3
          ∙ sym (long_line ys rest cut.0 cut.1 no_y long_y cut.2 cut.3)
    ]

-- a byte that is no line feed is kept while there is room for it
pub begun_more : (begun : List ℕ) (byte : ℕ) (rest : List ℕ)
    → lines_of_bytes (begun ++ byte ∷ rest) ≡ lines_of_bytes ((begun ++ byte ∷ []) ++ rest)
begun_more begun byte rest = ap lines_of_bytes (sym (append_assoc begun (byte ∷ []) rest))

-- and no more where the line is too long by then
pub begun_long : (begun : List ℕ) (byte : ℕ) (rest : List ℕ) → HasNoFeed begun → byte ≢ 10 → 400 < length begun
    → lines_of_bytes (begun ++ byte ∷ rest) ≡ lines_of_bytes (begun ++ rest)
begun_long begun byte rest none other long =
    let all : length (begun ++ byte ∷ []) ≡ length begun + 1 = length-append begun (byte ∷ []) in
    begun_more begun byte rest
    ∙ lines_of_long (begun ++ byte ∷ []) begun rest
    (HasNoFeed-append begun (byte ∷ []) none (HasNoFeed-cons byte [] other refl)) none (omega arith) long

-- a stream whose length is zero has no lines
pub lines_of_none : (bytes : List ℕ) → length bytes ≡ 0 → lines_of_bytes bytes ≡ []
lines_of_none bytes none = ap lines_of_bytes (nil_from_length bytes none) ∙ lines_of_bytes-nil

-- one line handed out at a line feed
pub handed_at_feed : (line rest new : List ℕ) (byte : ℕ) (handed : List (Option (List ℕ))) → byte ≡ 10 → HasNoFeed line
    → handed ≡ cut_line line ∷ [] → new ≡ []
    → lines_of_bytes (line ++ byte ∷ rest) ≡ handed ++ lines_of_bytes (new ++ rest)
handed_at_feed line rest new byte handed feed none is empty =
    ap (λ (b : ℕ). lines_of_bytes (line ++ b ∷ rest)) feed ∙ lines_of_bytes-line line rest none
    ∙ sym (ap (λ (h : List (Option (List ℕ))). h ++ lines_of_bytes (new ++ rest)) is
    ∙ ap (λ (n : List ℕ). cut_line line ∷ lines_of_bytes (n ++ rest)) empty)

-- the last line handed out at the end
pub handed_at_end : (line : List ℕ) (handed : List (Option (List ℕ))) → HasNoFeed line → 0 < length line
    → handed ≡ cut_line line ∷ [] → lines_of_bytes line ≡ handed
handed_at_end line handed none some is = lines_of_bytes-last line none some ∙ sym is

-- Where no line feed is, no line is ended.
pub ended_lines-none : (bytes : List ℕ) → HasNoFeed bytes → ended_lines bytes ≡ []
unfolding ended_lines
ended_lines-none bytes none =
    ap (λ (parts : List (List ℕ)). map cut_line (all_but_last parts)) (slice_split-none bytes none)

-- The bytes before the first line feed are the first line that is ended, and those of what follows it come next.
pub ended_lines-line : (line rest : List ℕ) → HasNoFeed line
    → ended_lines (line ++ 10 ∷ rest) ≡ cut_line line ∷ ended_lines rest
unfolding ended_lines
ended_lines-line line rest none =
    let parts = slice_split-some rest in
    let split : slice_split is_line_feed (line ++ 10 ∷ rest) ≡ line ∷ parts.0 ∷ parts.1 =
    slice_split-feed line rest none ∙ ap (λ (ps : List (List ℕ)). line ∷ ps) parts.2 in
    ap (λ (ps : List (List ℕ)). map cut_line (all_but_last ps)) split
    ∙ ap (λ (ps : List (List ℕ)). cut_line line ∷ map cut_line (all_but_last ps)) (sym parts.2)

one_line : (begun : List ℕ) (byte : ℕ) → HasNoFeed begun
    → (line : Option (List ℕ)) × (lines_of_bytes (begun ++ byte ∷ []) ≡ line ∷ [])
one_line begun byte none =
    elim (cases_eq byte 10) [
      | inl feed ↦ (
        cut_line begun,
        ap (λ (b : ℕ). lines_of_bytes (begun ++ b ∷ [])) feed ∙ lines_of_bytes-line begun [] none
            ∙ ap (λ (lines : List (Option (List ℕ))). cut_line begun ∷ lines) lines_of_bytes-nil,
      )
      | inr other ↦
          let all : length (begun ++ byte ∷ []) ≡ length begun + 1 = length-append begun (byte ∷ []) in (
            cut_line (begun ++ byte ∷ []),
            lines_of_bytes-last (begun ++ byte ∷ [])
                (HasNoFeed-append begun (byte ∷ []) none (HasNoFeed-cons byte [] other refl)) (omega arith),
          )
    ]

-- a front of a stream and one byte more: the lines that are ended in the front, and one more
abbrev IsOneMore : List ℕ → ℕ → Type 0
IsOneMore front byte =
    (line : Option (List ℕ)) × (lines_of_bytes (front ++ byte ∷ []) ≡ ended_lines front ++ line ∷ [])

more_of_none : (front : List ℕ) (byte : ℕ) → HasNoFeed front → IsOneMore front byte
more_of_none front byte none =
    let one = one_line front byte none in (
      one.0,
      one.1 ∙ sym (ap (λ (lines : List (Option (List ℕ))). lines ++ one.0 ∷ []) (ended_lines-none front none)),
    )

more_of_line : (line behind : List ℕ) (byte : ℕ) → HasNoFeed line → IsOneMore behind byte
    → IsOneMore (line ++ 10 ∷ behind) byte
more_of_line line behind byte none more = (
  more.0,
  ap lines_of_bytes (append_assoc line (10 ∷ behind) (byte ∷ []))
      ∙ lines_of_bytes-line line (behind ++ byte ∷ []) none
      ∙ ap (λ (lines : List (Option (List ℕ))). cut_line line ∷ lines) more.1
      ∙ sym (ap (λ (lines : List (Option (List ℕ))). lines ++ more.0 ∷ []) (ended_lines-line line behind none)),
)

more_of : (n : ℕ) (front : List ℕ) (byte : ℕ) → length front ≤ n → IsOneMore front byte
more_of zero front byte size =
    more_of_none front byte (ap (list_any is_line_feed) (nil_from_length front (omega arith)))
more_of (suc n) front byte size =
    elim (first_feed front) [
      | inl none ↦ more_of_none front byte none
      | inr cut ↦
          let all : length front ≡ length cut.0 + length (10 ∷ cut.1) = ap length cut.2
          ∙ length-append cut.0 (10 ∷ cut.1) in
          subst (λ (xs : List ℕ). IsOneMore xs byte) (sym cut.2)
          (more_of_line cut.0 cut.1 byte cut.3 (more_of n cut.1 byte (omega arith)))
    ]

all_but_last-append : {X : Type 0} (xs : List X) (x : X) → all_but_last (xs ++ x ∷ []) ≡ xs
all_but_last-append [] x = refl
all_but_last-append (y ∷ []) x = refl
all_but_last-append (y ∷ next ∷ ys) x = ap (λ zs. y ∷ zs) (all_but_last-append (next ∷ ys) x)

-- What was handed out of bytes and one more, where what is held is one line at most, is the lines that are ended in the
-- bytes.
pub handed_are_ended : (front begun : List ℕ) (byte last : ℕ) (handed : List (Option (List ℕ))) → HasNoFeed begun
    → lines_of_bytes (front ++ byte ∷ []) ≡ handed ++ lines_of_bytes (begun ++ last ∷ [])
    → handed ≡ ended_lines front
handed_are_ended front begun byte last handed none same =
    let one = one_line begun last none in
    let more = more_of (length front) front byte (omega arith) in
    let both : ended_lines front ++ more.0 ∷ [] ≡ handed ++ one.0 ∷ [] =
    sym more.1 ∙ same ∙ ap (λ (lines : List (Option (List ℕ))). handed ++ lines) one.1 in
    sym (all_but_last-append handed one.0) ∙ ap all_but_last (sym both)
    ∙ all_but_last-append (ended_lines front) more.0

-- What was handed out of bytes, where no line feed is held, whatever comes behind, is the lines that are ended in them.
pub handed_so_far : (bytes held : List ℕ) (handed : List (Option (List ℕ))) → HasNoFeed held
    → ((more : List ℕ) → lines_of_bytes (bytes ++ more) ≡ handed ++ lines_of_bytes (held ++ more))
    → handed ≡ ended_lines bytes
handed_so_far bytes held handed none same = handed_are_ended bytes held 10 10 handed none (same (10 ∷ []))
