-- Parts of the buffer in which bytes wait.
use Rattle.std.proofs.Common.{◌≡◌, ℕ, zero, suc, Bool, ◌+◌, ◌-◌, ◌<◌, ◌≤◌, false, cond, List, [], ◌∷◌, ◌++◌, length, get_or, take, drop, Option, Some, None, MatchOption, refl, sym, ap, ◌∙◌, subst, inl, inr, arith, length-take, length-drop}
use Rattle.std.specs.Prelude.{not, slice_range, position, min, nat_lt}
use Rattle.std.specs.List.{list_any, position_or_len, copy_within}
use Rattle.std.proofs.Math.Seq.{take-add}
use Rattle.std.proofs.lemmas.Bool.{cases_lt, cases_eq, false_from_ne_true}
use Rattle.std.proofs.lemmas.Bool.Decides.{nat_tests}
use Rattle.std.proofs.lemmas.List.{drop-drop, drop-take, take-take, take_all, length-take-le, take_at}
use Rattle.std.proofs.lemmas.List.Edits.{take-paste, length-between}
use Rattle.std.proofs.lemmas.Slice.{between_from_start}
use lib.Seq.{paste}
use Rattle.std.proofs.lemmas.List.Sums.{position_or_len_is, prefix_len_stops}
use Rattle.memchr.specs.Find.{IsFirstByte, is_byte}
use Rattle.floor_text.specs.HeldBytes.{IsFirstFeed}
use Rattle.floor_text.specs.Lines.{is_line_feed, HasNoFeed}
use Rattle.floor_text.proofs.CutLines.{HasNoFeed-cons}

not_at_feed : (b n m : ℕ) → b ≡ 10 → suc n ≤ cond (not (is_line_feed b)) (1 + m) 0 → ⊥
not_at_feed b n m feed within = grind (arith, nat_tests)

past_other : (b n m : ℕ) → suc n ≤ cond (not (is_line_feed b)) (1 + m) 0 → n ≤ m
past_other b n m within = grind (arith, nat_tests)

no_feed_before : (bytes : List ℕ) (n : ℕ) → n ≤ position_or_len is_line_feed bytes → HasNoFeed (take n bytes)
no_feed_before bytes zero within = refl
no_feed_before [] (suc n) within = refl
no_feed_before (b ∷ bs) (suc n) within =
    elim (cases_eq b 10) [
      | inl feed ↦ absurd (not_at_feed b n (position_or_len is_line_feed bs) feed within)
      | inr other ↦ HasNoFeed-cons b (take n bs) other
          (no_feed_before bs n (past_other b n (position_or_len is_line_feed bs) within))
    ]

is_at_feed : (b : ℕ) → not (is_line_feed b) ≡ false → b ≡ 10
is_at_feed b stops = grind (arith, nat_tests)

feed_at_position : (bytes : List ℕ) → position_or_len is_line_feed bytes < length bytes
    → get_or bytes (position_or_len is_line_feed bytes) 0 ≡ 10
feed_at_position bytes within =
    is_at_feed (get_or bytes (position_or_len is_line_feed bytes) 0)
    (prefix_len_stops (λ (b : ℕ). not (is_line_feed b)) bytes 0 within)

position_within : (at len : ℕ) → at < len → cond (nat_lt at len) (Some at) None ≡ Some at
position_within at len within = grind (arith, nat_tests)

position_past : (at len : ℕ) → len ≤ at → cond (nat_lt at len) (Some at) None ≡ None
position_past at len past = grind (arith, nat_tests)

-- The first index that holds a byte is the first that passes the test for it.
pub first_byte_is_position : (byte : ℕ) (bytes : List ℕ) (r : Option ℕ) → IsFirstByte (is_byte byte) bytes r
    → r ≡ position (is_byte byte) bytes
first_byte_is_position byte bytes None nowhere =
    let test : ℕ → Bool = is_byte byte in
    let all : position_or_len test bytes ≡ length bytes =
    position_or_len_is test bytes (length bytes) 0 (omega arith)
    (λ k before. false_from_ne_true (is_byte byte (get_or bytes k 0)) (nowhere k (omega arith) before))
    (λ past. absurd (omega arith)) in
    sym (position_past (position_or_len test bytes) (length bytes) (omega (arith, all)))
first_byte_is_position byte bytes (Some at) found =
    let test : ℕ → Bool = is_byte byte in
    let first : position_or_len test bytes ≡ at =
    position_or_len_is test bytes at 0 (omega (arith, found.0.high))
    (λ k before. false_from_ne_true (is_byte byte (get_or bytes k 0)) (found.0.before k (omega arith) before))
    (λ within. found.1) in
    let high : position_or_len test bytes < length bytes = omega (arith, first, found.0.high) in
    sym (position_within (position_or_len test bytes) (length bytes) high ∙ ap Some first)

-- Where a search for a line feed finds an index, the first line feed is there, and where it finds none there is none.
pub first_feed_found : (bytes : List ℕ) (r : Option ℕ) → r ≡ position is_line_feed bytes
    → MatchOption r (HasNoFeed bytes) (λ at. IsFirstFeed bytes at)
first_feed_found bytes r is =
    let at = position_or_len is_line_feed bytes in
    let P : Option ℕ → Type 0 = λ o. MatchOption o (HasNoFeed bytes) (λ k. IsFirstFeed bytes k) in
    elim (cases_lt at (length bytes)) [
      | inl within ↦ subst P (sym (is ∙ position_within at (length bytes) within)) (record {
        within = within;
        before = no_feed_before bytes at (omega arith);
        feed = feed_at_position bytes within;
      })
      | inr past ↦
          let none : HasNoFeed (take at bytes) = no_feed_before bytes at (omega arith) in
          subst P (sym (is ∙ position_past at (length bytes) past))
          (ap (list_any is_line_feed) (sym (take_all at bytes past)) ∙ none)
    ]

-- a part of a part
pub range_in_range : (xs : List ℕ) (i j a b : ℕ) → a ≤ b → i + b ≤ j
    → slice_range (slice_range xs i j) a b ≡ slice_range xs (i + a) (i + b)
range_in_range xs i j a b order within =
    let size : j - i ≡ a + (j - i - a) = omega arith in
    let rest : drop a (slice_range xs i j) ≡ take (j - i - a) (drop (i + a) xs) =
    ap (λ (n : ℕ). drop a (take n (drop i xs))) size ∙ drop-take a (j - i - a) (drop i xs)
    ∙ ap (take (j - i - a)) (drop-drop a i xs) in
    let count : i + b - (i + a) ≡ b - a = omega arith in
    ap (take (b - a)) rest ∙ take-take (b - a) (j - i - a) (drop (i + a) xs) (omega arith)
    ∙ ap (λ (n : ℕ). take n (drop (i + a) xs)) (sym count)

-- the rest of a part
pub rest_of_range : (xs : List ℕ) (i j n : ℕ) → i + n ≤ j → slice_range xs (i + n) j ≡ drop n (slice_range xs i j)
rest_of_range xs i j n within =
    let size : j - i ≡ n + (j - (i + n)) = omega arith in
    sym (ap (λ (m : ℕ). drop n (take m (drop i xs))) size ∙ drop-take n (j - (i + n)) (drop i xs)
    ∙ ap (take (j - (i + n))) (drop-drop n i xs))

-- the front of a part that was moved to the front of the buffer
moved_to_front : (xs : List ℕ) (start kept : ℕ) → start + kept ≤ length xs
    → take kept (copy_within xs start (start + kept) 0) ≡ take kept (drop start xs)
moved_to_front xs start kept within =
    let count : start + kept - start ≡ kept = omega arith in
    let room : kept ≤ length (drop start xs) = omega (arith, length-drop start xs) in
    let zero_and : 0 + kept ≡ kept = omega arith in
    ap (λ (n : ℕ). take kept (paste xs 0 (drop start xs) n)) count
    ∙ ap (λ (n : ℕ). take n (paste xs 0 (drop start xs) kept)) (sym zero_and)
    ∙ take-paste xs 0 (drop start xs) kept (omega arith) room

-- the bytes that are kept are the first 401 of those that waited
kept_of_held : (xs : List ℕ) (start end kept : ℕ) → kept ≡ min (end - start) 401
    → take kept (drop start xs) ≡ take 401 (slice_range xs start end)
kept_of_held xs start end kept is =
    elim (cases_lt 401 (end - start)) [
      | inl long ↦
          let count : kept ≡ 401 = omega arith in
          ap (λ (n : ℕ). take n (drop start xs)) count ∙ sym (take-take 401 (end - start) (drop start xs) (omega arith))
      | inr short ↦
          let count : kept ≡ end - start = omega arith in
          ap (λ (n : ℕ). take n (drop start xs)) count
          ∙ sym (take_all 401 (take (end - start) (drop start xs))
          (omega (arith, length-take (end - start) (drop start xs))))
    ]

-- what is kept of the bytes that waited stands in the front of the buffer
pub record IsMoved (held buffer : List ℕ) (kept : ℕ) : Type 0 where
  pub front : take kept buffer ≡ take 401 held
  pub count : length (take 401 held) ≡ kept

pub moved : (items held now back buffer : List ℕ) (start end kept : ℕ) → start ≤ end → end ≤ length items
    → kept ≡ min (end - start) 401 → slice_range items start end ≡ held → now ≡ copy_within items start (start + kept) 0
    → take kept back ≡ take kept now → buffer ≡ back → IsMoved held buffer kept
moved items held now back buffer start end kept order within is view copied same written =
    let front : take kept (drop start items) ≡ take 401 held = kept_of_held items start end kept is
    ∙ ap (take 401) view in
    record {
      front = ap (take kept) written ∙ same ∙ ap (take kept) copied ∙ moved_to_front items start kept (omega arith)
          ∙ front;
      count = sym (ap length front) ∙ length-take-le kept (drop start items) (omega (arith, length-drop start items));
    }

-- The front of the buffer, as far as what is kept reaches, is the bytes that waited, cut after the first 401.
pub moved_kept : (held buffer : List ℕ) (kept : ℕ) → IsMoved held buffer kept
    → slice_range buffer 0 kept ≡ take 401 held
moved_kept held buffer kept is = between_from_start buffer kept ∙ is.front

-- A front of the buffer at least as long as what is kept begins with the bytes that waited, cut after the first 401.
pub moved_front : (held buffer : List ℕ) (kept n : ℕ) → IsMoved held buffer kept
    → take (length (take 401 held)) (slice_range buffer 0 (kept + n)) ≡ take 401 held
moved_front held buffer kept n is =
    ap (λ (m : ℕ). take m (slice_range buffer 0 (kept + n))) is.count
    ∙ ap (take kept) (between_from_start buffer (kept + n)) ∙ take-take kept (kept + n) buffer (omega arith)
    ∙ is.front

-- Where the buffer has room, a front of it that goes some bytes past what is kept is that many bytes longer.
pub moved_count : (held buffer : List ℕ) (kept n : ℕ) → IsMoved held buffer kept → kept + n ≤ length buffer
    → length (slice_range buffer 0 (kept + n)) ≡ length (take 401 held) + n
moved_count held buffer kept n is room =
    let count : length (take 401 held) ≡ kept = is.count in
    omega (arith, length-between buffer 0 (kept + n) room)

-- Where the bytes that came stand behind what is kept, the front of the buffer is what is kept and then those bytes.
pub moved_behind : (held buffer bytes : List ℕ) (kept n : ℕ) → IsMoved held buffer kept
    → take n (drop kept buffer) ≡ take n bytes → slice_range buffer 0 (kept + n) ≡ take 401 held ++ take n bytes
moved_behind held buffer bytes kept n is given =
    between_from_start buffer (kept + n) ∙ take-add kept n buffer
    ∙ ap (λ (xs : List ℕ). xs ++ take n (drop kept buffer)) is.front
    ∙ ap (λ (xs : List ℕ). take 401 held ++ xs) given

-- The bytes that waited, moved to the front and cut after 401, stand there still when a call that was lent the buffer
-- left that front as it was and gave back a buffer of the given size.
pub moved_by_call : (items held now lent back : List ℕ) (start end kept size : ℕ) → start ≤ end → end ≤ length items
    → kept ≡ min (end - start) 401 → slice_range items start end ≡ held → now ≡ copy_within items start (start + kept) 0
    → lent ≡ now → take kept back ≡ take kept lent → length back ≡ size
    → IsMoved held (take size (back ++ drop (length back) now)) kept
moved_by_call items held now lent back start end kept size order within is view copied lends front whole =
    moved items held now back (take size (back ++ drop (length back) now)) start end kept order within is view copied
    (front ∙ ap (take kept) lends) (take_at back (drop (length back) now) size whole)
