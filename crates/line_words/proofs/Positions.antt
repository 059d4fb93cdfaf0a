-- Where a byte is first among the first few bytes, and where behind them.
use Rattle.std.proofs.Common.{◌≡◌, ℕ, ◌+◌, ◌-◌, ◌<◌, ◌≤◌, cond, eqb, ltb, not, List, length, get_or, take, drop, Option, Some, None, option_map, subst, sym, arith, length-take}
use Rattle.std.specs.Prelude.{min}
use Rattle.std.specs.List.{position, position_or_len}
use Rattle.std.proofs.lemmas.Bool.{ltb-true, ne_eqb}
use Rattle.std.proofs.lemmas.Bool.Decides.{nat_tests}
use Rattle.std.proofs.lemmas.List.{get_or-take, length-drop, length-take-le, take-append-drop, take_rest}
use Rattle.std.proofs.lemmas.List.Folds.{prefix_len-append}
use Rattle.std.proofs.lemmas.List.Sums.{position_or_len_is, prefix_len-le-length}
use Rattle.std.proofs.lemmas.Option.{cond_some}
use Rattle.memchr.specs.Find.{IsFirstByte, is_byte}
use Rattle.floor_text.proofs.HeldLists.{first_byte_is_position}

found : (place len i : ℕ) → place ≡ i → i < len → Some i ≡ cond (ltb place len) (Some place) None
found place len i is within = grind (arith, nat_tests)

not_found : (place len : ℕ) → len ≤ place → None ≡ cond (ltb place len) (Some place) None
not_found place len past = grind (arith, nat_tests)

none_within : (place len : ℕ) → None ≡ cond (ltb place len) (Some place) None → len ≤ place
none_within place len none = grind (arith, nat_tests)

-- An index among the first n that holds a byte, where none before it does, is the first among them.
pub at-first : (byte n i : ℕ) (bytes : List ℕ) → i < n → i < length bytes
    → ((k : ℕ) → k < i → get_or bytes k 0 ≡ byte → ⊥) → get_or bytes i 0 ≡ byte
    → Some i ≡ position (is_byte byte) (take n bytes)
at-first byte n i bytes near within before here =
    let long : length (take n bytes) ≡ min n (length bytes) = length-take n bytes in
    let first : position_or_len (is_byte byte) (take n bytes) ≡ i =
    position_or_len_is (is_byte byte) (take n bytes) i 0 (omega (arith, long))
    (λ k sooner. rw (get_or-take n bytes k 0 (omega arith)) (ne_eqb (get_or bytes k 0) byte (before k sooner)))
    (λ among. rw (get_or-take n bytes i 0 near) (grind (arith, nat_tests))) in
    found (position_or_len (is_byte byte) (take n bytes)) (length (take n bytes)) i first (omega (arith, long))

-- Where none of the first n bytes is a byte, it is first nowhere among them.
pub at-none : (byte n : ℕ) (bytes : List ℕ) → ((k : ℕ) → k < min (length bytes) n → get_or bytes k 0 ≡ byte → ⊥)
    → None ≡ position (is_byte byte) (take n bytes)
at-none byte n bytes nowhere =
    let long : length (take n bytes) ≡ min n (length bytes) = length-take n bytes in
    let past : position_or_len (is_byte byte) (take n bytes) ≡ length (take n bytes) =
    position_or_len_is (is_byte byte) (take n bytes) (length (take n bytes)) 0 (omega arith)
    (λ k within. rw (get_or-take n bytes k 0 (omega (arith, long)))
    (ne_eqb (get_or bytes k 0) byte (nowhere k (omega (arith, long)))))
    (λ beyond. absurd (omega arith)) in
    not_found (position_or_len (is_byte byte) (take n bytes)) (length (take n bytes)) (omega (arith, past))

joined : (near few far : ℕ) → near ≡ few → cond (eqb near few) (few + far) near ≡ few + far
joined near few far same = grind (arith, nat_tests)

-- Where a byte is not among the first n, its first place is n further than it is behind them.
further : (byte n : ℕ) (bytes : List ℕ) → None ≡ position (is_byte byte) (take n bytes) → n < length bytes
    → position_or_len (is_byte byte) bytes ≡ n + position_or_len (is_byte byte) (drop n bytes)
further byte n bytes none long =
    let near = position_or_len (is_byte byte) (take n bytes) in
    let far = position_or_len (is_byte byte) (drop n bytes) in
    let few : length (take n bytes) ≡ n = length-take-le n bytes (omega arith) in
    let past : length (take n bytes) ≤ near = none_within near (length (take n bytes)) none in
    let within : near ≤ length (take n bytes) = prefix_len-le-length (λ b. not (is_byte byte b)) (take n bytes) in
    let both : position_or_len (is_byte byte) bytes
    ≡ cond (eqb near (length (take n bytes))) (length (take n bytes) + far) near =
    subst (λ (l : List ℕ). position_or_len (is_byte byte) l
    ≡ cond (eqb near (length (take n bytes))) (length (take n bytes) + far) near) (take-append-drop n bytes)
    (prefix_len-append (λ b. not (is_byte byte b)) (take n bytes) (drop n bytes)) in
    let same : near ≡ length (take n bytes) = omega arith in
    omega (arith, both, joined near (length (take n bytes)) far same, few)

behind_is : (byte n : ℕ) (bytes : List ℕ) (r : Option ℕ) → None ≡ position (is_byte byte) (take n bytes)
    → n < length bytes → r ≡ position (is_byte byte) (drop n bytes)
    → option_map (λ i. i + n) r ≡ position (is_byte byte) bytes
behind_is byte n bytes None none long nowhere =
    let far = position_or_len (is_byte byte) (drop n bytes) in
    let past : length (drop n bytes) ≤ far = none_within far (length (drop n bytes)) nowhere in
    not_found (position_or_len (is_byte byte) bytes) (length bytes)
    (omega (arith, further byte n bytes none long, length-drop n bytes))
behind_is byte n bytes (Some i) none long is =
    let far = position_or_len (is_byte byte) (drop n bytes) in
    let at = cond_some (ltb far (length (drop n bytes))) far i (sym is) in
    let within : far < length (drop n bytes) = ltb-true far (length (drop n bytes)) at.0 in
    found (position_or_len (is_byte byte) bytes) (length bytes) (i + n)
    (omega (arith, further byte n bytes none long, at.1)) (omega (arith, length-drop n bytes, at.1))

-- Where a byte is not among the first n, it is first where a search of the others finds it, n further.
pub behind : (byte n : ℕ) (bytes : List ℕ) (r : Option ℕ) → None ≡ position (is_byte byte) (take n bytes)
    → n < length bytes → IsFirstByte (is_byte byte) (take (length bytes - n) (drop n bytes)) r
    → option_map (λ i. i + n) r ≡ position (is_byte byte) bytes
behind byte n bytes r none long is =
    behind_is byte n bytes r none long
    (first_byte_is_position byte (drop n bytes) r
    (subst (λ (l : List ℕ). IsFirstByte (is_byte byte) l r) (take_rest bytes n) is))
