-- Names of players. This project's own.
use Rattle.std.specs.Prelude.{◌≡◌, ◌≤◌, ◌-◌, ℕ, Bool, ◌==◌, ◌&&◌, ◌||◌, not, nat_le, IsTrue, List, ◌++◌, length, take, replicate, slice_index, codes}
use Rattle.std.specs.List.{list_all}
use Rattle.std.specs.Char.{is_ascii_alphabetic, is_ascii_alphanumeric}
use Rattle.std.specs.Str.{bytes_eq}
use Rattle.std.proofs.Common.{arith, sym, length-take}
use Rattle.floor_text.specs.Limits.{longest_name}

-- a letter A to Z or a to z, a digit, or `_`
abbrev pub is_name_byte : ℕ → Bool
is_name_byte byte = is_ascii_alphanumeric byte || byte == 95

-- a name: a letter, then letters, digits or `_`, 1 to 16 characters; the word `floor` is no name
abbrev pub is_name : List ℕ → Bool
is_name bytes = is_ascii_alphabetic (slice_index bytes 0)
    && (list_all is_name_byte bytes && (nat_le (length bytes) longest_name && not (bytes_eq bytes (codes "floor"))))

-- a name is kept in 16 bytes, with zeros behind it
pub record IsKept (bytes : List ℕ) (len : ℕ) : Type 0 where
  pub room : length bytes ≡ longest_name
  pub within : len ≤ longest_name
  pub padded : bytes ≡ take len bytes ++ replicate (longest_name - len) 0
  pub name : IsTrue (is_name (take len bytes))

pub length_kept : {bytes : List ℕ} {len : ℕ} → IsKept bytes len → length (take len bytes) ≡ len
length_kept {bytes} {len} kept =
    let room : length bytes ≡ longest_name = kept.room in
    let within : len ≤ longest_name = kept.within in
    omega (arith, length-take len bytes)

pub padded_again : {bytes : List ℕ} {len : ℕ} → IsKept bytes len
    → take len bytes ++ replicate (longest_name - length (take len bytes)) 0 ≡ bytes
padded_again {bytes} {len} kept = rw (length_kept kept) (sym kept.padded)
