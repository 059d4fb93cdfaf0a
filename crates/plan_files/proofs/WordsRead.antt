-- A document and its words, as they are read.
use Rattle.std.proofs.Common.{◌≡◌, ℕ, refl, true, false, List}
use Rattle.std.specs.Prelude.{Bool, Option, Some, None, Ok, Err, IsUtf8, if◌then◌else◌}
use Rattle.std.specs.Str.{is_utf8}
use Rattle.std.specs.Option.{ok_or}
use Rattle.std.proofs.lemmas.Str.{IsUtf8-from_is_utf8, is_utf8-from_IsUtf8}
use Rattle.toml.specs.Data.{Members}
use Rattle.toml.specs.Parse.{parse_document}
use Rattle.level_plan.specs.declared.line.PlanItem.TheVariants as items
use Rattle.plan_files.specs.PlanFiles.{document_of}

-- the bytes are a document
pub is_document : (bytes : List ℕ) (file : Members) → IsUtf8 bytes → parse_document bytes ≡ Some file
    → document_of bytes ≡ Ok file
unfolding document_of
is_document bytes file utf8 parsed = rw (is_utf8-from_IsUtf8 bytes utf8, parsed)

read_only : (utf8 : Bool) (parsed : Option Members) → (utf8 ≡ true → parsed ≡ None)
    → ok_or (if utf8 then parsed else None) items.Toml ≡ Err items.Toml
read_only true parsed none = rw (none refl)
read_only false parsed none = refl

-- the bytes are none: they are no UTF-8, or the grammar refuses them
pub is_no_document : (bytes : List ℕ) → (IsUtf8 bytes → parse_document bytes ≡ None)
    → document_of bytes ≡ Err items.Toml
unfolding document_of
is_no_document bytes refused =
    read_only (is_utf8 bytes) (parse_document bytes) (λ utf8. refused (IsUtf8-from_is_utf8 bytes utf8))
