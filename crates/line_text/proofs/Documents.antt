-- The table of the document that bytes are.
use Rattle.std.proofs.Common.{◌≡◌, inl, inr, ℕ, List, refl, sym, Option, Some, None, IsUtf8}
use Rattle.std.specs.Str.{is_utf8}
use Rattle.std.proofs.lemmas.Bool.{cases_Bool}
use Rattle.std.proofs.lemmas.Str.{IsUtf8-from_is_utf8, is_utf8-from_IsUtf8}
use Rattle.std.specs.Option.{option_map_or}
use Rattle.std.proofs.lemmas.Option.{none-some}
use Rattle.toml.specs.Data.{Members, table}
use Rattle.toml.specs.Parse.{parse_document}
use Rattle.hoist_base.specs.LineData.{LineData}
use Rattle.line_text.specs.declared.why.Why.{Why}
use Rattle.line_text.specs.declared.why.Why.TheVariants.{NotToml}
use Rattle.line_text.specs.declared.why.LineRead.TheVariants.{Ready, Refused}
use Rattle.line_text.specs.File.{document_of, IsDocument, ready_unless, why_of, line_of, table_read, bytes_read, IsLineFile, LineFilesAreRead}

pub document_found : (bytes : List ℕ) (found : Members) → IsDocument bytes found → document_of bytes ≡ Some found
document_found bytes found h = rw (is_utf8-from_IsUtf8 bytes h.0, h.1)

pub document_none : (bytes : List ℕ) → (IsUtf8 bytes → parse_document bytes ≡ None) → document_of bytes ≡ None
document_none bytes h =
    elim (cases_Bool (is_utf8 bytes)) [
      | inl text ↦ rw (text, h (IsUtf8-from_is_utf8 bytes text))
      | inr none ↦ rw none
    ]

-- ---- reading gives a line exactly where the bytes are a file of it

is_document : (bytes : List ℕ) (found : Members) → document_of bytes ≡ Some found → IsDocument bytes found
is_document bytes found h =
    elim (cases_Bool (is_utf8 bytes)) [
      | inl text ↦ (IsUtf8-from_is_utf8 bytes text, rw text at h)
      | inr none ↦ absurd (none-some found (rw none at h))
    ]

not_ready : (why : Why) (l : LineData) → Refused why ≡ Ready l → ⊥
not_ready why l h = cc

same_line : (a b : LineData) → Ready a ≡ Ready b → a ≡ b
same_line a b h = cc

ready_parts : (o : Option Why) (a b : LineData) → ready_unless o a ≡ Ready b → (o ≡ None) × (b ≡ a)
ready_parts None a b h = (refl, sym (same_line a b h))
ready_parts (Some why) a b h = absurd (not_ready why b h)

file_of : (bytes : List ℕ) (l : LineData) (o : Option Members) → o ≡ document_of bytes
    → option_map_or (λ found. table_read (table found)) o (Refused NotToml) ≡ Ready l → IsLineFile bytes l
file_of bytes l None e h = absurd (not_ready NotToml l h)
file_of bytes l (Some found) e h = let parts = ready_parts (why_of (table found))
    (line_of (table found)) l h in (found, is_document bytes found (sym e), parts.0, parts.1)

pub line_files_are_read : LineFilesAreRead
unfolding bytes_read
line_files_are_read bytes l = (
  λ h. file_of bytes l (document_of bytes) refl h,
  λ (found, document, fine, same). rw (document_found bytes found document, fine, same),
)
