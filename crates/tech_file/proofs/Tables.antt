-- A text as a table: what the reader of TOML says of it.
use Rattle.std.proofs.{Common.{◌≡◌, ℕ, List, Some, None, Ok, Err, inl, inr}, lemmas.Bool.cases_Bool}
use Rattle.std.{proofs.lemmas.Str.{IsUtf8-from_is_utf8, is_utf8-from_IsUtf8}, specs.Str.{IsUtf8, is_utf8}}
use Rattle.toml.specs.{Data.Members, Parse.parse_document}
use Rattle.tech_file.specs.{declared.faults.TechFileFault.TheVariants.NotToml, Technology.table_of}

pub table_read : (text : List ℕ) (top : Members) → IsUtf8 text → parse_document text ≡ Some top → table_of text ≡ Ok top
unfolding table_of
table_read text top utf8 e = rw (is_utf8-from_IsUtf8 text utf8, e)

pub no_table : (text : List ℕ) → (IsUtf8 text → parse_document text ≡ None) → table_of text ≡ Err NotToml
unfolding table_of
no_table text h =
    elim (cases_Bool (is_utf8 text)) [
      | inl utf8 ↦ rw (utf8, h (IsUtf8-from_is_utf8 text utf8))
      | inr other ↦ rw other
    ]
