-- Looking a name up in the files of a shelf, one file after another.
use Rattle.std.proofs.Common.{◌≡◌, ℕ, ◌+◌, ◌<◌, ◌≤◌, true, false, cond, List, ◌∷◌, drop, map, length, get_or, ap, sym}
use Rattle.std.proofs.{Common.◌∙◌, lemmas.{List.{at_drop_more, drop_all}, Map.Text.is_eq-slice_cmp}}
use Rattle.std.specs.{Prelude.{Option, Some, None}, Str.bytes_eq, String.string_bytes, Ordering.nat_cmp}
use Rattle.std.specs.{Cmp.Lexicographic.{slice_cmp, nat_list_cmp_total}, FinMap.{get, from_entries, get-from_entries}}
use Rattle.std.specs.FinMap.Entries.{find}
use Rattle.lam_io.specs.{Io.Bytes, ShelfInMemory.entry_of, declared.mem_shelf.StoredFile.StoredFile}

-- the content of the first of these files that has the name
abbrev pub found : Bytes → List StoredFile → Option Bytes
found name files = find (slice_cmp nat_cmp) name (map entry_of files)

-- it is what the shelf tells
pub get-files : (files : List StoredFile) (name : Bytes)
    → get (from_entries {R = slice_cmp nat_cmp} (map entry_of files)) name ≡ found name files
get-files files name = get-from_entries nat_list_cmp_total (map entry_of files) name

-- the next file has the name
pub found-here : (name : Bytes) (files : List StoredFile) (i : ℕ) (file : StoredFile) → i < length files
    → file ≡ get_or files i file →
    bytes_eq name (string_bytes file.name) ≡ true → found name (drop i files) ≡ Some file.content.items
found-here name files i file within is same =
    at_drop_more (found name) files i file within
    ∙ ap (λ (f : StoredFile). found name (f ∷ drop (i + 1) files)) (sym is)
    ∙ ap (λ b. cond b (Some file.content.items) (found name (drop (i + 1) files)))
    (is_eq-slice_cmp name (string_bytes file.name) ∙ same)

-- the next file has another name
pub found-later : (name : Bytes) (files : List StoredFile) (i : ℕ) (file : StoredFile) → i < length files
    → file ≡ get_or files i file →
    bytes_eq name (string_bytes file.name) ≡ false → found name (drop i files) ≡ found name (drop (i + 1) files)
found-later name files i file within is differs =
    at_drop_more (found name) files i file within
    ∙ ap (λ (f : StoredFile). found name (f ∷ drop (i + 1) files)) (sym is)
    ∙ ap (λ b. cond b (Some file.content.items) (found name (drop (i + 1) files)))
    (is_eq-slice_cmp name (string_bytes file.name) ∙ differs)

-- no file is left
pub found-end : (name : Bytes) (files : List StoredFile) (i : ℕ) → length files ≤ i → found name (drop i files) ≡ None
found-end name files i past = ap (found name) (drop_all i files past)
