-- The shelf in memory: what contracts see of it, and what a fetch makes of that.
use Rattle.std.specs.Prelude.{ℕ, Bool, ◌||◌, List, [], map, length, if◌then◌else◌, is_none, string_bytes}
use Rattle.std.specs.FinMap.{empty, get, insert, from_entries}
use Rattle.lam_io.specs.{Io.{Bytes, Telling, with_asked, raised}, Planned.is_planned}
use Rattle.lam_io.specs.declared.mem_shelf.{MemShelf.MemShelf, StoredFile.StoredFile}

-- what it tells, the fetches that are planned to fail, and its faults so far
pub record Shelving : Type 0 where
  pub telling : Telling
  pub plan : List ℕ
  pub faults : ℕ

-- the name and the bytes of a file
abbrev pub entry_of : StoredFile → Bytes × Bytes
entry_of file = (string_bytes file.name, file.content.items)

abbrev pub telling_of : MemShelf → Telling
telling_of shelf =
    record { files = from_entries (map entry_of shelf.files.items); asked = map string_bytes shelf.asked.items }

abbrev pub shelving : MemShelf → Shelving
shelving shelf = record { telling = telling_of shelf; plan = shelf.plan; faults = shelf.faults }

-- a shelf without files or faults, of which nothing was asked
abbrev pub empty_shelving : List ℕ → Shelving
empty_shelving plan = record { telling = record { files = empty; asked = [] }; plan = plan; faults = 0 }

-- the same, and this file under the name
abbrev pub with_file : Bytes → Bytes → Shelving → Shelving
with_file name bytes shelf =
    record shelf { telling = record shelf.telling { files = insert shelf.telling.files name bytes } }

-- whether a fetch of the name fails: it is planned to, or no such file is there
abbrev pub fetch_fails : Shelving → Bytes → Bool
fetch_fails shelf name = is_planned shelf.plan (length shelf.telling.asked) || is_none (get shelf.telling.files name)

-- the shelf after a fetch of the name
abbrev pub after_fetch : Shelving → Bytes → Shelving
after_fetch shelf name =
    record shelf {
      telling = with_asked name shelf.telling;
      faults = if fetch_fails shelf name then raised shelf.faults else shelf.faults;
    }
