-- What a working log keeps of its entries when it drops those that no chain reaches.
use Rattle.std.specs.Prelude.{◌≡◌, ℕ, ◌<◌, ◌⊎◌, Bool, false, Option, None, List, length, slice_index, slice_index_or}
use Rattle.round_log.specs.{declared.log.Entry.Entry, Kept.{KeepsChains, kept_part, new_number}, Logs.raises_of}
use Rattle.round_log.{specs.Logs.ComeFromOlder, proofs.Entries.array_of}
use Rattle.liao_wong.specs.Held.{Held}

-- the entries that are kept, by a flag for each
abbrev pub keeps_of : List Bool → ℕ → Bool
keeps_of flags n = slice_index_or flags n false

-- the array of raises that each come from an older entry
pub record AreEntriesOf (entries : List Entry) : Type 0 where
  pub entries_are : entries ≡ array_of (raises_of entries)
  pub vars : ℕ
  pub older : ComeFromOlder vars (raises_of entries)

-- the new number of each entry, whether it is kept or not
pub record AreNewNumbers (flags : List Bool) (numbers : List ℕ) : Type 0 where
  pub one_each : length numbers ≡ length flags
  pub are : (n : ℕ) → n < length flags → slice_index numbers n ≡ new_number (keeps_of flags) n

-- each number is replaced by its new one
pub record AreRenumbered (numbers old new : List ℕ) : Type 0 where
  pub one_each : length new ≡ length old
  pub are : (v : ℕ) → v < length old → slice_index new v ≡ slice_index numbers (slice_index old v)

-- the log has kept all that its chains reach
pub record IsSwept (old new : Held) : Type 0 where
  pub same_vars : new.vars ≡ old.vars
  pub older : ComeFromOlder old.vars old.raises
  pub keeps : ℕ → Bool
  pub chains : KeepsChains keeps old.raises
  pub raises : new.raises ≡ kept_part keeps old.raises

-- the log is as it was, or it has kept what its chains reach, which it may only with a floor
abbrev pub IsTrimmed : Option ℕ → Held → Held → Type 0
IsTrimmed floor old new = (new ≡ old) ⊎ ((floor ≡ None → ⊥) × IsSwept old new)
