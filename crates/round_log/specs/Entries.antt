use Rattle.std.specs.Prelude.{◌≡◌, ℕ, List, ◌∷◌, reverse}
use Rattle.round_log.specs.{declared.log.Entry.Entry, Logs.{origin_entry, raises_of, ComeFromOlder}}

-- entries of a log: the origin's, and then raises of these variables that each come from an older entry
pub record AreEntries (vars : ℕ) (entries : List Entry) : Type 0 where
  pub entries_are : entries ≡ origin_entry ∷ reverse (raises_of entries)
  pub older : ComeFromOlder vars (raises_of entries)
