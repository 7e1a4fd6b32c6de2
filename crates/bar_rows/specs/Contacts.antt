-- Buried contacts of bars.
use Rattle.std.specs.Prelude.{◌≡◌, ◌≢◌, ◌⊎◌, ℕ}
use Rattle.sym_items.specs.Standing.{nowhere}
use Rattle.bar_rows.specs.declared.bars.Contacts.{Contacts}

-- a contact is one of two
abbrev pub HasContact : Contacts → ℕ → Type 0
HasContact contacts k = (k ≢ nowhere) × ((contacts.low ≡ k) ⊎ (contacts.high ≡ k))

-- some contact is one of both
abbrev pub ShareContact : Contacts → Contacts → Type 0
ShareContact a b = (k : ℕ) × HasContact a k × HasContact b k
