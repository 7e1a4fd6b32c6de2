-- The buried contacts at which items stand.
use Rattle.std.specs.Prelude.{◌≡◌, ◌≢◌, ℕ, ◌==◌, ◌||◌, ◌&&◌, not, Bool, ◌⊎◌}
use Rattle.sym_items.specs.declared.items.Item.{Item}

-- in place of a buried contact, where an item stands at none
abbrev pub nowhere : ℕ
nowhere = 65536

-- an item stands at a buried contact, by the number of its node
abbrev pub StandsAt : Item → ℕ → Type 0
StandsAt i k = (k ≢ nowhere) × ((i.at_low ≡ k) ⊎ (i.at_high ≡ k))

-- two items stand at one buried contact
abbrev pub StandTogether : Item → Item → Type 0
StandTogether a b = (k : ℕ) × StandsAt a k × StandsAt b k

-- the same, computed
abbrev pub stands_at : Item → ℕ → Bool
stands_at i k = not (k == nowhere) && ((i.at_low == k) || (i.at_high == k))

unfoldable pub stand_together : Item → Item → Bool
stand_together a b = stands_at a b.at_low || stands_at a b.at_high
