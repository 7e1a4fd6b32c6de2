-- What the version says of buried contacts.
use Rattle.std.proofs.{Common.{◌≡◌, pos, ◌≤ℤ◌, true, false, inl, inr, arith}, lemmas.Int.ints}
use Rattle.rule_table.specs.{Keys.has_buried, Bounds.IsTechnology, declared.keys.Numbers.Numbers}

pub version_with_buried : (n : Numbers) → has_buried n ≡ true → n.version ≡ pos 2
unfolding has_buried
version_with_buried n some = grind (arith, ints)

pub buried_in_version_2 : (n : Numbers) → n.version ≡ pos 2 → has_buried n ≡ true
unfolding has_buried
buried_in_version_2 n two = grind (arith, ints)

pub none_in_version_1 : (n : Numbers) → n.version ≡ pos 1 → has_buried n ≡ false
unfolding has_buried
none_in_version_1 n one = grind (arith, ints)

pub version_without_buried : (n : Numbers) → IsTechnology n → has_buried n ≡ false → n.version ≡ pos 1
version_without_buried n h none =
    elim h.version [ inl one ↦ one | inr two ↦ absurd (let some = buried_in_version_2 n two in cc) ]

-- a window of a buried contact keeps off a channel
pub buried_spacing : (n : Numbers) → IsTechnology n → has_buried n ≡ true → pos 1 ≤ℤ n.spacing_buried_channel
buried_spacing n h some = h.spacings.buried_channel (version_with_buried n some)
