-- Why there is no list of kept pairs.
use Rattle.std.specs.Prelude.{ℕ, ◌<◌, ◌≤◌}
use Rattle.pair_set.specs.declared.set.SetFault.{SetFault}
use Rattle.pair_set.specs.declared.set.SetFault.TheVariants as Pairs
use Rattle.shadow_prune.specs.declared.keeping.KeptFault.{KeptFault, TheVariants.{TooMany, OutOfMemory}}

-- there are more than the limit; that memory runs out may come whatever their number
abbrev pub RefusesKept : ℕ → ℕ → KeptFault → Type 0
RefusesKept limit count TooMany = limit < count
RefusesKept limit count OutOfMemory = Unit {0}

-- the same where memory is asked for only once they are known to be few enough
abbrev pub RefusesExactly : ℕ → ℕ → KeptFault → Type 0
RefusesExactly limit count TooMany = limit < count
RefusesExactly limit count OutOfMemory = count ≤ limit

-- by why a set did not take a pair
abbrev pub no_list_by : SetFault → KeptFault
no_list_by Pairs.TooMany = TooMany
no_list_by Pairs.OutOfMemory = OutOfMemory
