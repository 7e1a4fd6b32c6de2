-- What the set holds: pairs of items that are kept, and among them all of the families so far.
use Rattle.std.proofs.Common.{◌≡◌, ℕ, ◌<◌, ◌≤◌, length, get_or}
use Rattle.std.specs.List.{Contains}
use Rattle.pair_set.specs.Sets.{pairs_of, limit_of}
use Rattle.shadow_prune.specs.declared.families.Family.TheVariants.{Metal}
use Rattle.shadow_prune.specs.{Families.families, KeptNumbers.IsKeptNumbers}
use Rattle.shadow_prune.proofs.Found.{HasSeen}
use Rattle.shadow_prune.proofs.keeping.kept.Given as goal

pub record FoundSoFar (l : goal.Live-loop-family) : Type 0 where
  pub families_are : l.family-items ≡ families
  pub limit : limit_of l.found ≡ l.limit
  pub room : length (pairs_of l.found) ≤ l.limit
  pub sound : (pair : ℕ × ℕ) → Contains (pairs_of l.found) pair → IsKeptNumbers l.axis l.tech l.coords l.items pair
  pub all : (k : ℕ) → k < l.family-index
      → HasSeen l.axis l.tech l.coords l.items l.order.items l.found (get_or families k Metal)

abbrev pub invariant-loop-family : goal.invariant-loop-family
invariant-loop-family l = FoundSoFar l
