-- Ranges one after another, and what is found in each.
use Rattle.std.proofs.Common.{ℕ, zero, suc, ◌<◌, ◌≤◌, inl, inr, Bool, IsTrue, List, [], ◌∷◌, ◌++◌, length}
use Rattle.std.{proofs.{Common.{get_or, All, refl, sym, arith}, lemmas.Bool.cases_lt}, specs.List.AllZip}
use Rattle.par_phase.specs.{declared.ranges.Range.Range, Ranges.AreRanges}

-- one more range
pub ranges_more : (from mid to : ℕ) (ranges : List Range) → AreRanges from ranges mid → mid ≤ to
    → AreRanges from (ranges ++ record { from = mid; to = to } ∷ []) to
ranges_more from mid to [] h le = (sym h, le, refl)
ranges_more from mid to (range ∷ rest) h le = (h.0, h.1, ranges_more range.to mid to rest h.2 le)

-- no range goes past the end
pub ranges_within : (from to : ℕ) (ranges : List Range) → AreRanges from ranges to
    → (from ≤ to) × ((k : ℕ) (d : Range) → k < length ranges → (get_or ranges k d).to ≤ to)
ranges_within from to [] h = (omega (arith, h), λ k d lt. absurd (omega arith))
ranges_within from to (range ∷ rest) h =
    let after = ranges_within range.to to rest h.2 in (omega (arith, h.0, h.1, after.0), go after) where
      go : (range.to ≤ to) × ((k : ℕ) (d : Range) → k < length rest → (get_or rest k d).to ≤ to) → (k : ℕ) (d : Range)
          → k < length (range ∷ rest) → (get_or (range ∷ rest) k d).to ≤ to
      go after zero d lt = after.0
      go after (suc k) d lt = after.1 k d (omega arith)

-- where each range was found to have a fact at each of its numbers, all have it
pub true_in_all : (P : ℕ → Type 0) (ranges : List Range) (found : List Bool) (from to : ℕ) → AreRanges from ranges to
    → AllZip (λ range is. IsTrue is → (k : ℕ) → range.from ≤ k → k < range.to → P k) ranges found → All IsTrue found
    → (k : ℕ) → from ≤ k → k < to → P k
true_in_all P [] [] from to are zipped all k low high = absurd (omega (arith, are, low, high))
true_in_all P [] (x ∷ found) from to are zipped all k low high = absurd zipped
true_in_all P (range ∷ ranges) [] from to are zipped all k low high = absurd zipped
true_in_all P (range ∷ ranges) (x ∷ found) from to are zipped all k low high = elim (cases_lt k range.to) [
  | inl less ↦ zipped.0 (all 0 x (omega arith)) k (omega (arith, are.0, low)) less
  | inr more ↦
      true_in_all P ranges found range.to to are.2 zipped.1 (λ i d lt. all (suc i) d (omega arith)) k more high
]
