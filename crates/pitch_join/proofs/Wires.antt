-- The cross coordinates of the wires of each master.
use Rattle.std.proofs.Common.{◌≡◌, ℕ, ◌+◌, ◌<◌, List, [], ◌∷◌, ◌++◌, length, sym, subst, arith, inl, inr}
use Rattle.std.{proofs.lemmas.List.{length_push, get_or_append_left, get_or_push}, specs.Prelude.slice_index_or}
use Rattle.expand.specs.{declared.master.Master.Master, Bounds.AreCrosses}
use Rattle.pitch_join.specs.Masters.{master_at}
use Rattle.graph_search.proofs.Marks.{below_cases}

-- those of a master
abbrev pub AreCrossesOf : Master → List ℕ → Type 0
AreCrossesOf master own = AreCrosses master.cell (length master.cell.wires) own

-- those of the first masters
pub record CrossesUpTo (masters : List Master) (n : ℕ) (all : List (List ℕ)) : Type 0 where
  pub counted : length all ≡ n
  pub each : (m : ℕ) → m < n → AreCrossesOf (master_at masters m) (slice_index_or all m [])

-- one more master
pub crosses_push : (masters : List Master) (n : ℕ) (master : Master) (own : List ℕ) (old new : List (List ℕ))
    → CrossesUpTo masters n old → master ≡ master_at masters n → AreCrossesOf master own → new ≡ old ++ own ∷ []
    → CrossesUpTo masters (n + 1) new
crosses_push masters n master own old new h at are e =
    let P : List (List ℕ) → Type 0 = CrossesUpTo masters (n + 1) in
    let counted = h.counted in
    let l = length_push old own in
    subst P (sym e) (record {
      counted = omega arith;
      each = λ m lt. elim (below_cases m n lt) [
        | inl before ↦
            let Q : List ℕ → Type 0 = AreCrossesOf (master_at masters m) in
            subst Q (sym (get_or_append_left old (own ∷ []) [] m (omega arith))) (h.each m before)
        | inr same ↦
            let Q : List ℕ → Type 0 = AreCrossesOf (master_at masters n) in
            let M : Master → Type 0 = λ x. AreCrossesOf x own in
            let R : ℕ → Type 0 = λ k. AreCrossesOf (master_at masters k) (slice_index_or (old ++ own ∷ []) k []) in
            subst R (sym same) (subst Q (sym (get_or_push old own [] n counted)) (subst M at are))
      ];
    })
