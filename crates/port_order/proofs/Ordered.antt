-- A list that is sorted by a rank, as the pieces of each rank, and the ports of a side in order.
use Rattle.std.proofs.Common.{◌≡◌, ℕ, zero, suc, ◌+◌, ◌*◌, ◌/◌, ◌%◌, ◌<◌, ◌≤◌, ◌==◌, Bool, false, not, ◌&&◌, cond, pos}
use Rattle.std.proofs.Common.{List, [], ◌∷◌, ◌++◌, inl, inr, get_or, filter, refl, ap, sym, ◌∙◌, arith}
use Rattle.std.proofs.lemmas.{Bool.Decides.{eqb_tells, nat_tests}, List.Sorted.All-permutation}
use Rattle.std.specs.List.{All, AllByRecursion, flat_map, range_with_len, Sorted.{IsPermutation, IsNonDecreasingBy}}
use Rattle.std.specs.{List.Sorted.{IsStableByKey, ties}, Ordering.{nat_cmp, is_lt}}
use Rattle.lam_geom.specs.declared.boxes.Side.TheVariants.{Left}
use Rattle.rule_table.specs.declared.classes.Layer.{Layer, TheVariants.{Diffusion, Poly, Metal}}
use Rattle.cell_model.specs.declared.cell.CellPort.{CellPort}
use Rattle.plan_model.specs.Borders.{layer_rank, port_rank, in_order, port_ranks}
use Rattle.list_facts.proofs.Elements.{by_number, all_weaker}

-- ---- the pieces of each rank

abbrev at_rank : {X : Type 0} → (X → ℕ) → ℕ → X → Bool
at_rank n r x = n x == r

abbrev pieces : {X : Type 0} → (X → ℕ) → List X → List ℕ → List X
pieces n xs ranks = flat_map (λ r. filter (at_rank n r) xs) ranks

not_at : (a b : ℕ) → (a ≡ b → ⊥) → (a == b) ≡ false
not_at a b apart = elim (eqb_tells a b) [ inr other ↦ other.0 | inl same ↦ absurd (apart same.1) ]

-- no element has a rank that all are above
none_below : {X : Type 0} (n : X → ℕ) (a : ℕ) (ys : List X) → AllByRecursion (λ x. a < n x) ys
    → filter (at_rank n a) ys ≡ []
none_below n a [] above = refl
none_below n a (y ∷ ys) above =
    let rest = none_below n a ys above.1 in
    let here : a < n y = above.0 in
    ap (λ t. cond t (y ∷ filter (at_rank n a) ys) (filter (at_rank n a) ys)) (not_at (n y) a (λ e. omega arith)) ∙ rest

-- an element stands in none of the pieces above its rank
beyond : {X : Type 0} (n : X → ℕ) (y : X) (ys : List X) (a m : ℕ) → n y < a
    → pieces n (y ∷ ys) (range_with_len a m) ≡ pieces n ys (range_with_len a m)
beyond n y ys a zero lt = refl
beyond n y ys a (suc m) lt =
    ap (λ t. cond t (y ∷ filter (at_rank n a) ys) (filter (at_rank n a) ys)
    ++ pieces n (y ∷ ys) (range_with_len (a + 1) m)) (not_at (n y) a (λ e. omega arith))
    ∙ ap (λ zs. filter (at_rank n a) ys ++ zs) (beyond n y ys (a + 1) m (omega arith))

-- the least element comes first
prefix : {X : Type 0} (n : X → ℕ) (y : X) (ys : List X) (a m : ℕ) → a ≤ n y → n y < a + m
    → AllByRecursion (λ x. n y ≤ n x) ys
    → pieces n (y ∷ ys) (range_with_len a m) ≡ y ∷ pieces n ys (range_with_len a m)
prefix n y ys a zero le lt above = absurd (omega arith)
prefix n y ys a (suc m) le lt above = elim (eqb_tells (n y) a) [
  | inl same ↦
      ap (λ t. cond t (y ∷ filter (at_rank n a) ys) (filter (at_rank n a) ys)
      ++ pieces n (y ∷ ys) (range_with_len (a + 1) m)) same.0
      ∙ ap (λ zs. y ∷ (filter (at_rank n a) ys ++ zs))
      (beyond n y ys (a + 1) m (let e : n y ≡ a = same.1 in omega arith))
  | inr other ↦
      let apart : n y ≡ a → ⊥ = other.1 in
      let up : a < n y = omega (arith, apart) in
      let none : filter (at_rank n a) ys ≡ [] =
      none_below n a ys (all_weaker (λ x. n y ≤ n x) (λ x. a < n x) (λ x h. omega arith) ys above) in
      ap (λ t. cond t (y ∷ filter (at_rank n a) ys) (filter (at_rank n a) ys)
      ++ pieces n (y ∷ ys) (range_with_len (a + 1) m)) other.0
      ∙ (ap (λ zs. zs ++ pieces n (y ∷ ys) (range_with_len (a + 1) m)) none
      ∙ (prefix n y ys (a + 1) m (omega arith) (omega arith) above
      ∙ ap (λ zs. y ∷ (zs ++ pieces n ys (range_with_len (a + 1) m))) (sym none)))
]

abbrev Ascends : {X : Type 0} → (X → ℕ) → List X → Type 0
Ascends n [] = Unit {0}
Ascends n (x ∷ xs) = AllByRecursion (λ y. n x ≤ n y) xs × Ascends n xs

ascends : {X : Type 0} (n : X → ℕ) (xs : List X) → IsNonDecreasingBy n xs → Ascends n xs
ascends n [] up = tt
ascends n (x ∷ xs) up = (
  by_number (λ y. n x ≤ n y) xs x (λ k lt. up 0 (suc k) x (omega arith) (omega arith)),
  ascends n xs
      (λ i j d le lt. up (suc i) (suc j) d (omega arith) (omega arith)),
)

nothing : {X : Type 0} (n : X → ℕ) (ranks : List ℕ) → pieces n [] ranks ≡ []
nothing n [] = refl
nothing n (r ∷ ranks) = nothing n ranks

sorted_pieces : {X : Type 0} (n : X → ℕ) (m : ℕ) (ys : List X) → Ascends n ys → AllByRecursion (λ y. n y < m) ys
    → pieces n ys (range_with_len 0 m) ≡ ys
sorted_pieces n m [] up below = nothing n (range_with_len 0 m)
sorted_pieces n m (y ∷ ys) up below =
    let here : n y < m = below.0 in
    prefix n y ys 0 m (omega arith) (omega arith) up.0 ∙ ap (λ zs. y ∷ zs) (sorted_pieces n m ys up.1 below.1)

-- ---- a stable sort keeps each piece

same_tests : {X : Type 0} (p q : X → Bool) → ((x : X) → p x ≡ q x) → (xs : List X) → filter p xs ≡ filter q xs
same_tests p q same [] = refl
same_tests p q same (x ∷ xs) =
    ap (λ t. cond t (x ∷ filter p xs) (filter p xs)) (same x)
    ∙ ap (λ zs. cond (q x) (x ∷ zs) zs) (same_tests p q same xs)

ties_at : (a b : ℕ) → (not (is_lt (nat_cmp a b)) && not (is_lt (nat_cmp b a))) ≡ (b == a)
ties_at a b = grind (arith, nat_tests)

same_pieces : {X : Type 0} (n : X → ℕ) (xs ys : List X) → IsStableByKey n nat_cmp xs ys
    → ((r : ℕ) → (x : X) × (n x ≡ r)) → (ranks : List ℕ) → pieces n ys ranks ≡ pieces n xs ranks
same_pieces n xs ys stable some [] = refl
same_pieces {X} n xs ys stable some (r ∷ ranks) =
    let x = (some r).0 in
    let e : n x ≡ r = (some r).1 in
    let test : (y : X) → at_rank n r y ≡ ties (λ a b. is_lt (nat_cmp (n a) (n b))) x y =
    λ y. ap (λ k. n y == k) (sym e) ∙ sym (ties_at (n x) (n y)) in
    let same : filter (at_rank n r) ys ≡ filter (at_rank n r) xs =
    same_tests (at_rank n r) (ties (λ a b. is_lt (nat_cmp (n a) (n b))) x) test ys
    ∙ (stable x ∙ sym (same_tests (at_rank n r) (ties (λ a b. is_lt (nat_cmp (n a) (n b))) x) test xs)) in
    ap (λ zs. zs ++ pieces n ys ranks) same
    ∙ ap (λ zs. filter (at_rank n r) xs ++ zs) (same_pieces n xs ys stable some ranks)

-- ---- ports

layer_of : (m : ℕ) → m < 3 → (layer : Layer) × (layer_rank layer ≡ m)
layer_of zero lt = (Diffusion, refl)
layer_of (suc zero) lt = (Poly, refl)
layer_of (suc (suc zero)) lt = (Metal, refl)
layer_of (suc (suc (suc m))) lt = absurd (omega arith)

port_with : (r : ℕ) → (port : CellPort) × (port_rank port ≡ r)
port_with r =
    let layer = layer_of (r % 3) (omega arith) in
    let e : layer_rank layer.0 ≡ r % 3 = layer.1 in
    (record { side = Left; layer = layer.0; place = r / 3; width = pos 0; wire = 0 }, omega arith)

rank_below : (port : CellPort) → port.place ≤ 4095 → port_rank port < 12288
rank_below port le = by_layer port.layer (layer_rank port.layer) refl
  where
    by_layer : (layer : Layer) (m : ℕ) → m ≡ layer_rank layer → port.place * 3 + m < 12288
    by_layer Diffusion m e = omega arith
    by_layer Poly m e = omega arith
    by_layer Metal m e = omega arith

pub sorted_in_order : (xs ys : List CellPort) → All (λ port. port.place ≤ 4095) xs → IsPermutation xs ys
    → IsNonDecreasingBy port_rank ys → IsStableByKey port_rank nat_cmp xs ys → ys ≡ in_order xs
unfolding in_order
sorted_in_order xs ys near moved up stable =
    let near_too = All-permutation (λ (port : CellPort). port.place ≤ 4095) xs ys moved near in
    let below : AllByRecursion (λ (port : CellPort). port_rank port < 12288) ys =
    by_number (λ (port : CellPort). port_rank port < 12288) ys (port_with 0).0
    (λ k lt. rank_below (get_or ys k (port_with 0).0) (near_too k (port_with 0).0 lt)) in
    sym (sorted_pieces port_rank 12288 ys (ascends port_rank ys up) below)
    ∙ same_pieces port_rank xs ys stable port_with port_ranks
