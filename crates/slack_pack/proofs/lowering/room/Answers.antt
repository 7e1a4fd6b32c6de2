use Rattle.std.proofs.Common.{◌≡◌, ℕ, ◌<◌, ◌^◌, length, sym, subst, w64, ℤ, pos, neg_ℤ, ◌-ℤ◌, ◌≤ℤ◌, to_z, of_z}
use Rattle.std.{proofs.{Common.{FitsSigned, arith, List}, lemmas.Int.ints}, specs.List.All}
use Rattle.cons_graph.specs.{declared.edges.Edge.Edge, Constraints.IsEdgeAmong, Solutions.{Meets, value_of}}
use Rattle.slack_pack.specs.Slacks.{room_of}
use Rattle.slack_pack.proofs.lowering.room.Goals as goal

-- a value that the condition puts within 2^60 of 0
abbrev Is_small : ℤ → Type 0
Is_small a = (neg_ℤ (pos (2 ^ 60)) ≤ℤ a) × (a ≤ℤ pos (2 ^ 60))

small_at : (x : List ℤ) (v : ℕ) → v < length x → All (λ a. neg_ℤ (pos (2 ^ 60)) ≤ℤ a) x
    → All (λ a. a ≤ℤ pos (2 ^ 60)) x → Is_small (value_of x v)
small_at x v lt low high = (low v (pos 0) lt, high v (pos 0) lt)

-- the differences are computed as they are
fits : (a b len : ℤ) → Is_small a → Is_small b → neg_ℤ (pos (2 ^ 21)) ≤ℤ len → len ≤ℤ pos (2 ^ 21)
    → FitsSigned w64 (to_z w64 (of_z w64 (to_z w64 (of_z w64 a) -ℤ to_z w64 (of_z w64 b))) -ℤ to_z w64 (of_z w64 len))
fits a b len p q l h = omega (arith, ints)

exact : (a b len : ℤ) → Is_small a → Is_small b → neg_ℤ (pos (2 ^ 21)) ≤ℤ len → len ≤ℤ pos (2 ^ 21)
    → to_z w64
    (of_z w64 (to_z w64 (of_z w64 (to_z w64 (of_z w64 a) -ℤ to_z w64 (of_z w64 b))) -ℤ to_z w64 (of_z w64 len)))
    ≡ (a -ℤ b) -ℤ len
exact a b len p q l h = omega (arith, ints)

room_bounds : (a b len : ℤ) → Is_small a → Is_small b → neg_ℤ (pos (2 ^ 21)) ≤ℤ len → len ≤ℤ (a -ℤ b)
    → (pos 0 ≤ℤ ((a -ℤ b) -ℤ len)) × (((a -ℤ b) -ℤ len) ≤ℤ pos (2 ^ 62))
room_bounds a b len p q l m = (omega (arith, ints), omega (arith, ints))

-- what the three clauses say of the room as it is computed
record Is_room (x : List ℤ) (e : Edge) : Type 0 where
  fits_word : FitsSigned w64
      (to_z w64 (of_z w64 (to_z w64 (of_z w64 (value_of x e.to)) -ℤ to_z w64 (of_z w64 (value_of x e.from)))) -ℤ to_z
      w64 (of_z w64 e.len))
  value : to_z w64
      (of_z w64
      (to_z w64 (of_z w64 (to_z w64 (of_z w64 (value_of x e.to)) -ℤ to_z w64 (of_z w64 (value_of x e.from)))) -ℤ to_z
      w64 (of_z w64 e.len))) ≡ room_of (value_of x) e
  low : pos 0 ≤ℤ room_of (value_of x) e
  high : room_of (value_of x) e ≤ℤ pos (2 ^ 62)

is_room : (x : List ℤ) (e : Edge) → IsEdgeAmong (length x) e → Meets (value_of x) e
    → All (λ a. neg_ℤ (pos (2 ^ 60)) ≤ℤ a) x → All (λ a. a ≤ℤ pos (2 ^ 60)) x → Is_room x e
is_room x e among meets low high =
    let to : Is_small (value_of x e.to) = small_at x e.to among.to_in_range low high in
    let from : Is_small (value_of x e.from) = small_at x e.from among.from_in_range low high in
    let bounds = room_bounds (value_of x e.to) (value_of x e.from) e.len to from among.length_low meets in
    record {
      fits_word = fits (value_of x e.to) (value_of x e.from) e.len to from among.length_low among.length_high;
      value = exact (value_of x e.to) (value_of x e.from) e.len to from among.length_low among.length_high;
      low = bounds.0;
      high = bounds.1;
    }

pub overflow_sub-result-2 : goal.overflow_sub-result-2
overflow_sub-result-2 c =
    (is_room c.args.x.now c.args.edge.now c.requires.among c.requires.meets c.requires.low c.requires.high).fits_word

pub returns-clause-value : goal.returns-clause-value
returns-clause-value c =
    (is_room c.args.x.now c.args.edge.now c.requires.among c.requires.meets c.requires.low c.requires.high).value

pub returns-clause-low : goal.returns-clause-low
returns-clause-low c =
    let r : Is_room c.args.x.now c.args.edge.now =
    is_room c.args.x.now c.args.edge.now c.requires.among c.requires.meets c.requires.low c.requires.high in
    let P : ℤ → Type 0 = λ z. pos 0 ≤ℤ z in
    subst P (sym r.value) r.low

pub returns-clause-high : goal.returns-clause-high
returns-clause-high c =
    let r : Is_room c.args.x.now c.args.edge.now =
    is_room c.args.x.now c.args.edge.now c.requires.among c.requires.meets c.requires.low c.requires.high in
    let P : ℤ → Type 0 = λ z. z ≤ℤ pos (2 ^ 62) in
    subst P (sym r.value) r.high
