use Rattle.std.proofs.{Common.{◌≡◌, ◌↔◌, ℤ, ◌≤ℤ◌, true, IsTrue, to_z, of_z, w64, arith}, lemmas.Int.{ints, clamps}}
use Rattle.std.specs.{Prelude.int_le, Int.int_max}
use Rattle.lam_geom.specs.Gaps.{gap_of}
use Rattle.box_tree.proofs.query.is_near.Goals as goal

at_most : (a b : ℤ) → int_le a b ≡ true → a ≤ℤ b
at_most a b t = grind (arith, ints)

is_at_most : (a b : ℤ) → a ≤ℤ b → int_le a b ≡ true
is_at_most a b h = grind (arith, ints)

-- a test of one gap, where the other is known to be small, or not to be
second : (x y r f g h : ℤ) → f ≡ x → g ≡ y → h ≡ r → int_le f h ≡ true → IsTrue (int_le g h) ↔ (int_max x y ≤ℤ r)
second x y r f g h e q k t = (
  λ s. (let a = at_most f h t in let b = at_most g h s in omega (arith, ints, clamps, e, q, k)),
  λ near. is_at_most g h (omega (arith, ints, clamps, near, q, k)),
)

first : (x y r f h : ℤ) → f ≡ x → h ≡ r → int_max x y ≤ℤ r → int_le f h ≡ true
first x y r f h e k near = is_at_most f h (omega (arith, ints, clamps, near, e, k))

pub returns-then-gap-reach : goal.returns-then-gap-reach
returns-then-gap-reach c =
    let area = c.args.area.now in let other = c.args.other.now in
    let x : to_z w64 (of_z w64 c.gap.result) ≡ gap_of area.x other.x =
    omega (arith, ints, clamps, c.gap.ensures, c.requires.area, c.requires.other) in
    let y : to_z w64 (of_z w64 c.gap-then-gap-reach.result) ≡ gap_of area.y other.y =
    omega (arith, ints, clamps, c.gap-then-gap-reach.ensures, c.requires.area, c.requires.other) in
    let reach : to_z w64 (of_z w64 c.args.reach) ≡ c.args.reach = omega (arith, ints, c.ranges.reach) in
    second (gap_of area.x other.x) (gap_of area.y other.y) c.args.reach _ _ _ x y reach c.if-gap-reach.true

pub returns-else-gap-reach : goal.returns-else-gap-reach
returns-else-gap-reach c =
    let area = c.args.area.now in let other = c.args.other.now in
    let x : to_z w64 (of_z w64 c.gap.result) ≡ gap_of area.x other.x =
    omega (arith, ints, clamps, c.gap.ensures, c.requires.area, c.requires.other) in
    let reach : to_z w64 (of_z w64 c.args.reach) ≡ c.args.reach = omega (arith, ints, c.ranges.reach) in (
      λ t. (let f = c.if-gap-reach.false in let no : ⊥ = cc in absurd no),
      λ near. first (gap_of area.x other.x) (gap_of area.y other.y) c.args.reach _ _ x reach near,
    )
