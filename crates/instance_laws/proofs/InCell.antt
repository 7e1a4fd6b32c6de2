-- Where an item lies between the borders of its cell, on an axis.
use Rattle.std.proofs.{Common.{◌≡◌, ◌≢◌, ℕ, ℤ, pos, ◌+ℤ◌, ◌≤ℤ◌, List, refl, sym, ap, arith, inl, inr}, lemmas.Int.ints}
use Rattle.std.{proofs.lemmas.{Bool.cases_eq, List.Elements.All-contains}, specs.List.Contains}
use Rattle.lam_geom.specs.declared.boxes.Axis.{Axis, TheVariants.{X, Y}}
use Rattle.rule_table.specs.{declared.technology.Tech.Tech, Technology.{numbers_of, margin_of, widest_of}}
use Rattle.rule_table.proofs.Margins.{margin_low}
use Rattle.cons_graph.specs.{declared.edges.Why.TheVariants.Margin, Solutions.Meets}
use Rattle.sym_items.specs.{declared.items.Item.Item, Transposed.item_along, Values.end_under, Extents.IsLongUnder}
use Rattle.list_facts.proofs.Elements.{all_parts}
use Rattle.expand.specs.{declared.master.Master.Master, Variables.{at_origin, at_far_border}, Structure.between}
use Rattle.expand.specs.{Bounds.LiesAlong, Masters.IsMaster, Laws.MeetsStructure}
use Rattle.expand.proofs.{Between.between_means, Among.items_lie, Standing.{KeepsMargins, parts_of, stands}}

-- the two ends of an item on an axis, under some values
abbrev pub low_in : Axis → (ℕ → ℤ) → Item → ℤ
low_in axis x i = end_under x (item_along axis i).xl

abbrev pub high_in : Axis → (ℕ → ℤ) → Item → ℤ
high_in axis x i = end_under x (item_along axis i).xh

-- an item begins on the origin border, and ends on the far one
abbrev pub BeginsOnBorder : Axis → Item → Type 0
BeginsOnBorder axis i = (item_along axis i).xl.var ≡ 0

abbrev pub EndsOnBorder : Axis → Item → Type 0
EndsOnBorder axis i = (item_along axis i).xh.var ≡ 1

-- An item lies between the borders, and but for an end on the border no nearer to them than the margin of its class.
pub record LiesBetween (axis : Axis) (tech : Tech) (x : ℕ → ℤ) (i : Item) : Type 0 where
  pub above : pos 0 ≤ℤ low_in axis x i
  pub ordered : low_in axis x i ≤ℤ high_in axis x i
  pub below : high_in axis x i ≤ℤ x 1
  pub margin_above : ((item_along axis i).xl.var ≢ 0) → margin_of tech i.class ≤ℤ low_in axis x i
  pub margin_below : ((item_along axis i).xh.var ≢ 1) → (high_in axis x i +ℤ margin_of tech i.class) ≤ℤ x 1
  pub far : EndsOnBorder axis i → high_in axis x i ≡ x 1

class_along : (axis : Axis) (i : Item) → (item_along axis i).class ≡ i.class
class_along X i = refl
class_along Y i = refl

lies_between : (axis : Axis) (tech : Tech) (master : Master) (x : ℕ → ℤ) (i : Item) → x 0 ≡ pos 0
    → KeepsMargins axis tech x i → LiesAlong axis master.cell i → IsLongUnder axis x i → LiesBetween axis tech x i
lies_between axis tech master x i zero_there keeps lies long =
    let e : Item = item_along axis i in
    let m : ℤ = margin_of tech i.class in
    let same : margin_of tech e.class ≡ m = ap (margin_of tech) (class_along axis i) in
    let not_below : pos 0 ≤ℤ m = margin_low (numbers_of tech) i.class in
    let own : ℤ = margin_of tech e.class in
    let parts = all_parts (Meets x) (between at_origin e.xl own Margin) (between e.xh at_far_border own Margin) keeps in
    let low : e.xl.var ≢ 0 → m ≤ℤ end_under x e.xl =
    λ off. (
    let h = (between_means at_origin e.xl own Margin x).0 parts.0 (λ on. off (sym on)) in
    let h : ((x 0 +ℤ pos 0) +ℤ own) ≤ℤ end_under x e.xl = h in
    omega (arith, ints, h, same, zero_there)
    ) in
    let high : e.xh.var ≢ 1 → (end_under x e.xh +ℤ m) ≤ℤ x 1 =
    λ off. (
    let h = (between_means e.xh at_far_border own Margin x).0 parts.1 off in
    let h : (end_under x e.xh +ℤ own) ≤ℤ (x 1 +ℤ pos 0) = h in
    omega (arith, ints, h, same)
    ) in
    let far : e.xh.var ≡ 1 → end_under x e.xh ≡ x 1 = λ on. let off =
    lies.at_far_border on in let there : x e.xh.var ≡ x 1 = ap x on in omega (arith, ints, off, there) in
    let least = lies.small.low in
    record {
      above = elim (cases_eq e.xl.var 0) [
        | inl on ↦ let off = lies.at_origin on in let there : x e.xl.var ≡ x 0 =
            ap x on in omega (arith, ints, off, there, zero_there)
        | inr off ↦ let h = low off in omega (arith, ints, h, not_below)
      ];
      ordered = omega (arith, ints, long, least);
      below = elim (cases_eq e.xh.var 1) [
        | inl on ↦ let h = far on in omega (arith, ints, h)
        | inr off ↦ let h = high off in omega (arith, ints, h, not_below)
      ];
      margin_above = low;
      margin_below = high;
      far = far;
    }

-- each item of a master in a layout that meets its structure
pub items_between : (axis : Axis) (tech : Tech) (master : Master) (x : ℕ → ℤ) (i : Item) → IsMaster tech master
    → MeetsStructure axis tech master x → Contains master.items.list i → LiesBetween axis tech x i
items_between axis tech master x i m met among =
    let items : List Item = master.items.list in
    let parts = parts_of axis tech master.cell x items met.meets in
    lies_between axis tech master x i met.origin (All-contains (KeepsMargins axis tech x) items i parts.margins among)
    (All-contains (LiesAlong axis master.cell) items i (items_lie tech master.cell master.items m.sound m.items axis)
    among)
    (All-contains (IsLongUnder axis x) items i (stands axis tech master x m met).long among)

-- a cell is at least as long as the widest spacing
pub cell_long : (axis : Axis) (tech : Tech) (master : Master) (x : ℕ → ℤ) → MeetsStructure axis tech master x
    → widest_of tech ≤ℤ x 1
cell_long axis tech master x met =
    let size = (parts_of axis tech master.cell x master.items.list met.meets).size in
    let zero_there = met.origin in
    omega (arith, ints, size, zero_there)
