-- Values that meet the structure of a cell keep its variables and the high ends of its items at or above the origin,
-- and its items long enough.
use Rattle.std.proofs.Common.{◌≡◌, ◌≢◌, ℕ, ◌<◌, ℤ, pos, ◌+ℤ◌, ◌-ℤ◌, ◌≤ℤ◌, List, ◌++◌, get_or, sym, ap, ◌∙◌, subst}
use Rattle.std.proofs.{Common.{arith, inl, inr}, lemmas.{Int.ints, Bool.cases_eq, List.Elements.recursion_from_All}}
use Rattle.std.specs.List.{AllByRecursion, All, Any}
use Rattle.lam_geom.specs.declared.boxes.Axis.{Axis}
use Rattle.rule_table.specs.{declared.technology.Tech.Tech, Technology.{numbers_of, margin_of, widest_of}}
use Rattle.rule_table.proofs.Margins.{margin_low, widest_positive}
use Rattle.cons_graph.specs.{declared.edges.{Edge.Edge, Why.TheVariants.{Extent, Margin}}, Solutions.Meets}
use Rattle.sym_items.specs.{declared.items.Item.Item, Transposed.item_along, Values.end_under, Extents.IsLongUnder}
use Rattle.cell_model.specs.declared.cell.Cell.{Cell}
use Rattle.list_facts.proofs.Elements.{all_of, all_parts, all_pieces}
use Rattle.expand.specs.declared.master.Master.{Master}
use Rattle.expand.specs.{Variables.{variables_of, at_origin, at_far_border}, Structure.{between, extent_edges}}
use Rattle.expand.specs.Structure.{margin_edges, extents_of, overlaps_of, margins_of, limits_of, structure_of}
use Rattle.expand.specs.{Bounds.LiesAlong, Masters.IsMaster, Laws.{EndsAbove, MeetsStructure, StandsOn}}
use Rattle.expand.proofs.{Between.between_holds, Among.{sound_numbers, items_lie}, Reached.{BeginsBefore, items_begin}}

-- an item keeps its margins
abbrev pub KeepsMargins : Axis → Tech → (ℕ → ℤ) → Item → Type 0
KeepsMargins axis tech x i = AllByRecursion (Meets x) (margin_edges tech (item_along axis i))

-- the low end of an item that does not begin on the origin lies at or above it
margin_above : (tech : Tech) (x : ℕ → ℤ) (i : Item) → x 0 ≡ pos 0 → AllByRecursion (Meets x) (margin_edges tech i)
    → i.xl.var ≢ 0 → pos 0 ≤ℤ end_under x i.xl
margin_above tech x i zero_there meets ne =
    let m : ℤ = margin_of tech i.class in
    let not_below : pos 0 ≤ℤ m = margin_low (numbers_of tech) i.class in
    let low = (all_parts (Meets x) (between at_origin i.xl m Margin) (between i.xh at_far_border m Margin) meets).0 in
    let h = between_holds x at_origin i.xl m Margin low (λ e. absurd (ne (sym e))) in
    let h : ((x 0 +ℤ pos 0) +ℤ m) ≤ℤ end_under x i.xl = h in
    omega (arith, ints, h, not_below, zero_there)

-- the parts of the structure: the size of the cell, the extents of its items and their margins
pub record HasParts (axis : Axis) (tech : Tech) (x : ℕ → ℤ) (items : List Item) : Type 0 where
  pub size : widest_of tech ≤ℤ (x 1 -ℤ x 0)
  pub extents : All (λ (i : Item). AllByRecursion (Meets x) (extent_edges (item_along axis i))) items
  pub margins : All (KeepsMargins axis tech x) items

pub parts_of : (axis : Axis) (tech : Tech) (cell : Cell) (x : ℕ → ℤ) (items : List Item)
    → All (Meets x) (structure_of axis tech cell items) → HasParts axis tech x items
unfolding structure_of
parts_of axis tech cell x items meets =
    let M : Edge → Type 0 = Meets x in
    let overlaps = overlaps_of axis tech cell in
    let margins = margins_of axis tech items in
    let limits = limits_of axis cell in
    let all = recursion_from_All M (structure_of axis tech cell items) meets in
    let first = all_parts M (extents_of axis items) (overlaps ++ (margins ++ limits)) all.1 in
    let after_overlaps = (all_parts M overlaps (margins ++ limits) first.1).1 in
    let of_margins = (all_parts M margins limits after_overlaps).0 in
    record {
      size = all.0;
      extents = all_of _ items (all_pieces M (λ (i : Item). extent_edges (item_along axis i)) items first.0);
      margins = all_of (KeepsMargins axis tech x) items
          (all_pieces M (λ (i : Item). margin_edges tech (item_along axis i)) items of_margins);
    }

-- the variable on or before which an item begins that keeps its margins
item_above : (axis : Axis) (tech : Tech) (x : ℕ → ℤ) (v : ℕ) (i : Item) → x 0 ≡ pos 0 → v ≢ 0 → BeginsBefore axis v i
    → KeepsMargins axis tech x i → pos 0 ≤ℤ x v
item_above axis tech x v i zero_there ne begins keeps =
    let on = begins.on in
    let before = begins.before in
    let low = margin_above tech x (item_along axis i) zero_there keeps (λ e. ne (sym on ∙ e)) in
    let same : x (item_along axis i).xl.var ≡ x v = ap x on in
    omega (arith, ints, low, same, before)

-- no variable lies below the origin
values_above : (axis : Axis) (tech : Tech) (master : Master) (x : ℕ → ℤ) → IsMaster tech master
    → MeetsStructure axis tech master x → (v : ℕ) → v < variables_of axis master.cell → pos 0 ≤ℤ x v
values_above axis tech master x m met v lt =
    let zero_there = met.origin in
    let parts = parts_of axis tech master.cell x master.items.list met.meets in
    let S : List Item → Type 0 = Any (BeginsBefore axis v) in
    elim (cases_eq v 0) [
      | inl origin ↦ let same : x v ≡ x 0 = ap x origin in omega (arith, ints, same, zero_there)
      | inr after ↦ elim (cases_eq v 1) [
        | inl far ↦
            let same : x v ≡ x 1 = ap x far in
            let size = parts.size in
            let wide : pos 1 ≤ℤ widest_of tech = widest_positive (numbers_of tech) (sound_numbers tech) in
            omega (arith, ints, same, zero_there, size, wide)
        | inr more ↦
            let some = subst S (sym (ap (λ i. i.list) m.items.are))
            (items_begin axis tech master.cell m.items.nets v m.sound (omega arith) lt) in
            item_above axis tech x v some.1 zero_there after some.4
            (subst (KeepsMargins axis tech x) some.3 (parts.margins some.0 some.1 some.2))
      ]
    ]

-- no item that has its least extent ends below the origin
end_above : (axis : Axis) (tech : Tech) (cell : Cell) (x : ℕ → ℤ) (i : Item) → x 0 ≡ pos 0 → LiesAlong axis cell i
    → KeepsMargins axis tech x i → IsLongUnder axis x i → EndsAbove axis x i
end_above axis tech cell x i zero_there lies keeps long =
    let least = lies.small.low in
    elim (cases_eq (item_along axis i).xl.var 0) [
      | inl origin ↦
          let off = lies.at_origin origin in
          let same : x (item_along axis i).xl.var ≡ x 0 = ap x origin in
          omega (arith, ints, least, long, off, same, zero_there)
      | inr after ↦
          let low = margin_above tech x (item_along axis i) zero_there keeps after in
          omega (arith, ints, least, long, low)
    ]

pub stands : (axis : Axis) (tech : Tech) (master : Master) (x : ℕ → ℤ) → IsMaster tech master
    → MeetsStructure axis tech master x → StandsOn axis master x
stands axis tech master x m met =
    let items : List Item = master.items.list in
    let lie = items_lie tech master.cell master.items m.sound m.items axis in
    let parts = parts_of axis tech master.cell x items met.meets in
    let long : All (IsLongUnder axis x) items =
    λ k d lt. between_holds x _ _ _ Extent (parts.extents k d lt) (lie k d lt).fits in
    record {
      values_above = values_above axis tech master x m met;
      ends_above = λ k d lt. end_above axis tech master.cell x (get_or items k d) met.origin (lie k d lt)
          (parts.margins k d lt) (long k d lt);
      long = long;
    }
