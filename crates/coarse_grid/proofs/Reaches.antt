-- The half extent of a sound cell bounds how far its parts reach.
use Rattle.std.proofs.Common.{◌≡◌, ℤ, pos, ◌+ℤ◌, ◌*ℤ◌, ◌≤ℤ◌, Bool, true, false, List, [], ◌∷◌, ◌++◌, map, fold, refl}
use Rattle.std.{proofs.{Common.arith, lemmas.Int.{ints, clamps}}, specs.{Int.int_max, List.AllByRecursion}}
use Rattle.rule_table.specs.{Bounds.{IsSize, IsLength}, Technology.{numbers_of, pad_of, widest_of}}
use Rattle.rule_table.specs.declared.technology.Tech.{Tech}
use Rattle.rule_table.proofs.{Sound.sound, Margins.{widest_positive, widest_below}, Widths.pad_bounds}
use Rattle.cell_model.specs.declared.cell.{NodeKind.{NodeKind, TheVariants.{Joint, Contact, Buried, Fet}}, Node.Node}
use Rattle.cell_model.specs.declared.cell.{Wire.Wire, Cell.Cell}
use Rattle.cell_model.specs.{Wiring.buried_pad, Sound.{IsKind, IsNode, IsWire, IsSound}}
use Rattle.list_facts.proofs.Elements.{all_weaker, all_append, all_map, all_parts, all_unmap}
use Rattle.expand.{specs.Variables.half, proofs.Among.{half_size, buried_size}}
use Rattle.coarse_grid.specs.{Extent.{implant_past, reach_of, half_extent_of, pitch_of}, Near.IsPitch}
use Rattle.coarse_grid.proofs.Extents.{half_bounds, max_within}

from_greatest : (a : ℤ) (zs : List ℤ) → a ≤ℤ fold int_max a zs
from_greatest a [] = omega (arith, ints)
from_greatest a (z ∷ zs) = omega (arith, ints, clamps, from_greatest (int_max a z) zs)

-- a bound of the greatest bounds each, and the other way round
all_greatest : (a bound : ℤ) (zs : List ℤ) → fold int_max a zs ≤ℤ bound → AllByRecursion (λ z. z ≤ℤ bound) zs
all_greatest a bound [] h = tt
all_greatest a bound (z ∷ zs) h =
    (omega (arith, ints, clamps, from_greatest (int_max a z) zs), all_greatest (int_max a z) bound zs h)

greatest_within : (a bound : ℤ) (zs : List ℤ) → a ≤ℤ bound → AllByRecursion (λ z. z ≤ℤ bound) zs
    → fold int_max a zs ≤ℤ bound
greatest_within a bound [] le h = le
greatest_within a bound (z ∷ zs) le h = let here : z ≤ℤ bound =
    h.0 in greatest_within (int_max a z) bound zs (omega (arith, ints, clamps)) h.1

implant_bounds : (tech : Tech) (depletion : Bool) → IsLength (implant_past tech depletion)
implant_bounds tech true = (sound tech.numbers tech.sound).in_range.extension_implant
implant_bounds tech false = (omega (arith, ints), omega (arith, ints))

-- how far the items at a node reach
abbrev IsReach : ℤ → Type 0
IsReach z = (pos 0 ≤ℤ z) × (z ≤ℤ pos 6144)

past_half : (z more : ℤ) → IsSize z → IsLength more → IsReach (half z +ℤ more)
past_half z more s m =
    let h = half_size z s in
    let low : pos 0 ≤ℤ half z = h.0 in
    let high : half z ≤ℤ pos 2048 = h.1 in
    let more_low : pos 0 ≤ℤ more = m.0 in
    let more_high : more ≤ℤ pos 4096 = m.1 in
    (omega (arith, ints), omega (arith, ints))

reach_bounds : (tech : Tech) (kind : NodeKind) → IsKind tech kind → IsReach (reach_of tech kind)
reach_bounds tech (Joint layer width) h =
    let w = half_size width h.0 in
    (w.0, omega (arith, ints, w.1))
reach_bounds tech (Contact lower) h =
    let n = sound tech.numbers tech.sound in
    let pad = pad_bounds tech.numbers n in
    let cut = half_size tech.numbers.cut_size n.cut_size in
    let wide = half_bounds (pad_of tech) (omega (arith, ints, pad.0)) in
    max_within (pos 6144) (half (pad_of tech)) (half (numbers_of tech).cut_size)
    (wide.0, omega (arith, ints, wide.1, pad.1)) (cut.0, omega (arith, ints, cut.1))
reach_bounds tech Buried h =
    past_half (buried_pad tech) _ (buried_size tech) (sound tech.numbers tech.sound).in_range.extension_buried
reach_bounds tech (Fet depletion gate w l) h =
    let n = (sound tech.numbers tech.sound).in_range in
    max_within (pos 6144) _ _
    (past_half w _ h.0
    (max_within (pos 4096) (numbers_of tech).extension_poly (implant_past tech depletion) n.extension_poly
    (implant_bounds tech depletion)))
    (past_half l _ h.1
    (max_within (pos 4096) (numbers_of tech).extension_diffusion (implant_past tech depletion)
    n.extension_diffusion (implant_bounds tech depletion)))

-- a pitch and a half extent that fit a cell
pub record IsCoarse (tech : Tech) (cell : Cell) (pitch extent : ℤ) : Type 0 where
  pub extent_low : pos 0 ≤ℤ extent
  pub extent_high : extent ≤ℤ pos 6144
  pub widest_low : pos 1 ≤ℤ widest_of tech
  pub widest_high : widest_of tech ≤ℤ pos 4096
  pub pitch_is : pitch ≡ (pos 2 *ℤ extent) +ℤ widest_of tech
  pub nodes : AllByRecursion (λ (node : Node). reach_of tech node.kind ≤ℤ extent) cell.nodes
  pub wires : AllByRecursion (λ (wire : Wire). half wire.width ≤ℤ extent) cell.wires

pub coarse : (tech : Tech) (cell : Cell) → IsSound tech cell
    → IsCoarse tech cell (pitch_of tech cell) (half_extent_of tech cell)
unfolding half_extent_of pitch_of
coarse tech cell s =
    let nodes = map (λ (node : Node). reach_of tech node.kind) cell.nodes in
    let wires = map (λ (wire : Wire). half wire.width) cell.wires in
    let n = sound tech.numbers tech.sound in
    let each = all_parts (λ z. z ≤ℤ fold int_max (pos 0) (nodes ++ wires)) nodes wires
    (all_greatest (pos 0) (fold int_max (pos 0) (nodes ++ wires)) (nodes ++ wires) (omega (arith, ints))) in
    let near_nodes = all_map (λ z. z ≤ℤ pos 6144) (λ (node : Node). reach_of tech node.kind) cell.nodes
    (all_weaker (IsNode tech) (λ (node : Node). reach_of tech node.kind ≤ℤ pos 6144)
    (λ node h. (reach_bounds tech node.kind h.kind).1) cell.nodes s.nodes) in
    let near_wires = all_map (λ z. z ≤ℤ pos 6144) (λ (wire : Wire). half wire.width) cell.wires
    (all_weaker (IsWire tech cell) (λ (wire : Wire). half wire.width ≤ℤ pos 6144)
    (λ wire h. let w = half_size wire.width h.size in omega (arith, ints, w.1)) cell.wires s.wires) in
    record {
      extent_low = from_greatest (pos 0) (nodes ++ wires);
      extent_high = greatest_within (pos 0) (pos 6144) (nodes ++ wires) (omega (arith, ints))
          (all_append (λ z. z ≤ℤ pos 6144) nodes wires near_nodes near_wires);
      widest_low = widest_positive tech.numbers n;
      widest_high = widest_below tech.numbers n;
      pitch_is = refl;
      nodes = all_unmap (λ z. z ≤ℤ fold int_max (pos 0) (nodes ++ wires)) (λ (node : Node). reach_of tech node.kind)
          cell.nodes each.0;
      wires = all_unmap (λ z. z ≤ℤ fold int_max (pos 0) (nodes ++ wires)) (λ (wire : Wire). half wire.width)
          cell.wires each.1;
    }

pub coarse_pitch : (tech : Tech) (cell : Cell) (pitch extent : ℤ) → IsCoarse tech cell pitch extent → IsPitch pitch
coarse_pitch tech cell pitch extent c =
    let a : pos 0 ≤ℤ extent = c.extent_low in
    let b : extent ≤ℤ pos 6144 = c.extent_high in
    let d : pos 1 ≤ℤ widest_of tech = c.widest_low in
    let e : widest_of tech ≤ℤ pos 4096 = c.widest_high in
    let f : pitch ≡ (pos 2 *ℤ extent) +ℤ widest_of tech = c.pitch_is in
    (omega (arith, ints), omega (arith, ints))
