-- What is extracted from mask boxes: pieces that are linked by touching, by a cut or by a buried contact are of one
-- net.
use Rattle.std.specs.Prelude.{◌≡◌, ◌≢◌, ◌↔◌, ℕ, ◌<◌, List, length, slice_get, slice_index, Some}
use Rattle.lam_geom.specs.declared.boxes.{BoxXY.BoxXY, MaskBox.MaskBox, MaskLayer.TheVariants.NC}
use Rattle.lam_geom.specs.Gaps.{Touches, Overlaps}
use Rattle.rule_table.specs.declared.technology.Tech.{Tech}
use Rattle.graph_search.specs.Netting.{Reaches, IsNumberedInOrder}
use Rattle.crossing_model.specs.{declared.crossing.Crossing.Crossing, Boxes.{area_at, layer_at, IsOn}}
use Rattle.crossing_model.specs.Crossings.{IsBuriedPair, AreProper, AreCrossings, IsFirstBadPair}
use Rattle.net_model.specs.declared.netlist.ExtractFault.{ExtractFault, TheVariants.{NotProper, OutOfMemory}}
use Rattle.net_model.specs.{declared.netlist.Netlist.Netlist, Netlists.IsNetlistOf}
use Rattle.box_pieces.specs.{Places.{Place, places_of}, Areas.IsAreaOf}

-- ---- links

-- Two pieces of different boxes are linked where they are of one layer and touch, where both overlap one cut, or
-- where their boxes are a buried pair.
pub data AreLinked (tech : Tech) (boxes : List MaskBox) (crossings : List Crossing) (p q : Place) : Type 0 where
  by_touch : (s t : BoxXY) → p.box_no ≢ q.box_no → layer_at boxes p.box_no ≡ layer_at boxes q.box_no
      → IsAreaOf boxes crossings p s → IsAreaOf boxes crossings q t → Touches s t → AreLinked tech boxes crossings p q
  by_cut : (s t : BoxXY) (cut : ℕ) → p.box_no ≢ q.box_no → IsOn boxes NC cut
      → IsAreaOf boxes crossings p s → IsAreaOf boxes crossings q t → Overlaps s (area_at boxes cut)
      → Overlaps t (area_at boxes cut) → AreLinked tech boxes crossings p q
  by_contact : IsBuriedPair tech boxes p.box_no q.box_no → AreLinked tech boxes crossings p q
  by_contact_back : IsBuriedPair tech boxes q.box_no p.box_no → AreLinked tech boxes crossings p q

-- pieces number a and b are linked
pub record IsLink (tech : Tech) (boxes : List MaskBox) (crossings : List Crossing) (a b : ℕ) : Type 0 where
  pub p : Place
  pub q : Place
  pub first : slice_get (places_of crossings boxes) a ≡ Some p
  pub second : slice_get (places_of crossings boxes) b ≡ Some q
  pub linked : AreLinked tech boxes crossings p q

-- Nets of all pieces, numbered in order of their first pieces: two pieces have one net exactly where a chain of links
-- joins them.
pub record AreNets (tech : Tech) (boxes : List MaskBox) (crossings : List Crossing) (nets : List ℕ) : Type 0 where
  pub counted : length nets ≡ length (places_of crossings boxes)
  pub joined : (a b : ℕ) → a < length (places_of crossings boxes) → b < length (places_of crossings boxes)
      → slice_index nets a ≡ slice_index nets b ↔ Reaches (IsLink tech boxes crossings) a b
  pub in_order : IsNumberedInOrder nets

-- ---- the netlist

-- what is extracted from boxes whose poly and diffusion cross properly: chains of links make nets
pub record IsExtracted (tech : Tech) (boxes : List MaskBox) (list : Netlist) : Type 0 where
  pub proper : AreProper tech boxes
  pub crossings : List Crossing
  pub are_crossings : AreCrossings tech boxes crossings
  pub netlist : IsNetlistOf (places_of crossings boxes) (Reaches (IsLink tech boxes crossings)) crossings list

abbrev pub IsCauseOf : Tech → List MaskBox → ExtractFault → Type 0
IsCauseOf tech boxes (NotProper a b) = IsFirstBadPair tech boxes a b
IsCauseOf tech boxes OutOfMemory = Unit {0}
