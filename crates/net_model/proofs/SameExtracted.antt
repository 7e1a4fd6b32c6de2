-- Some boxes have one netlist that is extracted from them.
use Rattle.std.proofs.Common.{◌≡◌, List, subst}
use Rattle.lam_geom.specs.declared.boxes.MaskBox.{MaskBox}
use Rattle.rule_table.specs.declared.technology.Tech.{Tech}
use Rattle.graph_search.specs.Netting.{Reaches}
use Rattle.crossing_model.{specs.declared.crossing.Crossing.Crossing, proofs.SameCrossings.crossings_same}
use Rattle.box_pieces.specs.Places.{places_of}
use Rattle.net_model.specs.{declared.netlist.Netlist.Netlist, Extraction.{IsExtracted, IsLink}}
use Rattle.net_model.specs.{Laws.IsExtractionDetermined, Netlists.IsNetlistOf}

pub extracted_same : (tech : Tech) (boxes : List MaskBox) → IsExtractionDetermined → (a b : Netlist)
    → IsExtracted tech boxes a → IsExtracted tech boxes b → a ≡ b
extracted_same tech boxes determined a b h k =
    let same : k.crossings ≡ h.crossings =
    crossings_same tech boxes k.crossings h.crossings k.are_crossings h.are_crossings in
    determined tech boxes h.crossings a b h.netlist
    (subst (λ (cs : List Crossing). IsNetlistOf (places_of cs boxes) (Reaches (IsLink tech boxes cs)) cs b) same
    k.netlist)
