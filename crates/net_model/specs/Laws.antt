-- What holds of all netlists.
use Rattle.std.specs.Prelude.{◌≡◌, ℕ, List, slice_index}
use Rattle.lam_geom.specs.declared.boxes.MaskBox.{MaskBox}
use Rattle.rule_table.specs.declared.technology.Tech.{Tech}
use Rattle.graph_search.specs.Netting.{Reaches}
use Rattle.crossing_model.specs.declared.crossing.Crossing.{Crossing}
use Rattle.net_model.specs.{declared.netlist.Netlist.Netlist, Netlists.IsNetlistOf, Extraction.IsLink}
use Rattle.box_pieces.specs.Places.{Place, places_of}

-- two pieces, by their numbers, are of one class
abbrev pub AreOfOneClass : List ℕ → ℕ → ℕ → Type 0
AreOfOneClass classes a b = slice_index classes a ≡ slice_index classes b

-- pieces at some places, of which those of one class are of one net, have only one netlist with these crossings
abbrev pub IsNetlistDetermined : Type 0
IsNetlistDetermined = (places : List Place) (classes : List ℕ) (crossings : List Crossing) (a b : Netlist)
    → IsNetlistOf places (AreOfOneClass classes) crossings a → IsNetlistOf places (AreOfOneClass classes) crossings b
    → a ≡ b

-- the pieces of boxes, of which those that chains of links join are of one net, have only one
abbrev pub IsExtractionDetermined : Type 0
IsExtractionDetermined = (tech : Tech) (boxes : List MaskBox) (crossings : List Crossing) (a b : Netlist)
    → IsNetlistOf (places_of crossings boxes) (Reaches (IsLink tech boxes crossings)) crossings a
    → IsNetlistOf (places_of crossings boxes) (Reaches (IsLink tech boxes crossings)) crossings b → a ≡ b
