use Rattle.graph_search.specs.Netting.{Reaches}
use Rattle.net_model.{specs.{Extraction.IsLink, Laws.AreOfOneClass}, proofs.Determined.netlist_same}
use Rattle.box_pieces.specs.Places.{places_of}
use Rattle.net_extract.proofs.laws.netlist_is_determined.Goals as goal

pub returns-clause-by_classes : goal.returns-clause-by_classes
returns-clause-by_classes c = λ places classes crossings a b ha hb.
    netlist_same places (AreOfOneClass classes) crossings a b ha hb

pub returns-clause-by_links : goal.returns-clause-by_links
returns-clause-by_links c = λ tech boxes crossings a b ha hb.
    netlist_same (places_of crossings boxes) (Reaches (IsLink tech boxes crossings)) crossings a b ha hb
