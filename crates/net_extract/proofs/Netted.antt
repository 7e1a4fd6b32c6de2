-- The nets of pieces: the numbers that searches give are those of chains of links.
use Rattle.std.proofs.Common.{◌≡◌, ℕ, Option, List, inl, length, refl, arith}
use Rattle.lam_geom.specs.declared.boxes.MaskBox.{MaskBox}
use Rattle.rule_table.specs.declared.technology.Tech.{Tech}
use Rattle.graph_search.proofs.Numbering.{IsNumbering, numbering_joined, numbering_same}
use Rattle.crossing_model.specs.{declared.crossing.Crossing.Crossing, Crossings.AreInOrder}
use Rattle.box_pieces.specs.{declared.placing.Placed.Placed, Pieces.ArePieces}
use Rattle.net_model.specs.Extraction.{AreNets}
use Rattle.net_extract.{specs.Linking.AreBeside, proofs.{AllLinks.pieces_counted, Nodes.{chain_links, chain_nodes}}}

-- the numbers of all pieces are their nets
pub nets_made : (tech : Tech) (boxes : List MaskBox) (crossings : List Crossing) (pieces : List Placed)
    (starts : List ℕ) (marks : List (Option ℕ)) (nets : List ℕ) (count : ℕ) → AreInOrder crossings
    → ArePieces boxes crossings pieces starts → length nets ≡ length pieces
    → IsNumbering (AreBeside tech boxes pieces) marks nets count → AreNets tech boxes crossings nets
nets_made tech boxes crossings pieces starts marks nets count ordered p counted h =
    let Beside : ℕ → ℕ → Type 0 = AreBeside tech boxes pieces in
    let n = pieces_counted boxes crossings pieces p.places in
    record {
      counted = omega arith;
      joined = λ a b la lb. (
        λ e. (let r = numbering_joined Beside marks nets count a b h (omega arith) (omega arith) e in
            chain_links tech boxes crossings pieces starts r.0 a a b p r.1 (inl (omega arith, refl)) (omega arith)),
        λ r. numbering_same Beside marks nets count a b h (omega arith) (omega arith)
            (chain_nodes tech boxes crossings pieces starts r.0 a b ordered p r.1),
      );
      in_order = h.in_order;
    }
