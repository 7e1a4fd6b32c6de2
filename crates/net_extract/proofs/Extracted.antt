-- What is extracted: from crossings, pieces, links and numbers to the netlist.
use Rattle.std.proofs.Common.{◌≡◌, ℕ, ◌+◌, ◌<◌, ◌≤◌, List, All, pos, length, map, get_or, sym, ◌∙◌, ap, subst, arith}
use Rattle.std.proofs.lemmas.{Int.{ints, clamps}, List.{get_or-map, length-map}}
use Rattle.lam_geom.specs.{declared.boxes.{BoxXY.BoxXY, MaskBox.MaskBox}, Gaps.Encloses}
use Rattle.rule_table.specs.declared.technology.Tech.{Tech}
use Rattle.graph_search.specs.Netting.{next_net}
use Rattle.crossing_model.specs.{declared.crossing.Crossing.Crossing, Boxes.{AreSearchable, IsCommon, area_at, no_box}}
use Rattle.crossing_model.specs.Crossings.{AreProper, AreCrossings, IsCrossing}
use Rattle.net_model.specs.{declared.netlist.{Netlist.Netlist, Piece.Piece}, Netlists.{place_of, nets_of, device_of}}
use Rattle.net_model.specs.{Extraction.{AreNets, IsExtracted}, Devices.{no_netted, box_of_netted, ArePieceRanges}}
use Rattle.net_model.specs.Devices.{HasBoxes}
use Rattle.box_pieces.specs.{declared.placing.Placed.Placed, Places.Place, Pieces.{no_piece, box_of, stand_of}}
use Rattle.box_pieces.specs.Pieces.{AreStarts, ArePieces, IsWithinDiffusion}
use Rattle.net_extract.proofs.Geometry.{placed_inner}

-- ---- crossings

-- what boxes have in common lies within each
pub common_within : (poly diffusion channel : BoxXY) → IsCommon poly diffusion channel
    → Encloses diffusion channel (pos 0)
common_within poly diffusion channel common =
    let a = common.x.lo in
    let b = common.x.hi in
    let c = common.y.lo in
    let d = common.y.hi in (
      (omega (arith, ints, clamps, a), omega (arith, ints, clamps, b)),
      (omega (arith, ints, clamps, c), omega (arith, ints, clamps, d)),
    )

-- the channels of crossings lie within their diffusion
pub channels_within : (tech : Tech) (boxes : List MaskBox) (crossings : List Crossing)
    → AreCrossings tech boxes crossings → All (IsWithinDiffusion boxes) crossings
channels_within tech boxes crossings are k d lt =
    let c : Crossing = get_or crossings k d in
    let is : IsCrossing tech boxes c = are.each k d lt in
    common_within (area_at boxes c.poly) (area_at boxes c.diffusion) c.channel is.channel

-- the boxes of crossings have pieces
pub crossings_have_boxes : (tech : Tech) (boxes : List MaskBox) (crossings given : List Crossing) (starts : List ℕ)
    → AreSearchable boxes → length starts ≡ length boxes + 1 → given ≡ crossings
    → AreCrossings tech boxes crossings → All (HasBoxes starts) given
crossings_have_boxes tech boxes crossings given starts searchable counted e are =
    let all : All (HasBoxes starts) crossings = λ k d lt.
    (let c : Crossing = get_or crossings k d in
    let is : IsCrossing tech boxes c = are.each k d lt in
    let poly = is.meeting.overlap.poly.among in
    let diffusion = is.meeting.overlap.diffusion.among in
    record {
      poly = omega arith;
      diffusion = omega arith;
      channel =
          placed_inner (area_at boxes c.diffusion) c.channel (searchable.placed c.diffusion no_box diffusion)
          (common_within (area_at boxes c.poly) (area_at boxes c.diffusion) c.channel is.channel);
    }) in
    let P : List Crossing → Type 0 = λ cs. All (HasBoxes starts) cs in
    subst P (sym e) all

-- ---- pieces with their nets

same_box : (placed : List Placed) (pieces : List Piece) (a : ℕ) → map place_of pieces ≡ map stand_of placed
    → a < length placed → box_of_netted pieces a ≡ box_of placed a
same_box placed pieces a e lt =
    let n : length pieces ≡ length placed = sym (length-map pieces place_of) ∙ ap (λ (ps : List Place). length ps) e
    ∙ length-map placed stand_of in
    let d : Place = stand_of no_piece in
    let at : place_of (get_or pieces a no_netted) ≡ stand_of (get_or placed a no_piece) =
    sym (get_or-map place_of pieces a no_netted d (omega arith)) ∙ ap (λ (ps : List Place). get_or ps a d) e
    ∙ get_or-map stand_of placed a no_piece d lt in
    ap (λ (p : Place). p.box_no) at

-- the pieces of each box stand in its range
pub ranges_from : (count : ℕ) (placed : List Placed) (pieces given : List Piece) (starts : List ℕ)
    → AreStarts (box_of placed) (length placed) count starts → map place_of pieces ≡ map stand_of placed
    → given ≡ pieces → ArePieceRanges given starts
ranges_from count placed pieces given starts s e same =
    let n : length pieces ≡ length placed = sym (length-map pieces place_of) ∙ ap (λ (ps : List Place). length ps) e
    ∙ length-map placed stand_of in
    let c = s.counted in
    let P : List Piece → Type 0 = λ ps. ArePieceRanges ps starts in
    subst P (sym same)
    (record {
      within = λ k lt. (let w = s.within (k + 1) (omega arith) in omega arith);
      of_box = λ k a lt low high.
          (let w = s.within (k + 1) (omega arith) in same_box placed pieces a e (omega arith)
          ∙ s.of_box k a (omega arith) low high);
      own = λ k a lt at.
          (let l : a < length placed = omega arith in
          let o = s.own a l in
          let Q : ℕ → Type 0 = λ m. (get_or starts m 0 ≤ a) × (a < get_or starts (m + 1) 0) in
          subst Q (sym (same_box placed pieces a e l) ∙ at) (o.1, o.2));
    })

-- ---- the netlist

-- nets make the netlist
pub netlist_made : (tech : Tech) (boxes : List MaskBox) (crossings : List Crossing) (placed : List Placed)
    (starts nets : List ℕ) (list : Netlist)
    → AreProper tech boxes → AreCrossings tech boxes crossings → ArePieces boxes crossings placed starts
    → AreNets tech boxes crossings nets
    → map place_of list.pieces ≡ map stand_of placed → nets_of list.pieces ≡ nets → list.nets ≡ next_net nets
    → list.devices ≡ map (device_of list.pieces) crossings → IsExtracted tech boxes list
netlist_made tech boxes crossings placed starts nets list proper are p are_nets e_places e_nets e_count e_devices =
    let Made : List ℕ → Type 0 = λ ns. AreNets tech boxes crossings ns × (list.nets ≡ next_net ns) in
    let all : Made (nets_of list.pieces) = subst Made (sym e_nets) (are_nets, e_count) in
    record {
      proper = proper;
      crossings = crossings;
      are_crossings = are;
      netlist = record {
        placed = e_places ∙ p.places;
        joined = all.0.joined;
        in_order = all.0.in_order;
        counted = all.1;
        devices = e_devices;
      };
    }
