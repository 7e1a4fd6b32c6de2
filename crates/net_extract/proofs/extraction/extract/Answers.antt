use Rattle.std.proofs.Common.{◌≡◌, ℕ, List, All, length, map, sym, ◌∙◌, ap, subst}
use Rattle.crossing_model.specs.declared.crossing.Crossing.{Crossing}
use Rattle.net_model.specs.{declared.netlist.Piece.Piece, Netlists.{place_of, nets_of, device_of}, Extraction.AreNets}
use Rattle.net_model.specs.Devices.{ArePieceRanges, HasBoxes}
use Rattle.box_pieces.specs.Pieces.{stand_of}
use Rattle.net_extract.proofs.Extracted.{channels_within, crossings_have_boxes, ranges_from, netlist_made}
use Rattle.net_extract.proofs.extraction.extract.Goals as goal

pub pieces_of-requires-clause-within : goal.pieces_of-requires-clause-within
pieces_of-requires-clause-within g c =
    channels_within c.args.tech.now c.args.boxes.now c.in_ok-found.found.items c.in_ok-found.ensures.crossings

pub devices_of-requires-clause-starts : goal.devices_of-requires-clause-starts
devices_of-requires-clause-starts g c =
    let placed = c.in_ok-split.split.placed.items in
    let pieces = c.in_ok-pieces.pieces.items in
    let places : map place_of pieces ≡ map stand_of placed = c.in_ok-pieces.ensures.places
    ∙ ap (map stand_of) c.as_slice.ensures.value in
    let P : List ℕ → Type 0 = λ starts. ArePieceRanges c.as_slice-3.result.now starts in
    subst P (sym c.as_slice-4.ensures.value)
    (ranges_from (length c.args.boxes.now) placed pieces c.as_slice-3.result.now c.in_ok-split.split.starts.items
    c.in_ok-split.ensures.pieces.ranges places c.as_slice-3.ensures.value)

pub devices_of-requires-clause-crossings : goal.devices_of-requires-clause-crossings
devices_of-requires-clause-crossings g c =
    let P : List ℕ → Type 0 = λ starts. All (HasBoxes starts) c.as_slice-5.result.now in
    subst P (sym c.as_slice-4.ensures.value)
    (crossings_have_boxes c.args.tech.now c.args.boxes.now c.in_ok-found.found.items c.as_slice-5.result.now
    c.in_ok-split.split.starts.items c.requires c.in_ok-split.ensures.pieces.ranges.counted
    (c.as_slice-5.ensures.value ∙ c.in_ok-split.ensures.crossings) c.in_ok-found.ensures.crossings)

pub returns-clause-extracted : goal.returns-clause-extracted
returns-clause-extracted g c =
    let tech = c.args.tech.now in
    let boxes = c.args.boxes.now in
    let crossings = c.in_ok-found.found.items in
    let placed = c.in_ok-split.split.placed.items in
    let pieces = c.in_ok-pieces.pieces.items in
    let nets = c.in_ok-nets.nets.items in
    let N : List Crossing → Type 0 = λ cs. AreNets tech boxes cs nets in
    let places : map place_of pieces ≡ map stand_of placed = c.in_ok-pieces.ensures.places
    ∙ ap (map stand_of) c.as_slice.ensures.value in
    let numbers : nets_of pieces ≡ nets = c.in_ok-pieces.ensures.nets ∙ c.as_slice-2.ensures.value in
    let devices : c.in_ok-devices.devices.items ≡ map (device_of pieces) crossings =
    c.in_ok-devices.ensures ∙ ap (λ (ps : List Piece). map (device_of ps) c.as_slice-5.result.now)
    c.as_slice-3.ensures.value
    ∙ ap (map (device_of pieces)) (c.as_slice-5.ensures.value ∙ c.in_ok-split.ensures.crossings) in
    netlist_made tech boxes crossings placed c.in_ok-split.split.starts.items nets
    (record { pieces = c.from_vec.result; nets = c.in_ok-nets.count; devices = c.from_vec-2.result })
    c.in_ok-found.ensures.proper c.in_ok-found.ensures.crossings c.in_ok-split.ensures.pieces
    (subst N c.in_ok-split.ensures.crossings c.in_ok-nets.ensures.nets)
    (ap (map place_of) c.from_vec.ensures ∙ places) (ap nets_of c.from_vec.ensures ∙ numbers) c.in_ok-nets.ensures.count
    (c.from_vec-2.ensures ∙ devices ∙ ap (λ (ps : List Piece). map (device_of ps) crossings) (sym c.from_vec.ensures))
