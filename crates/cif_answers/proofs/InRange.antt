-- The pieces of boxes name boxes that there are.
use Rattle.std.proofs.Common.{ℕ, ◌<◌, List, [], ◌∷◌, length, sym, subst, arith, All}
use Rattle.std.specs.List.{AllByRecursion, range_with_len}
use Rattle.lam_geom.specs.declared.boxes.MaskBox.{MaskBox}
use Rattle.rule_table.specs.declared.technology.Tech.{Tech}
use Rattle.crossing_model.specs.{declared.crossing.Crossing.Crossing, Boxes.layer_at}
use Rattle.net_model.specs.{declared.netlist.{Netlist.Netlist, Piece.Piece}, Extraction.IsExtracted, Netlists.place_of}
use Rattle.box_pieces.specs.declared.placing.Part.{Part}
use Rattle.box_pieces.specs.Places.{Place, place, parts_on, is_crossed, places_at, places_of}
use Rattle.list_facts.proofs.Elements.{all_flat, all_map, all_numbers, all_of, all_unmap}

abbrev IsPlaceBelow : ℕ → Place → Type 0
IsPlaceBelow n p = p.box_no < n

parts_below : (n k : ℕ) → k < n → (parts : List Part) → AllByRecursion (λ part. IsPlaceBelow n (place k part)) parts
parts_below n k lt [] = tt
parts_below n k lt (part ∷ parts) = (lt, parts_below n k lt parts)

places_below : (crossings : List Crossing) (boxes : List MaskBox)
    → AllByRecursion (IsPlaceBelow (length boxes)) (places_of crossings boxes)
places_below crossings boxes =
    all_flat (IsPlaceBelow (length boxes)) (places_at crossings boxes) (range_with_len 0 (length boxes))
    (all_numbers (λ k. AllByRecursion (IsPlaceBelow (length boxes)) (places_at crossings boxes k)) 0 (length boxes)
    (λ k ge lt. all_map (IsPlaceBelow (length boxes)) (place k) (parts_on (layer_at boxes k) (is_crossed crossings k))
    (parts_below (length boxes) k (omega (arith, lt)) (parts_on (layer_at boxes k) (is_crossed crossings k)))))

pub pieces_in_range : (tech : Tech) (boxes : List MaskBox) (list : Netlist) → IsExtracted tech boxes list
    → All (λ (piece : Piece). piece.box_no < length boxes) list.pieces
pieces_in_range tech boxes list h =
    all_of (λ (piece : Piece). piece.box_no < length boxes) list.pieces
    (all_unmap (IsPlaceBelow (length boxes)) place_of list.pieces
    (subst (AllByRecursion (IsPlaceBelow (length boxes))) (sym h.netlist.placed) (places_below h.crossings boxes)))
