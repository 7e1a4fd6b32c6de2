-- Pieces of which it is told which are of one net have one netlist.
use Rattle.std.proofs.{Common.{◌≡◌, ℕ, List, [], ◌∷◌, length, map, sym, ◌∙◌, ap}, lemmas.List.length-map}
use Rattle.graph_search.{specs.Netting.next_net, proofs.Determined.agreeing_same}
use Rattle.net_model.specs.declared.netlist.{Device.Device, Netlist.Netlist, Piece.Piece}
use Rattle.net_model.specs.Netlists.{place_of, nets_of, device_of, IsNetlistOf}
use Rattle.box_pieces.specs.{declared.placing.Part.Part, Places.Place}
use Rattle.crossing_model.specs.declared.crossing.Crossing.{Crossing}

piece_same : (x y : Piece) → place_of x ≡ place_of y → x.net ≡ y.net → x ≡ y
piece_same x y p n =
    ap (λ (k : ℕ). record x { box_no = k }) (ap (λ (q : Place). q.box_no) p)
    ∙ ap (λ (part : Part). record x { box_no = y.box_no; part = part }) (ap (λ (q : Place). q.part) p)
    ∙ ap (λ (net : ℕ). record y { net = net }) n

-- pieces at the same places with the same nets are the same
pub pieces_same : (xs ys : List Piece) → map place_of xs ≡ map place_of ys → nets_of xs ≡ nets_of ys → xs ≡ ys
pieces_same [] [] p n = cc
pieces_same [] (y ∷ ys) p n = absurd (cc)
pieces_same (x ∷ xs) [] p n = absurd (cc)
pieces_same (x ∷ xs) (y ∷ ys) p n =
    let stands : place_of x ≡ place_of y = cc in
    let rest : map place_of xs ≡ map place_of ys = cc in
    let net : x.net ≡ y.net = cc in
    let nets : nets_of xs ≡ nets_of ys = cc in
    let first : x ≡ y = piece_same x y stands net in
    let others : xs ≡ ys = pieces_same xs ys rest nets in
    ap (λ (z : Piece). z ∷ xs) first ∙ ap (λ (zs : List Piece). y ∷ zs) others

-- pieces of which it is told which are of one net have one netlist
pub netlist_same : (places : List Place) (AreOne : ℕ → ℕ → Type 0) (crossings : List Crossing) (a b : Netlist)
    → IsNetlistOf places AreOne crossings a → IsNetlistOf places AreOne crossings b → a ≡ b
netlist_same places AreOne crossings a b ha hb =
    let count : (list : Netlist) → IsNetlistOf places AreOne crossings list
    → length (nets_of list.pieces) ≡ length places = λ list h.
    length-map list.pieces (λ (piece : Piece). piece.net) ∙ sym (length-map list.pieces place_of)
    ∙ ap (λ (ps : List Place). length ps) h.placed in
    let nets : nets_of a.pieces ≡ nets_of b.pieces =
    agreeing_same (length places) (nets_of a.pieces) (nets_of b.pieces) (count a ha) (count b hb) ha.in_order
    hb.in_order
    (λ i j li lj e. (hb.joined i j li lj).1 ((ha.joined i j li lj).0 e))
    (λ i j li lj e. (ha.joined i j li lj).1 ((hb.joined i j li lj).0 e)) in
    let pieces : a.pieces ≡ b.pieces = pieces_same a.pieces b.pieces (ha.placed ∙ sym hb.placed) nets in
    let counted : a.nets ≡ b.nets = ha.counted ∙ ap next_net nets ∙ sym hb.counted in
    let devices : a.devices ≡ b.devices = ha.devices ∙ ap (λ (ps : List Piece). map (device_of ps) crossings) pieces
    ∙ sym hb.devices in
    ap (λ (ps : List Piece). record a { pieces = ps }) pieces
    ∙ ap (λ (n : ℕ). record a { pieces = b.pieces; nets = n }) counted
    ∙ ap (λ (ds : List Device). record b { devices = ds }) devices
