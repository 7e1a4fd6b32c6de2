-- Where the pieces of each box stand among all.
use Rattle.std.proofs.Common.{◌≡◌, ℕ, ◌+◌, ◌-◌, ◌<◌, ◌≤◌, List, length, map, get_or, sym, ap, ◌∙◌, subst, arith}
use Rattle.std.{proofs.lemmas.List.{length-map, length-append, get_or-map}, specs.Prelude.slice_index}
use Rattle.cell_model.specs.declared.cell.Nets.{Nets}
use Rattle.expand.specs.declared.master.Master.{Master}
use Rattle.pair_rules.specs.Bound.{item_at}
use Rattle.pitch_join.specs.Masters.{master_at}
use Rattle.box_pieces.specs.{declared.placing.Part.{Part, TheVariants.Whole}, Places.Place}
use Rattle.net_model.specs.{declared.netlist.Piece.Piece, Netlists.place_of, Devices.{no_netted, box_of_netted}}
use Rattle.net_model.specs.Devices.{ArePieceRanges}
use Rattle.design_nets.specs.declared.{instances.Instance.Instance, pieces.Placed.Placed, shapes.Shape.Shape}
use Rattle.design_nets.specs.{Firsts.together, Instances.master_no, Nets.nets_no, Pieces.{placed, parts_of_item}}
use Rattle.design_nets.specs.{Pieces.{pieces_in, stand_of, AreInstancePieces}, Shapes.shape_no}
use Rattle.design_nets.proofs.Lists.{together_split, together_read, together_longer, together_within, together_more}

module _ (masters : List Master) (nets : List Nets) (instances : List Instance) (shapes : List Shape)
    (pieces : List Placed) (starts : List ℕ) (all : AreInstancePieces masters nets instances shapes pieces starts)
    (netted : List Piece) (same : map place_of netted ≡ map stand_of pieces) where
  abbrev Lists : ℕ → List Placed
  Lists k = pieces_in masters nets instances shapes k

  abbrev Empty : Placed
  Empty = record { box_no = 0; part = Whole; own = record { instance = 0; net = 0 } }

  pub pieces_counted : length netted ≡ length pieces
  pieces_counted = sym (length-map netted place_of)
      ∙ (ap (λ (ps : List Place). length ps) same ∙ length-map pieces stand_of)

  -- the box of a piece
  box_read : (a : ℕ) → a < length pieces → box_of_netted netted a ≡ (get_or pieces a Empty).box_no
  box_read a lt =
      let d : Place = stand_of Empty in
      ap (λ (p : Place). p.box_no) (sym (get_or-map place_of netted a no_netted d (omega (arith, lt, pieces_counted)))
      ∙ (ap (λ (ps : List Place). get_or ps a d) same ∙ get_or-map stand_of pieces a Empty d lt))

  box_in : (k j : ℕ) → k < length shapes → j < length (Lists k)
      → (get_or pieces (length (together Lists k) + j) Empty).box_no ≡ k
  box_in k j lt among =
      let m : ℕ = master_no instances (shape_no shapes k).instance in
      let item = item_at (master_at masters m).items.list (shape_no shapes k).item in
      let parts : List Part = parts_of_item (master_at masters m) item in
      let make : Part → Placed = placed (nets_no nets m) item (shape_no shapes k).instance k in
      let few : j < length parts = omega (arith, among, length-map parts make) in
      ap (λ (ps : List Placed). (get_or ps (length (together Lists k) + j) Empty).box_no) all.all
      ∙ (ap (λ (p : Placed). p.box_no) (together_read Lists (length shapes) k j Empty lt among)
      ∙ ap (λ (p : Placed). p.box_no) (get_or-map make parts j Whole Empty few))

  start_is : (k : ℕ) → k ≤ length shapes → slice_index starts k ≡ length (together Lists k)
  start_is k le = (let e = all.begins.each k le in omega (arith, e))

  pub ranges : ArePieceRanges netted starts
  ranges =
      let counted = all.begins.counted in
      record {
        within = λ k lt. (
            let e = start_is (k + 1) (omega (arith, lt, counted)) in
            let longer = together_longer Lists (k + 1) (length shapes) (omega (arith, lt, counted)) in
            let whole = ap (λ (ps : List Placed). length ps) all.all in
            omega (arith, e, longer, whole, pieces_counted));
        of_box = λ k a lt low high. (
            let here : k < length shapes = omega (arith, lt, counted) in
            let first = start_is k (omega (arith, here)) in
            let next = start_is (k + 1) (omega (arith, here)) in
            let more = ap (λ (ps : List Placed). length ps) (together_more Lists k)
            ∙ length-append (together Lists k) (Lists k) in
            let j : ℕ = a - length (together Lists k) in
            let among : j < length (Lists k) = omega (arith, low, high, first, next, more) in
            let e : length (together Lists k) + j ≡ a = omega (arith, low, first) in
            let inside = together_within Lists (length shapes) k j here among in
            let whole = ap (λ (ps : List Placed). length ps) all.all in
            box_read a (omega (arith, inside, whole, e))
            ∙ (ap (λ (n : ℕ). (get_or pieces n Empty).box_no) (sym e) ∙ box_in k j here among));
        own = λ k a lt is. (
            let few : a < length pieces = omega (arith, lt, pieces_counted) in
            let whole = ap (λ (ps : List Placed). length ps) all.all in
            let s = together_split Lists (length shapes) a (omega (arith, few, whole)) in
            let box : s.i ≡ k = sym (box_in s.i s.j s.list s.element)
            ∙ (ap (λ (n : ℕ). (get_or pieces n Empty).box_no) (sym s.is) ∙ (sym (box_read a few) ∙ is)) in
            let in_list = s.list in
            let element = s.element in
            let at = s.is in
            let first = start_is s.i (omega (arith, in_list)) in
            let next = start_is (s.i + 1) (omega (arith, in_list)) in
            let more = ap (λ (ps : List Placed). length ps) (together_more Lists s.i)
            ∙ length-append (together Lists s.i) (Lists s.i) in
            let low : slice_index starts s.i ≤ a = omega (arith, at, first) in
            let high : a < slice_index starts (s.i + 1) = omega (arith, at, element, next, more) in (
              subst (λ (i : ℕ). slice_index starts i ≤ a) box low,
              subst (λ (i : ℕ). a < slice_index starts (i + 1))
                  box high,
            ));
      }
