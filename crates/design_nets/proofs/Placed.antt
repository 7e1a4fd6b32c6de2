-- The pieces of the boxes stand where those of the sticks do, and are of their nets.
use Rattle.std.proofs.Common.{◌≡◌, ℕ, ◌<◌, List, length, map, get_or, Option, Some, sym, ap, ◌∙◌, subst, arith}
use Rattle.std.proofs.lemmas.Option.{slice_get_within, slice_get-get_or, slice_get-map, get_or_from_slice_get}
use Rattle.std.{proofs.lemmas.Simd.map-map, specs.{Prelude.{slice_get, option_map}, List.range_with_len}}
use Rattle.cell_model.specs.declared.cell.Nets.{Nets}
use Rattle.sym_items.specs.declared.items.Item.{Item}
use Rattle.expand.specs.{declared.master.Master.Master, Items.nets_at}
use Rattle.pair_rules.specs.Bound.{item_at}
use Rattle.plan_model.specs.{declared.plan.Plan.Plan, Instances.{InstancePlace, master_at_spot}, Plan.grids_of}
use Rattle.plan_model.specs.GridNets.{IsOneNet}
use Rattle.pitch_join.specs.Masters.{master_at, ports_of_masters}
use Rattle.box_pieces.specs.{declared.placing.Part.{Part, TheVariants.{Whole, Low, High}}, Places.{Place, place}}
use Rattle.instance_laws.specs.{Conductors.{InstanceItem, item_of}, Shapes.Shows, Sticks.places_of_shape}
use Rattle.instance_laws.specs.Sticks.{places_of_sticks, net_of_part, AreOfOne}
use Rattle.instance_laws.proofs.{NetlistLists.{Has, has_at, from_map}, NetlistPlaces.places_shown}
use Rattle.instance_laws.proofs.{NetlistShapes.one_item, PictureLists.image_of_pieces}
use Rattle.design_nets.specs.declared.{instances.Instance.Instance, pieces.Placed.Placed, shapes.Shape.Shape}
use Rattle.design_nets.specs.{Firsts.together, Instances.{instances_of, spot_no, master_no}, Nets.nets_no}
use Rattle.design_nets.specs.Pieces.{part_net, placed, parts_of_item, pieces_in, stand_of, AreInstancePieces, IsShapeOf}
use Rattle.design_nets.{specs.Shapes.{drawn_by, shape_no, AreShapesOf}, proofs.Lists.{together_same, together_split}}
use Rattle.design_nets.proofs.{Lists.together_read, Shown.{shapes_counted, shape_shows}, Spots.instance_stands}
use Rattle.design_nets.specs.Shapes as own_shapes

module _ (plan : Plan) (masters : List Master) (nets : List Nets) (instances : List Instance)
    (are : instances ≡ instances_of (grids_of plan))
    (shapes : List Shape) (firsts : List ℕ) (made : AreShapesOf masters instances shapes firsts)
    (each : (k : ℕ) → k < length shapes → IsShapeOf masters instances (shape_no shapes k))
    (pieces : List Placed) (starts : List ℕ) (all : AreInstancePieces masters nets instances shapes pieces starts) where
  -- the master of a shape's instance, its item, and what box number k shows
  abbrev Master_no : ℕ → ℕ
  Master_no k = master_no instances (shape_no shapes k).instance

  abbrev Item_no : ℕ → Item
  Item_no k = item_at (master_at masters (Master_no k)).items.list (shape_no shapes k).item

  abbrev Drawn_no : ℕ → InstanceItem
  Drawn_no k = drawn_by instances (shape_no shapes k)

  shows : (k : ℕ) → k < length shapes → Shows plan masters k (drawn_by instances (shape_no shapes k))
  shows k lt = shape_shows plan masters instances are shapes firsts made k (shape_no shapes k)
      (slice_get-get_or shapes k own_shapes.no_shape lt)

  -- it is of that master
  master_is : (k : ℕ) → k < length shapes → master_at_spot (grids_of plan) (Drawn_no k).spot ≡ Master_no k
  master_is k lt =
      sym (instance_stands (grids_of plan) instances (shape_no shapes k).instance are (each k lt).instance).master

  item_is : (k : ℕ) → k < length shapes → item_of plan masters (Drawn_no k) ≡ Item_no k
  item_is k lt = ap (λ (m : ℕ). item_at (master_at masters m).items.list (shape_no shapes k).item) (master_is k lt)

  box_stands : (k : ℕ) → k < length shapes
      → map stand_of (pieces_in masters nets instances shapes k) ≡ places_of_shape plan masters k
  box_stands k lt =
      let m : ℕ = Master_no k in
      map-map stand_of (placed (nets_no nets m) (Item_no k) (shape_no shapes k).instance k)
      (parts_of_item (master_at masters m) (Item_no k))
      ∙ (ap (λ (z : ℕ).
      map (place k)
      (parts_of_item (master_at masters z)
      (item_at (master_at masters z).items.list (shape_no shapes k).item))) (sym (master_is k lt))
      ∙ sym (places_shown plan masters k (Drawn_no k) (shows k lt)))

  -- all pieces, in order
  pub pieces_stand : map stand_of pieces ≡ places_of_sticks plan masters
  pieces_stand =
      ap (map stand_of) all.all
      ∙ (image_of_pieces stand_of (pieces_in masters nets instances shapes) (range_with_len 0 (length shapes))
      ∙ (together_same (λ k. map stand_of (pieces_in masters nets instances shapes k)) (places_of_shape plan masters)
      (length shapes) box_stands
      ∙ ap (together (places_of_shape plan masters)) (shapes_counted plan masters instances are shapes firsts made)))

  -- ---- one by one

  -- what is known of piece number i
  pub record IsPieceOf (i : ℕ) (piece : Placed) : Type 0 where
    pub k : ℕ
    pub part : Part
    pub among : k < length shapes
    pub there : slice_get (places_of_sticks plan masters) i ≡ Some (place k part)
    pub shown : Shows plan masters k (drawn_by instances (shape_no shapes k))
    pub is : piece ≡ placed (nets_no nets (master_no instances (shape_no shapes k).instance))
        (item_at (master_at masters (master_no instances (shape_no shapes k).instance)).items.list
        (shape_no shapes k).item) (shape_no shapes k).instance k part
    pub has : Has
        (parts_of_item (master_at masters (master_no instances (shape_no shapes k).instance))
        (item_at (master_at masters (master_no instances (shape_no shapes k).instance)).items.list
        (shape_no shapes k).item)) part
    pub net : piece.own.net ≡ net_of_part (nets_no nets) plan masters (drawn_by instances (shape_no shapes k)) part

  net_is : (k : ℕ) → k < length shapes → (part : Part)
      → part_net (nets_no nets (Master_no k)) (Item_no k) part ≡ net_of_part (nets_no nets) plan masters (Drawn_no k)
      part
  net_is k lt Whole = ap (λ (i : Item). i.net) (sym (item_is k lt))
  net_is k lt Low =
      ap (λ (m : ℕ). (nets_at (nets_no nets m).node (Item_no k).owner).low) (sym (master_is k lt))
      ∙ ap (λ (i : Item).
      (nets_at (nets_no nets (master_at_spot (grids_of plan) (Drawn_no k).spot)).node i.owner).low) (sym
      (item_is k lt))
  net_is k lt High =
      ap (λ (m : ℕ). (nets_at (nets_no nets m).node (Item_no k).owner).high) (sym (master_is k lt))
      ∙ ap (λ (i : Item).
      (nets_at (nets_no nets (master_at_spot (grids_of plan) (Drawn_no k).spot)).node i.owner).high) (sym
      (item_is k lt))

  pub piece_is : (i : ℕ) (piece : Placed) → slice_get pieces i ≡ Some piece → IsPieceOf i piece
  piece_is i piece h =
      let lists = pieces_in masters nets instances shapes in
      let lt = slice_get_within pieces i piece h in
      let counted = ap (λ (ps : List Placed). length ps) all.all in
      let s = together_split lists (length shapes) i (omega (arith, lt, counted)) in
      let k : ℕ = s.i in
      let m : ℕ = Master_no k in
      let read = together_read lists (length shapes) k s.j piece s.list s.element in
      let here : slice_get (lists k) s.j ≡ Some piece =
      slice_get-get_or (lists k) s.j piece s.element
      ∙ ap Some
      (sym read
      ∙ (ap (λ (n : ℕ). get_or (together lists (length shapes)) n piece) (sym s.is)
      ∙ (ap (λ (ps : List Placed). get_or ps i piece) (sym all.all)
      ∙ get_or_from_slice_get pieces i piece piece h))) in
      let f = from_map (placed (nets_no nets m) (Item_no k) (shape_no shapes k).instance k)
      (parts_of_item (master_at masters m) (Item_no k)) piece (has_at (lists k) s.j piece here) in
      let stands : slice_get (places_of_sticks plan masters) i ≡ Some (stand_of piece) =
      ap (λ (ps : List Place). slice_get ps i) (sym pieces_stand)
      ∙ (slice_get-map stand_of pieces i ∙ ap (λ (o : Option Placed). option_map stand_of o) h) in
      record {
        k = k;
        part = f.0;
        among = s.list;
        there = stands ∙ ap (λ (p : Placed). Some (stand_of p)) (sym f.2);
        shown = shows k s.list;
        is = sym f.2;
        has = f.1;
        net = ap (λ (p : Placed). p.own.net) (sym f.2) ∙ net_is k s.list f.0;
      }

  -- ---- nets

  abbrev One : InstancePlace → ℕ → InstancePlace → ℕ → Type 0
  One p n q m = IsOneNet (ports_of_masters masters) (nets_no nets) (grids_of plan) p n q m

  ends : (p q r s : InstancePlace) (n m k l : ℕ) → p ≡ q → n ≡ m → r ≡ s → k ≡ l → One p n r k → One q m s l
  ends p q r s n m k l pq nm rs kl h =
      subst (λ (z : InstancePlace). One z m s l) pq
      (subst (λ (z : ℕ). One p z s l) nm
      (subst (λ (z : InstancePlace). One p n z l) rs (subst (λ (z : ℕ). One p n r z) kl h)))

  -- a piece's item and part are those that a place tells
  pub record IsPieceTold (i : ℕ) (piece : Placed) (p : Place) (a : InstanceItem) : Type 0 where
    pub spot : a.spot ≡ spot_no instances piece.own.instance
    pub net : net_of_part (nets_no nets) plan masters a p.part ≡ piece.own.net

  pub told : (i : ℕ) (piece : Placed) (p : Place) (a : InstanceItem) → slice_get pieces i ≡ Some piece
      → slice_get (places_of_sticks plan masters) i ≡ Some p → Shows plan masters p.box_no a → IsPieceTold i piece p a
  told i piece p a h there shown =
      let x = piece_is i piece h in
      let both : Some (place x.k x.part) ≡ Some p = sym x.there ∙ there in
      let e : place x.k x.part ≡ p = cc in
      let own : Shows plan masters p.box_no (Drawn_no x.k) =
      subst (λ (z : Place). Shows plan masters z.box_no (Drawn_no x.k)) e x.shown in
      let same : Drawn_no x.k ≡ a = one_item plan masters p.box_no (Drawn_no x.k) a own shown in
      let here : IsPieceTold i piece (place x.k x.part) (Drawn_no x.k) =
      record { spot = ap (λ (z : Placed). spot_no instances z.own.instance) (sym x.is); net = sym x.net } in
      subst (λ (z : InstanceItem). IsPieceTold i piece p z) same
      (subst (λ (z : Place). IsPieceTold i piece z (Drawn_no x.k)) e here)

  pub one_of_pieces : (i j : ℕ) (x y : Placed) → slice_get pieces i ≡ Some x → slice_get pieces j ≡ Some y
      → AreOfOne (nets_no nets) plan masters i j
      → IsOneNet (ports_of_masters masters) (nets_no nets) (grids_of plan) (spot_no instances x.own.instance)
      x.own.net (spot_no instances y.own.instance) y.own.net
  one_of_pieces i j x y h k one =
      let a = told i x one.p one.a h one.first one.shows_first in
      let b = told j y one.q one.b k one.second one.shows_second in
      ends one.a.spot (spot_no instances x.own.instance) one.b.spot (spot_no instances y.own.instance)
      (net_of_part (nets_no nets) plan masters one.a one.p.part) x.own.net
      (net_of_part (nets_no nets) plan masters one.b one.q.part) y.own.net a.spot a.net b.spot b.net one.one

  pub pieces_of_one : (i j : ℕ) (x y : Placed) → slice_get pieces i ≡ Some x → slice_get pieces j ≡ Some y
      → IsOneNet (ports_of_masters masters) (nets_no nets) (grids_of plan) (spot_no instances x.own.instance)
      x.own.net (spot_no instances y.own.instance) y.own.net → AreOfOne (nets_no nets) plan masters i j
  pieces_of_one i j x y h k one =
      let a = piece_is i x h in
      let b = piece_is j y k in
      let p : Place = place a.k a.part in
      let q : Place = place b.k b.part in
      let s = told i x p (Drawn_no a.k) h a.there a.shown in
      let t = told j y q (Drawn_no b.k) k b.there b.shown in
      record {
        p = p;
        q = q;
        a = Drawn_no a.k;
        b = Drawn_no b.k;
        first = a.there;
        second = b.there;
        shows_first = a.shown;
        shows_second = b.shown;
        one = ends (spot_no instances x.own.instance) (Drawn_no a.k).spot (spot_no instances y.own.instance)
            (Drawn_no b.k).spot x.own.net (net_of_part (nets_no nets) plan masters (Drawn_no a.k) a.part) y.own.net
            (net_of_part (nets_no nets) plan masters (Drawn_no b.k) b.part) (sym s.spot) (sym s.net) (sym t.spot)
            (sym t.net) one;
      }
