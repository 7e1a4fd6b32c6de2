-- Pieces of different boxes, on one layer, keep its spacing where no chain of links joins them.
use Rattle.std.proofs.{Common.{◌≡◌, ℕ, ◌<◌, ℤ, List, Some, sym, ap, ◌∙◌, subst, arith}, lemmas.Option.slice_get_within}
use Rattle.std.specs.Prelude.{slice_get}
use Rattle.lam_geom.specs.declared.boxes.{MaskBox.MaskBox, MaskLayer.MaskLayer}
use Rattle.rule_table.specs.declared.{technology.Tech.Tech, classes.Class.Class}
use Rattle.cell_model.specs.declared.cell.Nets.{Nets}
use Rattle.sym_items.specs.{declared.items.Coords.Coords, Sides.Sides}
use Rattle.expand.specs.declared.master.Master.{Master}
use Rattle.plan_model.specs.{declared.plan.Plan.Plan, GridNets.IsOneNet, Instances.InstancePlace, Plan.grids_of}
use Rattle.pitch_join.specs.Masters.{ports_of_masters}
use Rattle.crossing_model.specs.{declared.crossing.Crossing.Crossing, Boxes.layer_at, Crossings.AreCrossings}
use Rattle.graph_search.specs.Netting.{Reaches}
use Rattle.net_model.specs.Extraction.{IsLink}
use Rattle.box_pieces.specs.Places.{Place, places_of}
use Rattle.rule_breaks.specs.Breaks.{ArePiecesTooNear}
use Rattle.instance_laws.specs.{Rules.AreNetsOf, Conductors.{InstanceItem, item_of, sides_of_drawn, AreOfOneBox}}
use Rattle.instance_laws.specs.{Conductors.AreOfOneNet, Meetings.IsOfClass, Shapes.AreShapes, Sticks.places_of_sticks}
use Rattle.instance_laws.{specs.Sticks.{net_of_part, NetsAreTheSticks}, proofs.{Gaps.IsDone, MeetingGaps.nets_there}}
use Rattle.instance_laws.proofs.{NetlistBoxes.class_shown, NetlistLinks.same_box, NetlistPieces.{conducting, IsPiece}}
use Rattle.instance_laws.proofs.{NetlistPieces.piece_of_part, NetlistPlaces.place_back, NetlistShapes.class_of_layer}
use Rattle.masks_meet_rules.{specs.Items.{spacing_of_class, NetsKeepOff}, proofs.BoxPlain.not_nearer}

module _ (tech : Tech) (plan : Plan) (masters : List Master) (layouts : List Coords) (boxes : List MaskBox)
    (done : IsDone tech plan masters layouts) (shapes : AreShapes tech plan masters layouts boxes)
    (sticks : NetsAreTheSticks tech plan masters layouts boxes) where
  abbrev Lies : InstanceItem → Sides
  Lies a = sides_of_drawn tech plan masters layouts a

  -- the class of the conductors that boxes on a layer are
  abbrev class_on : MaskLayer → Class
  class_on layer = conducting (class_of_layer layer)

  module _ (cs : List Crossing) (crossed : AreCrossings tech boxes cs) where
    -- the conductor that piece number i is, whose box is on a layer, and the item that the box shows
    record IsPieceOn (layer : MaskLayer) (i : ℕ) (p : Place) : Type 0 where
      shape : InstanceItem
      conductor : InstanceItem
      there : slice_get (places_of_sticks plan masters) i ≡ Some p
      piece : IsPiece tech plan masters layouts boxes cs p shape conductor
      of_class : IsOfClass plan masters (class_on layer) conductor

    piece_on : (layer : MaskLayer) (i : ℕ) (p : Place) → slice_get (places_of cs boxes) i ≡ Some p
        → layer_at boxes p.box_no ≡ layer → IsPieceOn layer i p
    piece_on layer i p h on =
        let there : slice_get (places_of_sticks plan masters) i ≡ Some p =
        subst (λ (ps : List Place). slice_get ps i ≡ Some p) (sticks.places cs crossed) h in
        let back = place_back plan masters i p there in
        let a : InstanceItem = back.0 in
        let found = piece_of_part tech plan masters layouts boxes done shapes cs (sticks.transistors cs crossed)
        p.box_no a p.part back.1.shown back.1.part in
        let is_a = class_shown tech plan masters layouts boxes shapes p.box_no a layer back.1.shown on in
        record {
          shape = a;
          conductor = found.0;
          there = there;
          piece = found.1;
          of_class =
              record { drawn = found.1.conductor.drawn; of_class = sym found.1.class ∙ ap conducting is_a.of_class };
        }

    module _ (layer : MaskLayer) (i j : ℕ) (p q : Place) (x : IsPieceOn layer i p) (y : IsPieceOn layer j q) where
      -- pieces of different boxes are conductors of different boxes
      other_boxes : p.box_no < q.box_no → AreOfOneBox plan masters x.conductor y.conductor → ⊥
      other_boxes lt one =
          let same = same_box tech plan masters layouts boxes done shapes cs (sticks.transistors cs crossed) p q
          x.shape y.shape x.conductor y.conductor x.piece y.piece one in
          omega (arith, lt, same)

      -- pieces that no chain joins are conductors of different nets
      other_nets : (nets : ℕ → Nets) → AreNetsOf masters nets → (Reaches (IsLink tech boxes cs) i j → ⊥)
          → AreOfOneNet nets plan masters x.conductor y.conductor → ⊥
      other_nets nets are_nets apart one =
          let a : InstanceItem = x.shape in
          let b : InstanceItem = y.shape in
          let c : InstanceItem = x.conductor in
          let d : InstanceItem = y.conductor in
          let OneNet : InstancePlace → ℕ → InstancePlace → ℕ → Type 0 =
          IsOneNet (ports_of_masters masters) nets (grids_of plan) in
          let first : OneNet a.spot (net_of_part nets plan masters a p.part) d.spot (item_of plan masters d).net =
          subst (λ (s : InstancePlace). OneNet s (net_of_part nets plan masters a p.part) d.spot
          (item_of plan masters d).net) (sym x.piece.spot)
          (subst (λ (n : ℕ). OneNet c.spot n d.spot (item_of plan masters d).net) (sym (x.piece.net nets are_nets))
          one) in
          let both : OneNet a.spot (net_of_part nets plan masters a p.part) b.spot
          (net_of_part nets plan masters b q.part) =
          subst (λ (s : InstancePlace). OneNet a.spot (net_of_part nets plan masters a p.part) s
          (net_of_part nets plan masters b q.part)) (sym y.piece.spot)
          (subst (λ (n : ℕ). OneNet a.spot (net_of_part nets plan masters a p.part) d.spot n)
          (sym (y.piece.net nets are_nets)) first) in
          apart ((sticks.joined cs crossed nets are_nets i j
          (slice_get_within (places_of_sticks plan masters) i p x.there)
          (slice_get_within (places_of_sticks plan masters) j q y.there)).1 (record {
            p = p;
            q = q;
            a = a;
            b = b;
            first = x.there;
            second = y.there;
            shows_first = x.piece.shows;
            shows_second = y.piece.shows;
            one = both;
          }))

  pub pieces_keep_off : NetsKeepOff tech plan masters layouts → (layer : MaskLayer) (spacing : ℤ)
      → spacing_of_class tech (class_on layer) ≡ Some spacing
      → (a b : ℕ) → a < b → ArePiecesTooNear tech boxes layer spacing a b → ⊥
  pieces_keep_off off layer spacing ruled a b lt h =
      let nets = nets_there tech masters done.planned.each in
      let x = piece_on h.crossings h.are_crossings layer h.i h.p h.first
      (ap (layer_at boxes) h.of_first ∙ h.on_first) in
      let y = piece_on h.crossings h.are_crossings layer h.j h.q h.second
      (ap (layer_at boxes) h.of_second ∙ h.on_second) in
      let of_first = h.of_first in
      let of_second = h.of_second in
      let far = off nets.0 nets.1 (class_on layer) spacing ruled x.conductor y.conductor x.of_class y.of_class
      (other_boxes h.crossings h.are_crossings layer h.i h.j h.p h.q x y (omega (arith, lt, of_first, of_second)))
      (other_nets h.crossings h.are_crossings layer h.i h.j h.p h.q x y nets.0 nets.1 h.apart) in
      not_nearer tech h.s h.t (Lies x.conductor) (Lies y.conductor) (x.piece.areas_lie h.s h.covers_first)
      (y.piece.areas_lie h.t h.covers_second) spacing far h.near
