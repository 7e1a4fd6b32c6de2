-- Pieces of boxes that show the instances are linked exactly where their conductors are.
use Rattle.std.proofs.{Common.{◌≡◌, ℕ, List, Some, refl, sym, ap, ◌∙◌, subst, inl, inr}, lemmas.Bool.cases_Bool}
use Rattle.std.specs.Option.{unwrap_or}
use Rattle.lam_geom.specs.declared.boxes.{MaskBox.MaskBox, MaskLayer.{MaskLayer, TheVariants.{ND, NP, NC}}}
use Rattle.rule_table.specs.declared.{technology.Tech.Tech, classes.Class.{Class, TheVariants.{M, P, Dc, Dm, C, I, G}}}
use Rattle.rule_table.specs.declared.classes.Class.TheVariants.{B}
use Rattle.sym_items.specs.{declared.items.Coords.Coords, Sides.Sides}
use Rattle.expand.specs.declared.master.Master.{Master}
use Rattle.plan_model.specs.{declared.plan.Plan.Plan, Instances.InstancePlace}
use Rattle.mask_out.specs.Masks.{layer_drawn}
use Rattle.crossing_model.specs.{declared.crossing.Crossing.Crossing, Boxes.{area_at, layer_at}, Crossings.IsBuriedPair}
use Rattle.net_model.specs.Extraction as extraction
use Rattle.box_pieces.specs.Places.{Place}
use Rattle.instance_laws.proofs.{Gaps.IsDone, MeetingBoxes.knows, MeetingOwners.{owners_have_poly, owners_have_metal}}
use Rattle.instance_laws.proofs.{MeetingPoly.poly_meets, NetlistBoxes.{overlaps_there, overlaps_back, touches_there}}
use Rattle.instance_laws.proofs.NetlistBoxes.{touches_back, sides_at, class_shown, on_item, box_of, drawn_overlap}
use Rattle.instance_laws.proofs.{NetlistMeetings.{buried_pair, fet_pair, fet_meeting}, NetlistPieces.conducting}
use Rattle.instance_laws.proofs.{NetlistPieces.{IsPiece, one_piece_at}, NetlistPlaces.fet_item}
use Rattle.instance_laws.proofs.NetlistShapes.{class_of_layer, class_back, shown, one_number, one_item}
use Rattle.instance_laws.specs.Conductors.{InstanceItem, item_of, sides_of_drawn, Conducts, AreOfOneBox}
use Rattle.instance_laws.specs.Conductors.{AreAtOneContact, AreLinked, by_touch, by_cut, by_contact, by_contact_back}
use Rattle.instance_laws.specs.{Meetings.{at, IsOfClass, IsOwned, OwnersHaveOne, StandAtOne}, Shapes.{Shows, layer_of}}
use Rattle.instance_laws.specs.{Shapes.AreShapes, Sticks.{is_of_transistor, AreTransistors}}

-- the class of the boxes that are conductors of a class
abbrev pub mask_class : Class → Class
mask_class Dc = Dm
mask_class c = c

mask_back : (c : Class) (layer : MaskLayer) → layer_drawn c ≡ Some layer → c ≡ mask_class (conducting c)
mask_back M layer e = refl
mask_back P layer e = refl
mask_back Dm layer e = refl
mask_back C layer e = refl
mask_back I layer e = refl
mask_back B layer e = refl
mask_back Dc layer e = absurd cc
mask_back G layer e = absurd cc

module _ (tech : Tech) (plan : Plan) (masters : List Master) (layouts : List Coords) (boxes : List MaskBox)
    (done : IsDone tech plan masters layouts) (shapes : AreShapes tech plan masters layouts boxes)
    (cs : List Crossing) (are : AreTransistors tech plan masters layouts cs) where
  abbrev Lies : InstanceItem → Sides
  Lies a = sides_of_drawn tech plan masters layouts a

  abbrev Piece : Place → InstanceItem → InstanceItem → Type 0
  Piece p a c = IsPiece tech plan masters layouts boxes cs p a c

  -- ---- one box of each owner and layer

  masks_one : OwnersHaveOne plan masters Dm
  masks_one spot k m n h g =
      let a : InstanceItem = at spot m in
      let is_a : IsOfClass plan masters Dm a = record { drawn = h.drawn; of_class = h.of_class } in
      let own : IsOwned plan masters Dm (item_of plan masters a).owner a =
      record { drawn = h.drawn; of_class = h.of_class; owned = refl } in
      let other : IsOwned plan masters Dm (item_of plan masters a).owner (at spot n) =
      record { drawn = g.drawn; of_class = g.of_class; owned = g.owned ∙ sym h.owned } in
      elim (cases_Bool (is_of_transistor plan masters a)) [
        | inl on ↦
            let f = fet_item plan masters a h.drawn on in
            let b = (knows tech plan masters layouts done.planned spot (item_of plan masters a).owner f.depletion
            f.gate f.w f.l f.fet).boxes in
            b.one_diffusion m own ∙ sym (b.one_diffusion n other)
        | inr off ↦
            sym ((one_piece_at tech plan masters layouts boxes done shapes cs are a is_a off).0.one_mask n other)
      ]

  owners_have : (class : Class) → Conducts class → OwnersHaveOne plan masters (mask_class class)
  owners_have M conducts = owners_have_metal tech plan masters done.planned
  owners_have P conducts = owners_have_poly tech plan masters done.planned
  owners_have Dc conducts = masks_one
  owners_have _ conducts = absurd conducts

  class_of_box : (p : Place) (a c : InstanceItem) → Piece p a c
      → (item_of plan masters a).class ≡ mask_class (item_of plan masters c).class
  class_of_box p a c x = mask_back (item_of plan masters a).class (layer_of plan masters a)
      (shown plan masters p.box_no a x.shows).layer ∙ ap mask_class x.class

  -- pieces of one box
  pub same_box : (p q : Place) (a b c d : InstanceItem) → Piece p a c → Piece q b d → AreOfOneBox plan masters c d
      → p.box_no ≡ q.box_no
  same_box p q a b c d x y one =
      let class : Class = mask_class (item_of plan masters c).class in
      let owner : ℕ = (item_of plan masters c).owner in
      let spot : a.spot ≡ b.spot = x.spot ∙ (one.spot ∙ sym y.spot) in
      let first : IsOwned plan masters class owner (at a.spot a.item) =
      record {
        drawn = (shown plan masters p.box_no a x.shows).drawn;
        of_class = class_of_box p a c x;
        owned = x.owner;
      } in
      let Q : InstancePlace → Type 0 = λ s. IsOwned plan masters class owner (at s b.item)
      × Shows plan masters q.box_no (at s b.item) in
      let there : Q b.spot = (
        record {
          drawn = (shown plan masters q.box_no b y.shows).drawn;
          of_class = class_of_box q b d y
              ∙ ap mask_class (sym one.class);
          owned = y.owner ∙ sym one.owner;
        },
        y.shows,
      ) in
      let here : Q a.spot = subst Q (sym spot) there in
      let same : b.item ≡ a.item = owners_have (item_of plan masters c).class x.conductor.conducts a.spot owner b.item
      a.item here.0 first in
      one_number plan masters p.box_no q.box_no a x.shows
      (subst (λ (n : ℕ). Shows plan masters q.box_no (at a.spot n)) same here.1)

  of_one_box : (p q : Place) (a b c d : InstanceItem) → Piece p a c → Piece q b d → p.box_no ≡ q.box_no
      → AreOfOneBox plan masters c d
  of_one_box p q a b c d x y e =
      let there : Shows plan masters q.box_no a = subst (λ (n : ℕ). Shows plan masters n a) e x.shows in
      let same : a ≡ b = one_item plan masters q.box_no a b there y.shows in
      record {
        spot = sym x.spot ∙ (ap (λ (z : InstanceItem). z.spot) same ∙ y.spot);
        owner = sym x.owner ∙ (ap (λ (z : InstanceItem). (item_of plan masters z).owner) same ∙ y.owner);
        class = sym x.class ∙ (ap (λ (z : InstanceItem). conducting (item_of plan masters z).class) same ∙ y.class);
      }

  -- ---- layers

  same_class : (p q : Place) (a b c d : InstanceItem) → Piece p a c → Piece q b d
      → layer_at boxes p.box_no ≡ layer_at boxes q.box_no
      → (item_of plan masters c).class ≡ (item_of plan masters d).class
  same_class p q a b c d x y e =
      let layers : layer_of plan masters a ≡ layer_of plan masters b = sym (shapes.each p.box_no a x.shows).layer
      ∙ (e ∙ (shapes.each q.box_no b y.shows).layer) in
      let first = class_back (item_of plan masters a).class (layer_of plan masters a)
      (shown plan masters p.box_no a x.shows).layer in
      let second = class_back (item_of plan masters b).class (layer_of plan masters b)
      (shown plan masters q.box_no b y.shows).layer in
      sym x.class ∙ (ap conducting (first ∙ (ap class_of_layer layers ∙ sym second)) ∙ y.class)

  same_layer : (p q : Place) (a b c d : InstanceItem) → Piece p a c → Piece q b d
      → (item_of plan masters c).class ≡ (item_of plan masters d).class
      → layer_at boxes p.box_no ≡ layer_at boxes q.box_no
  same_layer p q a b c d x y e =
      let classes : (item_of plan masters a).class ≡ (item_of plan masters b).class = class_of_box p a c x
      ∙ (ap mask_class e ∙ sym (class_of_box q b d y)) in
      (shapes.each p.box_no a x.shows).layer
      ∙ (ap (λ (k : Class). unwrap_or (layer_drawn k) ND) classes ∙ sym (shapes.each q.box_no b y.shows).layer)

  -- ---- buried contacts

  at_contact : (p q : Place) (a b c d : InstanceItem) → Piece p a c → Piece q b d
      → IsBuriedPair tech boxes p.box_no q.box_no → AreAtOneContact plan masters c d
  at_contact p q a b c d x y h =
      let is_a = class_shown tech plan masters layouts boxes shapes p.box_no a NP x.shows h.overlap.poly.on in
      let is_b = class_shown tech plan masters layouts boxes shapes q.box_no b ND y.shows h.overlap.diffusion.on in
      let lies = drawn_overlap tech plan masters layouts boxes shapes p.box_no q.box_no a b x.shows y.shows
      h.overlap.overlap in
      elim (poly_meets tech plan masters layouts done a b is_a is_b lies) [
        | inl one ↦
            let pair = fet_pair tech plan masters layouts boxes done shapes p.box_no q.box_no a b x.shows y.shows is_a
            is_b one in
            absurd ((fet_meeting tech plan masters layouts boxes done shapes p.box_no q.box_no pair).unburied h)
        | inr at_one ↦ record {
          spot = sym x.spot ∙ (at_one.spot ∙ y.spot);
          poly = sym x.class ∙ ap conducting is_a.of_class;
          diffusion = sym y.class ∙ ap conducting is_b.of_class;
          together = (
            at_one.together.0,
            x.stands at_one.together.0 at_one.together.1,
            y.stands at_one.together.0
                at_one.together.2,
          );
        }
      ]

  pair_there : (p q : Place) (a b c d : InstanceItem) → Piece p a c → Piece q b d → AreAtOneContact plan masters c d
      → IsBuriedPair tech boxes p.box_no q.box_no
  pair_there p q a b c d x y h =
      let is_a : IsOfClass plan masters P a =
      record {
        drawn = (shown plan masters p.box_no a x.shows).drawn;
        of_class = class_of_box p a c x
            ∙ ap mask_class h.poly;
      } in
      let is_b : IsOfClass plan masters Dm b =
      record {
        drawn = (shown plan masters q.box_no b y.shows).drawn;
        of_class = class_of_box q b d y
            ∙ ap mask_class h.diffusion;
      } in
      let at_one : StandAtOne plan masters a b = record {
        spot = x.spot ∙ (h.spot ∙ sym y.spot);
        together = (h.together.0, x.stands_back h.together.0 h.together.1, y.stands_back h.together.0 h.together.2);
      } in
      buried_pair tech plan masters layouts boxes done shapes p.box_no q.box_no a b x.shows y.shows is_a is_b at_one

  -- ---- links

  pub link_of_pieces : (p q : Place) (a b c d : InstanceItem) → Piece p a c → Piece q b d
      → extraction.AreLinked tech boxes cs p q → AreLinked tech plan masters layouts c d
  link_of_pieces p q a b c d x y (extraction.by_touch s t ne layers area_s area_t touch) =
      by_touch (λ one. ne (same_box p q a b c d x y one)) (same_class p q a b c d x y layers)
      (touches_back tech s t (Lies c) (Lies d) (x.areas_lie s area_s) (y.areas_lie t area_t) touch)
  link_of_pieces p q a b c d x y (extraction.by_cut s t cut ne on area_s area_t over_s over_t) =
      let z = on_item tech plan masters layouts boxes shapes NC cut on in
      let there = sides_at tech plan masters layouts boxes shapes cut z.0 z.1 in
      by_cut z.0 (λ one. ne (same_box p q a b c d x y one)) z.2.drawn z.2.of_class
      (overlaps_back tech s (area_at boxes cut) (Lies c) (Lies z.0) (x.areas_lie s area_s) there over_s)
      (overlaps_back tech t (area_at boxes cut) (Lies d) (Lies z.0) (y.areas_lie t area_t) there over_t)
  link_of_pieces p q a b c d x y (extraction.by_contact h) = by_contact (at_contact p q a b c d x y h)
  link_of_pieces p q a b c d x y (extraction.by_contact_back h) = by_contact_back (at_contact q p b a d c y x h)

  pub pieces_of_link : (p q : Place) (a b c d : InstanceItem) → Piece p a c → Piece q b d
      → AreLinked tech plan masters layouts c d → extraction.AreLinked tech boxes cs p q
  pieces_of_link p q a b c d x y (by_touch apart same touch) =
      extraction.by_touch x.area y.area (λ e. apart (of_one_box p q a b c d x y e)) (same_layer p q a b c d x y same)
      x.is_area y.is_area
      (touches_there tech x.area y.area (Lies c) (Lies d) (x.areas_lie x.area x.is_area)
      (y.areas_lie y.area y.is_area) touch)
  pieces_of_link p q a b c d x y (by_cut z apart drawn of_class lies_c lies_d) =
      let n = box_of tech plan masters layouts boxes shapes NC z (record { drawn = drawn; of_class = of_class }) in
      let there = sides_at tech plan masters layouts boxes shapes n.0 z n.1 in
      extraction.by_cut x.area y.area n.0 (λ e. apart (of_one_box p q a b c d x y e)) n.2 x.is_area y.is_area
      (overlaps_there tech x.area (area_at boxes n.0) (Lies c) (Lies z) (x.areas_lie x.area x.is_area) there lies_c)
      (overlaps_there tech y.area (area_at boxes n.0) (Lies d) (Lies z) (y.areas_lie y.area y.is_area) there
      lies_d)
  pieces_of_link p q a b c d x y (by_contact h) = extraction.by_contact (pair_there p q a b c d x y h)
  pieces_of_link p q a b c d x y (by_contact_back h) = extraction.by_contact_back (pair_there q p b a d c y x h)
