-- The crossings of boxes that show the instances are their transistors.
use Rattle.std.proofs.Common.{◌≡◌, ℕ, ℤ, Bool, true, false, List, refl, sym, ap, ◌∙◌, subst}
use Rattle.std.{proofs.lemmas.List.Elements.{All-weaker, All-contains}, specs.Prelude.IsTrue}
use Rattle.lam_geom.specs.declared.boxes.{Axis.Axis, BoxXY.BoxXY, MaskBox.MaskBox, MaskLayer.TheVariants.{ND, NP, NI}}
use Rattle.rule_table.specs.{declared.{technology.Tech.Tech, classes.Class.TheVariants.G}, Technology.numbers_of}
use Rattle.cell_model.specs.declared.cell.Axis2.{Axis2}
use Rattle.sym_items.specs.{declared.items.Coords.Coords, Sides.{Sides, sides_of}}
use Rattle.expand.specs.declared.master.Master.{Master}
use Rattle.buried_contacts.specs.Contacts.{axis_along, common}
use Rattle.plan_model.specs.{declared.plan.Plan.Plan, Instances.InstancePlace}
use Rattle.crossing_model.specs.{declared.crossing.Crossing.Crossing, Boxes.{area_at, extent, other}}
use Rattle.crossing_model.specs.Crossings.{CrossAlong, IsOverlap, IsImplanted, IsCrossing, AreCrossings}
use Rattle.instance_laws.proofs.{Gaps.IsDone, MeetingBoxes.{knows, implants_tell}, NetlistBoxes.encloses_there}
use Rattle.instance_laws.proofs.NetlistBoxes.{encloses_back, common_sides, is_common, sides_at, on_item, box_of}
use Rattle.instance_laws.proofs.{NetlistCross.{channel_extents, one_axis}, NetlistMeetings.{IsFetPair, pair_cross}}
use Rattle.instance_laws.proofs.NetlistMeetings.{channel_is, meeting_fet, fet_meeting, pair_along, are_proper}
use Rattle.instance_laws.{proofs.NetlistShapes.one_number, specs.Conductors.{InstanceItem, sides_of_drawn}}
use Rattle.instance_laws.specs.{Meetings.{at, IsOwned, IsTransistorAt}, Shapes.{Shows, sides_in_grains, AreShapes}}
use Rattle.instance_laws.specs.Sticks.{IsTransistor, IsOfNode, AreTransistors}

pub same_truth : (a b : Bool) → (a ≡ true → b ≡ true) → (b ≡ true → a ≡ true) → a ≡ b
same_truth true true h k = refl
same_truth true false h k = sym (h refl)
same_truth false true h k = k refl
same_truth false false h k = refl

module _ (tech : Tech) (plan : Plan) (masters : List Master) (layouts : List Coords) (boxes : List MaskBox)
    (done : IsDone tech plan masters layouts) (shapes : AreShapes tech plan masters layouts boxes) where
  abbrev Lies : InstanceItem → Sides
  Lies a = sides_of_drawn tech plan masters layouts a

  -- the poly and the diffusion of a transistor
  abbrev pub pair_of : (c : Crossing) → IsTransistor tech plan masters layouts c
      → IsFetPair plan masters c.poly c.diffusion
  pair_of c t = record {
    spot = t.spot;
    k = t.k;
    depletion = t.depletion;
    gate = t.gate;
    w = t.w;
    l = t.l;
    fet = t.transistor;
    poly = t.poly;
    diffusion = t.diffusion;
    is_poly = t.is_poly;
    is_diffusion = t.is_diffusion;
    shows_poly = t.shows_poly;
    shows_diffusion = t.shows_diffusion;
  }

  -- ---- implants

  implant_there : (spot : InstancePlace) (k : ℕ) (depletion : Bool) (gate : Axis2) (w l : ℤ)
      → IsTransistorAt plan masters spot k depletion gate w l → (channel : ℕ)
      → IsOwned plan masters G k (at spot channel)
      → (b : BoxXY) → sides_of b ≡ sides_in_grains tech (Lies (at spot channel)) → IsTrue depletion
      → IsImplanted tech boxes b
  implant_there spot k depletion gate w l fet channel h b e depleted =
      let found = (implants_tell tech plan masters layouts done spot k depletion gate w l fet channel h).0 depleted in
      let n = box_of tech plan masters layouts boxes shapes NI found.0 found.1 in
      record {
        implant = n.0;
        is_implant = n.2;
        covered = encloses_there tech (area_at boxes n.0) b (Lies found.0) (Lies (at spot channel))
            (numbers_of tech).extension_implant
            (sides_at tech plan masters layouts boxes shapes n.0 found.0 n.1) e found.2;
      }

  implant_back : (spot : InstancePlace) (k : ℕ) (depletion : Bool) (gate : Axis2) (w l : ℤ)
      → IsTransistorAt plan masters spot k depletion gate w l → (channel : ℕ)
      → IsOwned plan masters G k (at spot channel)
      → (b : BoxXY) → sides_of b ≡ sides_in_grains tech (Lies (at spot channel)) → IsImplanted tech boxes b
      → IsTrue depletion
  implant_back spot k depletion gate w l fet channel h b e i =
      let a = on_item tech plan masters layouts boxes shapes NI i.implant i.is_implant in
      let past = encloses_back tech (area_at boxes i.implant) b (Lies a.0) (Lies (at spot channel))
      (numbers_of tech).extension_implant
      (sides_at tech plan masters layouts boxes shapes i.implant a.0 a.1) e i.covered in
      (implants_tell tech plan masters layouts done spot k depletion gate w l fet channel h).1 (a.0, a.2, past)

  -- ---- one by one

  pub crossing_is : (c : Crossing) → IsCrossing tech boxes c → IsTransistor tech plan masters layouts c
  crossing_is c h =
      let p : ℕ = c.poly in
      let d : ℕ = c.diffusion in
      let pair = meeting_fet tech plan masters layouts boxes done shapes p d h.meeting in
      let know = knows tech plan masters layouts done.planned pair.spot pair.k pair.depletion pair.gate pair.w pair.l
      pair.fet in
      let channel : ℕ = know.boxes.channel in
      let runs : c.axis ≡ axis_along pair.gate =
      one_axis tech c.axis (axis_along pair.gate) (area_at boxes p) (area_at boxes d) h.along
      (pair_along tech plan masters layouts boxes done shapes p d pair) in
      let there : sides_of c.channel ≡ sides_in_grains tech (Lies (at pair.spot channel)) =
      common_sides (area_at boxes p) (area_at boxes d) c.channel h.channel
      ∙ channel_is tech plan masters layouts boxes done shapes p d pair in
      let long = channel_extents tech pair.gate pair.w pair.l (Lies (at pair.spot pair.poly))
      (Lies (at pair.spot pair.diffusion)) (Lies (at pair.spot channel)) c.channel
      (pair_cross tech plan masters layouts boxes done shapes p d pair) there in
      record {
        spot = pair.spot;
        k = pair.k;
        depletion = pair.depletion;
        gate = pair.gate;
        w = pair.w;
        l = pair.l;
        transistor = pair.fet;
        poly = pair.poly;
        diffusion = pair.diffusion;
        channel = channel;
        is_poly = pair.is_poly;
        is_diffusion = pair.is_diffusion;
        is_channel = know.boxes.is_channel;
        shows_poly = pair.shows_poly;
        shows_diffusion = pair.shows_diffusion;
        runs = runs;
        there = there;
        kind = same_truth c.depletion pair.depletion
            (λ t. implant_back pair.spot pair.k pair.depletion pair.gate pair.w pair.l pair.fet channel
            know.boxes.is_channel c.channel there (h.depletion.0 t))
            (λ t. h.depletion.1
            (implant_there pair.spot pair.k pair.depletion pair.gate pair.w pair.l pair.fet channel
            know.boxes.is_channel c.channel there t));
        wide = ap (λ (a : Axis). extent a c.channel) runs ∙ long.0;
        long = ap (λ (a : Axis). extent (other a) c.channel) runs ∙ long.1;
      }

  pub transistor_is : (c : Crossing) → IsTransistor tech plan masters layouts c → IsCrossing tech boxes c
  transistor_is c t =
      let p : ℕ = c.poly in
      let d : ℕ = c.diffusion in
      let pair : IsFetPair plan masters c.poly c.diffusion = pair_of c t in
      let know = knows tech plan masters layouts done.planned t.spot t.k t.depletion t.gate t.w t.l t.transistor in
      let one : t.channel ≡ know.boxes.channel = know.boxes.one_channel t.channel t.is_channel in
      let there : sides_of c.channel ≡ common (sides_of (area_at boxes p)) (sides_of (area_at boxes d)) =
      t.there ∙ (ap (λ (n : ℕ). sides_in_grains tech (Lies (at t.spot n))) one
      ∙ sym (channel_is tech plan masters layouts boxes done shapes p d pair)) in
      record {
        meeting = fet_meeting tech plan masters layouts boxes done shapes p d pair;
        along = subst (λ (a : Axis). CrossAlong tech a (area_at boxes p) (area_at boxes d)) (sym t.runs)
            (pair_along tech plan masters layouts boxes done shapes p d pair);
        channel = is_common (area_at boxes p) (area_at boxes d) c.channel there;
        depletion = (
          λ depleted. implant_there t.spot t.k t.depletion t.gate t.w t.l t.transistor t.channel t.is_channel
              c.channel t.there (sym t.kind ∙ depleted),
          λ implanted. t.kind ∙ implant_back t.spot t.k t.depletion t.gate t.w t.l t.transistor t.channel t.is_channel
              c.channel t.there implanted,
        );
      }

  -- ---- all of them

  pub crossings_are : (cs : List Crossing) → AreCrossings tech boxes cs → AreTransistors tech plan masters layouts cs
  crossings_are cs h = record {
    each = All-weaker (IsCrossing tech boxes) (IsTransistor tech plan masters layouts) crossing_is cs h.each;
    in_order = h.in_order;
    complete = λ spot k depletion gate w l fet. (
        let b = (knows tech plan masters layouts done.planned spot k depletion gate w l fet).boxes in
        let p = box_of tech plan masters layouts boxes shapes NP (at spot b.poly)
        (record { drawn = b.is_poly.drawn; of_class = b.is_poly.of_class }) in
        let d = box_of tech plan masters layouts boxes shapes ND (at spot b.diffusion)
        (record { drawn = b.is_diffusion.drawn; of_class = b.is_diffusion.of_class }) in
        let pair : IsFetPair plan masters p.0 d.0 = record {
          spot = spot;
          k = k;
          depletion = depletion;
          gate = gate;
          w = w;
          l = l;
          fet = fet;
          poly = b.poly;
          diffusion = b.diffusion;
          is_poly = b.is_poly;
          is_diffusion = b.is_diffusion;
          shows_poly = p.1;
          shows_diffusion = d.1;
        } in
        let c = h.complete p.0 d.0 (fet_meeting tech plan masters layouts boxes done shapes p.0 d.0 pair) in
        let node : IsOfNode plan masters spot k c.0 = record {
          diffusion = b.diffusion;
          shown = subst (λ (n : ℕ). Shows plan masters n (at spot b.diffusion)) (sym c.3) d.1;
          owned = b.is_diffusion;
        } in
        (c.0, c.1, node)
        );
  }

  pub transistors_are : (cs : List Crossing) → AreTransistors tech plan masters layouts cs → AreCrossings tech boxes cs
  transistors_are cs h = record {
    each = All-weaker (IsTransistor tech plan masters layouts) (IsCrossing tech boxes) transistor_is cs h.each;
    in_order = h.in_order;
    complete = λ p d meets. (
        let pair = meeting_fet tech plan masters layouts boxes done shapes p d meets in
        let b = (knows tech plan masters layouts done.planned pair.spot pair.k pair.depletion pair.gate pair.w pair.l
        pair.fet).boxes in
        let c = h.complete pair.spot pair.k pair.depletion pair.gate pair.w pair.l pair.fet in
        let node = c.2 in
        let same : node.diffusion ≡ pair.diffusion = b.one_diffusion node.diffusion node.owned
        ∙ sym (b.one_diffusion pair.diffusion pair.is_diffusion) in
        let of_d : c.0.diffusion ≡ d =
        one_number plan masters c.0.diffusion d (at pair.spot pair.diffusion)
        (subst (λ (n : ℕ). Shows plan masters c.0.diffusion (at pair.spot n)) same node.shown)
        pair.shows_diffusion in
        let crosses = transistor_is c.0 (All-contains (IsTransistor tech plan masters layouts) cs c.0 h.each c.1) in
        let over : IsOverlap boxes c.0.poly d =
        subst (λ (n : ℕ). IsOverlap boxes c.0.poly n) of_d crosses.meeting.overlap in
        let of_p = (are_proper tech plan masters layouts boxes done shapes p d meets).diffusion_alone c.0.poly over in
        (c.0, c.1, of_p, of_d)
        );
  }
