-- Poly and diffusion that overlap and are no buried pair are those of one transistor, and cross properly.
use Rattle.std.proofs.{Common.{◌≡◌, ℕ, ℤ, pos, ◌<ℤ◌, Bool, List, sym, ap, ◌∙◌, subst, arith, inl, inr}, lemmas.Int.ints}
use Rattle.lam_geom.specs.declared.boxes.{MaskBox.MaskBox, MaskLayer.TheVariants.{ND, NP, NB}}
use Rattle.rule_table.specs.declared.{technology.Tech.Tech, classes.Class.TheVariants.{P, Dm, G}}
use Rattle.rule_table.specs.Technology.{numbers_of}
use Rattle.sym_items.specs.{declared.items.{Coords.Coords, Item.Item}, Sides.{Sides, sides_of}, Standing.StandsAt}
use Rattle.cell_model.specs.declared.cell.Axis2.{Axis2}
use Rattle.expand.{specs.declared.master.Master.Master, proofs.Among.sound_numbers}
use Rattle.buried_contacts.specs.Contacts.{axis_along, common}
use Rattle.plan_model.specs.{declared.plan.Plan.Plan, Instances.InstancePlace}
use Rattle.crossing_model.specs.Boxes.{area_at}
use Rattle.crossing_model.specs.Crossings.{IsOverlap, IsBuriedPair, IsMeeting, CrossAlong, CrossProperly, AreProper}
use Rattle.instance_laws.proofs.{Gaps.IsDone, MeetingBoxes.{StandsNowhere, KnowsFet, knows, past_overlaps}}
use Rattle.instance_laws.proofs.MeetingPoly.{poly_meets, contacts_are_buried, windows_keep_off}
use Rattle.instance_laws.proofs.NetlistBoxes.{encloses_there, encloses_back, common_sides, is_common, common_box}
use Rattle.instance_laws.proofs.NetlistBoxes.{sides_at, on_item, on_layer_of, box_of, drawn_overlap, boxes_overlap}
use Rattle.instance_laws.proofs.NetlistCross.{channel_shared, channel_inside, cross_overlap, cross_along}
use Rattle.instance_laws.proofs.{NetlistScale.common_in_grains, NetlistShapes.one_number}
use Rattle.instance_laws.specs.{Conductors.{InstanceItem, item_of, sides_of_drawn, gap_of_drawn}, Meetings.at}
use Rattle.instance_laws.specs.Meetings.{IsOfClass, IsOwned, IsTransistorAt, CrossAt, seen, AreOfOneTransistor}
use Rattle.instance_laws.specs.{Meetings.StandAtOne, Shapes.{Shows, sides_in_grains, AreShapes}}

-- boxes number p and d are the poly and the diffusion of one transistor
pub record IsFetPair (plan : Plan) (masters : List Master) (p d : ℕ) : Type 0 where
  pub spot : InstancePlace
  pub k : ℕ
  pub depletion : Bool
  pub gate : Axis2
  pub w : ℤ
  pub l : ℤ
  pub fet : IsTransistorAt plan masters spot k depletion gate w l
  pub poly : ℕ
  pub diffusion : ℕ
  pub is_poly : IsOwned plan masters P k (at spot poly)
  pub is_diffusion : IsOwned plan masters Dm k (at spot diffusion)
  pub shows_poly : Shows plan masters p (at spot poly)
  pub shows_diffusion : Shows plan masters d (at spot diffusion)

pub stands_none : (i : Item) (k : ℕ) → StandsNowhere i → StandsAt i k → ⊥
stands_none i k none (ne, inl e) = ne (sym e ∙ none.0)
stands_none i k none (ne, inr e) = ne (sym e ∙ none.1)

module _ (tech : Tech) (plan : Plan) (masters : List Master) (layouts : List Coords) (boxes : List MaskBox)
    (done : IsDone tech plan masters layouts) (shapes : AreShapes tech plan masters layouts boxes) where
  abbrev Lies : InstanceItem → Sides
  Lies a = sides_of_drawn tech plan masters layouts a

  abbrev pub fet_knows : (p d : ℕ) (pair : IsFetPair plan masters p d)
      → KnowsFet tech plan masters layouts pair.spot pair.k pair.gate pair.w pair.l
  fet_knows p d pair = knows tech plan masters layouts done.planned pair.spot pair.k pair.depletion pair.gate pair.w
      pair.l pair.fet

  -- its boxes cross
  pub pair_cross : (p d : ℕ) (pair : IsFetPair plan masters p d)
      → CrossAt tech pair.w pair.l (seen tech plan masters layouts pair.gate pair.spot pair.poly)
      (seen tech plan masters layouts pair.gate pair.spot pair.diffusion)
      (seen tech plan masters layouts pair.gate pair.spot (fet_knows p d pair).boxes.channel)
  pair_cross p d pair =
      let b = (fet_knows p d pair).boxes in
      let S : ℕ → Sides = seen tech plan masters layouts pair.gate pair.spot in
      let first : b.poly ≡ pair.poly = sym (b.one_poly pair.poly pair.is_poly) in
      let second : b.diffusion ≡ pair.diffusion = sym (b.one_diffusion pair.diffusion pair.is_diffusion) in
      subst (λ (n : ℕ). CrossAt tech pair.w pair.l (S n) (S pair.diffusion) (S b.channel)) first
      (subst (λ (n : ℕ). CrossAt tech pair.w pair.l (S b.poly) (S n) (S b.channel)) second b.cross)

  overlap_is : (p d : ℕ) (a b : InstanceItem) → Shows plan masters p a → Shows plan masters d b
      → IsOfClass plan masters P a → IsOfClass plan masters Dm b → gap_of_drawn tech plan masters layouts a b <ℤ pos 0
      → IsOverlap boxes p d
  overlap_is p d a b shows_a shows_b is_a is_b lies = record {
    poly = on_layer_of tech plan masters layouts boxes shapes NP p a shows_a is_a.of_class;
    diffusion = on_layer_of tech plan masters layouts boxes shapes ND d b shows_b is_b.of_class;
    overlap = boxes_overlap tech plan masters layouts boxes shapes p d a b shows_a shows_b lies;
  }

  -- in grains what boxes have in common is what their items have
  pub common_is : (p d : ℕ) (a b : InstanceItem) → Shows plan masters p a → Shows plan masters d b
      → common (sides_of (area_at boxes p)) (sides_of (area_at boxes d))
      ≡ sides_in_grains tech (common (Lies a) (Lies b))
  common_is p d a b shows_a shows_b =
      ap (λ (s : Sides). common s (sides_of (area_at boxes d)))
      (sides_at tech plan masters layouts boxes shapes p a shows_a)
      ∙ (ap (common (sides_in_grains tech (Lies a))) (sides_at tech plan masters layouts boxes shapes d b shows_b)
      ∙ common_in_grains tech (Lies a) (Lies b))

  -- at a buried contact
  pub buried_pair : (p d : ℕ) (a b : InstanceItem) → Shows plan masters p a → Shows plan masters d b
      → IsOfClass plan masters P a → IsOfClass plan masters Dm b → StandAtOne plan masters a b
      → IsBuriedPair tech boxes p d
  buried_pair p d a b shows_a shows_b is_a is_b at_one =
      let contact = contacts_are_buried tech plan masters layouts done a b is_a is_b at_one in
      let over = overlap_is p d a b shows_a shows_b is_a is_b contact.overlap in
      let c = common_box (area_at boxes p) (area_at boxes d) over.overlap in
      let window = box_of tech plan masters layouts boxes shapes NB contact.window contact.is_window in
      record {
        has_buried = contact.has_buried;
        overlap = over;
        shared = c.0;
        common = is_common (area_at boxes p) (area_at boxes d) c.0 c.1;
        window = window.0;
        is_window = window.2;
        covered = encloses_there tech (area_at boxes window.0) c.0 (Lies contact.window) (common (Lies a) (Lies b))
            (numbers_of tech).extension_buried
            (sides_at tech plan masters layouts boxes shapes window.0 contact.window window.1)
            (c.1 ∙ common_is p d a b shows_a shows_b) contact.covered;
      }

  -- items of one transistor
  pub fet_pair : (p d : ℕ) (a b : InstanceItem) → Shows plan masters p a → Shows plan masters d b
      → IsOfClass plan masters P a → IsOfClass plan masters Dm b → AreOfOneTransistor plan masters a b
      → IsFetPair plan masters p d
  fet_pair p d a b shows_a shows_b is_a is_b one =
      let Q : InstancePlace → Type 0 = λ s. IsOwned plan masters Dm one.k (at s b.item)
      × Shows plan masters d (at s b.item) in
      let there : Q b.spot = (record { drawn = is_b.drawn; of_class = is_b.of_class; owned = one.second }, shows_b) in
      let here : Q a.spot = subst Q (sym one.spot) there in
      record {
        spot = a.spot;
        k = one.k;
        depletion = one.depletion;
        gate = one.gate;
        w = one.w;
        l = one.l;
        fet = one.transistor;
        poly = a.item;
        diffusion = b.item;
        is_poly = record { drawn = is_a.drawn; of_class = is_a.of_class; owned = one.first };
        is_diffusion = here.0;
        shows_poly = shows_a;
        shows_diffusion = here.1;
      }

  -- of a meeting: the boxes of one transistor
  pub meeting_fet : (p d : ℕ) → IsMeeting tech boxes p d → IsFetPair plan masters p d
  meeting_fet p d h =
      let first = on_item tech plan masters layouts boxes shapes NP p h.overlap.poly in
      let second = on_item tech plan masters layouts boxes shapes ND d h.overlap.diffusion in
      let a : InstanceItem = first.0 in
      let b : InstanceItem = second.0 in
      let lies = drawn_overlap tech plan masters layouts boxes shapes p d a b first.1 second.1 h.overlap.overlap in
      elim (poly_meets tech plan masters layouts done a b first.2 second.2 lies) [
        | inl one ↦ fet_pair p d a b first.1 second.1 first.2 second.2 one
        | inr at_one ↦ absurd (h.unburied (buried_pair p d a b first.1 second.1 first.2 second.2 at_one))
      ]

  abbrev poly_of : (p d : ℕ) (pair : IsFetPair plan masters p d) → IsOfClass plan masters P (at pair.spot pair.poly)
  poly_of p d pair = record { drawn = pair.is_poly.drawn; of_class = pair.is_poly.of_class }

  abbrev diffusion_of : (p d : ℕ) (pair : IsFetPair plan masters p d)
      → IsOfClass plan masters Dm (at pair.spot pair.diffusion)
  diffusion_of p d pair = record { drawn = pair.is_diffusion.drawn; of_class = pair.is_diffusion.of_class }

  -- the channel in grains
  pub channel_is : (p d : ℕ) (pair : IsFetPair plan masters p d)
      → common (sides_of (area_at boxes p)) (sides_of (area_at boxes d))
      ≡ sides_in_grains tech (Lies (at pair.spot (fet_knows p d pair).boxes.channel))
  channel_is p d pair =
      let a : InstanceItem = at pair.spot pair.poly in
      let b : InstanceItem = at pair.spot pair.diffusion in
      let e = channel_shared tech pair.gate pair.w pair.l (Lies a) (Lies b)
      (Lies (at pair.spot (fet_knows p d pair).boxes.channel)) (pair_cross p d pair) in
      common_is p d a b pair.shows_poly pair.shows_diffusion ∙ ap (sides_in_grains tech) (sym e)

  -- no window covers a channel
  fet_unburied : (p d : ℕ) (pair : IsFetPair plan masters p d) → IsBuriedPair tech boxes p d → ⊥
  fet_unburied p d pair h =
      let know = fet_knows p d pair in
      let b = know.boxes in
      let channel : InstanceItem = at pair.spot b.channel in
      let window = on_item tech plan masters layouts boxes shapes NB h.window h.is_window in
      let is_g : IsOfClass plan masters G channel =
      record { drawn = b.is_channel.drawn; of_class = b.is_channel.of_class } in
      let shared_is = common_sides (area_at boxes p) (area_at boxes d) h.shared h.common ∙ channel_is p d pair in
      let past = encloses_back tech (area_at boxes h.window) h.shared (Lies window.0) (Lies channel)
      (numbers_of tech).extension_buried
      (sides_at tech plan masters layouts boxes shapes h.window window.0 window.1) shared_is h.covered in
      let inside = channel_inside tech pair.gate pair.w pair.l (Lies (at pair.spot pair.poly))
      (Lies (at pair.spot pair.diffusion)) (Lies channel) (pair_cross p d pair) know.wide know.long in
      let over = past_overlaps (Lies window.0) (Lies channel) (numbers_of tech).extension_buried
      (sound_numbers tech).in_range.extension_buried.0 past inside.0 inside.1 in
      let off = windows_keep_off tech plan masters layouts done window.0 channel h.has_buried window.2 is_g in
      omega (arith, ints, over, off)

  pub fet_meeting : (p d : ℕ) → IsFetPair plan masters p d → IsMeeting tech boxes p d
  fet_meeting p d pair =
      let know = fet_knows p d pair in
      let a : InstanceItem = at pair.spot pair.poly in
      let b : InstanceItem = at pair.spot pair.diffusion in
      let lies = cross_overlap tech pair.gate pair.w pair.l (Lies a) (Lies b) (Lies (at pair.spot know.boxes.channel))
      (pair_cross p d pair) know.wide know.long in
      record {
        overlap = overlap_is p d a b pair.shows_poly pair.shows_diffusion (poly_of p d pair) (diffusion_of p d pair)
            lies;
        unburied = fet_unburied p d pair;
      }

  -- ---- neither overlaps a further box

  poly_alone : (p d : ℕ) (pair : IsFetPair plan masters p d) (e : ℕ) → IsOverlap boxes p e → e ≡ d
  poly_alone p d pair e h =
      let know = fet_knows p d pair in
      let a : InstanceItem = at pair.spot pair.poly in
      let second = on_item tech plan masters layouts boxes shapes ND e h.diffusion in
      let b : InstanceItem = second.0 in
      let lies = drawn_overlap tech plan masters layouts boxes shapes p e a b pair.shows_poly second.1 h.overlap in
      elim (poly_meets tech plan masters layouts done a b (poly_of p d pair) second.2 lies) [
        | inl one ↦
            let own : (item_of plan masters b).owner ≡ pair.k = one.second ∙ (sym one.first ∙ pair.is_poly.owned) in
            let Q : InstancePlace → Type 0 = λ s. IsOwned plan masters Dm pair.k (at s b.item)
            × Shows plan masters e (at s b.item) in
            let there : Q b.spot =
            (record { drawn = second.2.drawn; of_class = second.2.of_class; owned = own }, second.1) in
            let here : Q pair.spot = subst Q (sym one.spot) there in
            let same : b.item ≡ pair.diffusion = know.boxes.one_diffusion b.item here.0
            ∙ sym (know.boxes.one_diffusion pair.diffusion pair.is_diffusion) in
            one_number plan masters e d (at pair.spot pair.diffusion)
            (subst (λ (n : ℕ). Shows plan masters e (at pair.spot n)) same here.1) pair.shows_diffusion
        | inr at_one ↦
            absurd (stands_none (item_of plan masters a) at_one.together.0
            (know.nowhere pair.poly pair.is_poly.drawn.among pair.is_poly.owned) at_one.together.1)
      ]

  diffusion_alone : (p d : ℕ) (pair : IsFetPair plan masters p d) (q : ℕ) → IsOverlap boxes q d → q ≡ p
  diffusion_alone p d pair q h =
      let know = fet_knows p d pair in
      let b : InstanceItem = at pair.spot pair.diffusion in
      let first = on_item tech plan masters layouts boxes shapes NP q h.poly in
      let a : InstanceItem = first.0 in
      let lies = drawn_overlap tech plan masters layouts boxes shapes q d a b first.1 pair.shows_diffusion h.overlap in
      elim (poly_meets tech plan masters layouts done a b first.2 (diffusion_of p d pair) lies) [
        | inl one ↦
            let own : (item_of plan masters a).owner ≡ pair.k = one.first
            ∙ (sym one.second ∙ pair.is_diffusion.owned) in
            let Q : InstancePlace → Type 0 = λ s. IsOwned plan masters P pair.k (at s a.item)
            × Shows plan masters q (at s a.item) in
            let there : Q a.spot =
            (record { drawn = first.2.drawn; of_class = first.2.of_class; owned = own }, first.1) in
            let here : Q pair.spot = subst Q one.spot there in
            let same : a.item ≡ pair.poly = know.boxes.one_poly a.item here.0
            ∙ sym (know.boxes.one_poly pair.poly pair.is_poly) in
            one_number plan masters q p (at pair.spot pair.poly)
            (subst (λ (n : ℕ). Shows plan masters q (at pair.spot n)) same here.1) pair.shows_poly
        | inr at_one ↦
            absurd (stands_none (item_of plan masters b) at_one.together.0
            (know.nowhere pair.diffusion pair.is_diffusion.drawn.among pair.is_diffusion.owned) at_one.together.2)
      ]

  pub pair_along : (p d : ℕ) (pair : IsFetPair plan masters p d)
      → CrossAlong tech (axis_along pair.gate) (area_at boxes p) (area_at boxes d)
  pair_along p d pair =
      let a : InstanceItem = at pair.spot pair.poly in
      let b : InstanceItem = at pair.spot pair.diffusion in
      cross_along tech pair.gate pair.w pair.l (Lies a) (Lies b)
      (seen tech plan masters layouts pair.gate pair.spot (fet_knows p d pair).boxes.channel) (area_at boxes p)
      (area_at boxes d) (pair_cross p d pair)
      (sides_at tech plan masters layouts boxes shapes p a pair.shows_poly)
      (sides_at tech plan masters layouts boxes shapes d b pair.shows_diffusion)

  pub pair_crosses : (p d : ℕ) → IsFetPair plan masters p d → CrossProperly tech boxes p d
  pair_crosses p d pair =
      record {
        axis = axis_along pair.gate;
        along = pair_along p d pair;
        poly_alone = poly_alone p d pair;
        diffusion_alone = diffusion_alone p d pair;
      }

  pub are_proper : AreProper tech boxes
  are_proper p d h = pair_crosses p d (meeting_fet p d h)
