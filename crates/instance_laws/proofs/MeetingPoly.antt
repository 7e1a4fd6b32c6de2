-- Where poly lies over diffusion in all instances, and where windows lie.
use Rattle.std.proofs.Common.{◌≡◌, ℕ, ℤ, pos, ◌+ℤ◌, ◌-ℤ◌, ◌*ℤ◌, ◌≤ℤ◌, ◌<ℤ◌, List, Some, refl, sym, subst, arith, inl}
use Rattle.std.proofs.{Common.{inr, ◌⊎◌}, lemmas.Int.ints}
use Rattle.rule_table.specs.declared.{technology.Tech.Tech, classes.Class.TheVariants.{P, Dm, G, B}}
use Rattle.rule_table.specs.Technology.{numbers_of}
use Rattle.sym_items.specs.{declared.items.Coords.Coords, Sides.{Sides, sides_in, gap_in, gap_of_sides}}
use Rattle.sym_items.specs.{Standing.StandTogether, Values.value_of}
use Rattle.cell_model.specs.{declared.cell.NodeKind.{NodeKind, TheVariants.{Joint, Contact, Buried, Fet}}, Sound.IsKind}
use Rattle.cell_model.specs.Wiring.{buried_pad}
use Rattle.expand.specs.{declared.master.Master.Master, Variables.{half, centre}}
use Rattle.expand.proofs.{Among.buried_size, Cells.node_sound}
use Rattle.buried_contacts.specs.Contacts.{IsTransistor, common, kind_of, pad_at, window_at, square_at}
use Rattle.buried_contacts.proofs.Contacts.{overlap_there, shared, have_windows, windows_off, of_classes, poly_ruled}
use Rattle.buried_contacts.proofs.Contacts.{window_ruled, poly_rule, window_rule}
use Rattle.plan_model.specs.{declared.plan.Plan.Plan, Instances.InstancePlace}
use Rattle.instance_laws.specs.{Rules.{shifted_sides, item_in}, Conductors.{item_of, gap_of_drawn}, Meetings.master_of}
use Rattle.instance_laws.specs.Meetings.{at, IsOfClass, EnclosesBy, AreOfOneTransistor, StandAtOne, PolyMeetsDiffusion}
use Rattle.instance_laws.specs.Meetings.{IsBuriedContact, ContactsAreBuried, WindowsKeepOff}
use Rattle.instance_laws.proofs.{Gaps.IsDone, Meeting.{master_is, spots_differ}, MeetingBlocks.IsTransistorKind}
use Rattle.instance_laws.proofs.MeetingGaps.{layout_of, finished_at, x_of, y_of, gap_inside, common_overlaps}
use Rattle.instance_laws.proofs.MeetingGaps.{common_shifted, encloses_shifted, apart_elsewhere}

-- ---- poly over diffusion

pub fet_of : (kind : NodeKind) → IsTransistor kind → IsTransistorKind kind
fet_of (Joint layer width) h = absurd h
fet_of (Contact lower) h = absurd h
fet_of Buried h = absurd h
fet_of (Fet depletion gate w l) h = record { depletion = depletion; gate = gate; w = w; l = l; is = refl }

-- the pad of a buried contact has an inside, and its window goes past it by the extension
pad_inside : (x y p : ℤ) → pos 1 ≤ℤ p → ((x -ℤ p) <ℤ (x +ℤ p)) × ((y -ℤ p) <ℤ (y +ℤ p))
pad_inside x y p low = (omega (arith, ints, low), omega (arith, ints, low))

window_past : (layout : Coords) (k : ℕ) (p e : ℤ) → EnclosesBy (square_at layout k (p +ℤ e)) (square_at layout k p) e
window_past layout k p e =
    record {
      left = omega (arith, ints);
      right = omega (arith, ints);
      bottom = omega (arith, ints);
      top = omega (arith, ints);
    }

module _ (tech : Tech) (plan : Plan) (masters : List Master) (layouts : List Coords)
    (done : IsDone tech plan masters layouts) where
  -- in one instance
  meet_inside : (spot : InstancePlace) (i j : ℕ) → IsOfClass plan masters P (at spot i)
      → IsOfClass plan masters Dm (at spot j)
      → gap_of_drawn tech plan masters layouts (at spot i) (at spot j) <ℤ pos 0
      → AreOfOneTransistor plan masters (at spot i) (at spot j) ⊎ StandAtOne plan masters (at spot i) (at spot j)
  meet_inside spot i j a b lies =
      let master : Master = master_of plan masters spot in
      let m = master_is tech plan masters spot done.planned a.drawn.spot in
      let layout : Coords = layout_of plan layouts spot in
      let inside : gap_in layout (item_in plan masters spot i) (item_in plan masters spot j) <ℤ pos 0 =
      subst (λ (z : ℤ). z <ℤ pos 0) (gap_inside tech plan masters layouts spot i j) lies in
      elim (overlap_there tech master m layout (finished_at tech plan masters layouts spot done a.drawn.spot) i j
      a.drawn.among b.drawn.among a.of_class b.of_class inside) [
        | inl fet ↦
            let t = fet_of (kind_of master (item_in plan masters spot i).owner) fet.2 in
            inl (record {
              k = (item_in plan masters spot i).owner;
              depletion = t.depletion;
              gate = t.gate;
              w = t.w;
              l = t.l;
              spot = refl;
              transistor = record { there = a.drawn.spot; node = fet.1; kind = t.is };
              first = refl;
              second = sym fet.0;
            })
        | inr together ↦ inr (record { spot = refl; together = together })
      ]

  pub poly_meets : PolyMeetsDiffusion tech plan masters layouts
  poly_meets a b is_a is_b lies = elim (spots_differ a.spot b.spot) [
    | inl same ↦
        let Q : InstancePlace → Type 0 = λ s. IsOfClass plan masters Dm (at s b.item)
        → gap_of_drawn tech plan masters layouts a (at s b.item) <ℤ pos 0
        → AreOfOneTransistor plan masters a (at s b.item) ⊎ StandAtOne plan masters a (at s b.item) in
        subst Q same (λ is lies. meet_inside a.spot a.item b.item is_a is lies) is_b lies
    | inr differ ↦
        let far = apart_elsewhere tech plan masters layouts done a b is_a.drawn is_b.drawn (poly_rule tech)
        (of_classes tech (item_of plan masters a).class (item_of plan masters b).class P Dm (Some (poly_rule tech))
        is_a.of_class is_b.of_class (poly_ruled tech)) refl differ in
        absurd (omega (arith, ints, far, lies))
  ]

  -- ---- at buried contacts

  buried_inside : (spot : InstancePlace) (i j : ℕ) → IsOfClass plan masters P (at spot i)
      → IsOfClass plan masters Dm (at spot j)
      → StandTogether (item_in plan masters spot i) (item_in plan masters spot j)
      → IsBuriedContact tech plan masters layouts (at spot i) (at spot j)
  buried_inside spot i j a b together =
      let master : Master = master_of plan masters spot in
      let m = master_is tech plan masters spot done.planned a.drawn.spot in
      let layout : Coords = layout_of plan layouts spot in
      let k : ℕ = together.0 in
      let one = shared tech master m layout (finished_at tech plan masters layouts spot done a.drawn.spot) k i j
      a.drawn.among b.drawn.among a.of_class b.of_class together.1 together.2 in
      let window = have_windows tech master m layout k one.0 in
      let s : Sides = sides_in layout (item_in plan masters spot i) in
      let t : Sides = sides_in layout (item_in plan masters spot j) in
      let x : ℤ = x_of tech plan layouts spot in
      let y : ℤ = y_of plan layouts spot in
      let p : ℤ = half (buried_pad tech) in
      let low = (buried_size tech).low in
      let even : (pos 2 *ℤ p) ≡ buried_pad tech = (buried_size tech).even in
      let inside = pad_inside (value_of layout.x (centre k)) (value_of layout.y (centre k)) p
      (omega (arith, ints, low, even)) in
      let overlap : gap_of_sides s t <ℤ pos 0 =
      common_overlaps s t (subst (λ (z : Sides). z.left <ℤ z.right) (sym one.1) inside.0)
      (subst (λ (z : Sides). z.bottom <ℤ z.top) (sym one.1) inside.1) in
      let past : EnclosesBy (window_at tech layout k) (pad_at tech layout k) (numbers_of tech).extension_buried =
      window_past layout k p (numbers_of tech).extension_buried in
      let over : EnclosesBy (sides_in layout (item_in plan masters spot window.0)) (common s t)
      (numbers_of tech).extension_buried =
      subst (λ (z : Sides). EnclosesBy z (common s t) (numbers_of tech).extension_buried) (sym window.4)
      (subst (λ (z : Sides). EnclosesBy (window_at tech layout k) z (numbers_of tech).extension_buried)
      (sym one.1) past) in
      record {
        has_buried = subst (IsKind tech) one.0.1 (node_sound tech master.cell k m.sound one.0.0).kind;
        overlap = subst (λ (z : ℤ). z <ℤ pos 0) (sym (gap_inside tech plan masters layouts spot i j)) overlap;
        window = at spot window.0;
        is_window = record { drawn = record { spot = a.drawn.spot; among = window.1 }; of_class = window.3 };
        covered =
            subst (λ (z : Sides).
            EnclosesBy (shifted_sides x y (sides_in layout (item_in plan masters spot window.0))) z
            (numbers_of tech).extension_buried)
            (sym (common_shifted x y s t))
            (encloses_shifted x y (sides_in layout (item_in plan masters spot window.0)) (common s t)
            (numbers_of tech).extension_buried over);
      }

  pub contacts_are_buried : ContactsAreBuried tech plan masters layouts
  contacts_are_buried a b is_a is_b at_one =
      let Q : InstancePlace → Type 0 = λ s. IsOfClass plan masters Dm (at s b.item)
      → StandTogether (item_of plan masters a) (item_in plan masters s b.item)
      → IsBuriedContact tech plan masters layouts a (at s b.item) in
      subst Q at_one.spot (λ is together. buried_inside a.spot a.item b.item is_a is together) is_b at_one.together

  -- ---- windows and channels

  pub windows_keep_off : WindowsKeepOff tech plan masters layouts
  windows_keep_off a b some is_a is_b = elim (spots_differ a.spot b.spot) [
    | inl same ↦
        let Q : InstancePlace → Type 0 = λ s. IsOfClass plan masters G (at s b.item)
        → pos 1 ≤ℤ gap_of_drawn tech plan masters layouts a (at s b.item) in
        subst Q same (λ is. (
        let master : Master = master_of plan masters a.spot in
        let m = master_is tech plan masters a.spot done.planned is_a.drawn.spot in
        let off = windows_off tech master m (layout_of plan layouts a.spot)
        (finished_at tech plan masters layouts a.spot done is_a.drawn.spot) a.item b.item is_a.drawn.among
        is.drawn.among is_a.of_class is.of_class in
        let low = off.0 in
        let far = off.1 in
        let e = gap_inside tech plan masters layouts a.spot a.item b.item in
        omega (arith, ints, low, far, e)
        )) is_b
    | inr differ ↦ apart_elsewhere tech plan masters layouts done a b is_a.drawn is_b.drawn (window_rule tech)
        (of_classes tech (item_of plan masters a).class (item_of plan masters b).class B G (Some (window_rule tech))
        is_a.of_class is_b.of_class (window_ruled tech some)) refl differ
  ]
