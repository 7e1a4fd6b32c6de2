-- The boxes of transistors in all instances, and their implants.
use Rattle.std.proofs.Common.{◌≡◌, ◌≢◌, ℕ, ◌+◌, ◌<◌, ℤ, pos, ◌+ℤ◌, ◌-ℤ◌, ◌*ℤ◌, ◌≤ℤ◌, ◌<ℤ◌, Bool, true, false, List, []}
use Rattle.std.proofs.Common.{◌∷◌, length, Some, refl, sym, ap, ◌∙◌, subst, arith, inl, inr, ◌⊎◌}
use Rattle.std.proofs.lemmas.{Bool.cases_Bool, Int.{ints, clamps}}
use Rattle.std.specs.{Prelude.{IsTrue, neg_ℤ}, Int.{int_max, int_min}, List.AllByRecursion}
use Rattle.rule_table.specs.declared.{technology.Tech.Tech, classes.Class.{Class, TheVariants.{P, Dc, Dm, I, G}}}
use Rattle.rule_table.specs.{declared.classes.Rule.Rule, Bounds.IsSize, Spacing.spacing_in, Technology.numbers_of}
use Rattle.rule_table.specs.Technology.{spacing_of}
use Rattle.sym_items.specs.{declared.items.{Coords.Coords, Item.Item}, Sides.{Sides, sides_in, gap_of_sides}}
use Rattle.sym_items.specs.{Standing.nowhere, Transposed.sides_along, Values.value_of}
use Rattle.cell_model.specs.declared.cell.{Axis2.{Axis2, TheVariants.{Across, Up}}, NodeKind.NodeKind}
use Rattle.cell_model.specs.{declared.cell.{NodeKind.TheVariants.Fet, NodeNets.NodeNets, Nets.Nets}, Sound.IsKind}
use Rattle.cell_nets.proofs.Determined.{nets_same}
use Rattle.list_facts.proofs.Elements.{all_at}
use Rattle.pair_rules.specs.Bound.{no_item, item_at, is_poly_on_diffusion}
use Rattle.expand.specs.{declared.master.Master.Master, Masters.IsMaster, Items.nets_at, NodeItems.item_running}
use Rattle.expand.specs.{NodeItems.{box_at, box_round, kind_items}, Variables.{half, centre}}
use Rattle.expand.proofs.{Among.sound_numbers, Cells.node_sound}
use Rattle.buried_contacts.{specs.Contacts.axis_along, proofs.{Shares.same_sides, Contacts.of_classes}}
use Rattle.plan_model.specs.{declared.plan.Plan.Plan, Instances.{InstancePlace, master_at_spot}, Plan.grids_of}
use Rattle.instance_laws.specs.{Rules.{AreNetsOf, shifted_sides, item_in, items_at}, Planned.AreOfPlan}
use Rattle.instance_laws.specs.{Conductors.{InstanceItem, item_of, sides_of_drawn}, Meetings.{master_of, at, IsOfClass}}
use Rattle.instance_laws.specs.Meetings.{IsOwned, EnclosesBy, IsTransistorAt, CrossAt, below, above, seen, HasBoxes}
use Rattle.instance_laws.{specs.Meetings.{TransistorsHaveBoxes, ImplantsTellDepletion}, proofs.Gaps.IsDone}
use Rattle.instance_laws.proofs.{Meeting.{master_among, master_is}, MeetingRuns.{IsRun, places, IsIn, found}}
use Rattle.instance_laws.proofs.MeetingBlocks.{run_node, owner_running, class_running, only_place}
use Rattle.instance_laws.proofs.MeetingGaps.{layout_of, x_of, y_of, bound_apart}

-- ---- the places of a transistor's items in its block

abbrev pub fet_items : Tech → ℕ → NodeNets → Bool → Axis2 → ℤ → ℤ → List Item
fet_items tech k nets depletion gate w l = kind_items tech k (Fet depletion gate w l) nets

poly_place : (tech : Tech) (k : ℕ) (nets : NodeNets) (depletion : Bool) (gate : Axis2) (w l : ℤ)
    → places P 0 (fet_items tech k nets depletion gate w l) ≡ 0 ∷ []
poly_place tech k nets true Across w l = refl
poly_place tech k nets true Up w l = refl
poly_place tech k nets false Across w l = refl
poly_place tech k nets false Up w l = refl

mask_place : (tech : Tech) (k : ℕ) (nets : NodeNets) (depletion : Bool) (gate : Axis2) (w l : ℤ)
    → places Dm 0 (fet_items tech k nets depletion gate w l) ≡ 1 ∷ []
mask_place tech k nets true Across w l = refl
mask_place tech k nets true Up w l = refl
mask_place tech k nets false Across w l = refl
mask_place tech k nets false Up w l = refl

piece_places : (tech : Tech) (k : ℕ) (nets : NodeNets) (depletion : Bool) (gate : Axis2) (w l : ℤ)
    → places Dc 0 (fet_items tech k nets depletion gate w l) ≡ 2 ∷ 3 ∷ []
piece_places tech k nets true Across w l = refl
piece_places tech k nets true Up w l = refl
piece_places tech k nets false Across w l = refl
piece_places tech k nets false Up w l = refl

channel_place : (tech : Tech) (k : ℕ) (nets : NodeNets) (depletion : Bool) (gate : Axis2) (w l : ℤ)
    → places G 0 (fet_items tech k nets depletion gate w l) ≡ 4 ∷ []
channel_place tech k nets true Across w l = refl
channel_place tech k nets true Up w l = refl
channel_place tech k nets false Across w l = refl
channel_place tech k nets false Up w l = refl

-- an enhancement transistor has no implant, and a depletion one has
no_implant : (tech : Tech) (k : ℕ) (nets : NodeNets) (depletion : Bool) (gate : Axis2) (w l : ℤ) → depletion ≡ false
    → places I 0 (fet_items tech k nets depletion gate w l) ≡ []
no_implant tech k nets true gate w l e = absurd cc
no_implant tech k nets false Across w l e = refl
no_implant tech k nets false Up w l e = refl

implant_there : (tech : Tech) (k : ℕ) (nets : NodeNets) (depletion : Bool) (gate : Axis2) (w l : ℤ) → depletion ≡ true
    → (5 < length (fet_items tech k nets depletion gate w l))
    × (item_at (fet_items tech k nets depletion gate w l) 5
    ≡ item_running gate
    (box_round k I nets.main (half w +ℤ (numbers_of tech).extension_implant)
    (half l +ℤ (numbers_of tech).extension_implant)))
implant_there tech k nets true gate w l e = (omega arith, refl)
implant_there tech k nets false gate w l e = absurd cc

-- ---- a box of a node, seen so that the gate runs from left to right

-- where the centre of a node lies then, from where its instance stands
record Centre : Type 0 where
  right : ℤ
  x : ℤ
  up : ℤ
  y : ℤ

abbrev centre_seen : Axis2 → ℤ → ℤ → Coords → ℕ → Centre
centre_seen Across x y layout k =
    record { right = x; x = value_of layout.x (centre k); up = y; y = value_of layout.y (centre k) }
centre_seen Up x y layout k =
    record { right = y; x = value_of layout.y (centre k); up = x; y = value_of layout.x (centre k) }

abbrev box_from : Centre → ℤ → ℤ → ℤ → ℤ → Sides
box_from c left right bottom top =
    record {
      left = c.right +ℤ (c.x +ℤ left);
      right = c.right +ℤ (c.x +ℤ right);
      bottom = c.up +ℤ (c.y +ℤ bottom);
      top = c.up +ℤ (c.y +ℤ top);
    }

seen_box : (gate : Axis2) (x y : ℤ) (layout : Coords) (k : ℕ) (class : Class) (net : ℕ) (left right bottom top : ℤ)
    → sides_along (axis_along gate)
    (shifted_sides x y (sides_in layout (item_running gate (box_at k class net left right bottom top))))
    ≡ box_from (centre_seen gate x y layout k) left right bottom top
seen_box Across x y layout k class net left right bottom top = refl
seen_box Up x y layout k class net left right bottom top = refl

cross_from : (tech : Tech) (c : Centre) (x y w l : ℤ) → (pos 2 *ℤ x) ≡ w → (pos 2 *ℤ y) ≡ l
    → CrossAt tech w l
    (box_from c (neg_ℤ (x +ℤ (numbers_of tech).extension_poly)) (x +ℤ (numbers_of tech).extension_poly) (neg_ℤ y) y)
    (box_from c (neg_ℤ x) x (neg_ℤ (y +ℤ (numbers_of tech).extension_diffusion))
    (y +ℤ (numbers_of tech).extension_diffusion))
    (box_from c (neg_ℤ x) x (neg_ℤ y) y)
cross_from tech c x y w l even_w even_l =
    let low_poly : pos 0 ≤ℤ (numbers_of tech).extension_poly = (sound_numbers tech).in_range.extension_poly.0 in
    let low_diffusion : pos 0 ≤ℤ (numbers_of tech).extension_diffusion =
    (sound_numbers tech).in_range.extension_diffusion.0 in
    record {
      left = before c.right c.x x (numbers_of tech).extension_poly;
      right = after c.right c.x x (numbers_of tech).extension_poly;
      bottom = before c.up c.y y (numbers_of tech).extension_diffusion;
      top = after c.up c.y y (numbers_of tech).extension_diffusion;
      shared = same_sides _ _ (greater c.right c.x x (numbers_of tech).extension_poly low_poly)
          (less c.right c.x x (numbers_of tech).extension_poly low_poly)
          (greater_first c.up c.y y (numbers_of tech).extension_diffusion low_diffusion)
          (less_first c.up c.y y (numbers_of tech).extension_diffusion low_diffusion);
      wide = whole c.right c.x x w even_w;
      long = whole c.up c.y y l even_l;
    }
  where
    before : (o v x e : ℤ) → ((o +ℤ (v +ℤ neg_ℤ (x +ℤ e))) +ℤ e) ≡ (o +ℤ (v +ℤ neg_ℤ x))
    before o v x e = omega (arith, ints)

    after : (o v x e : ℤ) → ((o +ℤ (v +ℤ x)) +ℤ e) ≡ (o +ℤ (v +ℤ (x +ℤ e)))
    after o v x e = omega (arith, ints)

    greater : (o v x e : ℤ) → pos 0 ≤ℤ e
        → (o +ℤ (v +ℤ neg_ℤ x)) ≡ int_max (o +ℤ (v +ℤ neg_ℤ (x +ℤ e))) (o +ℤ (v +ℤ neg_ℤ x))
    greater o v x e low = omega (arith, ints, clamps, low)

    less : (o v x e : ℤ) → pos 0 ≤ℤ e → (o +ℤ (v +ℤ x)) ≡ int_min (o +ℤ (v +ℤ (x +ℤ e))) (o +ℤ (v +ℤ x))
    less o v x e low = omega (arith, ints, clamps, low)

    greater_first : (o v x e : ℤ) → pos 0 ≤ℤ e
        → (o +ℤ (v +ℤ neg_ℤ x)) ≡ int_max (o +ℤ (v +ℤ neg_ℤ x)) (o +ℤ (v +ℤ neg_ℤ (x +ℤ e)))
    greater_first o v x e low = omega (arith, ints, clamps, low)

    less_first : (o v x e : ℤ) → pos 0 ≤ℤ e → (o +ℤ (v +ℤ x)) ≡ int_min (o +ℤ (v +ℤ x)) (o +ℤ (v +ℤ (x +ℤ e)))
    less_first o v x e low = omega (arith, ints, clamps, low)

    whole : (o v x w : ℤ) → (pos 2 *ℤ x) ≡ w → ((o +ℤ (v +ℤ x)) -ℤ (o +ℤ (v +ℤ neg_ℤ x))) ≡ w
    whole o v x w e = omega (arith, ints, e)

-- ---- implants

-- an implant goes past the channel by the extension
own_encloses : (gate : Axis2) (x y : ℤ) (layout : Coords) (k net main : ℕ) (a b e : ℤ)
    → EnclosesBy (shifted_sides x y (sides_in layout (item_running gate (box_round k I net (a +ℤ e) (b +ℤ e)))))
    (shifted_sides x y (sides_in layout (item_running gate (box_round k G main a b)))) e
own_encloses Across x y layout k net main a b e =
    record {
      left = omega (arith, ints);
      right = omega (arith, ints);
      bottom = omega (arith, ints);
      top = omega (arith, ints);
    }
own_encloses Up x y layout k net main a b e =
    record {
      left = omega (arith, ints);
      right = omega (arith, ints);
      bottom = omega (arith, ints);
      top = omega (arith, ints);
    }

-- a box that goes past one with an inside overlaps it
pub past_overlaps : (s t : Sides) (e : ℤ) → pos 0 ≤ℤ e → EnclosesBy s t e → t.left <ℤ t.right → t.bottom <ℤ t.top
    → gap_of_sides s t <ℤ pos 0
past_overlaps s t e low h wide high =
    let l = h.left in
    let r = h.right in
    let b = h.bottom in
    let u = h.top in
    omega (arith, ints, clamps, low, l, r, b, u, wide, high)

channel_inside : (gate : Axis2) (x y : ℤ) (layout : Coords) (k main : ℕ) (a b : ℤ) → pos 1 ≤ℤ a → pos 1 ≤ℤ b
    → let s : Sides = shifted_sides x y (sides_in layout (item_running gate (box_round k G main a b))) in
    (s.left <ℤ s.right) × (s.bottom <ℤ s.top)
channel_inside Across x y layout k main a b low lower =
    (omega (arith, ints, low, lower), omega (arith, ints, low, lower))
channel_inside Up x y layout k main a b low lower = (omega (arith, ints, low, lower), omega (arith, ints, low, lower))

abbrev implant_rule : Tech → Rule
implant_rule tech = record { s = (numbers_of tech).spacing_implant_channel; net_exempt = false }

implant_ruled : (tech : Tech) → spacing_of tech I G ≡ Some (implant_rule tech)
unfolding spacing_in
implant_ruled tech = refl

never_joined : (a b : Class) → a ≡ I → b ≡ G → IsTrue (is_poly_on_diffusion a b) → ⊥
never_joined a b e f h =
    let off : is_poly_on_diffusion a b ≡ false = ap (λ x. is_poly_on_diffusion x b) e
    ∙ ap (λ x. is_poly_on_diffusion I x) f in
    absurd cc

-- ---- what else is known of a transistor's items

-- an item stands at no buried contact
abbrev pub StandsNowhere : Item → Type 0
StandsNowhere i = (i.at_low ≡ nowhere) × (i.at_high ≡ nowhere)

nowhere_at : (tech : Tech) (k : ℕ) (nets : NodeNets) (depletion : Bool) (gate : Axis2) (w l : ℤ)
    → AllByRecursion StandsNowhere (fet_items tech k nets depletion gate w l)
nowhere_at tech k nets true Across w l =
    ((refl, refl), ((refl, refl), ((refl, refl), ((refl, refl), ((refl, refl), ((refl, refl), tt))))))
nowhere_at tech k nets true Up w l =
    ((refl, refl), ((refl, refl), ((refl, refl), ((refl, refl), ((refl, refl), ((refl, refl), tt))))))
nowhere_at tech k nets false Across w l =
    ((refl, refl), ((refl, refl), ((refl, refl), ((refl, refl), ((refl, refl), tt)))))
nowhere_at tech k nets false Up w l = ((refl, refl), ((refl, refl), ((refl, refl), ((refl, refl), ((refl, refl), tt)))))

net_running : (gate : Axis2) (i : Item) → (item_running gate i).net ≡ i.net
net_running Across i = refl
net_running Up i = refl

-- Its boxes; the piece below the channel is numbered first, and has the low net, and the one above it the high net.
-- None of its items stands at a buried contact.
pub record KnowsFet (tech : Tech) (plan : Plan) (masters : List Master) (layouts : List Coords) (spot : InstancePlace)
    (k : ℕ) (gate : Axis2) (w l : ℤ) : Type 0 where
  pub boxes : HasBoxes tech plan masters layouts spot k gate w l
  pub in_order : boxes.low < boxes.high
  pub low_net : (nets : ℕ → Nets) → AreNetsOf masters nets
      → (item_in plan masters spot boxes.low).net ≡ (nets_at (nets (master_at_spot (grids_of plan) spot)).node k).low
  pub high_net : (nets : ℕ → Nets) → AreNetsOf masters nets
      → (item_in plan masters spot boxes.high).net
      ≡ (nets_at (nets (master_at_spot (grids_of plan) spot)).node k).high
  pub nowhere : (n : ℕ) → n < length (items_at plan masters spot) → (item_in plan masters spot n).owner ≡ k
      → StandsNowhere (item_in plan masters spot n)
  pub wide : pos 1 ≤ℤ w
  pub long : pos 1 ≤ℤ l

-- ---- a transistor of an instance

module _ (tech : Tech) (plan : Plan) (masters : List Master) (layouts : List Coords)
    (planned : AreOfPlan tech plan masters) (spot : InstancePlace) (k : ℕ) (depletion : Bool) (gate : Axis2) (w l : ℤ)
    (fet : IsTransistorAt plan masters spot k depletion gate w l) where
  own_master : IsMaster tech (master_of plan masters spot)
  own_master = master_is tech plan masters spot planned fet.there

  abbrev own_nets : NodeNets
  own_nets = nets_at own_master.items.nets.node k

  abbrev block : List Item
  block = fet_items tech k own_nets depletion gate w l

  run : IsRun (items_at plan masters spot) block k
  run = subst (λ (kind : NodeKind). IsRun (items_at plan masters spot) (kind_items tech k kind own_nets) k) fet.kind
      (run_node tech (master_of plan masters spot) own_master k fet.node)

  sizes : IsSize w × IsSize l
  sizes =
      let own =
      subst (IsKind tech) fet.kind
      (node_sound tech (master_of plan masters spot).cell k own_master.sound fet.node).kind in
      (own.0, own.1)

  abbrev own_centre : Centre
  own_centre = centre_seen gate (x_of tech plan layouts spot) (y_of plan layouts spot) (layout_of plan layouts spot) k

  -- an item of its block
  owned_at : (j : ℕ) (class : Class) (i : Item) → j < length block → item_at block j ≡ item_running gate i
      → i.class ≡ class → i.owner ≡ k → IsOwned plan masters class k (at spot (run.first + j))
  owned_at j class i lt is c o =
      let there = run.at j lt ∙ is in
      let within = run.within in
      record {
        drawn = record { spot = fet.there; among = omega (arith, within, lt) };
        of_class = ap (λ (i : Item). i.class) there ∙ (class_running gate i ∙ c);
        owned = ap (λ (i : Item). i.owner) there ∙ (owner_running gate i ∙ o);
      }

  -- it is seen as the box that it is
  seen_at : (j : ℕ) (class : Class) (net : ℕ) (left right bottom top : ℤ) → j < length block
      → item_at block j ≡ item_running gate (box_at k class net left right bottom top)
      → seen tech plan masters layouts gate spot (run.first + j) ≡ box_from own_centre left right bottom top
  seen_at j class net left right bottom top lt is =
      let x = x_of tech plan layouts spot in
      let y = y_of plan layouts spot in
      let layout = layout_of plan layouts spot in
      ap (λ (i : Item). sides_along (axis_along gate) (shifted_sides x y (sides_in layout i))) (run.at j lt ∙ is)
      ∙ seen_box gate x y layout k class net left right bottom top

  -- an item of it that is of a class stands at a place of the class
  place_of : (class : Class) (ks : List ℕ) (n : ℕ) → places class 0 block ≡ ks
      → IsOwned plan masters class k (at spot n) → (j : ℕ) × (n ≡ run.first + j) × IsIn j ks
  place_of class ks n e h =
      let found_at = run.only n h.drawn.among h.owned in
      let is = ap (item_at (items_at plan masters spot)) found_at.2 ∙ run.at found_at.0 found_at.1 in
      let of_class : (item_at block found_at.0).class ≡ class = sym (ap (λ (i : Item). i.class) is) ∙ h.of_class in
      (found_at.0, found_at.2, subst (IsIn found_at.0) e (found class block found_at.0 found_at.1 of_class))

  only_there : (class : Class) (j n : ℕ) → places class 0 block ≡ j ∷ [] → IsOwned plan masters class k (at spot n)
      → n ≡ run.first + j
  only_there class j n e h =
      let p = place_of class (j ∷ []) n e h in
      p.1 ∙ ap (λ (i : ℕ). run.first + i) (only_place p.0 j p.2)

  pub boxes : HasBoxes tech plan masters layouts spot k gate w l
  boxes =
      let x : ℤ = half w in
      let y : ℤ = half l in
      let poly : ℤ = (numbers_of tech).extension_poly in
      let diffusion : ℤ = (numbers_of tech).extension_diffusion in
      let c : Centre = own_centre in
      let S : ℕ → Sides = seen tech plan masters layouts gate spot in
      let first : ℕ = run.first in
      let poly_is : S (first + 0) ≡ box_from c (neg_ℤ (x +ℤ poly)) (x +ℤ poly) (neg_ℤ y) y =
      seen_at 0 P own_nets.main _ _ _ _ (omega arith) refl in
      let mask_is : S (first + 1) ≡ box_from c (neg_ℤ x) x (neg_ℤ (y +ℤ diffusion)) (y +ℤ diffusion) =
      seen_at 1 Dm own_nets.low _ _ _ _ (omega arith) refl in
      let low_is : S (first + 2) ≡ box_from c (neg_ℤ x) x (neg_ℤ (y +ℤ diffusion)) (neg_ℤ y) =
      seen_at 2 Dc own_nets.low _ _ _ _ (omega arith) refl in
      let high_is : S (first + 3) ≡ box_from c (neg_ℤ x) x y (y +ℤ diffusion) =
      seen_at 3 Dc own_nets.high _ _ _ _ (omega arith) refl in
      let channel_is : S (first + 4) ≡ box_from c (neg_ℤ x) x (neg_ℤ y) y =
      seen_at 4 G own_nets.main _ _ _ _ (omega arith) refl in
      let cross = cross_from tech c x y w l sizes.0.even sizes.1.even in
      record {
        poly = first + 0;
        diffusion = first + 1;
        low = first + 2;
        high = first + 3;
        channel = first + 4;
        is_poly = owned_at 0 P (box_round k P own_nets.main (x +ℤ poly) y) (omega arith) refl refl refl;
        is_diffusion = owned_at 1 Dm (box_round k Dm own_nets.low x (y +ℤ diffusion)) (omega arith) refl refl refl;
        is_low = owned_at 2 Dc (box_at k Dc own_nets.low (neg_ℤ x) x (neg_ℤ (y +ℤ diffusion)) (neg_ℤ y)) (omega arith)
            refl refl refl;
        is_high = owned_at 3 Dc (box_at k Dc own_nets.high (neg_ℤ x) x y (y +ℤ diffusion)) (omega arith) refl refl refl;
        is_channel = owned_at 4 G (box_round k G own_nets.main x y) (omega arith) refl refl refl;
        one_poly = λ n h. only_there P 0 n (poly_place tech k own_nets depletion gate w l) h;
        one_diffusion = λ n h. only_there Dm 1 n (mask_place tech k own_nets depletion gate w l) h;
        two_chunks =
            λ n h. (let p = place_of Dc (2 ∷ 3 ∷ []) n (piece_places tech k own_nets depletion gate w l) h in
            one_of_two first n p.0 p.1 p.2);
        one_channel = λ n h. only_there G 4 n (channel_place tech k own_nets depletion gate w l) h;
        cross = subst (λ (s : Sides). CrossAt tech w l s (S (first + 1)) (S (first + 4))) (sym poly_is)
            (subst (λ (s : Sides). CrossAt tech w l (box_from c (neg_ℤ (x +ℤ poly)) (x +ℤ poly) (neg_ℤ y) y) s
            (S (first + 4))) (sym mask_is)
            (subst (λ (s : Sides). CrossAt tech w l (box_from c (neg_ℤ (x +ℤ poly)) (x +ℤ poly) (neg_ℤ y) y)
            (box_from c (neg_ℤ x) x (neg_ℤ (y +ℤ diffusion)) (y +ℤ diffusion)) s) (sym channel_is) cross));
        lies_below = low_is
            ∙ (ap (λ (s : Sides). below s (box_from c (neg_ℤ x) x (neg_ℤ y) y)) (sym mask_is)
            ∙ ap (λ (s : Sides). below (S (first + 1)) s) (sym channel_is));
        lies_above = high_is
            ∙ (ap (λ (s : Sides). above s (box_from c (neg_ℤ x) x (neg_ℤ y) y)) (sym mask_is)
            ∙ ap (λ (s : Sides). above (S (first + 1)) s) (sym channel_is));
      }
    where
      one_of_two : (first n j : ℕ) → n ≡ first + j → IsIn j (2 ∷ 3 ∷ []) → (n ≡ first + 2) ⊎ (n ≡ first + 3)
      one_of_two first n j e (inl at_low) = inl (e ∙ ap (λ (i : ℕ). first + i) at_low)
      one_of_two first n j e (inr (inl at_high)) = inr (e ∙ ap (λ (i : ℕ). first + i) at_high)
      one_of_two first n j e (inr (inr neither)) = absurd neither

  -- by whatever nets the masters have, its own are the same
  nets_are_own : (nets : ℕ → Nets) → AreNetsOf masters nets
      → own_nets ≡ nets_at (nets (master_at_spot (grids_of plan) spot)).node k
  nets_are_own nets are =
      let m : ℕ = master_at_spot (grids_of plan) spot in
      let same = nets_same (master_of plan masters spot).cell own_master.items.nets (nets m) own_master.items.of_cell
      (are m (master_among tech plan masters spot planned fet.there)) in
      ap (λ (z : Nets). nets_at z.node k) same

  pub knows : KnowsFet tech plan masters layouts spot k gate w l
  unfolding boxes
  knows =
      let x : ℤ = half w in
      let y : ℤ = half l in
      let diffusion : ℤ = (numbers_of tech).extension_diffusion in
      let first : ℕ = run.first in
      let low_w = sizes.0.low in
      let low_l = sizes.1.low in
      record {
        boxes = boxes;
        in_order = omega arith;
        low_net = λ nets are. ap (λ (i : Item). i.net) (run.at 2 (omega arith))
            ∙ (net_running gate (box_at k Dc own_nets.low (neg_ℤ x) x (neg_ℤ (y +ℤ diffusion)) (neg_ℤ y))
            ∙ ap (λ (z : NodeNets). z.low) (nets_are_own nets are));
        high_net = λ nets are. ap (λ (i : Item). i.net) (run.at 3 (omega arith))
            ∙ (net_running gate (box_at k Dc own_nets.high (neg_ℤ x) x y (y +ℤ diffusion))
            ∙ ap (λ (z : NodeNets). z.high) (nets_are_own nets are));
        nowhere = λ n lt own. (
            let f = run.only n lt own in
            let is = ap (item_at (items_at plan masters spot)) f.2 ∙ run.at f.0 f.1 in
            subst StandsNowhere (sym is)
            (all_at StandsNowhere block no_item f.0 (nowhere_at tech k own_nets depletion gate w l) f.1)
            );
        wide = omega (arith, ints, low_w);
        long = omega (arith, ints, low_l);
      }

  channel_item : (channel : ℕ) → IsOwned plan masters G k (at spot channel)
      → item_in plan masters spot channel ≡ item_running gate (box_round k G own_nets.main (half w) (half l))
  channel_item channel h =
      ap (item_at (items_at plan masters spot))
      (only_there G 4 channel (channel_place tech k own_nets depletion gate w l) h) ∙ run.at 4 (omega arith)

  -- the implant of a depletion transistor
  has_implant : IsTrue depletion → (channel : ℕ) → IsOwned plan masters G k (at spot channel)
      → (a : InstanceItem) × IsOfClass plan masters I a
      × EnclosesBy (sides_of_drawn tech plan masters layouts a)
      (sides_of_drawn tech plan masters layouts (at spot channel)) (numbers_of tech).extension_implant
  has_implant depleted channel h =
      let e : ℤ = (numbers_of tech).extension_implant in
      let there = implant_there tech k own_nets depletion gate w l depleted in
      let box : Item = box_round k I own_nets.main (half w +ℤ e) (half l +ℤ e) in
      let own = owned_at 5 I box there.0 there.1 refl refl in
      let x = x_of tech plan layouts spot in
      let y = y_of plan layouts spot in
      let layout = layout_of plan layouts spot in
      let is : item_in plan masters spot (run.first + 5) ≡ item_running gate box = run.at 5 there.0 ∙ there.1 in
      let past = own_encloses gate x y layout k own_nets.main own_nets.main (half w) (half l) e in
      let E : Item → Item → Type 0 =
      λ i j. EnclosesBy (shifted_sides x y (sides_in layout i)) (shifted_sides x y (sides_in layout j)) e in
      let both : E (item_in plan masters spot (run.first + 5)) (item_in plan masters spot channel) =
      subst (λ (i : Item). E i (item_in plan masters spot channel)) (sym is)
      (subst (λ (j : Item). E (item_running gate box) j) (sym (channel_item channel h)) past) in
      (at spot (run.first + 5), record { drawn = own.drawn; of_class = own.of_class }, both)

  -- none goes past the channel of an enhancement transistor
  none_past : IsDone tech plan masters layouts → depletion ≡ false → (channel : ℕ)
      → IsOwned plan masters G k (at spot channel) → (a : InstanceItem) → IsOfClass plan masters I a
      → EnclosesBy (sides_of_drawn tech plan masters layouts a)
      (sides_of_drawn tech plan masters layouts (at spot channel)) (numbers_of tech).extension_implant → ⊥
  none_past done enhanced channel h a is_a past =
      let b : InstanceItem = at spot channel in
      let not_own : a.spot ≡ spot → (item_of plan masters a).owner ≢ (item_of plan masters b).owner = λ same owner. (
      let Q : InstancePlace → Type 0 = λ s. IsOfClass plan masters I (at s a.item)
      → (item_in plan masters s a.item).owner ≡ k → ⊥ in
      let here : Q spot =
      λ is own.
      (place_of I [] a.item (no_implant tech k own_nets depletion gate w l enhanced)
      (record { drawn = is.drawn; of_class = is.of_class; owned = own })).2 in
      subst Q (sym same) here is_a (owner ∙ h.owned)
      ) in
      let far = bound_apart tech plan masters layouts done a b is_a.drawn h.drawn (implant_rule tech)
      (of_classes tech (item_of plan masters a).class (item_of plan masters b).class I G (Some (implant_rule tech))
      is_a.of_class h.of_class (implant_ruled tech)) refl not_own
      (λ poly same together. never_joined (item_of plan masters a).class (item_of plan masters b).class is_a.of_class
      h.of_class poly) in
      let low_w = sizes.0.low in
      let low_l = sizes.1.low in
      let even_w : (pos 2 *ℤ half w) ≡ w = sizes.0.even in
      let even_l : (pos 2 *ℤ half l) ≡ l = sizes.1.even in
      let x = x_of tech plan layouts spot in
      let y = y_of plan layouts spot in
      let layout = layout_of plan layouts spot in
      let R : Item → Type 0 = λ i. let s : Sides = shifted_sides x y (sides_in layout i) in (s.left <ℤ s.right)
      × (s.bottom <ℤ s.top) in
      let inside : R (item_of plan masters b) = subst R (sym (channel_item channel h))
      (channel_inside gate x y layout k own_nets.main (half w) (half l) (omega (arith, ints, low_w, even_w))
      (omega (arith, ints, low_l, even_l))) in
      let over = past_overlaps (sides_of_drawn tech plan masters layouts a)
      (sides_of_drawn tech plan masters layouts b) (numbers_of tech).extension_implant
      (sound_numbers tech).in_range.extension_implant.0 past inside.0 inside.1 in
      omega (arith, ints, far, over)

pub transistors_have : (tech : Tech) (plan : Plan) (masters : List Master) (layouts : List Coords)
    → AreOfPlan tech plan masters → TransistorsHaveBoxes tech plan masters layouts
transistors_have tech plan masters layouts planned spot k depletion gate w l fet =
    boxes tech plan masters layouts planned spot k depletion gate w l fet

pub implants_tell : (tech : Tech) (plan : Plan) (masters : List Master) (layouts : List Coords)
    → IsDone tech plan masters layouts → ImplantsTellDepletion tech plan masters layouts
implants_tell tech plan masters layouts done spot k depletion gate w l fet channel h = (
  λ depleted. has_implant tech plan masters layouts done.planned spot k depletion gate w l fet depleted channel h,
  λ some. elim (cases_Bool depletion) [
    | inl depleted ↦ depleted
    | inr enhanced ↦
        absurd (none_past tech plan masters layouts done.planned spot k depletion gate w l fet done enhanced channel h
        some.0 some.1 some.2)
  ],
)
