-- The boxes round a cut, and diffusion of the mask over its conducting pieces.
use Rattle.std.proofs.Common.{◌≡◌, ℕ, ◌+◌, ◌<◌, ℤ, pos, ◌*ℤ◌, ◌≤ℤ◌, List, length, refl, sym, ap, ◌∙◌, subst, arith, inl}
use Rattle.std.proofs.{Common.inr, lemmas.Int.{ints, clamps}}
use Rattle.std.specs.{Prelude.{Bool, true, false}, Int.{int_max, int_min}, List.AllByRecursion}
use Rattle.rule_table.specs.declared.{technology.Tech.Tech, classes.Class.{Class, TheVariants.{M, P, Dc, Dm, C}}}
use Rattle.rule_table.specs.declared.{classes.Layer.{Layer, TheVariants.{Diffusion, Poly, Metal}}, keys.Numbers.Numbers}
use Rattle.rule_table.{specs.{Spacing.pad_in, Technology.{numbers_of, pad_of}}, proofs.Widths.pad_even}
use Rattle.sym_items.specs.{declared.items.{Coords.Coords, Item.Item}, Sides.{Sides, sides_in}, Standing.nowhere}
use Rattle.sym_items.specs.Transposed.{sides_along}
use Rattle.cell_model.specs.declared.cell.{Axis2.{Axis2, TheVariants.{Across, Up}}, NodeKind.NodeKind}
use Rattle.cell_model.specs.declared.cell.{NodeKind.TheVariants.{Joint, Contact, Buried, Fet}, NodeNets.NodeNets}
use Rattle.cell_model.specs.Sound.{wire_at, IsKind}
use Rattle.pair_rules.specs.Bound.{no_item, item_at}
use Rattle.list_facts.proofs.Elements.{all_at}
use Rattle.expand.specs.{declared.master.Master.Master, Masters.IsMaster, Items.{nets_at, items_of_wire}}
use Rattle.expand.specs.{NodeItems.{on_layer, square_round, kind_items}, Variables.half}
use Rattle.expand.proofs.{Among.sound_numbers, Cells.node_sound}
use Rattle.buried_contacts.specs.Contacts.{axis_along, kind_of}
use Rattle.plan_model.specs.{declared.plan.Plan.Plan, Instances.InstancePlace}
use Rattle.instance_laws.specs.{Rules.{shifted_sides, items_at}, Conductors.{InstanceItem, item_of, sides_of_drawn}}
use Rattle.instance_laws.specs.Meetings.{master_of, at, IsOfClass, IsOwned, EnclosesBy, IsTransistorAt, IsOnePiece}
use Rattle.instance_laws.{specs.Meetings.seen, proofs.{Gaps.IsDone, Meeting.master_is, MeetingRuns.{IsRun, found}}}
use Rattle.instance_laws.proofs.MeetingBlocks.{run_node, run_wire, stands_in, OwnerOf, a_node, a_wire, owner_of}
use Rattle.instance_laws.proofs.{MeetingBlocks.only_place, MeetingBoxes.transistors_have, MeetingGaps.{layout_of, x_of}}
use Rattle.instance_laws.proofs.{MeetingGaps.y_of, MeetingOwners.{diffusion_conducts, pieces_have_masks}}

-- ---- which blocks have cuts

-- the item is the cut of a contact
record IsTheCut (kind : NodeKind) (j : ℕ) : Type 0 where
  lower : Layer
  is : kind ≡ Contact lower
  second : j ≡ 1

layer_has_none : (layer : Layer) (i : Item) (j : ℕ) → j < length (on_layer layer i)
    → (item_at (on_layer layer i) j).class ≡ C → ⊥
layer_has_none Metal i j lt e = found C (on_layer Metal i) j lt e
layer_has_none Poly i j lt e = found C (on_layer Poly i) j lt e
layer_has_none Diffusion i j lt e = found C (on_layer Diffusion i) j lt e

cut_of_kind : (tech : Tech) (k : ℕ) (kind : NodeKind) (nets : NodeNets) (j : ℕ)
    → j < length (kind_items tech k kind nets) → (item_at (kind_items tech k kind nets) j).class ≡ C → IsTheCut kind j
cut_of_kind tech k (Joint layer width) nets j lt e = absurd (layer_has_none layer _ j lt e)
cut_of_kind tech k (Contact Metal) nets j lt e =
    record {
      lower = Metal;
      is = refl;
      second = only_place j 1 (found C (kind_items tech k (Contact Metal) nets) j lt e);
    }
cut_of_kind tech k (Contact Poly) nets j lt e =
    record {
      lower = Poly;
      is = refl;
      second = only_place j 1 (found C (kind_items tech k (Contact Poly) nets) j lt e);
    }
cut_of_kind tech k (Contact Diffusion) nets j lt e =
    record {
      lower = Diffusion;
      is = refl;
      second = only_place j 1 (found C (kind_items tech k (Contact Diffusion) nets) j lt e);
    }
cut_of_kind tech k Buried nets j lt e = absurd (found C (kind_items tech k Buried nets) j lt e)
cut_of_kind tech k (Fet true Across w l) nets j lt e =
    absurd (found C (kind_items tech k (Fet true Across w l) nets) j lt e)
cut_of_kind tech k (Fet true Up w l) nets j lt e = absurd (found C (kind_items tech k (Fet true Up w l) nets) j lt e)
cut_of_kind tech k (Fet false Across w l) nets j lt e =
    absurd (found C (kind_items tech k (Fet false Across w l) nets) j lt e)
cut_of_kind tech k (Fet false Up w l) nets j lt e = absurd (found C (kind_items tech k (Fet false Up w l) nets) j lt e)

-- ---- a contact's boxes cover its cut

-- half the pad is no less than half the cut
pad_covers : (tech : Tech) → half (numbers_of tech).cut_size ≤ℤ half (pad_of tech)
unfolding pad_in
pad_covers tech =
    let n = sound_numbers tech in
    wider (numbers_of tech) (half (numbers_of tech).cut_size) (half (pad_of tech)) n.cut_size.even
    (pad_even (numbers_of tech) n) n.in_range.cut_enclosure.0
  where
    wider : (n : Numbers) (c p : ℤ) → (pos 2 *ℤ c) ≡ n.cut_size → (pos 2 *ℤ p) ≡ pad_in n → pos 0 ≤ℤ n.cut_enclosure
        → c ≤ℤ p
    wider n c p e f low = omega (arith, ints, e, f, low)

square_covers : (x y : ℤ) (layout : Coords) (k : ℕ) (class cut : Class) (net : ℕ) (big small : ℤ) → small ≤ℤ big
    → EnclosesBy (shifted_sides x y (sides_in layout (square_round k class net big)))
    (shifted_sides x y (sides_in layout (square_round k cut net small))) (pos 0)
square_covers x y layout k class cut net big small le =
    record {
      left = omega (arith, ints, le);
      right = omega (arith, ints, le);
      bottom = omega (arith, ints, le);
      top = omega (arith, ints, le);
    }

-- a box of the contact whose cut this is: it covers the cut, is of its net, and stands at no buried contact
pub record IsRoundCut (tech : Tech) (plan : Plan) (masters : List Master) (layouts : List Coords) (cut : InstanceItem)
    (class : Class) : Type 0 where
  pub item : ℕ
  pub owned : IsOwned plan masters class (item_of plan masters cut).owner (at cut.spot item)
  pub covers : EnclosesBy (sides_of_drawn tech plan masters layouts (at cut.spot item))
      (sides_of_drawn tech plan masters layouts cut) (pos 0)
  pub net : (item_of plan masters (at cut.spot item)).net ≡ (item_of plan masters cut).net
  pub at_low : (item_of plan masters (at cut.spot item)).at_low ≡ nowhere
  pub at_high : (item_of plan masters (at cut.spot item)).at_high ≡ nowhere

-- the boxes of its lower layer
pub data LowerBoxes (tech : Tech) (plan : Plan) (masters : List Master) (layouts : List Coords)
    (cut : InstanceItem) : Type 0 where
  on_poly : IsRoundCut tech plan masters layouts cut P → LowerBoxes tech plan masters layouts cut
  on_diffusion : IsRoundCut tech plan masters layouts cut Dm → IsRoundCut tech plan masters layouts cut Dc
      → LowerBoxes tech plan masters layouts cut

-- the contact of a cut
pub record ContactOf (tech : Tech) (plan : Plan) (masters : List Master) (layouts : List Coords)
    (cut : InstanceItem) : Type 0 where
  pub k : ℕ
  pub lower : Layer
  pub kind : kind_of (master_of plan masters cut.spot) k ≡ Contact lower
  pub owner : (item_of plan masters cut).owner ≡ k
  pub one_net : (n : ℕ) → n < length (items_at plan masters cut.spot)
      → (item_of plan masters (at cut.spot n)).owner ≡ (item_of plan masters cut).owner
      → (item_of plan masters (at cut.spot n)).net ≡ (item_of plan masters cut).net
  pub metal : IsRoundCut tech plan masters layouts cut M
  pub boxes : LowerBoxes tech plan masters layouts cut

-- all of a contact is of its net
contact_nets : (tech : Tech) (k : ℕ) (lower : Layer) (nets : NodeNets)
    → AllByRecursion (λ (i : Item). i.net ≡ nets.main) (kind_items tech k (Contact lower) nets)
contact_nets tech k Metal nets = (refl, (refl, (refl, tt)))
contact_nets tech k Poly nets = (refl, (refl, (refl, tt)))
contact_nets tech k Diffusion nets = (refl, (refl, (refl, (refl, tt))))

module _ (tech : Tech) (plan : Plan) (masters : List Master) (layouts : List Coords)
    (done : IsDone tech plan masters layouts) (cut : InstanceItem) (is_cut : IsOfClass plan masters C cut) where
  own_master : IsMaster tech (master_of plan masters cut.spot)
  own_master = master_is tech plan masters cut.spot done.planned is_cut.drawn.spot

  abbrev list : List Item
  list = items_at plan masters cut.spot

  -- a box of the block is round the cut
  round_cut : (k : ℕ) (lower : Layer) (nets : NodeNets) (j : ℕ) (class : Class)
      → (run : IsRun list (kind_items tech k (Contact lower) nets) k) → (item_of plan masters cut).owner ≡ k
      → item_of plan masters cut ≡ square_round k C nets.main (half (numbers_of tech).cut_size)
      → j < length (kind_items tech k (Contact lower) nets)
      → item_at (kind_items tech k (Contact lower) nets) j ≡ square_round k class nets.main (half (pad_of tech))
      → IsRoundCut tech plan masters layouts cut class
  round_cut k lower nets j class run owner cut_is lt is =
      let there : item_at list (run.first + j) ≡ square_round k class nets.main (half (pad_of tech)) = run.at j lt
      ∙ is in
      let within = run.within in
      let x = x_of tech plan layouts cut.spot in
      let y = y_of plan layouts cut.spot in
      let layout = layout_of plan layouts cut.spot in
      let over = square_covers x y layout k class C nets.main (half (pad_of tech)) (half (numbers_of tech).cut_size)
      (pad_covers tech) in
      let E : Item → Item → Type 0 =
      λ i c. EnclosesBy (shifted_sides x y (sides_in layout i)) (shifted_sides x y (sides_in layout c)) (pos 0) in
      record {
        item = run.first + j;
        owned = record {
          drawn = record { spot = is_cut.drawn.spot; among = omega (arith, within, lt) };
          of_class = ap (λ (i : Item). i.class) there;
          owned = ap (λ (i : Item). i.owner) there ∙ sym owner;
        };
        covers = subst (λ (i : Item). E i (item_of plan masters cut)) (sym there)
            (subst (λ (c : Item). E (square_round k class nets.main (half (pad_of tech))) c) (sym cut_is) over);
        net = ap (λ (i : Item). i.net) there ∙ sym (ap (λ (i : Item). i.net) cut_is);
        at_low = ap (λ (i : Item). i.at_low) there;
        at_high = ap (λ (i : Item). i.at_high) there;
      }

  lower_boxes : (k : ℕ) (lower : Layer) (nets : NodeNets)
      → (run : IsRun list (kind_items tech k (Contact lower) nets) k) → (item_of plan masters cut).owner ≡ k
      → item_of plan masters cut ≡ square_round k C nets.main (half (numbers_of tech).cut_size) → (lower ≡ Metal → ⊥)
      → LowerBoxes tech plan masters layouts cut
  lower_boxes k Metal nets run owner cut_is no_metal = absurd (no_metal refl)
  lower_boxes k Poly nets run owner cut_is no_metal =
      on_poly (round_cut k Poly nets 2 P run owner cut_is (omega arith) refl)
  lower_boxes k Diffusion nets run owner cut_is no_metal =
      on_diffusion (round_cut k Diffusion nets 2 Dm run owner cut_is (omega arith) refl)
      (round_cut k Diffusion nets 3 Dc run owner cut_is (omega arith) refl)

  of_contact : (k : ℕ) (lower : Layer) (nets : NodeNets) (run : IsRun list (kind_items tech k (Contact lower) nets) k)
      → kind_of (master_of plan masters cut.spot) k ≡ Contact lower
      → (item_of plan masters cut).owner ≡ k → cut.item ≡ run.first + 1 → (lower ≡ Metal → ⊥)
      → ContactOf tech plan masters layouts cut
  of_contact k lower nets run kind owner place no_metal =
      let cut_is : item_of plan masters cut ≡ square_round k C nets.main (half (numbers_of tech).cut_size) =
      ap (item_at list) place ∙ run.at 1 (omega arith) in
      record {
        k = k;
        lower = lower;
        kind = kind;
        owner = owner;
        one_net = λ n lt e. (
            let there = stands_in list (kind_items tech k (Contact lower) nets) k n run lt (e ∙ owner) in
            let own = all_at (λ (i : Item). i.net ≡ nets.main) (kind_items tech k (Contact lower) nets) no_item
            there.j (contact_nets tech k lower nets) there.among in
            ap (λ (i : Item). i.net) there.is ∙ (own ∙ sym (ap (λ (i : Item). i.net) cut_is))
            );
        metal = round_cut k lower nets 0 M run owner cut_is (omega arith) refl;
        boxes = lower_boxes k lower nets run owner cut_is no_metal;
      }

  pub contact_of : ContactOf tech plan masters layouts cut
  contact_of = by (owner_of tech (master_of plan masters cut.spot) own_master cut.item is_cut.drawn.among)
    where
      by : OwnerOf (master_of plan masters cut.spot).cell (item_of plan masters cut).owner
          → ContactOf tech plan masters layouts cut
      by (a_node k among e) =
          let nets : NodeNets = nets_at own_master.items.nets.node k in
          let kind : NodeKind = kind_of (master_of plan masters cut.spot) k in
          let run = run_node tech (master_of plan masters cut.spot) own_master k among in
          let there = stands_in list (kind_items tech k kind nets) k cut.item run is_cut.drawn.among e in
          let found_cut = cut_of_kind tech k kind nets there.j there.among
          (sym (ap (λ (i : Item). i.class) there.is) ∙ is_cut.of_class) in
          let R : NodeKind → Type 0 = λ z. (r : IsRun list (kind_items tech k z nets) k) × (cut.item ≡ r.first + 1) in
          let second : R kind = (run, there.place ∙ ap (λ (j : ℕ). run.first + j) found_cut.second) in
          let own : R (Contact found_cut.lower) = subst R found_cut.is second in
          of_contact k found_cut.lower nets own.0 found_cut.is e own.1
          (subst (IsKind tech) found_cut.is
          (node_sound tech (master_of plan masters cut.spot).cell k own_master.sound among).kind)
      by (a_wire w among e) =
          let block : List Item = items_of_wire tech (master_of plan masters cut.spot).cell own_master.items.nets w in
          let there = stands_in list block (length (master_of plan masters cut.spot).cell.nodes + w) cut.item
          (run_wire tech (master_of plan masters cut.spot) own_master w among) is_cut.drawn.among e in
          absurd (layer_has_none (wire_at (master_of plan masters cut.spot).cell.wires w).layer _ there.j there.among
          (sym (ap (λ (i : Item). i.class) there.is) ∙ is_cut.of_class))

-- ---- diffusion of the mask covers its pieces

encloses_itself : (s : Sides) → EnclosesBy s s (pos 0)
encloses_itself s =
    record {
      left = omega (arith, ints);
      right = omega (arith, ints);
      bottom = omega (arith, ints);
      top = omega (arith, ints);
    }

-- what is seen along an axis
unseen : (gate : Axis2) (s t : Sides) (margin : ℤ)
    → EnclosesBy (sides_along (axis_along gate) s) (sides_along (axis_along gate) t) margin → EnclosesBy s t margin
unseen Across s t margin h = record { left = h.left; right = h.right; bottom = h.bottom; top = h.top }
unseen Up s t margin h = record { left = h.bottom; right = h.top; bottom = h.left; top = h.right }

-- the diffusion of the mask of an owner covers a piece of it
pub record IsUnderMask (tech : Tech) (plan : Plan) (masters : List Master) (layouts : List Coords)
    (a : InstanceItem) : Type 0 where
  pub mask : ℕ
  pub owned : IsOwned plan masters Dm (item_of plan masters a).owner (at a.spot mask)
  pub covers : EnclosesBy (sides_of_drawn tech plan masters layouts (at a.spot mask))
      (sides_of_drawn tech plan masters layouts a) (pos 0)

module _ (tech : Tech) (plan : Plan) (masters : List Master) (layouts : List Coords)
    (done : IsDone tech plan masters layouts) where
  fet_sizes : (spot : InstancePlace) (k : ℕ) (depletion : Bool) (gate : Axis2) (w l : ℤ)
      → IsTransistorAt plan masters spot k depletion gate w l → pos 2 ≤ℤ l
  fet_sizes spot k depletion gate w l fet =
      let m = master_is tech plan masters spot done.planned fet.there in
      let kind =
      subst (IsKind tech) fet.kind (node_sound tech (master_of plan masters spot).cell k m.sound fet.node).kind in
      kind.1.low

  -- the pieces of a transistor
  fet_covers : (a : InstanceItem) (k : ℕ) (depletion : Bool) (gate : Axis2) (w l : ℤ) → IsOwned plan masters Dc k a
      → IsTransistorAt plan masters a.spot k depletion gate w l → (n : ℕ) → IsOwned plan masters Dm k (at a.spot n)
      → EnclosesBy (sides_of_drawn tech plan masters layouts (at a.spot n))
      (sides_of_drawn tech plan masters layouts a) (pos 0)
  fet_covers a k depletion gate w l owned fet n mask =
      let boxes = transistors_have tech plan masters layouts done.planned a.spot k depletion gate w l fet in
      let S : ℕ → Sides = seen tech plan masters layouts gate a.spot in
      let low_l = fet_sizes a.spot k depletion gate w l fet in
      let bottom = boxes.cross.bottom in
      let top = boxes.cross.top in
      let long = boxes.cross.long in
      let high_c : (S boxes.channel).top ≡ int_min (S boxes.poly).top (S boxes.diffusion).top =
      ap (λ (s : Sides). s.top) boxes.cross.shared in
      let low_c : (S boxes.channel).bottom ≡ int_max (S boxes.poly).bottom (S boxes.diffusion).bottom =
      ap (λ (s : Sides). s.bottom) boxes.cross.shared in
      let below_mask : (S boxes.channel).bottom ≤ℤ (S boxes.diffusion).top =
      omega (arith, ints, clamps, low_l, long, high_c) in
      let above_mask : (S boxes.diffusion).bottom ≤ℤ (S boxes.channel).top =
      omega (arith, ints, clamps, low_l, long, low_c) in
      let E : Sides → Type 0 = λ s. EnclosesBy (S boxes.diffusion) s (pos 0) in
      let of_low : E (S boxes.low) =
      subst E (sym boxes.lies_below)
      (record {
        left = omega (arith, ints);
        right = omega (arith, ints);
        bottom = omega (arith, ints);
        top = omega (arith, ints, below_mask);
      }) in
      let of_high : E (S boxes.high) =
      subst E (sym boxes.lies_above)
      (record {
        left = omega (arith, ints);
        right = omega (arith, ints);
        bottom = omega (arith, ints, above_mask);
        top = omega (arith, ints);
      }) in
      let over : E (S a.item) =
      elim (boxes.two_chunks a.item owned) [
        | inl e ↦ subst (λ (i : ℕ). E (S i)) (sym e) of_low
        | inr e ↦
            subst (λ (i : ℕ). E (S i)) (sym e) of_high
      ] in
      unseen gate _ _ (pos 0)
      (subst (λ (i : ℕ). EnclosesBy (S i) (S a.item) (pos 0)) (sym (boxes.one_diffusion n mask)) over)

  piece_covers : (a : InstanceItem) (n : ℕ) → IsOfClass plan masters Dc a
      → IsOwned plan masters Dm (item_of plan masters a).owner (at a.spot n)
      → IsOnePiece tech plan masters layouts (at a.spot n)
      → EnclosesBy (sides_of_drawn tech plan masters layouts (at a.spot n))
      (sides_of_drawn tech plan masters layouts a) (pos 0)
  piece_covers a n h mask one =
      let is : a.item ≡ one.piece =
      one.one_chunk a.item (record { drawn = h.drawn; of_class = h.of_class; owned = sym mask.owned }) in
      let there : sides_of_drawn tech plan masters layouts (at a.spot n) ≡ sides_of_drawn tech plan masters layouts a =
      sym one.lies_there ∙ ap (λ (i : ℕ). sides_of_drawn tech plan masters layouts (at a.spot i)) (sym is) in
      subst (λ (s : Sides). EnclosesBy (sides_of_drawn tech plan masters layouts (at a.spot n)) s (pos 0)) there
      (encloses_itself (sides_of_drawn tech plan masters layouts (at a.spot n)))

  pub under_mask : (a : InstanceItem) → IsOfClass plan masters Dc a → IsUnderMask tech plan masters layouts a
  under_mask a h =
      let some = pieces_have_masks tech plan masters done.planned a h in
      let mask = some.1 in
      let over : EnclosesBy (sides_of_drawn tech plan masters layouts (at a.spot some.0))
      (sides_of_drawn tech plan masters layouts a) (pos 0) =
      elim (diffusion_conducts tech plan masters done.planned layouts (at a.spot some.0)
      (record { drawn = mask.drawn; of_class = mask.of_class })) [
        | inl one ↦ piece_covers a some.0 h mask one
        | inr (k, depletion, gate, w, l, fet, own) ↦
            let owner : (item_of plan masters a).owner ≡ k = sym mask.owned ∙ own in
            fet_covers a k depletion gate w l (record { drawn = h.drawn; of_class = h.of_class; owned = owner }) fet
            some.0 (record { drawn = mask.drawn; of_class = mask.of_class; owned = own })
      ] in
      record { mask = some.0; owned = mask; covers = over }
