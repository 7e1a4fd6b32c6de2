-- The cuts of all instances: squares, one for each contact, inside its boxes by the enclosure.
use Rattle.std.proofs.Common.{◌≡◌, ℕ, ◌+◌, ◌<◌, ℤ, pos, ◌+ℤ◌, ◌*ℤ◌, List, length, refl, sym, ap, ◌∙◌, subst, arith, inl}
use Rattle.std.proofs.{Common.{inr, ◌⊎◌}, lemmas.{Bool.cases_lt, Int.ints, List.get_or_past}}
use Rattle.rule_table.specs.declared.{technology.Tech.Tech, classes.Class.{Class, TheVariants.{M, P, Dm, C}}}
use Rattle.rule_table.specs.declared.{classes.Layer.{Layer, TheVariants.{Diffusion, Poly, Metal}}, keys.Numbers.Numbers}
use Rattle.rule_table.{specs.{Spacing.pad_in, Technology.{numbers_of, pad_of}}, proofs.Widths.pad_even}
use Rattle.sym_items.specs.{declared.items.{Coords.Coords, Item.Item}, Sides.sides_in}
use Rattle.cell_model.specs.declared.cell.{Node.Node, NodeKind.{NodeKind, TheVariants.{Joint, Contact}}}
use Rattle.cell_model.specs.{declared.cell.NodeNets.NodeNets, Sound.{IsKind, no_node, node_at}}
use Rattle.pair_rules.specs.Bound.{item_at}
use Rattle.expand.specs.{declared.master.Master.Master, Masters.IsMaster, Variables.half, NodeItems.square_round}
use Rattle.expand.{specs.{NodeItems.kind_items, Items.nets_at}, proofs.{Among.sound_numbers, Cells.node_sound}}
use Rattle.plan_model.specs.declared.plan.Plan.{Plan}
use Rattle.instance_laws.specs.{Rules.{shifted_sides, items_at}, Conductors.{InstanceItem, item_of, sides_of_drawn}}
use Rattle.instance_laws.specs.Meetings.{master_of, at, IsOfClass, EnclosesBy}
use Rattle.instance_laws.proofs.{Gaps.IsDone, Meeting.master_is, MeetingRuns.{IsRun, found}, MeetingBlocks.run_node}
use Rattle.instance_laws.proofs.{MeetingBlocks.{stands_in, only_place}, MeetingCuts.{ContactOf, contact_of}}
use Rattle.instance_laws.proofs.MeetingGaps.{layout_of, x_of, y_of}
use Rattle.masks_meet_rules.specs.Items.{IsSquare, IsCoveredBy, OwnersHaveOneCut}

-- ---- in the block of a contact

-- its cut stands second
second : (tech : Tech) (k : ℕ) (lower : Layer) (nets : NodeNets) (j : ℕ)
    → j < length (kind_items tech k (Contact lower) nets)
    → (item_at (kind_items tech k (Contact lower) nets) j).class ≡ C → j ≡ 1
second tech k Metal nets j lt e = only_place j 1 (found C (kind_items tech k (Contact Metal) nets) j lt e)
second tech k lower nets j lt e = only_place j 1 (found C (kind_items tech k (Contact lower) nets) j lt e)

-- a node of this kind is among the nodes
node_among : (nodes : List Node) (k : ℕ) (lower : Layer) → (node_at nodes k).kind ≡ Contact lower → k < length nodes
node_among nodes k lower e = elim (cases_lt k (length nodes)) [
  | inl lt ↦ lt
  | inr le ↦
      let none : (node_at nodes k).kind ≡ no_node.kind = ap (λ (n : Node). n.kind) (get_or_past nodes k no_node le) in
      let same : Joint Metal (pos 0) ≡ Contact lower = sym none ∙ e in
      absurd cc
]

-- ---- squares

-- half the pad is half the cut and the enclosure
half_pad : (tech : Tech) → (half (numbers_of tech).cut_size +ℤ (numbers_of tech).cut_enclosure) ≡ half (pad_of tech)
unfolding pad_in
half_pad tech =
    let n = sound_numbers tech in
    halved (numbers_of tech) (half (numbers_of tech).cut_size) (half (pad_of tech)) n.cut_size.even
    (pad_even (numbers_of tech) n)
  where
    halved : (n : Numbers) (c p : ℤ) → (pos 2 *ℤ c) ≡ n.cut_size → (pos 2 *ℤ p) ≡ pad_in n → (c +ℤ n.cut_enclosure) ≡ p
    halved n c p e f = omega (arith, ints, e, f)

square_covers : (x y : ℤ) (layout : Coords) (k : ℕ) (class cut : Class) (net : ℕ) (big small margin : ℤ)
    → (small +ℤ margin) ≡ big
    → EnclosesBy (shifted_sides x y (sides_in layout (square_round k class net big)))
    (shifted_sides x y (sides_in layout (square_round k cut net small))) margin
square_covers x y layout k class cut net big small margin e =
    record {
      left = omega (arith, ints, e);
      right = omega (arith, ints, e);
      bottom = omega (arith, ints, e);
      top = omega (arith, ints, e);
    }

square_is : (x y : ℤ) (layout : Coords) (k : ℕ) (class : Class) (net : ℕ) (h side : ℤ) → (pos 2 *ℤ h) ≡ side
    → IsSquare side (shifted_sides x y (sides_in layout (square_round k class net h)))
square_is x y layout k class net h side e = record { across = omega (arith, ints, e); up = omega (arith, ints, e) }

-- ---- in all instances

module _ (tech : Tech) (plan : Plan) (masters : List Master) (layouts : List Coords)
    (done : IsDone tech plan masters layouts) (cut : InstanceItem) (is_cut : IsOfClass plan masters C cut) where
  own_master : IsMaster tech (master_of plan masters cut.spot)
  own_master = master_is tech plan masters cut.spot done.planned is_cut.drawn.spot

  contact : ContactOf tech plan masters layouts cut
  contact = contact_of tech plan masters layouts done cut is_cut

  among : contact.k < length (master_of plan masters cut.spot).cell.nodes
  among = node_among (master_of plan masters cut.spot).cell.nodes contact.k contact.lower contact.kind

  abbrev nets : NodeNets
  nets = nets_at own_master.items.nets.node contact.k

  abbrev list : List Item
  list = items_at plan masters cut.spot

  abbrev block : Layer → List Item
  block lower = kind_items tech contact.k (Contact lower) nets

  run : IsRun list (block contact.lower) contact.k
  run = subst (λ (kind : NodeKind). IsRun list (kind_items tech contact.k kind nets) contact.k) contact.kind
      (run_node tech (master_of plan masters cut.spot) own_master contact.k among)

  -- a cut of this contact
  place : (n : ℕ) → n < length list → (item_at list n).owner ≡ (item_of plan masters cut).owner
      → (item_at list n).class ≡ C → n ≡ run.first + 1
  place n lt owner class =
      let there = stands_in list (block contact.lower) contact.k n run lt (owner ∙ contact.owner) in
      there.place
      ∙ ap (λ (j : ℕ). run.first + j)
      (second tech contact.k contact.lower nets there.j there.among
      (sym (ap (λ (i : Item). i.class) there.is) ∙ class))

  cut_is : item_of plan masters cut ≡ square_round contact.k C nets.main (half (numbers_of tech).cut_size)
  cut_is = ap (item_at list) (place cut.item is_cut.drawn.among refl is_cut.of_class) ∙ run.at 1 (omega arith)

  pub cuts_are_square : IsSquare (numbers_of tech).cut_size (sides_of_drawn tech plan masters layouts cut)
  cuts_are_square =
      let x = x_of tech plan layouts cut.spot in
      let y = y_of plan layouts cut.spot in
      let layout = layout_of plan layouts cut.spot in
      subst (λ (i : Item). IsSquare (numbers_of tech).cut_size (shifted_sides x y (sides_in layout i))) (sym cut_is)
      (square_is x y layout contact.k C nets.main (half (numbers_of tech).cut_size) (numbers_of tech).cut_size
      (sound_numbers tech).cut_size.even)

  -- a pad of it, on some layer
  pad_covers : (lower : Layer) (r : IsRun list (block lower) contact.k) (j : ℕ) (class : Class)
      → j < length (block lower)
      → item_at (block lower) j ≡ square_round contact.k class nets.main (half (pad_of tech))
      → IsCoveredBy tech plan masters layouts class cut
  pad_covers lower r j class lt is =
      let there : item_at list (r.first + j) ≡ square_round contact.k class nets.main (half (pad_of tech)) = r.at j lt
      ∙ is in
      let within = r.within in
      let x = x_of tech plan layouts cut.spot in
      let y = y_of plan layouts cut.spot in
      let layout = layout_of plan layouts cut.spot in
      let margin : ℤ = (numbers_of tech).cut_enclosure in
      let over = square_covers x y layout contact.k class C nets.main (half (pad_of tech))
      (half (numbers_of tech).cut_size) margin (half_pad tech) in
      let E : Item → Item → Type 0 =
      λ i c. EnclosesBy (shifted_sides x y (sides_in layout i)) (shifted_sides x y (sides_in layout c)) margin in
      record {
        cover = at cut.spot (r.first + j);
        of_class =
            record {
              drawn = record { spot = is_cut.drawn.spot; among = omega (arith, within, lt) };
              of_class = ap (λ (i : Item). i.class) there;
            };
        covers = subst (λ (i : Item). E i (item_of plan masters cut)) (sym there)
            (subst (λ (c : Item). E (square_round contact.k class nets.main (half (pad_of tech))) c) (sym cut_is)
            over);
      }

  metal_covers : (lower : Layer) → IsRun list (block lower) contact.k → IsCoveredBy tech plan masters layouts M cut
  metal_covers lower r = pad_covers lower r 0 M (omega arith) refl

  lower_covers : (lower : Layer) → IsRun list (block lower) contact.k → (lower ≡ Metal → ⊥)
      → IsCoveredBy tech plan masters layouts P cut ⊎ IsCoveredBy tech plan masters layouts Dm cut
  lower_covers Metal r no_metal = absurd (no_metal refl)
  lower_covers Poly r no_metal = inl (pad_covers Poly r 2 P (omega arith) refl)
  lower_covers Diffusion r no_metal = inr (pad_covers Diffusion r 2 Dm (omega arith) refl)

  pub cuts_are_covered : IsCoveredBy tech plan masters layouts M cut
      × (IsCoveredBy tech plan masters layouts P cut ⊎ IsCoveredBy tech plan masters layouts Dm cut)
  cuts_are_covered = (
    metal_covers contact.lower run,
    lower_covers contact.lower run
        (subst (IsKind tech) contact.kind
        (node_sound tech (master_of plan masters cut.spot).cell contact.k own_master.sound among).kind),
  )

-- ---- the laws

module _ (tech : Tech) (plan : Plan) (masters : List Master) (layouts : List Coords)
    (done : IsDone tech plan masters layouts) where
  pub owners_have_one_cut : OwnersHaveOneCut plan masters
  owners_have_one_cut spot k m n a b =
      let first : IsOfClass plan masters C (at spot m) = record { drawn = a.drawn; of_class = a.of_class } in
      let P : ℕ → Type 0 = λ i. i ≡ (run tech plan masters layouts done (at spot m) first).first + 1 in
      let of_first : P m = place tech plan masters layouts done (at spot m) first m a.drawn.among refl a.of_class in
      let of_second : P n = place tech plan masters layouts done (at spot m) first n b.drawn.among
      (b.owned ∙ sym a.owned) b.of_class in
      of_first ∙ sym of_second
