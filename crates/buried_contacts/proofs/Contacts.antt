-- What holds of the items that stand at buried contacts, and of poly and diffusion that overlap.
use Rattle.std.proofs.Common.{◌≡◌, ◌≢◌, ℕ, ◌<◌, ℤ, pos, ◌+ℤ◌, ◌-ℤ◌, ◌≤ℤ◌, Bool, true, false, not, [], ◌∷◌, length}
use Rattle.std.proofs.Common.{Option, Some, refl, sym, ap, ◌∙◌, subst, arith, inl, inr, ◌⊎◌}
use Rattle.std.proofs.lemmas.{Bool.{cases_Bool, cases_eq}, Int.ints, List.get_or_default}
use Rattle.std.specs.{Prelude.{IsTrue, IfSome, neg_ℤ}, List.{Any, flat_map, range_with_len}}
use Rattle.lam_geom.specs.declared.boxes.Side.{Side, TheVariants.{Left, Right}}
use Rattle.rule_table.specs.declared.{technology.Tech.Tech, classes.Class.{Class, TheVariants.{P, Dm, Dc, G, B}}}
use Rattle.rule_table.specs.{declared.classes.{Layer.TheVariants.{Diffusion, Poly}, Rule.Rule}, Spacing.spacing_in}
use Rattle.rule_table.{specs.Technology.{numbers_of, has_buried_of, spacing_of}, proofs.Versions.buried_spacing}
use Rattle.sym_items.specs.{declared.items.{Item.Item, Items.Items, Coords.Coords}, Values.value_of, Sides.Sides}
use Rattle.sym_items.specs.{Sides.{sides_in, gap_in}, Standing.{nowhere, StandsAt, StandTogether, stand_together}}
use Rattle.sym_items.proofs.Together.{together_exactly}
use Rattle.cell_model.specs.declared.cell.NodeKind.{NodeKind, TheVariants.{Joint, Contact, Buried, Fet}}
use Rattle.cell_model.specs.{declared.cell.{WireEnd.WireEnd, Nets.Nets, Cell.Cell}, Wiring.{buried_pad, axis_of}}
use Rattle.cell_model.specs.{Wiring.is_low_side, Sound.{node_at, wire_at, IsKind, IsEnd, IsBuriedEnd, LeaveOneSide}}
use Rattle.cell_model.specs.declared.cell.WireEnd.TheVariants as ends
use Rattle.pair_rules.specs.{Bound.{no_item, is_poly_on_diffusion, IsBound, bound_spacing}, Clean.IsSpaced}
use Rattle.pair_rules.proofs.BoundItems.{bound_exactly}
use Rattle.list_facts.proofs.Some.{any_here, any_there, any_left, any_flat_map, any_range}
use Rattle.expand.specs.{declared.master.Master.Master, Masters.IsMaster, Variables.{half, centre}}
use Rattle.expand.specs.{NodeItems.kind_items, Items.{nets_at, items_of_node, items_of_wire, item_list}}
use Rattle.expand.specs.WireItems.{contact_of_kind, contact_at}
use Rattle.expand.proofs.{Among.sound_numbers, Cells.{node_sound, wire_sound}}
use Rattle.buried_contacts.specs.Contacts.{IsFinished, item_of, sides_of_item, IsItem, kind_of, IsBuried, square_at}
use Rattle.buried_contacts.specs.Contacts.{pad_at, window_at, common, end_of_wire, WiresCoverPads, Overlap}
use Rattle.buried_contacts.specs.Contacts.{IsTransistor, AreOfOneTransistor, HasBox, HaveWindows, HavePads}
use Rattle.buried_contacts.proofs.Owners.{LayerHas, ContactHas, PadHas, TransistorHas, StandsNowhere, IsSquareAt}
use Rattle.buried_contacts.proofs.Owners.{IsOfKind, IsBoxOfWire, IsOwned, item_keeps, items_owned, box_of_owner}
use Rattle.buried_contacts.proofs.{Pads.wire_covers, Shares.{RunsOn, pad_runs, leaves, along_of, end_of, covers_runs}}
use Rattle.buried_contacts.proofs.Shares.{share_pad, beside, is_beside}

-- ---- what stands at the square of a contact

square_of : (layout : Coords) (k : ℕ) (reach : ℤ) (i : Item) → IsSquareAt k reach i
    → sides_in layout i ≡ square_at layout k reach
square_of layout k reach i e = ap (sides_in layout) e
    ∙ there (value_of layout.x (centre k)) (value_of layout.y (centre k)) reach
  where
    less : (x r : ℤ) → (x +ℤ neg_ℤ r) ≡ (x -ℤ r)
    less x r = omega (arith, ints)

    there : (x y r : ℤ)
        → (let s : Sides = record { left = x +ℤ neg_ℤ r; right = x +ℤ r; bottom = y +ℤ neg_ℤ r; top = y +ℤ r } in s)
        ≡ (let t : Sides = record { left = x -ℤ r; right = x +ℤ r; bottom = y -ℤ r; top = y +ℤ r } in t)
    there x y r =
        ap (λ (z : ℤ). let s : Sides = record { left = z; right = x +ℤ r; bottom = y +ℤ neg_ℤ r; top = y +ℤ r } in s)
        (less x r)
        ∙ ap (λ (z : ℤ). let s : Sides = record { left = x -ℤ r; right = x +ℤ r; bottom = z; top = y +ℤ r } in s)
        (less y r)

-- no node has the number that stands for none
few_nodes : (tech : Tech) (master : Master) (k : ℕ) → IsMaster tech master → k < length master.cell.nodes → k ≢ nowhere
few_nodes tech master k m lt = λ e. let light = m.light in omega (arith, lt, light, e)

stands_at_own : (k : ℕ) (reach : ℤ) (i : Item) → k ≢ nowhere → IsSquareAt k reach i → StandsAt i k
stands_at_own k reach i ne e = (ne, inl (ap (λ (j : Item). j.at_low) e))

-- ---- items of nodes, by their kinds

-- a window is that of a buried contact
window_of : (tech : Tech) (k : ℕ) (kind : NodeKind) (i : Item) → IsOfKind tech k kind i → i.class ≡ B
    → (kind ≡ Buried) × IsSquareAt k (half (buried_pad tech) +ℤ (numbers_of tech).extension_buried) i
window_of tech k (Joint layer width) i h e = absurd (subst (LayerHas layer) e h.1)
window_of tech k (Contact lower) i h e = absurd (subst (ContactHas lower) e h.1)
window_of tech k Buried i (inl h) e = absurd (subst PadHas e h.0)
window_of tech k Buried i (inr h) e = (refl, h.1)
window_of tech k (Fet depletion gate w l) i h e = absurd (subst TransistorHas e h.1)

-- a buried contact has no channel
no_channel : (tech : Tech) (k : ℕ) (i : Item) → IsOfKind tech k Buried i → i.class ≡ G → ⊥
no_channel tech k i (inl h) e = subst PadHas e h.0
no_channel tech k i (inr h) e = absurd (let both : B ≡ G = sym h.0 ∙ e in cc)

-- poly and diffusion of one node are a transistor's, or stand at it
both_of : (tech : Tech) (k : ℕ) (kind : NodeKind) (i j : Item) → k ≢ nowhere → IsOfKind tech k kind i
    → IsOfKind tech k kind j → i.class ≡ P → j.class ≡ Dm → IsTransistor kind ⊎ StandTogether i j
both_of tech k (Joint layer width) i j ne h g e f =
    let poly : layer ≡ Poly = subst (LayerHas layer) e h.1 in
    let diffusion : layer ≡ Diffusion = subst (LayerHas layer) f g.1 in
    absurd cc
both_of tech k (Contact lower) i j ne h g e f =
    let poly : lower ≡ Poly = subst (ContactHas lower) e h.1 in
    let diffusion : lower ≡ Diffusion = subst (ContactHas lower) f g.1 in
    absurd cc
both_of tech k Buried i j ne h g e f = inr (k, own i h, own j g)
  where
    own : (i : Item) → IsOfKind tech k Buried i → StandsAt i k
    own i (inl h) = stands_at_own k _ i ne h.1
    own i (inr h) = stands_at_own k _ i ne h.1
both_of tech k (Fet depletion gate w l) i j ne h g e f = inl tt

-- an item of a node that stands at a contact and is no window is the square of its pad
nowhere_else : (n : ℕ) (i : Item) → StandsNowhere i → StandsAt i n → ⊥
nowhere_else n i s (ne, inl e) = ne (sym e ∙ s.low)
nowhere_else n i s (ne, inr e) = ne (sym e ∙ s.high)

square_stands : (k n : ℕ) (reach : ℤ) (i : Item) → IsSquareAt k reach i → StandsAt i n → k ≡ n
square_stands k n reach i e (ne, inl f) = sym (ap (λ (j : Item). j.at_low) e) ∙ f
square_stands k n reach i e (ne, inr f) = sym (ap (λ (j : Item). j.at_high) e) ∙ f

pad_of_kind : (tech : Tech) (k n : ℕ) (kind : NodeKind) (i : Item) → IsOfKind tech k kind i → PadHas i.class
    → StandsAt i n → (kind ≡ Buried) × (k ≡ n) × IsSquareAt k (half (buried_pad tech)) i
pad_of_kind tech k n (Joint layer width) i h p s = absurd (nowhere_else n i h.0 s)
pad_of_kind tech k n (Contact lower) i h p s = absurd (nowhere_else n i h.0 s)
pad_of_kind tech k n Buried i (inl h) p s = (refl, square_stands k n _ i h.1 s, h.1)
pad_of_kind tech k n Buried i (inr h) p s = absurd (subst PadHas h.0 p)
pad_of_kind tech k n (Fet depletion gate w l) i h p s = absurd (nowhere_else n i h.0 s)

-- a terminal at which a wire stands is that buried contact
pub stands_there : (cell : Cell) (end : WireEnd) (n : ℕ) → n ≢ nowhere → contact_at cell end ≡ n
    → (end ≡ ends.Node n) × ((node_at cell.nodes n).kind ≡ Buried)
stands_there cell (ends.Port j) n ne e = absurd (ne (sym e))
stands_there cell (ends.Node j) n ne e = of_kind (node_at cell.nodes j).kind refl e
  where
    of_kind : (kind : NodeKind) → (node_at cell.nodes j).kind ≡ kind → contact_of_kind j kind ≡ n
        → (ends.Node j ≡ ends.Node n) × ((node_at cell.nodes n).kind ≡ Buried)
    of_kind (Joint layer width) is e = absurd (ne (sym e))
    of_kind (Contact lower) is e = absurd (ne (sym e))
    of_kind Buried is e = (ap ends.Node e, ap (λ (i : ℕ). (node_at cell.nodes i).kind) (sym e) ∙ is)
    of_kind (Fet depletion gate w l) is e = absurd (ne (sym e))

-- a fact of one of four items
first_of : (Q : Item → Type 0) (a b c d : Item) → Q a → Any Q (a ∷ b ∷ c ∷ d ∷ [])
first_of Q a b c d h = any_here Q a (b ∷ c ∷ d ∷ []) h

second_of : (Q : Item → Type 0) (a b c d : Item) → Q b → Any Q (a ∷ b ∷ c ∷ d ∷ [])
second_of Q a b c d h = any_there Q a (b ∷ c ∷ d ∷ []) (any_here Q b (c ∷ d ∷ []) h)

third_of : (Q : Item → Type 0) (a b c d : Item) → Q c → Any Q (a ∷ b ∷ c ∷ d ∷ [])
third_of Q a b c d h = any_there Q a (b ∷ c ∷ d ∷ []) (any_there Q b (c ∷ d ∷ []) (any_here Q c (d ∷ []) h))

fourth_of : (Q : Item → Type 0) (a b c d : Item) → Q d → Any Q (a ∷ b ∷ c ∷ d ∷ [])
fourth_of Q a b c d h =
    any_there Q a (b ∷ c ∷ d ∷ []) (any_there Q b (c ∷ d ∷ []) (any_there Q c (d ∷ []) (any_here Q d [] h)))

-- a fact of an item of a buried contact is one of an item of its cell
buried_among : (tech : Tech) (cell : Cell) (nets : Nets) (k : ℕ) (Q : Item → Type 0) → k < length cell.nodes
    → (node_at cell.nodes k).kind ≡ Buried
    → Any Q (kind_items tech k Buried (nets_at nets.node k)) → Any Q (item_list tech cell nets)
unfolding item_list
buried_among tech cell nets k Q lt e here =
    let own : Any Q (items_of_node tech cell nets k) =
    subst (λ (kind : NodeKind). Any Q (kind_items tech k kind (nets_at nets.node k))) (sym e) here in
    any_left Q (flat_map (items_of_node tech cell nets) (range_with_len 0 (length cell.nodes)))
    (flat_map (items_of_wire tech cell nets) (range_with_len 0 (length cell.wires)))
    (any_flat_map (λ (n : ℕ). n ≡ k) Q (items_of_node tech cell nets) (range_with_len 0 (length cell.nodes))
    (λ n same. subst (λ (l : ℕ). Any Q (items_of_node tech cell nets l)) (sym same) own)
    (any_range (λ (n : ℕ). n ≡ k) 0 (length cell.nodes) k (omega arith) (omega (arith, lt)) refl))

-- ---- rules

clean_gap : (tech : Tech) (layout : Coords) (a b : Item) (s : ℤ) → IsSpaced tech layout a b → IsBound tech a b s
    → s ≤ℤ gap_in layout a b
clean_gap tech layout a b s clean bound =
    subst (λ (o : Option ℤ). IfSome o (λ (z : ℤ). z ≤ℤ gap_in layout a b))
    ((bound_exactly tech a b (bound_spacing tech a b) refl s).1 bound) clean

abbrev pub poly_rule : Tech → Rule
poly_rule tech = record { s = (numbers_of tech).spacing_poly_diffusion; net_exempt = false }

abbrev pub window_rule : Tech → Rule
window_rule tech = record { s = (numbers_of tech).spacing_buried_channel; net_exempt = false }

pub of_classes : (tech : Tech) (a b c d : Class) (o : Option Rule) → a ≡ c → b ≡ d → spacing_of tech c d ≡ o
    → spacing_of tech a b ≡ o
of_classes tech a b c d o e f h = ap (λ x. spacing_of tech x b) e ∙ (ap (λ x. spacing_of tech c x) f ∙ h)

pub poly_ruled : (tech : Tech) → spacing_of tech P Dm ≡ Some (poly_rule tech)
unfolding spacing_in
poly_ruled tech = refl

pub window_ruled : (tech : Tech) → has_buried_of tech ≡ true → spacing_of tech B G ≡ Some (window_rule tech)
unfolding spacing_in
window_ruled tech e = rw e refl

-- no net frees poly from diffusion, and nothing joins a window and a channel
no_nets_free : (tech : Tech) (n m : ℕ) → IsTrue (poly_rule tech).net_exempt → n ≢ m
no_nets_free tech n m exempt = λ e. absurd cc

no_nets_free_windows : (tech : Tech) (n m : ℕ) → IsTrue (window_rule tech).net_exempt → n ≢ m
no_nets_free_windows tech n m exempt = λ e. absurd cc

never_joined : (a b : Class) → a ≡ B → b ≡ G → IsTrue (is_poly_on_diffusion a b) → ⊥
never_joined a b e f h =
    let off : is_poly_on_diffusion a b ≡ false = ap (λ x. is_poly_on_diffusion x b) e
    ∙ ap (λ x. is_poly_on_diffusion B x) f in
    absurd cc

module _ (tech : Tech) (master : Master) (m : IsMaster tech master) where
  owned : (i : ℕ) → IsItem master i → IsOwned tech master.cell m.items.nets (item_of master i)
  owned i lt = items_owned tech master m i no_item lt

  -- ---- windows

  pub windows_hold : (layout : Coords) (i : ℕ) → IsItem master i → (item_of master i).class ≡ B
      → IsBuried master (item_of master i).owner
      × (sides_of_item master layout i ≡ window_at tech layout (item_of master i).owner)
  windows_hold layout i lt e = of_owner (owned i lt)
    where
      of_owner : IsOwned tech master.cell m.items.nets (item_of master i)
          → IsBuried master (item_of master i).owner
          × (sides_of_item master layout i ≡ window_at tech layout (item_of master i).owner)
      of_owner (inl (k, h)) =
          let window = window_of tech k (kind_of master k) (item_of master i) h.is e in
          let P : ℕ → Type 0 = λ n. IsBuried master n × (sides_of_item master layout i ≡ window_at tech layout n) in
          subst P (sym h.owner) ((h.among, window.0), square_of layout k _ (item_of master i) window.1)
      of_owner (inr (w, h)) = absurd (subst (LayerHas (wire_at master.cell.wires w).layer) e h.class)

  -- ---- poly and diffusion

  one_owner : (i j : ℕ) → IsItem master i → IsItem master j → (item_of master i).class ≡ P
      → (item_of master j).class ≡ Dm → (item_of master i).owner ≡ (item_of master j).owner
      → AreOfOneTransistor master i j ⊎ StandTogether (item_of master i) (item_of master j)
  one_owner i j lt less e f same = by_owners (owned i lt) (owned j less)
    where
      by_owners : IsOwned tech master.cell m.items.nets (item_of master i)
          → IsOwned tech master.cell m.items.nets (item_of master j)
          → AreOfOneTransistor master i j ⊎ StandTogether (item_of master i) (item_of master j)
      by_owners (inl (k, h)) (inl (l, g)) =
          let one : l ≡ k = sym g.owner ∙ (sym same ∙ h.owner) in
          let there : IsOfKind tech k (kind_of master k) (item_of master j) =
          subst (λ (n : ℕ). IsOfKind tech n (kind_of master n) (item_of master j)) one g.is in
          let T : ℕ → Type 0 = λ n. (n < length master.cell.nodes) × IsTransistor (kind_of master n) in
          elim (both_of tech k (kind_of master k) (item_of master i) (item_of master j)
          (few_nodes tech master k m h.among) h.is there e f) [
            | inl fet ↦ let own : T (item_of master i).owner =
                subst T (sym h.owner) (h.among, fet) in inl (same, own.0, own.1)
            | inr together ↦ inr together
          ]
      by_owners (inl (k, h)) (inr (w, g)) =
          let own = (item_keeps tech master.cell m.items.nets (item_of master j) w g).owner in
          let low = h.among in
          let other = h.owner in
          absurd (omega (arith, own, low, other, same))
      by_owners (inr (v, h)) (inl (l, g)) =
          let own = (item_keeps tech master.cell m.items.nets (item_of master i) v h).owner in
          let low = g.among in
          let other = g.owner in
          absurd (omega (arith, own, low, other, same))
      by_owners (inr (v, h)) (inr (w, g)) =
          let own_i = (item_keeps tech master.cell m.items.nets (item_of master i) v h).owner in
          let own_j = (item_keeps tech master.cell m.items.nets (item_of master j) w g).owner in
          let one : w ≡ v = omega (arith, own_i, own_j, same) in
          let poly : (wire_at master.cell.wires v).layer ≡ Poly =
          subst (LayerHas (wire_at master.cell.wires v).layer) e h.class in
          let on_w : (wire_at master.cell.wires w).layer ≡ Diffusion =
          subst (LayerHas (wire_at master.cell.wires w).layer) f g.class in
          let diffusion : (wire_at master.cell.wires v).layer ≡ Diffusion =
          subst (λ (n : ℕ). (wire_at master.cell.wires n).layer ≡ Diffusion) one on_w in
          absurd cc

  pub overlap_there : (layout : Coords) → IsFinished tech master layout → (i j : ℕ) → IsItem master i
      → IsItem master j → (item_of master i).class ≡ P → (item_of master j).class ≡ Dm → Overlap master layout i j
      → AreOfOneTransistor master i j ⊎ StandTogether (item_of master i) (item_of master j)
  overlap_there layout done i j lt less e f lies =
      let a = item_of master i in
      let b = item_of master j in
      elim (cases_eq a.owner b.owner) [
        | inl same ↦ one_owner i j lt less e f same
        | inr differ ↦ elim (cases_Bool (stand_together a b)) [
          | inl t ↦ inr ((together_exactly a b).0 t)
          | inr n ↦
              let bound : IsBound tech a b (poly_rule tech).s = record {
                owners = differ;
                rule = poly_rule tech;
                ruled = of_classes tech a.class b.class P Dm (Some (poly_rule tech)) e f (poly_ruled tech);
                spacing = refl;
                nets = no_nets_free tech a.net b.net;
                apart = λ poly together. let t = (together_exactly a b).1 together in absurd cc;
              } in
              let kept = clean_gap tech layout a b (poly_rule tech).s (done.clean i j lt less) bound in
              let low : pos 1 ≤ℤ (poly_rule tech).s = (sound_numbers tech).spacings.poly_diffusion in
              absurd (omega (arith, ints, kept, low, lies))
        ]
      ]

  -- ---- items at one contact

  -- an item is a box of a wire that ends at contact n
  abbrev IsAtEnd : ℕ → ℕ → Type 0
  IsAtEnd i n = (w : ℕ) × (is_low : Bool) × (end_of_wire master w is_low ≡ ends.Node n)
      × IsBoxOfWire tech master.cell m.items.nets (item_of master i) w

  wire_stands : (i n w : ℕ) → IsBoxOfWire tech master.cell m.items.nets (item_of master i) w
      → StandsAt (item_of master i) n → ((node_at master.cell.nodes n).kind ≡ Buried) × IsAtEnd i n
  wire_stands i n w h (ne, inl e) =
      let keeps = item_keeps tech master.cell m.items.nets (item_of master i) w h in
      let there = stands_there master.cell (wire_at master.cell.wires w).low n ne (sym keeps.at_low ∙ e) in
      (there.1, (w, true, there.0, h))
  wire_stands i n w h (ne, inr e) =
      let keeps = item_keeps tech master.cell m.items.nets (item_of master i) w h in
      let there = stands_there master.cell (wire_at master.cell.wires w).high n ne (sym keeps.at_high ∙ e) in
      (there.1, (w, false, there.0, h))

  -- an end of a wire is among the nodes
  end_among : (w n : ℕ) (is_low : Bool) → w < length master.cell.wires → end_of_wire master w is_low ≡ ends.Node n
      → n < length master.cell.nodes
  end_among w n true lt e = subst (IsEnd master.cell) e (wire_sound tech master.cell w m.sound lt).low
  end_among w n false lt e = subst (IsEnd master.cell) e (wire_sound tech master.cell w m.sound lt).high

  -- a conducting item that stands at a contact is its pad, or a box of a wire that ends there
  at_contact : (layout : Coords) (i n : ℕ) → IsItem master i → PadHas (item_of master i).class
      → StandsAt (item_of master i) n
      → IsBuried master n × ((sides_of_item master layout i ≡ pad_at tech layout n) ⊎ IsAtEnd i n)
  at_contact layout i n lt p s = of_owner (owned i lt)
    where
      of_owner : IsOwned tech master.cell m.items.nets (item_of master i)
          → IsBuried master n × ((sides_of_item master layout i ≡ pad_at tech layout n) ⊎ IsAtEnd i n)
      of_owner (inl (k, h)) =
          let pad = pad_of_kind tech k n (kind_of master k) (item_of master i) h.is p s in
          let square : sides_of_item master layout i ≡ pad_at tech layout k =
          square_of layout k _ (item_of master i) pad.2 in
          let P : ℕ → Type 0 = λ l. IsBuried master l × (sides_of_item master layout i ≡ pad_at tech layout l) in
          let there = subst P pad.1 ((h.among, pad.0), square) in
          (there.0, inl there.1)
      of_owner (inr (w, h)) =
          let there = wire_stands i n w h s in
          ((end_among there.1.0 n there.1.1 there.1.3.among there.1.2, there.0), inr there.1)

  -- two wires that end at one contact on the same side
  one_side : (v w n : ℕ) (is_low : Bool) → (wire_at master.cell.wires v).along ≡ (wire_at master.cell.wires w).along
      → IsBuried master n
      → end_of_wire master v is_low ≡ ends.Node n → end_of_wire master w is_low ≡ ends.Node n
      → LeaveOneSide master.cell (wire_at master.cell.wires v) (wire_at master.cell.wires w)
  one_side v w n true along buried e f = (along, inl (e ∙ sym f, subst (IsBuriedEnd master.cell) (sym e) buried.1))
  one_side v w n false along buried e f = (along, inr (e ∙ sym f, subst (IsBuriedEnd master.cell) (sym e) buried.1))

  -- poly and diffusion leave a contact on different sides
  sides_differ : (i j n : ℕ) → (item_of master i).class ≡ P → (item_of master j).class ≡ Dm → IsBuried master n
      → (a : IsAtEnd i n) → (b : IsAtEnd j n)
      → leaves (wire_at master.cell.wires a.0).along a.1 ≢ leaves (wire_at master.cell.wires b.0).along b.1
  sides_differ i j n e f buried (v, l, at_v, h) (w, r, at_w, g) = λ same.
      let a = wire_at master.cell.wires v in
      let b = wire_at master.cell.wires w in
      let along : a.along ≡ b.along = sym (along_of a.along l) ∙ (ap axis_of same ∙ along_of b.along r) in
      let end : r ≡ l = sym (end_of b.along r)
      ∙ (ap (λ (s : Side). not (is_low_side s)) (sym same) ∙ end_of a.along l) in
      let there : end_of_wire master w l ≡ ends.Node n =
      subst (λ (t : Bool). end_of_wire master w t ≡ ends.Node n) end at_w in
      let layers : a.layer ≡ b.layer = m.sound.sides v w h.among g.among (one_side v w n l along buried at_v there) in
      let poly : a.layer ≡ Poly = subst (LayerHas a.layer) e h.class in
      let diffusion : b.layer ≡ Diffusion = subst (LayerHas b.layer) f g.class in
      absurd cc

  runs_from : (layout : Coords) → IsFinished tech master layout → (i n : ℕ) → IsItem master i → IsBuried master n
      → (a : IsAtEnd i n)
      → RunsOn (leaves (wire_at master.cell.wires a.0).along a.1) (sides_of_item master layout i) (pad_at tech layout n)
  runs_from layout done i n lt buried (w, l, e, h) =
      covers_runs (wire_at master.cell.wires w).along l _ _
      (wire_covers tech master layout m done w n i l buried e lt h)

  pub shared : (layout : Coords) → IsFinished tech master layout → (k i j : ℕ) → IsItem master i → IsItem master j
      → (item_of master i).class ≡ P → (item_of master j).class ≡ Dm
      → StandsAt (item_of master i) k → StandsAt (item_of master j) k
      → IsBuried master k
      × (common (sides_of_item master layout i) (sides_of_item master layout j) ≡ pad_at tech layout k)
  shared layout done k i j lt less e f at_i at_j =
      let a = at_contact layout i k lt (subst PadHas (sym e) tt) at_i in
      let b = at_contact layout j k less (subst PadHas (sym f) tt) at_j in
      (a.0, of_both a.0 a.1 b.1)
    where
      of_both : IsBuried master k → (sides_of_item master layout i ≡ pad_at tech layout k) ⊎ IsAtEnd i k
          → (sides_of_item master layout j ≡ pad_at tech layout k) ⊎ IsAtEnd j k
          → common (sides_of_item master layout i) (sides_of_item master layout j) ≡ pad_at tech layout k
      of_both buried (inl p) (inl q) =
          share_pad Left Right _ _ _ (is_beside Right) (pad_runs Left _ _ p) (pad_runs Right _ _ q)
      of_both buried (inl p) (inr b) =
          let side = leaves (wire_at master.cell.wires b.0).along b.1 in
          share_pad (beside side) side _ _ _ (is_beside side) (pad_runs (beside side) _ _ p)
          (runs_from layout done j k less buried b)
      of_both buried (inr a) (inl q) =
          let side = leaves (wire_at master.cell.wires a.0).along a.1 in
          share_pad side (beside side) _ _ _ (λ s. is_beside side (sym s)) (runs_from layout done i k lt buried a)
          (pad_runs (beside side) _ _ q)
      of_both buried (inr a) (inr b) =
          share_pad _ _ _ _ _ (sides_differ i j k e f buried a b) (runs_from layout done i k lt buried a)
          (runs_from layout done j k less buried b)

  -- ---- windows and channels

  channel_elsewhere : (i j : ℕ) → IsItem master i → IsItem master j → IsBuried master (item_of master i).owner
      → (item_of master j).class ≡ G → (item_of master i).owner ≢ (item_of master j).owner
  channel_elsewhere i j lt less buried f = of_owner (owned j less)
    where
      of_owner : IsOwned tech master.cell m.items.nets (item_of master j)
          → (item_of master i).owner ≢ (item_of master j).owner
      of_owner (inl (k, h)) = λ same.
          let there : kind_of master k ≡ Buried = ap (kind_of master) (sym (same ∙ h.owner)) ∙ buried.1 in
          no_channel tech k (item_of master j)
          (subst (λ (kind : NodeKind). IsOfKind tech k kind (item_of master j)) there h.is) f
      of_owner (inr (w, h)) = absurd (subst (LayerHas (wire_at master.cell.wires w).layer) f h.class)

  has_windows : (k : ℕ) → IsBuried master k → has_buried_of tech ≡ true
  has_windows k buried = subst (IsKind tech) buried.1 (node_sound tech master.cell k m.sound buried.0).kind

  pub windows_off : (layout : Coords) → IsFinished tech master layout → (i j : ℕ) → IsItem master i → IsItem master j
      → (item_of master i).class ≡ B → (item_of master j).class ≡ G
      → (pos 1 ≤ℤ (numbers_of tech).spacing_buried_channel)
      × ((numbers_of tech).spacing_buried_channel ≤ℤ gap_in layout (item_of master i) (item_of master j))
  windows_off layout done i j lt less e f =
      let a = item_of master i in
      let b = item_of master j in
      let buried = (windows_hold layout i lt e).0 in
      let some = has_windows a.owner buried in
      let bound : IsBound tech a b (numbers_of tech).spacing_buried_channel = record {
        owners = channel_elsewhere i j lt less buried f;
        rule = window_rule tech;
        ruled = of_classes tech a.class b.class B G (Some (window_rule tech)) e f (window_ruled tech some);
        spacing = refl;
        nets = no_nets_free_windows tech a.net b.net;
        apart = λ poly together. never_joined a.class b.class e f poly;
      } in (
        buried_spacing (numbers_of tech) (sound_numbers tech) some,
        clean_gap tech layout a b
            (numbers_of tech).spacing_buried_channel (done.clean i j lt less) bound,
      )

  -- ---- each contact has its pad and its window

  abbrev IsBoxAt : ℕ → Class → ℤ → Item → Type 0
  IsBoxAt k class reach i = (i.class ≡ class) × IsSquareAt k reach i

  has_box : (layout : Coords) (k : ℕ) (class : Class) (reach : ℤ) → IsBuried master k
      → Any (IsBoxAt k class reach) (kind_items tech k Buried (nets_at m.items.nets.node k))
      → HasBox master layout k class (square_at layout k reach)
  has_box layout k class reach buried here =
      let Q : Item → Type 0 = IsBoxAt k class reach in
      let some : Any Q master.items.list =
      subst (Any Q) (sym (ap (λ (i : Items). i.list) m.items.are))
      (buried_among tech master.cell m.items.nets k Q buried.0 buried.1 here) in
      let is : item_of master some.0 ≡ some.1 = get_or_default master.items.list some.0 no_item some.1 some.2
      ∙ some.3 in
      let box = subst Q (sym is) some.4 in
      (some.0, some.2, ap (λ (i : Item). i.owner) box.1, box.0, square_of layout k reach (item_of master some.0) box.1)

  pub have_pads : (layout : Coords) → HavePads tech master layout
  have_pads layout k buried =
      let pad = half (buried_pad tech) in (
        has_box layout k P pad buried (first_of (IsBoxAt k P pad) _ _ _ _ (refl, refl)),
        has_box layout k Dm pad buried (second_of (IsBoxAt k Dm pad) _ _ _ _ (refl, refl)),
        has_box layout k Dc pad buried (third_of (IsBoxAt k Dc pad) _ _ _ _ (refl, refl)),
      )

  pub have_windows : (layout : Coords) → HaveWindows tech master layout
  have_windows layout k buried =
      let reach = half (buried_pad tech) +ℤ (numbers_of tech).extension_buried in
      has_box layout k B reach buried (fourth_of (IsBoxAt k B reach) _ _ _ _ (refl, refl))

  -- ---- wires on pads

  pub covered : (layout : Coords) → IsFinished tech master layout → WiresCoverPads tech master layout
  covered layout done w k i is_low lt buried e of_wire =
      wire_covers tech master layout m done w k i is_low buried e of_wire.0
      (box_of_owner tech master.cell m.items.nets (item_of master i) w (owned i of_wire.0) of_wire.1)
