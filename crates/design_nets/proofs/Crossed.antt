-- Transistors in order of their diffusion, one box after another.
use Rattle.std.proofs.Common.{◌≡◌, ℕ, ◌+◌, ◌<◌, ℤ, Bool, true, false, All, List, [], ◌∷◌, ◌++◌, length, get_or, map}
use Rattle.std.proofs.{Common.{refl, sym, ap, ◌∙◌, subst, arith, inl, inr}, lemmas.{Bool.cases_lt, List.map-append}}
use Rattle.std.proofs.lemmas.List.{length-map, length_push, get_or-map, get_or_default, get_or_read, get_or_append_left}
use Rattle.std.proofs.lemmas.{List.{get_or_push, Elements.{All-push, All-weaker}}, Option.slice_get-get_or}
use Rattle.std.specs.Prelude.{Contains, slice_index}
use Rattle.lam_geom.specs.{Places.IsPlacedBox, declared.boxes.MaskLayer.TheVariants.ND}
use Rattle.rule_table.specs.declared.{technology.Tech.Tech, classes.Class.TheVariants.Dm}
use Rattle.cell_model.specs.declared.cell.{Axis2.Axis2, Cell.Cell}
use Rattle.sym_items.specs.declared.items.{Coords.Coords, Item.Item}
use Rattle.expand.specs.declared.master.Master.{Master}
use Rattle.plan_model.specs.{declared.plan.Plan.Plan, Instances.{InstancePlace, master_at_spot}, Plan.grids_of}
use Rattle.crossing_model.specs.{declared.crossing.Crossing.Crossing, Crossings.{IsIncreasing, AreInOrder}}
use Rattle.pair_rules.specs.Bound.{no_item, item_at}
use Rattle.pitch_join.specs.Masters.{no_master, master_at}
use Rattle.instance_laws.specs.{Conductors.{InstanceItem, item_of}, Meetings.{at, IsOwned, IsTransistorAt}}
use Rattle.instance_laws.specs.{Meetings.TransistorsHaveBoxes, Shapes.{shapes_of, Shows}, Sticks.is_of_transistor}
use Rattle.instance_laws.specs.Sticks.{IsTransistor, IsOfNode, AreTransistors}
use Rattle.instance_laws.proofs.{NetlistLists.{has_left, has_right}, NetlistPlaces.{has_of_contains, contains_of_has}}
use Rattle.instance_laws.proofs.{NetlistPlaces.item_fet, NetlistShapes.{number, shown_below, one_item}}
use Rattle.mask_out.specs.declared.drawing.Call.{Call}
use Rattle.design_nets.specs.declared.{instances.Instance.Instance, shapes.{Shape.Shape, Shapes.Shapes}}
use Rattle.design_nets.specs.{Instances.{instances_of, master_no}, Pieces.is_fet, Shapes.{drawn_by, no_shape, shape_no}}
use Rattle.design_nets.specs.Transistors.{IsLaidOut, cell_shown, item_shown}
use Rattle.design_nets.proofs.{FetReads.{no_call, seen}, LaidOut.shape_seen, Shown.shape_shows, Spots.instance_stands}

-- the box with this number shows the diffusion of a transistor
pub record ShowsFet (plan : Plan) (masters : List Master) (k : ℕ) : Type 0 where
  pub spot : InstancePlace
  pub node : ℕ
  pub item : ℕ
  pub depletion : Bool
  pub gate : Axis2
  pub w : ℤ
  pub l : ℤ
  pub shown : Shows plan masters k (at spot item)
  pub owned : IsOwned plan masters Dm node (at spot item)
  pub transistor : IsTransistorAt plan masters spot node depletion gate w l

-- ---- lists

increasing_push : (ns : List ℕ) (n : ℕ) → IsIncreasing ns → ((i : ℕ) → i < length ns → slice_index ns i < n)
    → IsIncreasing (ns ++ n ∷ [])
increasing_push ns n rises below i j lt within =
    let counted = length_push ns n in
    elim (cases_lt j (length ns)) [
      | inl inside ↦
          (let a = get_or_append_left ns (n ∷ []) 0 i (omega (arith, lt, inside)) in
          let b = get_or_append_left ns (n ∷ []) 0 j inside in
          let h = rises i j lt inside in
          omega (arith, a, b, h))
      | inr past ↦
          (let e : j ≡ length ns = omega (arith, past, within, counted) in
          let b = get_or_push ns n 0 j (sym e) in
          let before : i < length ns = omega (arith, lt, e) in
          let a = get_or_append_left ns (n ∷ []) 0 i before in
          let h = below i before in
          omega (arith, a, b, h))
    ]

pub in_order_push : (xs : List Crossing) (c : Crossing) (k : ℕ) → AreInOrder xs
    → All (λ (x : Crossing). x.diffusion < k) xs → c.diffusion ≡ k → AreInOrder (xs ++ c ∷ [])
in_order_push xs c k rises below is =
    subst IsIncreasing (sym (map-append (λ (x : Crossing). x.diffusion) xs (c ∷ [])))
    (increasing_push (map (λ (x : Crossing). x.diffusion) xs) c.diffusion rises (λ i lt. (
    let among : i < length xs = omega (arith, lt, length-map xs (λ (x : Crossing). x.diffusion)) in
    let read = get_or-map (λ (x : Crossing). x.diffusion) xs i c 0 among in
    let h = below i c among in
    omega (arith, read, h, is))))

-- ---- the transistors of the boxes before one

module _ (tech : Tech) (plan : Plan) (masters : List Master) (layouts : List Coords) where
  pub record AreCrossedBelow (k : ℕ) (xs : List Crossing) : Type 0 where
    pub each : All (IsTransistor tech plan masters layouts) xs
    pub placed : All (λ (c : Crossing). IsPlacedBox c.channel) xs
    pub below : All (λ (c : Crossing). c.diffusion < k) xs
    pub in_order : AreInOrder xs
    pub found : (i : ℕ) → i < k → ShowsFet plan masters i → (c : Crossing) × Contains xs c × (c.diffusion ≡ i)

  pub none_crossed : AreCrossedBelow 0 []
  none_crossed = record {
    each = λ k d lt. absurd (omega (arith, lt));
    placed = λ k d lt. absurd (omega (arith, lt));
    below = λ k d lt. absurd (omega (arith, lt));
    in_order = λ i j lt within. absurd (omega (arith, within));
    found = λ i lt fet. absurd (omega (arith, lt));
  }

  pub one_crossed : (k : ℕ) (xs : List Crossing) (c : Crossing) → AreCrossedBelow k xs
      → IsTransistor tech plan masters layouts c → c.diffusion ≡ k → IsPlacedBox c.channel
      → AreCrossedBelow (k + 1) (xs ++ c ∷ [])
  one_crossed k xs c h own is placed =
      record {
        each = All-push (IsTransistor tech plan masters layouts) xs c h.each own;
        placed = All-push (λ (x : Crossing). IsPlacedBox x.channel) xs c h.placed placed;
        below = All-push (λ (x : Crossing). x.diffusion < k + 1) xs c
            (All-weaker (λ (x : Crossing). x.diffusion < k) (λ (x : Crossing). x.diffusion < k + 1)
            (λ x lt. omega (arith, lt)) xs h.below) (omega (arith, is));
        in_order = in_order_push xs c k h.in_order h.below is;
        found = λ i lt fet. elim (cases_lt i k) [
          | inl before ↦
              (let r = h.found i before fet in
              (r.0, contains_of_has (xs ++ c ∷ []) r.0 (has_left xs (c ∷ []) r.0 (has_of_contains xs r.0 r.1)), r.2))
          | inr past ↦
              (let e : i ≡ k = omega (arith, lt, past) in
              (c, contains_of_has (xs ++ c ∷ []) c (has_right xs (c ∷ []) c (inl refl)), is ∙ sym e))
        ];
      }

  pub one_passed : (k : ℕ) (xs : List Crossing) → AreCrossedBelow k xs → (ShowsFet plan masters k → ⊥)
      → AreCrossedBelow (k + 1) xs
  one_passed k xs h none = record {
    each = h.each;
    placed = h.placed;
    below = All-weaker (λ (x : Crossing). x.diffusion < k) (λ (x : Crossing). x.diffusion < k + 1)
        (λ x lt. omega (arith, lt)) xs h.below;
    in_order = h.in_order;
    found = λ i lt fet. elim (cases_lt i k) [
      | inl before ↦ h.found i before fet
      | inr past ↦ (let e : i ≡ k = omega (arith, lt, past) in absurd (none (subst (ShowsFet plan masters) e fet)))
    ];
  }

  pub all_crossed : (k : ℕ) (xs : List Crossing) → TransistorsHaveBoxes tech plan masters layouts
      → length (shapes_of plan masters) ≡ k → AreCrossedBelow k xs → AreTransistors tech plan masters layouts xs
  all_crossed k xs have counted h = record {
    each = h.each;
    in_order = h.in_order;
    complete = λ spot node depletion gate w l fet. (
        let b = have spot node depletion gate w l fet in
        let n = number plan masters (at spot b.diffusion) ND b.is_diffusion.drawn b.is_diffusion.of_class in
        let lt = shown_below plan masters n.0 (at spot b.diffusion) n.1 in
        let shows : ShowsFet plan masters n.0 = record {
          spot = spot;
          node = node;
          item = b.diffusion;
          depletion = depletion;
          gate = gate;
          w = w;
          l = l;
          shown = n.1;
          owned = b.is_diffusion;
          transistor = fet;
        } in
        let f = h.found n.0 (omega (arith, lt, counted)) shows in
        let of_node : IsOfNode plan masters spot node f.0 = record {
          diffusion = b.diffusion;
          shown = subst (λ (i : ℕ). Shows plan masters i (at spot b.diffusion)) (sym f.2) n.1;
          owned = b.is_diffusion;
        } in
        (f.0, f.1, of_node));
  }

-- ---- a box that shows no transistor's diffusion

module _ (tech : Tech) (plan : Plan) (masters : List Master) (layouts : List Coords) (calls : List Call)
    (shapes : Shapes) (out : IsLaidOut tech plan masters layouts calls shapes) (k : ℕ)
    (lt : k < length shapes.all.items) where
  pub none_shown : (cell : Cell) (item : Item) → cell ≡ cell_shown plan masters shapes k
      → item ≡ item_shown plan masters shapes k → (item.class ≡ Dm → is_fet cell item.owner ≡ false)
      → ShowsFet plan masters k → ⊥
  none_shown cell item is_cell is_item none fet =
      let instances : List Instance = instances_of (grids_of plan) in
      let own : Shape = shape_no shapes.all.items k in
      let a : InstanceItem = drawn_by instances own in
      let shows : Shows plan masters k a =
      shape_shows plan masters instances refl shapes.all.items shapes.firsts.items out.shown k own
      (slice_get-get_or shapes.all.items k no_shape lt) in
      let same : at fet.spot fet.item ≡ a = one_item plan masters k (at fet.spot fet.item) a fet.shown shows in
      let is_own : IsOwned plan masters Dm fet.node a = subst (IsOwned plan masters Dm fet.node) same fet.owned in
      let there : IsTransistorAt plan masters a.spot fet.node fet.depletion fet.gate fet.w fet.l =
      subst (λ (d : InstanceItem). IsTransistorAt plan masters d.spot fet.node fet.depletion fet.gate fet.w fet.l)
      same fet.transistor in
      let yes : is_of_transistor plan masters a ≡ true =
      item_fet plan masters a fet.node fet.depletion fet.gate fet.w fet.l there is_own.owned in
      let m : master_no instances own.instance ≡ master_at_spot (grids_of plan) a.spot =
      (instance_stands (grids_of plan) instances own.instance refl
      (shape_seen tech plan masters layouts calls shapes out k lt).instance).master in
      let test : ℕ → Bool =
      λ n. is_fet (master_at masters n).cell (item_at (master_at masters n).items.list own.item).owner in
      let same_item : item_shown plan masters shapes k ≡ item_of plan masters a =
      ap (λ (n : ℕ). item_at (master_at masters n).items.list own.item) m in
      let no : is_fet cell item.owner ≡ false =
      none (ap (λ (i : Item). i.class) (is_item ∙ same_item) ∙ is_own.of_class) in
      let given : is_fet cell item.owner ≡ true = ap (λ (z : Cell). is_fet z item.owner) is_cell
      ∙ (ap (λ (i : Item). is_fet (cell_shown plan masters shapes k) i.owner) is_item ∙ (ap test m ∙ yes)) in
      cc (no, given)

  -- what is read of its instance's master
  pub cell_read : (one : Shape) (master : Master) (items : List Item) (d : Item) → one ≡ shape_no shapes.all.items k
      → master ≡ get_or masters (get_or calls one.instance no_call).symbol master → items ≡ master.items.list
      → (master.cell ≡ cell_shown plan masters shapes k)
      × (get_or items one.item d ≡ item_shown plan masters shapes k) × (one.item < length items)
  cell_read one master items d e master_is items_are =
      let instances : List Instance = instances_of (grids_of plan) in
      let own : Shape = shape_no shapes.all.items k in
      let sees = seen tech plan masters layouts calls shapes out k lt one e in
      let m : ℕ = (get_or calls one.instance no_call).symbol in
      let m_own : m ≡ master_no instances own.instance = sees.called.symbol
      ∙ ap (λ (o : Shape). master_no instances o.instance) e in
      let is_master : master ≡ master_at masters m = get_or_read masters m master sees.master master_is no_master in
      let are_items : items ≡ (master_at masters m).items.list = items_are
      ∙ ap (λ (z : Master). z.items.list) is_master in
      let within : one.item < length items =
      subst (λ (is : List Item). one.item < length is) (sym are_items) sees.item in (
        ap (λ (z : Master). z.cell) is_master ∙ ap (λ (n : ℕ). (master_at masters n).cell) m_own,
        get_or_default items one.item d no_item within
            ∙ (ap (λ (is : List Item). item_at is one.item) are_items
            ∙ (ap (λ (n : ℕ). item_at (master_at masters n).items.list one.item) m_own
            ∙ ap (λ (o : Shape). item_at (master_at masters (master_no instances own.instance)).items.list o.item)
            e)),
        within,
      )
