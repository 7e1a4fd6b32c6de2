-- The pieces of boxes that show the instances stand where the sticks' stand.
use Rattle.std.proofs.Common.{◌≡◌, ℕ, zero, suc, ◌+◌, ◌<◌, ◌≤◌, ℤ, Bool, true, false, List, [], ◌∷◌, ◌++◌, length, Some}
use Rattle.std.proofs.{Common.{refl, sym, ap, ◌∙◌, subst, arith, inl, inr}, lemmas.Bool.{ltb-true, lt-ltb, eqb-true}}
use Rattle.std.proofs.lemmas.Bool.{eq-eqb, and_parts, and_from, or_cases, or_left, or_right}
use Rattle.std.proofs.lemmas.{List.Elements.All-contains, Option.{slice_get-get_or, slice_get_within}}
use Rattle.std.{proofs.lemmas.Option.get_or_from_slice_get, specs.Prelude.{Contains, ◌&&◌, nat_lt, map, flat_map}}
use Rattle.std.specs.{Prelude.{slice_get, slice_index_or}, List.{list_any, range_with_len}}
use Rattle.lam_geom.specs.declared.boxes.{MaskBox.MaskBox, MaskLayer.{MaskLayer, TheVariants.{ND, NP, NC, NM, NI, NB}}}
use Rattle.rule_table.specs.declared.{technology.Tech.Tech, classes.Class.TheVariants.Dm}
use Rattle.cell_model.specs.declared.cell.{Axis2.Axis2, NodeKind.{NodeKind, TheVariants.{Joint, Contact, Buried, Fet}}}
use Rattle.sym_items.specs.declared.items.Coords.{Coords}
use Rattle.expand.specs.declared.master.Master.{Master}
use Rattle.buried_contacts.specs.Contacts.{kind_of}
use Rattle.plan_model.specs.declared.plan.Plan.{Plan}
use Rattle.crossing_model.specs.declared.crossing.Crossing.{Crossing}
use Rattle.box_pieces.specs.{declared.placing.Part.Part, Places.{Place, place, crosses_box, is_crossed}}
use Rattle.box_pieces.specs.Places.{parts_of_diffusion, parts_on, places_at, places_of}
use Rattle.instance_laws.proofs.{Gaps.IsDone, MeetingBlocks.IsTransistorKind, MeetingBoxes.knows}
use Rattle.instance_laws.proofs.{NetlistBoxes.class_shown, NetlistCrossings.same_truth, NetlistLists.{Has, Unique}}
use Rattle.instance_laws.proofs.NetlistLists.{has_map, from_map, has_flat, from_flat, has_range, from_range, number_of}
use Rattle.instance_laws.proofs.NetlistLists.{has_at, same_number, unique_map, unique_flat, unique_range}
use Rattle.instance_laws.proofs.NetlistShapes.{one_item, one_number, each_shown, shown_below}
use Rattle.instance_laws.specs.{Conductors.{InstanceItem, IsInstanceItem, item_of}, Meetings.{at, master_of, IsOfClass}}
use Rattle.instance_laws.specs.{Meetings.{IsOwned, IsTransistorAt}, Shapes.{shapes_of, Shows, layer_of, AreShapes}}
use Rattle.instance_laws.specs.Sticks.{is_transistor, is_of_transistor, no_shape, places_of_shape, places_of_sticks}
use Rattle.instance_laws.specs.Sticks.{IsTransistor, AreTransistors}

-- ---- lists

pub has_of_contains : {X : Type 0} (xs : List X) (x : X) → Contains xs x → Has xs x
has_of_contains xs x h = has_at xs h.0 x (slice_get-get_or xs h.0 x h.1 ∙ ap Some h.2)

pub contains_of_has : {X : Type 0} (xs : List X) (x : X) → Has xs x → Contains xs x
contains_of_has xs x h =
    let n = number_of xs x h in
    (n.0, slice_get_within xs n.0 x n.1, get_or_from_slice_get xs n.0 x x n.1)

some_passes : {X : Type 0} (p : X → Bool) (xs : List X) → list_any p xs ≡ true → (x : X) × Has xs x × (p x ≡ true)
some_passes p [] e = absurd cc
some_passes p (x ∷ xs) e = elim (or_cases (p x) (list_any p xs) e) [
  | inl here ↦ (x, inl refl, here)
  | inr there ↦ (let r = some_passes p xs there in (r.0, inr r.1, r.2))
]

passes : {X : Type 0} (p : X → Bool) (xs : List X) (x : X) → Has xs x → p x ≡ true → list_any p xs ≡ true
passes p [] x h e = absurd h
passes p (y ∷ xs) x (inl s) e = or_left (p y) (list_any p xs) (ap p s ∙ e)
passes p (y ∷ xs) x (inr h) e = or_right (p y) (list_any p xs) (passes p xs x h e)

flat_same : {X : Type 0} (f g : ℕ → List X) (a n : ℕ) → ((k : ℕ) → a ≤ k → k < a + n → f k ≡ g k)
    → flat_map f (range_with_len a n) ≡ flat_map g (range_with_len a n)
flat_same f g a zero h = refl
flat_same f g a (suc n) h =
    ap (λ z. z ++ flat_map f (range_with_len (a + 1) n)) (h a (omega arith) (omega arith))
    ∙ ap (λ z. g a ++ z) (flat_same f g (a + 1) n (λ k low high. h k (omega (arith, low)) (omega (arith, high))))

-- ---- parts

parts_same : (layer : MaskLayer) (x y : Bool) → (layer ≡ ND → x ≡ y) → parts_on layer x ≡ parts_on layer y
parts_same ND x y h = ap parts_of_diffusion (h refl)
parts_same NP x y h = refl
parts_same NM x y h = refl
parts_same NC x y h = refl
parts_same NI x y h = refl
parts_same NB x y h = refl

unique_parts : (layer : MaskLayer) (x : Bool) → Unique (parts_on layer x)
unique_parts ND true = (λ h. elim h [ inl e ↦ cc | inr k ↦ k ], ((λ k. k), tt))
unique_parts ND false = ((λ k. k), tt)
unique_parts NP x = ((λ k. k), tt)
unique_parts NM x = ((λ k. k), tt)
unique_parts NC x = tt
unique_parts NI x = tt
unique_parts NB x = tt

pub fet_kind : (kind : NodeKind) → is_transistor kind ≡ true → IsTransistorKind kind
fet_kind (Joint layer width) e = absurd cc
fet_kind (Contact lower) e = absurd cc
fet_kind Buried e = absurd cc
fet_kind (Fet depletion gate w l) e = record { depletion = depletion; gate = gate; w = w; l = l; is = refl }

-- an item that is a transistor's
pub record IsFetItem (plan : Plan) (masters : List Master) (a : InstanceItem) : Type 0 where
  pub depletion : Bool
  pub gate : Axis2
  pub w : ℤ
  pub l : ℤ
  pub fet : IsTransistorAt plan masters a.spot (item_of plan masters a).owner depletion gate w l

pub fet_item : (plan : Plan) (masters : List Master) (a : InstanceItem) → IsInstanceItem plan masters a
    → is_of_transistor plan masters a ≡ true → IsFetItem plan masters a
fet_item plan masters a drawn e =
    let owner : ℕ = (item_of plan masters a).owner in
    let master : Master = master_of plan masters a.spot in
    let both = and_parts (nat_lt owner (length master.cell.nodes)) (is_transistor (kind_of master owner)) e in
    let t = fet_kind (kind_of master owner) both.1 in
    record {
      depletion = t.depletion;
      gate = t.gate;
      w = t.w;
      l = t.l;
      fet = record { there = drawn.spot; node = ltb-true owner (length master.cell.nodes) both.0; kind = t.is };
    }

pub item_fet : (plan : Plan) (masters : List Master) (a : InstanceItem) (k : ℕ) (depletion : Bool) (gate : Axis2)
    (w l : ℤ) → IsTransistorAt plan masters a.spot k depletion gate w l → (item_of plan masters a).owner ≡ k
    → is_of_transistor plan masters a ≡ true
item_fet plan masters a k depletion gate w l fet own =
    let master : Master = master_of plan masters a.spot in
    let here : (nat_lt k (length master.cell.nodes) && is_transistor (kind_of master k)) ≡ true =
    and_from (nat_lt k (length master.cell.nodes)) (is_transistor (kind_of master k))
    (lt-ltb k (length master.cell.nodes) fet.node) (ap is_transistor fet.kind) in
    ap (λ (n : ℕ). nat_lt n (length master.cell.nodes) && is_transistor (kind_of master n)) own ∙ here

-- ---- where the pieces of the sticks stand

module _ (plan : Plan) (masters : List Master) where
  shape_is : (k : ℕ) (a : InstanceItem) → Shows plan masters k a
      → slice_index_or (shapes_of plan masters) k no_shape ≡ a
  shape_is k a h = get_or_from_slice_get (shapes_of plan masters) k a no_shape h

  abbrev pub parts_of_item : InstanceItem → List Part
  parts_of_item a = parts_on (layer_of plan masters a) (is_of_transistor plan masters a)

  pub places_shown : (k : ℕ) (a : InstanceItem) → Shows plan masters k a
      → places_of_shape plan masters k ≡ map (place k) (parts_of_item a)
  places_shown k a h = ap (λ (d : InstanceItem). map (place k) (parts_of_item d)) (shape_is k a h)

  pub place_there : (k : ℕ) (a : InstanceItem) (part : Part) → Shows plan masters k a → Has (parts_of_item a) part
      → (i : ℕ) × (slice_get (places_of_sticks plan masters) i ≡ Some (place k part))
  place_there k a part h in_parts =
      let lt = shown_below plan masters k a h in
      let own : Has (places_of_shape plan masters k) (place k part) =
      subst (λ ps. Has ps (place k part)) (sym (places_shown k a h))
      (has_map (place k) (parts_of_item a) part in_parts) in
      number_of (places_of_sticks plan masters) (place k part)
      (has_flat (places_of_shape plan masters) (range_with_len 0 (length (shapes_of plan masters))) k (place k part)
      (has_range 0 (length (shapes_of plan masters)) k (omega arith) (omega (arith, lt))) own)

  -- the item that the box of a place shows
  pub record StandsOn (p : Place) (a : InstanceItem) : Type 0 where
    pub shown : Shows plan masters p.box_no a
    pub part : Has (parts_of_item a) p.part

  pub place_back : (i : ℕ) (p : Place) → slice_get (places_of_sticks plan masters) i ≡ Some p
      → (a : InstanceItem) × StandsOn p a
  place_back i p h =
      let f = from_flat (places_of_shape plan masters) (range_with_len 0 (length (shapes_of plan masters))) p
      (has_at (places_of_sticks plan masters) i p h) in
      let r = (from_range 0 (length (shapes_of plan masters)) f.0 f.1).1 in
      let e = each_shown plan masters f.0 (omega (arith, r)) in
      let g = from_map (place f.0) (parts_of_item e.0) p (subst (λ ps. Has ps p) (places_shown f.0 e.0 e.1) f.2) in
      let here : StandsOn (place f.0 g.0) e.0 = record { shown = e.1; part = g.1 } in
      (e.0, subst (λ (q : Place). StandsOn q e.0) g.2 here)

  box_of_place : (k : ℕ) (p : Place) → Has (places_of_shape plan masters k) p → p.box_no ≡ k
  box_of_place k p h =
      let g = from_map (place k) (parts_of_item (slice_index_or (shapes_of plan masters) k no_shape)) p h in
      sym (ap (λ (q : Place). q.box_no) g.2)

  pub one_place : (i j : ℕ) (p : Place) → slice_get (places_of_sticks plan masters) i ≡ Some p
      → slice_get (places_of_sticks plan masters) j ≡ Some p → i ≡ j
  one_place i j p h k = same_number (places_of_sticks plan masters) i j p unique h k
    where
      unique_at : (k : ℕ) → Unique (places_of_shape plan masters k)
      unique_at k =
          let a : InstanceItem = slice_index_or (shapes_of plan masters) k no_shape in
          unique_map (place k) (λ x y e. ap (λ (q : Place). q.part) e) (parts_of_item a)
          (unique_parts (layer_of plan masters a) (is_of_transistor plan masters a))

      unique : Unique (places_of_sticks plan masters)
      unique = unique_flat (places_of_shape plan masters) unique_at
          (λ x y p h k. sym (box_of_place x p h) ∙ box_of_place y p k)
          (range_with_len 0 (length (shapes_of plan masters))) (unique_range 0 (length (shapes_of plan masters)))

-- ---- those of the boxes stand there too

module _ (tech : Tech) (plan : Plan) (masters : List Master) (layouts : List Coords) (boxes : List MaskBox)
    (done : IsDone tech plan masters layouts) (shapes : AreShapes tech plan masters layouts boxes)
    (cs : List Crossing) (are : AreTransistors tech plan masters layouts cs) where
  -- diffusion is crossed exactly where it is a transistor's
  crossed_fet : (k : ℕ) (a : InstanceItem) → Shows plan masters k a → is_crossed cs k ≡ true
      → is_of_transistor plan masters a ≡ true
  crossed_fet k a h e =
      let c = some_passes (crosses_box k) cs e in
      let t = All-contains (IsTransistor tech plan masters layouts) cs c.0 are.each (contains_of_has cs c.0 c.1) in
      let there : Shows plan masters k (at t.spot t.diffusion) =
      subst (λ (n : ℕ). Shows plan masters n (at t.spot t.diffusion)) (eqb-true c.0.diffusion k c.2)
      t.shows_diffusion in
      let same : at t.spot t.diffusion ≡ a = one_item plan masters k (at t.spot t.diffusion) a there h in
      subst (λ (d : InstanceItem). is_of_transistor plan masters d ≡ true) same
      (item_fet plan masters (at t.spot t.diffusion) t.k t.depletion t.gate t.w t.l t.transistor
      t.is_diffusion.owned)

  -- the crossing of a transistor's diffusion
  pub fet_crossed : (k : ℕ) (a : InstanceItem) → Shows plan masters k a → IsOfClass plan masters Dm a
      → IsFetItem plan masters a → (c : Crossing) × Contains cs c × (c.diffusion ≡ k)
  fet_crossed k a h is_a f =
      let owner : ℕ = (item_of plan masters a).owner in
      let b = (knows tech plan masters layouts done.planned a.spot owner f.depletion f.gate f.w f.l f.fet).boxes in
      let c = are.complete a.spot owner f.depletion f.gate f.w f.l f.fet in
      let own : IsOwned plan masters Dm owner a =
      record { drawn = is_a.drawn; of_class = is_a.of_class; owned = refl } in
      let same : c.2.diffusion ≡ a.item = b.one_diffusion c.2.diffusion c.2.owned
      ∙ sym (b.one_diffusion a.item own) in (
        c.0,
        c.1,
        one_number plan masters c.0.diffusion k a
            (subst (λ (n : ℕ). Shows plan masters c.0.diffusion (at a.spot n)) same c.2.shown) h,
      )

  crossed_is : (k : ℕ) (a : InstanceItem) → Shows plan masters k a → IsOfClass plan masters Dm a
      → is_crossed cs k ≡ is_of_transistor plan masters a
  crossed_is k a h is_a =
      same_truth (is_crossed cs k) (is_of_transistor plan masters a) (crossed_fet k a h)
      (λ e. (let c = fet_crossed k a h is_a (fet_item plan masters a is_a.drawn e) in passes (crosses_box k) cs c.0
      (has_of_contains cs c.0 c.1) (eq-eqb c.0.diffusion k c.2)))

  place_same : (k : ℕ) → k < length (shapes_of plan masters) → places_at cs boxes k ≡ places_of_shape plan masters k
  place_same k lt =
      let s = each_shown plan masters k lt in
      let a : InstanceItem = s.0 in
      let on = (shapes.each k a s.1).layer in
      ap (λ (layer : MaskLayer). map (place k) (parts_on layer (is_crossed cs k))) on
      ∙ (ap (map (place k))
      (parts_same (layer_of plan masters a) (is_crossed cs k) (is_of_transistor plan masters a)
      (λ e. crossed_is k a s.1 (class_shown tech plan masters layouts boxes shapes k a ND s.1 (on ∙ e))))
      ∙ sym (places_shown plan masters k a s.1))

  pub places_same : places_of cs boxes ≡ places_of_sticks plan masters
  places_same =
      ap (λ (n : ℕ). flat_map (places_at cs boxes) (range_with_len 0 n)) shapes.counted
      ∙ flat_same (places_at cs boxes) (places_of_shape plan masters) 0 (length (shapes_of plan masters))
      (λ k low high. place_same k (omega (arith, high)))
