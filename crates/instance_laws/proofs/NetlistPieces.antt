-- The pieces of boxes that show the instances are the conductors: each piece is one, and each conductor one piece.
use Rattle.std.proofs.Common.{◌≡◌, ℕ, ◌<◌, ◌≤◌, ℤ, Bool, true, false, List, Some, refl, sym, ap, ◌∙◌, subst, arith, inl}
use Rattle.std.{proofs.{Common.inr, lemmas.{Bool.cases_Bool, List.Elements.All-contains}}, specs.Option.unwrap_or}
use Rattle.lam_geom.specs.declared.boxes.{BoxXY.BoxXY, MaskBox.MaskBox, MaskLayer.{MaskLayer, TheVariants.{ND, NP, NC}}}
use Rattle.lam_geom.specs.declared.boxes.MaskLayer.TheVariants.{NM, NI, NB}
use Rattle.rule_table.specs.declared.{technology.Tech.Tech, classes.Class.{Class, TheVariants.{M, P, Dc, Dm, C, I, G}}}
use Rattle.rule_table.specs.declared.classes.Class.TheVariants.{B}
use Rattle.cell_model.specs.declared.cell.{Axis2.Axis2, NodeKind.TheVariants.Fet, Nets.Nets}
use Rattle.sym_items.specs.{declared.items.{Coords.Coords, Item.Item}, Sides.{Sides, sides_of}, Standing.StandsAt}
use Rattle.expand.specs.declared.master.Master.{Master}
use Rattle.buried_contacts.specs.Contacts.{axis_along, kind_of}
use Rattle.plan_model.specs.declared.plan.Plan.{Plan}
use Rattle.mask_out.specs.Masks.{layer_drawn}
use Rattle.crossing_model.specs.{declared.crossing.Crossing.Crossing, Boxes.{area_at, IsCommon}}
use Rattle.box_pieces.specs.{declared.placing.Part.{Part, TheVariants.{Whole, Low, High}}, Areas.IsCrossingOf}
use Rattle.box_pieces.specs.{Areas.IsAreaOf, Places.{Place, place, parts_of_diffusion, parts_on}}
use Rattle.instance_laws.specs.{Rules.AreNetsOf, Conductors.{InstanceItem, item_of, sides_of_drawn, Conducts}}
use Rattle.instance_laws.specs.{Conductors.IsConductor, Meetings.{at, master_of, IsOfClass, IsOwned, IsTransistorAt}}
use Rattle.instance_laws.specs.{Meetings.{IsOnePiece, OwnersHaveOne}, Shapes.{Shows, layer_of, sides_in_grains}}
use Rattle.instance_laws.specs.{Shapes.AreShapes, Sticks.{is_of_transistor, net_of_part, IsTransistor, AreTransistors}}
use Rattle.instance_laws.proofs.{Gaps.IsDone, MeetingBoxes.{KnowsFet, knows}, MeetingOwners.diffusion_conducts}
use Rattle.instance_laws.proofs.MeetingOwners.{piece_nets, pieces_have_masks, owners_have_poly, owners_have_metal}
use Rattle.instance_laws.proofs.{NetlistAreas.{low_there, high_there, low_lies, high_lies}, NetlistBoxes.sides_at}
use Rattle.instance_laws.proofs.{NetlistCrossings.transistor_is, NetlistLists.Has, NetlistMeetings.stands_none}
use Rattle.instance_laws.proofs.NetlistPlaces.{IsFetItem, fet_item, item_fet, parts_of_item, fet_crossed}
use Rattle.instance_laws.proofs.NetlistShapes.{class_of_layer, class_back, layer_there, shown, number, one_item}

-- the class of the conductors that the boxes of a class are
abbrev pub conducting : Class → Class
conducting M = M
conducting P = P
conducting Dc = Dc
conducting Dm = Dc
conducting C = C
conducting I = I
conducting G = G
conducting B = B

-- another item, by its number, is of the class and the owner of a conductor
abbrev pub IsLike : Plan → List Master → InstanceItem → ℕ → Type 0
IsLike plan masters c n = IsOwned plan masters (item_of plan masters c).class (item_of plan masters c).owner
    (at c.spot n)

-- a conductor tells which part it is by its number among those of its owner
abbrev pub TellsPart : Plan → List Master → Part → InstanceItem → Type 0
TellsPart plan masters Whole c = (n : ℕ) → IsLike plan masters c n → n ≡ c.item
TellsPart plan masters Low c = ((n : ℕ) → IsLike plan masters c n → c.item ≤ n) × (n : ℕ) × IsLike plan masters c n
    × (c.item < n)
TellsPart plan masters High c = (n : ℕ) × IsLike plan masters c n × (n < c.item)

pub one_part : (plan : Plan) (masters : List Master) (c : InstanceItem) (x y : Part) → TellsPart plan masters x c
    → TellsPart plan masters y c → x ≡ y
one_part plan masters c Whole Whole h k = refl
one_part plan masters c Low Low h k = refl
one_part plan masters c High High h k = refl
one_part plan masters c Whole Low h k = (let e = h k.1 k.2 in let lt = k.3 in absurd (omega (arith, e, lt)))
one_part plan masters c Low Whole h k = (let e = k h.1 h.2 in let lt = h.3 in absurd (omega (arith, e, lt)))
one_part plan masters c Whole High h k = (let e = h k.0 k.1 in let lt = k.2 in absurd (omega (arith, e, lt)))
one_part plan masters c High Whole h k = (let e = k h.0 h.1 in let lt = h.2 in absurd (omega (arith, e, lt)))
one_part plan masters c Low High h k = (let le = h.0 k.0 k.1 in let lt = k.2 in absurd (omega (arith, le, lt)))
one_part plan masters c High Low h k = (let le = k.0 h.0 h.1 in let lt = h.2 in absurd (omega (arith, le, lt)))

-- the piece at a place is a conductor: its box shows an item of the conductor's owner, and it lies where the
-- conductor lies, and is of its net
pub record IsPiece (tech : Tech) (plan : Plan) (masters : List Master) (layouts : List Coords) (boxes : List MaskBox)
    (cs : List Crossing) (p : Place) (a c : InstanceItem) : Type 0 where
  pub shows : Shows plan masters p.box_no a
  pub conductor : IsConductor plan masters c
  pub spot : a.spot ≡ c.spot
  pub owner : (item_of plan masters a).owner ≡ (item_of plan masters c).owner
  pub class : conducting (item_of plan masters a).class ≡ (item_of plan masters c).class
  pub area : BoxXY
  pub is_area : IsAreaOf boxes cs p area
  pub areas_lie : (s : BoxXY) → IsAreaOf boxes cs p s
      → sides_of s ≡ sides_in_grains tech (sides_of_drawn tech plan masters layouts c)
  pub net : (nets : ℕ → Nets) → AreNetsOf masters nets
      → net_of_part nets plan masters a p.part ≡ (item_of plan masters c).net
  pub stands : (k : ℕ) → StandsAt (item_of plan masters a) k → StandsAt (item_of plan masters c) k
  pub stands_back : (k : ℕ) → StandsAt (item_of plan masters c) k → StandsAt (item_of plan masters a) k
  pub tells : TellsPart plan masters p.part c

stands_like : (i j : Item) → i.at_low ≡ j.at_low → i.at_high ≡ j.at_high → (k : ℕ) → StandsAt i k → StandsAt j k
stands_like i j low high k (ne, inl e) = (ne, inl (sym low ∙ e))
stands_like i j low high k (ne, inr e) = (ne, inr (sym high ∙ e))

module _ (tech : Tech) (plan : Plan) (masters : List Master) (layouts : List Coords) (boxes : List MaskBox)
    (done : IsDone tech plan masters layouts) (shapes : AreShapes tech plan masters layouts boxes)
    (cs : List Crossing) (are : AreTransistors tech plan masters layouts cs) where
  abbrev Lies : InstanceItem → Sides
  Lies a = sides_of_drawn tech plan masters layouts a

  abbrev Piece : ℕ → Part → InstanceItem → InstanceItem → Type 0
  Piece k part a c = IsPiece tech plan masters layouts boxes cs (place k part) a c

  -- ---- whole boxes

  -- metal and poly
  whole_same : (class : Class) → Conducts class → conducting class ≡ class → OwnersHaveOne plan masters class
      → (k : ℕ) (a : InstanceItem) → Shows plan masters k a → IsOfClass plan masters class a → Piece k Whole a a
  whole_same class conducts same one k a h is_a = record {
    shows = h;
    conductor = record { drawn = is_a.drawn; conducts = subst Conducts (sym is_a.of_class) conducts };
    spot = refl;
    owner = refl;
    class = ap conducting is_a.of_class ∙ (same ∙ sym is_a.of_class);
    area = area_at boxes k;
    is_area = refl;
    areas_lie = λ s e. ap sides_of e ∙ sides_at tech plan masters layouts boxes shapes k a h;
    net = λ nets are_nets. refl;
    stands = λ j s. s;
    stands_back = λ j s. s;
    tells = λ n like. one a.spot (item_of plan masters a).owner n a.item
        (record { drawn = like.drawn; of_class = like.of_class ∙ is_a.of_class; owned = like.owned })
        (record { drawn = is_a.drawn; of_class = is_a.of_class; owned = refl });
  }

  -- diffusion that is of no transistor
  abbrev pub HasNet : InstanceItem → ℕ → Type 0
  HasNet a n = (item_of plan masters a).net ≡ (item_of plan masters (at a.spot n)).net

  whole_piece : (k : ℕ) (a : InstanceItem) → Shows plan masters k a → IsOfClass plan masters Dm a
      → (one : IsOnePiece tech plan masters layouts a) → HasNet a one.piece → Piece k Whole a (at a.spot one.piece)
  whole_piece k a h is_a one net = record {
    shows = h;
    conductor = record { drawn = one.is_piece.drawn; conducts = subst Conducts (sym one.is_piece.of_class) tt };
    spot = refl;
    owner = sym one.is_piece.owned;
    class = ap conducting is_a.of_class ∙ sym one.is_piece.of_class;
    area = area_at boxes k;
    is_area = refl;
    areas_lie = λ s e. ap sides_of e
        ∙ (sides_at tech plan masters layouts boxes shapes k a h ∙ ap (sides_in_grains tech) (sym one.lies_there));
    net = λ nets are_nets. net;
    stands = λ j s. stands_like (item_of plan masters a) (item_of plan masters (at a.spot one.piece))
        (sym one.stands_low) (sym one.stands_high) j s;
    stands_back = λ j s. stands_like (item_of plan masters (at a.spot one.piece)) (item_of plan masters a)
        one.stands_low one.stands_high j s;
    tells = λ n like.
        one.one_chunk n
        (record {
          drawn = like.drawn;
          of_class = like.of_class ∙ one.is_piece.of_class;
          owned = like.owned
              ∙ one.is_piece.owned;
        });
  }

  pub one_piece_at : (a : InstanceItem) → IsOfClass plan masters Dm a → is_of_transistor plan masters a ≡ false
      → (one : IsOnePiece tech plan masters layouts a) × HasNet a one.piece
  one_piece_at a is_a off = elim (diffusion_conducts tech plan masters done.planned layouts a is_a) [
    | inr fet ↦ absurd (no_fet fet.0 fet.1 fet.2 fet.3 fet.4 fet.5 fet.6)
    | inl one ↦ elim (piece_nets tech plan masters done.planned a is_a) [
      | inr fet ↦ absurd (no_fet fet.0 fet.1 fet.2 fet.3 fet.4 fet.5 fet.6)
      | inl has ↦ (one, subst (HasNet a) (one.one_chunk has.0 has.1) has.2)
    ]
  ]
    where
      no_fet : (k : ℕ) (depletion : Bool) (gate : Axis2) (w l : ℤ)
          → IsTransistorAt plan masters a.spot k depletion gate w l → (item_of plan masters a).owner ≡ k → ⊥
      no_fet k depletion gate w l fet own = (let on = item_fet plan masters a k depletion gate w l fet own in absurd cc)

  -- ---- the pieces of a transistor

  abbrev know : (a : InstanceItem) (f : IsFetItem plan masters a)
      → KnowsFet tech plan masters layouts a.spot (item_of plan masters a).owner f.gate f.w f.l
  know a f = knows tech plan masters layouts done.planned a.spot (item_of plan masters a).owner f.depletion f.gate f.w
      f.l f.fet

  -- each crossing of its diffusion is the transistor
  record IsCrossingOfFet (a : InstanceItem) (f : IsFetItem plan masters a) (c : Crossing) : Type 0 where
    runs : c.axis ≡ axis_along f.gate
    channel : sides_of c.channel ≡ sides_in_grains tech (Lies (at a.spot (know a f).boxes.channel))
    shared : IsCommon (area_at boxes c.poly) (area_at boxes c.diffusion) c.channel

  crossing_of : (k : ℕ) (a : InstanceItem) (h : Shows plan masters k a) (f : IsFetItem plan masters a) (c : Crossing)
      → IsCrossingOf cs k c → IsCrossingOfFet a f c
  crossing_of k a h f c of_box =
      let t = All-contains (IsTransistor tech plan masters layouts) cs c are.each of_box.among in
      let d : InstanceItem = at t.spot t.diffusion in
      let there : Shows plan masters k d =
      subst (λ (n : ℕ). Shows plan masters n d) of_box.diffusion t.shows_diffusion in
      let same : d ≡ a = one_item plan masters k d a there h in
      let R : InstanceItem → Type 0 = λ z. kind_of (master_of plan masters z.spot) (item_of plan masters z).owner
      ≡ Fet t.depletion t.gate t.w t.l in
      let kind : R a =
      subst R same (ap (kind_of (master_of plan masters t.spot)) t.is_diffusion.owned ∙ t.transistor.kind) in
      let both : Fet t.depletion t.gate t.w t.l ≡ Fet f.depletion f.gate f.w f.l = sym kind ∙ f.fet.kind in
      let gate : t.gate ≡ f.gate = cc in
      let S : InstanceItem → Type 0 = λ z. IsOwned plan masters G (item_of plan masters z).owner (at z.spot t.channel)
      × (sides_of c.channel ≡ sides_in_grains tech (Lies (at z.spot t.channel))) in
      let here : S a =
      subst S same (
        record {
          drawn = t.is_channel.drawn;
          of_class = t.is_channel.of_class;
          owned = t.is_channel.owned
              ∙ sym t.is_diffusion.owned;
        },
        t.there,
      ) in
      let one : t.channel ≡ (know a f).boxes.channel = (know a f).boxes.one_channel t.channel here.0 in
      record {
        runs = t.runs ∙ ap axis_along gate;
        channel = here.1 ∙ ap (λ (n : ℕ). sides_in_grains tech (Lies (at a.spot n))) one;
        shared = (transistor_is tech plan masters layouts boxes done shapes c t).channel;
      }

  -- its diffusion is the item
  diffusion_item : (a : InstanceItem) (is_a : IsOfClass plan masters Dm a) (f : IsFetItem plan masters a)
      → (know a f).boxes.diffusion ≡ a.item
  diffusion_item a is_a f =
      sym ((know a f).boxes.one_diffusion a.item
      (record { drawn = is_a.drawn; of_class = is_a.of_class; owned = refl }))

  never : (a : InstanceItem) (is_a : IsOfClass plan masters Dm a) (f : IsFetItem plan masters a) (n : ℕ)
      → IsOwned plan masters Dc (item_of plan masters a).owner (at a.spot n)
      → (j : ℕ) → StandsAt (item_of plan masters a) j → StandsAt (item_of plan masters (at a.spot n)) j
  never a is_a f n h j s =
      absurd (stands_none (item_of plan masters a) j ((know a f).nowhere a.item is_a.drawn.among refl) s)

  never_back : (a : InstanceItem) (f : IsFetItem plan masters a) (n : ℕ)
      → IsOwned plan masters Dc (item_of plan masters a).owner (at a.spot n)
      → (j : ℕ) → StandsAt (item_of plan masters (at a.spot n)) j → StandsAt (item_of plan masters a) j
  never_back a f n h j s =
      absurd (stands_none (item_of plan masters (at a.spot n)) j ((know a f).nowhere n h.drawn.among h.owned) s)

  -- another of its pieces, whichever it is told by
  like_piece : (a : InstanceItem) (m n : ℕ) → IsOwned plan masters Dc (item_of plan masters a).owner (at a.spot m)
      → IsLike plan masters (at a.spot m) n → IsOwned plan masters Dc (item_of plan masters a).owner (at a.spot n)
  like_piece a m n h like =
      record { drawn = like.drawn; of_class = like.of_class ∙ h.of_class; owned = like.owned ∙ h.owned }

  piece_like : (a : InstanceItem) (m n : ℕ) → IsOwned plan masters Dc (item_of plan masters a).owner (at a.spot m)
      → IsOwned plan masters Dc (item_of plan masters a).owner (at a.spot n) → IsLike plan masters (at a.spot m) n
  piece_like a m n h k =
      record { drawn = k.drawn; of_class = k.of_class ∙ sym h.of_class; owned = k.owned ∙ sym h.owned }

  shared_there : (k : ℕ) (c : Crossing) → c.diffusion ≡ k
      → IsCommon (area_at boxes c.poly) (area_at boxes c.diffusion) c.channel
      → IsCommon (area_at boxes c.poly) (area_at boxes k) c.channel
  shared_there k c e h = subst (λ (n : ℕ). IsCommon (area_at boxes c.poly) (area_at boxes n) c.channel) e h

  low_piece : (k : ℕ) (a : InstanceItem) → Shows plan masters k a
      → (is_a : IsOfClass plan masters Dm a) (f : IsFetItem plan masters a)
      → Piece k Low a (at a.spot (know a f).boxes.low)
  low_piece k a h is_a f =
      let b = (know a f).boxes in
      let found = fet_crossed tech plan masters layouts boxes done shapes cs are k a h is_a f in
      let of_box : IsCrossingOf cs k found.0 = record { among = found.1; diffusion = found.2 } in
      let first = crossing_of k a h f found.0 of_box in
      let there = low_there found.0 (area_at boxes found.0.poly) (area_at boxes k)
      (shared_there k found.0 found.2 first.shared) in
      let order = (know a f).in_order in
      record {
        shows = h;
        conductor = record { drawn = b.is_low.drawn; conducts = subst Conducts (sym b.is_low.of_class) tt };
        spot = refl;
        owner = sym b.is_low.owned;
        class = ap conducting is_a.of_class ∙ sym b.is_low.of_class;
        area = there.0;
        is_area = (found.0, of_box, there.1);
        areas_lie = λ s e. (
            let own = crossing_of k a h f e.0 e.1 in
            low_lies tech f.gate e.0 (area_at boxes k) s (Lies (at a.spot b.diffusion)) (Lies (at a.spot b.channel))
            (Lies (at a.spot b.low)) own.runs
            (sides_at tech plan masters layouts boxes shapes k a h
            ∙ ap (λ (n : ℕ). sides_in_grains tech (Lies (at a.spot n)))
            (sym (diffusion_item a is_a f))) own.channel b.lies_below e.2
            );
        net = λ nets are_nets. sym ((know a f).low_net nets are_nets);
        stands = never a is_a f b.low b.is_low;
        stands_back = never_back a f b.low b.is_low;
        tells = (
          λ n like. elim (b.two_chunks n (like_piece a b.low n b.is_low like))
              [ inl e ↦ omega (arith, e) | inr e ↦ omega (arith, e, order) ],
          b.high,
          piece_like a b.low b.high b.is_low b.is_high,
          order,
        );
      }

  high_piece : (k : ℕ) (a : InstanceItem) → Shows plan masters k a
      → (is_a : IsOfClass plan masters Dm a) (f : IsFetItem plan masters a)
      → Piece k High a (at a.spot (know a f).boxes.high)
  high_piece k a h is_a f =
      let b = (know a f).boxes in
      let found = fet_crossed tech plan masters layouts boxes done shapes cs are k a h is_a f in
      let of_box : IsCrossingOf cs k found.0 = record { among = found.1; diffusion = found.2 } in
      let first = crossing_of k a h f found.0 of_box in
      let there = high_there found.0 (area_at boxes found.0.poly) (area_at boxes k)
      (shared_there k found.0 found.2 first.shared) in
      record {
        shows = h;
        conductor = record { drawn = b.is_high.drawn; conducts = subst Conducts (sym b.is_high.of_class) tt };
        spot = refl;
        owner = sym b.is_high.owned;
        class = ap conducting is_a.of_class ∙ sym b.is_high.of_class;
        area = there.0;
        is_area = (found.0, of_box, there.1);
        areas_lie = λ s e. (
            let own = crossing_of k a h f e.0 e.1 in
            high_lies tech f.gate e.0 (area_at boxes k) s (Lies (at a.spot b.diffusion)) (Lies (at a.spot b.channel))
            (Lies (at a.spot b.high)) own.runs
            (sides_at tech plan masters layouts boxes shapes k a h
            ∙ ap (λ (n : ℕ). sides_in_grains tech (Lies (at a.spot n)))
            (sym (diffusion_item a is_a f))) own.channel b.lies_above e.2
            );
        net = λ nets are_nets. sym ((know a f).high_net nets are_nets);
        stands = never a is_a f b.high b.is_high;
        stands_back = never_back a f b.high b.is_high;
        tells = (b.low, piece_like a b.high b.low b.is_high b.is_low, (know a f).in_order);
      }

  -- ---- all of them

  of_class_on : (k : ℕ) (a : InstanceItem) (layer : MaskLayer) (class : Class) → Shows plan masters k a
      → layer_of plan masters a ≡ layer → class_of_layer layer ≡ class → IsOfClass plan masters class a
  of_class_on k a layer class h e f =
      let b = shown plan masters k a h in
      record { drawn = b.drawn; of_class = class_back (item_of plan masters a).class layer (b.layer ∙ ap Some e) ∙ f }

  -- each part of a box is a conductor
  pub piece_of_part : (k : ℕ) (a : InstanceItem) (part : Part) → Shows plan masters k a
      → Has (parts_of_item plan masters a) part → (c : InstanceItem) × Piece k part a c
  piece_of_part k a part h in_parts = by_layer (layer_of plan masters a) refl in_parts
    where
      by_fet : IsOfClass plan masters Dm a → (x : Bool) → is_of_transistor plan masters a ≡ x
          → Has (parts_of_diffusion x) part → (c : InstanceItem) × Piece k part a c
      by_fet is_a true e (inl is) =
          let f = fet_item plan masters a is_a.drawn e in (
            at a.spot (know a f).boxes.low,
            subst (λ (z : Part). Piece k z a (at a.spot (know a f).boxes.low)) is
                (low_piece k a h is_a f),
          )
      by_fet is_a true e (inr (inl is)) =
          let f = fet_item plan masters a is_a.drawn e in (
            at a.spot (know a f).boxes.high,
            subst (λ (z : Part). Piece k z a (at a.spot (know a f).boxes.high)) is
                (high_piece k a h is_a f),
          )
      by_fet is_a true e (inr (inr none)) = absurd none
      by_fet is_a false e (inl is) =
          let one = one_piece_at a is_a e in (
            at a.spot one.0.piece,
            subst (λ (z : Part). Piece k z a (at a.spot one.0.piece)) is
                (whole_piece k a h is_a one.0 one.1),
          )
      by_fet is_a false e (inr none) = absurd none

      by_layer : (layer : MaskLayer) → layer_of plan masters a ≡ layer
          → Has (parts_on layer (is_of_transistor plan masters a)) part → (c : InstanceItem) × Piece k part a c
      by_layer ND e own = by_fet (of_class_on k a ND Dm h e refl) (is_of_transistor plan masters a) refl own
      by_layer NP e (inl is) = (
        a,
        subst (λ (z : Part). Piece k z a a) is
            (whole_same P tt refl (owners_have_poly tech plan masters done.planned) k a h
            (of_class_on k a NP P h e refl)),
      )
      by_layer NP e (inr none) = absurd none
      by_layer NM e (inl is) = (
        a,
        subst (λ (z : Part). Piece k z a a) is
            (whole_same M tt refl (owners_have_metal tech plan masters done.planned) k a h
            (of_class_on k a NM M h e refl)),
      )
      by_layer NM e (inr none) = absurd none
      by_layer NC e own = absurd own
      by_layer NI e own = absurd own
      by_layer NB e own = absurd own

  -- each conductor is a part of a box
  pub record HasPiece (c : InstanceItem) : Type 0 where
    pub k : ℕ
    pub part : Part
    pub a : InstanceItem
    pub among : Has (parts_of_item plan masters a) part
    pub piece : Piece k part a c

  parts_are : (a : InstanceItem) (layer : MaskLayer) (x : Bool) (part : Part)
      → layer_drawn (item_of plan masters a).class ≡ Some layer → is_of_transistor plan masters a ≡ x
      → Has (parts_on layer x) part → Has (parts_of_item plan masters a) part
  parts_are a layer x part e f h =
      let on : layer_of plan masters a ≡ layer = ap (λ z. unwrap_or z ND) e in
      subst (λ (l : MaskLayer). Has (parts_on l (is_of_transistor plan masters a)) part) (sym on)
      (subst (λ (y : Bool). Has (parts_on layer y) part) (sym f) h)

  pub piece_there : (c : InstanceItem) → IsConductor plan masters c → HasPiece c
  piece_there c is_c = by_class (item_of plan masters c).class refl is_c.conducts
    where
      of_mask : (a : InstanceItem) (k : ℕ) → a.spot ≡ c.spot
          → (item_of plan masters a).owner ≡ (item_of plan masters c).owner → Shows plan masters k a
          → IsOfClass plan masters Dm a
          → IsOwned plan masters Dc (item_of plan masters a).owner (at a.spot c.item) → at a.spot c.item ≡ c
          → HasPiece c
      of_mask a k spot owner h is_a own same = elim (cases_Bool (is_of_transistor plan masters a)) [
        | inl on ↦
            let f = fet_item plan masters a is_a.drawn on in
            elim ((know a f).boxes.two_chunks c.item own) [
              | inl low ↦ record {
                k = k;
                part = Low;
                a = a;
                among = parts_are a ND true Low (layer_there (item_of plan masters a).class ND is_a.of_class) on
                    (inl refl);
                piece = subst (λ (d : InstanceItem). Piece k Low a d) (ap (at a.spot) (sym low) ∙ same)
                    (low_piece k a h is_a f);
              }
              | inr high ↦ record {
                k = k;
                part = High;
                a = a;
                among = parts_are a ND true High (layer_there (item_of plan masters a).class ND is_a.of_class) on
                    (inr (inl refl));
                piece = subst (λ (d : InstanceItem). Piece k High a d) (ap (at a.spot) (sym high) ∙ same)
                    (high_piece k a h is_a f);
              }
            ]
        | inr off ↦
            let one = one_piece_at a is_a off in
            record {
              k = k;
              part = Whole;
              a = a;
              among = parts_are a ND false Whole (layer_there (item_of plan masters a).class ND is_a.of_class) off
                  (inl refl);
              piece = subst (λ (d : InstanceItem). Piece k Whole a d)
                  (ap (at a.spot) (sym (one.0.one_chunk c.item own)) ∙ same) (whole_piece k a h is_a one.0 one.1);
            }
      ]

      whole : (layer : MaskLayer) (class : Class) → Conducts class → conducting class ≡ class
          → OwnersHaveOne plan masters class → class ≡ class_of_layer layer
          → ((x : Bool) → Has (parts_on layer x) Whole) → (item_of plan masters c).class ≡ class → HasPiece c
      whole layer class conducts same one of_layer has e =
          let n = number plan masters c layer is_c.drawn (e ∙ of_layer) in
          record {
            k = n.0;
            part = Whole;
            a = c;
            among = parts_are c layer (is_of_transistor plan masters c) Whole
                (layer_there (item_of plan masters c).class layer (e ∙ of_layer)) refl
                (has (is_of_transistor plan masters c));
            piece = whole_same class conducts same one n.0 c n.1 (record { drawn = is_c.drawn; of_class = e });
          }

      by_class : (class : Class) → (item_of plan masters c).class ≡ class → Conducts class → HasPiece c
      by_class M e conducts = whole NM M tt refl (owners_have_metal tech plan masters done.planned) refl
          (λ x. inl refl) e
      by_class P e conducts = whole NP P tt refl (owners_have_poly tech plan masters done.planned) refl
          (λ x. inl refl) e
      by_class Dc e conducts =
          let mask = pieces_have_masks tech plan masters done.planned c (record { drawn = is_c.drawn; of_class = e }) in
          let a : InstanceItem = at c.spot mask.0 in
          let is_a : IsOfClass plan masters Dm a = record { drawn = mask.1.drawn; of_class = mask.1.of_class } in
          let n = number plan masters a ND mask.1.drawn mask.1.of_class in
          of_mask a n.0 refl mask.1.owned n.1 is_a
          (record { drawn = is_c.drawn; of_class = e; owned = sym mask.1.owned }) refl
      by_class _ e conducts = absurd conducts
