-- What a tree tells of the partners of a box: a row for each kind of rule.
use Rattle.std.proofs.Common.{◌≡◌, ◌↔◌, ℕ, ◌<◌, ◌⊎◌, inl, inr, ℤ, pos, ◌-ℤ◌, ◌<ℤ◌, ◌≤ℤ◌, List, ◌++◌, map, Result, Ok}
use Rattle.std.proofs.Common.{Err, OnOk, length, get_or, max, ◌+◌, ◌≤◌, refl, sym, ap, ◌∙◌, subst, arith}
use Rattle.std.proofs.lemmas.{Bool.cases_lt, Int.ints, List.{get_or-map, length-map, get_or_default}}
use Rattle.std.proofs.lemmas.List.Elements.{All-contains, Contains-append_cases, Contains-append_left}
use Rattle.std.proofs.lemmas.{List.Elements.Contains-append_right, Option.{get_or_from_slice_get, slice_get-get_or}}
use Rattle.std.specs.Prelude.{Some, slice_index, slice_index_or}
use Rattle.lam_geom.specs.declared.boxes.{BoxXY.BoxXY, MaskBox.MaskBox, MaskLayer.{MaskLayer, TheVariants.{ND, NP, NC}}}
use Rattle.lam_geom.specs.{declared.boxes.MaskLayer.TheVariants.NI, Gaps.{gap_of_boxes, Overlaps}}
use Rattle.rule_table.specs.{declared.technology.Tech.Tech, Technology.numbers_of}
use Rattle.box_tree.specs.declared.query.{Query.Query, Question.{Question, TheVariants.{NearOfOther, NearOfOtherTag}}}
use Rattle.box_tree.specs.{declared.entries.Entry.Entry, Found.{AreGathered, AreHolding}, Queries.{Holds, HoldsAt}}
use Rattle.box_tree.{specs.Tree.no_entry, proofs.Growth.{gathered_as, gathered_more, gathered_none}}
use Rattle.crossing_model.specs.{Boxes.{area_at, layer_at, IsOn, grains}, Crossings.AreProper}
use Rattle.crossings.specs.Entries.{AreBoxesOn, box_entry}
use Rattle.box_pieces.specs.Pieces.{box_of}
use Rattle.rule_breaks.specs.declared.rule.Rule.TheVariants.{CutSpacing, ImplantToChannel, PolyToDiffusion}
use Rattle.rule_breaks.specs.Breaks.{AreCutsTooNear, AreOnBoth, ArePairOf, ArePiecesTooNear, IsChannel}
use Rattle.rule_breaks.{specs.Breaks.{IsImplantTooNear, IsNearChannel, IsPolyTooNear}, proofs.Turned.gap_turned}
use Rattle.flat_check.specs.{declared.flat_layout.FlatLayout.FlatLayout, Partners.{HasNearPiece, HaveNearPiece}}
use Rattle.flat_check.specs.Partners.{IsBesideBox, IsBesideChannel, IsOwner, WithOther, channel_question_of}
use Rattle.flat_check.specs.{Partners.question_of, FlatLayouts.IsFlatLayout, Trees.{AreChannels, ArePiecesOn}}
use Rattle.flat_check.specs.Trees.{IsPieceOn, channel_entry, piece_entry}
use Rattle.flat_check.proofs.{OneChannel.channel_same, PiecePairs.{pieces_found, pieces_near}, Wholes.contains_there}
use Rattle.flat_check.proofs.Wholes.{whole_listed, whole_entry}

-- ---- owners

-- the owner of an entry by its number
abbrev pub owner_at : List Entry → ℕ → ℕ
owner_at entries k = (slice_index_or entries k no_entry).owner

-- after the others have been added those of the entries that hold a query
pub owners_gathered : (entries : List Entry) (query : Query) (places old : List ℕ) → AreHolding entries query places
    → AreGathered (IsOwner entries query) old (old ++ map (owner_at entries) places)
owners_gathered entries query places old h = record {
  sound = λ b c. elim (Contains-append_cases old (map (owner_at entries) places) b c) [
    | inl before ↦ inl before
    | inr here ↦
        let lt : here.0 < length places = omega (arith, here.1, length-map places (owner_at entries)) in
        let k : ℕ = slice_index places here.0 in
        let held : HoldsAt entries query k = h.sound k (here.0, lt, get_or_default places here.0 k 0 lt) in
        let owner : owner_at entries k ≡ b = sym (get_or-map (owner_at entries) places here.0 0 b lt) ∙ here.2 in
        let entry = get_or_from_slice_get entries k held.entry no_entry held.there in
        inr (record {
          entry = held.entry;
          there = contains_there entries k held.entry held.there;
          holds = held.holds;
          owner = ap (λ (s : Entry). s.owner) (sym entry) ∙ owner;
        })
  ];
  kept = λ b c. Contains-append_left old (map (owner_at entries) places) b c;
  complete = λ b o.
      let there = o.there in
      let at = slice_get-get_or entries there.0 o.entry there.1 ∙ ap Some there.2 in
      let placed = h.complete there.0 (record { entry = o.entry; there = at; holds = o.holds }) in
      let owner : owner_at entries there.0 ≡ b =
      ap (λ (s : Entry). s.owner) (get_or_from_slice_get entries there.0 o.entry no_entry at) ∙ o.owner in
      Contains-append_right old (map (owner_at entries) places) b (
        placed.0,
        omega (arith, placed.1, length-map places (owner_at entries)),
        get_or-map (owner_at entries) places
            placed.0 there.0 b placed.1 ∙ (ap (owner_at entries) placed.2 ∙ owner),
      );
}

-- the same by what the owners of a query with other names are
pub rowed : {T E : Type 0} (r : Result T E) (entries : List Entry) (held query : Query) (Is : ℕ → Type 0)
    (old new : List ℕ) → held ≡ query → ((b : ℕ) → IsOwner entries query b ↔ Is b)
    → OnOk r (AreGathered (IsOwner entries held) old new) → OnOk r (AreGathered Is old new)
rowed (Ok found) entries held query Is old new same row h =
    gathered_as (IsOwner entries query) Is old new (λ b o. (row b).0 o) (λ b i. (row b).1 i)
    (subst (λ (q : Query). AreGathered (IsOwner entries q) old new) same h)
rowed (Err fault) entries held query Is old new same row h = tt

abbrev asked : BoxXY → Question → Query
asked area question = record { area = area; question = question }

pub query_is : (a b : BoxXY) (p q : Question) → a ≡ b → p ≡ q → asked a p ≡ asked b q
query_is a b p q first second = ap (λ (x : BoxXY). asked x p) first ∙ ap (asked b) second

abbrev beside : Entry → ℤ → Query
beside s reach = asked s.area (NearOfOtherTag reach s.owner s.tag)

pub piece_query : (s t : Entry) (reach least : ℤ) → s ≡ t → reach ≡ least → beside s reach ≡ beside t least
piece_query s t reach least first second = ap (λ (x : Entry). beside x reach) first ∙ ap (beside t) second

-- ---- boxes and channels that own entries

box_owner : (boxes : List MaskBox) (layer : MaskLayer) (entries : List Entry) (query : Query) (b : ℕ)
    → AreBoxesOn boxes layer entries → IsOwner entries query b → IsOn boxes layer b × Holds query (box_entry boxes b)
box_owner boxes layer entries query b are o =
    let s = All-contains (λ (x : Entry). (k : ℕ) × IsOn boxes layer k × (x ≡ box_entry boxes k)) entries o.entry
    are.sound o.there in
    let same : s.0 ≡ b = sym (ap (λ (x : Entry). x.owner) s.2) ∙ o.owner in
    subst (λ (k : ℕ). IsOn boxes layer k × Holds query (box_entry boxes k)) same (s.1, subst (Holds query) s.2 o.holds)

owner_box : (boxes : List MaskBox) (layer : MaskLayer) (entries : List Entry) (query : Query) (b : ℕ)
    → AreBoxesOn boxes layer entries → IsOn boxes layer b → Holds query (box_entry boxes b) → IsOwner entries query b
owner_box boxes layer entries query b are on holds =
    record { entry = box_entry boxes b; there = are.complete b on.among on; holds = holds; owner = refl }

-- an entry of a channel's tree
pub record IsChannelOwner (tech : Tech) (boxes : List MaskBox) (query : Query) (d : ℕ) : Type 0 where
  pub entry : Entry
  pub is_channel : IsChannel tech boxes d entry.area
  pub holds : Holds query entry
  pub owner : entry.owner ≡ d

channel_owner : (tech : Tech) (boxes : List MaskBox) (entries : List Entry) (query : Query) (d : ℕ)
    → AreChannels tech boxes entries → IsOwner entries query d → IsChannelOwner tech boxes query d
channel_owner tech boxes entries query d are o =
    record {
      entry = o.entry;
      is_channel = subst (λ (k : ℕ). IsChannel tech boxes k o.entry.area) o.owner
          (are.sound o.entry o.there);
      holds = o.holds;
      owner = o.owner;
    }

owner_channel : (tech : Tech) (boxes : List MaskBox) (entries : List Entry) (query : Query) (d : ℕ) (s : BoxXY)
    → AreChannels tech boxes entries → IsChannel tech boxes d s → Holds query (channel_entry s d)
    → IsOwner entries query d
owner_channel tech boxes entries query d s are is holds =
    record { entry = channel_entry s d; there = are.complete d s is; holds = holds; owner = refl }

-- ---- near, and below the spacing

below : (gap least : ℤ) → gap ≤ℤ (least -ℤ pos 1) → gap <ℤ least
below gap least h = omega (arith, ints, h)

pub within : (gap least : ℤ) → gap <ℤ least → gap ≤ℤ (least -ℤ pos 1)
within gap least h = omega (arith, ints, h)

pub turned : (a b : BoxXY) (least : ℤ) → gap_of_boxes a b <ℤ least → gap_of_boxes b a <ℤ least
turned a b least h = subst (λ (z : ℤ). z <ℤ least) (gap_turned a b) h

-- a box has one channel
pub beside_channel : (tech : Tech) (boxes : List MaskBox) (entries : List Entry) (ask : Question) (a b : ℕ) (s : BoxXY)
    → IsChannel tech boxes a s → IsOwner entries (asked s ask) b ↔ IsBesideChannel tech boxes ask entries a b
beside_channel tech boxes entries ask a b s is = (
  λ o. (s, is, o),
  λ h. subst (λ (x : BoxXY). IsOwner entries (asked x ask) b) (channel_same tech boxes a h.0 s h.1 is) h.2,
)

-- ---- rows

module _ (tech : Tech) (boxes : List MaskBox) (entries : List Entry) where
  pub cut_row : (a b : ℕ) → AreBoxesOn boxes NC entries
      → IsBesideBox boxes NC (question_of tech CutSpacing a) entries a b ↔ WithOther (AreCutsTooNear tech boxes) a b
  cut_row a b are = (
    λ o. let s = box_owner boxes NC entries _ b are o.1 in
        (λ e. s.1.1 (sym e), record { first = o.0; second = s.0; near = below _ _ s.1.0 }),
    λ h. (h.1.first, owner_box boxes NC entries _ b are h.1.second (within _ _ h.1.near, λ e. h.0 (sym e))),
  )

  module _ (layer : MaskLayer) (spacing : ℤ) where
    abbrev ask : ℕ → Question
    ask a = NearOfOther (grains tech spacing -ℤ pos 1) a

    abbrev Near : ℕ → ℕ → Type 0
    Near = IsNearChannel tech boxes layer spacing

    pub channels_row : (a b : ℕ) → AreChannels tech boxes entries
        → IsBesideBox boxes layer (ask a) entries a b ↔ WithOther Near a b
    channels_row a b are = (
      λ o. let s = channel_owner tech boxes entries _ b are o.1 in let at = s.holds in let near = below _ _ at.0 in (
        λ e. at.1 (s.owner ∙ sym e),
        record {
          on = o.0;
          channel = s.entry.area;
          is_channel = s.is_channel;
          near = near;
        },
      ),
      λ h. let k = h.1 in
          (k.on, owner_channel tech boxes entries _ b k.channel are k.is_channel (within _ _ k.near, λ e. h.0 (sym e))),
    )

    pub channel_row : (a b : ℕ) → AreBoxesOn boxes layer entries
        → IsBesideChannel tech boxes (ask a) entries a b ↔ WithOther (λ d k. Near k d) a b
    channel_row a b are = (
      λ o. let t = box_owner boxes layer entries _ b are o.2 in let near =
          turned o.0 (area_at boxes b) _ (below _ _ t.1.0) in
          (λ e. t.1.1 (sym e), record { on = t.0; channel = o.0; is_channel = o.1; near = near }),
      λ h. let k = h.1 in let near = turned (area_at boxes b) k.channel _ k.near in
          (k.channel, k.is_channel, owner_box boxes layer entries _ b are k.on (within _ _ near, λ e. h.0 (sym e))),
    )

  pub short_channels_row : (a b : ℕ) → AreChannels tech boxes entries
      → IsBesideBox boxes NI (question_of tech ImplantToChannel a) entries a b ↔ IsImplantTooNear tech boxes a b
  short_channels_row a b are = (
    λ o. let s = channel_owner tech boxes entries _ b are o.1 in let at = s.holds in let gap = below _ _ at.0 in
        record {
          near = record { on = o.0; channel = s.entry.area; is_channel = s.is_channel; near = gap };
          short = at.1;
        },
    λ h. let k =
        h.near in
        (k.on, owner_channel tech boxes entries _ b k.channel are k.is_channel (within _ _ k.near, h.short)),
  )

  pub short_implants_row : (a b : ℕ) → AreBoxesOn boxes NI entries
      → IsBesideChannel tech boxes (channel_question_of tech ImplantToChannel a) entries a b
      ↔ IsImplantTooNear tech boxes b a
  short_implants_row a b are = (
    λ o. let t = box_owner boxes NI entries _ b are o.2 in let gap = turned o.0 (area_at boxes b) _ (below _ _ t.1.0) in
        record { near = record { on = t.0; channel = o.0; is_channel = o.1; near = gap }; short = t.1.1 },
    λ h. let k = h.near in let gap = turned (area_at boxes b) k.channel _ k.near in
        (k.channel, k.is_channel, owner_box boxes NI entries _ b are k.on (within _ _ gap, h.short)),
  )

-- of poly, by the boxes of diffusion, and of diffusion, by the pieces of poly
module _ (flat : FlatLayout) (diffusion poly : List Entry) (is : IsFlatLayout flat)
    (all : AreBoxesOn flat.boxes.now ND diffusion) (pieces : ArePiecesOn flat NP poly) (a b : ℕ) where
  abbrev tech : Tech
  tech = flat.tech.now

  abbrev boxes : List MaskBox
  boxes = flat.boxes.now

  abbrev poly_asks : Question
  poly_asks = question_of tech PolyToDiffusion a

  abbrev IsBesideEither : Type 0
  IsBesideEither = IsBesideBox boxes NP poly_asks diffusion a b ⊎ IsBesideBox boxes ND poly_asks poly a b

  beside_near : IsBesideEither → IsPolyTooNear tech boxes a b
  beside_near (inl (on, o)) =
      let s = box_owner boxes ND diffusion _ b all o in
      let both : AreOnBoth boxes NP ND a b =
      record { p = a; q = b; pair = inl (refl, refl); first = on; second = s.0 } in
      record { on = both; apart = s.1.1; near = below _ _ s.1.0 }
  beside_near (inr (on, o)) =
      let at = o.holds in
      let whole = whole_entry flat NP poly o.entry is (inl refl) pieces o.there in
      let area : o.entry.area ≡ area_at boxes b = whole.1 ∙ ap (area_at boxes) o.owner in
      let least = grains tech (numbers_of tech).spacing_poly_diffusion in
      let first = subst (IsOn boxes NP) o.owner whole.0 in
      record {
        on = record { p = b; q = a; pair = inr (refl, refl); first = first; second = on };
        apart = subst (λ (x : BoxXY). Overlaps (area_at boxes a) x → ⊥) area at.1;
        near = subst (λ (x : BoxXY). gap_of_boxes (area_at boxes a) x <ℤ least) area (below _ _ at.0);
      }

  near_beside : (h : IsPolyTooNear tech boxes a b) → ArePairOf a b h.on.p h.on.q → IsBesideEither
  near_beside h (inl (e, f)) =
      let second = subst (IsOn boxes ND) (sym f) h.on.second in
      let own = subst (IsOn boxes NP) (sym e) h.on.first in
      inl (
        own,
        owner_box boxes ND diffusion (asked (area_at boxes a) poly_asks) b all second
            (within _ _ h.near, h.apart),
      )
  near_beside h (inr (e, f)) =
      let whole = whole_listed flat NP poly b is (inl refl) pieces (subst (IsOn boxes NP) (sym f) h.on.first) in
      let entry : Entry = record { area = area_at boxes b; owner = b; tag = whole.0 } in
      let owner : IsOwner poly (asked (area_at boxes a) poly_asks) b =
      record { entry = entry; there = whole.1; holds = (within _ _ h.near, h.apart); owner = refl } in
      inr (subst (IsOn boxes ND) (sym e) h.on.second, owner)

  pub poly_row : IsBesideEither ↔ IsPolyTooNear tech boxes a b
  poly_row = (beside_near, λ h. near_beside h h.on.pair)

-- of a piece, by the pieces of its layer
pub piece_row : (flat : FlatLayout) (layer : MaskLayer) (spacing : ℤ) (entries : List Entry) (i b : ℕ)
    → ArePiecesOn flat layer entries
    → IsOwner entries (beside (piece_entry flat i) (grains flat.tech.now spacing -ℤ pos 1)) b
    ↔ HasNearPiece flat layer spacing i b
piece_row flat layer spacing entries i b are = (
  λ o. let s = All-contains (λ (x : Entry). (j : ℕ) × IsPieceOn flat layer j × (x ≡ piece_entry flat j)) entries
      o.entry are.sound o.there in
      let at = subst (Holds (beside (piece_entry flat i) (grains flat.tech.now spacing -ℤ pos 1))) s.2 o.holds in
      let owner : box_of flat.pieces.placed.items s.0 ≡ b = sym (ap (λ (x : Entry). x.owner) s.2) ∙ o.owner in
      record {
        j = s.0;
        on = s.1;
        of_box = owner;
        other = λ e. at.1 (owner ∙ e);
        near = record { near = below _ _ at.0; apart = λ e. at.2 (sym e) };
      },
  λ h. let on = h.on in record {
    entry = piece_entry flat h.j;
    there = are.complete h.j on.0 on;
    holds = (within _ _ h.near.near, λ e. h.other (sym h.of_box ∙ e), λ e. h.near.apart (sym e));
    owner = h.of_box;
  },
)

-- ---- piece by piece

module _ (flat : FlatLayout) (layer : MaskLayer) (spacing : ℤ) where
  pub no_piece_yet : (first : ℕ) (old : List ℕ) → AreGathered (HaveNearPiece flat layer spacing first first) old old
  no_piece_yet first old = gathered_none (HaveNearPiece flat layer spacing first first) old
      (λ b h. omega (arith, h.low, h.high))

  pub one_piece_more : (first i : ℕ) (old found new : List ℕ) → first ≤ i
      → AreGathered (HaveNearPiece flat layer spacing first i) old found
      → AreGathered (HasNearPiece flat layer spacing i) found new
      → AreGathered (HaveNearPiece flat layer spacing first (i + 1)) old new
  one_piece_more first i old found new le =
      gathered_more (HaveNearPiece flat layer spacing first i) (HasNearPiece flat layer spacing i)
      (HaveNearPiece flat layer spacing first (i + 1)) old found new
      (λ b h. elim h [
        | inl k ↦ record { i = k.i; low = k.low; high = omega (arith, k.high); near = k.near }
        | inr k ↦
            record { i = i; low = le; high = omega arith; near = k }
      ])
      (λ b h. elim (cases_lt h.i i) [
        | inl less ↦ inl (record { i = h.i; low = h.low; high = less; near = h.near })
        | inr more ↦ let at : h.i ≡ i =
            omega (arith, h.high, more) in inr (subst (λ (n : ℕ). HasNearPiece flat layer spacing n b) at h.near)
      ])

  -- all pieces of a box
  pub all_pieces : (starts : List ℕ) (a end : ℕ) (old new : List ℕ) → IsFlatLayout flat
      → AreProper flat.tech.now flat.boxes.now → a < length flat.boxes.now → layer_at flat.boxes.now a ≡ layer
      → starts ≡ flat.pieces.starts.items
      → get_or starts (a + 1) 0 ≤ end → end ≤ max (get_or starts a 0) (get_or starts (a + 1) 0)
      → AreGathered (HaveNearPiece flat layer spacing (get_or starts a 0) end) old new
      → AreGathered (WithOther (ArePiecesTooNear flat.tech.now flat.boxes.now layer spacing) a) old new
  all_pieces starts a end old new is proper la on same past last =
      let first : get_or starts a 0 ≡ get_or flat.pieces.starts.items a 0 =
      ap (λ (ss : List ℕ). get_or ss a 0) same in
      let after : get_or starts (a + 1) 0 ≡ get_or flat.pieces.starts.items (a + 1) 0 =
      ap (λ (ss : List ℕ). get_or ss (a + 1) 0) same in
      gathered_as (HaveNearPiece flat layer spacing (get_or starts a 0) end)
      (WithOther (ArePiecesTooNear flat.tech.now flat.boxes.now layer spacing) a) old new
      (λ b h. pieces_near flat layer spacing a h.i b is proper la on
      (record { low = omega (arith, h.low, first); high = omega (arith, h.low, h.high, last, after) }) h.near)
      (λ b h. let k = pieces_found flat layer spacing a b is proper la h in
      record {
        i = k.i;
        low = omega (arith, k.low, first);
        high = omega (arith, k.high, past, after);
        near = k.near;
      })
