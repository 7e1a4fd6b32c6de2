-- The entries of a tree, by the boxes that they are of.
use Rattle.std.proofs.Common.{◌≡◌, ◌↔◌, ℕ, ◌^◌, ◌<◌, ◌≤◌, ℤ, Some, Bool, IsTrue, List, length, get_or, map, slice_get}
use Rattle.std.proofs.{Common.{All, Contains, sym, ap, ◌∙◌, subst, arith}, lemmas.List.{get_or-map, length-map}}
use Rattle.std.proofs.lemmas.Option.{get_or_from_slice_get, slice_get_within, slice_get-get_or}
use Rattle.lam_geom.specs.{declared.boxes.{BoxXY.BoxXY, MaskBox.MaskBox, MaskLayer.MaskLayer}, Gaps.Encloses}
use Rattle.lam_geom.specs.{Gaps.Overlaps, Places.IsPlacedBox}
use Rattle.box_tree.specs.{declared.{query.Question.TheVariants.Covers, entries.Entry.Entry}, Queries.HoldsAt}
use Rattle.box_tree.specs.Tree.{no_entry}
use Rattle.crossing_model.specs.Boxes.{AreSearchable, IsOn, area_at, box_at, layer_at, no_box, IsCovered}
use Rattle.crossings.specs.{Pairs.{AreFacing, DoOverlap}, Entries.{AreBoxesOn, AreEntriesFacing, box_entry}}
use Rattle.crossings.proofs.Facing.{overlap_by_area, overlap_faces}

-- an entry that is of a box on a layer
pub record IsEntryOf (boxes : List MaskBox) (layer : MaskLayer) (s : Entry) : Type 0 where
  pub number : ℕ
  pub on : IsOn boxes layer number
  pub is : s ≡ box_entry boxes number

pub entry_sound : (boxes : List MaskBox) (layer : MaskLayer) (entries : List Entry) (k : ℕ) (s : Entry)
    → AreBoxesOn boxes layer entries → slice_get entries k ≡ Some s → IsEntryOf boxes layer s
entry_sound boxes layer entries k s h there =
    let here = h.sound k no_entry (slice_get_within entries k s there) in
    let at = get_or_from_slice_get entries k s no_entry there in
    record { number = here.0; on = here.1; is = sym at ∙ here.2 }

-- each box on the layer has an entry
pub entry_there : (boxes : List MaskBox) (layer : MaskLayer) (entries : List Entry) (n : ℕ)
    → AreBoxesOn boxes layer entries → IsOn boxes layer n → (k : ℕ) × (slice_get entries k ≡ Some (box_entry boxes n))
entry_there boxes layer entries n h on =
    let found = h.complete n on.among on in
    (found.0, slice_get-get_or entries found.0 (box_entry boxes n) found.1 ∙ ap (λ (s : Entry). Some s) found.2)

-- entries of boxes that can be searched
pub entries_placed : (boxes : List MaskBox) (layer : MaskLayer) (entries : List Entry) → AreSearchable boxes
    → AreBoxesOn boxes layer entries → All (λ (s : Entry). IsPlacedBox s.area) entries
entries_placed boxes layer entries searchable h = λ k d lt.
    let here = h.sound k d lt in
    let placed : IsPlacedBox (area_at boxes here.0) = searchable.placed here.0 no_box here.1.among in
    subst (λ (s : Entry). IsPlacedBox s.area) (sym here.2) placed

pub entries_few : (boxes : List MaskBox) (layer : MaskLayer) (entries : List Entry) → AreSearchable boxes
    → AreBoxesOn boxes layer entries → length entries ≤ 2 ^ 21
entries_few boxes layer entries searchable h = omega (arith, searchable.few, h.few)

-- the entry of a box that was read
abbrev entry_of_box : MaskBox → ℕ → Entry
entry_of_box box k = record { area = box.area; owner = k; tag = 0 }

pub entry_is : (boxes : List MaskBox) (k : ℕ) (box : MaskBox) → box ≡ box_at boxes k
    → entry_of_box box k ≡ box_entry boxes k
entry_is boxes k box is = ap (λ (b : MaskBox). entry_of_box b k) is

-- ---- boxes that go past an area

pub covered_by_entry : (boxes : List MaskBox) (layer : MaskLayer) (entries : List Entry) (area : BoxXY)
    (margin held : ℤ) (r : Bool) → held ≡ margin
    → IsTrue r ↔ ((k : ℕ) × HoldsAt entries (record { area = area; question = Covers held }) k)
    → AreBoxesOn boxes layer entries → IsTrue r ↔ IsCovered boxes layer area margin
covered_by_entry boxes layer entries area margin held r same h on = (
  λ t. let found = h.0 t in
      let at = found.1 in
      let of = entry_sound boxes layer entries found.0 at.entry on at.there in
      let covers : Encloses at.entry.area area held = at.holds in
      record {
        cover = of.number;
        is_on = of.on;
        covers = subst (λ (m : ℤ). Encloses (area_at boxes of.number) area m) same
            (subst (λ (s : Entry). Encloses s.area area held) of.is covers);
      },
  λ w. let there = entry_there boxes layer entries w.cover on w.is_on in
      h.1 (
        there.0,
        record {
          entry = box_entry boxes w.cover;
          there = there.1;
          holds = subst (λ (m : ℤ). Encloses (area_at boxes w.cover) area m) (sym same) w.covers;
        },
      ),
)

-- ---- boxes of the other's layer

pub entry_faces : (boxes : List MaskBox) (a : ℕ) (entries : List Entry) (k : ℕ) (s : Entry)
    → AreEntriesFacing boxes a entries → slice_get entries k ≡ Some s → AreFacing boxes a s.owner
entry_faces boxes a entries k s h there =
    let of = entry_sound boxes h.layer entries k s h.entries_of there in
    let faces : AreFacing boxes a of.number =
    record {
      a_among = h.among;
      b_among = of.on.among;
      facing = h.facing
          ∙ ap (λ (l : MaskLayer). Some l) (sym of.on.on);
    } in
    subst (λ (n : ℕ). AreFacing boxes a n) (sym (ap (λ (x : Entry). x.owner) of.is)) faces

pub entry_overlaps : (boxes : List MaskBox) (a : ℕ) (entries : List Entry) (k : ℕ) (s : Entry)
    → AreEntriesFacing boxes a entries → slice_get entries k ≡ Some s → Overlaps (area_at boxes a) s.area
    → DoOverlap boxes a s.owner
entry_overlaps boxes a entries k s h there over =
    let of = entry_sound boxes h.layer entries k s h.entries_of there in
    let owner : s.owner ≡ of.number = ap (λ (x : Entry). x.owner) of.is in
    let faces = subst (λ (n : ℕ). AreFacing boxes a n) owner (entry_faces boxes a entries k s h there) in
    let over_box : Overlaps (area_at boxes a) (area_at boxes of.number) =
    subst (λ (x : Entry). Overlaps (area_at boxes a) x.area) of.is over in
    subst (λ (n : ℕ). DoOverlap boxes a n) (sym owner) (overlap_by_area boxes a of.number faces over_box)

pub overlapped_there : (boxes : List MaskBox) (a k : ℕ) (entries : List Entry) → AreEntriesFacing boxes a entries
    → DoOverlap boxes a k → (i : ℕ) × (slice_get entries i ≡ Some (box_entry boxes k))
overlapped_there boxes a k entries h over =
    let faces = overlap_faces boxes a k over in
    let same : Some (layer_at boxes k) ≡ Some h.layer = sym faces.facing ∙ h.facing in
    let on : layer_at boxes k ≡ h.layer = cc in
    entry_there boxes h.layer entries k h.entries_of (record { among = faces.b_among; on = on })

pub entry_area : (boxes : List MaskBox) (a : ℕ) (entries : List Entry) (k : ℕ) (s : Entry)
    → AreEntriesFacing boxes a entries → slice_get entries k ≡ Some s → s.area ≡ area_at boxes s.owner
entry_area boxes a entries k s h there =
    let of = entry_sound boxes h.layer entries k s h.entries_of there in
    ap (λ (x : Entry). x.area) of.is ∙ ap (λ (n : ℕ). area_at boxes n) (sym (ap (λ (x : Entry). x.owner) of.is))

-- ---- the boxes of some entries, by their numbers

abbrev pub owners : List Entry → List ℕ
owners entries = map (λ (s : Entry). s.owner) entries

pub owner_read : (entries : List Entry) (i : ℕ) (s : Entry) → i < length entries → s ≡ get_or entries i s
    → get_or (owners entries) i 0 ≡ s.owner
owner_read entries i s lt is = get_or-map (λ (x : Entry). x.owner) entries i s 0 lt
    ∙ sym (ap (λ (x : Entry). x.owner) is)

-- the box of each entry that box a meets is among them
pub met_is_owner : (boxes : List MaskBox) (a k : ℕ) (entries : List Entry) → AreEntriesFacing boxes a entries
    → DoOverlap boxes a k → Contains (owners entries) k
met_is_owner boxes a k entries facing over =
    let there = overlapped_there boxes a k entries facing over in
    let lt = slice_get_within entries there.0 (box_entry boxes k) there.1 in
    let at = get_or_from_slice_get entries there.0 (box_entry boxes k) no_entry there.1 in (
      there.0,
      omega (arith, lt, length-map entries (λ (x : Entry). x.owner)),
      get_or-map (λ (x : Entry). x.owner)
          entries there.0 no_entry k lt ∙ ap (λ (x : Entry). x.owner) at,
    )
