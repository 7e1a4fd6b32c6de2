-- A diffusion box has one channel, which the crossings tell.
use Rattle.std.proofs.Common.{◌≡◌, ℕ, ◌<◌, ◌≤◌, pos, List, [], length, map, get_or, Result, Ok, Err, inl, inr, refl}
use Rattle.std.proofs.{Common.{sym, ap, ◌∙◌, subst, arith}, lemmas.{Bool.{cases_lt, Decides.nat_tests}, Cmp.ranked}}
use Rattle.std.proofs.lemmas.List.{length-map, Elements.All-contains}
use Rattle.std.specs.{Prelude.MatchResult, List.Sorted.{IsSearchInRange, IsBinarySearchResult, IsNonDecreasingBy}}
use Rattle.std.specs.Ordering.{nat_cmp, ordering_index}
use Rattle.lam_geom.specs.{declared.boxes.{BoxXY.BoxXY, MaskBox.MaskBox, MaskLayer.TheVariants.ND}, Gaps.Encloses}
use Rattle.lam_geom.specs.Places.{IsPlacedBox}
use Rattle.rule_table.specs.declared.technology.Tech.{Tech}
use Rattle.crossing_model.specs.{declared.crossing.Crossing.Crossing, Boxes.{no_box, area_at, IsOn, IsCommon}}
use Rattle.crossing_model.specs.{Boxes.AreSearchable, Crossings.{AreProper, IsBadPair, IsMeeting, IsCrossing}}
use Rattle.crossing_model.{specs.Crossings.{AreInOrder, AreCrossings}, proofs.SameCrossings.{common_same, common_of}}
use Rattle.box_pieces.proofs.Areas.{diffusion_read}
use Rattle.net_extract.proofs.{Geometry.placed_inner, Extracted.common_within}
use Rattle.rule_breaks.specs.Breaks.{IsChannel}
use Rattle.flat_check.specs.FlatLayouts.{HaveChannels}

-- ---- one channel

pub channel_same : (tech : Tech) (boxes : List MaskBox) (d : ℕ) (s t : BoxXY) → IsChannel tech boxes d s
    → IsChannel tech boxes d t → s ≡ t
channel_same tech boxes d s t h k =
    let diffusion : k.crossing.diffusion ≡ h.crossing.diffusion = k.diffusion ∙ sym h.diffusion in
    let P : ℕ → Type 0 = λ n. IsMeeting tech boxes k.crossing.poly n in
    let here : IsMeeting tech boxes k.crossing.poly h.crossing.diffusion = subst P diffusion k.is_crossing.meeting in
    let proper = h.proper h.crossing.poly h.crossing.diffusion h.is_crossing.meeting in
    let poly : k.crossing.poly ≡ h.crossing.poly = proper.diffusion_alone k.crossing.poly here.overlap in
    let common : IsCommon (area_at boxes h.crossing.poly) (area_at boxes h.crossing.diffusion) k.crossing.channel =
    common_of boxes k.crossing.poly h.crossing.poly k.crossing.diffusion h.crossing.diffusion k.crossing.channel poly
    diffusion k.is_crossing.channel in
    sym h.there ∙ common_same (area_at boxes h.crossing.poly) (area_at boxes h.crossing.diffusion) h.crossing.channel
    k.crossing.channel h.is_crossing.channel common ∙ k.there

-- a channel lies within its diffusion
pub channel_within : (tech : Tech) (boxes : List MaskBox) (d : ℕ) (s : BoxXY) → IsChannel tech boxes d s
    → Encloses (area_at boxes d) s (pos 0)
channel_within tech boxes d s h =
    let P : ℕ → Type 0 = λ n. Encloses (area_at boxes n) h.crossing.channel (pos 0) in
    let Q : BoxXY → Type 0 = λ c. Encloses (area_at boxes d) c (pos 0) in
    subst Q h.there
    (subst P h.diffusion
    (common_within (area_at boxes h.crossing.poly) (area_at boxes h.crossing.diffusion) h.crossing.channel
    h.is_crossing.channel))

-- the box of a channel is diffusion
pub channel_among : (tech : Tech) (boxes : List MaskBox) (d : ℕ) (s : BoxXY) → IsChannel tech boxes d s
    → IsOn boxes ND d
channel_among tech boxes d s h = let P : ℕ → Type 0 =
    λ n. IsOn boxes ND n in subst P h.diffusion h.is_crossing.meeting.overlap.diffusion

-- a channel can be measured
pub channel_placed : (tech : Tech) (boxes : List MaskBox) (d : ℕ) (s : BoxXY) → AreSearchable boxes
    → IsChannel tech boxes d s → IsPlacedBox s
channel_placed tech boxes d s searchable h =
    placed_inner (area_at boxes d) s (searchable.placed d no_box (channel_among tech boxes d s h).among)
    (channel_within tech boxes d s h)

-- ---- among the crossings

-- a crossing with this diffusion has its channel
pub channel_at : (tech : Tech) (boxes : List MaskBox) (d : ℕ) (c : Crossing) → AreProper tech boxes
    → IsCrossing tech boxes c → c.diffusion ≡ d → IsChannel tech boxes d c.channel
channel_at tech boxes d c proper is at =
    record { proper = proper; crossing = c; is_crossing = is; diffusion = at; there = refl }

abbrev pub IsNone : List Crossing → ℕ → Type 0
IsNone crossings d = (k : ℕ) (c : Crossing) → k < length crossings → (get_or crossings k c).diffusion ≡ d → ⊥

-- where none has it there is no channel
pub no_channel : (tech : Tech) (boxes : List MaskBox) (crossings : List Crossing) (d : ℕ)
    → HaveChannels tech boxes crossings → IsNone crossings d → (s : BoxXY) → IsChannel tech boxes d s → ⊥
no_channel tech boxes crossings d have none s h =
    let found = have.complete d s h in
    let among = found.1 in
    none among.0 found.0 among.1 (ap (λ (c : Crossing). c.diffusion) among.2 ∙ found.2)

-- the crossings of boxes have all channels
pub have_channels : (tech : Tech) (boxes : List MaskBox) (crossings : List Crossing) → AreProper tech boxes
    → AreCrossings tech boxes crossings → HaveChannels tech boxes crossings
have_channels tech boxes crossings proper are = record {
  each = λ k c lt. channel_at tech boxes (get_or crossings k c).diffusion (get_or crossings k c) proper
      (are.each k c lt) refl;
  in_order = are.in_order;
  complete = λ d s h.
      let found = are.complete h.crossing.poly h.crossing.diffusion h.is_crossing.meeting in
      let c = found.0 in
      let diffusion : c.diffusion ≡ d = found.3 ∙ h.diffusion in
      let is : IsCrossing tech boxes c = All-contains (IsCrossing tech boxes) crossings c are.each found.1 in
      (c, found.1, diffusion, channel_same tech boxes d c.channel s (channel_at tech boxes d c proper is diffusion) h);
}

-- where some are not proper there are none
pub no_channels : (tech : Tech) (boxes : List MaskBox) → (AreProper tech boxes → ⊥) → HaveChannels tech boxes []
no_channels tech boxes improper = record {
  each = λ k c lt. absurd (omega (arith, lt));
  in_order = λ i j before lt. absurd (omega (arith, lt));
  complete = λ d s h. absurd (improper h.proper);
}

-- a pair that does not cross properly
pub not_proper : (tech : Tech) (boxes : List MaskBox) (a b : ℕ) → IsBadPair tech boxes a b → AreProper tech boxes → ⊥
not_proper tech boxes a b (lt, inl h) proper = h.improper (proper a b h.meeting)
not_proper tech boxes a b (lt, inr h) proper = h.improper (proper b a h.meeting)

-- the diffusions rise, as a binary search asks
diffusions_rise : (crossings : List Crossing) (d : ℕ) → AreInOrder crossings
    → IsNonDecreasingBy (λ (c : Crossing). ordering_index (nat_cmp c.diffusion d)) crossings
diffusions_rise crossings d ordered i j e le lt =
    let n : length (map (λ (c : Crossing). c.diffusion) crossings) ≡ length crossings =
    length-map crossings (λ (c : Crossing). c.diffusion) in
    let at_i = diffusion_read crossings i e (omega arith) in
    let at_j = diffusion_read crossings j e lt in
    let rise : (get_or crossings i e).diffusion ≤ (get_or crossings j e).diffusion = elim (cases_lt i j) [
      | inl less ↦ (let o = ordered i j less (omega arith) in omega arith)
      | inr more ↦
          (let same : i ≡ j = omega arith in let eq = ap (λ (k : ℕ). (get_or crossings k e).diffusion) same in
          omega arith)
    ] in
    grind (arith, nat_tests)

-- what a binary search by the diffusion finds
pub searched : (crossings : List Crossing) (d : ℕ) (r : Result ℕ ℕ) → AreInOrder crossings
    → IsSearchInRange r (length crossings)
    → IsBinarySearchResult (λ (c : Crossing). nat_cmp c.diffusion d) crossings r
    → MatchResult r (λ at. (at < length crossings) × ((c : Crossing) → (get_or crossings at c).diffusion ≡ d))
    (λ _. IsNone crossings d)
searched crossings d (Ok at) ordered in_range equal =
    (in_range, λ c. ranked (get_or crossings at c).diffusion d _ (sym (equal c)))
searched crossings d (Err at) ordered in_range parted = λ k c lt e. elim (cases_lt k at) [
  | inl below ↦
      (let less = ranked (get_or crossings k c).diffusion d _
      (sym ((parted (diffusions_rise crossings d ordered)).0 k c (omega arith) below)) in omega (arith, less))
  | inr above ↦
      (let more = ranked (get_or crossings k c).diffusion d _
      (sym ((parted (diffusions_rise crossings d ordered)).1 k c above lt)) in omega (arith, more))
]
