-- Where a rule is broken: at boxes that there are, the lesser number first.
use Rattle.std.proofs.Common.{◌≡◌, ℕ, ◌<◌, ◌≤◌, List, Some, ◌⊎◌, inl, inr, length, sym, subst, arith}
use Rattle.std.proofs.lemmas.Option.{slice_get_within, get_or_from_slice_get}
use Rattle.std.specs.{Prelude.slice_get, List.{AllByRecursion, range_with_len}}
use Rattle.list_facts.proofs.Elements.{all_flat, all_map, all_numbers, all_at, by_number}
use Rattle.lam_geom.specs.declared.boxes.{MaskBox.MaskBox, MaskLayer.{MaskLayer, TheVariants.{ND, NP}}}
use Rattle.rule_table.specs.declared.technology.Tech.{Tech}
use Rattle.crossing_model.specs.{declared.crossing.Crossing.Crossing, Boxes.layer_at}
use Rattle.box_pieces.specs.declared.placing.Part.{Part, TheVariants.Whole}
use Rattle.box_pieces.specs.Places.{Place, place, parts_on, is_crossed, places_at, places_of}
use Rattle.rule_breaks.specs.declared.rule.Rule.{Rule, TheVariants.{Width, CutSize, ProperCrossing, PolyToDiffusion}}
use Rattle.rule_breaks.specs.declared.rule.Rule.TheVariants.{CutCover, MetalSpacing, PolySpacing, DiffusionSpacing}
use Rattle.rule_breaks.specs.declared.rule.Rule.TheVariants.{CutSpacing, CutToChannel, ImplantToChannel}
use Rattle.rule_breaks.specs.declared.rule.Rule.TheVariants.{WindowToChannel}
use Rattle.rule_breaks.specs.Breaks.{ArePiecesTooNear, AreOnBoth, IsBreak}
use Rattle.flat_check.proofs.OneChannel.{channel_among}

-- a piece is of one of the boxes
places_among : (boxes : List MaskBox) (crossings : List Crossing)
    → AllByRecursion (λ (p : Place). p.box_no < length boxes) (places_of crossings boxes)
places_among boxes crossings =
    let P : Place → Type 0 = λ p. p.box_no < length boxes in
    all_flat P (places_at crossings boxes) (range_with_len 0 (length boxes))
    (all_numbers (λ k. AllByRecursion P (places_at crossings boxes k)) 0 (length boxes)
    (λ k low high. all_map P (place k) (parts_on (layer_at boxes k) (is_crossed crossings k))
    (by_number (λ (part : Part). k < length boxes) (parts_on (layer_at boxes k) (is_crossed crossings k)) Whole
    (λ j lt. omega arith))))

place_among : (boxes : List MaskBox) (crossings : List Crossing) (i k : ℕ) (p : Place)
    → slice_get (places_of crossings boxes) i ≡ Some p → p.box_no ≡ k → k < length boxes
place_among boxes crossings i k p at of =
    let P : Place → Type 0 = λ x. x.box_no < length boxes in
    let Q : ℕ → Type 0 = λ n. n < length boxes in
    subst Q of
    (subst P (get_or_from_slice_get (places_of crossings boxes) i p p at)
    (all_at P (places_of crossings boxes) p i (places_among boxes crossings)
    (slice_get_within (places_of crossings boxes) i p at)))

-- ---- pairs

both_among : (boxes : List MaskBox) (one other : MaskLayer) (a b : ℕ) → AreOnBoth boxes one other a b → b < length boxes
both_among boxes one other a b h = go h.pair where
  go : ((a ≡ h.p) × (b ≡ h.q)) ⊎ ((a ≡ h.q) × (b ≡ h.p)) → b < length boxes
  go (inl (e, f)) = subst (λ n. n < length boxes) (sym f) h.second.among
  go (inr (e, f)) = subst (λ n. n < length boxes) (sym f) h.first.among

pub pieces_among : (tech : Tech) (boxes : List MaskBox) (layer : MaskLayer) (spacing : _) (a b : ℕ)
    → ArePiecesTooNear tech boxes layer spacing a b → b < length boxes
pieces_among tech boxes layer spacing a b h = place_among boxes h.crossings h.j b h.q h.second h.of_second

-- the boxes of a break, in order
pub boxes_of_break : (tech : Tech) (boxes : List MaskBox) (rule : Rule) (a b : ℕ) → IsBreak tech boxes rule a b
    → (a ≤ b) × (b < length boxes)
boxes_of_break tech boxes Width a b h = (omega (arith, h.1), omega (arith, h.0.among, h.1))
boxes_of_break tech boxes CutSize a b h = (omega (arith, h.1), omega (arith, h.0.is_cut.among, h.1))
boxes_of_break tech boxes ProperCrossing a b (lt, inl h) = (omega (arith, lt), h.meeting.overlap.diffusion.among)
boxes_of_break tech boxes ProperCrossing a b (lt, inr h) = (omega (arith, lt), h.meeting.overlap.poly.among)
boxes_of_break tech boxes PolyToDiffusion a b h = (omega (arith, h.0), both_among boxes NP ND a b h.1.on)
boxes_of_break tech boxes CutCover a b h = (omega (arith, h.1), omega (arith, h.0.is_cut.among, h.1))
boxes_of_break tech boxes MetalSpacing a b h = (omega (arith, h.1.0), pieces_among tech boxes _ _ a b h.1.1)
boxes_of_break tech boxes PolySpacing a b h = (omega (arith, h.1.0), pieces_among tech boxes _ _ a b h.1.1)
boxes_of_break tech boxes DiffusionSpacing a b h = (omega (arith, h.1.0), pieces_among tech boxes _ _ a b h.1.1)
boxes_of_break tech boxes CutSpacing a b h = (omega (arith, h.0), h.1.second.among)
boxes_of_break tech boxes CutToChannel a b (lt, inl h) =
    (omega (arith, lt), (channel_among tech boxes b h.channel h.is_channel).among)
boxes_of_break tech boxes CutToChannel a b (lt, inr h) = (omega (arith, lt), h.on.among)
boxes_of_break tech boxes ImplantToChannel a b (lt, inl h) =
    (omega (arith, lt), (channel_among tech boxes b h.near.channel h.near.is_channel).among)
boxes_of_break tech boxes ImplantToChannel a b (lt, inr h) = (omega (arith, lt), h.near.on.among)
boxes_of_break tech boxes WindowToChannel a b (lt, inl h) =
    (omega (arith, lt), (channel_among tech boxes b h.1.channel h.1.is_channel).among)
boxes_of_break tech boxes WindowToChannel a b (lt, inr h) = (omega (arith, lt), h.1.on.among)
