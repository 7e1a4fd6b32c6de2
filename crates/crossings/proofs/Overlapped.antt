-- How many boxes a box overlaps, by one after another.
use Rattle.std.proofs.{Common.{◌≡◌, ◌≢◌, ℕ, negsuc, ◌≤ℤ◌, inl, inr, List, sym, arith}, lemmas.{Bool.cases_eq, Int.ints}}
use Rattle.lam_geom.specs.{declared.boxes.{BoxXY.BoxXY, MaskBox.MaskBox}, Gaps.{Overlaps, gap_of_boxes}}
use Rattle.box_tree.specs.{declared.{query.Question.TheVariants.NearOfOther, entries.Entry.Entry}, Queries.HoldsAt}
use Rattle.crossing_model.specs.Boxes.{area_at}
use Rattle.crossings.specs.{Pairs.{AreTwo, DoOverlap}, Entries.{AreEntriesFacing, box_entry}}
use Rattle.crossings.proofs.{Facing.area_overlap, Meetings.not_both, EntryBoxes.{entry_overlaps, overlapped_there}}

pub not_itself : (boxes : List MaskBox) (a : ℕ) → DoOverlap boxes a a → ⊥
not_itself boxes a (inl h) = not_both boxes a h.poly.on h.diffusion.on
not_itself boxes a (inr h) = not_both boxes a h.poly.on h.diffusion.on

-- a gap of at most -1 is an overlap
near_overlaps : (a b : BoxXY) → gap_of_boxes a b ≤ℤ negsuc 0 → Overlaps a b
near_overlaps a b h = omega (arith, ints, h)

overlaps_near : (a b : BoxXY) → Overlaps a b → gap_of_boxes a b ≤ℤ negsuc 0
overlaps_near a b h = omega (arith, ints, h)

pub found_overlaps : (boxes : List MaskBox) (a known k : ℕ) (entries : List Entry) → AreEntriesFacing boxes a entries
    → (h : HoldsAt entries (record { area = area_at boxes a; question = NearOfOther (negsuc 0) known }) k)
    → DoOverlap boxes a h.entry.owner × (h.entry.owner ≢ known)
found_overlaps boxes a known k entries facing h = (
  entry_overlaps boxes a entries k h.entry facing h.there (near_overlaps (area_at boxes a) h.entry.area h.holds.0),
  h.holds.1,
)

pub none_overlaps : (boxes : List MaskBox) (a known : ℕ) (entries : List Entry) → AreEntriesFacing boxes a entries
    → ((k : ℕ) → HoldsAt entries (record { area = area_at boxes a; question = NearOfOther (negsuc 0) known }) k → ⊥)
    → (k : ℕ) → DoOverlap boxes a k → k ≡ known
none_overlaps boxes a known entries facing none k over = elim (cases_eq k known) [
  | inl same ↦ same
  | inr apart ↦
      let there = overlapped_there boxes a k entries facing over in
      absurd (none there.0 (record {
        entry = box_entry boxes k;
        there = there.1;
        holds = (overlaps_near (area_at boxes a) (area_at boxes k) (area_overlap boxes a k over), apart);
      }))
]

-- two of them
pub two_overlap : (boxes : List MaskBox) (a first second : ℕ) → DoOverlap boxes a first → DoOverlap boxes a second
    → second ≢ first → AreTwo (DoOverlap boxes a)
two_overlap boxes a first second h k apart =
    record { a = first; b = second; apart = λ e. apart (sym e); at_a = h; at_b = k }
