-- What is asked of entries, in words of gaps.
use Rattle.std.specs.Prelude.{◌≡◌, ◌≢◌, ℕ, ◌^◌, ℤ, pos, ◌≤ℤ◌, List, Option, Some, None, slice_get}
use Rattle.lam_geom.specs.{declared.boxes.BoxXY.BoxXY, Gaps.{gap_of_boxes, Overlaps, Encloses}, Places.IsPlacedBox}
use Rattle.box_tree.specs.declared.query.{Query.Query, Question.{Question, TheVariants.{NearOfOther, NearOfOtherTag}}}
use Rattle.box_tree.specs.declared.query.Question.TheVariants.{NearApart, Covers, NearShort, NearOutside}
use Rattle.box_tree.specs.declared.entries.Entry.{Entry}

-- no more than so much lies between two areas
abbrev pub IsNear : BoxXY → ℤ → BoxXY → Type 0
IsNear area reach other = gap_of_boxes area other ≤ℤ reach

-- more than that lies between them, if it is asked how much may
abbrev pub IsFar : BoxXY → Option ℤ → BoxXY → Type 0
IsFar area None other = ⊥
IsFar area (Some reach) other = IsNear area reach other → ⊥

-- what a question asks of an entry beside an area
abbrev pub Answers : Question → BoxXY → Entry → Type 0
Answers (NearOfOther reach owner) area entry = IsNear area reach entry.area × (entry.owner ≢ owner)
Answers (NearOfOtherTag reach owner tag) area entry = IsNear area reach entry.area × (entry.owner ≢ owner)
    × (entry.tag ≢ tag)
Answers (NearApart reach) area entry = IsNear area reach entry.area × (Overlaps area entry.area → ⊥)
Answers (Covers margin) area entry = Encloses entry.area area margin
Answers (NearShort reach margin) area entry = IsNear area reach entry.area × (Encloses entry.area area margin → ⊥)
Answers (NearOutside reach margin) area entry = IsNear area reach entry.area × (Encloses area entry.area margin → ⊥)

abbrev pub Holds : Query → Entry → Type 0
Holds query entry = Answers query.question query.area entry

-- entry number k of a list holds a query
pub record HoldsAt (entries : List Entry) (query : Query) (k : ℕ) : Type 0 where
  pub entry : Entry
  pub there : slice_get entries k ≡ Some entry
  pub holds : Holds query entry

-- ---- which queries can be asked

abbrev pub IsMargin : ℤ → Type 0
IsMargin margin = (pos 0 ≤ℤ margin) × (margin ≤ℤ pos (2 ^ 30))

-- a margin is not negative, and not too great; a reach is any number
abbrev pub IsQuestion : Question → Type 0
IsQuestion (NearOfOther reach owner) = Unit {0}
IsQuestion (NearOfOtherTag reach owner tag) = Unit {0}
IsQuestion (NearApart reach) = Unit {0}
IsQuestion (Covers margin) = IsMargin margin
IsQuestion (NearShort reach margin) = IsMargin margin
IsQuestion (NearOutside reach margin) = IsMargin margin

pub record IsQuery (query : Query) : Type 0 where
  pub placed : IsPlacedBox query.area
  pub question : IsQuestion query.question

-- how far an entry may lie from the area, if that is asked
abbrev pub reach_of : Question → Option ℤ
reach_of (NearOfOther reach owner) = Some reach
reach_of (NearOfOtherTag reach owner tag) = Some reach
reach_of (NearApart reach) = Some reach
reach_of (Covers margin) = None
reach_of (NearShort reach margin) = Some reach
reach_of (NearOutside reach margin) = Some reach
