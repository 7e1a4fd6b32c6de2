-- Boxes that have an inside, and whose sides lie within so much of the origin.
use Rattle.std.proofs.Common.{◌≡◌, ℕ, ◌<◌, ◌≤◌, ◌^◌, ℤ, List, [], ◌∷◌, ◌++◌, map, length, get_or, sym, ap, ◌∙◌, subst}
use Rattle.std.proofs.{Common.arith, lemmas.List.{map_push, length-map, get_or-map, Elements.{All-push, All-nil}}}
use Rattle.std.{proofs.lemmas.{List.Elements.All-get_or, Int.ints}, specs.List.All}
use Rattle.lam_geom.specs.{declared.boxes.MaskBox.MaskBox, Places.{IsPlace, IsPlacedBox}}
use Rattle.cif_read.specs.{Hierarchies.Drawn, Files.{drawn_of, IsSolid, IsSolidWithin, IsWithin}}

-- ---- within more

within_more : (r s : ℕ) (z : ℤ) → r ≤ s → IsWithin r z → IsWithin s z
within_more r s z le h = (omega (arith, ints, h.0), omega (arith, ints, h.1))

pub solid_more : (r s : ℕ) (box : Drawn) → r ≤ s → IsSolidWithin r box → IsSolidWithin s box
solid_more r s box le h = record {
  left = within_more r s box.left le h.left;
  right = within_more r s box.right le h.right;
  bottom = within_more r s box.bottom le h.bottom;
  top = within_more r s box.top le h.top;
  wide = h.wide;
  high = h.high;
}

-- ---- lists of them

pub none_solid : (reach : ℕ) (boxes : List MaskBox) → boxes ≡ [] → All (IsSolidWithin reach) (map drawn_of boxes)
none_solid reach boxes e =
    subst (λ bs. All (IsSolidWithin reach) (map drawn_of bs)) (sym e) (All-nil (IsSolidWithin reach))

-- one more
pub solid_pushed : (reach : ℕ) (before after : List MaskBox) (box : MaskBox) → after ≡ before ++ box ∷ []
    → IsSolidWithin reach (drawn_of box) → All (IsSolidWithin reach) (map drawn_of before)
    → All (IsSolidWithin reach) (map drawn_of after)
solid_pushed reach before after box e solid all =
    let drawn = ap (map drawn_of) e ∙ map_push drawn_of before box in
    let pushed = All-push (IsSolidWithin reach) (map drawn_of before) (drawn_of box) all solid in
    subst (All (IsSolidWithin reach)) (sym drawn) pushed

pub solid_at : (reach : ℕ) (boxes : List MaskBox) (i : ℕ) (box : MaskBox) → i < length boxes
    → box ≡ get_or boxes i box → All (IsSolidWithin reach) (map drawn_of boxes) → IsSolidWithin reach (drawn_of box)
solid_at reach boxes i box lt e all =
    let at = get_or-map drawn_of boxes i box (drawn_of box) lt ∙ ap drawn_of (sym e) in
    let below : i < length (map drawn_of boxes) = omega (arith, lt, length-map boxes drawn_of) in
    subst (IsSolidWithin reach) at (All-get_or (IsSolidWithin reach) (map drawn_of boxes) i (drawn_of box) below all)

-- ---- what a caller is told of them

is_place : (reach : ℕ) (z : ℤ) → reach ≤ 2 ^ 60 → IsWithin reach z → IsPlace z
is_place reach z le h = (omega (arith, ints, le, h.0), omega (arith, ints, le, h.1))

placed_one : (reach : ℕ) (box : MaskBox) → reach ≤ 2 ^ 60 → IsSolidWithin reach (drawn_of box) → IsPlacedBox box.area
placed_one reach box le h =
    let x = box.area.x in
    let y = box.area.y in
    let place = λ (z : ℤ). is_place reach z le in
    ((place x.lo h.left, place x.hi h.right), (place y.lo h.bottom, place y.hi h.top))

solid_each : (reach : ℕ) (boxes : List MaskBox) → All (IsSolidWithin reach) (map drawn_of boxes)
    → All (λ box. IsSolidWithin reach (drawn_of box)) boxes
solid_each reach boxes h = λ k d lt.
    let below : k < length (map drawn_of boxes) = omega (arith, lt, length-map boxes drawn_of) in
    subst (IsSolidWithin reach) (get_or-map drawn_of boxes k d (drawn_of d) lt) (h k (drawn_of d) below)

pub all_placed : (reach : ℕ) (boxes : List MaskBox) → reach ≤ 2 ^ 60
    → All (IsSolidWithin reach) (map drawn_of boxes) → All (λ box. IsPlacedBox box.area) boxes
all_placed reach boxes le h = λ k d lt. placed_one reach (get_or boxes k d) le (solid_each reach boxes h k d lt)

pub all_solid : (reach : ℕ) (boxes : List MaskBox) → All (IsSolidWithin reach) (map drawn_of boxes) → All IsSolid boxes
all_solid reach boxes h = λ k d lt. let one = solid_each reach boxes h k d lt in (one.wide, one.high)
