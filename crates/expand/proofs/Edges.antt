-- The inequalities of one item, wire or limit, as the code adds them.
use Rattle.std.proofs.Common.{◌≡◌, ℕ, ℤ, true, List, [], ◌∷◌, ◌++◌, refl, sym, ap, ◌∙◌, append_assoc}
use Rattle.lam_geom.specs.declared.boxes.Axis.{Axis, TheVariants.{X, Y}}
use Rattle.rule_table.specs.{declared.technology.Tech.Tech, Technology.margin_of}
use Rattle.sym_items.specs.{declared.items.{End.End, Item.Item}, Transposed.item_along}
use Rattle.cons_graph.specs.declared.edges.{Edge.Edge, Why.TheVariants.Margin}
use Rattle.cell_model.specs.{declared.cell.{Wire.Wire, Limit.Limit, Cell.Cell}, Sound.wire_at}
use Rattle.expand.specs.{Variables.{cross_of, at_origin, at_far_border}, Structure.{between, margin_edges, wire_edges}}
use Rattle.expand.specs.Structure.{overlap_edges, is_limit_of, limit_edge, limit_edges, size_edge, extents_of}
use Rattle.expand.specs.Structure.{overlaps_of, margins_of, limits_of, structure_of}

pub margin_pushed : (axis : Axis) (tech : Tech) (i : Item) (low high : End) (margin : ℤ) (xs one two : List Edge)
    → low ≡ (item_along axis i).xl → high ≡ (item_along axis i).xh → margin ≡ margin_of tech i.class
    → one ≡ xs ++ between at_origin low margin Margin → two ≡ one ++ between high at_far_border margin Margin
    → two ≡ xs ++ margin_edges tech (item_along axis i)
margin_pushed axis tech i low high margin xs one two l h m f g =
    let far : List Edge = between high at_far_border margin Margin in
    let edges : End → End → ℤ → List Edge =
    λ a b z. xs ++ (between at_origin a z Margin ++ between b at_far_border z Margin) in
    g ∙ ap (λ (es : List Edge). es ++ far) f ∙ append_assoc xs (between at_origin low margin Margin) far
    ∙ (ap (λ a. edges a high margin) l ∙ ap (λ b. edges (item_along axis i).xl b margin) h
    ∙ ap (λ z. edges (item_along axis i).xl (item_along axis i).xh z)
    (m ∙ sym (ap (margin_of tech) (class_along axis i))))
  where
    class_along : (axis : Axis) (i : Item) → (item_along axis i).class ≡ i.class
    class_along X i = refl
    class_along Y i = refl

pub overlap_pushed : (axis : Axis) (tech : Tech) (cell : Cell) (k cross : ℕ) (wire : Wire) (now next : List Edge)
    → next ≡ now ++ wire_edges axis tech cell wire cross → cross ≡ cross_of cell k → wire ≡ wire_at cell.wires k
    → next ≡ now ++ overlap_edges axis tech cell k
overlap_pushed axis tech cell k cross wire now next e ec ew =
    e ∙ ap (λ (x : ℕ). now ++ wire_edges axis tech cell wire x) ec
    ∙ ap (λ (w : Wire). now ++ wire_edges axis tech cell w (cross_of cell k)) ew

pub limit_kept : (axis : Axis) (limit : Limit) → is_limit_of axis limit.axis ≡ true
    → limit_edges axis limit ≡ limit_edge limit ∷ []
limit_kept axis limit e = rw e refl

-- the five parts, one after another
pub structure_pushed : (axis : Axis) (tech : Tech) (cell : Cell) (read list : List Item) (size : Edge)
    (none one two three four five : List Edge) → read ≡ list → size ≡ size_edge tech
    → none ≡ [] → one ≡ none ++ size ∷ []
    → two ≡ one ++ extents_of axis read
    → three ≡ two ++ overlaps_of axis tech cell
    → four ≡ three ++ margins_of axis tech read
    → five ≡ four ++ limits_of axis cell
    → five ≡ structure_of axis tech cell list
unfolding structure_of
structure_pushed axis tech cell read list size none one two three four five el es e0 e1 e2 e3 e4 e5 =
    let extents = extents_of axis in
    let overlaps = overlaps_of axis tech cell in
    let margins = margins_of axis tech in
    let limits = limits_of axis cell in
    let f1 : one ≡ size ∷ [] = e1 ∙ ap (λ (es : List Edge). es ++ size ∷ []) e0 in
    let f2 : two ≡ size ∷ extents read = e2 ∙ ap (λ (es : List Edge). es ++ extents read) f1 in
    let f3 : three ≡ size ∷ (extents read ++ overlaps) = e3 ∙ ap (λ (es : List Edge). es ++ overlaps) f2 in
    let f4 : four ≡ size ∷ (extents read ++ (overlaps ++ margins read)) = e4
    ∙ ap (λ (es : List Edge). es ++ margins read) f3
    ∙ ap (λ (es : List Edge). size ∷ es) (append_assoc (extents read) overlaps (margins read)) in
    let f5 : five ≡ size ∷ (extents read ++ (overlaps ++ (margins read ++ limits))) =
    e5 ∙ ap (λ (es : List Edge). es ++ limits) f4
    ∙ ap (λ (es : List Edge). size ∷ es) (append_assoc (extents read) (overlaps ++ margins read) limits
    ∙ ap (λ (es : List Edge). extents read ++ es) (append_assoc overlaps (margins read) limits)) in
    f5 ∙ ap (λ (is : List Item). size ∷ (extents is ++ (overlaps ++ (margins is ++ limits)))) el
    ∙ ap (λ (e : Edge). e ∷ (extents list ++ (overlaps ++ (margins list ++ limits)))) es
