-- Boxes of one layer: the rules between them free one net, and none are poly and diffusion.
use Rattle.std.proofs.Common.{◌≡◌, Bool, true, false, Option, Some, None, refl, sym, ap, ◌∙◌}
use Rattle.rule_table.specs.declared.classes.{Class.{Class, TheVariants.{M, P, Dc, Dm}}, Layer.Layer, Rule.Rule}
use Rattle.rule_table.specs.{declared.keys.Numbers.Numbers, Spacing.spacing_in}
use Rattle.pair_rules.specs.Bound.{is_poly_on_diffusion}
use Rattle.buried_contacts.proofs.Owners.{LayerHas}

-- a fact of two classes that holds of each two of one layer
record OfEachTwo (Q : Class → Class → Type 0) : Type 0 where
  metal : Q M M
  poly : Q P P
  boxes : Q Dm Dm
  box_piece : Q Dm Dc
  piece_box : Q Dc Dm
  pieces : Q Dc Dc

-- the classes of layers
abbrev is_of_layer : Class → Bool
is_of_layer M = true
is_of_layer P = true
is_of_layer Dm = true
is_of_layer Dc = true
is_of_layer _ = false

of_layer : (layer : Layer) (c : Class) → LayerHas layer c → is_of_layer c ≡ true
of_layer layer M h = refl
of_layer layer P h = refl
of_layer layer Dm h = refl
of_layer layer Dc h = refl
of_layer layer _ h = absurd h

of_both : (Q : Class → Class → Type 0) (layer : Layer) (c d : Class) → OfEachTwo Q → LayerHas layer c
    → LayerHas layer d → is_of_layer c ≡ true → is_of_layer d ≡ true → Q c d
of_both Q layer M M h a b k l = h.metal
of_both Q layer P P h a b k l = h.poly
of_both Q layer Dm Dm h a b k l = h.boxes
of_both Q layer Dm Dc h a b k l = h.box_piece
of_both Q layer Dc Dm h a b k l = h.piece_box
of_both Q layer Dc Dc h a b k l = h.pieces
of_both Q layer _ _ h a b k l = absurd cc

of_two : (Q : Class → Class → Type 0) (layer : Layer) (c d : Class) → OfEachTwo Q → LayerHas layer c
    → LayerHas layer d → Q c d
of_two Q layer c d h a b = of_both Q layer c d h a b (of_layer layer c a) (of_layer layer d b)

-- whether a rule frees boxes of one net
abbrev frees : Option Rule → Bool
frees None = true
frees (Some r) = r.net_exempt

layer_frees : (n : Numbers) (layer : Layer) (c d : Class) → LayerHas layer c → LayerHas layer d
    → frees (spacing_in n c d) ≡ true
unfolding spacing_in
layer_frees n layer c d a b =
    of_two (λ c d. frees (spacing_in n c d) ≡ true) layer c d
    (record { metal = refl; poly = refl; boxes = refl; box_piece = refl; piece_box = refl; pieces = refl }) a b

-- the rule of two boxes of one layer frees those of one net
pub one_layer_exempt : (n : Numbers) (layer : Layer) (c d : Class) (rule : Rule) → LayerHas layer c → LayerHas layer d
    → spacing_in n c d ≡ Some rule → rule.net_exempt ≡ true
one_layer_exempt n layer c d rule a b is = sym (ap frees is) ∙ layer_frees n layer c d a b

-- two boxes of one layer are not poly and diffusion
pub one_layer_only : (layer : Layer) (c d : Class) → LayerHas layer c → LayerHas layer d
    → is_poly_on_diffusion c d ≡ true → ⊥
one_layer_only layer c d a b e =
    let none = of_two (λ c d. is_poly_on_diffusion c d ≡ false) layer c d
    (record { metal = refl; poly = refl; boxes = refl; box_piece = refl; piece_box = refl; pieces = refl }) a b in
    absurd (let both : true ≡ false = sym e ∙ none in cc)
