-- The spacing table of the numbers of a technology, and the lengths that follow from the numbers.
use Rattle.std.specs.Prelude.{ℤ, pos, ◌+ℤ◌, ◌*ℤ◌, Bool, true, false, if◌then◌else◌, List, [], ◌∷◌, map, Option, Some}
use Rattle.std.specs.{Prelude.{None, fold}, Int.int_max}
use Rattle.rule_table.specs.{Keys.has_buried, declared.{keys.Numbers.Numbers, classes.{Rule.Rule, Class.Class}}}
use Rattle.rule_table.specs.declared.classes.{Class.TheVariants.{M, P, Dc, Dm, C, I, G, B}, Layer.Layer}
use Rattle.rule_table.specs.declared.classes.Layer.TheVariants.{Diffusion, Poly, Metal}

-- the row of two classes, in the order in which the table names them; only version 2 has that of buried contacts
abbrev pub row : Numbers → Class → Class → Option Rule
row n M M = Some (record { s = n.spacing_metal; net_exempt = true })
row n P P = Some (record { s = n.spacing_poly; net_exempt = true })
row n Dc Dc = Some (record { s = n.spacing_diffusion; net_exempt = true })
row n P Dm = Some (record { s = n.spacing_poly_diffusion; net_exempt = false })
row n C C = Some (record { s = n.spacing_cut; net_exempt = false })
row n C G = Some (record { s = n.spacing_cut_channel; net_exempt = false })
row n I G = Some (record { s = n.spacing_implant_channel; net_exempt = false })
row n B G = if has_buried n then Some (record { s = n.spacing_buried_channel; net_exempt = false }) else None
row n _ _ = None

-- the first of two rows that is there
abbrev pub either : Option Rule → Option Rule → Option Rule
either None r = r
either (Some r) _ = Some r

-- the rule of two classes, which has no order
unfoldable pub spacing_in : Numbers → Class → Class → Option Rule
spacing_in n a b = either (row n a b) (row n b a)

-- the spacing of a rule, and 0 where there is none
abbrev pub gap_of : Option Rule → ℤ
gap_of None = pos 0
gap_of (Some r) = r.s

abbrev pub all_classes : List Class
all_classes = M ∷ P ∷ Dc ∷ Dm ∷ C ∷ I ∷ G ∷ B ∷ []

-- the table has a row with this class
abbrev pub has_class : Numbers → Class → Bool
has_class n B = has_buried n
has_class n _ = true

-- the greatest of some lengths
unfoldable pub greatest : List ℤ → ℤ
greatest zs = fold int_max (pos 0) zs

-- the greatest spacing of the rows with this class
unfoldable pub margin_in : Numbers → Class → ℤ
margin_in n a = greatest (map (λ b. gap_of (spacing_in n a b)) all_classes)

-- the greatest spacing of all
unfoldable pub widest_in : Numbers → ℤ
widest_in n = greatest (map (margin_in n) all_classes)

-- the least width of a box on a layer
abbrev pub width_in : Numbers → Layer → ℤ
width_in n Diffusion = n.width_diffusion
width_in n Poly = n.width_poly
width_in n Metal = n.width_metal

-- the side of the square pad round a cut
unfoldable pub pad_in : Numbers → ℤ
pad_in n = n.cut_size +ℤ (pos 2 *ℤ n.cut_enclosure)
