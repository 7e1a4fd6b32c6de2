-- How great the spacing of a bound pair is.
use Rattle.std.{proofs.Common.{◌≡◌, ℤ, pos, ◌≤ℤ◌, Option, Some, subst}, specs.Prelude.IfSome}
use Rattle.lam_geom.specs.declared.boxes.Axis.{Axis}
use Rattle.rule_table.specs.{declared.{classes.Rule.Rule, technology.Tech.Tech}, Technology.{numbers_of, spacing_of}}
use Rattle.rule_table.proofs.{Sound.sound, Margins.{IsSpacing, spacing_bounds}}
use Rattle.sym_items.specs.declared.items.{Item.Item, Coords.Coords}
use Rattle.pair_rules.specs.{Bound.bound_spacing, Candidates.facing_spacing}
use Rattle.pair_rules.proofs.{BoundItems.out_of_bound, FacingItems.out_of_facing}

of_rule : (o : Option Rule) (r : Rule) → o ≡ Some r → IfSome o IsSpacing → IsSpacing r
of_rule o r e h = let P : Option Rule → Type 0 = λ q. IfSome q IsSpacing in subst P e h

-- a spacing is from 1 to 4096
pub bound_bounds : (tech : Tech) (a b : Item) (s : ℤ) → bound_spacing tech a b ≡ Some s → (pos 1 ≤ℤ s) × (s ≤ℤ pos 4096)
bound_bounds tech a b s e =
    let h = out_of_bound tech a b s e in
    let S : ℤ → Type 0 = λ z. (pos 1 ≤ℤ z) × (z ≤ℤ pos 4096) in
    subst S h.spacing
    (of_rule (spacing_of tech a.class b.class) h.rule h.ruled
    (spacing_bounds (numbers_of tech) (sound (numbers_of tech) tech.sound) a.class b.class))

-- and so is that of a candidate
pub facing_bounds : (axis : Axis) (tech : Tech) (c : Coords) (a b : Item) (s : ℤ)
    → facing_spacing axis tech c a b ≡ Some s → (pos 1 ≤ℤ s) × (s ≤ℤ pos 4096)
facing_bounds axis tech c a b s e = bound_bounds tech a b s (out_of_facing axis tech c a b s e).bound
