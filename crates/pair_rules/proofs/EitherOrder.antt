-- Bound items, in either order.
use Rattle.std.proofs.Common.{◌≡◌, ℕ, ◌==◌, true, cond, ◌&&◌, ◌||◌, Option, Some, None, refl, ap, ◌∙◌, arith}
use Rattle.std.proofs.lemmas.Bool.Decides.{nat_tests, same_from_decides}
use Rattle.rule_table.specs.declared.{classes.{Class.{Class, TheVariants.{P, Dm}}, Rule.Rule}, technology.Tech.Tech}
use Rattle.rule_table.{specs.Technology.{numbers_of, spacing_of}, proofs.Margins.spacing_in-symmetric}
use Rattle.sym_items.specs.{declared.items.Item.Item, Standing.stand_together}
use Rattle.sym_items.proofs.Together.{stand_together-symmetric}
use Rattle.pair_rules.specs.Bound.{spacing_by, is_poly_on_diffusion, is_joined, bound_spacing}

same_either : (m n : ℕ) → (m == n) ≡ (n == m)
same_either m n = grind (arith, nat_tests)

by_either : (o : Option Rule) (m n : ℕ) → spacing_by o m n ≡ spacing_by o n m
by_either None m n = refl
by_either (Some r) m n = ap (λ q. cond (r.net_exempt && q) None (Some r.s)) (same_either m n)

pub lies_either : (a b : Class) → is_poly_on_diffusion a b ≡ true → is_poly_on_diffusion b a ≡ true
lies_either P Dm lies = refl
lies_either Dm P lies = refl
lies_either _ _ lies = cc

poly_on_diffusion_either : (a b : Class) → is_poly_on_diffusion a b ≡ is_poly_on_diffusion b a
poly_on_diffusion_either a b =
    same_from_decides (is_poly_on_diffusion a b) (is_poly_on_diffusion b a) (lies_either a b, lies_either b a)
    (λ lies. lies, λ lies. lies)

joined_either : (a b : Item) → is_joined a b ≡ is_joined b a
joined_either a b =
    ap (λ q. q && stand_together a b) (poly_on_diffusion_either a.class b.class)
    ∙ ap (λ q. is_poly_on_diffusion b.class a.class && q) (stand_together-symmetric a b)

-- the order of two items does not matter
pub bound_symmetric : (t : Tech) (a b : Item) → bound_spacing t a b ≡ bound_spacing t b a
unfolding bound_spacing
bound_symmetric t a b =
    let free = (b.owner == a.owner) || is_joined b a in
    ap (λ q. cond (q || is_joined a b) None (spacing_by (spacing_of t a.class b.class) a.net b.net))
    (same_either a.owner b.owner)
    ∙ (ap (λ q. cond ((b.owner == a.owner) || q) None (spacing_by (spacing_of t a.class b.class) a.net b.net))
    (joined_either a b)
    ∙ (ap (λ o. cond free None (spacing_by o a.net b.net)) (spacing_in-symmetric (numbers_of t) a.class b.class)
    ∙ ap (λ o. cond free None o) (by_either (spacing_of t b.class a.class) a.net b.net)))
