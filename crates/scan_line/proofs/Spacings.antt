-- How great the spacing of a bound pair is.
use Rattle.std.{proofs.{Common.{◌≡◌, ℤ, pos, ◌≤ℤ◌, Option, Some, subst, arith}, lemmas.Int.ints}, specs.Prelude.IfSome}
use Rattle.rule_table.specs.declared.{classes.Rule.Rule, technology.Tech.Tech}
use Rattle.rule_table.specs.Technology.{numbers_of, spacing_of, margin_of, widest_of}
use Rattle.rule_table.proofs.{Sound.sound, Margins.{IsSpacing, spacing_bounds, margin_above, widest_above}}
use Rattle.sym_items.specs.declared.items.Item.{Item}
use Rattle.pair_rules.{specs.Bound.bound_spacing, proofs.BoundItems.out_of_bound}

at_rule : (P : Rule → Type 0) (o : Option Rule) (r : Rule) → o ≡ Some r → IfSome o P → P r
at_rule P o r e h = let Q : Option Rule → Type 0 = λ q. IfSome q P in subst Q e h

-- it is at least 1
pub positive : (t : Tech) (a b : Item) (s : ℤ) → bound_spacing t a b ≡ Some s → pos 1 ≤ℤ s
positive t a b s e =
    let h = out_of_bound t a b s e in
    let S : ℤ → Type 0 = λ z. pos 1 ≤ℤ z in
    subst S h.spacing
    (at_rule IsSpacing (spacing_of t a.class b.class) h.rule h.ruled
    (spacing_bounds (numbers_of t) (sound (numbers_of t) t.sound) a.class b.class)).0

-- and at most the widest of the table
pub within_widest : (t : Tech) (a b : Item) (s : ℤ) → bound_spacing t a b ≡ Some s → s ≤ℤ widest_of t
within_widest t a b s e =
    let h = out_of_bound t a b s e in
    let S : ℤ → Type 0 = λ z. z ≤ℤ widest_of t in
    let within : h.rule.s ≤ℤ margin_of t a.class =
    at_rule (λ r. r.s ≤ℤ margin_of t a.class) (spacing_of t a.class b.class) h.rule h.ruled
    (margin_above (numbers_of t) a.class b.class) in
    subst S h.spacing (omega (arith, ints, within, widest_above (numbers_of t) a.class))
