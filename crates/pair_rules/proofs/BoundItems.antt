-- The spacing that is computed of two items is there exactly where they are bound with it.
use Rattle.std.proofs.Common.{◌≡◌, ◌↔◌, ◌≢◌, ℕ, ◌==◌, ℤ, pos, Bool, true, false, cond, ◌||◌, Option, Some, None, refl}
use Rattle.std.proofs.{Common.{sym, ap, ◌∙◌, eq-eqb, unwrap_or}, lemmas.Bool.{both_ways, and_parts, and_from, or_parts}}
use Rattle.std.proofs.lemmas.Bool.{or_from, eqb-true, eqb-false, ne_eqb, cond-false, false_from_ne_true}
use Rattle.std.specs.Prelude.{IsTrue}
use Rattle.rule_table.specs.{declared.{classes.Rule.Rule, technology.Tech.Tech}, Technology.spacing_of}
use Rattle.sym_items.specs.{declared.items.Item.Item, Standing.{StandTogether, stand_together}}
use Rattle.sym_items.proofs.Together.{together_exactly}
use Rattle.pair_rules.specs.Bound.{is_exempt, spacing_by, is_poly_on_diffusion, is_joined, IsBound, bound_spacing}

pub same_some : (a b : ℤ) → Some a ≡ Some b → a ≡ b
same_some a b e = ap (λ o. unwrap_or o (pos 0)) e

unless : (q : Bool) (o : Option ℤ) (s : ℤ) → cond q None o ≡ Some s → (q ≡ false) × (o ≡ Some s)
unless true o s e = cc
unless false o s e = (refl, e)

-- a rule whose spacing items of two nets have to keep
record Binds (o : Option Rule) (net other : ℕ) (s : ℤ) : Type 0 where
  rule : Rule
  ruled : o ≡ Some rule
  spacing : rule.s ≡ s
  nets : IsTrue rule.net_exempt → net ≢ other

out_of_rule : (o : Option Rule) (net other : ℕ) (s : ℤ) → spacing_by o net other ≡ Some s → Binds o net other s
out_of_rule None net other s e = cc
out_of_rule (Some r) net other s e =
    let w = unless (is_exempt r net other) (Some r.s) s e in
    record {
      rule = r;
      ruled = refl;
      spacing = same_some r.s s w.1;
      nets = λ exempt same. both_ways (is_exempt r net other) w.0
          (and_from r.net_exempt (net == other) exempt (eq-eqb net other same));
    }

by_rule : (o : Option Rule) (net other : ℕ) (s : ℤ) → Binds o net other s → spacing_by o net other ≡ Some s
by_rule o net other s h =
    let free : is_exempt h.rule net other ≡ false = false_from_ne_true (is_exempt h.rule net other)
    (λ e. let p = and_parts h.rule.net_exempt (net == other) e in h.nets p.0 (eqb-true net other p.1)) in
    ap (λ q. spacing_by q net other) h.ruled
    ∙ (cond-false (is_exempt h.rule net other) None (Some h.rule.s) free ∙ ap Some h.spacing)

-- poly and diffusion are joined exactly where they stand at one buried contact
pub joined : (a b : Item) → IsTrue (is_poly_on_diffusion a.class b.class) → StandTogether a b → is_joined a b ≡ true
joined a b lies together = and_from (is_poly_on_diffusion a.class b.class) (stand_together a b) lies
    ((together_exactly a b).1 together)

pub out_of_joined : (a b : Item) → is_joined a b ≡ true → IsTrue (is_poly_on_diffusion a.class b.class)
    × StandTogether a b
out_of_joined a b e =
    let p = and_parts (is_poly_on_diffusion a.class b.class) (stand_together a b) e in
    (p.0, (together_exactly a b).0 p.1)

pub out_of_bound : (t : Tech) (a b : Item) (s : ℤ) → bound_spacing t a b ≡ Some s → IsBound t a b s
unfolding bound_spacing
out_of_bound t a b s e =
    let w = unless ((a.owner == b.owner) || is_joined a b) (spacing_by (spacing_of t a.class b.class) a.net b.net) s
    e in
    let free = or_parts (a.owner == b.owner) (is_joined a b) w.0 in
    let r = out_of_rule (spacing_of t a.class b.class) a.net b.net s w.1 in
    record {
      owners = eqb-false a.owner b.owner free.0;
      rule = r.rule;
      ruled = r.ruled;
      spacing = r.spacing;
      nets = r.nets;
      apart = λ lies together. both_ways (is_joined a b) free.1 (joined a b lies together);
    }

bound : (t : Tech) (a b : Item) (s : ℤ) → IsBound t a b s → bound_spacing t a b ≡ Some s
unfolding bound_spacing
bound t a b s h =
    let o = spacing_of t a.class b.class in
    let owners : (a.owner == b.owner) ≡ false = ne_eqb a.owner b.owner h.owners in
    let apart : is_joined a b ≡ false =
    false_from_ne_true (is_joined a b) (λ e. let p = out_of_joined a b e in h.apart p.0 p.1) in
    cond-false ((a.owner == b.owner) || is_joined a b) None (spacing_by o a.net b.net)
    (or_from (a.owner == b.owner) (is_joined a b) owners apart)
    ∙ by_rule o a.net b.net s (record { rule = h.rule; ruled = h.ruled; spacing = h.spacing; nets = h.nets })

pub bound_exactly : (t : Tech) (a b : Item) (o : Option ℤ) → o ≡ bound_spacing t a b → (s : ℤ)
    → (o ≡ Some s) ↔ IsBound t a b s
bound_exactly t a b o is s = (λ e. out_of_bound t a b s (sym is ∙ e), λ h. is ∙ bound t a b s h)
