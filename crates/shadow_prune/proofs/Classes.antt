-- Which classes keep a spacing from each other: those of one family, by their roles in it.
use Rattle.std.proofs.Common.{◌≡◌, ◌⊎◌, inl, inr, ℤ, Bool, true, false, ◌||◌, cond, Option, Some, None, refl, sym}
use Rattle.std.{proofs.Common.{ap, ◌∙◌}, specs.Prelude.{IsTrue, is_some}}
use Rattle.rule_table.specs.{Keys.has_buried, Spacing.{row, either, spacing_in}, Technology.{numbers_of, spacing_of}}
use Rattle.rule_table.specs.declared.{keys.Numbers.Numbers, technology.Tech.Tech}
use Rattle.rule_table.specs.declared.classes.{Rule.Rule, Class.{Class, TheVariants.{M, P, Dc, Dm, C, I, G, B}}}
use Rattle.rule_table.proofs.Margins.{spacing_in-symmetric}
use Rattle.shadow_prune.specs.declared.families.Family.{Family}
use Rattle.shadow_prune.specs.declared.families.Family.TheVariants.{Metal, Diffusion, Poly, Cuts, Implants, Windows}
use Rattle.shadow_prune.specs.Families.{main_of, other_of, role_of, rule_from, self_rule_of, other_rule_of, has_rule}
use Rattle.shadow_prune.specs.Families.{exempts}

-- the rule of two classes of a family by their roles
abbrev pub rule_for : Tech → Family → Bool → Bool → Option Rule
rule_for t f true true = self_rule_of t f
rule_for t f true false = other_rule_of t f
rule_for t f false true = other_rule_of t f
rule_for t f false false = None

pub the_main : (f : Family) (a : Class) → role_of f a ≡ Some true → a ≡ main_of f
the_main Metal M e = refl
the_main Diffusion Dc e = refl
the_main Poly P e = refl
the_main Cuts C e = refl
the_main Implants I e = refl
the_main Windows B e = refl
the_main _ _ e = cc

the_other : (f : Family) (a : Class) → role_of f a ≡ Some false → other_of f ≡ Some a
the_other Metal M e = cc
the_other Diffusion M e = cc
the_other Poly Dm e = refl
the_other Cuts G e = refl
the_other Implants G e = refl
the_other Windows G e = refl
the_other _ _ e = cc

-- two of the other class keep none
none_of_others : (n : Numbers) (f : Family) (a : Class) → other_of f ≡ Some a → spacing_in n a a ≡ None
unfolding spacing_in
none_of_others n f Dm e = refl
none_of_others n f G e = refl
none_of_others n Metal _ e = cc
none_of_others n Diffusion _ e = cc
none_of_others n Poly _ e = cc
none_of_others n _ _ e = cc

abbrev class_of : Option Class → Class
class_of None = M
class_of (Some a) = a

-- so the rule of two classes is that of their roles
pub ruled_by_roles : (t : Tech) (f : Family) (a b : Class) (m n : Bool) → role_of f a ≡ Some m → role_of f b ≡ Some n
    → spacing_of t a b ≡ rule_for t f m n
ruled_by_roles t f a b true true d e =
    ap (λ (x : Class). spacing_of t x b) (the_main f a d) ∙ ap (spacing_of t (main_of f)) (the_main f b e)
ruled_by_roles t f a b true false d e =
    ap (λ (x : Class). spacing_of t x b) (the_main f a d)
    ∙ ap (rule_from t (main_of f)) (sym (the_other f b e))
ruled_by_roles t f a b false true d e =
    spacing_in-symmetric (numbers_of t) a b
    ∙ (ap (λ (x : Class). spacing_of t x a) (the_main f b e) ∙ ap (rule_from t (main_of f)) (sym (the_other f a d)))
ruled_by_roles t f a b false false d e =
    ap (spacing_of t a) (ap class_of (sym (the_other f b e) ∙ the_other f a d))
    ∙ none_of_others (numbers_of t) f a (the_other f a d)

-- a family that both classes are of
pub record InFamily (f : Family) (a b : Class) : Type 0 where
  pub first : Bool
  pub second : Bool
  pub first_role : role_of f a ≡ Some first
  pub second_role : role_of f b ≡ Some second

-- the classes of a row are of one
of_row : (n : Numbers) (a b : Class) (rule : Rule) → row n a b ≡ Some rule → (f : Family) × InFamily f a b
of_row n M M rule e = (Metal, record { first = true; second = true; first_role = refl; second_role = refl })
of_row n P P rule e = (Poly, record { first = true; second = true; first_role = refl; second_role = refl })
of_row n Dc Dc rule e = (Diffusion, record { first = true; second = true; first_role = refl; second_role = refl })
of_row n P Dm rule e = (Poly, record { first = true; second = false; first_role = refl; second_role = refl })
of_row n C C rule e = (Cuts, record { first = true; second = true; first_role = refl; second_role = refl })
of_row n C G rule e = (Cuts, record { first = true; second = false; first_role = refl; second_role = refl })
of_row n I G rule e = (Implants, record { first = true; second = false; first_role = refl; second_role = refl })
of_row n B G rule e = (Windows, record { first = true; second = false; first_role = refl; second_role = refl })
of_row n _ _ rule e = cc

turned : (f : Family) (a b : Class) → InFamily f a b → InFamily f b a
turned f a b h =
    record { first = h.second; second = h.first; first_role = h.second_role; second_role = h.first_role }

of_either : (p q : Option Rule) (rule : Rule) (A : Type 0) → ((r : Rule) → p ≡ Some r → A)
    → ((r : Rule) → q ≡ Some r → A) → either p q ≡ Some rule → A
of_either None q rule A f g e = g rule e
of_either (Some r) q rule A f g e = f r refl

-- and so are two classes that have a rule
pub family_of : (n : Numbers) (a b : Class) (rule : Rule) → spacing_in n a b ≡ Some rule
    → (f : Family) × InFamily f a b
unfolding spacing_in
family_of n a b rule e =
    let A : Type 0 = (f : Family) × InFamily f a b in
    of_either (row n a b) (row n b a) rule A (of_row n a b)
    (λ r d. let w = of_row n b a r d in (w.0, turned w.0 b a w.1)) e

has_either : (p q : Option Rule) (rule : Rule) → (p ≡ Some rule) ⊎ (q ≡ Some rule) → IsTrue (is_some p || is_some q)
has_either (Some r) q rule e = refl
has_either None (Some r) rule e = refl
has_either None None rule (inl e) = cc
has_either None None rule (inr e) = cc

-- the family has a rule then
pub family_has_rule : (t : Tech) (f : Family) (m n : Bool) (rule : Rule) → rule_for t f m n ≡ Some rule
    → IsTrue (has_rule t f)
family_has_rule t f true true rule e = has_either (self_rule_of t f) (other_rule_of t f) rule (inl e)
family_has_rule t f true false rule e = has_either (self_rule_of t f) (other_rule_of t f) rule (inr e)
family_has_rule t f false true rule e = has_either (self_rule_of t f) (other_rule_of t f) rule (inr e)
family_has_rule t f false false rule e = cc

-- the rule of a main class with the other one exempts no net
if_buried : (q : Bool) (s : ℤ) (rule : Rule)
    → either (cond q (Some (record { s = s; net_exempt = false })) None) None ≡ Some rule → rule.net_exempt ≡ false
if_buried true s rule e = sym (ap exempts e)
if_buried false s rule e = cc

pub not_exempt : (t : Tech) (f : Family) (rule : Rule) → other_rule_of t f ≡ Some rule → rule.net_exempt ≡ false
unfolding spacing_in
not_exempt t Metal rule e = cc
not_exempt t Diffusion rule e = cc
not_exempt t Poly rule e = sym (ap exempts e)
not_exempt t Cuts rule e = sym (ap exempts e)
not_exempt t Implants rule e = sym (ap exempts e)
not_exempt t Windows rule e = if_buried (has_buried (numbers_of t)) (numbers_of t).spacing_buried_channel rule e

-- what keeps a spacing from the main class of a family is of it
pub beside_main : (n : Numbers) (f : Family) (a : Class) (rule : Rule) → spacing_in n (main_of f) a ≡ Some rule
    → (m : Bool) × (role_of f a ≡ Some m)
unfolding spacing_in
beside_main n Metal M rule e = (true, refl)
beside_main n Diffusion Dc rule e = (true, refl)
beside_main n Poly P rule e = (true, refl)
beside_main n Poly Dm rule e = (false, refl)
beside_main n Cuts C rule e = (true, refl)
beside_main n Cuts G rule e = (false, refl)
beside_main n Implants G rule e = (false, refl)
beside_main n Windows G rule e = (false, refl)
beside_main n _ _ rule e = cc

by_roles : (t : Tech) (f : Family) (a b k : Class) (rule first second : Rule) (m n : Bool) → role_of f a ≡ Some m
    → role_of f b ≡ Some n → spacing_of t a b ≡ Some rule → spacing_of t a k ≡ Some first
    → spacing_of t k b ≡ Some second → (x : Bool) × (role_of f k ≡ Some x)
by_roles t f a b k rule first second true n p q e d g =
    beside_main (numbers_of t) f k first (ap (λ (x : Class). spacing_of t x k) (sym (the_main f a p)) ∙ d)
by_roles t f a b k rule first second false true p q e d g =
    beside_main (numbers_of t) f k second
    (ap (λ (x : Class). spacing_of t x k) (sym (the_main f b q)) ∙ (spacing_in-symmetric (numbers_of t) b k ∙ g))
by_roles t f a b k rule first second false false p q e d g =
    let none : spacing_of t a b ≡ None = ruled_by_roles t f a b false false p q in
    let both : None ≡ Some rule = sym none ∙ e in
    cc

-- so is what keeps one from both of two classes of a family that keep one from each other
pub beside_both : (t : Tech) (f : Family) (a b k : Class) (rule first second : Rule) → InFamily f a b
    → spacing_of t a b ≡ Some rule → spacing_of t a k ≡ Some first → spacing_of t k b ≡ Some second
    → (m : Bool) × (role_of f k ≡ Some m)
beside_both t f a b k rule first second h e d g =
    by_roles t f a b k rule first second h.first h.second h.first_role h.second_role e d g
