-- Items of a family are bound where their bars are.
use Rattle.std.proofs.Common.{◌≡◌, ◌≢◌, ◌⊎◌, inl, inr, ℕ, ℤ, pos, ◌+ℤ◌, ◌-ℤ◌, ◌*ℤ◌, Bool, true, false, ◌&&◌, cond}
use Rattle.std.proofs.{Common.{Option, Some, None, refl, sym, ap, ◌∙◌, subst}, lemmas.Bool.true≢false}
use Rattle.std.specs.Prelude.{IsTrue, is_some, int_le}
use Rattle.lam_geom.specs.declared.boxes.Axis.{Axis}
use Rattle.rule_table.specs.{Spacing.{spacing_in, gap_of}, declared.technology.Tech.Tech}
use Rattle.rule_table.specs.declared.classes.{Rule.Rule, Class.{Class, TheVariants.{M, P, Dm}}}
use Rattle.sym_items.specs.{declared.items.{Item.Item, Coords.Coords}, Standing.{nowhere, StandTogether}}
use Rattle.sym_items.specs.Transposed.{item_along}
use Rattle.pair_rules.specs.{Bound.{is_poly_on_diffusion, bound_spacing, IsBound}, Candidates.sides_at}
use Rattle.pair_rules.proofs.BoundItems.{bound_exactly, out_of_bound}
use Rattle.bar_rows.specs.{declared.bars.{Bar.Bar, Contacts.Contacts}, Contacts.ShareContact}
use Rattle.bar_rows.specs.Facing.{KindsBind, Binds}
use Rattle.shadow_prune.specs.declared.families.Family.{Family}
use Rattle.shadow_prune.specs.declared.families.Family.TheVariants.{Metal, Diffusion, Poly, Cuts, Implants, Windows}
use Rattle.shadow_prune.specs.Families.{main_of, role_of, self_rule_of, other_rule_of, has_rule, has_self_rule}
use Rattle.shadow_prune.specs.Families.{self_spacing, other_spacing, spacing_or, exempts, is_exempt, is_main_role}
use Rattle.shadow_prune.specs.Families.{is_main, contacts_of, reach_of, least_needed}
use Rattle.shadow_prune.proofs.Classes.{the_main, rule_for, ruled_by_roles, not_exempt}

-- the spacing of two items of a family by their roles
abbrev pub spacing_for : Tech → Family → Bool → Bool → ℤ
spacing_for t f true true = self_spacing t f
spacing_for t f true false = other_spacing t f
spacing_for t f false n = other_spacing t f

spacing_is : (t : Tech) (f : Family) (m n : Bool) (rule : Rule) → rule_for t f m n ≡ Some rule
    → rule.s ≡ spacing_for t f m n
spacing_is t f true true rule e = sym (ap (λ o. spacing_or o (other_spacing t f)) e)
spacing_is t f true false rule e = sym (ap gap_of e)
spacing_is t f false true rule e = sym (ap gap_of e)
spacing_is t f false false rule e = cc

-- ---- contacts

-- what has no contact shares none
none_nowhere : (x : Contacts) → (let none : Contacts = record { low = nowhere; high = nowhere } in ShareContact none x)
    → ⊥
none_nowhere x h = elim h.1.1 as (λ _. ⊥) [ inl e ↦ h.1.0 (sym e) | inr e ↦ h.1.0 (sym e) ]

family_of_poly : (f : Family) (m : Bool) → role_of f P ≡ Some m → f ≡ Poly
family_of_poly Poly m e = refl
family_of_poly Metal m e = cc
family_of_poly Diffusion m e = cc
family_of_poly Cuts m e = cc
family_of_poly Implants m e = cc
family_of_poly Windows m e = cc

one_is_poly : (a b : Class) → IsTrue (is_poly_on_diffusion a b) → (a ≡ P) ⊎ (b ≡ P)
one_is_poly P Dm e = inl refl
one_is_poly Dm P e = inr refl
one_is_poly _ _ e = cc

is_poly_family : (f : Family) (a b : Class) (m n : Bool) → role_of f a ≡ Some m → role_of f b ≡ Some n
    → IsTrue (is_poly_on_diffusion a b) → f ≡ Poly
is_poly_family f a b m n d e lies =
    elim (one_is_poly a b lies) as (λ _. f ≡ Poly) [
      | inl p ↦ family_of_poly f m (ap (role_of f) (sym p) ∙ d)
      | inr p ↦ family_of_poly f n (ap (role_of f) (sym p) ∙ e)
    ]

poly_and_other : (a b : Class) (m n : Bool) → role_of Poly a ≡ Some m → role_of Poly b ≡ Some n → (m ≡ n → ⊥)
    → IsTrue (is_poly_on_diffusion a b)
poly_and_other P Dm m n d e differ = refl
poly_and_other Dm P m n d e differ = refl
poly_and_other P P m n d e differ = absurd (differ (cc))
poly_and_other Dm Dm m n d e differ = absurd (differ (cc))
poly_and_other P _ m n d e differ = cc
poly_and_other Dm _ m n d e differ = cc
poly_and_other _ _ m n d e differ = cc

-- bars of a main item and another share no contact, where poly and diffusion do not stand together
pub none_shared : (f : Family) (a b : Item) (m n : Bool) → role_of f a.class ≡ Some m → role_of f b.class ≡ Some n
    → (m ≡ n → ⊥) → (IsTrue (is_poly_on_diffusion a.class b.class) → StandTogether a b → ⊥)
    → ShareContact (contacts_of f a) (contacts_of f b) → ⊥
none_shared Poly a b m n d e differ h share = h (poly_and_other a.class b.class m n d e differ) share
none_shared Metal a b m n d e differ h share = none_nowhere (contacts_of Metal b) share
none_shared Diffusion a b m n d e differ h share = none_nowhere (contacts_of Diffusion b) share
none_shared Cuts a b m n d e differ h share = none_nowhere (contacts_of Cuts b) share
none_shared Implants a b m n d e differ h share = none_nowhere (contacts_of Implants b) share
none_shared Windows a b m n d e differ h share = none_nowhere (contacts_of Windows b) share

pub stand_apart : (f : Family) (a b : Item) (m n : Bool) → role_of f a.class ≡ Some m → role_of f b.class ≡ Some n
    → (ShareContact (contacts_of f a) (contacts_of f b) → ⊥)
    → IsTrue (is_poly_on_diffusion a.class b.class) → StandTogether a b → ⊥
stand_apart f a b m n d e h lies together =
    let S : Family → Type 0 = λ g. ShareContact (contacts_of g a) (contacts_of g b) in
    h (subst S (sym (is_poly_family f a.class b.class m n d e lies)) together)

-- ---- keys

-- the bar of an item by itself
abbrev pub item_bar : Axis → Tech → Coords → Family → Item → ℕ → Bar
item_bar axis t c f a k =
    record {
      start = (pos 2 *ℤ (sides_at axis c a).bottom) -ℤ reach_of t f (is_main f a);
      end = (pos 2 *ℤ (sides_at axis c a).top) +ℤ reach_of t f (is_main f a);
      key = cond (is_main f a && is_exempt t f) a.net a.owner;
      owner = a.owner;
      contacts = contacts_of f a;
      item = k;
      low = (item_along axis a).xl.var;
      high = (item_along axis a).xh.var;
      is_main = is_main f a;
      is_solid = int_le (least_needed t f (is_main f a)) (item_along axis a).least_x;
    }

pub main_by_role : (f : Family) (a : Item) (m : Bool) → role_of f a.class ≡ Some m → is_main f a ≡ m
main_by_role f a m e = ap is_main_role e

abbrev key_by : Bool → Item → ℕ
key_by q a = cond q a.net a.owner

key_is : (t : Tech) (f : Family) (a : Item) → role_of f a.class ≡ Some true
    → key_by (is_main f a && is_exempt t f) a ≡ key_by (is_exempt t f) a
key_is t f a e = ap (λ (m : Bool). key_by (m && is_exempt t f) a) (main_by_role f a true e)

keys_differ : (q : Bool) (a b : Item) → (IsTrue q → a.net ≢ b.net) → a.owner ≢ b.owner → key_by q a ≢ key_by q b
keys_differ true a b nets owners = nets refl
keys_differ false a b nets owners = owners

nets_differ : (q : Bool) (a b : Item) → key_by q a ≢ key_by q b → IsTrue q → a.net ≢ b.net
nets_differ true a b keys e = keys
nets_differ false a b keys e = cc

-- ---- bound items have bound bars

exempt_is : (t : Tech) (f : Family) (rule : Rule) → self_rule_of t f ≡ Some rule → is_exempt t f ≡ rule.net_exempt
exempt_is t f rule e = ap exempts e

kinds_if_bound : (axis : Axis) (t : Tech) (c : Coords) (f : Family) (a b : Item) (i j : ℕ) (m n : Bool) (s : ℤ)
    → role_of f a.class ≡ Some m → role_of f b.class ≡ Some n → IsBound t a b s
    → KindsBind (has_self_rule t f) m n (item_bar axis t c f a i) (item_bar axis t c f b j)
kinds_if_bound axis t c f a b i j true true s d e h =
    let ruled : self_rule_of t f ≡ Some h.rule = sym (ruled_by_roles t f a.class b.class true true d e) ∙ h.ruled in
    let apart = keys_differ (is_exempt t f) a b
    (λ exempt. h.nets (sym (exempt_is t f h.rule ruled) ∙ exempt)) h.owners in
    (ap is_some ruled, λ same. apart (sym (key_is t f a d) ∙ (same ∙ key_is t f b e)))
kinds_if_bound axis t c f a b i j true false s d e h = none_shared f a b true false d e (λ x. true≢false x) h.apart
kinds_if_bound axis t c f a b i j false true s d e h =
    none_shared f a b false true d e (λ x. true≢false (sym x)) h.apart
kinds_if_bound axis t c f a b i j false false s d e h =
    let none = ruled_by_roles t f a.class b.class false false d e in
    let both : None ≡ Some h.rule = sym none ∙ h.ruled in
    cc

pub binds_if_bound : (axis : Axis) (t : Tech) (c : Coords) (f : Family) (a b : Item) (i j : ℕ) (m n : Bool) (s : ℤ)
    → role_of f a.class ≡ Some m → role_of f b.class ≡ Some n → bound_spacing t a b ≡ Some s
    → Binds (has_self_rule t f) (item_bar axis t c f a i) (item_bar axis t c f b j)
binds_if_bound axis t c f a b i j m n s d e is_bound =
    let h = out_of_bound t a b s is_bound in
    let K : Bool → Bool → Type 0 =
    λ x y. KindsBind (has_self_rule t f) x y (item_bar axis t c f a i) (item_bar axis t c f b j) in
    record {
      owners = h.owners;
      kinds = subst (K (is_main f a)) (sym (main_by_role f b n e))
          (subst (λ x. K x n) (sym (main_by_role f a m d)) (kinds_if_bound axis t c f a b i j m n s d e h));
    }

-- with the spacing for their roles
pub bound_by_roles : (t : Tech) (f : Family) (a b : Item) (m n : Bool) (s : ℤ) → role_of f a.class ≡ Some m
    → role_of f b.class ≡ Some n → bound_spacing t a b ≡ Some s → s ≡ spacing_for t f m n
bound_by_roles t f a b m n s d e is_bound =
    let h = out_of_bound t a b s is_bound in
    sym h.spacing
    ∙ spacing_is t f m n h.rule (sym (ruled_by_roles t f a.class b.class m n d e) ∙ h.ruled)

-- ---- and bound bars are of bound items

some_rule : (o : Option Rule) → IsTrue (is_some o) → (rule : Rule) × (o ≡ Some rule)
some_rule (Some rule) e = (rule, refl)
some_rule None e = cc

-- a family with a rule, and an item that is not a main one, has a rule for these
other_rule : (t : Tech) (f : Family) (a : Class) → role_of f a ≡ Some false → IsTrue (has_rule t f)
    → IsTrue (is_some (other_rule_of t f))
unfolding spacing_in
other_rule t Poly a d e = refl
other_rule t Cuts a d e = refl
other_rule t Implants a d e = refl
other_rule t Windows a d e = e
other_rule t Metal M d e = cc
other_rule t Metal _ d e = cc
other_rule t Diffusion M d e = cc
other_rule t Diffusion _ d e = cc

-- there is a rule for the roles of bound bars
rule_if_kinds : (t : Tech) (f : Family) (a b : Item) (x y : Bar) (m n : Bool) → role_of f a.class ≡ Some m
    → role_of f b.class ≡ Some n → IsTrue (has_rule t f) → KindsBind (has_self_rule t f) m n x y
    → (rule : Rule) × (rule_for t f m n ≡ Some rule)
rule_if_kinds t f a b x y true true d e has h = some_rule (self_rule_of t f) h.0
rule_if_kinds t f a b x y true false d e has h = some_rule (other_rule_of t f) (other_rule t f b.class e has)
rule_if_kinds t f a b x y false true d e has h = some_rule (other_rule_of t f) (other_rule t f a.class d has)
rule_if_kinds t f a b x y false false d e has h = absurd h

nets_if_kinds : (axis : Axis) (t : Tech) (c : Coords) (f : Family) (a b : Item) (i j : ℕ) (m n : Bool) (rule : Rule)
    → role_of f a.class ≡ Some m → role_of f b.class ≡ Some n → rule_for t f m n ≡ Some rule
    → KindsBind (has_self_rule t f) m n (item_bar axis t c f a i) (item_bar axis t c f b j)
    → IsTrue rule.net_exempt → a.net ≢ b.net
nets_if_kinds axis t c f a b i j true true rule d e ruled h exempt =
    nets_differ (is_exempt t f) a b (λ same. h.1 (key_is t f a d ∙ (same ∙ sym (key_is t f b e))))
    (exempt_is t f rule ruled ∙ exempt)
nets_if_kinds axis t c f a b i j true false rule d e ruled h exempt =
    absurd (true≢false (sym exempt ∙ not_exempt t f rule ruled))
nets_if_kinds axis t c f a b i j false true rule d e ruled h exempt =
    absurd (true≢false (sym exempt ∙ not_exempt t f rule ruled))
nets_if_kinds axis t c f a b i j false false rule d e ruled h exempt = absurd h

not_on_itself : (a : Class) → IsTrue (is_poly_on_diffusion a a) → ⊥
not_on_itself P e = cc
not_on_itself Dm e = cc
not_on_itself _ e = cc

no_poly_on_itself : (f : Family) (a b : Class) → role_of f a ≡ Some true → role_of f b ≡ Some true
    → IsTrue (is_poly_on_diffusion a b) → ⊥
no_poly_on_itself f a b d e lies =
    let both : IsTrue (is_poly_on_diffusion (main_of f) (main_of f)) =
    subst (λ x. IsTrue (is_poly_on_diffusion x (main_of f))) (the_main f a d)
    (subst (λ x. IsTrue (is_poly_on_diffusion a x)) (the_main f b e) lies) in
    not_on_itself (main_of f) both

apart_if_kinds : (f : Family) (a b : Item) (self_rule : Bool) (x y : Bar) (m n : Bool)
    → role_of f a.class ≡ Some m → role_of f b.class ≡ Some n → x.contacts ≡ contacts_of f a
    → y.contacts ≡ contacts_of f b → KindsBind self_rule m n x y
    → IsTrue (is_poly_on_diffusion a.class b.class) → StandTogether a b → ⊥
apart_if_kinds f a b self_rule x y true true d e p q h lies together = no_poly_on_itself f a.class b.class d e lies
apart_if_kinds f a b self_rule x y false false d e p q h lies together = h
apart_if_kinds f a b self_rule x y true false d e p q h lies together =
    stand_apart f a b true false d e (λ share. h (subst (ShareContact x.contacts) (sym q)
    (subst (λ z. ShareContact z (contacts_of f b)) (sym p) share))) lies together
apart_if_kinds f a b self_rule x y false true d e p q h lies together =
    stand_apart f a b false true d e (λ share. h (subst (ShareContact x.contacts) (sym q)
    (subst (λ z. ShareContact z (contacts_of f b)) (sym p) share))) lies together

pub bound_if_binds : (axis : Axis) (t : Tech) (c : Coords) (f : Family) (a b : Item) (i j : ℕ) (m n : Bool)
    → role_of f a.class ≡ Some m → role_of f b.class ≡ Some n → IsTrue (has_rule t f)
    → Binds (has_self_rule t f) (item_bar axis t c f a i) (item_bar axis t c f b j)
    → bound_spacing t a b ≡ Some (spacing_for t f m n)
bound_if_binds axis t c f a b i j m n d e has h =
    let x = item_bar axis t c f a i in
    let y = item_bar axis t c f b j in
    let K : Bool → Bool → Type 0 = λ u v. KindsBind (has_self_rule t f) u v x y in
    let kinds : K m n =
    subst (K m) (main_by_role f b n e) (subst (λ u. K u (is_main f b)) (main_by_role f a m d) h.kinds) in
    let r = rule_if_kinds t f a b x y m n d e has kinds in
    let s = spacing_for t f m n in
    (bound_exactly t a b (bound_spacing t a b) refl s).1 (record {
      owners = h.owners;
      rule = r.0;
      ruled = ruled_by_roles t f a.class b.class m n d e ∙ r.1;
      spacing = spacing_is t f m n r.0 r.1;
      nets = nets_if_kinds axis t c f a b i j m n r.0 d e r.1 kinds;
      apart = apart_if_kinds f a b (has_self_rule t f) x y m n d e refl refl kinds;
    })
