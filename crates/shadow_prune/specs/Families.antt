-- Families of classes, and their items as bars in a row.
use Rattle.std.specs.Prelude.{ℕ, ℤ, pos, neg_ℤ, ◌+ℤ◌, ◌-ℤ◌, ◌*ℤ◌, Bool, true, false, ◌&&◌, ◌||◌, int_le, if◌then◌else◌}
use Rattle.std.specs.Prelude.{Option, Some, None, is_some, List, [], ◌∷◌, map, filter}
use Rattle.lam_geom.specs.declared.boxes.Axis.{Axis}
use Rattle.rule_table.specs.declared.classes.{Rule.Rule, Class.{Class, TheVariants.{M, P, Dc, Dm, C, I, G, B}}}
use Rattle.rule_table.specs.{declared.technology.Tech.Tech, Technology.spacing_of, Spacing.gap_of}
use Rattle.sym_items.specs.{declared.items.{Item.Item, Coords.Coords}, Standing.nowhere, Transposed.item_along}
use Rattle.pair_rules.specs.{Bound.item_at, Candidates.sides_at}
use Rattle.bar_rows.specs.declared.bars.{Bar.Bar, Contacts.Contacts}
use Rattle.shadow_prune.specs.declared.families.Family.{Family}
use Rattle.shadow_prune.specs.declared.families.Family.TheVariants.{Metal, Diffusion, Poly, Cuts, Implants, Windows}

abbrev pub families : List Family
families = Metal ∷ Diffusion ∷ Poly ∷ Cuts ∷ Implants ∷ Windows ∷ []

-- the main class of a family, and the class that keeps a spacing from that one alone
abbrev pub main_of : Family → Class
main_of Metal = M
main_of Diffusion = Dc
main_of Poly = P
main_of Cuts = C
main_of Implants = I
main_of Windows = B

abbrev pub other_of : Family → Option Class
other_of Metal = None
other_of Diffusion = None
other_of Poly = Some Dm
other_of Cuts = Some G
other_of Implants = Some G
other_of Windows = Some G

-- whether a class is the main one; none where it is not of the family
abbrev pub role_of : Family → Class → Option Bool
role_of Metal M = Some true
role_of Diffusion Dc = Some true
role_of Poly P = Some true
role_of Poly Dm = Some false
role_of Cuts C = Some true
role_of Cuts G = Some false
role_of Implants I = Some true
role_of Implants G = Some false
role_of Windows B = Some true
role_of Windows G = Some false
role_of f a = None

-- the rule of the main class with the other one, and its spacing, or 0
abbrev pub rule_from : Tech → Class → Option Class → Option Rule
rule_from t main None = None
rule_from t main (Some other) = spacing_of t main other

abbrev pub other_rule_of : Tech → Family → Option Rule
other_rule_of t f = rule_from t (main_of f) (other_of f)

abbrev pub other_spacing : Tech → Family → ℤ
other_spacing t f = gap_of (other_rule_of t f)

-- the rule of the main class with itself, its spacing, or that from the other class where there is none, and whether it
-- exempts items of one net
abbrev pub self_rule_of : Tech → Family → Option Rule
self_rule_of t f = spacing_of t (main_of f) (main_of f)

abbrev pub spacing_or : Option Rule → ℤ → ℤ
spacing_or None s = s
spacing_or (Some rule) s = rule.s

abbrev pub self_spacing : Tech → Family → ℤ
self_spacing t f = spacing_or (self_rule_of t f) (other_spacing t f)

abbrev pub has_self_rule : Tech → Family → Bool
has_self_rule t f = is_some (self_rule_of t f)

-- there is a rule at all: windows have none where there are no buried contacts
abbrev pub has_rule : Tech → Family → Bool
has_rule t f = is_some (self_rule_of t f) || is_some (other_rule_of t f)

abbrev pub exempts : Option Rule → Bool
exempts None = false
exempts (Some rule) = rule.net_exempt

abbrev pub is_exempt : Tech → Family → Bool
is_exempt t f = exempts (self_rule_of t f)

-- an item is the main one of its family
abbrev pub is_main_role : Option Bool → Bool
is_main_role None = false
is_main_role (Some main) = main

abbrev pub is_main : Family → Item → Bool
is_main f item = is_main_role (role_of f item.class)

-- how far past its item a bar reaches, on a scale on which lengths count twice: so two bars meet where their items are
-- nearer across the axis than their spacing
abbrev pub reach_of : Tech → Family → Bool → ℤ
reach_of t f true = self_spacing t f
reach_of t f false = (pos 2 *ℤ other_spacing t f) -ℤ self_spacing t f

-- the least extent along the axis by which an item between two main ones, or between a main one and another, shadows
-- their pair
abbrev pub least_needed : Tech → Family → Bool → ℤ
least_needed t f true = neg_ℤ (self_spacing t f)
least_needed t f false = self_spacing t f -ℤ (pos 2 *ℤ other_spacing t f)

-- the buried contacts that count: those of poly and diffusion
abbrev pub contacts_of : Family → Item → Contacts
contacts_of Poly item = record { low = item.at_low; high = item.at_high }
contacts_of f item = record { low = nowhere; high = nowhere }

-- the bar of item k
abbrev pub bar_of : Axis → Tech → Coords → List Item → Family → ℕ → Bar
bar_of axis t c items f k =
    record {
      start = (pos 2 *ℤ (sides_at axis c (item_at items k)).bottom) -ℤ reach_of t f (is_main f (item_at items k));
      end = (pos 2 *ℤ (sides_at axis c (item_at items k)).top) +ℤ reach_of t f (is_main f (item_at items k));
      key = if is_main f (item_at items k) && is_exempt t f then (item_at items k).net else (item_at items k).owner;
      owner = (item_at items k).owner;
      contacts = contacts_of f (item_at items k);
      item = k;
      low = (item_along axis (item_at items k)).xl.var;
      high = (item_along axis (item_at items k)).xh.var;
      is_main = is_main f (item_at items k);
      is_solid = int_le (least_needed t f (is_main f (item_at items k))) (item_along axis (item_at items k)).least_x;
    }

-- the numbers of an order whose items are of a family, and their bars in that order
abbrev pub is_of : List Item → Family → ℕ → Bool
is_of items f k = is_some (role_of f (item_at items k).class)

abbrev pub members_of : List Item → Family → List ℕ → List ℕ
members_of items f order = filter (is_of items f) order

abbrev pub bars_of : Axis → Tech → Coords → List Item → Family → List ℕ → List Bar
bars_of axis t c items f order = map (bar_of axis t c items f) (members_of items f order)
