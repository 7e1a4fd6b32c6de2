-- Bound pairs: items that have to keep a spacing.
use Rattle.std.specs.Prelude.{◌≡◌, ◌≢◌, ℕ, ℤ, pos, Bool, true, false, ◌&&◌, ◌||◌, ◌==◌, if◌then◌else◌, IsTrue, Option}
use Rattle.std.specs.Prelude.{Some, None, List, slice_index_or}
use Rattle.rule_table.specs.declared.{classes.{Rule.Rule, Class.{Class, TheVariants.{M, P, Dm}}}, technology.Tech.Tech}
use Rattle.rule_table.specs.Technology.{spacing_of}
use Rattle.sym_items.specs.{declared.items.{End.End, Item.Item}, Standing.{StandTogether, stand_together}}

-- what is read past the end of a list of items
abbrev pub no_end : End
no_end = record { var = 0; off = pos 0 }

abbrev pub no_item : Item
no_item =
    record {
      class = M;
      net = 0;
      owner = 0;
      xl = no_end;
      xh = no_end;
      yl = no_end;
      yh = no_end;
      least_x = pos 0;
      least_y = pos 0;
      at_low = 0;
      at_high = 0;
    }

-- item number k
abbrev pub item_at : List Item → ℕ → Item
item_at items k = slice_index_or items k no_item

-- a rule from which items of these nets are free: one net, and a rule that it exempts from
abbrev pub is_exempt : Rule → ℕ → ℕ → Bool
is_exempt r net other = r.net_exempt && (net == other)

-- the spacing that items of these nets have to keep by the rule of their classes
abbrev pub spacing_by : Option Rule → ℕ → ℕ → Option ℤ
spacing_by None net other = None
spacing_by (Some r) net other = if is_exempt r net other then None else Some r.s

-- one is poly, and the other diffusion of the mask
abbrev pub is_poly_on_diffusion : Class → Class → Bool
is_poly_on_diffusion P Dm = true
is_poly_on_diffusion Dm P = true
is_poly_on_diffusion a b = false

-- poly and diffusion that one buried contact joins
abbrev pub is_joined : Item → Item → Bool
is_joined a b = is_poly_on_diffusion a.class b.class && stand_together a b

-- Two items are bound with a spacing: their owners differ, their classes have a rule with it, no net frees them, and
-- no buried contact joins them.
pub record IsBound (t : Tech) (a b : Item) (s : ℤ) : Type 0 where
  pub owners : a.owner ≢ b.owner
  pub rule : Rule
  pub ruled : spacing_of t a.class b.class ≡ Some rule
  pub spacing : rule.s ≡ s
  pub nets : IsTrue rule.net_exempt → a.net ≢ b.net
  pub apart : IsTrue (is_poly_on_diffusion a.class b.class) → StandTogether a b → ⊥

-- the spacing of a bound pair, computed; None where they are not bound
unfoldable pub bound_spacing : Tech → Item → Item → Option ℤ
bound_spacing t a b = if (a.owner == b.owner) || is_joined a b then None
    else spacing_by (spacing_of t a.class b.class) a.net b.net
