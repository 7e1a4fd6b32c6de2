-- Bars that face each other, and bars that screen others.
use Rattle.std.specs.Prelude.{◌≢◌, ◌<ℤ◌, Bool, true, false, IsTrue}
use Rattle.bar_rows.specs.{declared.bars.Bar.Bar, Contacts.ShareContact}

-- what two bars are bound by, each of which is a main one or is not: two main ones where their keys differ and there
-- is a rule for such, a main one and another where they share no contact
abbrev pub KindsBind : Bool → Bool → Bool → Bar → Bar → Type 0
KindsBind self_rule true true a b = IsTrue self_rule × (a.key ≢ b.key)
KindsBind self_rule true false a b = ¬ ShareContact a.contacts b.contacts
KindsBind self_rule false true a b = ¬ ShareContact a.contacts b.contacts
KindsBind self_rule false false a b = ⊥

-- two bars are bound: their owners differ, and they are bound by their kinds
pub record Binds (self_rule : Bool) (a b : Bar) : Type 0 where
  pub owners : a.owner ≢ b.owner
  pub kinds : KindsBind self_rule a.is_main b.is_main a b

-- each starts before the other ends
abbrev pub Meet : Bar → Bar → Type 0
Meet a b = (a.start <ℤ b.end) × (b.start <ℤ a.end)

-- two bars face each other
pub record Faces (self_rule : Bool) (a b : Bar) : Type 0 where
  pub meet : Meet a b
  pub bound : Binds self_rule a b

-- a solid bar that faces two others screens them from each other, where it stands between them
pub record Screens (self_rule : Bool) (a b k : Bar) : Type 0 where
  pub solid : IsTrue k.is_solid
  pub first : Faces self_rule a k
  pub second : Faces self_rule k b
