-- Contacts that two bars share.
use Rattle.std.proofs.Common.{◌≡◌, ◌↔◌, IsTrue, inl, inr, refl, sym, subst, Bool, true, false, ◌∙◌}
use Rattle.bar_rows.specs.{declared.bars.Contacts.Contacts, Contacts.{HasContact, ShareContact}}

pub shared_by_low : (a b : Contacts) → HasContact a b.low → ShareContact a b
shared_by_low a b h = (b.low, h, (h.0, inl refl))

pub shared_by_high : (a b : Contacts) → HasContact a b.high → ShareContact a b
shared_by_high a b h = (b.high, h, (h.0, inr refl))

not_both : (b : Bool) → b ≡ false → b ≡ true → ⊥
not_both b f t = let e : true ≡ false = sym t ∙ f in absurd (cc)

pub none_shared : (a b : Contacts) → (HasContact a b.low → ⊥) → (HasContact a b.high → ⊥) → ShareContact a b → ⊥
none_shared a b low high h =
    elim h.2.1 as (λ _. ⊥) [
      | inl e ↦ low (subst (HasContact a) (sym e) h.1)
      | inr e ↦ high (subst (HasContact a) (sym e) h.1)
    ]

-- sharing has no order
pub share_turned : (a b : Contacts) → ShareContact a b → ShareContact b a
share_turned a b h = (h.0, h.2, h.1)

-- with no contact at the low one, they share one exactly where there is one at the high one
pub share_else : (low high : Bool) (a b : Contacts) → (IsTrue low ↔ HasContact a b.low)
    → (IsTrue high ↔ HasContact a b.high) → low ≡ false → IsTrue high ↔ ShareContact a b
share_else low true a b l h not = (λ t. shared_by_high a b (h.0 t), λ _. refl)
share_else low false a b l h not = (
  λ t. shared_by_high a b (h.0 t),
  λ s. absurd (none_shared a b (λ at. not_both low not (l.1 at)) (λ at. not_both false refl (h.1 at)) s),
)
