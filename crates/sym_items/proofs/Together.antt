-- The test for two items that stand at one buried contact finds exactly those, whatever their order.
use Rattle.std.proofs.Common.{◌≡◌, ℕ, ◌==◌, ◌||◌, not, ◌⊎◌, refl, sym, subst, inl, inr}
use Rattle.std.proofs.lemmas.Bool.Decides.{Decides-eqb, Decides-not, Decides-and, Decides-or, Decides-like}
use Rattle.std.{proofs.lemmas.Bool.Decides.same_from_decides, specs.Bool.Decides}
use Rattle.sym_items.specs.declared.items.Item.{Item}
use Rattle.sym_items.specs.Standing.{nowhere, StandsAt, StandTogether, stands_at, stand_together}

stands_exactly : (i : Item) (k : ℕ) → Decides (stands_at i k) (StandsAt i k)
stands_exactly i k =
    Decides-and (not (k == nowhere)) ((i.at_low == k) || (i.at_high == k))
    (Decides-not (k == nowhere) (Decides-eqb k nowhere))
    (Decides-or (i.at_low == k) (i.at_high == k) (Decides-eqb i.at_low k) (Decides-eqb i.at_high k))

-- two items stand together where the one stands at an end of the other
at_an_end : (a b : Item) → StandsAt a b.at_low ⊎ StandsAt a b.at_high → StandTogether a b
at_an_end a b (inl h) = (b.at_low, h, (h.0, inl refl))
at_an_end a b (inr h) = (b.at_high, h, (h.0, inr refl))

an_end : (a b : Item) → StandTogether a b → StandsAt a b.at_low ⊎ StandsAt a b.at_high
an_end a b h =
    elim h.2.1 as (λ _. StandsAt a b.at_low ⊎ StandsAt a b.at_high) [
      | inl low ↦ inl (subst (StandsAt a) (sym low) h.1)
      | inr high ↦ inr (subst (StandsAt a) (sym high) h.1)
    ]

pub together_exactly : (a b : Item) → Decides (stand_together a b) (StandTogether a b)
unfolding stand_together
together_exactly a b =
    Decides-like (stand_together a b) (at_an_end a b) (an_end a b)
    (Decides-or (stands_at a b.at_low) (stands_at a b.at_high) (stands_exactly a b.at_low) (stands_exactly a b.at_high))

pub stand_together-symmetric : (a b : Item) → stand_together a b ≡ stand_together b a
stand_together-symmetric a b =
    same_from_decides (stand_together a b) (stand_together b a) (together_exactly a b)
    (Decides-like (stand_together b a) (λ h. (h.0, h.2, h.1)) (λ h. (h.0, h.2, h.1)) (together_exactly b a))
