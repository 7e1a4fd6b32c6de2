-- Lists that grow by exactly the numbers with a property.
use Rattle.std.proofs.Common.{◌≡◌, ℕ, List, [], ◌∷◌, ◌++◌, Contains, ◌⊎◌, inl, inr, sym, subst}
use Rattle.std.proofs.lemmas.List.Elements.{Contains-append_left, Contains-push, Contains-push_cases}
use Rattle.box_tree.specs.Found.{AreGathered}

pub gathered_none : (Is : ℕ → Type 0) (xs : List ℕ) → ((b : ℕ) → Is b → ⊥) → AreGathered Is xs xs
gathered_none Is xs none = record { sound = λ b c. inl c; kept = λ b c. c; complete = λ b h. absurd (none b h) }

-- the same numbers by another property
pub gathered_as : (P Q : ℕ → Type 0) (old new : List ℕ) → ((b : ℕ) → P b → Q b) → ((b : ℕ) → Q b → P b)
    → AreGathered P old new → AreGathered Q old new
gathered_as P Q old new forth back g = record {
  sound = λ b c. elim (g.sound b c) [ inl o ↦ inl o | inr p ↦ inr (forth b p) ];
  kept = g.kept;
  complete = λ b q. g.complete b (back b q);
}

-- first some, then others
pub gathered_more : (P Q R : ℕ → Type 0) (old middle new : List ℕ) → ((b : ℕ) → P b ⊎ Q b → R b)
    → ((b : ℕ) → R b → P b ⊎ Q b)
    → AreGathered P old middle → AreGathered Q middle new → AreGathered R old new
gathered_more P Q R old middle new forth back f g = record {
  sound = λ b c. elim (g.sound b c) [
    | inl m ↦ elim (f.sound b m) [ inl o ↦ inl o | inr p ↦ inr (forth b (inl p)) ]
    | inr q ↦ inr (forth b (inr q))
  ];
  kept = λ b c. g.kept b (f.kept b c);
  complete = λ b r. elim (back b r) [ inl p ↦ g.kept b (f.complete b p) | inr q ↦ g.complete b q ];
}

-- one number
pub gathered_push : (xs : List ℕ) (b : ℕ) → AreGathered (λ x. x ≡ b) xs (xs ++ b ∷ [])
gathered_push xs b = record {
  sound = λ x c. elim (Contains-push_cases xs b x c) [ inl o ↦ inl o | inr e ↦ inr (sym e) ];
  kept = λ x c. Contains-append_left xs (b ∷ []) x c;
  complete = λ x e. (let P : ℕ → Type 0 = λ y. Contains (xs ++ b ∷ []) y in subst P (sym e) (Contains-push xs b));
}

-- one more number, if it is to be there
pub gathered_if : (P R : ℕ → Type 0) (Here : Type 0) (old middle new : List ℕ) (b : ℕ)
    → ((x : ℕ) → P x ⊎ ((x ≡ b) × Here) → R x) → ((x : ℕ) → R x → P x ⊎ ((x ≡ b) × Here))
    → (Here × (new ≡ middle ++ b ∷ [])) ⊎ ((Here → ⊥) × (new ≡ middle)) → AreGathered P old middle
    → AreGathered R old new
gathered_if P R Here old middle new b forth back case g =
    let Q : ℕ → Type 0 = λ x. (x ≡ b) × Here in
    let F : List ℕ → Type 0 = λ xs. AreGathered Q middle xs in
    let h : AreGathered Q middle new = elim case [
      | inl (here, e) ↦
          subst F (sym e)
          (gathered_as (λ x. x ≡ b) Q middle (middle ++ b ∷ []) (λ x e. (e, here)) (λ x q. q.0)
          (gathered_push middle b))
      | inr (not_here, e) ↦ subst F (sym e) (gathered_none Q middle (λ x q. not_here q.1))
    ] in
    gathered_more P Q R old middle new forth back g h
