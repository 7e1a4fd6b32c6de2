-- How lists of links grow.
use Rattle.std.proofs.Common.{◌≡◌, ℕ, List, [], ◌∷◌, ◌++◌, Contains, ◌⊎◌, inl, inr, sym, subst}
use Rattle.std.proofs.lemmas.List.Elements.{Contains-append_left, Contains-push, Contains-push_cases}
use Rattle.design_nets.specs.Linking.{AreAdded}

-- one link more
pub added_push : (L M : ℕ → ℕ → Type 0) (old now new : List (ℕ × ℕ)) (u v : ℕ) → AreAdded L old now
    → new ≡ now ++ (u, v) ∷ []
    → ((x y : ℕ) → L x y → M x y) → M u v → ((x y : ℕ) → M x y → L x y ⊎ ((x ≡ u) × (y ≡ v))) → AreAdded M old new
added_push L M old now new u v h e more here cases =
    let Q : List (ℕ × ℕ) → Type 0 = AreAdded M old in
    subst Q (sym e)
    (record {
      sound = λ x y c. elim (Contains-push_cases now (u, v) (x, y) c) [
        | inl before ↦ elim (h.sound x y before) [ inl was ↦ inl was | inr link ↦ inr (more x y link) ]
        | inr is ↦ (let R : ℕ × ℕ → Type 0 = λ p. M p.0 p.1 in inr (subst R is here))
      ];
      kept = λ x y c. Contains-append_left now ((u, v) ∷ []) (x, y) (h.kept x y c);
      complete = λ x y m. elim (cases x y m) [
        | inl link ↦ Contains-append_left now ((u, v) ∷ []) (x, y) (h.complete x y link)
        | inr is ↦
            (let R : ℕ → Type 0 = λ z. Contains (now ++ (u, v) ∷ []) (z, y) in
            let S : ℕ → Type 0 = λ z. Contains (now ++ (u, v) ∷ []) (u, z) in
            subst R (sym is.0) (subst S (sym is.1) (Contains-push now (u, v))))
      ];
    })

-- links of one kind, and then of another
pub added_then : (L K M : ℕ → ℕ → Type 0) (old now new : List (ℕ × ℕ)) → AreAdded L old now → AreAdded K now new
    → ((x y : ℕ) → L x y → M x y) → ((x y : ℕ) → K x y → M x y) → ((x y : ℕ) → M x y → L x y ⊎ K x y)
    → AreAdded M old new
added_then L K M old now new h k left right cases = record {
  sound = λ x y c. elim (k.sound x y c) [
    | inl before ↦ elim (h.sound x y before) [ inl was ↦ inl was | inr link ↦ inr (left x y link) ]
    | inr link ↦ inr (right x y link)
  ];
  kept = λ x y c. k.kept x y (h.kept x y c);
  complete =
      λ x y m. elim (cases x y m) [ inl link ↦ k.kept x y (h.complete x y link) | inr link ↦ k.complete x y link ];
}

-- the same links by another name
pub added_same : (L M : ℕ → ℕ → Type 0) (old new : List (ℕ × ℕ)) → AreAdded L old new → ((x y : ℕ) → L x y → M x y)
    → ((x y : ℕ) → M x y → L x y) → AreAdded M old new
added_same L M old new h to back = record {
  sound = λ x y c. elim (h.sound x y c) [ inl was ↦ inl was | inr link ↦ inr (to x y link) ];
  kept = h.kept;
  complete = λ x y m. h.complete x y (back x y m);
}
