-- Lists of the entries of numbers with a property, as far as the numbers have come.
use Rattle.std.proofs.Common.{◌≡◌, ℕ, ◌+◌, inl, inr, List, [], ◌∷◌, ◌++◌, subst, Contains, arith, length-append}
use Rattle.std.proofs.lemmas.{Bool.cases_lt, List.Elements.{All-push, All-nil, Contains-append_left, Contains-push}}
use Rattle.box_tree.{specs.{declared.entries.Entry.Entry, Orders.AreReordered}}
use Rattle.box_tree.proofs.Orders.{reordered_all, reordered_contains, reordered_length}
use Rattle.crossings.specs.Entries.{AreEntriesBelow}

pub entries_none : (P : ℕ → Type 0) (entry : ℕ → Entry) → AreEntriesBelow P entry 0 []
entries_none P entry = record {
  sound = All-nil (λ (s : Entry). (k : ℕ) × P k × (s ≡ entry k));
  complete = λ k lt here. absurd (omega arith);
  few = omega arith;
}

-- one more number, without the property
pub entries_skip : (P : ℕ → Type 0) (entry : ℕ → Entry) (n : ℕ) (entries : List Entry)
    → AreEntriesBelow P entry n entries → (P n → ⊥) → AreEntriesBelow P entry (n + 1) entries
entries_skip P entry n entries h lacks = record {
  sound = h.sound;
  complete = λ k lt here. elim (cases_lt k n) [
    | inl less ↦ h.complete k less here
    | inr more ↦ let e : k ≡ n = omega arith in absurd (lacks (subst P e here))
  ];
  few = omega (arith, h.few);
}

-- one more number, with it
pub entries_push : (P : ℕ → Type 0) (entry : ℕ → Entry) (n : ℕ) (entries : List Entry) (s : Entry)
    → AreEntriesBelow P entry n entries → P n → s ≡ entry n → AreEntriesBelow P entry (n + 1) (entries ++ s ∷ [])
entries_push P entry n entries s h here is = record {
  sound = All-push (λ (x : Entry). (k : ℕ) × P k × (x ≡ entry k)) entries s h.sound (n, here, is);
  complete = λ k lt has. elim (cases_lt k n) [
    | inl less ↦ Contains-append_left entries (s ∷ []) (entry k) (h.complete k less has)
    | inr more ↦
        let e : n ≡ k = omega arith in
        let s_is : s ≡ entry k = subst (λ (m : ℕ). s ≡ entry m) e is in
        subst (λ (x : Entry). Contains (entries ++ s ∷ []) x) s_is (Contains-push entries s)
  ];
  few = omega (arith, h.few, length-append entries (s ∷ []));
}

-- the same entries in another order
pub entries_reordered : (P : ℕ → Type 0) (entry : ℕ → Entry) (n : ℕ) (given entries : List Entry)
    → AreReordered given entries → AreEntriesBelow P entry n given → AreEntriesBelow P entry n entries
entries_reordered P entry n given entries r h = record {
  sound = reordered_all (λ (s : Entry). (k : ℕ) × P k × (s ≡ entry k)) given entries r h.sound;
  complete = λ k lt here. reordered_contains given entries (entry k) r (h.complete k lt here);
  few = omega (arith, h.few, reordered_length given entries r);
}
