-- The elements of a list that pass a test, by their numbers in order.
use Rattle.std.proofs.Common.{◌≡◌, ℕ, zero, suc, ◌+◌, ◌-◌, ◌<◌, ◌≤◌, Bool, true, false, List, [], ◌∷◌, length, get_or}
use Rattle.std.proofs.Common.{map, filter, refl, sym, ap, ◌∙◌, subst, arith, inl, inr}
use Rattle.std.proofs.lemmas.Bool.{cases_Bool, cases_eq, cond-true, cond-false}
use Rattle.crossing_model.specs.Crossings.{IsIncreasing}
use Rattle.instance_laws.proofs.NetlistLists.{Has}

-- numbers that rise, from one on
abbrev pub Rise : ℕ → List ℕ → Type 0
Rise a [] = Unit {0}
Rise a (k ∷ ks) = (a ≤ k) × Rise (k + 1) ks

pub rise_of : (ks : List ℕ) → IsIncreasing ks → (a : ℕ) → ((j : ℕ) → j < length ks → a ≤ get_or ks j 0) → Rise a ks
rise_of [] h a low = tt
rise_of (k ∷ ks) h a low = (
  low 0 (omega arith),
  rise_of ks (λ i j lt within. h (suc i) (suc j) (omega (arith, lt)) (omega (arith, within))) (k + 1)
      (λ j within.
      (let later : k < get_or ks j 0 = h zero (suc j) (omega arith) (omega (arith, within)) in
      omega (arith, later))),
)

-- no lesser one is among them
above : (a : ℕ) (ks : List ℕ) (k : ℕ) → Rise a ks → Has ks k → a ≤ k
above a [] k h has = absurd has
above a (x ∷ ks) k h (inl e) = (let low = h.0 in omega (arith, low, e))
above a (x ∷ ks) k h (inr has) = (let low = h.0 in let more = above (x + 1) ks k h.1 has in omega (arith, low, more))

module _ {X : Type 0} (p : X → Bool) (d : X) where
  abbrev read : List X → ℕ → ℕ → X
  read xs a k = get_or xs (k - a) d

  -- after the first element
  read_after : (x : X) (xs : List X) (a b : ℕ) (ks : List ℕ) → a + 1 ≤ b → Rise b ks
      → map (read (x ∷ xs) a) ks ≡ map (read xs (a + 1)) ks
  read_after x xs a b [] le h = refl
  read_after x xs a b (k ∷ ks) le h =
      let low = h.0 in
      let e : k - a ≡ suc (k - (a + 1)) = omega (arith, le, low) in
      ap (λ (y : X). y ∷ map (read (x ∷ xs) a) ks) (ap (λ (n : ℕ). get_or (x ∷ xs) n d) e)
      ∙ ap (λ (ys : List X). read xs (a + 1) k ∷ ys) (read_after x xs a (k + 1) ks (omega (arith, le, low)) h.1)

  pub record AreKept (xs : List X) (a : ℕ) (ks : List ℕ) : Type 0 where
    pub rise : Rise a ks
    pub sound : (k : ℕ) → Has ks k → (k < a + length xs) × (p (read xs a k) ≡ true)
    pub complete : (j : ℕ) → j < length xs → p (get_or xs j d) ≡ true → Has ks (a + j)

  -- all but the first
  rest_kept : (x : X) (xs : List X) (a : ℕ) (all ks : List ℕ) → AreKept (x ∷ xs) a all → Rise (a + 1) ks
      → ((k : ℕ) → Has ks k → Has all k) → ((k : ℕ) → a + 1 ≤ k → Has all k → Has ks k) → AreKept xs (a + 1) ks
  rest_kept x xs a all ks h rise wider among = record {
    rise = rise;
    sound = λ k has. (
        let own = h.sound k (wider k has) in
        let lt = own.0 in
        let low = above (a + 1) ks k rise has in
        let e : k - a ≡ suc (k - (a + 1)) = omega (arith, low) in
        (omega (arith, lt), ap (λ (n : ℕ). p (get_or (x ∷ xs) n d)) (sym e) ∙ own.1));
    complete = λ j lt pass. (
        let e : a + suc j ≡ (a + 1) + j = omega arith in
        among ((a + 1) + j) (omega arith)
        (subst (λ (n : ℕ). Has all n) e (h.complete (suc j) (omega (arith, lt)) pass)));
  }

  pub kept : (xs : List X) (a : ℕ) (ks : List ℕ) → AreKept xs a ks → filter p xs ≡ map (read xs a) ks
  kept [] a [] h = refl
  kept [] a (k ∷ ks) h =
      (let own = h.sound k (inl refl) in let lt = own.0 in let low = h.rise.0 in absurd (omega (arith, lt, low)))
  kept (x ∷ xs) a ks h = elim (cases_Bool (p x)) [
    | inl pass ↦ first (λ ns g. kept xs (a + 1) ns g) ks h pass
    | inr fail ↦
        (let rise = later ks h fail in
        let rest = rest_kept x xs a ks ks h rise (λ k has. has) (λ k le has. has) in
        cond-false (p x) (x ∷ filter p xs) (filter p xs) fail
        ∙ (kept xs (a + 1) ks rest ∙ sym (read_after x xs a (a + 1) ks (omega arith) rise)))
  ]
    where
      here : p (get_or (x ∷ xs) 0 d) ≡ p x
      here = refl

      same_first : (k : ℕ) (ks : List ℕ) → AreKept (x ∷ xs) a (k ∷ ks) → p x ≡ true → k ≡ a
      same_first k ks h pass = by (h.complete 0 (omega arith) pass)
        where
          by : Has (k ∷ ks) (a + 0) → k ≡ a
          by (inl e) = omega (arith, e)
          by (inr has) =
              (let low = h.rise.0 in let more = above (k + 1) ks (a + 0) h.rise.1 has in absurd
              (omega (arith, low, more)))

      first : ((ns : List ℕ) → AreKept xs (a + 1) ns → filter p xs ≡ map (read xs (a + 1)) ns) → (ks : List ℕ)
          → AreKept (x ∷ xs) a ks → p x ≡ true → filter p (x ∷ xs) ≡ map (read (x ∷ xs) a) ks
      first again [] h pass = absurd (h.complete 0 (omega arith) pass)
      first again (k ∷ ks) h pass =
          let e = same_first k ks h pass in
          let rise : Rise (a + 1) ks = subst (λ (n : ℕ). Rise (n + 1) ks) e h.rise.1 in
          let rest = rest_kept x xs a (k ∷ ks) ks h rise (λ n has. inr has) (λ n le has. after n le e has) in
          let zero_is : k - a ≡ 0 = omega (arith, e) in
          cond-true (p x) (x ∷ filter p xs) (filter p xs) pass
          ∙ (ap (λ (ys : List X). x ∷ ys) (again ks rest ∙ sym (read_after x xs a (a + 1) ks (omega arith) rise))
          ∙ ap (λ (y : X). y ∷ map (read (x ∷ xs) a) ks) (ap (λ (n : ℕ). get_or (x ∷ xs) n d) (sym zero_is)))
        where
          after : (n : ℕ) → a + 1 ≤ n → k ≡ a → Has (k ∷ ks) n → Has ks n
          after n le e (inl same) = absurd (omega (arith, le, e, same))
          after n le e (inr has) = has

      later : (ks : List ℕ) → AreKept (x ∷ xs) a ks → p x ≡ false → Rise (a + 1) ks
      later [] h fail = tt
      later (k ∷ ks) h fail = (not_first, h.rise.1)
        where
          not_first : a + 1 ≤ k
          not_first =
              let low = h.rise.0 in
              let own = h.sound k (inl refl) in
              let differ : k ≡ a → ⊥ = λ e. (
              let zero_is : k - a ≡ 0 = omega (arith, e) in
              let yes : p x ≡ true = ap (λ (n : ℕ). p (get_or (x ∷ xs) n d)) (sym zero_is) ∙ own.1 in
              cc (yes, fail)) in
              elim (cases_eq k a) [ inl e ↦ absurd (differ e) | inr ne ↦ omega (arith, low, ne) ]

  -- by their numbers among all
  pub kept_of : (xs : List X) (ks : List ℕ) → AreKept xs 0 ks → filter p xs ≡ map (λ k. get_or xs k d) ks
  kept_of xs ks h = kept xs 0 ks h ∙ same ks
    where
      same : (ns : List ℕ) → map (read xs 0) ns ≡ map (λ k. get_or xs k d) ns
      same [] = refl
      same (k ∷ ns) =
          (let e : k - 0 ≡ k = omega arith in ap (λ (n : ℕ). get_or xs n d ∷ map (read xs 0) ns) e
          ∙ ap (λ (ys : List X). get_or xs k d ∷ ys) (same ns))
