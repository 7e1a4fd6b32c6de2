-- What lists contain that are made of others: joined, chosen, taken in pairs, or each element once.
use Rattle.std.proofs.Common.{◌≡◌, ℕ, zero, suc, ◌+◌, ◌<◌, ℤ, Bool, true, false, List, [], ◌∷◌, ◌++◌, length, map}
use Rattle.std.proofs.Common.{get_or, cond, refl, sym, ap, ◌∙◌, subst, arith, inl, inr}
use Rattle.std.proofs.lemmas.List.Elements.{Contains-append_left, Contains-append_right, Contains-append_cases}
use Rattle.std.{proofs.lemmas.List.{Elements.Contains-push, Folds.Any-from_list_any}, specs.Prelude.slice_index}
use Rattle.std.specs.List.{AllByRecursion, Contains, filter, flat_map, fold, list_any, range_with_len, zip}
use Rattle.plan_model.specs.Rows.{neighbours, add_new, firsts}

-- ---- into a list

pub in_flat_map : {X Y : Type 0} (f : X → List Y) (xs : List X) (a : X) (b : Y) → Contains xs a → Contains (f a) b
    → Contains (flat_map f xs) b
in_flat_map f [] a b h k = absurd (omega (arith, h.1))
in_flat_map f (x ∷ xs) a b (zero, lt, e) k =
    Contains-append_left (f x) (flat_map f xs) b (subst (λ z. Contains (f z) b) (sym e) k)
in_flat_map f (x ∷ xs) a b (suc n, lt, e) k =
    Contains-append_right (f x) (flat_map f xs) b (in_flat_map f xs a b (n, omega (arith, lt), e) k)

pub in_filter : {X : Type 0} (test : X → Bool) (xs : List X) (a : X) → Contains xs a → test a ≡ true
    → Contains (filter test xs) a
in_filter test [] a h t = absurd (omega (arith, h.1))
in_filter test (x ∷ xs) a (zero, lt, e) t = let here : test x ≡ true = ap test e ∙ t in rw here (zero, omega arith, e)
in_filter test (x ∷ xs) a (suc n, lt, e) t =
    let r = in_filter test xs a (n, omega (arith, lt), e) t in
    kept (test x) r
  where
    kept : (b : Bool) → Contains (filter test xs) a → Contains (cond b (x ∷ filter test xs) (filter test xs)) a
    kept true r = (suc r.0, omega (arith, r.1), r.2)
    kept false r = r

in_range_from : (a n k : ℕ) → k < n → Contains (range_with_len a n) (a + k)
in_range_from a zero k lt = absurd (omega arith)
in_range_from a (suc n) zero lt = (zero, omega arith, omega arith)
in_range_from a (suc n) (suc k) lt =
    let r = in_range_from (a + 1) n k (omega arith) in
    let same : (a + 1) + k ≡ a + suc k = omega arith in
    let h : Contains (range_with_len (a + 1) n) (a + suc k) = subst (Contains (range_with_len (a + 1) n)) same r in
    (suc h.0, omega (arith, h.1), h.2)

pub in_range : (n k : ℕ) → k < n → Contains (range_with_len 0 n) k
in_range n k lt = let same : 0 + k ≡ k =
    omega arith in subst (Contains (range_with_len 0 n)) same (in_range_from 0 n k lt)

pub in_zip : {X Y : Type 0} (xs : List X) (ys : List Y) (k : ℕ) (d : X) (e : Y) → k < length xs → k < length ys
    → Contains (zip xs ys) (get_or xs k d, get_or ys k e)
in_zip [] ys k d e l m = absurd (omega (arith, l))
in_zip (x ∷ xs) [] k d e l m = absurd (omega (arith, m))
in_zip (x ∷ xs) (y ∷ ys) zero d e l m = (zero, omega arith, refl)
in_zip (x ∷ xs) (y ∷ ys) (suc k) d e l m = let r =
    in_zip xs ys k d e (omega (arith, l)) (omega (arith, m)) in (suc r.0, omega (arith, r.1), r.2)

pub in_neighbours : {X : Type 0} (xs : List X) (k : ℕ) (d : X) → suc k < length xs
    → Contains (neighbours xs) (get_or xs k d, get_or xs (suc k) d)
in_neighbours [] k d l = absurd (omega (arith, l))
in_neighbours (x ∷ []) k d l = absurd (omega (arith, l))
in_neighbours (x ∷ y ∷ rest) zero d l = (zero, omega arith, refl)
in_neighbours (x ∷ y ∷ rest) (suc k) d l = let r =
    in_neighbours (y ∷ rest) k d (omega (arith, l)) in (suc r.0, omega (arith, r.1), r.2)

-- ---- out of a list

pub out_of_flat_map : {X Y : Type 0} (f : X → List Y) (xs : List X) (b : Y) → Contains (flat_map f xs) b
    → (a : X) × Contains xs a × Contains (f a) b
out_of_flat_map f [] b h = absurd (omega (arith, h.1))
out_of_flat_map f (x ∷ xs) b h = elim (Contains-append_cases (f x) (flat_map f xs) b h) [
  | inl here ↦ (x, (zero, omega arith, refl), here)
  | inr there ↦ let r = out_of_flat_map f xs b there in (r.0, (suc r.1.0, omega (arith, r.1.1), r.1.2), r.2)
]

pub out_of_map : {X Y : Type 0} (f : X → Y) (xs : List X) (b : Y) → Contains (map f xs) b
    → (a : X) × Contains xs a × (f a ≡ b)
out_of_map f [] b h = absurd (omega (arith, h.1))
out_of_map f (x ∷ xs) b (zero, lt, e) = (x, (zero, omega arith, refl), e)
out_of_map f (x ∷ xs) b (suc n, lt, e) = let r =
    out_of_map f xs b (n, omega (arith, lt), e) in (r.0, (suc r.1.0, omega (arith, r.1.1), r.1.2), r.2)

pub out_of_filter : {X : Type 0} (test : X → Bool) (xs : List X) (a : X) → Contains (filter test xs) a
    → Contains xs a × (test a ≡ true)
out_of_filter test [] a h = absurd (omega (arith, h.1))
out_of_filter {X} test (x ∷ xs) a h = by (λ r. out_of_filter test xs a r) (test x) refl h
  where
    by : (Contains (filter test xs) a → Contains xs a × (test a ≡ true)) → (b : Bool) → test x ≡ b
        → Contains (cond b (x ∷ filter test xs) (filter test xs)) a → Contains (x ∷ xs) a × (test a ≡ true)
    by rest true is (zero, lt, e) = ((zero, omega arith, e), sym (ap test e) ∙ is)
    by rest true is (suc n, lt, e) = let r =
        rest (n, omega (arith, lt), e) in ((suc r.0.0, omega (arith, r.0.1), r.0.2), r.1)
    by rest false is h = let r = rest h in ((suc r.0.0, omega (arith, r.0.1), r.0.2), r.1)

-- ---- each once

-- a list has one that a test takes for x
abbrev pub HasOne : {X : Type 0} → (X → X → Bool) → List X → X → Type 0
HasOne {X} same xs x = (y : X) × Contains xs y × (same x y ≡ true)

still_has : {X : Type 0} (same : X → X → Bool) (found : List X) (x y : X) → HasOne same found y
    → HasOne same (add_new same found x) y
still_has same found x y h = by (list_any (same x) found)
  where
    by : (b : Bool) → HasOne same (cond b found (found ++ x ∷ [])) y
    by true = h
    by false = (h.0, Contains-append_left found (x ∷ []) h.0 h.1, h.2)

now_has : {X : Type 0} (same : X → X → Bool) (found : List X) (x : X) → same x x ≡ true
    → HasOne same (add_new same found x) x
now_has {X} same found x itself = by (list_any (same x) found) refl
  where
    by : (b : Bool) → list_any (same x) found ≡ b → HasOne same (cond b found (found ++ x ∷ [])) x
    by true e = let r = Any-from_list_any (same x) found e in (r.1, (r.0, r.2, r.3), r.4)
    by false e = (x, Contains-push found x, itself)

keeps_having : {X : Type 0} (same : X → X → Bool) (found xs : List X) (y : X) → HasOne same found y
    → HasOne same (fold (add_new same) found xs) y
keeps_having same found [] y h = h
keeps_having same found (x ∷ xs) y h = keeps_having same (add_new same found x) xs y (still_has same found x y h)

comes_to_have : {X : Type 0} (same : X → X → Bool) (found xs : List X) (y : X) → same y y ≡ true → Contains xs y
    → HasOne same (fold (add_new same) found xs) y
comes_to_have same found [] y itself h = absurd (omega (arith, h.1))
comes_to_have same found (x ∷ xs) y itself (zero, lt, e) =
    keeps_having same (add_new same found x) xs y
    (subst (λ z. HasOne same (add_new same found x) z) e
    (now_has same found x (subst (λ z. same z z ≡ true) (sym e) itself)))
comes_to_have same found (x ∷ xs) y itself (suc n, lt, e) =
    comes_to_have same (add_new same found x) xs y itself (n, omega (arith, lt), e)

-- the first elements have one for each element
pub in_firsts : {X : Type 0} (same : X → X → Bool) (xs : List X) (y : X) → same y y ≡ true → Contains xs y
    → HasOne same (firsts same xs) y
in_firsts same xs y itself h = comes_to_have same [] xs y itself h

-- ---- neighbours

-- what is equal for each two neighbours is for each element that of the first
pub as_first : (f : ℕ → ℤ) (xs : List ℕ) → AllByRecursion (λ (p : ℕ × ℕ). f p.0 ≡ f p.1) (neighbours xs) → (k : ℕ)
    → k < length xs → f (slice_index xs k) ≡ f (slice_index xs 0)
as_first f [] h k lt = absurd (omega arith)
as_first f (x ∷ []) h zero lt = refl
as_first f (x ∷ []) h (suc k) lt = absurd (omega arith)
as_first f (x ∷ y ∷ rest) h zero lt = refl
as_first f (x ∷ y ∷ rest) h (suc k) lt = as_first f (y ∷ rest) h.1 k (omega arith) ∙ sym h.0

-- what holds of each two elements next to one another, and of each two of one number
pub neighbours_at : {X : Type 0} (P : X × X → Type 0) (xs : List X) (d : X)
    → ((k : ℕ) → suc k < length xs → P (get_or xs k d, get_or xs (suc k) d)) → AllByRecursion P (neighbours xs)
neighbours_at P [] d h = tt
neighbours_at P (x ∷ []) d h = tt
neighbours_at P (x ∷ y ∷ rest) d h =
    (h 0 (omega arith), neighbours_at P (y ∷ rest) d (λ k lt. h (suc k) (omega (arith, lt))))

pub zip_at : {X Y : Type 0} (P : X × Y → Type 0) (xs : List X) (ys : List Y) (d : X) (e : Y)
    → ((k : ℕ) → k < length xs → k < length ys → P (get_or xs k d, get_or ys k e)) → AllByRecursion P (zip xs ys)
zip_at P [] ys d e h = tt
zip_at P (x ∷ xs) [] d e h = tt
zip_at P (x ∷ xs) (y ∷ ys) d e h =
    (h 0 (omega arith) (omega arith), zip_at P xs ys d e (λ k l m. h (suc k) (omega (arith, l)) (omega (arith, m))))
