-- What holds of each element of lists that are made of others.
use Rattle.std.proofs.Common.{◌≡◌, ℕ, zero, suc, ◌+◌, ◌<◌, ◌≤◌, Bool, true, false, cond, List, [], ◌∷◌, ◌++◌, length}
use Rattle.std.proofs.{Common.{map, refl, sym, ap, ◌∙◌, subst, arith}, lemmas.List.Elements.{All-append, All-map}}
use Rattle.std.{proofs.lemmas.List.{Elements.{All-weaker, recursion_from_All}, Sums.sum_by-cons}, specs.Prelude.◌↔◌}
use Rattle.std.specs.List.{AllByRecursion, All, Any, flat_map, filter, fold, list_any, range_with_len, sum_by, zip}
use Rattle.list_facts.proofs.Elements.{all_append, all_flat, all_pieces, all_numbers, all_of, all_parts, all_unmap}
use Rattle.list_facts.proofs.{Elements.all_weaker, Some.{any_here, any_there}}
use Rattle.plan_model.specs.Rows.{add_new, firsts}

-- ---- facts that are two ways of saying one

pub of_images : {X Y : Type 0} (P : Y → Type 0) (f : X → Y) (xs : List X) → All P (map f xs) ↔ All (λ x. P (f x)) xs
of_images {X} P f xs =
    let F : X → Type 0 = λ x. P (f x) in
    (λ h. all_of F xs (all_unmap P f xs (recursion_from_All P (map f xs) h)), λ h. All-map P f xs h)

pub of_both : {X : Type 0} (P : X → Type 0) (xs ys : List X) → All P (xs ++ ys) ↔ (All P xs × All P ys)
of_both P xs ys = (
  λ h. let parts = all_parts P xs ys (recursion_from_All P (xs ++ ys) h) in (all_of P xs parts.0, all_of P ys parts.1),
  λ h. All-append P xs ys h.0 h.1,
)

pub of_each : {X : Type 0} (P Q : X → Type 0) (xs : List X) → ((x : X) → P x ↔ Q x) → All P xs ↔ All Q xs
of_each P Q xs same = (λ h. All-weaker P Q (λ x g. (same x).0 g) xs h, λ h. All-weaker Q P (λ x g. (same x).1 g) xs h)

-- ---- joined lists

-- pieces that are the same one by one make the same list
pub flat_same : {X Y : Type 0} (f g : X → List Y) (xs : List X) → AllByRecursion (λ x. f x ≡ g x) xs
    → flat_map f xs ≡ flat_map g xs
flat_same f g [] h = refl
flat_same f g (x ∷ xs) h = ap (λ ys. ys ++ flat_map f xs) h.0 ∙ ap (λ ys. g x ++ ys) (flat_same f g xs h.1)

-- what holds of a joined list holds of each piece, and back
pub of_pieces : {X Y : Type 0} (P : Y → Type 0) (f : X → List Y) (xs : List X)
    → All P (flat_map f xs) ↔ All (λ x. All P (f x)) xs
of_pieces {X} P f xs =
    let A : X → Type 0 = λ x. All P (f x) in
    let R : X → Type 0 = λ x. AllByRecursion P (f x) in (
      λ h. all_of A xs
          (all_weaker R A (λ x g. all_of P (f x) g) xs (all_pieces P f xs (recursion_from_All P (flat_map f xs) h))),
      λ h. all_of P (flat_map f xs)
          (all_flat P f xs (all_weaker A R (λ x g. recursion_from_All P (f x) g) xs (recursion_from_All A xs h))),
    )

numbers_from : (P : ℕ → Type 0) (a n : ℕ) → AllByRecursion P (range_with_len a n) → (k : ℕ) → k < n → P (a + k)
numbers_from P a zero h k lt = absurd (omega arith)
numbers_from P a (suc n) h zero lt = let e : a ≡ a + 0 = omega arith in subst P e h.0
numbers_from P a (suc n) h (suc k) lt = let e : (a + 1) + k ≡ a + suc k =
    omega arith in subst P e (numbers_from P (a + 1) n h.1 k (omega arith))

-- where the pieces are made of the first numbers
pub of_numbered : {Y : Type 0} (P : Y → Type 0) (f : ℕ → List Y) (n : ℕ)
    → All P (flat_map f (range_with_len 0 n)) ↔ ((k : ℕ) → k < n → All P (f k))
of_numbered P f n =
    let A : ℕ → Type 0 = λ k. All P (f k) in
    let numbers = range_with_len 0 n in (
      λ h k lt. let e : 0 + k ≡ k =
          omega arith in subst A e
          (numbers_from A 0 n (recursion_from_All A numbers ((of_pieces P f numbers).0 h)) k lt),
      λ h. (of_pieces P f numbers).1 (all_of A numbers (all_numbers A 0 n (λ k ge lt. h k (omega arith)))),
    )

-- ---- some element

pub any_map : {X Y : Type 0} (P : X → Type 0) (Q : Y → Type 0) (f : X → Y) (xs : List X) → ((x : X) → P x → Q (f x))
    → Any P xs → Any Q (map f xs)
any_map P Q f [] step h = absurd (omega (arith, h.2))
any_map P Q f (x ∷ xs) step (zero, y, lt, e, h) = any_here Q (f x) (map f xs) (step x (subst P (sym e) h))
any_map P Q f (x ∷ xs) step (suc k, y, lt, e, h) =
    any_there Q (f x) (map f xs) (any_map P Q f xs step (k, y, omega arith, e, h))

-- ---- filters, firsts and zips

all_kept_more : {X : Type 0} (Q : X → Type 0) (x : X) (rest : List X) (b : Bool) → (b ≡ true → Q x)
    → AllByRecursion Q rest → AllByRecursion Q (cond b (x ∷ rest) rest)
all_kept_more Q x rest true here h = (here refl, h)
all_kept_more Q x rest false here h = h

pub all_kept : {X : Type 0} (P Q : X → Type 0) (p : X → Bool) (xs : List X) → ((x : X) → P x → p x ≡ true → Q x)
    → AllByRecursion P xs → AllByRecursion Q (filter p xs)
all_kept P Q p [] step h = tt
all_kept P Q p (x ∷ xs) step h = all_kept_more Q x (filter p xs) (p x) (step x h.0) (all_kept P Q p xs step h.1)

all_added : {X : Type 0} (P : X → Type 0) (same : X → X → Bool) (found : List X) (x : X) (b : Bool)
    → AllByRecursion P found → P x → AllByRecursion P (cond b found (found ++ x ∷ []))
all_added P same found x true h p = h
all_added P same found x false h p = all_append P found (x ∷ []) h (p, tt)

all_folded : {X : Type 0} (P : X → Type 0) (same : X → X → Bool) (found xs : List X) → AllByRecursion P found
    → AllByRecursion P xs → AllByRecursion P (fold (add_new same) found xs)
all_folded P same found [] h g = h
all_folded P same found (x ∷ xs) h g =
    all_folded P same (add_new same found x) xs (all_added P same found x (list_any (same x) found) h g.0) g.1

pub all_firsts : {X : Type 0} (P : X → Type 0) (same : X → X → Bool) (xs : List X) → AllByRecursion P xs
    → AllByRecursion P (firsts same xs)
all_firsts P same xs h = all_folded P same [] xs tt h

pub all_zip : {X Y : Type 0} (P : X → Type 0) (Q : Y → Type 0) (xs : List X) (ys : List Y) → AllByRecursion P xs
    → AllByRecursion Q ys → AllByRecursion (λ (p : X × Y). P p.0 × Q p.1) (zip xs ys)
all_zip P Q [] ys h g = tt
all_zip P Q (x ∷ xs) [] h g = tt
all_zip P Q (x ∷ xs) (y ∷ ys) h g = ((h.0, g.0), all_zip P Q xs ys h.1 g.1)

-- ---- sums

-- where each term is at most one more than another, so is the sum, with the number of terms
pub sum_by_one_more : {X : Type 0} (f g : X → ℕ) (xs : List X) → ((x : X) → f x ≤ 1 + g x)
    → sum_by f xs ≤ length xs + sum_by g xs
sum_by_one_more f g [] each = omega arith
sum_by_one_more f g (x ∷ xs) each =
    let a : sum_by f (x ∷ xs) ≡ f x + sum_by f xs = sum_by-cons f x xs in
    let b : sum_by g (x ∷ xs) ≡ g x + sum_by g xs = sum_by-cons g x xs in
    let rest = sum_by_one_more f g xs each in
    let first = each x in
    omega arith
