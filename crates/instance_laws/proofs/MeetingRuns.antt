-- Where the items of one owner stand in a list of items: in one run.
use Rattle.std.proofs.Common.{◌≡◌, ◌≢◌, ℕ, zero, suc, ◌+◌, ◌<◌, ◌≤◌, ◌-◌, Bool, true, false, List, [], ◌∷◌, ◌++◌}
use Rattle.std.proofs.Common.{length, cond, refl, sym, ap, ◌∙◌, subst, arith, inl, inr, ◌⊎◌, length-append}
use Rattle.std.proofs.lemmas.{Bool.cases_lt, List.{get_or_append_left, get_or-append-add, get_or-append_right}}
use Rattle.std.specs.List.{AllByRecursion, flat_map, range_with_len}
use Rattle.rule_table.specs.declared.classes.Class.{Class, TheVariants.{M, P, Dc, Dm, C, I, G, B}}
use Rattle.sym_items.specs.declared.items.Item.{Item}
use Rattle.pair_rules.specs.Bound.{no_item, item_at}
use Rattle.list_facts.proofs.Elements.{all_at, all_flat, all_numbers}

-- ---- runs

-- an item is of this owner, or of another
abbrev pub HasOwner : ℕ → Item → Type 0
HasOwner owner i = i.owner ≡ owner

abbrev pub HasNot : ℕ → Item → Type 0
HasNot owner i = i.owner ≢ owner

-- a block of items of one owner stands in a list from some place on, and no other item of the list has this owner
pub record IsRun (list block : List Item) (owner : ℕ) : Type 0 where
  pub first : ℕ
  pub within : first + length block ≤ length list
  pub at : (j : ℕ) → j < length block → item_at list (first + j) ≡ item_at block j
  pub only : (n : ℕ) → n < length list → (item_at list n).owner ≡ owner → (j : ℕ) × (j < length block) × (n ≡ first + j)
  pub owned : AllByRecursion (HasOwner owner) block

run_whole : (block : List Item) (owner : ℕ) → AllByRecursion (HasOwner owner) block → IsRun block block owner
run_whole block owner all =
    record {
      owned = all;
      first = 0;
      within = omega arith;
      at = λ j lt.
          ap (item_at block) (let e : 0 + j ≡ j = omega arith in e);
      only = λ n lt e. (n, lt, omega arith);
    }

run_left : (xs ys block : List Item) (owner : ℕ) → IsRun xs block owner → AllByRecursion (HasNot owner) ys
    → IsRun (xs ++ ys) block owner
run_left xs ys block owner run none =
    let long = length-append xs ys in
    let within = run.within in
    record {
      owned = run.owned;
      first = run.first;
      within = omega (arith, long, within);
      at = λ j lt. get_or_append_left xs ys no_item (run.first + j) (omega (arith, within, lt)) ∙ run.at j lt;
      only = λ n lt e. elim (cases_lt n (length xs)) [
        | inl here ↦ run.only n here (ap (λ (i : Item). i.owner) (sym (get_or_append_left xs ys no_item n here)) ∙ e)
        | inr there ↦
            let at : item_at (xs ++ ys) n ≡ item_at ys (n - length xs) =
            get_or-append_right xs ys (length xs) n no_item refl there in
            absurd (all_at (HasNot owner) ys no_item (n - length xs) none (omega (arith, lt, long, there))
            (ap (λ (i : Item). i.owner) (sym at) ∙ e))
      ];
    }

run_right : (xs ys block : List Item) (owner : ℕ) → IsRun ys block owner → AllByRecursion (HasNot owner) xs
    → IsRun (xs ++ ys) block owner
run_right xs ys block owner run none =
    let long = length-append xs ys in
    let within = run.within in
    record {
      owned = run.owned;
      first = length xs + run.first;
      within = omega (arith, long, within);
      at = λ j lt. (
          let e : (length xs + run.first) + j ≡ length xs + (run.first + j) = omega arith in
          ap (item_at (xs ++ ys)) e ∙ (get_or-append-add xs ys (run.first + j) no_item ∙ run.at j lt)
          );
      only = λ n lt e. elim (cases_lt n (length xs)) [
        | inl here ↦
            absurd (all_at (HasNot owner) xs no_item n none here
            (ap (λ (i : Item). i.owner) (sym (get_or_append_left xs ys no_item n here)) ∙ e))
        | inr there ↦
            let at : item_at (xs ++ ys) n ≡ item_at ys (n - length xs) =
            get_or-append_right xs ys (length xs) n no_item refl there in
            let found = run.only (n - length xs) (omega (arith, lt, long, there))
            (ap (λ (i : Item). i.owner) (sym at) ∙ e) in
            let is = found.2 in
            (found.0, found.1, omega (arith, is, there))
      ];
    }

-- items of another owner
others : (a b : ℕ) (is : List Item) → a ≢ b → AllByRecursion (HasOwner a) is → AllByRecursion (HasNot b) is
others a b [] ne h = tt
others a b (i ∷ is) ne h = (λ e. ne (sym h.0 ∙ e), others a b is ne h.1)

-- in a list joined of blocks of numbered owners
none_of : (f : ℕ → List Item) (o a n owner : ℕ) → ((k : ℕ) → AllByRecursion (HasOwner (o + k)) (f k))
    → ((k : ℕ) → a ≤ k → k < a + n → o + k ≢ owner) → AllByRecursion (HasNot owner) (flat_map f (range_with_len a n))
none_of f o a n owner of ne =
    all_flat (HasNot owner) f (range_with_len a n)
    (all_numbers (λ k. AllByRecursion (HasNot owner) (f k)) a n
    (λ k le lt. others (o + k) owner (f k) (ne k le lt) (of k)))

run_blocks : (f : ℕ → List Item) (o a n k : ℕ) → ((k : ℕ) → AllByRecursion (HasOwner (o + k)) (f k)) → a ≤ k
    → k < a + n → IsRun (flat_map f (range_with_len a n)) (f k) (o + k)
run_blocks f o a zero k of le lt = absurd (omega arith)
run_blocks f o a (suc n) k of le lt = elim (cases_lt a k) [
  | inl more ↦ run_right (f a) (flat_map f (range_with_len (a + 1) n)) (f k) (o + k)
      (run_blocks f o (a + 1) n k of (omega arith) (omega arith))
      (others (o + a) (o + k) (f a) (λ e. omega (arith, e, more)) (of a))
  | inr less ↦
      let here : IsRun (f a ++ flat_map f (range_with_len (a + 1) n)) (f a) (o + a) =
      run_left (f a) (flat_map f (range_with_len (a + 1) n)) (f a) (o + a) (run_whole (f a) (o + a) (of a))
      (none_of f o (a + 1) n (o + a) of (λ l ge lo e. omega (arith, ge, e))) in
      let same : a ≡ k = omega arith in
      subst (λ (l : ℕ). IsRun (f a ++ flat_map f (range_with_len (a + 1) n)) (f l) (o + l)) same here
]

-- two joined lists, owners of the second numbered after those of the first
-- owners numbered from 0 on
from_zero : (f : ℕ → List Item) → ((k : ℕ) → AllByRecursion (HasOwner k) (f k)) → (k : ℕ)
    → AllByRecursion (HasOwner (0 + k)) (f k)
from_zero f of k =
    let same : k ≡ 0 + k = omega arith in
    subst (λ (n : ℕ). AllByRecursion (HasOwner n) (f k)) same (of k)

pub run_first : (f g : ℕ → List Item) (n w k : ℕ) → ((k : ℕ) → AllByRecursion (HasOwner k) (f k))
    → ((k : ℕ) → AllByRecursion (HasOwner (n + k)) (g k)) → k < n
    → IsRun (flat_map f (range_with_len 0 n) ++ flat_map g (range_with_len 0 w)) (f k) k
run_first f g n w k of_f of_g lt =
    let same : 0 + k ≡ k = omega arith in
    let own = subst (IsRun (flat_map f (range_with_len 0 n)) (f k)) same
    (run_blocks f 0 0 n k (from_zero f of_f) (omega arith) (omega (arith, lt))) in
    run_left (flat_map f (range_with_len 0 n)) (flat_map g (range_with_len 0 w)) (f k) k own
    (none_of g n 0 w k of_g (λ l ge lo e. omega (arith, e, lt)))

pub run_second : (f g : ℕ → List Item) (n w k : ℕ) → ((k : ℕ) → AllByRecursion (HasOwner k) (f k))
    → ((k : ℕ) → AllByRecursion (HasOwner (n + k)) (g k)) → k < w
    → IsRun (flat_map f (range_with_len 0 n) ++ flat_map g (range_with_len 0 w)) (g k) (n + k)
run_second f g n w k of_f of_g lt =
    run_right (flat_map f (range_with_len 0 n)) (flat_map g (range_with_len 0 w)) (g k) (n + k)
    (run_blocks g n 0 w k of_g (omega arith) (omega (arith, lt)))
    (none_of f 0 0 n (n + k) (from_zero f of_f) (λ l ge lo e. omega (arith, e, lo)))

-- ---- places of a class in a block

abbrev pub is_class : Class → Class → Bool
is_class M M = true
is_class P P = true
is_class Dc Dc = true
is_class Dm Dm = true
is_class C C = true
is_class I I = true
is_class G G = true
is_class B B = true
is_class _ _ = false

class_itself : (c : Class) → is_class c c ≡ true
class_itself M = refl
class_itself P = refl
class_itself Dc = refl
class_itself Dm = refl
class_itself C = refl
class_itself I = refl
class_itself G = refl
class_itself B = refl

-- the places, numbered from k on, of the items of a class
abbrev pub places : Class → ℕ → List Item → List ℕ
places c k [] = []
places c k (i ∷ is) = cond (is_class i.class c) (k ∷ places c (suc k) is) (places c (suc k) is)

abbrev pub IsIn : ℕ → List ℕ → Type 0
IsIn n [] = ⊥
IsIn n (k ∷ ks) = (n ≡ k) ⊎ IsIn n ks

more_in : (b : Bool) (n k : ℕ) (ks : List ℕ) → IsIn n ks → IsIn n (cond b (k ∷ ks) ks)
more_in true n k ks h = inr h
more_in false n k ks h = h

first_in : (b : Bool) (n k : ℕ) (ks : List ℕ) → b ≡ true → n ≡ k → IsIn n (cond b (k ∷ ks) ks)
first_in true n k ks e h = inl h
first_in false n k ks e h = absurd cc

found_from : (c : Class) (k : ℕ) (is : List Item) (j : ℕ) → j < length is → (item_at is j).class ≡ c
    → IsIn (k + j) (places c k is)
found_from c k [] j lt e = absurd (omega arith)
found_from c k (i ∷ is) zero lt e =
    first_in (is_class i.class c) (k + 0) k (places c (suc k) is) (ap (λ z. is_class z c) e ∙ class_itself c)
    (omega arith)
found_from c k (i ∷ is) (suc j) lt e =
    let more = found_from c (suc k) is j (omega arith) e in
    let same : suc k + j ≡ k + suc j = omega arith in
    more_in (is_class i.class c) (k + suc j) k (places c (suc k) is)
    (subst (λ n. IsIn n (places c (suc k) is)) same more)

-- an item of a class stands at one of its places
pub found : (c : Class) (is : List Item) (j : ℕ) → j < length is → (item_at is j).class ≡ c → IsIn j (places c 0 is)
found c is j lt e =
    let same : 0 + j ≡ j = omega arith in
    subst (λ n. IsIn n (places c 0 is)) same (found_from c 0 is j lt e)

-- there is one at most
abbrev pub IsSingle : List ℕ → Type 0
IsSingle [] = Unit {0}
IsSingle (k ∷ []) = Unit {0}
IsSingle (k ∷ l ∷ ks) = ⊥

pub single : (ks : List ℕ) (m n : ℕ) → IsSingle ks → IsIn m ks → IsIn n ks → m ≡ n
single [] m n h a b = absurd a
single (k ∷ []) m n h (inl a) (inl b) = a ∙ sym b
single (k ∷ []) m n h (inr a) b = absurd a
single (k ∷ []) m n h a (inr b) = absurd b
single (k ∷ l ∷ ks) m n h a b = absurd h
