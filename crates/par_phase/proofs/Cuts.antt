-- Lists that are divided into blocks.
use Rattle.std.proofs.Common.{inl, inr, set, ◌≡◌, ℕ, suc, ◌+◌, ◌-◌, ◌<◌, ◌≤◌, List, [], ◌∷◌, ◌++◌, length, take, drop}
use Rattle.std.proofs.{Common.{get_or, sym, ap, subst, ◌∙◌, refl, arith, rules}, Math.Seq.take-length}
use Rattle.std.proofs.lemmas.{Grind.take_at_read, List.{drop-take, take-append-drop, take-take, get_or-set_same}}
use Rattle.std.proofs.lemmas.{List.{get_or-set_other, length-set, Elements.All-append}, Bool.cases_eq}
use Rattle.std.{proofs.lemmas.Slice.Zip.all_zipped_more, specs.{List.{AllZip, All, flat_map}, Prelude.{Result, Ok}}}
use Rattle.std.specs.Prelude.{Err, IsOk, IfOk, IfSome, None, Option, Some, Vec}
use Rattle.par_phase.specs.{Answers.{answers_in, ArePutTogether}, Blocks.{block_start, block_of}}

-- ---- where blocks begin

pub start_later : (n blocks p : ℕ) → 1 ≤ blocks → block_start n blocks p ≤ block_start n blocks (p + 1)
start_later n blocks p some = search rules

start_first : (n blocks : ℕ) → 1 ≤ blocks → block_start n blocks 0 ≡ 0
start_first n blocks some = search rules

pub start_last : (n blocks : ℕ) → 1 ≤ blocks → block_start n blocks blocks ≡ n
start_last n blocks some = search rules

-- the elements from where a block begins up to where the next one does
pub between : {X : Type 0} (xs : List X) (blocks p start end : ℕ) → p < blocks
    → start ≡ block_start (length xs) blocks p → end ≡ block_start (length xs) blocks (p + 1)
    → take (end - start) (drop start xs) ≡ block_of xs blocks p
between xs blocks p start end lt is_start is_end =
    let later : start ≤ end = rw (is_start, is_end) (start_later (length xs) blocks p (omega arith)) in
    let e : start + (end - start) ≡ end = omega arith in
    sym (drop-take start (end - start) xs) ∙ (ap (λ k. drop start (take k xs)) e ∙ rw (is_start, is_end) refl)

-- ---- lists that belong together, element by element

-- one element more
pub one_more : {A B : Type 0} (R : A → B → Type 0) (xs : List A) (ys more : List B) (i : ℕ) (x : A) (y : B)
    → i < length xs → x ≡ get_or xs i x → AllZip R (take i xs) ys → R x y → more ≡ ys ++ y ∷ []
    → AllZip R (take (i + 1) xs) more
one_more R xs ys more i x y lt is so_far at are =
    let next : take (i + 1) xs ≡ take i xs ++ x ∷ [] = (take_at_read xs i x lt).1
    ∙ ap (λ (z : _). take i xs ++ z ∷ []) (sym is) in
    rw (next, are) (all_zipped_more R (take i xs) ys x y so_far at)

-- two lists after two others
all_zip_append : {A B : Type 0} (R : A → B → Type 0) (xs : List A) (ys : List B) (zs : List A) (ws : List B)
    → AllZip R xs ys → AllZip R zs ws → AllZip R (xs ++ zs) (ys ++ ws)
all_zip_append R [] [] zs ws h k = k
all_zip_append R [] (y ∷ ys) zs ws h k = absurd h
all_zip_append R (x ∷ xs) [] zs ws h k = absurd h
all_zip_append R (x ∷ xs) (y ∷ ys) zs ws h k = (h.0, all_zip_append R xs ys zs ws h.1 k)

-- ---- block after block

-- the elements before the next block are those before this one, and its own
next_block : {X : Type 0} (xs : List X) (blocks k : ℕ) → k < blocks
    → take (block_start (length xs) blocks (k + 1)) xs ≡ take (block_start (length xs) blocks k) xs
    ++ block_of xs blocks k
next_block xs blocks k lt =
    let start : ℕ = block_start (length xs) blocks k in
    let end : ℕ = block_start (length xs) blocks (k + 1) in
    let later : start ≤ end = start_later (length xs) blocks k (omega arith) in
    sym (take-append-drop start (take end xs))
    ∙ ap (λ zs. zs ++ drop start (take end xs)) (take-take start end xs later)

module _ {X U : Type 0} (R : X → U → Type 0) (xs : List X) (blocks : ℕ) where
  -- what belongs to the elements of the blocks so far
  abbrev pub BelongSoFar : ℕ → List U → Type 0
  BelongSoFar k ys = AllZip R (take (block_start (length xs) blocks k) xs) ys

  -- at first nothing
  pub belong_first : 1 ≤ blocks → BelongSoFar 0 []
  belong_first some = rw (start_first (length xs) blocks some) tt

  -- that of one block more
  pub belong_more : (k : ℕ) (ys own more : List U) → k < blocks → BelongSoFar k ys
      → AllZip R (block_of xs blocks k) own → more ≡ ys ++ own → BelongSoFar (k + 1) more
  belong_more k ys own more lt so_far fit are =
      rw (are, next_block xs blocks k lt) (all_zip_append R _ ys _ own so_far fit)

  -- and after all blocks to all elements
  pub belong_all : (k : ℕ) (ys : List U) → 1 ≤ blocks → k ≡ blocks → BelongSoFar k ys → AllZip R xs ys
  belong_all k ys some all so_far =
      let elements : take (block_start (length xs) blocks blocks) xs ≡ xs =
      ap (λ i. take i xs) (start_last (length xs) blocks some) ∙ take-length xs in
      subst (λ zs. AllZip R zs ys) elements (subst (λ i. BelongSoFar i ys) all so_far)

-- ---- what all shares have

all_in_parts : {Y A E : Type 0} (P : Y → Type 0) (parts : List (Result (Vec Y A) E))
    → ((p : ℕ) (d : Result (Vec Y A) E) → p < length parts → IfOk (get_or parts p d) (λ own. All P own.items))
    → All IsOk parts → All P (flat_map answers_in parts)
all_in_parts P [] each oks = λ k d lt. absurd (omega arith)
all_in_parts P (Ok own ∷ rest) each oks =
    All-append P own.items _ (each 0 (Ok own) (omega arith))
    (all_in_parts P rest (λ p d lt. each (suc p) d (omega arith)) (λ p d lt. oks (suc p) d (omega arith)))
all_in_parts P (Err e ∷ rest) each oks = let not_ok = oks 0 (Err e) (omega arith) in let no : ⊥ =
    grind arith in absurd no

-- what is true of all that each share has is true of all that is put together
pub all_together : {Y A E : Type 0} (P : Y → Type 0) (parts : List (Result (Vec Y A) E)) (all : List Y) (n : ℕ)
    → length parts ≡ n
    → ((p : ℕ) (d : Result (Vec Y A) E) → p < n → IfOk (get_or parts p d) (λ own. All P own.items))
    → ArePutTogether parts all → All P all
all_together P parts all n count each put =
    rw (put.1) (all_in_parts P parts (λ p d lt. each p d (omega arith)) put.0)

-- ---- places

-- nothing stands in a place yet
pub placed_none : {U A : Type 0} (P : ℕ → Vec U A → Type 0) (places : List (Option (Vec U A)))
    → All (λ place. place ≡ None) places → (k : ℕ) (d : Option (Vec U A)) → k < length places
    → IfSome (get_or places k d) (P k)
placed_none P places empty k d lt = rw (empty k d lt) tt

-- something more in its place, or a place that is empty again
pub placed_more : {U A : Type 0} (P : ℕ → Vec U A → Type 0) (places : List (Option (Vec U A))) (at : ℕ)
    (place : Option (Vec U A)) → IfSome place (P at)
    → ((k : ℕ) (d : Option (Vec U A)) → k < length places → IfSome (get_or places k d) (P k)) → (k : ℕ)
    (d : Option (Vec U A)) → k < length (set places at place) → IfSome (get_or (set places at place) k d) (P k)
placed_more P places at place own placed k d lt =
    let among : k < length places = omega (arith, length-set places at place) in elim (cases_eq k at) [
      | inl same ↦
          let e : get_or (set places at place) k d ≡ place =
          subst (λ i. get_or (set places at place) i d ≡ place) (sym same)
          (get_or-set_same places at place d (subst (λ i. i < length places) same among)) in
          subst (λ i. IfSome (get_or (set places at place) k d) (P i)) (sym same) (rw e own)
      | inr other ↦ rw (get_or-set_other places at k place d other) (placed k d among)
    ]

-- what is true of what stands in a place, of the value that is taken out of it
pub taken_out : {V : Type 0} (P : V → Type 0) (place seen : Option V) (v : V) → seen ≡ place → Some v ≡ seen
    → IfSome place P → P v
taken_out P place seen v at is h = subst (λ o. IfSome o P) (sym at ∙ sym is) h
