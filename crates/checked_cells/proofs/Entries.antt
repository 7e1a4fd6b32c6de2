-- The entries of a map: looked up by the bytes of their keys, added at the end, and put in place of one with the same
-- key.
use Rattle.std.proofs.Common.{◌≡◌, ℕ, Bool, true, false, cond, is_none, IsTrue, List, [], ◌∷◌, ◌++◌, map, Option, Some}
use Rattle.std.proofs.{Common.{refl, sym, ap, ◌∙◌}, lemmas.Slice.Eq.bytes_eq-Decides}
use Rattle.std.specs.{Map.lookup, Str.bytes_eq}
use Rattle.indexmap.specs.IndexMap.{insert_entry}
use Rattle.checked_cells.specs.{declared.names.Binding.Binding, Paths.named}

-- keys and what they stand for, seen by the bytes of the keys
abbrev pub seen : {K V : Type 0} → (K → List ℕ) → List (K × V) → List (List ℕ × V)
seen bytes es = map (λ e. (bytes e.0, e.1)) es

-- what some bytes stand for
abbrev pub under : {V : Type 0} → List ℕ → List (List ℕ × V) → Option V
under name es = lookup (λ other. bytes_eq name other) es

-- a look-up by the bytes of the keys
pub lookup-seen : {K V : Type 0} (bytes : K → List ℕ) (name : List ℕ) (es : List (K × V))
    → lookup (λ k. bytes_eq name (bytes k)) es ≡ under name (seen bytes es)
lookup-seen bytes name [] = refl
lookup-seen bytes name (e ∷ es) =
    ap (λ found. cond (bytes_eq name (bytes e.0)) (Some e.1) found) (lookup-seen bytes name es)

-- a name that is found nowhere goes last
pub seen-insert_entry : {K : Type 0} (bytes : K → List ℕ) (k : K) (binding : Binding) (es : List (K × Binding))
    → IsTrue (is_none (named (seen bytes es) (bytes k)))
    → seen bytes (insert_entry (λ x y. bytes_eq (bytes x) (bytes y)) es k binding) ≡ seen bytes es
    ++ (bytes k, binding) ∷ []
seen-insert_entry bytes k binding [] none = refl
seen-insert_entry bytes k binding (e ∷ es) none =
    by_test (bytes_eq (bytes k) (bytes e.0)) (seen-insert_entry bytes k binding es) none
  where
    by_test : (b : Bool)
        → (IsTrue (is_none (named (seen bytes es) (bytes k)))
        → seen bytes (insert_entry (λ x y. bytes_eq (bytes x) (bytes y)) es k binding) ≡ seen bytes es
        ++ (bytes k, binding) ∷ [])
        → IsTrue (is_none (cond b (Some e.1) (named (seen bytes es) (bytes k))))
        → seen bytes
        (cond b ((e.0, binding) ∷ es) (e ∷ insert_entry (λ x y. bytes_eq (bytes x) (bytes y)) es k binding))
        ≡ (bytes e.0, e.1) ∷ (seen bytes es ++ (bytes k, binding) ∷ [])
    by_test true rest h = absurd cc
    by_test false rest h = ap (λ rest. (bytes e.0, e.1) ∷ rest) (rest h)

-- one key at most is the same
not_both : (name key other : List ℕ) → bytes_eq key other ≡ false → bytes_eq name key ≡ true
    → bytes_eq name other ≡ true → ⊥
not_both name key other apart is_key is_other =
    let same : bytes_eq key other ≡ true =
    (bytes_eq-Decides key other).1 (sym ((bytes_eq-Decides name key).0 is_key)
    ∙ (bytes_eq-Decides name other).0 is_other) in
    cc

swap_tests : {V : Type 0} (first second : Bool) (x y : V) (rest : Option V) → (second ≡ true → first ≡ true → ⊥)
    → cond first (Some x) (cond second (Some y) rest) ≡ cond second (Some y) (cond first (Some x) rest)
swap_tests true true x y rest never = absurd (never refl refl)
swap_tests true false x y rest never = refl
swap_tests false second x y rest never = refl

same_test : {V : Type 0} (b : Bool) (x y : V) (rest : Option V)
    → cond b (Some x) rest ≡ cond b (Some x) (cond b (Some y) rest)
same_test true x y rest = refl
same_test false x y rest = refl

-- what bytes stand for after an entry has been put in
pub under-insert_entry : {K V : Type 0} (bytes : K → List ℕ) (k : K) (v : V) (name : List ℕ) (es : List (K × V))
    → under name (seen bytes (insert_entry (λ x y. bytes_eq (bytes x) (bytes y)) es k v))
    ≡ cond (bytes_eq name (bytes k)) (Some v) (under name (seen bytes es))
under-insert_entry bytes k v name [] = refl
under-insert_entry {K = K} {V = V} bytes k v name (e ∷ es) =
    by (bytes_eq (bytes k) (bytes e.0)) refl (under-insert_entry bytes k v name es)
  where
    put : List (K × V)
    put = insert_entry (λ x y. bytes_eq (bytes x) (bytes y)) es k v

    by : (b : Bool) → bytes_eq (bytes k) (bytes e.0) ≡ b
        → under name (seen bytes put) ≡ cond (bytes_eq name (bytes k)) (Some v) (under name (seen bytes es))
        → under name (seen bytes (cond b ((e.0, v) ∷ es) (e ∷ put)))
        ≡ cond (bytes_eq name (bytes k)) (Some v)
        (cond (bytes_eq name (bytes e.0)) (Some e.1) (under name (seen bytes es)))
    by true same rest =
        let key : bytes k ≡ bytes e.0 = (bytes_eq-Decides (bytes k) (bytes e.0)).0 same in
        same_test (bytes_eq name (bytes e.0)) v e.1 (under name (seen bytes es))
        ∙ ap (λ (text : List ℕ). cond (bytes_eq name text) (Some v)
        (cond (bytes_eq name (bytes e.0)) (Some e.1) (under name (seen bytes es)))) (sym key)
    by false apart rest =
        ap (λ (found : Option V). cond (bytes_eq name (bytes e.0)) (Some e.1) found) rest
        ∙ swap_tests (bytes_eq name (bytes e.0)) (bytes_eq name (bytes k)) e.1 v (under name (seen bytes es))
        (λ is_key is_other. not_both name (bytes k) (bytes e.0) apart is_key is_other)
