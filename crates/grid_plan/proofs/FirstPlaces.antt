-- The elements of a list, each at its first place alone, and a table of pairs.
use Rattle.std.proofs.Common.{◌≡◌, ℕ, zero, suc, ◌+◌, ◌*◌, ◌<◌, ◌==◌, Bool, true, false, ◌||◌, cond, List, [], ◌∷◌}
use Rattle.std.{proofs.{Common.{◌++◌, get_or, replicate, refl, ap, sym, ◌∙◌}, Math.Bool.and_comm}, specs.List.list_any}
use Rattle.plan_model.specs.Rows.{add_new, is_pair, is_pair_either_way}

-- ---- an element that is there already, and one that is not

pub there_before : {A : Type 0} (same : A → A → Bool) (found : List A) (x : A) → list_any (same x) found ≡ true
    → add_new same found x ≡ found
there_before same found x e = ap (λ there. cond there found (found ++ x ∷ [])) e

pub there_anew : {A : Type 0} (same : A → A → Bool) (found : List A) (x : A) → list_any (same x) found ≡ false
    → add_new same found x ≡ found ++ x ∷ []
there_anew same found x e = ap (λ there. cond there found (found ++ x ∷ [])) e

-- ---- pairs either way

or_swap : (a b c d : Bool) → ((a || b) || (c || d)) ≡ ((a || c) || (b || d))
or_swap true b c d = refl
or_swap false true true d = refl
or_swap false true false d = refl
or_swap false false c d = refl

pub either_way : (p : ℕ × ℕ) (found : List (ℕ × ℕ))
    → list_any (is_pair_either_way p) found ≡ (list_any (is_pair p) found || list_any (is_pair (p.1, p.0)) found)
either_way p [] = refl
either_way p (q ∷ found) =
    ap (λ b. is_pair_either_way p q || b) (either_way p found)
    ∙ ap (λ b. (is_pair p q || b) || (list_any (is_pair p) found || list_any (is_pair (p.1, p.0)) found))
    (and_comm (p.0 == q.1) (p.1 == q.0))
    ∙ or_swap (is_pair p q) (is_pair (p.1, p.0) q) (list_any (is_pair p) found) (list_any (is_pair (p.1, p.0)) found)

-- ---- a table of pairs

abbrev pub Told : List Bool → List (ℕ × ℕ) → Type 0
Told there pairs = (a b : ℕ) → a < 256 → b < 256 → get_or there (a * 256 + b) false ≡ list_any (is_pair (a, b)) pairs

-- an empty one
all_false : (n k : ℕ) → get_or (replicate n false) k false ≡ false
all_false zero k = refl
all_false (suc n) zero = refl
all_false (suc n) (suc k) = all_false n k

pub none_told : (there : List Bool) (pairs : List (ℕ × ℕ)) → there ≡ replicate 65536 false → pairs ≡ []
    → Told there pairs
none_told there pairs e none = λ a b la lb.
    ap (λ ts. get_or ts (a * 256 + b) false) e ∙ all_false 65536 (a * 256 + b)
    ∙ ap (list_any (is_pair (a, b))) (sym none)

-- where none is true, whatever follows from one
pub none_true : (there : List Bool) (k : ℕ) (P : Type 0) → there ≡ replicate 65536 false → get_or there k false ≡ true
    → P
none_true there k P e is = let no : get_or there k false ≡ false = ap (λ ts. get_or ts k false) e
    ∙ all_false 65536 k in cc
