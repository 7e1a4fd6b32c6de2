-- The numbers of parts by links, in order of first parts, are determined.
use Rattle.std.proofs.Common.{◌≡◌, ℕ, zero, suc, ◌+◌, ◌<◌, ◌≤◌, List, length, take, get_or, inl, inr, refl, sym, ◌∙◌}
use Rattle.std.proofs.{Common.{ap, arith, add-one}, lemmas.List.{take_all, take_more_same, get_or-take, Sums.fold_more}}
use Rattle.std.{proofs.lemmas.Bool.cases_lt, specs.Prelude.max}
use Rattle.graph_search.specs.Netting.{IsNetting, IsNumberedInOrder, next_net}

-- the next number after one more part
pub next_net_more : (nets : List ℕ) (k : ℕ) → k < length nets
    → next_net (take (k + 1) nets) ≡ max (next_net (take k nets)) (get_or nets k 0 + 1)
next_net_more nets k lt = fold_more (λ (next n : ℕ). max next (n + 1)) 0 nets k 0 lt

-- each number below the next one has been given
pub given_below : (nets : List ℕ) → IsNumberedInOrder nets → (k n : ℕ) → k ≤ length nets → n < next_net (take k nets)
    → (j : ℕ) × (j < k) × (get_or nets j 0 ≡ n)
given_below nets ordered zero n le lt = absurd (omega arith)
given_below nets ordered (suc k) n le lt =
    let s : suc k ≡ k + 1 = sym (add-one k) in
    let more : next_net (take (suc k) nets) ≡ max (next_net (take k nets)) (get_or nets k 0 + 1) =
    ap (λ (m : ℕ). next_net (take m nets)) s ∙ next_net_more nets k (omega arith) in
    let here : get_or nets k 0 ≤ next_net (take k nets) = ordered k (omega arith) in
    elim (cases_lt n (next_net (take k nets))) [
      | inl below ↦
          (let i : (j : ℕ) × (j < k) × (get_or nets j 0 ≡ n) = given_below nets ordered k n (omega arith) below in
          let l = i.1 in (i.0, omega arith, i.2))
      | inr above ↦ (k, omega arith, omega arith)
    ]

-- two lists of numbers give equal ones to the same parts
abbrev pub Agree : ℕ → List ℕ → List ℕ → Type 0
Agree count xs ys = (a b : ℕ) → a < count → b < count → get_or xs a 0 ≡ get_or xs b 0 → get_or ys a 0 ≡ get_or ys b 0

-- the number of a part that shares it with an earlier one
earlier_same : (count : ℕ) (xs ys : List ℕ) (k : ℕ) → k < count → count ≡ length xs → IsNumberedInOrder xs
    → Agree count xs ys → take k xs ≡ take k ys
    → get_or xs k 0 < next_net (take k xs) → get_or xs k 0 ≡ get_or ys k 0
earlier_same count xs ys k lt counted ordered agree same below =
    let i : (j : ℕ) × (j < k) × (get_or xs j 0 ≡ get_or xs k 0) =
    given_below xs ordered k (get_or xs k 0) (omega arith) below in
    let l = i.1 in
    sym i.2 ∙ sym (get_or-take k xs i.0 0 l) ∙ ap (λ (zs : List ℕ). get_or zs i.0 0) same ∙ get_or-take k ys i.0 0 l
    ∙ agree i.0 k (omega arith) lt i.2

-- the numbers of one more part are the same
next_same : (count : ℕ) (xs ys : List ℕ) (k : ℕ) → k < count → count ≡ length xs → count ≡ length ys
    → IsNumberedInOrder xs → IsNumberedInOrder ys
    → Agree count xs ys → Agree count ys xs → take k xs ≡ take k ys → get_or xs k 0 ≡ get_or ys k 0
next_same count xs ys k lt cx cy ox oy xy yx same =
    let e : next_net (take k xs) ≡ next_net (take k ys) = ap next_net same in
    let bx : get_or xs k 0 ≤ next_net (take k xs) = ox k (omega arith) in
    let by : get_or ys k 0 ≤ next_net (take k ys) = oy k (omega arith) in
    elim (cases_lt (get_or xs k 0) (next_net (take k xs))) [
      | inl below ↦ earlier_same count xs ys k lt cx ox xy same below
      | inr above ↦ elim (cases_lt (get_or ys k 0) (next_net (take k ys))) [
        | inl below ↦ sym (earlier_same count ys xs k lt cy oy yx (sym same) below)
        | inr above_too ↦ omega arith
      ]
    ]

-- so the numbers of the first parts are the same
prefixes_same : (count : ℕ) (xs ys : List ℕ) → count ≡ length xs → count ≡ length ys → IsNumberedInOrder xs
    → IsNumberedInOrder ys
    → Agree count xs ys → Agree count ys xs → (k : ℕ) → k ≤ count → take k xs ≡ take k ys
prefixes_same count xs ys cx cy ox oy xy yx zero le = refl
prefixes_same count xs ys cx cy ox oy xy yx (suc k) le =
    let s : suc k ≡ k + 1 = sym (add-one k) in
    let before : take k xs ≡ take k ys = prefixes_same count xs ys cx cy ox oy xy yx k (omega arith) in
    ap (λ (m : ℕ). take m xs) s
    ∙ take_more_same xs ys k 0 (omega arith) (omega arith) before
    (next_same count xs ys k (omega arith) cx cy ox oy xy yx before)
    ∙ sym (ap (λ (m : ℕ). take m ys) s)

-- numbers in order of first parts that are equal for the same parts are the same
pub agreeing_same : (count : ℕ) (xs ys : List ℕ) → length xs ≡ count → length ys ≡ count → IsNumberedInOrder xs
    → IsNumberedInOrder ys → Agree count xs ys → Agree count ys xs → xs ≡ ys
agreeing_same count xs ys cx cy ox oy xy yx =
    sym (take_all count xs (omega arith)) ∙ prefixes_same count xs ys (sym cx) (sym cy) ox oy xy yx count (omega arith)
    ∙ take_all count ys (omega arith)

-- the numbers of parts by links, in order of first parts, are determined
pub numbers_same : (count : ℕ) (links : List (ℕ × ℕ)) (xs ys : List ℕ) → IsNetting count links xs
    → IsNumberedInOrder xs → IsNetting count links ys → IsNumberedInOrder ys → xs ≡ ys
numbers_same count links xs ys nx ox ny oy =
    agreeing_same count xs ys nx.counted ny.counted ox oy (λ a b la lb e. ny.same a b la lb (nx.joined a b la lb e))
    (λ a b la lb e. nx.same a b la lb (ny.joined a b la lb e))
