-- Levels of a tree, as bars start.
use Rattle.std.proofs.Common.{◌≡◌, ◌≢◌, inl, inr, ℕ, ◌+◌, ◌-◌, ◌*◌, ◌/◌, ◌^◌, ◌<◌, ◌≤◌, arith, sym, subst, ap, ◌∙◌}
use Rattle.std.proofs.Common.{List, length, get_or, set, Bool, true, false, suc, suc-mul}
use Rattle.std.proofs.lemmas.{Bool.{cases_eq, cases_lt}, Nat.{div-mul-add, pow_pos}}
use Rattle.std.proofs.lemmas.List.{get_or-set_other, get_or-set_same, get_or_read, get_or_past}
use Rattle.std.proofs.Math.Nat.{pow-le-pow_right, lt-mul-div-succ, div-mul-le_self, mul_comm}
use Rattle.bar_rows.specs.{declared.bars.Bar.Bar, Rows.bar_at}
use Rattle.bar_tree.specs.declared.{node.Node.Node, node.Query.Query, tree.Level.Level}
use Rattle.bar_tree.specs.{Nodes.{Covers, Fits}, Trees.{HasStarted, KnowsOf, IsLevelOver, no_node}}

-- the places of a node
pub same_node : (p k w : ℕ) → k * w ≤ p → p < k * w + w → p / w ≡ k
same_node p k w le lt =
    let e : p ≡ k * w + (p - k * w) = omega arith in
    ap (λ (n : ℕ). n / w) e ∙ div-mul-add k w (p - k * w) (omega arith)

one_more : (k v : ℕ) → (k + 1) * v ≡ k * v + v
one_more k v = let e : k + 1 ≡ suc k = omega arith in ap (λ (n : ℕ). n * v) e ∙ suc-mul k v

-- where a node that stands for a place ends
pub node_ends : (place s w : ℕ) → w ≡ 2 ^ s → (place < (place / 2 ^ s + 1) * w)
    × ((place / 2 ^ s) * w ≤ place) × ((place / 2 ^ s + 1) * w ≤ place + w)
node_ends place s w e =
    let v : ℕ = 2 ^ s in
    let k : ℕ = place / v in
    let over : place < v * (k + 1) = lt-mul-div-succ place (pow_pos s) in
    let under : k * v ≤ place = div-mul-le_self place v in
    let turned : v * (k + 1) ≡ (k + 1) * v = mul_comm v (k + 1) in
    let more : (k + 1) * v ≡ k * v + v = one_more k v in
    rw e (omega (arith, over, turned), under, omega (arith, more, under))

-- a level that is made is not the fortieth
pub few_more : (s places : ℕ) → places < 2 ^ 32 → 2 ^ (s - 3) < places → s + 3 ≤ 37
few_more s places few lt = elim (cases_lt (s - 3) 32) [
  | inl h ↦ omega arith
  | inr h ↦ (let most : 2 ^ 32 ≤ 2 ^ (s - 3) = pow-le-pow_right {n = 2} (omega arith) h in
      absurd (omega (arith, most, few, lt)))
]

-- a place that has started, after one more has
has_started : (started : List Bool) (place p : ℕ) → HasStarted (set started place true) p → p ≢ place
    → HasStarted started p
has_started started place p h ne = sym (get_or-set_other started place p true false ne) ∙ h

-- the nodes of a level know of one bar more
pub knows_more : (bars : List Bar) (started : List Bool) (nodes : List Node) (w place k : ℕ) (n : Node)
    → place / w ≡ k → k < length nodes
    → ((b : Bar) → Covers (get_or nodes k no_node) b → Covers n b) → Covers n (bar_at bars place)
    → ((p : ℕ) → p < length bars → HasStarted started p → Covers (get_or nodes (p / w) no_node) (bar_at bars p))
    → (p : ℕ) → p < length bars → HasStarted (set started place true) p
    → Covers (get_or (set nodes k n) (p / w) no_node) (bar_at bars p)
knows_more bars started nodes w place k n at lt others one knows p among h =
    let K : Node → Type 0 = λ m. Covers m (bar_at bars p) in
    let same : (j : ℕ) → j ≡ k → Covers n (bar_at bars p) → K (get_or (set nodes k n) j no_node) = λ j e c.
    subst (λ (i : ℕ). K (get_or (set nodes k n) i no_node)) (sym e)
    (subst K (sym (get_or-set_same nodes k n no_node lt)) c) in
    elim (cases_eq p place) [
      | inl e ↦ same (p / w) (ap (λ (i : ℕ). i / w) e ∙ at) (subst (λ (i : ℕ). Covers n (bar_at bars i)) (sym e) one)
      | inr ne ↦
          (let before : K (get_or nodes (p / w) no_node) = knows p among (has_started started place p h ne) in
          elim (cases_eq (p / w) k) [
            | inl e ↦ same (p / w) e (others (bar_at bars p) (subst (λ (i : ℕ). K (get_or nodes i no_node)) e before))
            | inr other ↦ subst K (sym (get_or-set_other nodes k (p / w) n no_node other)) before
          ])
    ]

-- no bar at the places of a node fits that the node knows not to fit
pub none_fits : (bars : List Bar) (q : Query) (level : Level) (n : Node) (k place : ℕ)
    → IsLevelOver (length bars) level → n ≡ get_or level.nodes.items k n → k < length level.nodes.items
    → k * level.width ≤ place → ((b : Bar) → Covers n b → Fits q b → ⊥)
    → (started : List Bool) → KnowsOf bars started level
    → (p : ℕ) → place ≤ p → p < (k + 1) * level.width → p < length bars → HasStarted started p
    → Fits q (bar_at bars p) → ⊥
none_fits bars q level n k place over read lt at none started knows p le below among h f =
    let w : ℕ = level.width in
    let end : (k + 1) * w ≡ k * w + w = one_more k w in
    let here : p / level.width ≡ k = same_node p k level.width (omega arith) (omega (arith, end, below)) in
    let is : get_or level.nodes.items (p / level.width) no_node ≡ n =
    ap (λ (i : ℕ). get_or level.nodes.items i no_node) here ∙ sym (get_or_read level.nodes.items k n lt read no_node) in
    none (bar_at bars p) (subst (λ (m : Node). Covers m (bar_at bars p)) is (knows p among h)) f

-- a place that has started is one of the places
pub started_among : (started : List Bool) (n p : ℕ) → length started ≡ n → HasStarted started p → p < n
started_among started n p e h = elim (cases_lt p n) [
  | inl lt ↦ lt
  | inr le ↦ (let past : get_or started p false ≡ false = get_or_past started p false (omega (arith, e, le)) in
      absurd (cc (past, h)))
]

-- a test does not say both yes and no
pub not_both : (b : Bool) → b ≡ false → b ≡ true → ⊥
not_both b f t = let e : true ≡ false = sym t ∙ f in absurd (cc)
