-- The numbers of parts where two nodes of one part each come in among the nodes of a cell.
use Rattle.std.proofs.Common.{◌≡◌, ℕ, zero, suc, ◌+◌, ◌-◌, ◌<◌, ◌≤◌, Bool, true, false, List, [], ◌∷◌, ◌++◌, length}
use Rattle.std.proofs.{Common.{map, take, inl, inr, refl, sym, ap, ◌∙◌, arith}, lemmas.List.{length-append, length-map}}
use Rattle.std.proofs.lemmas.List.{get_or_append_left, get_or-append_right, take-append-le, take-map, take-take}
use Rattle.std.proofs.lemmas.List.{take_at, get_or_at, get_or-map, Sums.{sum_by-append, sum_by-cons, sum_by_more}}
use Rattle.std.proofs.lemmas.{List.Sums.{sum_by_more_le, sum_by-take-le}, Bool.{cases_lt, cases_eq, cond_below}}
use Rattle.std.{proofs.lemmas.Bool.{cond_above, Decides.nat_tests}, specs.Prelude.{nat_lt, nat_le, if◌then◌else◌}}
use Rattle.rule_table.specs.declared.classes.Layer.{Layer, TheVariants.{Diffusion, Poly, Metal}}
use Rattle.cell_model.specs.declared.cell.{NodeKind.{NodeKind, TheVariants.{Joint, Contact, Buried, Fet}}, Node.Node}
use Rattle.cell_model.specs.{Sound.{node_at, no_node}, Nets.{kind_parts, node_parts, first_part, joined_part}}
use Rattle.jog_insert.specs.Bends.{Bend}
use Rattle.jog_nets.{specs.Parts.node_after, proofs.Turned.moved_node}

-- ---- nodes

-- the nodes of a cell, all moved, and two more after the first of them
pub record AreInserted (bend : Bend) (prefix back : List Node) (lower upper : Node) (old new : List Node) : Type 0 where
  pub old_nodes : old ≡ prefix ++ back
  pub new_nodes : new ≡ map (moved_node bend) prefix ++ lower ∷ upper ∷ map (moved_node bend) back
  pub one_lower : kind_parts lower.kind ≡ 1
  pub one_upper : kind_parts upper.kind ≡ 1

pub length_new : (bend : Bend) (prefix back : List Node) (lower upper : Node)
    → length (map (moved_node bend) prefix ++ lower ∷ upper ∷ map (moved_node bend) back)
    ≡ length prefix + 2 + length back
length_new bend prefix back lower upper =
    omega (
      arith,
      length-append (map (moved_node bend) prefix) (lower ∷ upper ∷ map (moved_node bend) back),
      length-map prefix (moved_node bend),
      length-map back (moved_node bend),
    )

-- a node of the prefix
node_in_prefix : (bend : Bend) (prefix back : List Node) (lower upper : Node) (i : ℕ) → i < length prefix
    → node_at (map (moved_node bend) prefix ++ lower ∷ upper ∷ map (moved_node bend) back) i
    ≡ moved_node bend (node_at (prefix ++ back) i)
node_in_prefix bend prefix back lower upper i lt =
    get_or_append_left (map (moved_node bend) prefix) (lower ∷ upper ∷ map (moved_node bend) back) no_node i
    (omega (arith, lt, length-map prefix (moved_node bend)))
    ∙ get_or-map (moved_node bend) prefix i no_node no_node lt
    ∙ ap (moved_node bend) (sym (get_or_append_left prefix back no_node i lt))

-- a node after it
node_in_back : (bend : Bend) (prefix back : List Node) (lower upper : Node) (i : ℕ) → length prefix ≤ i
    → i < length prefix + length back
    → node_at (map (moved_node bend) prefix ++ lower ∷ upper ∷ map (moved_node bend) back) (i + 2)
    ≡ moved_node bend (node_at (prefix ++ back) i)
node_in_back bend prefix back lower upper i le lt =
    let n : ℕ = i - length prefix in
    let there : (i + 2) - length prefix ≡ suc (suc n) = omega arith in
    get_or-append_right (map (moved_node bend) prefix) (lower ∷ upper ∷ map (moved_node bend) back) (length prefix)
    (i + 2) no_node (length-map prefix (moved_node bend)) (omega arith)
    ∙ ap (node_at (lower ∷ upper ∷ map (moved_node bend) back)) there
    ∙ get_or-map (moved_node bend) back n no_node no_node (omega arith)
    ∙ ap (moved_node bend) (sym (get_or-append_right prefix back (length prefix) i no_node refl le))

-- each node is there
pub node_moved : (bend : Bend) (prefix back : List Node) (lower upper : Node) (old new : List Node)
    → AreInserted bend prefix back lower upper old new → (i : ℕ) → i < length old
    → (node_after (length prefix) i < length new)
    × (node_at new (node_after (length prefix) i) ≡ moved_node bend (node_at old i))
node_moved bend prefix back lower upper old new are i lt =
    let length_old : length old ≡ length prefix + length back = ap length are.old_nodes ∙ length-append prefix back in
    let size_new : length new ≡ length prefix + 2 + length back = ap length are.new_nodes
    ∙ length_new bend prefix back lower upper in
    elim (cases_lt i (length prefix)) [
      | inl less ↦
          let at : node_after (length prefix) i ≡ i = sym (cond_below i (length prefix) i (i + 2) less) in (
            omega (arith, at, less, size_new),
            ap (node_at new) at ∙ ap (λ (nodes : List Node). node_at nodes i) are.new_nodes
                ∙ node_in_prefix bend prefix back lower upper i less
                ∙ ap (λ (nodes : List Node). moved_node bend (node_at nodes i)) (sym are.old_nodes),
          )
      | inr more ↦
          let at : node_after (length prefix) i ≡ i + 2 =
          sym (cond_above i (length prefix) i (i + 2) (i + 2) more refl) in (
            omega (arith, at, more, size_new, lt, length_old),
            ap (node_at new) at ∙ ap (λ (nodes : List Node). node_at nodes (i + 2)) are.new_nodes
                ∙ node_in_back bend prefix back lower upper i more (omega (arith, lt, length_old))
                ∙ ap (λ (nodes : List Node). moved_node bend (node_at nodes i)) (sym are.old_nodes),
          )
    ]

-- ---- parts

node_parts_moved : (bend : Bend) (nodes : List Node) → node_parts (map (moved_node bend) nodes) ≡ node_parts nodes
node_parts_moved bend [] = refl
node_parts_moved bend (node ∷ nodes) =
    sum_by-cons (λ (n : Node). kind_parts n.kind) (moved_node bend node) (map (moved_node bend) nodes)
    ∙ ap (λ n. kind_parts node.kind + n) (node_parts_moved bend nodes)
    ∙ sym (sum_by-cons (λ (n : Node). kind_parts n.kind) node nodes)

-- where the parts of the nodes end, there are two more
pub node_parts_inserted : (bend : Bend) (prefix back : List Node) (lower upper : Node) (old new : List Node)
    → AreInserted bend prefix back lower upper old new → node_parts new ≡ node_parts old + 2
node_parts_inserted bend prefix back lower upper old new are =
    let parts : Node → ℕ = λ n. kind_parts n.kind in
    let rest : List Node = map (moved_node bend) back in
    let whole : node_parts new ≡ node_parts (map (moved_node bend) prefix) + node_parts (lower ∷ upper ∷ rest) =
    ap node_parts are.new_nodes ∙ sum_by-append parts (map (moved_node bend) prefix) (lower ∷ upper ∷ rest) in
    omega (
      arith,
      whole,
      node_parts_moved bend prefix,
      node_parts_moved bend back,
      sum_by-cons parts lower (upper ∷ rest),
      sum_by-cons parts upper rest,
      are.one_lower,
      are.one_upper,
      ap node_parts are.old_nodes,
      sum_by-append parts prefix back,
    )

-- the parts before those of the two nodes
pub parts_before : (bend : Bend) (prefix back : List Node) (lower upper : Node) (old new : List Node)
    → AreInserted bend prefix back lower upper old new
    → (first_part old (length prefix) ≡ node_parts prefix) × (first_part new (length prefix) ≡ node_parts prefix)
    × (first_part new (length prefix + 1) ≡ node_parts prefix + 1)
parts_before bend prefix back lower upper old new are =
    let n : ℕ = length prefix in
    let rest : List Node = lower ∷ upper ∷ map (moved_node bend) back in
    let taken : take n new ≡ map (moved_node bend) prefix = ap (take n) are.new_nodes
    ∙ take_at (map (moved_node bend) prefix) rest n (length-map prefix (moved_node bend)) in
    let here : node_at new n ≡ lower =
    ap (λ (nodes : List Node). node_at nodes n) are.new_nodes
    ∙ get_or_at (map (moved_node bend) prefix) lower (upper ∷ map (moved_node bend) back) no_node n
    (length-map prefix (moved_node bend)) in
    let first : first_part new n ≡ node_parts prefix = ap node_parts taken ∙ node_parts_moved bend prefix in
    let within : n < length new = omega (arith, ap length are.new_nodes, length_new bend prefix back lower upper) in (
      ap node_parts (ap (take n) are.old_nodes ∙ take_at prefix back n refl),
      first,
      sum_by_more (λ (node : Node). kind_parts node.kind) new n no_node within
          ∙ omega (arith, first, ap (λ (node : Node). kind_parts node.kind) here, are.one_lower),
    )

-- the parts before those of a node of the prefix
parts_in_prefix : (bend : Bend) (prefix back : List Node) (lower upper : Node) (i : ℕ) → i ≤ length prefix
    → first_part (map (moved_node bend) prefix ++ lower ∷ upper ∷ map (moved_node bend) back) i
    ≡ first_part (prefix ++ back) i
parts_in_prefix bend prefix back lower upper i le =
    ap node_parts
    (take-append-le i (map (moved_node bend) prefix) (lower ∷ upper ∷ map (moved_node bend) back)
    (omega (arith, le, length-map prefix (moved_node bend))) ∙ take-map (moved_node bend) i prefix)
    ∙ node_parts_moved bend (take i prefix) ∙ ap node_parts (sym (take-append-le i prefix back le))

-- and of one after it
parts_in_back : (bend : Bend) (prefix back : List Node) (lower upper : Node) (i : ℕ) → kind_parts lower.kind ≡ 1
    → kind_parts upper.kind ≡ 1 → length prefix ≤ i
    → first_part (map (moved_node bend) prefix ++ lower ∷ upper ∷ map (moved_node bend) back) (suc (suc i))
    ≡ first_part (prefix ++ back) i + 2
parts_in_back bend [] back lower upper i one_lower one_upper le =
    let parts : Node → ℕ = λ n. kind_parts n.kind in
    let rest : List Node = take i (map (moved_node bend) back) in
    let same : node_parts rest ≡ node_parts (take i back) = ap node_parts (take-map (moved_node bend) i back)
    ∙ node_parts_moved bend (take i back) in
    omega (arith, sum_by-cons parts lower (upper ∷ rest), sum_by-cons parts upper rest, one_lower, one_upper, same)
parts_in_back bend (node ∷ prefix) back lower upper zero one_lower one_upper le = absurd (omega (arith, le))
parts_in_back bend (node ∷ prefix) back lower upper (suc i) one_lower one_upper le =
    let parts : Node → ℕ = λ n. kind_parts n.kind in
    let rest : first_part (map (moved_node bend) prefix ++ lower ∷ upper ∷ map (moved_node bend) back) (suc (suc i))
    ≡ first_part (prefix ++ back) i + 2 =
    parts_in_back bend prefix back lower upper i one_lower one_upper (omega (arith, le)) in
    omega (
      arith,
      rest,
      sum_by-cons parts (moved_node bend node)
          (take (suc (suc i)) (map (moved_node bend) prefix ++ lower ∷ upper ∷ map (moved_node bend) back)),
      sum_by-cons
          parts node (take i (prefix ++ back)),
    )

-- parts before fewer nodes are fewer
first_part_le : (nodes : List Node) (i j : ℕ) → i ≤ j → first_part nodes i ≤ first_part nodes j
first_part_le nodes i j le =
    let parts : Node → ℕ = λ n. kind_parts n.kind in
    omega (arith, sum_by-take-le parts (take j nodes) i, ap node_parts (take-take i j nodes le))

-- ---- the new numbers

-- The number of a part after two have come in at a first place, and one after n parts and k wires has become three
abbrev pub moved_number : ℕ → ℕ → ℕ → ℕ → ℕ
moved_number first n k p = if nat_lt p first then p else (if nat_le p (n + k) then p + 2 else p + 4)

-- and the number before, where all that is new stands for the one
abbrev pub number_back : ℕ → ℕ → ℕ → ℕ → ℕ
number_back first n k p =
    if nat_lt p first then p
    else (if nat_lt p (first + 2) then n + k
    else (if nat_lt p (n + k + 2) then p - 2 else (if nat_lt p (n + k + 5) then n + k else p - 4)))

pub moved_below : (first n k p : ℕ) → p < first → moved_number first n k p ≡ p
moved_below first n k p lt = grind (arith, nat_tests)

pub moved_between : (first n k p : ℕ) → first ≤ p → p ≤ n + k → moved_number first n k p ≡ p + 2
moved_between first n k p le few = grind (arith, nat_tests)

pub moved_above : (first n k p : ℕ) → first ≤ n → n + k < p → moved_number first n k p ≡ p + 4
moved_above first n k p le lt = grind (arith, nat_tests)

pub back_below : (first n k p : ℕ) → p < first → number_back first n k p ≡ p
back_below first n k p lt = grind (arith, nat_tests)

pub back_joints : (first n k p : ℕ) → first ≤ p → p < first + 2 → number_back first n k p ≡ n + k
back_joints first n k p le lt = grind (arith, nat_tests)

pub back_between : (first n k p : ℕ) → first + 2 ≤ p → p < n + k + 2 → number_back first n k p ≡ p - 2
back_between first n k p le lt = grind (arith, nat_tests)

pub back_wires : (first n k p : ℕ) → first ≤ n → n + k + 2 ≤ p → p < n + k + 5 → number_back first n k p ≡ n + k
back_wires first n k p few le lt = grind (arith, nat_tests)

pub back_above : (first n k p : ℕ) → first ≤ n → n + k + 5 ≤ p → number_back first n k p ≡ p - 4
back_above first n k p few le = grind (arith, nat_tests)

-- a number comes back
pub number_returns : (first n k p : ℕ) → first ≤ n → number_back first n k (moved_number first n k p) ≡ p
number_returns first n k p few = elim (cases_lt p first) [
  | inl lt ↦ ap (number_back first n k) (moved_below first n k p lt) ∙ back_below first n k p lt
  | inr le ↦ elim (cases_lt (n + k) p) [
    | inl lt ↦ ap (number_back first n k) (moved_above first n k p few lt)
        ∙ back_above first n k (p + 4) few (omega arith) ∙ omega arith
    | inr few_p ↦ ap (number_back first n k) (moved_between first n k p le few_p) ∙ elim (cases_eq p (n + k)) [
      | inl same ↦ back_wires first n k (p + 2) few (omega arith) (omega arith) ∙ sym same
      | inr other ↦ back_between first n k (p + 2) (omega arith) (omega arith) ∙ omega arith
    ]
  ]
]

-- each part of a node
pub part_moved : (bend : Bend) (prefix back : List Node) (lower upper : Node) (old new : List Node)
    → AreInserted bend prefix back lower upper old new → (k i d : ℕ) → i < length old
    → d < kind_parts (node_at old i).kind
    → first_part new (node_after (length prefix) i) + d ≡ moved_number (first_part old (length prefix))
    (node_parts old) k (first_part old i + d)
part_moved bend prefix back lower upper old new are k i d lt less =
    let parts : Node → ℕ = λ n. kind_parts n.kind in
    let n : ℕ = length prefix in
    let next : first_part old (i + 1) ≡ first_part old i + kind_parts (node_at old i).kind =
    sum_by_more parts old i no_node lt in
    let all : first_part old i + kind_parts (node_at old i).kind ≤ node_parts old =
    sum_by_more_le parts old i no_node lt in
    elim (cases_lt i n) [
      | inl prefix_i ↦
          let at : node_after n i ≡ i = sym (cond_below i n i (i + 2) prefix_i) in
          let same : first_part new (node_after n i) ≡ first_part old i =
          ap (first_part new) at ∙ ap (λ (nodes : List Node). first_part nodes i) are.new_nodes
          ∙ parts_in_prefix bend prefix back lower upper i (omega arith)
          ∙ ap (λ (nodes : List Node). first_part nodes i) (sym are.old_nodes) in
          let below : first_part old i + d < first_part old n =
          omega (arith, next, less, first_part_le old (i + 1) n (omega arith)) in
          omega (arith, same, moved_below (first_part old n) (node_parts old) k (first_part old i + d) below)
      | inr back_i ↦
          let at : node_after n i ≡ suc (suc i) = sym (cond_above i n i (i + 2) (i + 2) back_i refl) ∙ omega arith in
          let same : first_part new (node_after n i) ≡ first_part old i + 2 =
          ap (first_part new) at ∙ ap (λ (nodes : List Node). first_part nodes (suc (suc i))) are.new_nodes
          ∙ parts_in_back bend prefix back lower upper i are.one_lower are.one_upper back_i
          ∙ ap (λ (nodes : List Node). first_part nodes i + 2) (sym are.old_nodes) in
          let above : first_part old n ≤ first_part old i = first_part_le old n i back_i in
          omega (
            arith,
            same,
            moved_between (first_part old n) (node_parts old) k (first_part old i + d)
                (omega (arith, above)) (omega (arith, all, less)),
          )
    ]

-- which part a wire joins, of those of a node
pub joined_within : (kind : NodeKind) (layer : Layer) (is_low : Bool) → joined_part kind layer is_low < kind_parts kind
joined_within (Joint own width) layer is_low = omega arith
joined_within (Contact lower) layer is_low = omega arith
joined_within Buried layer is_low = omega arith
joined_within (Fet depletion gate w l) Diffusion true = omega arith
joined_within (Fet depletion gate w l) Diffusion false = omega arith
joined_within (Fet depletion gate w l) Poly is_low = omega arith
joined_within (Fet depletion gate w l) Metal is_low = omega arith
