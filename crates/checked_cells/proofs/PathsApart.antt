-- The names of nodes are paths into their cell, and stay apart with more names; a single name has no dot.
use Rattle.std.proofs.Common.{◌≡◌, ℕ, ◌+◌, ◌<◌, ◌≤◌, ◌==◌, Bool, true, false, cond, List, [], ◌∷◌, ◌++◌, length, map}
use Rattle.std.proofs.Common.{get_or, Option, Some, None, is_none, refl, sym, ap, subst, ◌∙◌, inl, inr, arith}
use Rattle.std.proofs.lemmas.List.{length-append, length-map, get_or_append_left, get_or-append_right, get_or-map}
use Rattle.std.proofs.lemmas.{List.{append_cancel_left, Splits.{slice_split_none, slice_split_at}}, Bool.cases_lt}
use Rattle.std.{proofs.lemmas.Slice.Eq.bytes_eq-Decides, specs.Prelude.{IsTrue, ◌&&◌, ◌⊎◌, ◌-◌, nat_le, bytes_eq}}
use Rattle.std.specs.{List.{AllByRecursion, list_all}, Char.is_ascii_alphabetic}
use Rattle.list_facts.proofs.Elements.{all_of}
use Rattle.stick_lex.specs.Tokens.{is_name_byte, names}
use Rattle.stick_text.specs.Writable.{IsName}
use Rattle.cell_model.specs.{declared.cell.Node.Node, Sound.{node_at, no_node}}
use Rattle.checked_cells.specs.{declared.names.Binding.Binding, CheckedCell.{prefixed, copied_node}, Paths.Names}
use Rattle.checked_cells.specs.{Paths.{named, first_of, first_name}, Checks.is_fresh, Built.ArePathsApart}
use Rattle.checked_cells.proofs.Accepted.{both, eq_from_test}

-- ---- an element of one list after another

-- element k is one of the first list's, or of the second's
abbrev pub IsOfFirst : {X : Type 0} → List X → List X → X → ℕ → Type 0
IsOfFirst xs ys d k = (k < length xs) × (get_or (xs ++ ys) k d ≡ get_or xs k d)

abbrev pub IsOfSecond : {X : Type 0} → List X → List X → X → ℕ → Type 0
IsOfSecond xs ys d k = (i : ℕ) × (i < length ys) × (k ≡ length xs + i) × (get_or (xs ++ ys) k d ≡ get_or ys i d)

pub of_either : {X : Type 0} (xs ys : List X) (d : X) (k : ℕ) → k < length (xs ++ ys)
    → IsOfFirst xs ys d k ⊎ IsOfSecond xs ys d k
of_either {X = X} xs ys d k lt = by (cases_lt k (length xs))
  where
    by : (k < length xs) ⊎ (length xs ≤ k) → IsOfFirst xs ys d k ⊎ IsOfSecond xs ys d k
    by (inl before) = inl (before, get_or_append_left xs ys d k before)
    by (inr after) =
        inr (
          k - length xs,
          omega (arith, lt, after, length-append xs ys),
          omega (arith, after),
          get_or-append_right
              xs ys (length xs) k d refl after,
        )

-- ---- single names

-- a byte that passes a test that a dot fails is no dot
no_dot : (test : ℕ → Bool) (b : ℕ) → (IsTrue (test 46) → ⊥) → IsTrue (test b) → (b == 46) ≡ false
no_dot test b fails h = by (b == 46) refl
  where
    by : (t : Bool) → (b == 46) ≡ t → t ≡ false
    by false is = refl
    by true is = absurd (fails (subst (λ (n : ℕ). IsTrue (test n)) (eq_from_test b 46 is) h))

name_byte_fails : IsTrue (is_name_byte 46) → ⊥
name_byte_fails h = cc

alphabetic_fails : IsTrue (is_ascii_alphabetic 46) → ⊥
alphabetic_fails h = cc

no_dots : (bs : List ℕ) → IsTrue (list_all is_name_byte bs) → AllByRecursion (λ b. (b == 46) ≡ false) bs
no_dots [] h = tt
no_dots (b ∷ bs) h =
    let parts : IsTrue (is_name_byte b) × IsTrue (list_all is_name_byte bs) =
    both (is_name_byte b) (list_all is_name_byte bs) h in
    (no_dot is_name_byte b name_byte_fails parts.0, no_dots bs parts.1)

dotless : (name : List ℕ) → IsName name → AllByRecursion (λ b. (b == 46) ≡ false) name
dotless [] h = tt
dotless (b ∷ bs) h =
    let parts : IsTrue (is_ascii_alphabetic b) × IsTrue (nat_le (length bs) 31 && list_all is_name_byte bs) =
    both (is_ascii_alphabetic b) (nat_le (length bs) 31 && list_all is_name_byte bs) h in (
      no_dot is_ascii_alphabetic b alphabetic_fails parts.0,
      no_dots bs
          (both (nat_le (length bs) 31) (list_all is_name_byte bs) parts.1).1,
    )

-- a single name is its own first name
pub names_single : (name : List ℕ) → IsName name → names name ≡ name ∷ []
names_single name is = slice_split_none (λ b. b == 46) name (all_of (λ b. (b == 46) ≡ false) name (dotless name is))

-- and the first of the names after which others stand
pub names_prefixed : (name rest : List ℕ) → IsName name → names (prefixed name rest) ≡ name ∷ names rest
names_prefixed name rest is =
    slice_split_at (λ b. b == 46) name 46 rest (all_of (λ b. (b == 46) ≡ false) name (dotless name is)) refl

pub first_single : (name : List ℕ) → IsName name → first_name name ≡ name
first_single name is = ap first_of (names_single name is)

pub first_prefixed : (name rest : List ℕ) → IsName name → first_name (prefixed name rest) ≡ name
first_prefixed name rest is = ap first_of (names_prefixed name rest is)

-- the rests of two paths after one name
pub rest_same : (name a b : List ℕ) → prefixed name a ≡ prefixed name b → a ≡ b
rest_same name a b e = tail_same a b (append_cancel_left name (46 ∷ a) (46 ∷ b) e)
  where
    tail_same : (a b : List ℕ) → ◌≡◌ {A = List ℕ} (46 ∷ a) (46 ∷ b) → a ≡ b
    tail_same a b e = cc

-- ---- one more name

pub none_from : (o : Option Binding) → IsTrue (is_none o) → o ≡ None
none_from None h = refl
none_from (Some binding) h = absurd cc

-- a name stands for the same
pub named_more : (table more : Names) (name : List ℕ) (binding : Binding) → named table name ≡ Some binding
    → named (table ++ more) name ≡ Some binding
named_more [] more name binding is = absurd cc
named_more (entry ∷ table) more name binding is = by (bytes_eq name entry.0) (named_more table more name binding) is
  where
    by : (b : Bool) → (named table name ≡ Some binding → named (table ++ more) name ≡ Some binding)
        → cond b (Some entry.1) (named table name) ≡ Some binding
        → cond b (Some entry.1) (named (table ++ more) name) ≡ Some binding
    by true rest is = is
    by false rest is = rest is

-- another name stands for the same, or still for nothing
pub named_other : (table : Names) (name : List ℕ) (binding : Binding) (other : List ℕ) → bytes_eq other name ≡ false
    → named (table ++ (name, binding) ∷ []) other ≡ named table other
named_other [] name binding other apart = ap (λ b. cond b (Some binding) None) apart
named_other (entry ∷ table) name binding other apart =
    ap (λ rest. cond (bytes_eq other entry.0) (Some entry.1) rest) (named_other table name binding other apart)

-- the new name stands for its thing
pub named_new : (table : Names) (name : List ℕ) (binding : Binding) → named table name ≡ None
    → named (table ++ (name, binding) ∷ []) name ≡ Some binding
named_new [] name binding none = ap (λ b. cond b (Some binding) None) ((bytes_eq-Decides name name).1 refl)
named_new (entry ∷ table) name binding none = by (bytes_eq name entry.0) (named_new table name binding) none
  where
    by : (b : Bool) → (named table name ≡ None → named (table ++ (name, binding) ∷ []) name ≡ Some binding)
        → cond b (Some entry.1) (named table name) ≡ None
        → cond b (Some entry.1) (named (table ++ (name, binding) ∷ []) name) ≡ Some binding
    by true rest none = absurd cc
    by false rest none = rest none

-- ---- the names of nodes

-- no nodes
pub apart_none : ArePathsApart [] []
apart_none = record { known = λ k lt. absurd (omega arith); apart = λ j k lj lk e. absurd (omega arith) }

-- one more name, which is no node's
pub apart_named : (table more : Names) (nodes : List Node) → ArePathsApart table nodes
    → ArePathsApart (table ++ more) nodes
apart_named table more nodes are =
    record {
      known = λ k lt. let is = are.known k lt in
          (is.0, named_more table more (first_name (node_at nodes k).name) is.0 is.1);
      apart = are.apart;
    }

-- one more name, of all new nodes
pub apart_added : (table : Names) (name : List ℕ) (binding : Binding) (nodes more : List Node)
    → IsTrue (is_fresh table name) → ArePathsApart table nodes
    → ((k : ℕ) → k < length more → first_name (node_at more k).name ≡ name)
    → ((j k : ℕ) → j < length more → k < length more → (node_at more j).name ≡ (node_at more k).name → j ≡ k)
    → ArePathsApart (table ++ (name, binding) ∷ []) (nodes ++ more)
apart_added table name binding nodes more fresh are first apart = record {
  known = λ k lt. known_at_either k (of_either nodes more no_node k lt);
  apart = λ j k lj lk e. apart_at_either j k e (of_either nodes more no_node j lj) (of_either nodes more no_node k lk);
}
  where
    name_at : ℕ → List ℕ
    name_at k = (node_at (nodes ++ more) k).name

    known_at_either : (k : ℕ) → IsOfFirst nodes more no_node k ⊎ IsOfSecond nodes more no_node k
        → (found : Binding) × (named (table ++ (name, binding) ∷ []) (first_name (name_at k)) ≡ Some found)
    known_at_either k (inl (before, same)) =
        let is = are.known k before in (
          is.0,
          ap (λ (node : Node). named (table ++ (name, binding) ∷ []) (first_name node.name)) same
              ∙ named_more table ((name, binding) ∷ []) (first_name (node_at nodes k).name) is.0 is.1,
        )
    known_at_either k (inr (i, lt, at, same)) = (
      binding,
      ap (λ (node : Node). named (table ++ (name, binding) ∷ []) (first_name node.name)) same
          ∙ ap (named (table ++ (name, binding) ∷ [])) (first i lt)
          ∙ named_new table name binding (none_from (named table name) fresh),
    )

    -- no old node has a name that begins with the new one
    other : (j : ℕ) → j < length nodes → first_name (node_at nodes j).name ≡ name → ⊥
    other j lt e =
        let is = are.known j lt in
        let both_ways : None ≡ Some is.0 = sym (none_from (named table name) fresh) ∙ ap (named table) (sym e) ∙ is.1 in
        cc

    apart_at_either : (j k : ℕ) → name_at j ≡ name_at k → IsOfFirst nodes more no_node j
        ⊎ IsOfSecond nodes more no_node j → IsOfFirst nodes more no_node k ⊎ IsOfSecond nodes more no_node k → j ≡ k
    apart_at_either j k e (inl (lj, at_j)) (inl (lk, at_k)) =
        are.apart j k lj lk (ap (λ (node : Node). node.name) (sym at_j) ∙ e ∙ ap (λ (node : Node). node.name) at_k)
    apart_at_either j k e (inl (lj, at_j)) (inr (i, lk, is_k, at_k)) =
        absurd (other j lj (ap (λ (node : Node). first_name node.name) (sym at_j) ∙ ap first_name e
        ∙ ap (λ (node : Node). first_name node.name) at_k ∙ first i lk))
    apart_at_either j k e (inr (i, lj, is_j, at_j)) (inl (lk, at_k)) =
        absurd (other k lk (ap (λ (node : Node). first_name node.name) (sym at_k) ∙ ap first_name (sym e)
        ∙ ap (λ (node : Node). first_name node.name) at_j ∙ first i lj))
    apart_at_either j k e (inr (i, lj, is_j, at_j)) (inr (l, lk, is_k, at_k)) =
        let same : i ≡ l =
        apart i l lj lk (ap (λ (node : Node). node.name) (sym at_j) ∙ e ∙ ap (λ (node : Node). node.name) at_k) in
        omega (arith, is_j, is_k, same)

-- a new node
pub apart_node : (table : Names) (name : List ℕ) (binding : Binding) (nodes : List Node) (node : Node) → IsName name
    → IsTrue (is_fresh table name) → node.name ≡ name → ArePathsApart table nodes
    → ArePathsApart (table ++ (name, binding) ∷ []) (nodes ++ node ∷ [])
apart_node table name binding nodes node is fresh of_node are =
    apart_added table name binding nodes (node ∷ []) fresh are first (λ j k lj lk e. omega arith)
  where
    first : (k : ℕ) → k < length (node ∷ []) → first_name (node_at (node ∷ []) k).name ≡ name
    first k lt =
        let zeroth : k ≡ 0 = omega arith in
        ap (λ (n : ℕ). first_name (node_at (node ∷ []) n).name) zeroth ∙ ap first_name of_node ∙ first_single name is

-- the nodes of a copy
pub apart_copied : (table : Names) (name : List ℕ) (binding : Binding) (nodes used : List Node) (others : Names)
    (col row : ℕ) → IsName name → IsTrue (is_fresh table name) → ArePathsApart table nodes
    → ArePathsApart others used
    → ArePathsApart (table ++ (name, binding) ∷ []) (nodes ++ map (copied_node name col row) used)
apart_copied table name binding nodes used others col row is fresh are of_used =
    apart_added table name binding nodes (map (copied_node name col row) used) fresh are first apart
  where
    within : (k : ℕ) → k < length (map (copied_node name col row) used) → k < length used
    within k lt = omega (arith, lt, length-map used (copied_node name col row))

    at : (k : ℕ) → k < length used → node_at (map (copied_node name col row) used) k
        ≡ copied_node name col row (node_at used k)
    at k lt = get_or-map (copied_node name col row) used k no_node no_node lt

    first : (k : ℕ) → k < length (map (copied_node name col row) used)
        → first_name (node_at (map (copied_node name col row) used) k).name ≡ name
    first k lt = ap (λ (node : Node). first_name node.name) (at k (within k lt))
        ∙ first_prefixed name (node_at used k).name is

    apart : (j k : ℕ) → j < length (map (copied_node name col row) used)
        → k < length (map (copied_node name col row) used)
        → (node_at (map (copied_node name col row) used) j).name
        ≡ (node_at (map (copied_node name col row) used) k).name → j ≡ k
    apart j k lj lk e =
        of_used.apart j k (within j lj) (within k lk) (rest_same name (node_at used j).name (node_at used k).name
        (ap (λ (node : Node). node.name) (sym (at j (within j lj))) ∙ e
        ∙ ap (λ (node : Node). node.name) (at k (within k lk))))
