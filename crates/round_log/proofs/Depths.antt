-- How many backward raises a chain has: at least as many as the rounds so far, at most as many as there are backward
-- edges.
use Rattle.std.proofs.Common.{◌≡◌, ℕ, suc, ◌≤◌, ℤ, ◌+ℤ◌, ◌≤ℤ◌, ◌<ℤ◌, Bool, true, cond, Some, List, [], ◌∷◌, ◌++◌, ◌⊎◌}
use Rattle.std.proofs.Common.{inl, inr, length, refl, sym, ap, subst, ◌∙◌, arith, append_assoc}
use Rattle.std.proofs.lemmas.{Int.ints, Bool.{cases_eq, cond-true, cond_both}}
use Rattle.cons_graph.specs.declared.edges.Edge.{Edge}
use Rattle.round_log.specs.{declared.log.Entry.Entry, Looks.{label, chain}}
use Rattle.round_log.proofs.{Raises.{IsRaise, IsQuiet, IsAtLeast, IsJustified, label_grows, label-other}, Chains.trace}
use Rattle.round_log.proofs.Chains.{trace-same, trace-other}

-- the variables that backward edges raised, along a chain
abbrev pub heads : (ℕ → Bool) → List Entry → List ℕ
heads back [] = []
heads back (r ∷ rs) = cond (back r.edge) (r.var ∷ heads back rs) (heads back rs)

-- how many backward raises a chain has
abbrev pub depth : (ℕ → Bool) → List Entry → ℕ
depth back cs = length (heads back cs)

-- the depth of a new raise on a log
abbrev pub depth_of : (ℕ → Bool) → List Entry → Entry → ℕ
depth_of back rs r = depth back (r ∷ chain rs r.prev)

pub depth_grows : (back : ℕ → Bool) (rs : List Entry) (r : Entry) → depth back (chain rs r.prev) ≤ depth_of back rs r
depth_grows back rs r = cond_both (back r.edge) (r.var ∷ heads back (chain rs r.prev)) (heads back (chain rs r.prev))
    (λ x. depth back (chain rs r.prev) ≤ length x) (λ e. omega arith) (λ e. omega arith)

pub depth_back : (back : ℕ → Bool) (rs : List Entry) (r : Entry) → back r.edge ≡ true
    → depth_of back rs r ≡ suc (depth back (chain rs r.prev))
depth_back back rs r e =
    ap length (cond-true (back r.edge) (r.var ∷ heads back (chain rs r.prev)) (heads back (chain rs r.prev)) e)

-- ---- what a log has grown by

-- each raise of `new`, on `old` and the raises before it, has a depth of at least d
abbrev pub IsDeep : (ℕ → Bool) → ℕ → List Entry → List Entry → Type 0
IsDeep back d old [] = Unit {0}
IsDeep back d old (r ∷ new) = (d ≤ depth_of back (new ++ old) r) × IsDeep back d old new

-- a log that has grown from another by raises of that depth
pub record Extends (back : ℕ → Bool) (d : ℕ) (old rs : List Entry) : Type 0 where
  pub new : List Entry
  pub split : rs ≡ new ++ old
  pub deep : IsDeep back d old new

pub extends_none : (back : ℕ → Bool) (d : ℕ) (rs : List Entry) → Extends back d rs rs
extends_none back d rs = record { new = []; split = refl; deep = tt }

pub extends_one : (back : ℕ → Bool) (d : ℕ) (old rs : List Entry) (r : Entry) → Extends back d old rs
    → d ≤ depth_of back rs r → Extends back d old (r ∷ rs)
extends_one back d old rs r x h =
    let P : List Entry → Type 0 = λ s. d ≤ depth_of back s r in
    record { new = r ∷ x.new; split = ap (λ s. r ∷ s) x.split; deep = (subst P x.split h, x.deep) }

IsDeep-append : (back : ℕ → Bool) (d : ℕ) (old new more : List Entry) → IsDeep back d old new
    → IsDeep back d (new ++ old) more → IsDeep back d old (more ++ new)
IsDeep-append back d old new [] h k = h
IsDeep-append back d old new (r ∷ more) h k =
    let P : List Entry → Type 0 = λ s. d ≤ depth_of back s r in
    (subst P (sym (append_assoc more new old)) k.0, IsDeep-append back d old new more h k.1)

pub extends_trans : (back : ℕ → Bool) (d : ℕ) (a b c : List Entry) → Extends back d a b → Extends back d b c
    → Extends back d a c
extends_trans back d a b c x y =
    let P : List Entry → Type 0 = λ s. IsDeep back d s y.new in
    record {
      new = y.new ++ x.new;
      split = y.split ∙ ap (λ s. y.new ++ s) x.split
          ∙ sym (append_assoc y.new x.new a);
      deep =
          IsDeep-append back d a x.new y.new x.deep (subst P x.split y.deep);
    }

IsDeep-weaker : (back : ℕ → Bool) (d e : ℕ) (old new : List Entry) → d ≤ e → IsDeep back e old new
    → IsDeep back d old new
IsDeep-weaker back d e old [] le h = tt
IsDeep-weaker back d e old (r ∷ new) le h = (let k = h.0 in omega (arith, k), IsDeep-weaker back d e old new le h.1)

pub extends_weaker : (back : ℕ → Bool) (d e : ℕ) (a b : List Entry) → d ≤ e → Extends back e a b → Extends back d a b
extends_weaker back d e a b le x =
    record { new = x.new; split = x.split; deep = IsDeep-weaker back d e a x.new le x.deep }

-- ---- edges that were quiet, and the log since

-- edge k was quiet at some moment, and since then the log has grown by raises of depth d at least
pub record WasQuiet (edge : ℕ → Edge) (back : ℕ → Bool) (d : ℕ) (rs : List Entry) (k : ℕ) : Type 0 where
  pub then : List Entry
  pub quiet : IsQuiet edge then k
  pub since : Extends back d then rs

-- what a round may rest on: nothing in the first one
abbrev pub Since : (ℕ → Edge) → (ℕ → Bool) → ℕ → List Entry → ℕ → Type 0
Since edge back d rs k = (d ≡ 0) ⊎ WasQuiet edge back d rs k

pub since_later : (edge : ℕ → Edge) (back : ℕ → Bool) (d : ℕ) (a b : List Entry) (k : ℕ) → Extends back d a b
    → Since edge back d a k → Since edge back d b k
since_later edge back d a b k x s =
    elim s as (λ _. Since edge back d b k) [
      | inl z ↦ inl z
      | inr w ↦
          inr (record { then = w.then; quiet = w.quiet; since = extends_trans back d w.then a b w.since x })
    ]

-- a variable's label is as it was, or its latest raise is one of the new ones, so deep
changed : (back : ℕ → Bool) (d : ℕ) (old new : List Entry) (v : ℕ) → IsDeep back d old new
    → (label (new ++ old) v ≡ label old v) ⊎ (d ≤ depth back (trace (new ++ old) v))
changed back d old [] v h = inl refl
changed back d old (r ∷ new) v h =
    elim (cases_eq r.var v) [
      | inl e ↦
          inr (let P : List Entry
          → Type 0 = λ cs. d ≤ depth back cs in subst P (sym (trace-same r (new ++ old) v e)) h.0)
      | inr n ↦ elim (changed back d old new v h.1)
          as (λ _. (label (r ∷ (new ++ old)) v ≡ label old v) ⊎ (d ≤ depth back (trace (r ∷ (new ++ old)) v))) [
            | inl same ↦ inl (label-other r (new ++ old) v n ∙ same)
            | inr deep ↦
                inr (let P : List Entry
                → Type 0 = λ cs. d ≤ depth back cs in subst P (sym (trace-other r (new ++ old) v n)) deep)
          ]
    ]

-- labels only rise
pub label_over : (edge : ℕ → Edge) (old new : List Entry) (v : ℕ) (b : ℤ) → IsJustified edge (new ++ old)
    → label old v ≡ Some b → IsAtLeast (label (new ++ old) v) b
label_over edge old [] v b j l = record { now = b; is = l; at_least = omega (arith, ints) }
label_over edge old (r ∷ new) v b j l =
    let before : IsAtLeast (label (new ++ old) v) b = label_over edge old new v b j.1 l in
    let after : IsAtLeast (label (r ∷ (new ++ old)) v) before.now =
    label_grows edge (new ++ old) r.edge r v before.now j.0 before.is in
    record {
      now = after.now;
      is = after.is;
      at_least = let p : b ≤ℤ before.now = before.at_least in let q : before.now ≤ℤ after.now =
          after.at_least in omega (arith, ints);
    }

-- an edge raises only because its tail was raised since it was quiet, so its chain is deep
carried_over : (edge : ℕ → Edge) (back : ℕ → Bool) (d : ℕ) (old new : List Entry) (k : ℕ) (r : Entry)
    → IsJustified edge (new ++ old) → IsDeep back d old new → IsQuiet edge old k → IsRaise edge (new ++ old) k r
    → d ≤ depth back (trace (new ++ old) (edge k).from)
carried_over edge back d old new k r j h q m =
    elim (changed back d old new (edge k).from h) as (λ _. d ≤ depth back (trace (new ++ old) (edge k).from)) [
      | inl same ↦ absurd (
          let t : label old (edge k).from ≡ Some m.tail = sym same ∙ m.tail_is in
          let up : IsAtLeast (label (new ++ old) (edge k).to) (q.head_for m.tail t) =
          label_over edge old new (edge k).to (q.head_for m.tail t) j (q.head_is m.tail t) in
          let enough : (m.tail +ℤ (edge k).len) ≤ℤ q.head_for m.tail t = q.enough m.tail t in
          let le : q.head_for m.tail t ≤ℤ up.now = up.at_least in
          let lt : up.now <ℤ r.value = m.higher up.now up.is in
          let v : r.value ≡ m.tail +ℤ (edge k).len = m.value_is in
          omega (arith, ints))
      | inr deep ↦ deep
    ]

pub carried : (edge : ℕ → Edge) (back : ℕ → Bool) (d : ℕ) (rs : List Entry) (k : ℕ) (r : Entry) → IsJustified edge rs
    → Since edge back d rs k → IsRaise edge rs k r → d ≤ depth back (chain rs r.prev)
carried edge back d rs k r j s m =
    let P : List Entry → Type 0 = λ cs. d ≤ depth back cs in
    elim s as (λ _. d ≤ depth back (chain rs r.prev)) [
      | inl z ↦ omega arith
      | inr w ↦
          let x = w.since in
          let J : List Entry → Type 0 = λ s. IsJustified edge s in
          let M : List Entry → Type 0 = λ s. IsRaise edge s k r in
          let T : List Entry → Type 0 = λ s. d ≤ depth back (trace s (edge k).from) in
          subst P (sym (ap (chain rs) m.prev_is))
          (subst T (sym x.split)
          (carried_over edge back d w.then x.new k r (subst J x.split j) x.deep w.quiet (subst M x.split m)))
    ]
