-- What one look at an edge does to the labels.
use Rattle.std.proofs.Common.{◌≡◌, ◌≢◌, ℕ, ◌≤◌, ℤ, ◌+ℤ◌, ◌≤ℤ◌, ◌<ℤ◌, true, false, eqb, Option, Some, None, List, []}
use Rattle.std.proofs.{Common.{◌∷◌, inl, inr, length, refl, sym, ap, subst, ◌∙◌, arith, eq-eqb}, lemmas.Int.ints}
use Rattle.std.{proofs.lemmas.Bool.{cases_eq, cases_Bool, ne_eqb, cond-true, cond-false}, specs.Prelude.int_lt}
use Rattle.cons_graph.specs.declared.edges.Edge.{Edge}
use Rattle.round_log.specs.{declared.log.Entry.Entry, Looks.{label, latest, raise_by, raise_of}}

-- the label and the latest raise of a variable, by the newest raise
pub label-same : (r : Entry) (rs : List Entry) (v : ℕ) → r.var ≡ v → label (r ∷ rs) v ≡ Some r.value
label-same r rs v e = cond-true (eqb r.var v) (Some r.value) (label rs v) (eq-eqb r.var v e)

pub label-other : (r : Entry) (rs : List Entry) (v : ℕ) → (r.var ≡ v → ⊥) → label (r ∷ rs) v ≡ label rs v
label-other r rs v n = cond-false (eqb r.var v) (Some r.value) (label rs v) (ne_eqb r.var v n)

pub latest-same : (r : Entry) (rs : List Entry) (v : ℕ) → r.var ≡ v → latest (r ∷ rs) v ≡ length (r ∷ rs)
latest-same r rs v e = cond-true (eqb r.var v) (length (r ∷ rs)) (latest rs v) (eq-eqb r.var v e)

pub latest-other : (r : Entry) (rs : List Entry) (v : ℕ) → (r.var ≡ v → ⊥) → latest (r ∷ rs) v ≡ latest rs v
latest-other r rs v n = cond-false (eqb r.var v) (length (r ∷ rs)) (latest rs v) (ne_eqb r.var v n)

-- no variable's latest raise is beyond the log
pub latest_in_log : (rs : List Entry) (v : ℕ) → latest rs v ≤ length rs
latest_in_log [] v = omega arith
latest_in_log (r ∷ rs) v =
    elim (cases_eq r.var v) [
      | inl e ↦ rw (latest-same r rs v e) (omega arith)
      | inr n ↦
          rw (latest-other r rs v n) (omega (arith, latest_in_log rs v))
    ]

-- what a raise by an edge is, given the labels of its tail and its head
pub record IsRaiseBy (e : Edge) (k prev : ℕ) (tail_label head_label : Option ℤ) (r : Entry) : Type 0 where
  pub var_is : r.var ≡ e.to
  pub edge_is : r.edge ≡ k
  pub prev_is : r.prev ≡ prev
  pub tail : ℤ
  pub tail_is : tail_label ≡ Some tail
  pub value_is : r.value ≡ tail +ℤ e.len
  pub higher : (b : ℤ) → head_label ≡ Some b → b <ℤ r.value

-- a raise by a look at edge k
abbrev pub IsRaise : (ℕ → Edge) → List Entry → ℕ → Entry → Type 0
IsRaise edge rs k r = IsRaiseBy (edge k) k (latest rs (edge k).from) (label rs (edge k).from) (label rs (edge k).to) r

-- an edge that a look leaves alone: where its tail has a label, its head has one that is great enough
pub record IsQuietBy (e : Edge) (tail_label head_label : Option ℤ) : Type 0 where
  pub head_for : (a : ℤ) → tail_label ≡ Some a → ℤ
  pub head_is : (a : ℤ) (t : tail_label ≡ Some a) → head_label ≡ Some (head_for a t)
  pub enough : (a : ℤ) (t : tail_label ≡ Some a) → (a +ℤ e.len) ≤ℤ head_for a t

abbrev pub IsQuiet : (ℕ → Edge) → List Entry → ℕ → Type 0
IsQuiet edge rs k = IsQuietBy (edge k) (label rs (edge k).from) (label rs (edge k).to)

int_lt-true : (a b : ℤ) → int_lt a b ≡ true → a <ℤ b
int_lt-true a b h = grind (arith, ints)

int_lt-false : (a b : ℤ) → int_lt a b ≡ false → b ≤ℤ a
int_lt-false a b h = grind (arith, ints)

-- the entry of a raise by edge k, whose tail has the label a
abbrev pub made : Edge → ℕ → ℕ → ℤ → Entry
made e k prev a = record { var = e.to; value = a +ℤ e.len; edge = k; prev = prev }

IsRaiseBy-made : (e : Edge) (k prev : ℕ) (a : ℤ) (h : Option ℤ) (r : Entry) → made e k prev a ≡ r
    → ((b : ℤ) → h ≡ Some b → b <ℤ (a +ℤ e.len)) → IsRaiseBy e k prev (Some a) h r
IsRaiseBy-made e k prev a h r same higher =
    let P : Entry → Type 0 = λ x. IsRaiseBy e k prev (Some a) h x in
    subst P same
    (record {
      var_is = refl;
      edge_is = refl;
      prev_is = refl;
      tail = a;
      tail_is = refl;
      value_is = refl;
      higher = higher;
    })

raise_by-is : (e : Edge) (k prev : ℕ) (o h : Option ℤ) (r : Entry) → raise_by e k prev o h ≡ Some r
    → IsRaiseBy e k prev o h r
raise_by-is e k prev None h r q = absurd cc
raise_by-is e k prev (Some a) None r q = IsRaiseBy-made e k prev a None r (cc) (λ b n. absurd cc)
raise_by-is e k prev (Some a) (Some b) r q =
    elim (cases_Bool (int_lt b (a +ℤ e.len))) [
      | inl t ↦ IsRaiseBy-made e k prev a (Some b) r
          (let w : Some (made e k prev a) ≡ Some r = sym
          (cond-true (int_lt b (a +ℤ e.len)) (Some (made e k prev a)) None t) ∙ q in cc) (λ b' same. let s : b ≡ b' =
          cc in let P : ℤ → Type 0 = λ x. x <ℤ (a +ℤ e.len) in subst P s (int_lt-true b (a +ℤ e.len) t))
      | inr f ↦
          absurd (let w : None ≡ Some r = sym (cond-false (int_lt b (a +ℤ e.len)) (Some (made e k prev a)) None f)
          ∙ q in cc)
    ]

raise_by-quiet : (e : Edge) (k prev : ℕ) (o h : Option ℤ) → raise_by e k prev o h ≡ None → IsQuietBy e o h
raise_by-quiet e k prev None h q =
    record { head_for = λ a t. absurd cc; head_is = λ a t. absurd cc; enough = λ a t. absurd cc }
raise_by-quiet e k prev (Some a) None q = absurd cc
raise_by-quiet e k prev (Some a) (Some b) q =
    elim (cases_Bool (int_lt b (a +ℤ e.len))) [
      | inl t ↦
          absurd (let w : Some (made e k prev a) ≡ None = sym
          (cond-true (int_lt b (a +ℤ e.len)) (Some (made e k prev a)) None t) ∙ q in cc)
      | inr f ↦
          record {
            head_for = λ a' t. b;
            head_is = λ a' t. refl;
            enough = λ a' t. let s : a ≡ a' = cc in let P : ℤ
                → Type 0 = λ x. (x +ℤ e.len) ≤ℤ b in subst P s (int_lt-false b (a +ℤ e.len) f);
          }
    ]

-- a look raises, by such a raise, or leaves the log as it is
pub raise_of-is : (edge : ℕ → Edge) (rs : List Entry) (k : ℕ) (r : Entry) → raise_of edge rs k ≡ Some r
    → IsRaise edge rs k r
raise_of-is edge rs k r q = raise_by-is (edge k) k (latest rs (edge k).from) (label rs (edge k).from)
    (label rs (edge k).to) r q

pub raise_of-quiet : (edge : ℕ → Edge) (rs : List Entry) (k : ℕ) → raise_of edge rs k ≡ None → IsQuiet edge rs k
raise_of-quiet edge rs k q = raise_by-quiet (edge k) k (latest rs (edge k).from) (label rs (edge k).from)
    (label rs (edge k).to) q

-- after its own raise an edge with different ends is quiet
pub quiet_after_raise : (edge : ℕ → Edge) (rs : List Entry) (k : ℕ) (r : Entry) → (edge k).from ≢ (edge k).to
    → IsRaise edge rs k r → IsQuiet edge (r ∷ rs) k
quiet_after_raise edge rs k r ne m =
    let tail_same : label (r ∷ rs) (edge k).from ≡ label rs (edge k).from =
    label-other r rs (edge k).from (λ e. ne (sym e ∙ m.var_is)) in
    record {
      head_for = λ a t. r.value;
      head_is = λ a t. label-same r rs (edge k).to m.var_is;
      enough = λ a t. let s : m.tail ≡ a =
          (let w : Some m.tail ≡ Some a = sym m.tail_is ∙ (sym tail_same ∙ t) in cc) in let v : r.value
          ≡ m.tail +ℤ (edge k).len = m.value_is in let P : ℤ → Type 0 =
          λ x. (x +ℤ (edge k).len) ≤ℤ r.value in subst P s (omega (arith, ints));
    }

-- a raise lowers no label
pub record IsAtLeast (label_then : Option ℤ) (b : ℤ) : Type 0 where
  pub now : ℤ
  pub is : label_then ≡ Some now
  pub at_least : b ≤ℤ now

pub label_grows : (edge : ℕ → Edge) (rs : List Entry) (j : ℕ) (r : Entry) (v : ℕ) (b : ℤ) → IsRaise edge rs j r
    → label rs v ≡ Some b → IsAtLeast (label (r ∷ rs) v) b
label_grows edge rs j r v b m l =
    elim (cases_eq r.var v) [
      | inl e ↦
          record {
            now = r.value;
            is = label-same r rs v e;
            at_least = let lt : b <ℤ r.value =
                m.higher b (let P : ℕ → Type 0 = λ x. label rs x ≡ Some b in subst P (sym e ∙ m.var_is) l) in
                omega (arith, ints);
          }
      | inr n ↦ record { now = b; is = label-other r rs v n ∙ l; at_least = omega (arith, ints) }
    ]

-- a raise of another variable than its tail leaves a quiet edge quiet
pub quiet_kept : (edge : ℕ → Edge) (rs : List Entry) (k j : ℕ) (r : Entry) → r.var ≢ (edge k).from
    → IsRaise edge rs j r → IsQuiet edge rs k → IsQuiet edge (r ∷ rs) k
quiet_kept edge rs k j r ne m q =
    let tail_then : (a : ℤ) → label (r ∷ rs) (edge k).from ≡ Some a
    → label rs (edge k).from ≡ Some a = λ a t. sym (label-other r rs (edge k).from ne) ∙ t in
    let up : (a : ℤ) (t : label (r ∷ rs) (edge k).from ≡ Some a)
    → IsAtLeast (label (r ∷ rs) (edge k).to) (q.head_for a (tail_then a t)) =
    λ a t. label_grows edge rs j r (edge k).to (q.head_for a (tail_then a t)) m (q.head_is a (tail_then a t)) in
    record {
      head_for = λ a t. (up a t).now;
      head_is = λ a t. (up a t).is;
      enough = λ a t. let low : (a +ℤ (edge k).len) ≤ℤ q.head_for a (tail_then a t) =
          q.enough a (tail_then a t) in let high : q.head_for a (tail_then a t) ≤ℤ (up a t).now =
          (up a t).at_least in omega (arith, ints);
    }

-- ---- logs

-- every raise of the log is one by its edge, on the log as it was
abbrev pub IsJustified : (ℕ → Edge) → List Entry → Type 0
IsJustified edge [] = Unit {0}
IsJustified edge (r ∷ rs) = IsRaise edge rs r.edge r × IsJustified edge rs

-- ---- a raise that fits is the one that a look makes

int_lt-from : (a b : ℤ) → a <ℤ b → int_lt a b ≡ true
int_lt-from a b h = grind (arith, ints)

made_is : (e : Edge) (k prev : ℕ) (a : ℤ) (h : Option ℤ) (r : Entry) → IsRaiseBy e k prev (Some a) h r
    → made e k prev a ≡ r
made_is e k prev a h r m =
    let tail : a ≡ m.tail = (let w : Some a ≡ Some m.tail = m.tail_is in cc) in
    let value : a +ℤ e.len ≡ r.value = ap (λ x. x +ℤ e.len) tail ∙ sym m.value_is in
    λ i. record { var = sym m.var_is i; value = value i; edge = sym m.edge_is i; prev = sym m.prev_is i }

raise_by-from : (e : Edge) (k prev : ℕ) (o h : Option ℤ) (r : Entry) → IsRaiseBy e k prev o h r
    → raise_by e k prev o h ≡ Some r
raise_by-from e k prev None h r m = absurd (let w : None ≡ Some m.tail = m.tail_is in cc)
raise_by-from e k prev (Some a) None r m = ap (λ x. Some x) (made_is e k prev a None r m)
raise_by-from e k prev (Some a) (Some b) r m =
    let same : made e k prev a ≡ r = made_is e k prev a (Some b) r m in
    let P : ℤ → Type 0 = λ x. b <ℤ x in
    let lt : b <ℤ (a +ℤ e.len) = subst P (sym (ap (λ x. x.value) same)) (m.higher b refl) in
    cond-true (int_lt b (a +ℤ e.len)) (Some (made e k prev a)) None (int_lt-from b (a +ℤ e.len) lt)
    ∙ ap (λ x. Some x) same

pub raise_of-from : (edge : ℕ → Edge) (rs : List Entry) (k : ℕ) (r : Entry) → IsRaise edge rs k r
    → raise_of edge rs k ≡ Some r
raise_of-from edge rs k r m =
    raise_by-from (edge k) k (latest rs (edge k).from) (label rs (edge k).from) (label rs (edge k).to) r m
