-- The two parts of a round: what they leave quiet, how deep they raise, and where they stop.
use Rattle.std.proofs.Common.{◌≡◌, ◌≢◌, ℕ, suc, ◌<◌, ◌≤◌, Bool, true, false, eqb, List, [], ◌∷◌, ◌⊎◌, inl, inr, length}
use Rattle.std.proofs.{Common.{refl, sym, ap, subst, ◌∙◌, arith, fold}, lemmas.Bool.{cases_eq, ne_eqb, eqb-false}}
use Rattle.std.proofs.lemmas.Bool.{cond-true, cond-false, cases_Bool, cond_both, true≢false}
use Rattle.cons_graph.specs.declared.edges.Edge.{Edge}
use Rattle.round_log.specs.{declared.log.Entry.Entry, Looks.{chain, comes_back, raise_of, with_raise, look}}
use Rattle.round_log.specs.Rounds.{Progress, after_look, backward_part}
use Rattle.round_log.proofs.Raises.{IsRaise, IsQuiet, IsJustified, quiet_after_raise, quiet_kept, raise_of-is}
use Rattle.round_log.proofs.{Raises.raise_of-quiet, Chains.{In, In-chain, chain-newest}, Members.cases_option}
use Rattle.round_log.proofs.{Members.{list_any-false, IsDistinct, length_of_distinct}, Depths.{heads, depth, depth_of}}
use Rattle.round_log.proofs.Depths.{depth_grows, depth_back, Extends, extends_none, extends_one, extends_trans}
use Rattle.round_log.proofs.Depths.{extends_weaker, WasQuiet, Since, since_later, carried}

-- what each raise of a log that has not stopped is: one by its edge, which is among the m edges, and no backward edge
-- has raised a variable that stands earlier in the raise's own chain
pub record IsGoodRaise (edge : ℕ → Edge) (back : ℕ → Bool) (m : ℕ) (rs : List Entry) (r : Entry) : Type 0 where
  pub raise : IsRaise edge rs r.edge r
  pub among : r.edge < m
  pub fresh : back r.edge ≡ true → comes_back rs r ≡ false

abbrev pub IsLog : (ℕ → Edge) → (ℕ → Bool) → ℕ → List Entry → Type 0
IsLog edge back m [] = Unit {0}
IsLog edge back m (r ∷ rs) = IsGoodRaise edge back m rs r × IsLog edge back m rs

pub log_justified : (edge : ℕ → Edge) (back : ℕ → Bool) (m : ℕ) (rs : List Entry) → IsLog edge back m rs
    → IsJustified edge rs
log_justified edge back m [] h = tt
log_justified edge back m (r ∷ rs) h = (h.0.raise, log_justified edge back m rs h.1)

-- the raise that a look makes, as a raise by its own edge
raise_by_own : (edge : ℕ → Edge) (rs : List Entry) (k : ℕ) (r : Entry) → IsRaise edge rs k r → IsRaise edge rs r.edge r
raise_by_own edge rs k r i = let P : ℕ → Type 0 = λ x. IsRaise edge rs x r in subst P (sym i.edge_is) i

-- ---- the forward part

pub record IsForwardEdge (edge : ℕ → Edge) (back : ℕ → Bool) (m k : ℕ) : Type 0 where
  pub among : k < m
  pub forward : back k ≡ false
  pub ends_differ : (edge k).from ≢ (edge k).to

-- no later edge of the list leads into the tail of an earlier one
abbrev pub IsInOrder : (ℕ → Edge) → List ℕ → Type 0
IsInOrder edge [] = Unit {0}
IsInOrder edge (k ∷ ks) = ((j : ℕ) → In j ks → (edge j).to ≢ (edge k).from) × IsInOrder edge ks

pub record Keeps (edge : ℕ → Edge) (back : ℕ → Bool) (m d : ℕ) (old rs : List Entry) : Type 0 where
  pub log : IsLog edge back m rs
  pub extends : Extends back d old rs

forward_look : (edge : ℕ → Edge) (back : ℕ → Bool) (m d : ℕ) (rs : List Entry) (k : ℕ) → IsForwardEdge edge back m k
    → IsLog edge back m rs → Since edge back d rs k → Keeps edge back m d rs (look edge rs k)
forward_look edge back m d rs k f l s =
    let P : List Entry → Type 0 = λ x. Keeps edge back m d rs x in
    elim (cases_option (raise_of edge rs k)) [
      | inl n ↦ subst P (sym (ap (λ o. with_raise o rs) n)) (record { log = l; extends = extends_none back d rs })
      | inr w ↦
          let r : Entry = w.0 in
          let i : IsRaise edge rs k r = raise_of-is edge rs k r w.1 in
          let deep : d ≤ depth back (chain rs r.prev) =
          carried edge back d rs k r (log_justified edge back m rs l) s i in
          let grown : depth back (chain rs r.prev) ≤ depth_of back rs r = depth_grows back rs r in
          let e : r.edge ≡ k = i.edge_is in
          subst P (sym (ap (λ o. with_raise o rs) w.1)) (record {
            log = (
              record {
                raise = raise_by_own edge rs k r i;
                among = (let a : k < m = f.among in omega arith);
                fresh = λ b. absurd (true≢false (sym b ∙ ap back e ∙ f.forward));
              },
              l,
            );
            extends = extends_one back d rs rs r (extends_none back d rs) (omega arith);
          })
    ]

pub forward_keeps : (edge : ℕ → Edge) (back : ℕ → Bool) (m d : ℕ) (rs : List Entry) (ks : List ℕ)
    → ((k : ℕ) → In k ks → IsForwardEdge edge back m k) → IsLog edge back m rs
    → ((k : ℕ) → In k ks → Since edge back d rs k) → Keeps edge back m d rs (fold (look edge) rs ks)
forward_keeps edge back m d rs [] f l s = record { log = l; extends = extends_none back d rs }
forward_keeps edge back m d rs (k ∷ ks) f l s =
    let one : Keeps edge back m d rs (look edge rs k) =
    forward_look edge back m d rs k (f k (inl refl)) l (s k (inl refl)) in
    let rest : Keeps edge back m d (look edge rs k) (fold (look edge) (look edge rs k) ks) =
    forward_keeps edge back m d (look edge rs k) ks (λ j i. f j (inr i)) one.log
    (λ j i. since_later edge back d rs (look edge rs k) j one.extends (s j (inr i))) in
    record {
      log = rest.log;
      extends = extends_trans back d rs (look edge rs k) (fold (look edge) (look edge rs k) ks)
          one.extends rest.extends;
    }

-- a look leaves its own edge quiet
pub look_quiet : (edge : ℕ → Edge) (rs : List Entry) (k : ℕ) → (edge k).from ≢ (edge k).to
    → IsQuiet edge (look edge rs k) k
look_quiet edge rs k ne =
    let P : List Entry → Type 0 = λ x. IsQuiet edge x k in
    elim (cases_option (raise_of edge rs k)) [
      | inl n ↦ subst P (sym (ap (λ o. with_raise o rs) n)) (raise_of-quiet edge rs k n)
      | inr w ↦ subst P (sym (ap (λ o. with_raise o rs) w.1))
          (quiet_after_raise edge rs k w.0 ne (raise_of-is edge rs k w.0 w.1))
    ]

-- a look at an edge that does not lead into its tail leaves a quiet edge quiet
look_keeps_quiet : (edge : ℕ → Edge) (rs : List Entry) (k j : ℕ) → (edge j).to ≢ (edge k).from → IsQuiet edge rs k
    → IsQuiet edge (look edge rs j) k
look_keeps_quiet edge rs k j ne q =
    let P : List Entry → Type 0 = λ x. IsQuiet edge x k in
    elim (cases_option (raise_of edge rs j)) [
      | inl n ↦ subst P (sym (ap (λ o. with_raise o rs) n)) q
      | inr w ↦
          let i : IsRaise edge rs j w.0 = raise_of-is edge rs j w.0 w.1 in
          subst P (sym (ap (λ o. with_raise o rs) w.1)) (quiet_kept edge rs k j w.0 (λ e. ne (sym i.var_is ∙ e)) i q)
    ]

looks_keep_quiet : (edge : ℕ → Edge) (rs : List Entry) (k : ℕ) (ks : List ℕ)
    → ((j : ℕ) → In j ks → (edge j).to ≢ (edge k).from) → IsQuiet edge rs k → IsQuiet edge (fold (look edge) rs ks) k
looks_keep_quiet edge rs k [] ne q = q
looks_keep_quiet edge rs k (j ∷ ks) ne q =
    looks_keep_quiet edge (look edge rs j) k ks (λ i h. ne i (inr h))
    (look_keeps_quiet edge rs k j (ne j (inl refl)) q)

-- after a forward part every forward edge is quiet
pub forward_quiet : (edge : ℕ → Edge) (back : ℕ → Bool) (m : ℕ) (rs : List Entry) (ks : List ℕ)
    → ((k : ℕ) → In k ks → IsForwardEdge edge back m k) → IsInOrder edge ks → (k : ℕ) → In k ks
    → IsQuiet edge (fold (look edge) rs ks) k
forward_quiet edge back m rs [] f o k h = absurd h
forward_quiet edge back m rs (j ∷ ks) f o k h =
    let P : ℕ → Type 0 = λ x. IsQuiet edge (fold (look edge) (look edge rs j) ks) x in
    elim h as (λ _. IsQuiet edge (fold (look edge) (look edge rs j) ks) k) [
      | inl e ↦
          subst P e
          (looks_keep_quiet edge (look edge rs j) j ks o.0 (look_quiet edge rs j (f j (inl refl)).ends_differ))
      | inr i ↦ forward_quiet edge back m (look edge rs j) ks (λ x y. f x (inr y)) o.1 k i
    ]

-- ---- the backward part

pub record IsBackwardEdge (edge : ℕ → Edge) (back : ℕ → Bool) (m k : ℕ) : Type 0 where
  pub among : k < m
  pub backward : back k ≡ true
  pub ends_differ : (edge k).from ≢ (edge k).to

-- what the raise that stops the rounds is
pub record IsStopAt (edge : ℕ → Edge) (back : ℕ → Bool) (m : ℕ) (raises : List Entry) : Type 0 where
  pub newest : Entry
  pub older : List Entry
  pub is : raises ≡ newest ∷ older
  pub log : IsLog edge back m older
  pub raise : IsRaise edge older newest.edge newest
  pub among : newest.edge < m
  pub returns : comes_back older newest ≡ true

-- what a backward part that does not stop leaves
pub record GoesOn (edge : ℕ → Edge) (back : ℕ → Bool) (m d : ℕ) (old : List Entry) (ks : List ℕ)
    (rs : List Entry) : Type 0 where
  pub log : IsLog edge back m rs
  pub extends : Extends back (suc d) old rs
  pub quiet : (k : ℕ) → In k ks → WasQuiet edge back (suc d) rs k

abbrev pub BackwardGives : (ℕ → Edge) → (ℕ → Bool) → ℕ → ℕ → List Entry → List ℕ → Progress → Type 0
BackwardGives edge back m d old ks p = ((p.stopped ≡ false) × GoesOn edge back m d old ks p.raises)
    ⊎ ((p.stopped ≡ true) × IsStopAt edge back m p.raises)

-- one look that does not stop, and what follows it
backward_step : (edge : ℕ → Edge) (back : ℕ → Bool) (m d : ℕ) (rs mid : List Entry) (k : ℕ) (ks : List ℕ)
    (p : Progress) → Extends back (suc d) rs mid → IsQuiet edge mid k → BackwardGives edge back m d mid ks p
    → BackwardGives edge back m d rs (k ∷ ks) p
backward_step edge back m d rs mid k ks p x q g =
    elim g as (λ _. BackwardGives edge back m d rs (k ∷ ks) p) [
      | inl h ↦ inl (
        h.0,
        record {
          log = h.1.log;
          extends = extends_trans back (suc d) rs mid p.raises x h.1.extends;
          quiet = λ j i. elim i as (λ _. WasQuiet edge back (suc d) p.raises j) [
            | inl e ↦
                (let P : ℕ → Type 0 = λ y. WasQuiet edge back (suc d) p.raises y in subst P e
                (record { then = mid; quiet = q; since = h.1.extends }))
            | inr y ↦ h.1.quiet j y
          ];
        },
      )
      | inr s ↦ inr s
    ]

pub backward_gives : (edge : ℕ → Edge) (back : ℕ → Bool) (m d : ℕ) (rs : List Entry) (ks : List ℕ)
    → ((k : ℕ) → In k ks → IsBackwardEdge edge back m k) → IsLog edge back m rs
    → ((k : ℕ) → In k ks → Since edge back d rs k) → BackwardGives edge back m d rs ks (backward_part edge ks rs)
backward_gives edge back m d rs [] f l s =
    inl (refl, record { log = l; extends = extends_none back (suc d) rs; quiet = λ k h. absurd h })
backward_gives edge back m d rs (k ∷ ks) f l s =
    let P : Progress → Type 0 = λ p. BackwardGives edge back m d rs (k ∷ ks) p in
    let go_on : List Entry → Progress = backward_part edge ks in
    let fk : IsBackwardEdge edge back m k = f k (inl refl) in
    elim (cases_option (raise_of edge rs k)) [
      | inl n ↦ subst P (sym (ap (λ o. after_look o rs go_on) n))
          (backward_step edge back m d rs rs k ks (go_on rs) (extends_none back (suc d) rs)
          (raise_of-quiet edge rs k n)
          (backward_gives edge back m d rs ks (λ j i. f j (inr i)) l (λ j i. s j (inr i))))
      | inr w ↦
          let r : Entry = w.0 in
          let i : IsRaise edge rs k r = raise_of-is edge rs k r w.1 in
          let own : IsRaise edge rs r.edge r = raise_by_own edge rs k r i in
          let e : r.edge ≡ k = i.edge_is in
          let is_back : back r.edge ≡ true = ap back e ∙ fk.backward in
          let among : r.edge < m = (let a : k < m = fk.among in omega arith) in
          let deep : d ≤ depth back (chain rs r.prev) =
          carried edge back d rs k r (log_justified edge back m rs l) (s k (inl refl)) i in
          let one_more : depth_of back rs r ≡ suc (depth back (chain rs r.prev)) = depth_back back rs r is_back in
          let x : Extends back (suc d) rs (r ∷ rs) =
          extends_one back (suc d) rs rs r (extends_none back (suc d) rs) (omega arith) in
          let stop : Progress = record { raises = r ∷ rs; stopped = true } in
          subst P (sym (ap (λ o. after_look o rs go_on) w.1)) (elim (cases_Bool (comes_back rs r)) [
            | inl t ↦ subst P (sym (cond-true (comes_back rs r) stop (go_on (r ∷ rs)) t))
                (inr (
                  refl,
                  record {
                    newest = r;
                    older = rs;
                    is = refl;
                    log = l;
                    raise = own;
                    among = among;
                    returns = t;
                  },
                ))
            | inr n ↦ subst P (sym (cond-false (comes_back rs r) stop (go_on (r ∷ rs)) n)) (
                backward_step edge back m d rs (r ∷ rs) k ks (go_on (r ∷ rs)) x
                (quiet_after_raise edge rs k r fk.ends_differ i) (
                backward_gives edge back m d (r ∷ rs) ks (λ j y. f j (inr y))
                (record { raise = own; among = among; fresh = λ _. n }, l)
                (λ j y. since_later edge back d rs (r ∷ rs) j
                (extends_weaker back d (suc d) rs (r ∷ rs) (omega arith) x) (s j (inr y)))))
          ])
    ]

-- ---- no chain has more backward raises than there are backward edges

In-heads : (back : ℕ → Bool) (cs : List Entry) (v : ℕ) → In v (heads back cs)
    → (q : Entry) × In q cs × (q.var ≡ v) × (back q.edge ≡ true)
In-heads back [] v h = absurd h
In-heads back (c ∷ cs) v h =
    let P : List ℕ → Type 0 = λ l. In v l in
    elim (cases_Bool (back c.edge)) [
      | inl t ↦ elim (subst P (cond-true (back c.edge) (c.var ∷ heads back cs) (heads back cs) t) h)
          as (λ _. (q : Entry) × In q (c ∷ cs) × (q.var ≡ v) × (back q.edge ≡ true)) [
            | inl e ↦ (c, inl refl, e, t)
            | inr i ↦ let w = In-heads back cs v i in (w.0, inr w.1, w.2, w.3)
          ]
      | inr f ↦ let w =
          In-heads back cs v (subst P (cond-false (back c.edge) (c.var ∷ heads back cs) (heads back cs) f) h) in
          (w.0, inr w.1, w.2, w.3)
    ]

-- the variable of a raise that does not come back is none of those of its chain
pub fresh_var : (rs : List Entry) (r q : Entry) → comes_back rs r ≡ false → In q (chain rs r.prev) → q.var ≢ r.var
fresh_var rs r q h i = eqb-false q.var r.var (list_any-false (λ x. eqb x.var r.var) (chain rs r.prev) q h i)

pub heads_distinct : (edge : ℕ → Edge) (back : ℕ → Bool) (m : ℕ) (rs : List Entry) (n : ℕ) → IsLog edge back m rs
    → IsDistinct (heads back (chain rs n))
heads_distinct edge back m [] n l = tt
heads_distinct edge back m (r ∷ rs) n l =
    let P : List Entry → Type 0 = λ cs. IsDistinct (heads back cs) in
    let D : List ℕ → Type 0 = λ h. IsDistinct h in
    let before : IsDistinct (heads back (chain rs r.prev)) = heads_distinct edge back m rs r.prev l.1 in
    elim (cases_eq n (length (r ∷ rs))) [
      | inl e ↦ subst P (sym (chain-newest r rs n e))
          (cond_both (back r.edge) (r.var ∷ heads back (chain rs r.prev)) (heads back (chain rs r.prev)) D
          (λ t. (
            λ i. let w = In-heads back (chain rs r.prev) r.var i in fresh_var rs r w.0 (l.0.fresh t) w.1
                w.2,
            before,
          ))
          (λ f. before))
      | inr ne ↦
          subst P (sym
          (cond-false (eqb n (length (r ∷ rs))) (r ∷ chain rs r.prev) (chain rs n)
          (ne_eqb n (length (r ∷ rs)) ne))) (heads_distinct edge back m rs n l.1)
    ]

-- each raise of a log is by one of the edges, into the raise's variable
log_edge : (edge : ℕ → Edge) (back : ℕ → Bool) (m : ℕ) (rs : List Entry) (q : Entry) → IsLog edge back m rs → In q rs
    → (q.edge < m) × (q.var ≡ (edge q.edge).to)
log_edge edge back m [] q l i = absurd i
log_edge edge back m (r ∷ rs) q l i =
    let P : Entry → Type 0 = λ x. (x.edge < m) × (x.var ≡ (edge x.edge).to) in
    elim i as (λ _. (q.edge < m) × (q.var ≡ (edge q.edge).to)) [
      | inl e ↦ subst P e (l.0.among, l.0.raise.var_is)
      | inr h ↦ log_edge edge back m rs q l.1 h
    ]

-- the depth of a chain is at most the number of variables that backward edges may raise
pub depth_at_most : (edge : ℕ → Edge) (back : ℕ → Bool) (m : ℕ) (rs : List Entry) (n : ℕ) (vs : List ℕ)
    → IsLog edge back m rs → ((k : ℕ) → k < m → back k ≡ true → In ((edge k).to) vs)
    → depth back (chain rs n) ≤ length vs
depth_at_most edge back m rs n vs l h =
    let P : ℕ → Type 0 = λ x. In x vs in
    length_of_distinct (heads back (chain rs n)) vs (heads_distinct edge back m rs n l) (λ v i.
    let w = In-heads back (chain rs n) v i in
    let k = log_edge edge back m rs w.0 l (In-chain w.0 rs n w.1) in
    subst P (sym k.1 ∙ w.2) (h w.0.edge k.0 w.3))

-- of a log whose newest raise is this one
pub depth_of_at_most : (edge : ℕ → Edge) (back : ℕ → Bool) (m : ℕ) (rs : List Entry) (r : Entry) (vs : List ℕ)
    → IsLog edge back m (r ∷ rs) → ((k : ℕ) → k < m → back k ≡ true → In ((edge k).to) vs)
    → depth_of back rs r ≤ length vs
depth_of_at_most edge back m rs r vs l h =
    let P : List Entry → Type 0 = λ cs. depth back cs ≤ length vs in
    subst P (chain-newest r rs (length (r ∷ rs)) refl) (depth_at_most edge back m (r ∷ rs) (length (r ∷ rs)) vs l h)
