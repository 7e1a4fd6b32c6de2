-- The loop that a chain closes: a closed walk of positive length that meets no variable twice, and the same turned.
use Rattle.std.proofs.Common.{◌≡◌, ℕ, suc, ◌<◌, ◌≤◌, ℤ, pos, ◌+ℤ◌, ◌-ℤ◌, ◌<ℤ◌, Bool, true, false, cond, eqb, leb, List}
use Rattle.std.proofs.Common.{[], ◌∷◌, ◌++◌, map, ◌⊎◌, inl, inr, length, get_or, take, drop, refl, sym, ap, subst, ◌∙◌}
use Rattle.std.proofs.{Common.{arith, eq-eqb}, lemmas.{Int.ints, Bool.{cond-true, cond-false, cases_Bool, cases_eq}}}
use Rattle.std.proofs.lemmas.Bool.{true≢false, eqb-true, ne_eqb, leb-true, leb-false, and_parts, and_cases}
use Rattle.std.{proofs.lemmas.List.{map-append, take-append-drop}, specs.List.{list_any, list_all}}
use Rattle.cons_graph.{specs.{declared.edges.Edge.Edge, Walks.{IsWalk, walk_length}}, proofs.Tests.walk_length-append}
use Rattle.round_log.specs.{declared.log.Entry.Entry, Looks.{chain, comes_back}, WalksBack.{up_to, loop_back}}
use Rattle.round_log.{specs.WalksBack.least_place, proofs.Chains.{In, IsLinked, IsRising, top_var, top_value}}
use Rattle.round_log.proofs.{Members.{In-map-back, IsDistinct, list_any-true, list_any-false}, Walking.IsWalk-append}
use Rattle.round_log.proofs.Walking.{IsWalk-split, entry_edges, vars_of, IsDistinct-turned}

-- ---- the raises met going back, as a path in walking order

pub record IsStep (edge : ℕ → Edge) (start : ℕ) (a : ℤ) (c : Entry) : Type 0 where
  pub tail_is : (edge c.edge).from ≡ start
  pub head_is : (edge c.edge).to ≡ c.var
  pub value_is : c.value ≡ a +ℤ (edge c.edge).len

abbrev pub IsPath : (ℕ → Edge) → ℕ → ℤ → List Entry → Type 0
IsPath edge start a [] = Unit {0}
IsPath edge start a (c ∷ cs) = IsStep edge start a c × IsPath edge c.var c.value cs

up_to-found : (v : ℕ) (c : Entry) (cs : List Entry) → c.var ≡ v → up_to v (c ∷ cs) ≡ c ∷ []
up_to-found v c cs e = cond-true (eqb c.var v) (c ∷ []) (c ∷ up_to v cs) (eq-eqb c.var v e)

up_to-on : (v : ℕ) (c : Entry) (cs : List Entry) → (c.var ≡ v → ⊥) → up_to v (c ∷ cs) ≡ c ∷ up_to v cs
up_to-on v c cs n = cond-false (eqb c.var v) (c ∷ []) (c ∷ up_to v cs) (ne_eqb c.var v n)

-- the variables met before the first raise of v
abbrev before : ℕ → List Entry → List ℕ
before v [] = []
before v (c ∷ cs) = cond (eqb c.var v) [] (c.var ∷ before v cs)

abbrev pub tails : List Edge → List ℕ
tails es = map (λ e. e.from) es

-- the path from its start up to the first raise of v
record IsPathTo (edge : ℕ → Edge) (start v : ℕ) (a : ℤ) (met cs : List Entry) : Type 0 where
  pub last : Entry
  pub last_met : In last met
  pub last_var : last.var ≡ v
  pub walk : IsWalk start (entry_edges edge cs) v
  pub rise : walk_length (entry_edges edge cs) ≡ last.value -ℤ a
  pub tails_are : tails (entry_edges edge cs) ≡ start ∷ before v met

path_to : (edge : ℕ → Edge) (start v : ℕ) (a : ℤ) (met : List Entry) → IsPath edge start a met → (q : Entry)
    → In q met → q.var ≡ v → IsPathTo edge start v a met (up_to v met)
path_to edge start v a [] p q i e = absurd i
path_to edge start v a (c ∷ cs) p q i e =
    let P : List Entry → Type 0 = λ l. IsPathTo edge start v a (c ∷ cs) l in
    let w : c.value ≡ a +ℤ (edge c.edge).len = p.0.value_is in
    elim (cases_eq c.var v) [
      | inl s ↦ subst P (sym (up_to-found v c cs s)) (record {
        last = c;
        last_met = inl refl;
        last_var = s;
        walk = (p.0.tail_is, p.0.head_is ∙ s);
        rise = omega (arith, ints);
        tails_are = ap (λ f. f ∷ []) p.0.tail_is
            ∙ ap (λ l. start ∷ l) (sym (cond-true (eqb c.var v) [] (c.var ∷ before v cs) (eq-eqb c.var v s)));
      })
      | inr n ↦
          let there : In q cs = elim i as (λ _. In q cs) [ inl s ↦ absurd (n (ap (λ x. x.var) s ∙ e)) | inr h ↦ h ] in
          let rest : IsPathTo edge c.var v c.value cs (up_to v cs) = path_to edge c.var v c.value cs p.1 q there e in
          let r : walk_length (entry_edges edge (up_to v cs)) ≡ rest.last.value -ℤ c.value = rest.rise in
          subst P (sym (up_to-on v c cs n)) (record {
            last = rest.last;
            last_met = inr rest.last_met;
            last_var = rest.last_var;
            walk = (
              p.0.tail_is,
              (let Q : ℕ → Type 0 = λ x. IsWalk x (entry_edges edge (up_to v cs)) v in subst Q (sym p.0.head_is)
                  rest.walk),
            );
            rise = omega (arith, ints);
            tails_are = ap (λ f. f ∷ tails (entry_edges edge (up_to v cs))) p.0.tail_is
                ∙ ap (λ l. start ∷ l)
                (rest.tails_are ∙ sym (cond-false (eqb c.var v) [] (c.var ∷ before v cs) (ne_eqb c.var v n)));
          })
    ]

In-before : (v u : ℕ) (met : List Entry) → In u (before v met) → In u (vars_of met) × (u ≡ v → ⊥)
In-before v u [] i = absurd i
In-before v u (c ∷ cs) i =
    let P : List ℕ → Type 0 = λ l. In u l in
    elim (cases_eq c.var v) [
      | inl s ↦ absurd (subst P (cond-true (eqb c.var v) [] (c.var ∷ before v cs) (eq-eqb c.var v s)) i)
      | inr n ↦ elim (subst P (cond-false (eqb c.var v) [] (c.var ∷ before v cs) (ne_eqb c.var v n)) i)
          as (λ _. In u (vars_of (c ∷ cs)) × (u ≡ v → ⊥)) [
            | inl e ↦ (inl e, λ s. n (e ∙ s))
            | inr h ↦ let w = In-before v u cs h in (inr w.0, w.1)
          ]
    ]

before_distinct : (v : ℕ) (met : List Entry) → IsDistinct (vars_of met) → IsDistinct (v ∷ before v met)
before_distinct v met d = (λ i. (In-before v v met i).1 refl, go met d)
  where
    go : (cs : List Entry) → IsDistinct (vars_of cs) → IsDistinct (before v cs)
    go [] k = tt
    go (c ∷ cs) k =
        let P : List ℕ → Type 0 = λ l. IsDistinct l in
        elim (cases_eq c.var v) [
          | inl s ↦ subst P (sym (cond-true (eqb c.var v) [] (c.var ∷ before v cs) (eq-eqb c.var v s))) tt
          | inr n ↦ subst P (sym (cond-false (eqb c.var v) [] (c.var ∷ before v cs) (ne_eqb c.var v n)))
              (λ i. k.0 (In-before v c.var cs i).0, go cs k.1)
        ]

-- ---- the loop

pub record IsLoop (edge : ℕ → Edge) (start : ℕ) (es : List Edge) : Type 0 where
  pub closed : IsWalk start es start
  pub positive : pos 0 <ℤ walk_length es
  pub distinct : IsDistinct (tails es)
  pub not_empty : es ≡ [] → ⊥

-- some variable of the rest of a chain was met already, or comes twice in the rest
abbrev Repeats : List Entry → List Entry → Type 0
Repeats met [] = ⊥
Repeats met (c ∷ cs) = ((q : Entry) × In q met × (q.var ≡ c.var)) ⊎ Repeats (c ∷ met) cs

pub loop_is : (edge : ℕ → Edge) (met rest : List Entry) → IsPath edge (top_var rest) (top_value rest) met
    → IsLinked edge rest → IsRising rest → IsDistinct (vars_of met)
    → ((s q : Entry) → In s met → In q rest → q.var ≡ s.var → q.value <ℤ s.value) → Repeats met rest
    → (v : ℕ) × IsLoop edge v (entry_edges edge (loop_back met rest))
loop_is edge met [] p l r d h t = absurd t
loop_is edge met (c ∷ cs) p l r d h t =
    let L = λ (es : List Entry). (v : ℕ) × IsLoop edge v (entry_edges edge es) in
    let test : Bool = list_any (λ q. eqb q.var c.var) met in
    elim (cases_Bool test) [
      | inl yes' ↦
          let w = list_any-true (λ q. eqb q.var c.var) met yes' in
          let path : IsPathTo edge c.var c.var c.value met (up_to c.var met) =
          path_to edge c.var c.var c.value met p w.0 w.1 (eqb-true w.0.var c.var w.2) in
          let above : c.value <ℤ path.last.value = h path.last c path.last_met (inl refl) (sym path.last_var) in
          let rise : walk_length (entry_edges edge (up_to c.var met)) ≡ path.last.value -ℤ c.value = path.rise in
          let D : List ℕ → Type 0 = λ x. IsDistinct x in
          subst L (sym (cond-true test (up_to c.var met) (loop_back (c ∷ met) cs) yes')) (
            c.var,
            record {
              closed = path.walk;
              positive = omega (arith, ints);
              distinct = subst D (sym path.tails_are) (before_distinct c.var met d);
              not_empty = λ e. let x : c.var ∷ before c.var met ≡ [] = sym path.tails_are ∙ ap tails e in cc;
            },
          )
      | inr no' ↦
          subst L (sym (cond-false test (up_to c.var met) (loop_back (c ∷ met) cs) no')) (loop_is edge (c ∷ met) cs
          (record { tail_is = l.0.tail_is; head_is = l.0.head_is; value_is = l.0.value_is }, p) l.1 r.1 (
            λ i. let w = In-map-back (λ (q : Entry). q.var) c.var met i in true≢false
                (sym (eq-eqb w.0.var c.var w.2) ∙ list_any-false (λ q. eqb q.var c.var) met w.0 no' w.1),
            d,
          )
          (λ s q i j e. elim i as (λ _. q.value <ℤ s.value) [
            | inl same ↦
                (let P : Entry → Type 0 = λ z. q.value <ℤ z.value in subst P same
                (r.0 q j (e ∙ ap (λ z. z.var) (sym same))))
            | inr i' ↦ h s q i' (inr j) e
          ])
          (elim t as (λ _. Repeats (c ∷ met) cs) [
            | inl w ↦
                absurd (true≢false (sym (eq-eqb w.0.var c.var w.2)
                ∙ list_any-false (λ q. eqb q.var c.var) met w.0 no' w.1))
            | inr x ↦ x
          ]))
    ]

-- a raise that comes back repeats its variable
repeats_later : (met cs : List Entry) (q : Entry) (s : Entry) → In s met → In q cs → s.var ≡ q.var → Repeats met cs
repeats_later met [] q s i j e = absurd j
repeats_later met (c ∷ cs) q s i j e =
    elim j as (λ _. ((q : Entry) × In q met × (q.var ≡ c.var)) ⊎ Repeats (c ∷ met) cs) [
      | inl same ↦ inl (s, i, e ∙ ap (λ z. z.var) (sym same))
      | inr h ↦ inr (repeats_later (c ∷ met) cs q s (inr i) h e)
    ]

pub repeats_back : (rs : List Entry) (r : Entry) → comes_back rs r ≡ true → Repeats [] (r ∷ chain rs r.prev)
repeats_back rs r t =
    let w = list_any-true (λ q. eqb q.var r.var) (chain rs r.prev) t in
    inr (repeats_later (r ∷ []) (chain rs r.prev) w.0 r (inl refl) w.1 (sym (eqb-true w.0.var r.var w.2)))

-- the loop of a raise that comes back
pub loop_of_raise : (edge : ℕ → Edge) (rs : List Entry) (r : Entry) → IsLinked edge (r ∷ chain rs r.prev)
    → IsRising (r ∷ chain rs r.prev) → comes_back rs r ≡ true
    → (v : ℕ) × IsLoop edge v (entry_edges edge (loop_back [] (r ∷ chain rs r.prev)))
loop_of_raise edge rs r l u t =
    loop_is edge [] (r ∷ chain rs r.prev) tt l u tt (λ s q i. absurd i) (repeats_back rs r t)

-- ---- turning

pub least_place_in_range : (xs : List ℕ) → (xs ≡ [] → ⊥) → least_place xs < length xs
least_place_in_range [] n = absurd (n refl)
least_place_in_range (x ∷ xs) n =
    let P : ℕ → Type 0 = λ k. k < suc (length xs) in
    let test : Bool = list_all (λ y. leb x y) xs in
    elim (cases_Bool test) [
      | inl t ↦ subst P (sym (cond-true test 0 (suc (least_place xs)) t)) (omega arith)
      | inr f ↦ subst P (sym (cond-false test 0 (suc (least_place xs)) f))
          (let k : least_place xs < length xs = least_place_in_range xs
          (λ e. true≢false (sym (ap (list_all (λ y. leb x y)) e) ∙ f)) in omega arith)
    ]

list_all-In : (x : ℕ) (xs : List ℕ) (y : ℕ) → list_all (λ z. leb x z) xs ≡ true → In y xs → x ≤ y
list_all-In x [] y t i = absurd i
list_all-In x (z ∷ xs) y t i =
    let k = and_parts (leb x z) (list_all (λ w. leb x w) xs) t in
    elim i as (λ _. x ≤ y) [
      | inl e ↦ (let l : x ≤ z = leb-true x z k.0 in omega arith)
      | inr h ↦
          list_all-In x xs y k.1 h
    ]

-- where not all of the rest are at least x, the least of the rest is below x
pub list_all-false : (x : ℕ) (xs : List ℕ) → list_all (λ z. leb x z) xs ≡ false → (y : ℕ) × In y xs × (y < x)
list_all-false x [] f = absurd (true≢false f)
list_all-false x (z ∷ xs) f =
    elim (and_cases (leb x z) (list_all (λ w. leb x w) xs) f) as (λ _. (y : ℕ) × In y (z ∷ xs) × (y < x)) [
      | inl a ↦ (z, inl refl, leb-false x z a)
      | inr b ↦ let w = list_all-false x xs b in (w.0, inr w.1, w.2)
    ]

pub least_place_least : (xs : List ℕ) (y : ℕ) → In y xs → get_or xs (least_place xs) 0 ≤ y
least_place_least [] y i = absurd i
least_place_least (x ∷ xs) y i =
    let P : ℕ → Type 0 = λ k. get_or (x ∷ xs) k 0 ≤ y in
    let test : Bool = list_all (λ z. leb x z) xs in
    elim (cases_Bool test) [
      | inl t ↦ subst P (sym (cond-true test 0 (suc (least_place xs)) t))
          (elim i as (λ _. x ≤ y) [ inl e ↦ omega arith | inr h ↦ list_all-In x xs y t h ])
      | inr f ↦ subst P (sym (cond-false test 0 (suc (least_place xs)) f))
          (elim i as (λ _. get_or xs (least_place xs) 0 ≤ y) [
            | inl e ↦
                (let w = list_all-false x xs f in let low : get_or xs (least_place xs) 0 ≤ w.0 = least_place_least xs
                w.0
                w.1 in let lt : w.0 < x = w.2 in omega arith)
            | inr h ↦ least_place_least xs y h
          ])
    ]

-- a turned closed walk is a closed walk of the same length
pub turned_loop : (edge : ℕ → Edge) (start p : ℕ) (es : List Edge) → IsLoop edge start es
    → (v : ℕ) × IsLoop edge v (drop p es ++ take p es)
turned_loop edge start p es h =
    let prefix : List Edge = take p es in
    let end : List Edge = drop p es in
    let whole : prefix ++ end ≡ es = take-append-drop p es in
    let W : List Edge → Type 0 = λ x. IsWalk start x start in
    let w = IsWalk-split start prefix end start (subst W (sym whole) h.closed) in
    let D : List ℕ → Type 0 = λ x. IsDistinct x in
    let sum_then = walk_length-append end prefix in
    let sum_now = ap walk_length (sym whole) ∙ walk_length-append prefix end in
    let up : pos 0 <ℤ walk_length es = h.positive in (
      w.0,
      record {
        closed = IsWalk-append w.0 end start prefix w.0 w.2 w.1;
        positive = omega (arith, ints, sum_then, sum_now);
        distinct = subst D (sym (map-append (λ (e : Edge). e.from) end prefix))
            (IsDistinct-turned (tails prefix) (tails end)
            (subst D (ap tails (sym whole) ∙ map-append (λ (e : Edge). e.from) prefix end) h.distinct));
        not_empty = λ e. h.not_empty (sym whole ∙ empty_turned end prefix e);
      },
    )
  where
    empty_turned : (xs ys : List Edge) → xs ++ ys ≡ [] → ys ++ xs ≡ []
    empty_turned [] [] e = refl
    empty_turned [] (y ∷ ys) e = absurd cc
    empty_turned (x ∷ xs) ys e = absurd cc
