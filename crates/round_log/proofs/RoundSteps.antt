-- Whole rounds: what each leaves, and that there are at most as many as backward edges, and one more.
use Rattle.std.proofs.Common.{◌≡◌, ℕ, zero, suc, ◌<◌, ◌≤◌, Bool, true, false, Some, List, [], ◌∷◌, ◌++◌, map, ◌⊎◌, inl}
use Rattle.std.proofs.Common.{inr, length, refl, sym, ap, subst, ◌∙◌, arith}
use Rattle.std.proofs.lemmas.{Bool.{cond-true, cond-false, cases_Bool}, List.length-map}
use Rattle.cons_graph.specs.declared.edges.Edge.{Edge}
use Rattle.round_log.specs.{declared.log.Entry.Entry, Looks.{comes_back, raise_of}, Rounds.{Progress, after_look}}
use Rattle.round_log.specs.Rounds.{backward_part, Schedule, forward_part, round, one_more, after_rounds}
use Rattle.round_log.proofs.{Raises.{IsQuiet, raise_of-quiet}, Chains.In, Members.{cases_option, In-map}}
use Rattle.round_log.proofs.{Depths.{depth_of, IsDeep, Extends, Since, since_later}, Parts.{IsLog, IsForwardEdge}}
use Rattle.round_log.proofs.Parts.{IsBackwardEdge, IsInOrder, Keeps, forward_keeps, forward_quiet, backward_gives}
use Rattle.round_log.proofs.Parts.{IsStopAt, depth_of_at_most}

-- what the rounds need to know of their edges: each is in one of the parts, by whether it is backward, its ends differ,
-- and no later forward edge leads into the tail of an earlier one
pub record IsPlanned (p : Schedule) (back : ℕ → Bool) (m : ℕ) : Type 0 where
  pub forward_edges : (k : ℕ) → In k p.forward → IsForwardEdge p.edge back m k
  pub backward_edges : (k : ℕ) → In k p.backward → IsBackwardEdge p.edge back m k
  pub in_order : IsInOrder p.edge p.forward
  pub backward_all : (k : ℕ) → k < m → back k ≡ true → In k p.backward
  pub forward_all : (k : ℕ) → k < m → back k ≡ false → In k p.forward

-- what holds of the log after d rounds that did not stop
pub record IsGoing (p : Schedule) (back : ℕ → Bool) (m d : ℕ) (rs : List Entry) : Type 0 where
  pub log : IsLog p.edge back m rs
  pub forward_since : (k : ℕ) → In k p.forward → Since p.edge back d rs k
  pub backward_since : (k : ℕ) → In k p.backward → Since p.edge back d rs k

pub going_start : (p : Schedule) (back : ℕ → Bool) (m : ℕ) → IsGoing p back m 0 []
going_start p back m = record { log = tt; forward_since = λ k i. inl refl; backward_since = λ k i. inl refl }

-- the forward part of the next round
pub forward_next : (p : Schedule) (back : ℕ → Bool) (m d : ℕ) (rs : List Entry) → IsPlanned p back m
    → IsGoing p back m d rs → Keeps p.edge back m d rs (forward_part p rs)
forward_next p back m d rs h g = forward_keeps p.edge back m d rs p.forward h.forward_edges g.log g.forward_since

-- a round that does not stop
pub record IsRoundOn (p : Schedule) (back : ℕ → Bool) (m d : ℕ) (rs out : List Entry) : Type 0 where
  pub going : IsGoing p back m (suc d) out
  pub extends : Extends back (suc d) (forward_part p rs) out

abbrev pub RoundGives : Schedule → (ℕ → Bool) → ℕ → ℕ → List Entry → Progress → Type 0
RoundGives p back m d rs s = ((s.stopped ≡ false) × IsRoundOn p back m d rs s.raises)
    ⊎ ((s.stopped ≡ true) × IsStopAt p.edge back m s.raises)

pub round_gives : (p : Schedule) (back : ℕ → Bool) (m d : ℕ) (rs : List Entry) → IsPlanned p back m
    → IsGoing p back m d rs → RoundGives p back m d rs (round p rs)
round_gives p back m d rs h g =
    let first : Keeps p.edge back m d rs (forward_part p rs) = forward_next p back m d rs h g in
    let mid : List Entry = forward_part p rs in
    let s : Progress = round p rs in
    elim (backward_gives p.edge back m d mid p.backward h.backward_edges first.log
    (λ k i. since_later p.edge back d rs mid k first.extends (g.backward_since k i))) as (λ _.
    RoundGives p back m d rs s) [
      | inl b ↦ inl (
        b.0,
        record {
          going = record {
            log = b.1.log;
            forward_since =
                λ k i. inr
                (record {
                  then = mid;
                  quiet = forward_quiet p.edge back m rs p.forward h.forward_edges h.in_order k i;
                  since = b.1.extends;
                });
            backward_since = λ k i. inr (b.1.quiet k i);
          };
          extends = b.1.extends;
        },
      )
      | inr t ↦ inr t
    ]

-- a log that has grown by deep raises has no more depth than there are backward edges
grown_at_most : (p : Schedule) (back : ℕ → Bool) (m d : ℕ) (old new : List Entry) → IsPlanned p back m
    → IsLog p.edge back m (new ++ old) → IsDeep back d old new → (new ≡ [] → ⊥) → d ≤ length p.backward
grown_at_most p back m d old [] h l x n = absurd (n refl)
grown_at_most p back m d old (r ∷ new) h l x n =
    let vs : List ℕ = map (λ k. (p.edge k).to) p.backward in
    let few : depth_of back (new ++ old) r ≤ length vs =
    depth_of_at_most p.edge back m (new ++ old) r vs l
    (λ k a b. In-map (λ j. (p.edge j).to) k p.backward (h.backward_all k a b)) in
    let same : length vs ≡ length p.backward = length-map p.backward (λ k. (p.edge k).to) in
    let deep : d ≤ depth_of back (new ++ old) r = x.0 in
    omega arith

-- a round that raises in its backward part and does not stop is at most the one of the number of backward edges
pub busy_bound : (p : Schedule) (back : ℕ → Bool) (m d : ℕ) (rs out : List Entry) → IsPlanned p back m
    → IsRoundOn p back m d rs out → (out ≡ forward_part p rs → ⊥) → suc d ≤ length p.backward
busy_bound p back m d rs out h o n =
    let x = o.extends in
    let L : List Entry → Type 0 = λ s. IsLog p.edge back m s in
    grown_at_most p back m (suc d) (forward_part p rs) x.new h (subst L x.split o.going.log) x.deep
    (λ e. n (x.split ∙ ap (λ s. s ++ forward_part p rs) e))

-- ---- the end

pub backward_grows : (edge : ℕ → Edge) (ks : List ℕ) (rs : List Entry)
    → length rs ≤ length (backward_part edge ks rs).raises
backward_grows edge [] rs = omega arith
backward_grows edge (k ∷ ks) rs =
    let P : Progress → Type 0 = λ p. length rs ≤ length p.raises in
    let go_on : List Entry → Progress = backward_part edge ks in
    elim (cases_option (raise_of edge rs k)) [
      | inl n ↦ subst P (sym (ap (λ o. after_look o rs go_on) n)) (backward_grows edge ks rs)
      | inr w ↦
          let stop : Progress = record { raises = w.0 ∷ rs; stopped = true } in
          subst P (sym (ap (λ o. after_look o rs go_on) w.1)) (elim (cases_Bool (comes_back rs w.0)) [
            | inl t ↦ subst P (sym (cond-true (comes_back rs w.0) stop (go_on (w.0 ∷ rs)) t)) (omega arith)
            | inr f ↦ subst P (sym (cond-false (comes_back rs w.0) stop (go_on (w.0 ∷ rs)) f))
                (let k : length (w.0 ∷ rs) ≤ length (go_on (w.0 ∷ rs)).raises = backward_grows edge ks (w.0 ∷ rs) in
                omega arith)
          ])
    ]

-- a raise makes the log longer
raise_grows : (edge : ℕ → Edge) (ks : List ℕ) (rs : List Entry) (r : Entry)
    → length rs < length (after_look (Some r) rs (backward_part edge ks)).raises
raise_grows edge ks rs r =
    let P : Progress → Type 0 = λ p. length rs < length p.raises in
    let go_on : List Entry → Progress = backward_part edge ks in
    let stop : Progress = record { raises = r ∷ rs; stopped = true } in
    elim (cases_Bool (comes_back rs r)) [
      | inl t ↦ subst P (sym (cond-true (comes_back rs r) stop (go_on (r ∷ rs)) t)) (omega arith)
      | inr f ↦ subst P (sym (cond-false (comes_back rs r) stop (go_on (r ∷ rs)) f))
          (let k : length (r ∷ rs) ≤ length (go_on (r ∷ rs)).raises = backward_grows edge ks (r ∷ rs) in omega arith)
    ]

-- where a backward part appends nothing, each of its edges is quiet
pub backward_quiet : (edge : ℕ → Edge) (ks : List ℕ) (rs : List Entry) → (backward_part edge ks rs).raises ≡ rs
    → (k : ℕ) → In k ks → IsQuiet edge rs k
backward_quiet edge [] rs e k i = absurd i
backward_quiet edge (j ∷ ks) rs e k i =
    let go_on : List Entry → Progress = backward_part edge ks in
    let P : ℕ → Type 0 = λ x. IsQuiet edge rs x in
    elim (cases_option (raise_of edge rs j)) [
      | inl n ↦ elim i as (λ _. IsQuiet edge rs k) [
        | inl s ↦ subst P s (raise_of-quiet edge rs j n)
        | inr h ↦ backward_quiet edge ks rs (sym (ap (λ o. (after_look o rs go_on).raises) n) ∙ e) k h
      ]
      | inr w ↦ absurd (
          let same : length (after_look (Some w.0) rs go_on).raises ≡ length rs =
          ap length (sym (ap (λ o. (after_look o rs go_on).raises) w.1) ∙ e) in
          let more : length rs < length (after_look (Some w.0) rs go_on).raises = raise_grows edge ks rs w.0 in
          omega arith)
    ]

-- after a round whose backward part appends nothing every edge is quiet
pub all_quiet : (p : Schedule) (back : ℕ → Bool) (m : ℕ) (rs : List Entry) → IsPlanned p back m
    → (round p rs).raises ≡ forward_part p rs → (k : ℕ) → k < m → IsQuiet p.edge (forward_part p rs) k
all_quiet p back m rs h e k a =
    elim (cases_Bool (back k)) [
      | inl t ↦ backward_quiet p.edge p.backward (forward_part p rs) e k (h.backward_all k a t)
      | inr f ↦ forward_quiet p.edge back m rs p.forward h.forward_edges h.in_order k (h.forward_all k a f)
    ]

-- ---- many rounds

pub one_more_going : (p : Schedule) (s : Progress) → s.stopped ≡ false → one_more p s ≡ round p s.raises
one_more_going p s e = cond-false s.stopped s (round p s.raises) e

pub one_more_stopped : (p : Schedule) (s : Progress) → s.stopped ≡ true → one_more p s ≡ s
one_more_stopped p s e = cond-true s.stopped s (round p s.raises) e

-- where n rounds have come: they go on, or they have stopped
abbrev pub RoundsGive : Schedule → (ℕ → Bool) → ℕ → ℕ → Progress → Type 0
RoundsGive p back m n s = ((s.stopped ≡ false) × IsGoing p back m n s.raises)
    ⊎ ((s.stopped ≡ true) × IsStopAt p.edge back m s.raises)

pub rounds_give : (p : Schedule) (back : ℕ → Bool) (m : ℕ) → IsPlanned p back m → (n : ℕ)
    → RoundsGive p back m n (after_rounds p n)
rounds_give p back m h zero = inl (refl, going_start p back m)
rounds_give p back m h (suc n) =
    let s : Progress = after_rounds p n in
    let P : Progress → Type 0 = λ x. RoundsGive p back m (suc n) x in
    elim (rounds_give p back m h n) as (λ _. RoundsGive p back m (suc n) (one_more p s)) [
      | inl g ↦ subst P (sym (one_more_going p s g.0))
          (elim (round_gives p back m n s.raises h g.1) as (λ _. RoundsGive p back m (suc n) (round p s.raises)) [
            | inl o ↦ inl (o.0, o.1.going)
            | inr t ↦ inr t
          ])
      | inr t ↦ subst P (sym (one_more_stopped p s t.0)) (inr t)
    ]
