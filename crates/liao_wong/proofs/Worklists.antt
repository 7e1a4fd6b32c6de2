-- What keeps a worklist one: raises, looks and sweeps.
use Rattle.std.proofs.Common.{◌≡◌, ◌≢◌, ℕ, suc, ◌+◌, ◌<◌, ◌≤◌, ℤ, ◌+ℤ◌, ◌≤ℤ◌, ◌<ℤ◌, Bool, true, false, eqb, Option}
use Rattle.std.proofs.Common.{Some, None, List, [], ◌∷◌, inl, inr, length, get_or, set, refl, sym, ap, subst, ◌∙◌}
use Rattle.std.proofs.{Common.{arith, eq-eqb}, lemmas.{Int.ints, Bool.{cases_eq, cases_Bool, ne_eqb, eqb-true}}}
use Rattle.std.proofs.lemmas.{Bool.{cond-true, cond-false, true≢false}, List.length-set}
use Rattle.std.specs.List.{All, range_with_len}
use Rattle.cons_graph.specs.{declared.edges.Edge.Edge, Constraints.IsConstraintGraph, EdgeNumbers.{edge_at, leaving}}
use Rattle.round_log.specs.{declared.log.Entry.Entry, Looks.{raise_of, is_forward, place_in}, Orders.NamesEachOnce}
use Rattle.round_log.specs.{Kept.kept_part, Told.TellAlike}
use Rattle.round_log.proofs.Raises.{IsRaise, IsQuiet, quiet_after_raise, quiet_kept, raise_of-is, raise_of-quiet}
use Rattle.round_log.proofs.{Chains.In, Members.{cases_option, In-filter, In-filter-from, In-range-from}}
use Rattle.round_log.proofs.{Least.edge_among, Planned.{In-at, place_of_In, place_in_range, In-from_contains}}
use Rattle.round_log.proofs.{Planned.IsDistinct-from_pairs, Alike.leaves_too, Kept.part_alike}
use Rattle.liao_wong.specs.{Held.Held, Sweeping.{IsSwept, IsTrimmed}, Marked.is_marked, Worklist.AppendsNothing}
use Rattle.liao_wong.specs.Worklist.{has_ready_tail, IsWorklist, WaitToo, BackwardOnesWait, HasLookedForward}
use Rattle.liao_wong.{specs.Worklist.HasLookedAtPlace, proofs.Marking.{set_here, set_elsewhere, set_only, set_was_not}}
use Rattle.liao_wong.proofs.{Marking.cleared, Course.place_at, Steps.leaving_in_range}

-- ---- looks that append nothing

quiet_none : (edges : List Edge) (rs : List Entry) (k : ℕ) → IsQuiet (edge_at edges) rs k → AppendsNothing edges rs k
quiet_none edges rs k q =
    elim (cases_option (raise_of (edge_at edges) rs k)) as (λ _. raise_of (edge_at edges) rs k ≡ None) [
      | inl n ↦ n
      | inr w ↦ (
          let r : Entry = w.0 in
          let i : IsRaise (edge_at edges) rs k r = raise_of-is (edge_at edges) rs k r w.1 in
          let b : ℤ = q.head_for i.tail i.tail_is in
          let enough : (i.tail +ℤ (edge_at edges k).len) ≤ℤ b = q.enough i.tail i.tail_is in
          let higher : b <ℤ r.value = i.higher b (q.head_is i.tail i.tail_is) in
          let value : r.value ≡ i.tail +ℤ (edge_at edges k).len = i.value_is in
          absurd (omega (arith, ints)))
    ]

-- a raise of another variable than its tail
pub kept_none : (edges : List Edge) (rs : List Entry) (k j : ℕ) (r : Entry) → r.var ≢ (edge_at edges k).from
    → raise_of (edge_at edges) rs j ≡ Some r → AppendsNothing edges rs k → AppendsNothing edges (r ∷ rs) k
kept_none edges rs k j r ne e q =
    quiet_none edges (r ∷ rs) k
    (quiet_kept (edge_at edges) rs k j r ne (raise_of-is (edge_at edges) rs j r e)
    (raise_of-quiet (edge_at edges) rs k q))

-- its own raise
pub own_none : (edges : List Edge) (rs : List Entry) (k : ℕ) (r : Entry)
    → (edge_at edges k).from ≢ (edge_at edges k).to → raise_of (edge_at edges) rs k ≡ Some r
    → AppendsNothing edges (r ∷ rs) k
own_none edges rs k r ne e =
    quiet_none edges (r ∷ rs) k (quiet_after_raise (edge_at edges) rs k r ne (raise_of-is (edge_at edges) rs k r e))

-- the variable of a raise is the head of its edge
pub raised_head : (edges : List Edge) (rs : List Entry) (k : ℕ) (r : Entry) → raise_of (edge_at edges) rs k ≡ Some r
    → r.var ≡ (edge_at edges k).to
raised_head edges rs k r e = (raise_of-is (edge_at edges) rs k r e).var_is

-- ---- members

pub at_member : (P : ℕ → Type 0) (xs : List ℕ) (x : ℕ) → All P xs → In x xs → P x
at_member P xs x h i = let w = place_of_In xs x i in subst P (w.2 0) (h w.0 0 w.1)

pub leaves_tail : (edges : List Edge) (k v : ℕ) → k < length edges → (edge_at edges k).from ≡ v → In k (leaving edges v)
leaves_tail edges k v lt e = In-filter-from (λ j. eqb (edge_at edges j).from v) k (range_with_len 0 (length edges))
    (In-range-from k 0 (length edges) (omega arith) (omega arith)) (eq-eqb (edge_at edges k).from v e)

at_place : (order : List ℕ) (v : ℕ) → In v order → get_or order (place_in order v) 0 ≡ v
at_place [] v h = absurd h
at_place (u ∷ us) v h =
    elim (cases_eq u v) as (λ _. get_or (u ∷ us) (place_in (u ∷ us) v) 0 ≡ v) [
      | inl e ↦ ap (λ n. get_or (u ∷ us) n 0) (cond-true (eqb u v) 0 (suc (place_in us v)) (eq-eqb u v e)) ∙ e
      | inr ne ↦ ap (λ n. get_or (u ∷ us) n 0) (cond-false (eqb u v) 0 (suc (place_in us v)) (ne_eqb u v ne))
          ∙ elim h as (λ _. get_or us (place_in us v) 0 ≡ v) [ inl e ↦ absurd (ne e) | inr i ↦ at_place us v i ]
    ]

pub tail_at : (vars : ℕ) (edges : List Edge) (order : List ℕ) (k : ℕ)
    → IsConstraintGraph (record { vars = vars; edges = edges }) → NamesEachOnce vars order → k < length edges
    → In ((edge_at edges k).from) order
tail_at vars edges order k s o lt =
    In-from_contains order (edge_at edges k).from
    (o.each (edge_at edges k).from (edge_among (record { vars = vars; edges = edges }) s k lt).from_in_range)

-- variables of one place are one
one_at_place : (order : List ℕ) (u v : ℕ) → In u order → In v order → place_in order u ≡ place_in order v → u ≡ v
one_at_place order u v i j e = sym (at_place order u i) ∙ ap (λ n. get_or order n 0) e ∙ at_place order v j

not_true : (b : Bool) → (b ≡ true → ⊥) → b ≡ false
not_true true h = absurd (h refl)
not_true false h = refl

-- ---- the start

pub worklist_start : (vars : ℕ) (edges : List Edge) (order : List ℕ) (ready waiting : List Bool) (rs : List Entry)
    → IsConstraintGraph (record { vars = vars; edges = edges }) → NamesEachOnce vars order
    → length ready ≡ length order → ((n : ℕ) → n < length order → is_marked ready n ≡ true)
    → length waiting ≡ length edges → ((n : ℕ) → is_marked waiting n ≡ false)
    → IsWorklist edges order ready waiting rs
worklist_start vars edges order ready waiting rs s o lr all lw none =
    let is_ready : (k : ℕ) → k < length edges → has_ready_tail edges order ready k ≡ true =
    λ k lt. all (place_in order (edge_at edges k).from)
    (place_in_range order (edge_at edges k).from (tail_at vars edges order k s o lt)) in
    record {
      one_ready_each = lr;
      one_waiting_each = lw;
      only_backward = λ k t. absurd (true≢false (sym t ∙ none k));
      forward = λ k lt up idle. absurd (true≢false (sym (is_ready k lt) ∙ idle));
      backward = λ k lt down idle rest. absurd (true≢false (sym (is_ready k lt) ∙ idle));
    }

-- ---- a raise, after which its variable is ready

pub worklist_raised : (edges : List Edge) (order : List ℕ) (ready waiting waiting' : List Bool) (rs : List Entry)
    (j : ℕ) (r : Entry) → IsWorklist edges order ready waiting rs → raise_of (edge_at edges) rs j ≡ Some r
    → place_in order r.var < length order → WaitToo edges order waiting waiting'
    → IsWorklist edges order (set ready (place_in order r.var) true) waiting' (r ∷ rs)
worklist_raised edges order ready waiting waiting' rs j r w e small more =
    let p : ℕ = place_in order r.var in
    let inside : p < length ready = (let l = w.one_ready_each in omega (arith, l, small)) in
    let R : List Bool = set ready p true in
    let was : (k : ℕ) → has_ready_tail edges order R k ≡ false → has_ready_tail edges order ready k ≡ false =
    λ k idle. set_was_not ready p (place_in order (edge_at edges k).from) inside idle in
    let ne : (k : ℕ) → has_ready_tail edges order R k ≡ false → r.var ≢ (edge_at edges k).from =
    λ k idle same. true≢false (sym (set_here ready p true inside) ∙ ap (λ v. is_marked R (place_in order v)) same
    ∙ idle) in
    record {
      one_ready_each = length-set ready p true ∙ w.one_ready_each;
      one_waiting_each = more.same_length ∙ w.one_waiting_each;
      only_backward = λ k t. elim (more.only_backward k t) as (λ _. is_forward order (edge_at edges k) ≡ false)
          [ inl m ↦ w.only_backward k m | inr down ↦ down ];
      forward = λ k lt up idle. kept_none edges rs k j r (ne k idle) e (w.forward k lt up (was k idle));
      backward = λ k lt down idle rest. kept_none edges rs k j r (ne k idle) e
          (w.backward k lt down (was k idle)
          (not_true (is_marked waiting k) (λ t. true≢false (sym (more.kept k t) ∙ rest))));
    }

-- ---- a backward edge that has been looked at

pub worklist_looked : (edges : List Edge) (order : List ℕ) (ready waiting : List Bool) (rs : List Entry) (k : ℕ)
    → IsWorklist edges order ready waiting rs → k < length edges → AppendsNothing edges rs k
    → IsWorklist edges order ready (set waiting k false) rs
worklist_looked edges order ready waiting rs k w lt none =
    let inside : k < length waiting = (let l = w.one_waiting_each in omega (arith, l, lt)) in
    let P : ℕ → Type 0 = λ j. AppendsNothing edges rs j in
    record {
      one_ready_each = w.one_ready_each;
      one_waiting_each = length-set waiting k false ∙ w.one_waiting_each;
      only_backward = λ j t. w.only_backward j (cleared waiting k j inside t).1;
      forward = w.forward;
      backward = λ j in_range down idle rest. elim (cases_eq j k) as (λ _. AppendsNothing edges rs j) [
        | inl e ↦ subst P (sym e) none
        | inr ne ↦ w.backward j in_range down idle (sym (set_elsewhere waiting k j false ne) ∙ rest)
      ];
    }

-- ---- a variable whose forward edges have been looked at

pub worklist_passed : (vars : ℕ) (edges : List Edge) (order : List ℕ) (ready waiting : List Bool) (rs : List Entry)
    (place : ℕ) → IsConstraintGraph (record { vars = vars; edges = edges }) → NamesEachOnce vars order
    → place < length order → IsWorklist edges order ready waiting rs
    → All (λ k. is_forward order (edge_at edges k) ≡ true → AppendsNothing edges rs k)
    (leaving edges (get_or order place 0))
    → BackwardOnesWait edges order (leaving edges (get_or order place 0)) waiting
    → IsWorklist edges order (set ready place false) waiting rs
worklist_passed vars edges order ready waiting rs place s o lt w quiet wait =
    let v : ℕ = get_or order place 0 in
    let tail : (k : ℕ) → k < length edges → place_in order (edge_at edges k).from ≡ place
    → In k (leaving edges v) =
    λ k in_range e. leaves_tail edges k v in_range
    (sym (at_place order (edge_at edges k).from (tail_at vars edges order k s o in_range))
    ∙ ap (λ n. get_or order n 0) e) in
    let Quiet : ℕ → Type 0 = λ k. is_forward order (edge_at edges k) ≡ true → AppendsNothing edges rs k in
    let Waits : ℕ → Type 0 = λ k. is_forward order (edge_at edges k) ≡ false → is_marked waiting k ≡ true in
    record {
      one_ready_each = length-set ready place false ∙ w.one_ready_each;
      one_waiting_each = w.one_waiting_each;
      only_backward = w.only_backward;
      forward = λ k in_range up idle. elim (cases_eq (place_in order (edge_at edges k).from) place)
          as (λ _. AppendsNothing edges rs k) [
            | inl e ↦ at_member Quiet (leaving edges v) k quiet (tail k in_range e) up
            | inr ne ↦
                w.forward k in_range up
                (sym (set_elsewhere ready place (place_in order (edge_at edges k).from) false ne)
                ∙ idle)
          ];
      backward = λ k in_range down idle rest. elim (cases_eq (place_in order (edge_at edges k).from) place)
          as (λ _. AppendsNothing edges rs k) [
            | inl e ↦
                absurd (true≢false (sym (at_member Waits (leaving edges v) k wait (tail k in_range e) down) ∙ rest))
            | inr ne ↦
                w.backward k in_range down
                (sym (set_elsewhere ready place (place_in order (edge_at edges k).from) false ne) ∙ idle) rest
          ];
    }

-- more edges wait
pub worklist_waits : (edges : List Edge) (order : List ℕ) (ready waiting waiting' : List Bool) (rs : List Entry)
    → IsWorklist edges order ready waiting rs → WaitToo edges order waiting waiting'
    → IsWorklist edges order ready waiting' rs
worklist_waits edges order ready waiting waiting' rs w more = record {
  one_ready_each = w.one_ready_each;
  one_waiting_each = more.same_length ∙ w.one_waiting_each;
  only_backward = λ k t. elim (more.only_backward k t) as (λ _. is_forward order (edge_at edges k) ≡ false)
      [ inl m ↦ w.only_backward k m | inr down ↦ down ];
  forward = w.forward;
  backward = λ k lt down idle rest. w.backward k lt down idle
      (not_true (is_marked waiting k) (λ t. true≢false (sym (more.kept k t) ∙ rest)));
}

-- after the looks at a variable's forward edges its place is no longer ready
pub passed_place : (order : List ℕ) (vars place : ℕ) (edges : List Edge) (numbers : List ℕ) (old mid : List Bool)
    (rs : List Entry) → NamesEachOnce vars order → place < length order → length mid ≡ length order
    → HasLookedForward edges order numbers (get_or order place 0) old mid rs
    → HasLookedAtPlace place old (set mid place false)
passed_place order vars place edges numbers old mid rs o lt l h =
    let here : place_in order (get_or order place 0) ≡ place =
    place_at order place (IsDistinct-from_pairs order o.once) lt in
    record {
      done = set_here mid place false (let x = l in omega (arith, x, lt));
      before = λ n less. set_elsewhere mid place n false (λ e. absurd (omega (arith, e, less)))
          ∙ h.after n (let x = here in omega (arith, x, less));
    }

-- ---- ahead of the backward part's looks

-- the backward edges from a number on whose tails are ready wait
abbrev pub AheadWait : List Edge → List ℕ → List Bool → List Bool → ℕ → Type 0
AheadWait edges order ready waiting at = (k : ℕ) → at ≤ k → k < length edges
    → is_forward order (edge_at edges k) ≡ false → has_ready_tail edges order ready k ≡ true
    → is_marked waiting k ≡ true

pub ahead_looked : (edges : List Edge) (order : List ℕ) (ready waiting : List Bool) (at k : ℕ)
    → AheadWait edges order ready waiting at → at ≤ k → AheadWait edges order ready (set waiting k false) (k + 1)
ahead_looked edges order ready waiting at k a le j low lt down t =
    set_elsewhere waiting k j false (λ e. absurd (omega (arith, e, low))) ∙ a j (omega (arith, low, le)) lt down t

pub ahead_raised : (vars : ℕ) (edges : List Edge) (order : List ℕ) (ready waiting waiting' : List Bool) (at v : ℕ)
    → IsConstraintGraph (record { vars = vars; edges = edges }) → NamesEachOnce vars order → v < vars
    → AheadWait edges order ready waiting at → WaitToo edges order waiting waiting'
    → (is_marked ready (place_in order v) ≡ false → BackwardOnesWait edges order (leaving edges v) waiting')
    → AheadWait edges order (set ready (place_in order v) true) waiting' at
ahead_raised vars edges order ready waiting waiting' at v s o small a more wait j low lt down t =
    let tail : ℕ = (edge_at edges j).from in
    let Waits : ℕ → Type 0 = λ k. is_forward order (edge_at edges k) ≡ false → is_marked waiting' k ≡ true in
    elim (set_only ready (place_in order v) (place_in order tail) t) as (λ _. is_marked waiting' j ≡ true) [
      | inl m ↦ more.kept j (a j low lt down m)
      | inr e ↦ elim (cases_Bool (is_marked ready (place_in order v))) as (λ _. is_marked waiting' j ≡ true) [
        | inl was ↦ more.kept j (a j low lt down (ap (is_marked ready) e ∙ was))
        | inr was_not ↦ at_member Waits (leaving edges v) j (wait was_not)
            (leaves_tail edges j v lt
            (one_at_place order tail v (tail_at vars edges order j s o lt) (In-from_contains order v (o.each v small))
            e)) down
      ]
    ]

-- ---- sweeping changes no label, so it leaves a worklist one

pub worklist_trimmed : (edges : List Edge) (order : List ℕ) (ready waiting : List Bool) (floor : Option ℕ)
    (old new : Held) → IsWorklist edges order ready waiting old.raises → IsTrimmed floor old new
    → IsWorklist edges order ready waiting new.raises
worklist_trimmed edges order ready waiting floor old new w t =
    let P : Held → Type 0 = λ h. IsWorklist edges order ready waiting h.raises in
    let Q : List Entry → Type 0 = λ rs. IsWorklist edges order ready waiting rs in
    elim t as (λ _. IsWorklist edges order ready waiting new.raises) [
      | inl same ↦ subst P (sym same) w
      | inr x ↦ (
          let swept : IsSwept old new = x.1 in
          let part : List Entry = kept_part swept.keeps old.raises in
          let alike : TellAlike part old.raises = part_alike old.vars swept.keeps old.raises swept.older swept.chains in
          let back : TellAlike old.raises part = λ v. sym (alike v) in
          subst Q (sym swept.raises) (record {
            one_ready_each = w.one_ready_each;
            one_waiting_each = w.one_waiting_each;
            only_backward = w.only_backward;
            forward = λ k lt up idle. leaves_too (edge_at edges) old.raises part k back (w.forward k lt up idle);
            backward = λ k lt down idle rest. leaves_too (edge_at edges) old.raises part k back
                (w.backward k lt down idle rest);
          }))
    ]

-- the edges that leave a variable have it as their tail
pub leaving_tails : (edges : List Edge) (v : ℕ) → All (λ k. (edge_at edges k).from ≡ v) (leaving edges v)
leaving_tails edges v k d lt =
    eqb-true (edge_at edges (get_or (leaving edges v) k d)).from v
    (In-filter (λ j. eqb (edge_at edges j).from v) (get_or (leaving edges v) k d) (range_with_len 0 (length edges))
    (In-at (leaving edges v) k d lt)).1

-- the numbers of the edges that leave a variable, of a list that is the graph's
pub all_in_range : (edges es : List Edge) (v : ℕ) (ns : List ℕ) → es ≡ edges → ns ≡ leaving edges v
    → All (λ k. k < length es) ns
all_in_range edges es v ns same is =
    let N : List ℕ → Type 0 = λ l. All (λ k. k < length es) l in
    let E : List Edge → Type 0 = λ l. All (λ k. k < length l) (leaving edges v) in
    subst N (sym is) (subst E (sym same) (leaving_in_range edges v))

pub backward_wait : (edges es : List Edge) (order : List ℕ) (v : ℕ) (ns : List ℕ) (waiting : List Bool) → es ≡ edges
    → ns ≡ leaving edges v → BackwardOnesWait es order ns waiting
    → BackwardOnesWait edges order (leaving edges v) waiting
backward_wait edges es order v ns waiting same is h =
    let N : List ℕ → Type 0 = λ l. BackwardOnesWait es order l waiting in
    let E : List Edge → Type 0 = λ l. BackwardOnesWait l order (leaving edges v) waiting in
    subst E same (subst N is h)
