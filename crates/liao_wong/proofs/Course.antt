-- The course of the rounds: one round after another, and how each of them goes on, ends or stops.
use Rattle.std.proofs.Common.{◌≡◌, ℕ, zero, suc, ◌+◌, ◌<◌, ◌≤◌, Option, Bool, true, false, not, List, [], ◌∷◌, ◌++◌}
use Rattle.std.proofs.Common.{inl, inr, length, get_or, refl, sym, ap, subst, ◌∙◌, arith, eq-eqb, eqb, length-append}
use Rattle.std.proofs.lemmas.Bool.{cond-true, cond-false, cases_eq, cond_both, ne_eqb, true≢false}
use Rattle.std.{proofs.lemmas.List.{nil_from_length, FromFn.length-range_with_len}, specs.List.{filter, range_with_len}}
use Rattle.cons_graph.specs.{declared.edges.Edge.Edge, Constraints.{Constraints, IsConstraintGraph}}
use Rattle.cons_graph.specs.EdgeNumbers.{edge_at}
use Rattle.round_log.specs.{declared.log.Entry.Entry, Orders.NamesEachOnce, Looks.{place_in, is_forward}}
use Rattle.round_log.specs.{Looks.backward_numbers, Rounds.{Progress, Schedule, schedule_of, forward_part, round}}
use Rattle.round_log.specs.{Rounds.{one_more, after_rounds, IsQuietAfter}, Kept.kept_part, Told.TellAlike}
use Rattle.round_log.proofs.{Chains.In, Members.IsDistinct, Parts.{Keeps, forward_keeps, BackwardGives, backward_gives}}
use Rattle.round_log.proofs.{Alike.{ProgressAlike, round_alike}, Kept.{part_alike, part_log}, RoundSteps.going_start}
use Rattle.round_log.proofs.{RoundSteps.{round_gives, IsRoundOn, busy_bound}, Planned.{planned, In-at, place_of_In}}
use Rattle.round_log.proofs.{Planned.{In-from_contains, IsDistinct-from_pairs}, Ends.{GoingOf, LogOf, back_of}}
use Rattle.liao_wong.specs.{Held.{Held, ArePlaces}, Going.IsReady, Sweeping.{IsSwept, IsTrimmed}, Running.StartsEmpty}
use Rattle.liao_wong.specs.Running.{IsStoppedLog, IsLogFor, HasCome, IsEndLog}

pub has_started : (g : Constraints) (order : List ℕ) (floor : Option ℕ) (held : Held) → StartsEmpty g held
    → HasCome g order 0 floor held
has_started g order floor held s =
    let P : List Entry → Type 0 = λ rs. IsLogFor g order floor rs [] in
    record {
      vars = s.vars;
      all = [];
      here = refl;
      going = going_start (schedule_of g.edges order) (back_of g order) (length g.edges);
      held_for = subst P (sym s.none) (record { log = tt; alike = λ v. refl; whole = λ _. refl });
      busy = λ m lt. absurd (omega arith);
      few = omega arith;
    }

-- the forward part of a round keeps a log one
forward_log : (g : Constraints) (order : List ℕ) (rs : List Entry) → IsConstraintGraph g → NamesEachOnce g.vars order
    → LogOf g order rs → LogOf g order (forward_part (schedule_of g.edges order) rs)
forward_log g order rs s o l =
    let kept : Keeps (edge_at g.edges) (back_of g order) (length g.edges) 0 rs
    (forward_part (schedule_of g.edges order) rs) =
    forward_keeps (edge_at g.edges) (back_of g order) (length g.edges) 0 rs (schedule_of g.edges order).forward
    (planned g order s o).forward_edges l (λ k i. inl refl) in
    kept.log

-- after the forward part the backward one may go on
pub ready_between : (g : Constraints) (order places : List ℕ) (n : ℕ) (floor : Option ℕ) (held : Held)
    → IsConstraintGraph g → NamesEachOnce g.vars order → ArePlaces order g.vars places → HasCome g order n floor held
    → IsReady g.vars g.edges order places
    (record { vars = g.vars; raises = forward_part (schedule_of g.edges order) held.raises })
ready_between g order places n floor held s o p h =
    record {
      shape = s;
      names = o;
      places_are = p;
      same_vars = refl;
      log = forward_log g order held.raises s o h.held_for.log;
    }

-- a round of the working log
abbrev HeldGives : Constraints → List ℕ → List Entry → Progress → Type 0
HeldGives g order rs out = BackwardGives (edge_at g.edges) (back_of g order) (length g.edges) 0
    (forward_part (schedule_of g.edges order) rs) (schedule_of g.edges order).backward out

held_gives : (g : Constraints) (order : List ℕ) (rs : List Entry) (out : Progress) → IsConstraintGraph g
    → NamesEachOnce g.vars order → LogOf g order rs → out ≡ round (schedule_of g.edges order) rs
    → HeldGives g order rs out
held_gives g order rs out s o l e =
    let p : Schedule = schedule_of g.edges order in
    let P : Progress → Type 0 = λ x. HeldGives g order rs x in
    subst P (sym e)
    (backward_gives (edge_at g.edges) (back_of g order) (length g.edges) 0 (forward_part p rs) p.backward
    (planned g order s o).backward_edges (forward_log g order rs s o l) (λ k i. inl refl))

-- the next round of all raises, and that it goes as the one of the working log
record IsNext (g : Constraints) (order : List ℕ) (n : ℕ) (rs all : List Entry) (out : Progress) : Type 0 where
  now : after_rounds (schedule_of g.edges order) (suc n) ≡ round (schedule_of g.edges order) all
  alike : ProgressAlike (forward_part (schedule_of g.edges order) rs) (forward_part (schedule_of g.edges order) all)
      out (round (schedule_of g.edges order) all)
  held : HeldGives g order rs out

next_is : (g : Constraints) (order : List ℕ) (n : ℕ) (floor : Option ℕ) (held : Held) (out : Progress)
    → IsConstraintGraph g → NamesEachOnce g.vars order → (h : HasCome g order n floor held)
    → out ≡ round (schedule_of g.edges order) held.raises → IsNext g order n held.raises h.all out
next_is g order n floor held out s o h e =
    let p : Schedule = schedule_of g.edges order in
    let P : Progress → Type 0 = λ x. ProgressAlike (forward_part p held.raises) (forward_part p h.all) x
    (round p h.all) in
    record {
      now = ap (one_more p) h.here;
      alike = subst P (sym e) (round_alike p held.raises h.all h.held_for.alike);
      held = held_gives g order held.raises out s o h.held_for.log e;
    }

pub stopped_here : (g : Constraints) (order : List ℕ) (n : ℕ) (floor : Option ℕ) (held : Held) (raises : List Entry)
    → IsConstraintGraph g → NamesEachOnce g.vars order → HasCome g order n floor held
    → record { raises = raises; stopped = true } ≡ round (schedule_of g.edges order) held.raises
    → IsStoppedLog g order raises
stopped_here g order n floor held raises s o h e =
    let p : Schedule = schedule_of g.edges order in
    let next = next_is g order n floor held (record { raises = raises; stopped = true }) s o h e in
    elim next.held as (λ _. IsStoppedLog g order raises) [
      | inl on ↦ absurd (true≢false on.0)
      | inr t ↦ record {
        at_raise = t.1;
        all = (round p h.all).raises;
        stops = record {
          rounds = suc n;
          stopped = ap (λ x. x.stopped) next.now
              ∙ sym next.alike.stopped;
          reached = ap (λ x. x.raises) next.now;
        };
        newest = next.alike.newest refl;
      }
    ]

-- the rounds of all raises go on too
went_on : (g : Constraints) (order : List ℕ) (n : ℕ) (floor : Option ℕ) (held : Held) (raises : List Entry)
    → IsConstraintGraph g → NamesEachOnce g.vars order → (h : HasCome g order n floor held)
    → record { raises = raises; stopped = false } ≡ round (schedule_of g.edges order) held.raises
    → IsRoundOn (schedule_of g.edges order) (back_of g order) (length g.edges) n h.all
    (round (schedule_of g.edges order) h.all).raises
went_on g order n floor held raises s o h e =
    let p : Schedule = schedule_of g.edges order in
    let next = next_is g order n floor held (record { raises = raises; stopped = false }) s o h e in
    elim (round_gives p (back_of g order) (length g.edges) n h.all (planned g order s o) h.going)
    as (λ _. IsRoundOn p (back_of g order) (length g.edges) n h.all (round p h.all).raises) [
      | inl on ↦ on.1
      | inr t ↦ absurd (true≢false (sym t.0 ∙ sym next.alike.stopped))
    ]

-- the working log after a round that goes on
held_next : (g : Constraints) (order : List ℕ) (n : ℕ) (floor : Option ℕ) (held : Held) (raises : List Entry)
    → IsConstraintGraph g → NamesEachOnce g.vars order → (h : HasCome g order n floor held)
    → record { raises = raises; stopped = false } ≡ round (schedule_of g.edges order) held.raises
    → IsLogFor g order floor raises (round (schedule_of g.edges order) h.all).raises
held_next g order n floor held raises s o h e =
    let p : Schedule = schedule_of g.edges order in
    let next = next_is g order n floor held (record { raises = raises; stopped = false }) s o h e in
    record {
      log = elim next.held as (λ _. LogOf g order raises) [
        | inl on ↦ on.1.log
        | inr t ↦ absurd (true≢false (sym t.0))
      ];
      alike = next.alike.grow.alike;
      whole = λ never. ap (λ x. x.raises) e ∙ ap (λ rs. (round p rs).raises) (h.held_for.whole never);
    }

-- a log that has grown to the same length is the same
same_from_length : (raises mid new : List Entry) → raises ≡ new ++ mid → length raises ≡ length mid → raises ≡ mid
same_from_length raises mid new e l =
    let none : new ≡ [] = nil_from_length new (let a = ap length e in omega (arith, a, l, length-append new mid)) in
    e ∙ ap (λ x. x ++ mid) none

pub ended_here : (g : Constraints) (order : List ℕ) (n : ℕ) (floor : Option ℕ) (held : Held) (raises : List Entry)
    → IsConstraintGraph g → NamesEachOnce g.vars order → HasCome g order n floor held
    → record { raises = raises; stopped = false } ≡ round (schedule_of g.edges order) held.raises
    → length raises ≡ length (forward_part (schedule_of g.edges order) held.raises)
    → IsEndLog g order (n + 1) floor raises
ended_here g order n floor held raises s o h e l =
    let p : Schedule = schedule_of g.edges order in
    let all : List Entry = (round p h.all).raises in
    let next = next_is g order n floor held (record { raises = raises; stopped = false }) s o h e in
    let on : IsRoundOn p (back_of g order) (length g.edges) n h.all all = went_on g order n floor held raises s o h e in
    let long : length all ≡ length (forward_part p h.all) = (let x = next.alike.grow.grown in omega (arith, x, l)) in
    let same : all ≡ forward_part p h.all =
    same_from_length all (forward_part p h.all) on.extends.new on.extends.split long in
    let now : after_rounds p (suc n) ≡ round p h.all = next.now in
    let one : n + 1 ≡ suc n = omega arith in
    let there : after_rounds p (n + 1) ≡ round p h.all = ap (after_rounds p) one ∙ now in
    record {
      all = all;
      ended = record {
        before = n;
        count = one;
        not_stopped = ap (λ x. x.stopped) there ∙ sym next.alike.stopped;
        reached = ap (λ x. x.raises) there;
        quiet = ap (λ x. x.raises) now ∙ same ∙ ap (forward_part p) (sym (ap (λ x. x.raises) h.here));
        busy_before = h.busy;
      };
      held_for = held_next g order n floor held raises s o h e;
    }

pub goes_on : (g : Constraints) (order : List ℕ) (n vars : ℕ) (floor : Option ℕ) (held : Held) (raises : List Entry)
    → IsConstraintGraph g → NamesEachOnce g.vars order → HasCome g order n floor held → vars ≡ g.vars
    → record { raises = raises; stopped = false } ≡ round (schedule_of g.edges order) held.raises
    → (length raises ≡ length (forward_part (schedule_of g.edges order) held.raises) → ⊥)
    → HasCome g order (n + 1) floor (record { vars = vars; raises = raises })
goes_on g order n vars floor held raises s o h v e l =
    let p : Schedule = schedule_of g.edges order in
    let all : List Entry = (round p h.all).raises in
    let next = next_is g order n floor held (record { raises = raises; stopped = false }) s o h e in
    let on : IsRoundOn p (back_of g order) (length g.edges) n h.all all = went_on g order n floor held raises s o h e in
    let now : after_rounds p (suc n) ≡ round p h.all = next.now in
    let one : suc n ≡ n + 1 = omega arith in
    let G : ℕ → Type 0 = λ k. GoingOf g order k all in
    let S : Bool → Progress = λ b. record { raises = all; stopped = b } in
    let busy_now : all ≡ forward_part p h.all → ⊥ =
    λ x. l (let y = ap length x in let z = next.alike.grow.grown in omega (arith, y, z)) in
    record {
      vars = v;
      all = all;
      here = ap (after_rounds p) (sym one) ∙ now ∙ ap S (sym next.alike.stopped);
      going = subst G one on.going;
      held_for = held_next g order n floor held raises s o h e;
      busy = λ m lt q. elim (cases_eq m n) as (λ _. ⊥) [
        | inr ne ↦ h.busy m (omega arith) q
        | inl same ↦ (
            let Q : ℕ → Type 0 = λ k. IsQuietAfter p k in
            busy_now (sym (ap (λ x. x.raises) now) ∙ subst Q same q ∙ ap (forward_part p) (ap (λ x. x.raises) h.here)))
      ];
      few = (let b = busy_bound p (back_of g order) (length g.edges) n h.all all (planned g order s o) on busy_now in
          omega (arith, b));
    }

-- a log that is trimmed tells the same
pub trimmed : (g : Constraints) (order : List ℕ) (n : ℕ) (floor : Option ℕ) (old new : Held)
    → HasCome g order n floor old → IsTrimmed floor old new → HasCome g order n floor new
trimmed g order n floor old new h t =
    let P : Held → Type 0 = λ x. HasCome g order n floor x in
    elim t as (λ _. HasCome g order n floor new) [
      | inl same ↦ subst P (sym same) h
      | inr w ↦ (
          let swept : IsSwept old new = w.1 in
          let F : List Entry → Type 0 = λ rs. IsLogFor g order floor rs h.all in
          let part : List Entry = kept_part swept.keeps old.raises in
          let alike : TellAlike part old.raises = part_alike old.vars swept.keeps old.raises swept.older swept.chains in
          record {
            vars = swept.same_vars ∙ h.vars;
            all = h.all;
            here = h.here;
            going = h.going;
            held_for = subst F (sym swept.raises) (record {
              log = part_log old.vars (edge_at g.edges) (back_of g order) (length g.edges) swept.keeps old.raises
                  swept.older swept.chains.back h.held_for.log;
              alike = λ v. alike v ∙ h.held_for.alike v;
              whole = λ never. absurd (w.0 never);
            });
            busy = h.busy;
            few = h.few;
          })
    ]

-- there are no more backward edges than edges
pub filter_le : (p : ℕ → Bool) (xs : List ℕ) → length (filter p xs) ≤ length xs
filter_le p [] = omega arith
filter_le p (x ∷ xs) = cond_both (p x) (x ∷ filter p xs) (filter p xs) (λ l. length l ≤ suc (length xs))
    (λ _. (let k = filter_le p xs in omega (arith, k))) (λ _. (let k = filter_le p xs in omega (arith, k)))

pub few_backward : (edges : List Edge) (order : List ℕ) → length (backward_numbers edges order) ≤ length edges
few_backward edges order =
    omega (
      arith,
      filter_le (λ k. not (is_forward order (edge_at edges k)))
          (range_with_len 0 (length edges)),
      length-range_with_len 0 (length edges),
    )

-- ---- places

pub place_at : (order : List ℕ) (j : ℕ) → IsDistinct order → j < length order → place_in order (get_or order j 0) ≡ j
place_at [] j d lt = absurd (omega arith)
place_at (u ∷ us) zero d lt = cond-true (eqb u u) 0 (suc (place_in us u)) (eq-eqb u u refl)
place_at (u ∷ us) (suc j) d lt =
    let v : ℕ = get_or us j 0 in
    cond-false (eqb u v) 0 (suc (place_in us v))
    (ne_eqb u v (λ e. d.0 (let P : ℕ → Type 0 = λ x. In x us in subst P (sym e) (In-at us j 0 (omega arith)))))
    ∙ ap suc (place_at us j d.1 (omega arith))

pub places_done : (order places : List ℕ) (n : ℕ) → NamesEachOnce (length order) order → length places ≡ length order
    → length order ≤ n → ((j : ℕ) → j < n → get_or places (get_or order j 0) 0 ≡ j)
    → ArePlaces order (length order) places
places_done order places n o l le h = (
  l,
  λ v lt.
      let w = place_of_In order v (In-from_contains order v (o.each v lt)) in
      let small : w.0 < n = (let a = w.1 in omega (arith, a, le)) in
      ap (λ u. get_or places u 0) (sym (w.2 0)) ∙ h w.0 small
      ∙ sym (place_at order w.0 (IsDistinct-from_pairs order o.once) w.1) ∙ ap (place_in order) (w.2 0),
)
