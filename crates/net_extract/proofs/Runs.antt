-- Lists of nodes: one that is added to a portion, and portions that are put in.
use Rattle.std.proofs.Common.{◌≡◌, ℕ, ◌+◌, ◌-◌, ◌<◌, ◌≤◌, List, [], ◌∷◌, ◌++◌, length, set, All, get_or, take, drop}
use Rattle.std.proofs.Common.{Contains, inl, inr, refl, sym, ◌∙◌, ap, subst, arith, length-append}
use Rattle.std.proofs.Common.{length-drop, length-set, length-take, get_or-set_other, get_or-set_same}
use Rattle.std.proofs.lemmas.{Bool.{cases_eq, cases_lt}, Int.clamps, List.{get_or-append-add, get_or-drop, get_or-take}}
use Rattle.std.proofs.lemmas.List.{get_or_append_left, get_or_default, get_or_past}
use Rattle.std.proofs.lemmas.List.Elements.{All-push, All-weaker, Contains-get_or}
use Rattle.box_tree.specs.Found.{AreGathered}
use Rattle.graph_search.proofs.Neighbours.{none_in_empty}
use Rattle.net_extract.specs.declared.lists.{Lists.Lists, Owned.Owned, Portion.Portion, Run.Run}
use Rattle.net_extract.specs.Lists.{AreLists, AreWithin, HasList, IsAmong, IsListOf, IsListed, IsPortion}
use Rattle.net_extract.specs.Lists.{IsWithin, no_run, run_of}

-- ---- nodes that are added

-- they stand after those before
among_old : (nodes more : List ℕ) (run : Run) (y : ℕ) → run.end ≤ length nodes → IsAmong nodes run y
    → IsAmong (nodes ++ more) run y
among_old nodes more run y within h =
    let b = h.before in
    record { e = h.e; from = h.from; before = h.before; is = get_or_append_left nodes more 0 h.e (omega arith) ∙ h.is }

old_among : (nodes more : List ℕ) (run : Run) (y : ℕ) → run.end ≤ length nodes → IsAmong (nodes ++ more) run y
    → IsAmong nodes run y
old_among nodes more run y within h =
    let b = h.before in
    record {
      e = h.e;
      from = h.from;
      before = h.before;
      is = sym (get_or_append_left nodes more 0 h.e (omega arith)) ∙ h.is;
    }

-- a list is as it was
pub list_kept : (Is : ℕ → Type 0) (nodes more : List ℕ) (run : Run) → IsListOf Is nodes run
    → IsListOf Is (nodes ++ more) run
list_kept Is nodes more run l =
    let len = length-append nodes more in
    let w = l.within.among in
    record {
      within = record { among = omega arith; few = l.within.few };
      sound = λ y h. l.sound y (old_among nodes more run y l.within.among h);
      complete = λ y t. among_old nodes more run y l.within.among (l.complete y t);
    }

-- those that were added are a list
pub list_new : (Is : ℕ → Type 0) (nodes found : List ℕ) (run : Run) → run.start ≡ length nodes
    → run.end ≡ length nodes + length found → length found ≤ 16 → AreGathered Is [] found
    → IsListOf Is (nodes ++ found) run
list_new Is nodes found run first last few g =
    let len = length-append nodes found in
    record {
      within = record { among = omega arith; few = omega arith };
      sound = λ y h.
          (let f = h.from in
          let b = h.before in
          let i : ℕ = h.e - length nodes in
          let at : h.e ≡ length nodes + i = omega arith in
          let lt : i < length found = omega arith in
          let P : ℕ → Type 0 = Contains found in
          let is : get_or found i 0 ≡ y = sym (get_or-append-add nodes found i 0)
          ∙ ap (λ (e : ℕ). get_or (nodes ++ found) e 0) (sym at) ∙ h.is in
          elim (g.sound y (subst P is (Contains-get_or found i 0 lt))) [
            | inl none ↦ absurd (none_in_empty y [] refl none)
            | inr is ↦ is
          ]);
      complete = λ y t.
          (let c : Contains found y = g.complete y t in
          let lt = c.1 in
          record {
            e = length nodes + c.0;
            from = omega arith;
            before = omega arith;
            is = get_or-append-add nodes found c.0 0 ∙ get_or_default found c.0 0 y c.1 ∙ c.2;
          });
    }

-- a list stands among nodes that were put after others
pub list_shifted : (Is : ℕ → Type 0) (before nodes : List ℕ) (run moved : Run)
    → moved.start ≡ length before + run.start → moved.end ≡ length before + run.end → IsListOf Is nodes run
    → IsListOf Is (before ++ nodes) moved
list_shifted Is before nodes run moved first last l =
    let len = length-append before nodes in
    let w = l.within.among in
    let few = l.within.few in
    let there : (e : ℕ) → get_or (before ++ nodes) (length before + e) 0 ≡ get_or nodes e 0 =
    λ e. get_or-append-add before nodes e 0 in
    record {
      within = record { among = omega arith; few = omega arith };
      sound = λ y h. (let f = h.from in
          let b = h.before in
          let e : ℕ = h.e - length before in
          let at : h.e ≡ length before + e = omega arith in
          l.sound y (record {
            e = e;
            from = omega arith;
            before = omega arith;
            is = sym (there e) ∙ ap (λ (n : ℕ). get_or (before ++ nodes) n 0) (sym at) ∙ h.is;
          }));
      complete = λ y t. (let h = l.complete y t in
          let f = h.from in
          let b = h.before in
          record { e = length before + h.e; from = omega arith; before = omega arith; is = there h.e ∙ h.is });
    }

-- ---- portions

-- a list more
pub portion_more : (Is : ℕ → ℕ → Type 0) (old new : Portion) (found : List ℕ) (list : Owned)
    → new.lists.items ≡ old.lists.items ++ list ∷ [] → new.nodes.items ≡ old.nodes.items ++ found
    → list.run.start ≡ length old.nodes.items → list.run.end ≡ length old.nodes.items + length found
    → length found ≤ 16 → AreGathered (Is list.owner) [] found → IsPortion Is old → IsPortion Is new
portion_more Is old new found list lists nodes first last few g h =
    let P : List ℕ → Type 0 = λ ns. All (λ (o : Owned). IsListOf (Is o.owner) ns o.run) (old.lists.items ++ list ∷ []) in
    let Q : List Owned → Type 0 = All (λ (o : Owned). IsListOf (Is o.owner) new.nodes.items o.run) in
    subst Q (sym lists)
    (subst P (sym nodes)
    (All-push (λ (o : Owned). IsListOf (Is o.owner) (old.nodes.items ++ found) o.run) old.lists.items list
    (All-weaker (λ (o : Owned). IsListOf (Is o.owner) old.nodes.items o.run)
    (λ (o : Owned). IsListOf (Is o.owner) (old.nodes.items ++ found) o.run)
    (λ o l. list_kept (Is o.owner) old.nodes.items found o.run l) old.lists.items h)
    (list_new (Is list.owner) old.nodes.items found list.run first last few g)))

-- ---- lists of all numbers

-- where a list stands was noted
pub lists_set : (Is : ℕ → ℕ → Type 0) (count a : ℕ) (run : Run) (old new : Lists) → a < length old.runs.items
    → new.runs.items ≡ set old.runs.items a run → new.nodes.items ≡ old.nodes.items
    → IsListOf (Is a) old.nodes.items run → AreLists Is count old → AreLists Is count new
lists_set Is count a run old new lt runs nodes made h = record {
  counted = ap (λ (xs : List Run). length xs) runs ∙ length-set old.runs.items a run ∙ h.counted;
  each = λ b has. elim (cases_eq b a) [
    | inl same ↦
        (let at : run_of new b ≡ run = ap (λ (xs : List Run). get_or xs b no_run) runs
        ∙ ap (λ (k : ℕ). get_or (set old.runs.items a run) k no_run) same
        ∙ get_or-set_same old.runs.items a run no_run lt in
        let B : ℕ → Type 0 = λ k. IsListOf (Is k) old.nodes.items run in
        let R : Run → Type 0 = λ r. IsListOf (Is b) old.nodes.items r in
        let N : List ℕ → Type 0 = λ ns. IsListOf (Is b) ns (run_of new b) in
        subst N (sym nodes) (subst R (sym at) (subst B (sym same) made)))
    | inr other ↦
        (let at : run_of new b ≡ run_of old b = ap (λ (xs : List Run). get_or xs b no_run) runs
        ∙ get_or-set_other old.runs.items a b run no_run other in
        let H : Run → Type 0 = λ r. r.start ≤ r.end in
        let R : Run → Type 0 = λ r. IsListOf (Is b) old.nodes.items r in
        let N : List ℕ → Type 0 = λ ns. IsListOf (Is b) ns (run_of new b) in
        subst N (sym nodes) (subst R (sym at) (h.each b (subst H at has))))
  ];
}

-- only numbers that there are have lists
pub has_below : (lists : Lists) (a : ℕ) → HasList lists a → a < length lists.runs.items
has_below lists a has = elim (cases_lt a (length lists.runs.items)) [
  | inl lt ↦ lt
  | inr past ↦
      (let at : run_of lists a ≡ no_run = get_or_past lists.runs.items a no_run past in
      let start : (run_of lists a).start ≡ 1 = ap (λ (r : Run). r.start) at in
      let end : (run_of lists a).end ≡ 0 = ap (λ (r : Run). r.end) at in
      absurd (omega (arith, has, start, end)))
]

-- ---- one list, as it is read

in_part : (nodes : List ℕ) (first end y : ℕ) → end ≤ length nodes
    → Contains (take (end - first) (drop first nodes)) y
    → (e : ℕ) × (first ≤ e) × (e < end) × (get_or nodes e 0 ≡ y)
in_part nodes first end y le (i, lt, is) =
    let n = length-take (end - first) (drop first nodes) in
    let d = length-drop first nodes in
    let below : i < end - first = omega (arith, clamps) in (
      first + i,
      omega arith,
      omega arith,
      sym (get_or_default nodes (first + i) y 0 (omega arith))
          ∙ sym (get_or-drop first nodes i y) ∙ sym (get_or-take (end - first) (drop first nodes) i y below) ∙ is,
    )

of_part : (nodes : List ℕ) (first end e y : ℕ) → end ≤ length nodes → first ≤ e → e < end → get_or nodes e 0 ≡ y
    → Contains (take (end - first) (drop first nodes)) y
of_part nodes first end e y le from before is =
    let n = length-take (end - first) (drop first nodes) in
    let d = length-drop first nodes in
    let i : ℕ = e - first in
    let there : first + i ≡ e = omega arith in (
      i,
      omega (arith, clamps),
      get_or-take (end - first) (drop first nodes) i y (omega arith)
          ∙ get_or-drop first nodes i y ∙ ap (λ (j : ℕ). get_or nodes j y) there
          ∙ get_or_default nodes e y 0 (omega arith) ∙ is,
    )

-- the nodes of a list that was read
pub list_read : (lists : Lists) (a : ℕ) (run : Run) (given : List ℕ) → run ≡ run_of lists a → run.start ≤ run.end
    → given ≡ lists.nodes.items → AreWithin lists
    → HasList lists a
    × (AreGathered (IsListed lists a) [] (take (run.end - run.start) (drop run.start given))
    × (length (take (run.end - run.start) (drop run.start given)) ≤ 16))
list_read lists a run given is some same within =
    let nodes = lists.nodes.items in
    let H : Run → Type 0 = λ r. r.start ≤ r.end in
    let has : HasList lists a = subst H is some in
    let W : Run → Type 0 = λ r. IsWithin nodes r in
    let w : IsWithin nodes run = subst W (sym is) (within a has) in
    let A : ℕ → Run → Type 0 = λ y r. IsAmong nodes r y in
    let few = w.few in
    let n = length-take (run.end - run.start) (drop run.start given) in
    let G : List ℕ → Type 0 = λ ns. AreGathered (IsListed lists a) [] (take (run.end - run.start) (drop run.start ns)) in (
      has,
      (
        subst G (sym same) (record {
          sound = λ y c.
              (let at = in_part nodes run.start run.end y w.among c in
              inr (has, subst (A y) is (record { e = at.0; from = at.1; before = at.2; is = at.3 })));
          kept = λ y c. absurd (none_in_empty y [] refl c);
          complete = λ y h.
              (let at : IsAmong nodes run y = subst (A y) (sym is) h.1 in
              of_part nodes run.start run.end at.e y w.among at.from at.before at.is);
        }),
        omega (arith, clamps),
      ),
    )

-- what is listed belongs to its number, and all that does is listed
pub listed_as : (Is : ℕ → ℕ → Type 0) (count a : ℕ) (lists : Lists) (found : List ℕ) → AreLists Is count lists
    → HasList lists a → AreGathered (IsListed lists a) [] found → AreGathered (Is a) [] found
listed_as Is count a lists found h has g =
    let l = h.each a has in
    record {
      sound = λ y c. elim (g.sound y c) [ inl o ↦ inl o | inr at ↦ inr (l.sound y at.1) ];
      kept = g.kept;
      complete = λ y is. g.complete y (has, l.complete y is);
    }
