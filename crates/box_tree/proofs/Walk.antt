-- Steps of the walk through an unvisited tree.
use Rattle.std.proofs.Common.{◌≡◌, ◌≢◌, ℕ, ◌+◌, ◌<◌, ◌≤◌, Bool, false, true, Option, None, Some, List, [], ◌∷◌, ◌++◌}
use Rattle.std.proofs.Common.{length, set, get_or, drop, ◌⊎◌, inl, inr, refl, sym, ◌∙◌, ap, subst, arith, length-drop}
use Rattle.std.proofs.{Common.{length-set, get_or-set_other, get_or-set_same}, lemmas.Bool.{cases_lt, cases_eq}}
use Rattle.std.proofs.lemmas.{Bool.eqb-true, List.{drop_more, drop_all, drop-drop, get_or_default, get_or_read}}
use Rattle.std.specs.Prelude.{IsTrue, is_some, max, nat_eq, not}
use Rattle.box_tree.specs.declared.{query.Query.Query, entries.{Group.Group, Entry.Entry}, tree.OwnedParts.OwnedParts}
use Rattle.box_tree.specs.{Queries.Holds, Tree.{IsGroupOf, begin_of}}
use Rattle.box_tree.specs.UnvisitedTrees.{no_group, group_at, entry_in, begin_at, IsRead, IsOf, AreTreeParts, IsInRun}
use Rattle.box_tree.specs.UnvisitedTrees.{InExhausted, IsLeft, IsRunExhausted, IsVisitedAt, IsRunVisited, AreExhausted}
use Rattle.box_tree.specs.{UnvisitedTrees.{IsUnvisited, IsUnvisitedWithin}, Found.AreGathered}
use Rattle.box_tree.proofs.{Trees.group_here, Growth.{gathered_as, gathered_more, gathered_if}}

-- ---- tests

pub flag_read : (exhausted : List Bool) (at : ℕ) (b : Bool) → at < length exhausted → b ≡ get_or exhausted at b
    → b ≡ true → IsTrue (get_or exhausted at false)
flag_read exhausted at b lt read t = sym (get_or_read exhausted at b lt read false) ∙ t

-- a mark that was tested
pub left_by_test : (o : Option ℕ) (b : Bool) → is_some o ≡ not b → b ≡ true → o ≡ None
left_by_test None b test answer = refl
left_by_test (Some n) true test answer = cc
left_by_test (Some n) false test answer = cc

pub visited_by_test : (o : Option ℕ) (b : Bool) → is_some o ≡ not b → b ≡ false → o ≡ None → ⊥
visited_by_test o b test answer none = (let e : not b ≡ false = sym test ∙ ap (λ (x : Option ℕ). is_some x) none in cc)

-- ---- where runs begin

-- a group that was read
pub group_read : (parts : OwnedParts) (at : ℕ) (group : Group) → AreTreeParts parts → at < length parts.groups.items
    → group ≡ get_or parts.groups.items at group → IsRead parts at group
group_read parts at group t lt is =
    let groups = parts.groups.items in
    let end : ℕ = length parts.entries.items in
    let g : IsGroupOf parts.entries.items end group (drop (at + 1) groups) =
    group_here parts.entries.items end at groups group t.groups_of lt is in
    let left : length (drop (at + 1) groups) + (at + 1) ≡ length groups = omega (arith, length-drop (at + 1) groups) in
    let i = g.inside in
    record {
      is = sym (is ∙ get_or_default groups at group no_group lt);
      placed = g.placed;
      begins = ap (λ (gs : List Group). begin_of gs end) (drop_more groups at group lt)
          ∙ ap (λ (x : Group). x.start) (sym is);
      closes = ap (λ (gs : List Group). begin_of gs end) (sym (drop-drop group.inside (at + 1) groups)) ∙ g.closes;
      opens = g.opens;
      ends = g.ends;
      within = omega arith;
      bounded = g.within;
    }

-- ---- entries that are left, as far as the walk has come

pub record IsWalked (parts : OwnedParts) (query : Query) (marks : List (Option ℕ)) (before : List ℕ) (at : ℕ)
    (found : List ℕ) : Type 0 where
  pub within : at ≤ length parts.groups.items
  pub gathered : AreGathered (IsUnvisitedWithin parts query marks 0 (begin_at parts at)) before found

-- tags of places up to one more
more_within : (parts : OwnedParts) (query : Query) (marks : List (Option ℕ)) (first mid end y : ℕ) → mid ≤ end
    → IsUnvisitedWithin parts query marks first mid y → IsUnvisitedWithin parts query marks first end y
more_within parts query marks first mid end y le h = record {
  p = h.p;
  from = h.from;
  before = (let b = h.before in omega arith);
  tag = h.tag;
  holds = h.holds;
  left = h.left;
}

-- past a group with nothing to be found
pub walked_past : (parts : OwnedParts) (query : Query) (marks : List (Option ℕ)) (before : List ℕ) (at next : ℕ)
    (group : Group) (found : List ℕ) → next ≡ at + 1 + group.inside → IsRead parts at group
    → ((p : ℕ) → group.start ≤ p → p < group.start + group.count → Holds query (entry_in parts p)
    → IsLeft marks (entry_in parts p).tag → ⊥)
    → IsWalked parts query marks before at found → IsWalked parts query marks before next found
walked_past parts query marks before at next group found is_next g barren w =
    let here = g.begins in
    let after : begin_at parts next ≡ group.start + group.count = ap (begin_at parts) is_next ∙ g.closes in
    let l = g.within in
    record {
      within = omega arith;
      gathered = gathered_as (IsUnvisitedWithin parts query marks 0 (begin_at parts at))
          (IsUnvisitedWithin parts query marks 0 (begin_at parts next)) before found
          (λ y h. more_within parts query marks 0 (begin_at parts at) (begin_at parts next) y (omega arith) h)
          (λ y h. elim (cases_lt h.p group.start) [
            | inl lt ↦
                record { p = h.p; from = h.from; before = omega arith; tag = h.tag; holds = h.holds; left = h.left }
            | inr ge ↦
                (let b = h.before in absurd
                (barren h.p ge (omega arith) h.holds (subst (IsLeft marks) (sym h.tag) h.left)))
          ])
          w.gathered;
    }

-- past a leaf
pub walked_leaf : (parts : OwnedParts) (query : Query) (marks : List (Option ℕ)) (before : List ℕ) (at : ℕ)
    (group : Group) (end : ℕ) (found new : List ℕ) → IsRead parts at group → group.inside ≡ 0
    → end ≡ group.start + group.count
    → AreGathered (IsUnvisitedWithin parts query marks group.start end) found new
    → IsWalked parts query marks before at found → IsWalked parts query marks before (at + 1) new
walked_leaf parts query marks before at group end found new g leaf is_end some w =
    let here = g.begins in
    let after : begin_at parts (at + 1) ≡ begin_at parts (at + 1 + group.inside) =
    ap (begin_at parts) (let e : at + 1 ≡ at + 1 + group.inside = omega arith in e) in
    let next = g.closes in
    let lt = g.within in
    record {
      within = omega arith;
      gathered = gathered_more (IsUnvisitedWithin parts query marks 0 (begin_at parts at))
          (IsUnvisitedWithin parts query marks group.start end)
          (IsUnvisitedWithin parts query marks 0 (begin_at parts (at + 1))) before found new
          (λ y h. elim h [
            | inl before ↦ more_within parts query marks 0 (begin_at parts at) (begin_at parts (at + 1)) y
                (omega arith) before
            | inr inside ↦
                (let b = inside.before in record {
                  p = inside.p;
                  from = omega arith;
                  before = omega arith;
                  tag = inside.tag;
                  holds = inside.holds;
                  left = inside.left;
                })
          ])
          (λ y h. elim (cases_lt h.p group.start) [
            | inl lt ↦
                inl (record {
                  p = h.p;
                  from = h.from;
                  before = omega arith;
                  tag = h.tag;
                  holds = h.holds;
                  left = h.left;
                })
            | inr ge ↦
                (let b = h.before in inr
                (record { p = h.p; from = ge; before = omega arith; tag = h.tag; holds = h.holds; left = h.left }))
          ])
          w.gathered some;
    }

-- into a group with others inside
pub walked_into : (parts : OwnedParts) (query : Query) (marks : List (Option ℕ)) (before : List ℕ) (at : ℕ)
    (group : Group) (found : List ℕ) → IsRead parts at group → group.inside ≢ 0
    → IsWalked parts query marks before at found → IsWalked parts query marks before (at + 1) found
walked_into parts query marks before at group found g some w =
    let pos : 0 < group.inside = omega arith in
    let same : begin_at parts at ≡ begin_at parts (at + 1) = g.begins ∙ sym (g.opens pos) in
    let P : ℕ → Type 0 = λ b. AreGathered (IsUnvisitedWithin parts query marks 0 b) before found in
    let l = g.within in
    record { within = omega arith; gathered = subst P same w.gathered }

-- the tag of an entry at some places
pub within_of : (parts : OwnedParts) (query : Query) (marks : List (Option ℕ)) (first end y : ℕ)
    → end ≤ length parts.entries.items → IsUnvisitedWithin parts query marks first end y
    → IsOf parts.entries.items (Holds query) y
within_of parts query marks first end y le h =
    let b = h.before in
    record { k = h.p; among = omega arith; tag = h.tag; is = h.holds }

-- past all groups
pub walked_all : (parts : OwnedParts) (query : Query) (marks : List (Option ℕ)) (before : List ℕ) (at : ℕ)
    (found : List ℕ) → length parts.groups.items ≤ at → IsWalked parts query marks before at found
    → AreGathered (IsUnvisited parts.entries.items query marks) before found
walked_all parts query marks before at found past w =
    let entries = parts.entries.items in
    let end : begin_at parts at ≡ length entries =
    ap (λ (gs : List Group). begin_of gs (length entries)) (drop_all at parts.groups.items past) in
    gathered_as (IsUnvisitedWithin parts query marks 0 (begin_at parts at)) (IsUnvisited entries query marks) before
    found
    (λ y h. record { of = within_of parts query marks 0 (begin_at parts at) y (omega arith) h; left = h.left })
    (λ y h. (let among = h.of.among in record {
      p = h.of.k;
      from = omega arith;
      before = omega arith;
      tag = h.of.tag;
      holds = h.of.is;
      left = h.left;
    }))
    w.gathered

-- ---- the entries of a leaf

-- one more entry, which is found or not
pub one_within : (parts : OwnedParts) (query : Query) (marks : List (Option ℕ)) (first p : ℕ) (entry : Entry)
    (old middle new : List ℕ) → first ≤ p → entry_in parts p ≡ entry
    → ((Holds query entry × (IsLeft marks entry.tag)) × (new ≡ middle ++ entry.tag ∷ []))
    ⊎ ((Holds query entry × (IsLeft marks entry.tag) → ⊥) × (new ≡ middle))
    → AreGathered (IsUnvisitedWithin parts query marks first p) old middle
    → AreGathered (IsUnvisitedWithin parts query marks first (p + 1)) old new
one_within parts query marks first p entry old middle new le is =
    let H : Entry → Type 0 = λ s. Holds query s × (IsLeft marks s.tag) in
    gathered_if (IsUnvisitedWithin parts query marks first p) (IsUnvisitedWithin parts query marks first (p + 1))
    (Holds query entry × (IsLeft marks entry.tag)) old middle new entry.tag
    (λ y h. elim h [
      | inl before ↦ more_within parts query marks first p (p + 1) y (omega arith) before
      | inr here ↦
          (let held : H (entry_in parts p) = subst H (sym is) here.1 in
          record {
            p = p;
            from = le;
            before = omega arith;
            tag = ap (λ (s : Entry). s.tag) is
                ∙ sym here.0;
            holds = held.0;
            left = subst (IsLeft marks) (sym here.0) here.1.1;
          })
    ])
    (λ y h. elim (cases_lt h.p p) [
      | inl lt ↦ inl (record { p = h.p; from = h.from; before = lt; tag = h.tag; holds = h.holds; left = h.left })
      | inr past ↦
          (let b = h.before in
          let at : h.p ≡ p = omega arith in
          let there : entry_in parts h.p ≡ entry = ap (entry_in parts) at ∙ is in
          let tag : y ≡ entry.tag = sym h.tag ∙ ap (λ (s : Entry). s.tag) there in
          let Q : Entry → Type 0 = λ s. Holds query s in
          inr (tag, (subst Q there h.holds, subst (IsLeft marks) tag h.left)))
    ])

-- one more entry that has been visited
pub run_visited_more : (parts : OwnedParts) (marks : List (Option ℕ)) (first p : ℕ) (entry : Entry)
    → entry_in parts p ≡ entry → (IsLeft marks entry.tag → ⊥) → IsRunVisited parts marks first p
    → IsRunVisited parts marks first (p + 1)
run_visited_more parts marks first p entry is visited before = λ q le lt. elim (cases_lt q p) [
  | inl below ↦ before q le below
  | inr past ↦ (let P : Entry → Type 0 = λ s. IsLeft marks s.tag
      → ⊥ in let at : q ≡ p = omega arith in subst P (sym (ap (entry_in parts) at ∙ is)) visited)
]

pub within_end : (parts : OwnedParts) (query : Query) (marks : List (Option ℕ)) (first p end : ℕ) (old new : List ℕ)
    → p ≤ max first end → end ≤ p
    → AreGathered (IsUnvisitedWithin parts query marks first p) old new
    → AreGathered (IsUnvisitedWithin parts query marks first end) old new
within_end parts query marks first p end old new so_far past =
    gathered_as (IsUnvisitedWithin parts query marks first p) (IsUnvisitedWithin parts query marks first end) old new
    (λ y h. (let a = h.from in let b = h.before in
    record { p = h.p; from = h.from; before = omega arith; tag = h.tag; holds = h.holds; left = h.left }))
    (λ y h. more_within parts query marks first end p y past h)

-- ---- groups that are exhausted

-- a group of which it is told whether all its entries have been visited
pub exhausted_set : (parts : OwnedParts) (marks : List (Option ℕ)) (exhausted : List Bool) (at : ℕ) (group : Group)
    (all : Bool) → IsRead parts at group
    → (IsTrue all → IsRunVisited parts marks group.start (group.start + group.count))
    → AreExhausted parts marks exhausted → AreExhausted parts marks (set exhausted at all)
exhausted_set parts marks exhausted at group all g marked s =
    let n = s.counted in
    let w = g.within in
    record {
      counted = length-set exhausted at all ∙ s.counted;
      each = λ p h. elim (cases_eq h.g at) [
        | inl e ↦
            (let F : ℕ → Type 0 = λ x. IsTrue (get_or (set exhausted at all) x false) in
            let T : Bool → Type 0 = IsTrue in
            let R : Group → Type 0 = λ x. IsInRun x p in
            let yes : IsTrue all = subst T (get_or-set_same exhausted at all false (omega arith))
            (subst F e h.flagged) in
            let run : IsInRun group p = subst R (ap (group_at parts.groups.items) e ∙ g.is) h.in_run in
            marked yes p run.0 run.1)
        | inr ne ↦
            (let T : Bool → Type 0 = IsTrue in
            s.each p
            (record {
              g = h.g;
              flagged = subst T (get_or-set_other exhausted at h.g all false ne) h.flagged;
              in_run = h.in_run;
            }))
      ];
    }

-- a group that is exhausted has no entry that is left
pub exhausted_barren : (parts : OwnedParts) (query : Query) (marks : List (Option ℕ)) (exhausted : List Bool) (at : ℕ)
    (group : Group) → IsRead parts at group → AreExhausted parts marks exhausted → IsTrue (get_or exhausted at false)
    → (p : ℕ) → group.start ≤ p → p < group.start + group.count → Holds query (entry_in parts p)
    → IsLeft marks (entry_in parts p).tag → ⊥
exhausted_barren parts query marks exhausted at group g s flagged = λ p low high _ none.
    let R : Group → Type 0 = λ x. IsInRun x p in
    let m : IsVisitedAt parts marks p =
    s.each p (record { g = at; flagged = flagged; in_run = subst R (sym g.is) (low, high) }) in
    m none

-- the places of a group up to the run of the next one inside it are in groups that are exhausted
pub record IsCovered (parts : OwnedParts) (exhausted : List Bool) (at next : ℕ) : Type 0 where
  pub within : next ≤ length parts.groups.items
  pub covered : (p : ℕ) → (group_at parts.groups.items at).start ≤ p → p < begin_at parts next
      → InExhausted parts.groups.items exhausted p

pub covered_none : (parts : OwnedParts) (exhausted : List Bool) (at : ℕ) (group : Group) → IsRead parts at group
    → 0 < (group_at parts.groups.items at).inside → IsCovered parts exhausted at (at + 1)
covered_none parts exhausted at group g some =
    let P : Group → Type 0 = λ x. 0 < x.inside in
    let o = g.opens (subst P g.is some) in
    let w = g.within in
    let s : (group_at parts.groups.items at).start ≡ group.start = ap (λ (x : Group). x.start) g.is in
    record { within = omega arith; covered = λ p low high. absurd (omega arith) }

pub covered_more : (parts : OwnedParts) (exhausted : List Bool) (at next further : ℕ) (group : Group)
    → further ≡ next + 1 + group.inside → IsRead parts next group → IsTrue (get_or exhausted next false)
    → IsCovered parts exhausted at next
    → IsCovered parts exhausted at further
covered_more parts exhausted at next further group e g flagged h =
    let here = g.begins in
    let after : begin_at parts further ≡ group.start + group.count = ap (begin_at parts) e ∙ g.closes in
    let l = g.within in
    record {
      within = omega arith;
      covered = λ p low high. elim (cases_lt p group.start) [
        | inl lt ↦ h.covered p low (omega arith)
        | inr ge ↦
            (let R : Group
            → Type 0 =
            λ x. IsInRun x p in record { g = next; flagged = flagged; in_run = subst R (sym g.is) (ge, omega arith) })
      ];
    }

pub covered_all : (parts : OwnedParts) (exhausted : List Bool) (at next : ℕ) (group : Group) → IsRead parts at group
    → next ≡ at + 1 + group.inside → IsCovered parts exhausted at next
    → IsRunExhausted parts.groups.items exhausted at
covered_all parts exhausted at next group g e h =
    let c = g.closes in
    let b : begin_at parts next ≡ begin_at parts (at + 1 + group.inside) = ap (begin_at parts) e in
    let s : (group_at parts.groups.items at).start ≡ group.start = ap (λ (x : Group). x.start) g.is in
    let n : (group_at parts.groups.items at).count ≡ group.count = ap (λ (x : Group). x.count) g.is in
    λ p run. (let low = run.0 in let high = run.1 in h.covered p run.0 (omega arith))

-- so the entries of that group have been visited
pub run_exhausted_visited : (parts : OwnedParts) (marks : List (Option ℕ)) (exhausted : List Bool) (at : ℕ)
    (group : Group) → IsRead parts at group → AreExhausted parts marks exhausted
    → IsRunExhausted parts.groups.items exhausted at
    → IsRunVisited parts marks group.start (group.start + group.count)
run_exhausted_visited parts marks exhausted at group g s run = λ p low high.
    let R : Group → Type 0 = λ x. IsInRun x p in
    s.each p (run p (subst R (sym g.is) (low, high)))

pub same_number : (a b : ℕ) → IsTrue (nat_eq a b) → a ≡ b
same_number a b t = eqb-true a b t
