-- The walk that gathers what a box meets.
use Rattle.std.proofs.Common.{◌≡◌, ℕ, ◌+◌, ◌<◌, ◌≤◌, ◌⊎◌, inl, inr, List, ◌∷◌, ◌++◌, [], length, get_or, drop, refl}
use Rattle.std.proofs.{Common.{sym, ap, ◌∙◌, subst, arith, length-drop}, lemmas.{Bool.cases_lt, List.drop_all}}
use Rattle.std.proofs.lemmas.{List.drop-drop, Option.{get_or_from_slice_get, slice_get_within}}
use Rattle.lam_geom.specs.declared.boxes.MaskBox.{MaskBox}
use Rattle.rule_table.specs.declared.technology.Tech.{Tech}
use Rattle.box_tree.specs.{declared.entries.{Group.Group, Entry.Entry}, Found.AreGathered, Tree.{IsTreeOf, begin_of}}
use Rattle.box_tree.{specs.Tree.{no_entry, entry_of}, proofs.Growth.{gathered_as, gathered_if, gathered_more}}
use Rattle.box_tree.proofs.{Growth.gathered_none, Trees.{IsBarren, begin_here, group_here}}
use Rattle.crossings.specs.{Pairs.{IsMetAt, Meets}, Entries.{AreEntriesFacing, box_entry}}
use Rattle.crossings.proofs.{Meetings.meets_overlap, EntryBoxes.overlapped_there, Walks.MeetsEntry}

module _ (tech : Tech) (boxes : List MaskBox) (a : ℕ) (entries : List Entry) where
  -- one place more, whose box is met or not
  pub met_more : (first p b : ℕ) (old middle new : List ℕ) → first ≤ p → (entry_of entries p).owner ≡ b
      → (Meets tech boxes a b × (new ≡ middle ++ b ∷ [])) ⊎ ((Meets tech boxes a b → ⊥) × (new ≡ middle))
      → AreGathered (IsMetAt tech boxes a entries first p) old middle
      → AreGathered (IsMetAt tech boxes a entries first (p + 1)) old new
  met_more first p b old middle new le owner =
      gathered_if (IsMetAt tech boxes a entries first p) (IsMetAt tech boxes a entries first (p + 1))
      (Meets tech boxes a b) old middle new b
      (λ x h. elim h [
        | inl m ↦ record { p = m.p; from = m.from; before = omega (arith, m.before); owner = m.owner; met = m.met }
        | inr m ↦ record {
          p = p;
          from = le;
          before = omega arith;
          owner = owner
              ∙ sym m.0;
          met = subst (Meets tech boxes a) (sym m.0) m.1;
        }
      ])
      (λ x h. elim (cases_lt h.p p) [
        | inl less ↦ inl (record { p = h.p; from = h.from; before = less; owner = h.owner; met = h.met })
        | inr past ↦
            let at : h.p ≡ p = omega (arith, past, h.before) in
            let same : x ≡ b = sym h.owner ∙ (ap (λ (q : ℕ). (entry_of entries q).owner) at ∙ owner) in
            inr (same, subst (Meets tech boxes a) same h.met)
      ])

  -- places from one to another, and from there on
  met_both : (middle end : ℕ) (old found new : List ℕ) → middle ≤ end
      → AreGathered (IsMetAt tech boxes a entries 0 middle) old found
      → AreGathered (IsMetAt tech boxes a entries middle end) found new
      → AreGathered (IsMetAt tech boxes a entries 0 end) old new
  met_both middle end old found new le =
      gathered_more (IsMetAt tech boxes a entries 0 middle) (IsMetAt tech boxes a entries middle end)
      (IsMetAt tech boxes a entries 0 end) old found new
      (λ x h. elim h [
        | inl m ↦ record { p = m.p; from = m.from; before = omega (arith, m.before, le); owner = m.owner; met = m.met }
        | inr m ↦ record { p = m.p; from = omega arith; before = m.before; owner = m.owner; met = m.met }
      ])
      (λ x h. elim (cases_lt h.p middle) [
        | inl less ↦ inl (record { p = h.p; from = h.from; before = less; owner = h.owner; met = h.met })
        | inr past ↦ inr (record { p = h.p; from = past; before = h.before; owner = h.owner; met = h.met })
      ])

  -- what is met before the run of the group at a place
  pub record IsMetTo (groups : List Group) (old : List ℕ) (at : ℕ) (found : List ℕ) : Type 0 where
    pub within : at ≤ length groups
    pub gathered : AreGathered (IsMetAt tech boxes a entries 0 (begin_of (drop at groups) (length entries))) old
        found

  pub met_none : (groups : List Group) (old : List ℕ) → IsTreeOf entries groups → IsMetTo groups old 0 old
  met_none groups old t =
      record { within = omega arith; gathered = gathered_none _ old (λ b h. omega (arith, t.first, h.before)) }

  -- past a group of which the run has been looked at
  pub met_group : (groups : List Group) (old : List ℕ) (at next : ℕ) (group : Group) (found new : List ℕ)
      → IsTreeOf entries groups → at < length groups → group ≡ get_or groups at group
      → next ≡ at + 1 + group.inside
      → IsMetTo groups old at found
      → AreGathered (IsMetAt tech boxes a entries group.start (group.start + group.count)) found new
      → IsMetTo groups old next new
  met_group groups old at next group found new t lt is is_next h here =
      let g = group_here entries (length entries) at groups group t.groups_of lt is in
      let left : length (drop (at + 1) groups) + (at + 1) ≡ length groups =
      omega (arith, length-drop (at + 1) groups) in
      let begins : begin_of (drop next groups) (length entries) ≡ group.start + group.count =
      ap (λ (n : ℕ). begin_of (drop n groups) (length entries)) is_next
      ∙ (ap (λ (gs : List Group). begin_of gs (length entries)) (sym (drop-drop group.inside (at + 1) groups))
      ∙ g.closes) in
      let B : ℕ → Type 0 = λ n. AreGathered (IsMetAt tech boxes a entries 0 n) old new in
      let C : ℕ → Type 0 = λ n. AreGathered (IsMetAt tech boxes a entries 0 n) old found in
      record {
        within = omega (arith, left, g.inside, is_next);
        gathered =
            subst B (sym begins)
            (met_both group.start (group.start + group.count) old found new (omega arith)
            (subst C (begin_here groups at (length entries) group lt is) h.gathered) here);
      }

  -- past one that has nothing
  pub met_barren : (groups : List Group) (old : List ℕ) (at : ℕ) (group : Group) (found : List ℕ)
      → IsTreeOf entries groups → at < length groups → group ≡ get_or groups at group
      → IsBarren entries group (MeetsEntry tech boxes a) → IsMetTo groups old at found
      → IsMetTo groups old (at + 1 + group.inside) found
  met_barren groups old at group found t lt is barren h =
      met_group groups old at (at + 1 + group.inside) group found found t lt is refl h
      (gathered_none _ found (λ b m. barren m.p m.from m.before (subst (Meets tech boxes a) (sym m.owner) m.met)))

  -- into a group with others inside
  pub met_into : (groups : List Group) (old : List ℕ) (at : ℕ) (group : Group) (found : List ℕ)
      → IsTreeOf entries groups → at < length groups → group ≡ get_or groups at group
      → 0 < group.inside → IsMetTo groups old at found → IsMetTo groups old (at + 1) found
  met_into groups old at group found t lt is some h =
      let g = group_here entries (length entries) at groups group t.groups_of lt is in
      let same : begin_of (drop (at + 1) groups) (length entries) ≡ begin_of (drop at groups) (length entries) =
      g.opens some ∙ sym (begin_here groups at (length entries) group lt is) in
      let B : ℕ → Type 0 = λ n. AreGathered (IsMetAt tech boxes a entries 0 n) old found in
      record { within = omega (arith, lt); gathered = subst B (sym same) h.gathered }

  -- past all groups
  pub met_all : (groups : List Group) (old : List ℕ) (at : ℕ) (found : List ℕ) → AreEntriesFacing boxes a entries
      → length groups ≤ at → IsMetTo groups old at found
      → AreGathered (Meets tech boxes a) old found
  met_all groups old at found facing ge h =
      let end : begin_of (drop at groups) (length entries) ≡ length entries =
      ap (λ (gs : List Group). begin_of gs (length entries)) (drop_all at groups ge) in
      gathered_as _ (Meets tech boxes a) old found (λ b m. m.met)
      (λ b m.
      let there = overlapped_there boxes a b entries facing (meets_overlap tech boxes a b m) in
      let among = slice_get_within entries there.0 (box_entry boxes b) there.1 in
      let entry : entry_of entries there.0 ≡ box_entry boxes b =
      get_or_from_slice_get entries there.0 (box_entry boxes b) no_entry there.1 in
      record {
        p = there.0;
        from = omega arith;
        before = omega (arith, among, end);
        owner = ap (λ (s : Entry). s.owner) entry;
        met = m;
      })
      h.gathered
