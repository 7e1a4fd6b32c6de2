-- Places from which on all entries have one tag.
use Rattle.std.proofs.Common.{◌≡◌, ℕ, ◌+◌, ◌-◌, ◌==◌, ◌<◌, ◌≤◌, nat_lt, pos, Bool, true, false, cond, None, Some, List}
use Rattle.std.proofs.Common.{◌∷◌, [], ◌++◌, All, get_or, map, drop, length, inl, inr, refl, sym, ap, ◌∙◌, subst, arith}
use Rattle.std.proofs.{Common.{length-append, take}, lemmas.{Bool.cases_lt, List.{get_or_append_left, get_or_at}}}
use Rattle.std.proofs.lemmas.List.{drop_more, length-take-le, get_or_default, get_or-map, length-map, drop-map}
use Rattle.std.proofs.lemmas.List.Elements.{All-map}
use Rattle.lam_geom.specs.{Gaps.Encloses, Places.IsPlacedBox}
use Rattle.box_tree.specs.{declared.entries.{Group.Group, Entry.Entry}, Retagged.{AreAlikeFrom, IsAlikeFrom, run_tag}}
use Rattle.box_tree.specs.{Retagged.{retagged, with_tag}, Tree.{AreGroups, IsOneTag, IsTreeOf, ReachesBoth}}
use Rattle.box_tree.{specs.Tree.{begin_of, no_entry, entry_of}, proofs.Trees.group_here}

-- all entries from a place on up to before another have this tag
abbrev pub HaveTag : List Entry → ℕ → ℕ → ℕ → Type 0
HaveTag entries first end tag = (p : ℕ) → first ≤ p → p < end → (entry_of entries p).tag ≡ tag

-- so do those up to the other, if that has it
pub have_more : (entries : List Entry) (first place tag : ℕ) → HaveTag entries first place tag
    → tag ≡ (entry_of entries place).tag → HaveTag entries first (place + 1) tag
have_more entries first place tag h is p low high = elim (cases_lt p place) [
  | inl less ↦ h p low less
  | inr more ↦ (let at : p ≡ place = omega arith in ap (λ (n : ℕ). (entry_of entries n).tag) at ∙ sym is)
]

pub alike_more : (entries : List Entry) (firsts : List ℕ) (first place tag : ℕ)
    → AreAlikeFrom entries place firsts → first ≤ place → HaveTag entries first (place + 1) tag
    → AreAlikeFrom entries (place + 1) (firsts ++ first ∷ [])
alike_more entries firsts first place tag h before have = record {
  counted = length-append firsts (first ∷ []) ∙ omega (arith, h.counted);
  each = λ p lt. elim (cases_lt p place) [
    | inl less ↦
        (let F : ℕ → Type 0 = λ n. IsAlikeFrom entries n p in
        subst F (sym (get_or_append_left firsts (first ∷ []) 0 p (omega (arith, less, h.counted)))) (h.each p less))
    | inr more ↦
        (let at : place ≡ p = omega arith in
        let F : ℕ → Type 0 = λ n. IsAlikeFrom entries (get_or (firsts ++ first ∷ []) n 0) n in
        let G : ℕ → Type 0 = λ n. IsAlikeFrom entries n place in
        subst F at (subst G (sym (get_or_at firsts _ _ 0 place h.counted)) (record {
          before = before;
          same = λ q low high. have q low (omega arith) ∙ sym (have place before (omega arith));
        })))
  ];
}

-- an entry that is read before it is retagged
pub read_ahead : (f : Entry → Entry) (old now : List Entry) (place : ℕ) (entry : Entry) → place < length old
    → now ≡ map f (take place old) ++ drop place old → entry ≡ get_or now place entry → entry ≡ entry_of old place
read_ahead f old now place entry lt h is =
    let front = map f (take place old) in
    let long : length front ≡ place = length-map (take place old) f ∙ length-take-le place old (omega arith) in
    let parts = h ∙ ap (λ (l : List Entry). front ++ l) (drop_more old place entry lt) in
    is
    ∙ (ap (λ (l : List Entry). get_or l place entry) parts
    ∙ (get_or_at front _ _ entry place long ∙ get_or_default old place entry no_entry lt))

-- ---- the groups

one_of_run : (empty far : Bool) (one tag : ℕ) → (empty ≡ false → far ≡ false → tag ≡ one)
    → IsOneTag (cond empty None (cond far None (Some one))) tag
one_of_run true far one tag h = tt
one_of_run false true one tag h = tt
one_of_run false false one tag h = h refl refl

-- the tag that these places show is that of all entries of a run
run_of_one : (entries : List Entry) (firsts : List ℕ) (n : ℕ) (group : Group) (p : ℕ)
    → AreAlikeFrom entries n firsts → group.start + group.count ≤ n → group.start ≤ p
    → p < group.start + group.count
    → IsOneTag (run_tag firsts entries group) (entry_of entries p).tag
run_of_one entries firsts n group p h within low high =
    let last = group.start + group.count - 1 in
    let lt : last < n = omega arith in
    one_of_run (group.count == 0) (nat_lt group.start (get_or firsts last 0)) (entry_of entries last).tag
    (entry_of entries p).tag (λ some near.
    (let from : get_or firsts last 0 ≤ group.start = grind (arith, near) in
    (h.each last lt).same p (omega (arith, from, low)) (omega arith)))

-- an entry under its new tag
pub retagged_at : (tags : List ℕ) (entries : List Entry) (p : ℕ) → p < length entries
    → entry_of (map (with_tag tags) entries) p ≡ with_tag tags (entry_of entries p)
retagged_at tags entries p lt = get_or-map (with_tag tags) entries p no_entry no_entry lt

begin_retagged : (f : Group → Group) (groups : List Group) (end : ℕ)
    → ((group : Group) → (f group).start ≡ group.start) → begin_of (map f groups) end ≡ begin_of groups end
begin_retagged f [] end same = refl
begin_retagged f (x ∷ xs) end same = same x

groups_retagged : (tags firsts : List ℕ) (entries : List Entry) (end : ℕ) (groups : List Group)
    → end ≤ length entries → AreAlikeFrom (map (with_tag tags) entries) (length entries) firsts
    → AreGroups entries end groups
    → AreGroups (map (with_tag tags) entries) end (map (retagged firsts (map (with_tag tags) entries)) groups)
groups_retagged tags firsts entries end [] le h gs = tt
groups_retagged tags firsts entries end (g ∷ rest) le h gs =
    let new = map (with_tag tags) entries in
    let f = retagged firsts new in
    let old = gs.0 in (
      record {
        placed = record { outer = old.placed.outer; inner = old.placed.inner };
        inside = omega (arith, old.inside, length-map rest f);
        opens = λ some. begin_retagged f rest end (λ _. refl) ∙ old.opens some;
        closes = ap (λ (xs : List Group). begin_of xs end) (drop-map f g.inside rest)
            ∙ (begin_retagged f (drop g.inside rest) end (λ _. refl) ∙ old.closes);
        ends = old.ends;
        within = λ p low high.
            let lt : p < length entries = omega (arith, high, old.ends, le) in
            let b = old.within p low high in
            let is = retagged_at tags entries p lt in
            record {
              outer = subst (λ (s : Entry). Encloses g.outer s.area (pos 0)) (sym is) b.outer;
              inner = subst (λ (s : Entry). ReachesBoth g.inner s.area) (sym is) b.inner;
              tag = run_of_one new firsts (length entries) g p h (omega (arith, old.ends, le)) low high;
            };
      },
      groups_retagged tags firsts entries end rest le h gs.1,
    )

-- the tree stands under its new tags
tree_retagged : (tags firsts : List ℕ) (entries : List Entry) (groups : List Group)
    → AreAlikeFrom (map (with_tag tags) entries) (length entries) firsts → IsTreeOf entries groups
    → IsTreeOf (map (with_tag tags) entries) (map (retagged firsts (map (with_tag tags) entries)) groups)
tree_retagged tags firsts entries groups h t =
    let new = map (with_tag tags) entries in
    let f = retagged firsts new in
    let same : length new ≡ length entries = length-map entries (with_tag tags) in
    record {
      few = omega (arith, same, t.few);
      placed = All-map (λ (s : Entry). IsPlacedBox s.area) (with_tag tags) entries t.placed;
      groups_of = subst (λ (n : ℕ). AreGroups new n (map f groups)) (sym same)
          (groups_retagged tags firsts entries (length entries) groups (omega arith) h t.groups_of);
      first = ap (begin_of (map f groups)) same ∙ begin_retagged f groups (length entries) (λ _. refl) ∙ t.first;
      few_groups = omega (arith, length-map groups f, t.few_groups);
    }

-- the same of lists as they were read
pub tree_of_tags : (tags : List ℕ) (entries now again : List Entry) (firsts held : List ℕ)
    (groups new : List Group) → IsTreeOf entries groups → now ≡ map (with_tag tags) entries
    → AreAlikeFrom now (length now) firsts → held ≡ firsts → again ≡ now → new ≡ map (retagged held again) groups
    → IsTreeOf now new
tree_of_tags tags entries now again firsts held groups new t is h f a n =
    let alike : AreAlikeFrom (map (with_tag tags) entries) (length entries) firsts =
    subst (λ (m : ℕ). AreAlikeFrom (map (with_tag tags) entries) m firsts) (length-map entries (with_tag tags))
    (subst (λ (s : List Entry). AreAlikeFrom s (length s) firsts) is h) in
    rw (n, f, a, is) (tree_retagged tags firsts entries groups alike t)

-- runs of a tree end within its entries
pub runs_within : (entries : List Entry) (groups : List Group) → IsTreeOf entries groups
    → All (λ (g : Group). g.start + g.count ≤ length entries) groups
runs_within entries groups t k d lt =
    (group_here entries (length entries) k groups (get_or groups k d) t.groups_of lt
    (get_or_default groups k d (get_or groups k d) lt)).ends
