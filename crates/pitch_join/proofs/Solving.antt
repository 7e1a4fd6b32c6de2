-- The solutions of joint inequalities, master by master.
use Rattle.std.proofs.Common.{◌≡◌, ℕ, ◌<◌, eqb, ℤ, pos, ◌-ℤ◌, ◌≤ℤ◌, List, [], ◌++◌, length, map, refl, sym, ap, subst}
use Rattle.std.proofs.{Common.{arith, inl, inr}, lemmas.{Bool.{cases_Bool, cases_eq, eqb-true}, Int.ints}}
use Rattle.std.{proofs.lemmas.List.Elements.recursion_from_All, specs.{Prelude.◌↔◌, List.{All, flat_map}}}
use Rattle.lam_geom.specs.declared.boxes.Axis.{Axis}
use Rattle.rule_table.specs.declared.technology.Tech.{Tech}
use Rattle.cons_graph.specs.{declared.edges.{Edge.Edge, Why.{Why, TheVariants.{Pitch, Port, Space}}}, Solutions.Meets}
use Rattle.sym_items.specs.declared.items.{Coords.Coords, End.End, Item.Item}
use Rattle.sym_items.specs.{Layouts.layout_at, Transposed.values_along, Values.value_of}
use Rattle.expand.{specs.{declared.master.Master.Master, Structure.structure_of}, proofs.Between.between_means}
use Rattle.list_facts.proofs.Elements.{all_of}
use Rattle.pair_rules.specs.{declared.pairs.Pair.Pair, Candidates.{Keeps, candidates_of, high_end, low_end}}
use Rattle.pair_rules.{specs.Kept.kept_of, proofs.Pruning.candidates_apart}
use Rattle.plan_model.specs.{declared.plan.{Match.Match, Plan.Plan, Same.Same}, Plan.{matches_in, pitch_in}}
use Rattle.pitch_join.specs.{Masters.{master_at, master_numbers}, Joined.{base_of, candidate_edges_at, equal_edges}}
use Rattle.pitch_join.specs.Joined.{far_of, fixed_of, kept_edges_at, local_of, pitch_edges, pitches_of, port_edges}
use Rattle.pitch_join.specs.Joined.{ports_of, shifted, space_edge, space_edges, structures_of, tied_edges, wire_var}
use Rattle.pitch_join.specs.Meeting.{HasOneBorder, HasOneLine, JoiningIsMeeting, KeepsCandidates, KeepsKept, MeetsPlan}
use Rattle.pitch_join.proofs.Lists.{of_both, of_each, of_images, of_numbered, of_pieces}

-- ---- equal variables

equal_means : (x : ℕ → ℤ) (a b : ℕ) (why : Why) → All (Meets x) (equal_edges a b why) ↔ (x a ≡ x b)
equal_means x a b why = (
  λ h.
      let met = recursion_from_All (Meets x) (equal_edges a b why) h in
      let up : pos 0 ≤ℤ (x b -ℤ x a) = met.0 in
      let down : pos 0 ≤ℤ (x a -ℤ x b) = met.1.0 in
      omega (arith, ints, up, down),
  λ e. all_of (Meets x) (equal_edges a b why) (omega (arith, ints, e), (omega (arith, ints, e), tt)),
)

-- where two variables are one, they are equal and there is no inequality
tied_means : (x : ℕ → ℤ) (a b : ℕ) → All (Meets x) (tied_edges a b) ↔ (x a ≡ x b)
tied_means x a b =
    let M : List Edge → Type 0 = All (Meets x) in
    elim (cases_Bool (eqb a b)) [
      | inl t ↦
          let is : tied_edges a b ≡ [] = rw t refl in
          (λ h. ap x (eqb-true a b t), λ e. subst M (sym is) (all_of (Meets x) [] tt))
      | inr f ↦
          let is : tied_edges a b ≡ equal_edges a b Port = rw f refl in
          let means = equal_means x a b Port in
          (λ h. means.0 (subst M is h), λ e. subst M (sym is) (means.1 e))
    ]

-- inequalities of each master hold of the joint variables exactly where they hold of its own part
each_means : (axis : Axis) (masters : List Master) (x : ℕ → ℤ) (edges : ℕ → List Edge) (K : ℕ → Type 0)
    → ((m : ℕ) → All (Meets (local_of axis masters m x)) (edges m) ↔ K m)
    → All (Meets x) (flat_map (λ m. map (shifted (base_of axis masters m)) (edges m)) (master_numbers masters))
    ↔ ((m : ℕ) → m < length masters → K m)
each_means axis masters x edges K means =
    let numbered = of_numbered (Meets x) (λ m. map (shifted (base_of axis masters m)) (edges m)) (length masters) in
    let images = λ (m : ℕ). of_images (Meets x) (shifted (base_of axis masters m)) (edges m) in (
      λ h m lt. (means m).0 ((images m).0 (numbered.0 h m lt)),
      λ h.
          numbered.1 (λ m lt. (images m).1 ((means m).1 (h m lt))),
    )

-- ---- what holds whatever the layouts

structures_mean : (axis : Axis) (tech : Tech) (masters : List Master) (x : ℕ → ℤ)
    → All (Meets x) (structures_of axis tech masters)
    ↔ ((m : ℕ) → m < length masters
    → All (Meets (local_of axis masters m x))
    (structure_of axis tech (master_at masters m).cell (master_at masters m).items.list))
structures_mean axis tech masters x =
    let own : ℕ → List Edge = λ m. structure_of axis tech (master_at masters m).cell (master_at masters m).items.list in
    each_means axis masters x own (λ m. All (Meets (local_of axis masters m x)) (own m)) (λ m. (λ h. h, λ h. h))

pitches_mean : (axis : Axis) (plan : Plan) (masters : List Master) (x : ℕ → ℤ)
    → All (Meets x) (pitches_of axis plan masters) ↔ All (HasOneBorder axis masters x) (pitch_in axis plan)
pitches_mean axis plan masters x =
    let S : Same → Type 0 = λ same. All (Meets x) (pitch_edges axis masters same) in
    let pieces = of_pieces (Meets x) (pitch_edges axis masters) (pitch_in axis plan) in
    let each = of_each S (HasOneBorder axis masters x) (pitch_in axis plan)
    (λ same. equal_means x (far_of axis masters same.a) (far_of axis masters same.b) Pitch) in
    (λ h. each.0 (pieces.0 h), λ h. pieces.1 (each.1 h))

ports_mean : (axis : Axis) (plan : Plan) (masters : List Master) (x : ℕ → ℤ)
    → All (Meets x) (ports_of axis plan masters) ↔ All (HasOneLine axis masters x) (matches_in axis plan)
ports_mean axis plan masters x =
    let M : Match → Type 0 = λ met. All (Meets x) (port_edges axis masters met) in
    let pieces = of_pieces (Meets x) (port_edges axis masters) (matches_in axis plan) in
    let each = of_each M (HasOneLine axis masters x) (matches_in axis plan)
    (λ met. tied_means x (wire_var axis masters met.a met.a_wire) (wire_var axis masters met.b met.b_wire)) in
    (λ h. each.0 (pieces.0 h), λ h. pieces.1 (each.1 h))

fixed_solved : (axis : Axis) (tech : Tech) (plan : Plan) (masters : List Master) (x : ℕ → ℤ) → x 0 ≡ pos 0
    → All (Meets x) (fixed_of axis tech plan masters) → MeetsPlan axis tech plan masters x
unfolding fixed_of
fixed_solved axis tech plan masters x origin met =
    let parts =
    (of_both (Meets x) (structures_of axis tech masters)
    (pitches_of axis plan masters ++ ports_of axis plan masters)).0 met in
    let rest = (of_both (Meets x) (pitches_of axis plan masters) (ports_of axis plan masters)).0 parts.1 in
    record {
      origin = origin;
      structures = λ m lt. record { origin = origin; meets = (structures_mean axis tech masters x).0 parts.0 m lt };
      borders = (pitches_mean axis plan masters x).0 rest.0;
      lines = (ports_mean axis plan masters x).0 rest.1;
    }

fixed_met : (axis : Axis) (tech : Tech) (plan : Plan) (masters : List Master) (x : ℕ → ℤ)
    → MeetsPlan axis tech plan masters x → All (Meets x) (fixed_of axis tech plan masters)
unfolding fixed_of
fixed_met axis tech plan masters x met =
    (of_both (Meets x) (structures_of axis tech masters)
    (pitches_of axis plan masters ++ ports_of axis plan masters)).1 (
      (structures_mean axis tech masters x).1 (λ m lt. (met.structures m lt).meets),
      (of_both (Meets x) (pitches_of axis plan masters) (ports_of axis plan masters)).1
          ((pitches_mean axis plan masters x).1 met.borders, (ports_mean axis plan masters x).1 met.lines),
    )

-- ---- kept pairs

-- of a kept pair the inequality says the same
kept_means : (axis : Axis) (x : ℕ → ℤ) (items : List Item) (p : Pair)
    → Meets x (space_edge axis items p) ↔ Keeps axis x items p
kept_means axis x items p = (λ meets. omega (arith, ints, meets), λ keeps. omega (arith, ints, keeps))

own_kept_mean : (axis : Axis) (x : ℕ → ℤ) (items : List Item) (pairs : List Pair)
    → All (Meets x) (map (space_edge axis items) pairs) ↔ All (Keeps axis x items) pairs
own_kept_mean axis x items pairs =
    let images = of_images (Meets x) (space_edge axis items) pairs in
    let each = of_each (λ p. Meets x (space_edge axis items p)) (Keeps axis x items) pairs (kept_means axis x items) in
    (λ h. each.0 (images.0 h), λ h. images.1 (each.1 h))

kept_mean : (axis : Axis) (tech : Tech) (masters : List Master) (layouts : List Coords) (x : ℕ → ℤ)
    → All (Meets x) (flat_map (kept_edges_at axis tech masters layouts) (master_numbers masters))
    ↔ KeepsKept axis tech masters layouts x
kept_mean axis tech masters layouts x =
    let items : ℕ → List Item = λ m. (master_at masters m).items.list in
    let kept : ℕ → List Pair = λ m. kept_of axis tech (layout_at layouts m) (items m) in
    each_means axis masters x (λ m. map (space_edge axis (items m)) (kept m))
    (λ m. All (Keeps axis (local_of axis masters m x) (items m)) (kept m))
    (λ m. own_kept_mean axis (local_of axis masters m x) (items m) (kept m))

-- ---- candidates

-- ends on one variable keep apart under all values what they keep apart under some
candidate_means : (axis : Axis) (v x : ℕ → ℤ) (items : List Item) (p : Pair) → Keeps axis v items p
    → All (Meets x) (space_edges axis items p) ↔ Keeps axis x items p
candidate_means axis v x items p apart =
    let high : End = high_end axis items p.i in
    let low : End = low_end axis items p.j in
    let means = between_means high low p.s Space x in (
      λ met.
          elim (cases_eq high.var low.var) [
            | inl same ↦
                let before : v high.var ≡ v low.var = ap v same in
                let after : x high.var ≡ x low.var = ap x same in
                omega (arith, ints, apart, before, after)
            | inr differ ↦ let h = means.0 (recursion_from_All (Meets x) (space_edges axis items p) met) differ in
                omega (arith, ints, h)
          ],
      λ keeps. all_of (Meets x) (space_edges axis items p) (means.1 (λ differ. omega (arith, ints, keeps))),
    )

-- a fact of two ways for each element at which a third holds
of_each_where : {X : Type 0} (R P Q : X → Type 0) (xs : List X) → All R xs → ((x : X) → R x → P x ↔ Q x)
    → All P xs ↔ All Q xs
of_each_where R P Q xs r same =
    (λ h k d lt. (same _ (r k d lt)).0 (h k d lt), λ h k d lt. (same _ (r k d lt)).1 (h k d lt))

own_candidates_mean : (axis : Axis) (tech : Tech) (layout : Coords) (x : ℕ → ℤ) (items : List Item)
    → All (Meets x) (flat_map (space_edges axis items) (candidates_of axis tech layout items))
    ↔ All (Keeps axis x items) (candidates_of axis tech layout items)
own_candidates_mean axis tech layout x items =
    let v : ℕ → ℤ = value_of (values_along axis layout) in
    let pairs : List Pair = candidates_of axis tech layout items in
    let pieces = of_pieces (Meets x) (space_edges axis items) pairs in
    let each = of_each_where (Keeps axis v items) (λ p. All (Meets x) (space_edges axis items p)) (Keeps axis x items)
    pairs (candidates_apart axis tech layout items) (candidate_means axis v x items) in
    (λ h. each.0 (pieces.0 h), λ h. pieces.1 (each.1 h))

candidates_mean : (axis : Axis) (tech : Tech) (masters : List Master) (layouts : List Coords) (x : ℕ → ℤ)
    → All (Meets x) (flat_map (candidate_edges_at axis tech masters layouts) (master_numbers masters))
    ↔ KeepsCandidates axis tech masters layouts x
candidates_mean axis tech masters layouts x =
    let items : ℕ → List Item = λ m. (master_at masters m).items.list in
    let pairs : ℕ → List Pair = λ m. candidates_of axis tech (layout_at layouts m) (items m) in
    each_means axis masters x (λ m. flat_map (space_edges axis (items m)) (pairs m))
    (λ m. All (Keeps axis (local_of axis masters m x) (items m)) (pairs m))
    (λ m. own_candidates_mean axis tech (layout_at layouts m) (local_of axis masters m x) (items m))

-- ---- the law

pub joining_meets : (tech : Tech) (plan : Plan) (masters : List Master) → JoiningIsMeeting tech plan masters
joining_meets tech plan masters =
    let fixed : Axis → List Edge = λ axis. fixed_of axis tech plan masters in
    let kept : Axis → List Coords → List Edge =
    λ axis layouts. flat_map (kept_edges_at axis tech masters layouts) (master_numbers masters) in
    let spaces : Axis → List Coords → List Edge =
    λ axis layouts. flat_map (candidate_edges_at axis tech masters layouts) (master_numbers masters) in
    record {
      of_fixed = λ axis x. (
        λ solves. fixed_solved axis tech plan masters x solves.origin solves.meets,
        λ met. record { origin = met.origin; meets = fixed_met axis tech plan masters x met },
      );
      of_list = λ axis layouts x. (
        λ solves. let parts = (of_both (Meets x) (fixed axis) (kept axis layouts)).0 solves.meets in (
          fixed_solved axis tech plan masters x solves.origin parts.0,
          (kept_mean axis tech masters layouts x).0
              parts.1,
        ),
        λ met. record {
          origin = met.0.origin;
          meets = (of_both (Meets x) (fixed axis) (kept axis layouts)).1
              (fixed_met axis tech plan masters x met.0, (kept_mean axis tech masters layouts x).1 met.1);
        },
      );
      of_system = λ axis layouts x boxes. (
        λ solves. let parts = (of_both (Meets x) (fixed axis) (spaces axis layouts)).0 solves.meets in (
          fixed_solved axis tech plan masters x solves.origin parts.0,
          (candidates_mean axis tech masters layouts x).0 parts.1,
        ),
        λ met. record {
          origin = met.0.origin;
          meets = (of_both (Meets x) (fixed axis) (spaces axis layouts)).1
              (fixed_met axis tech plan masters x met.0, (candidates_mean axis tech masters layouts x).1 met.1);
        },
      );
    }
