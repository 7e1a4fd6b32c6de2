-- The inequalities of the kept pairs of masters, as they are found and added to the list.
use Rattle.std.proofs.Common.{◌≡◌, ℕ, ◌+◌, ◌<◌, ◌≤◌, ◌^◌, List, ◌++◌, length, map, get_or, sym, ap, ◌∙◌, subst}
use Rattle.std.proofs.{Common.{arith, All, Vec, Global, flat_map}, lemmas.List.{length-append, length-map}}
use Rattle.std.proofs.lemmas.List.{Folds.length-flat_map-take, FromFn.{length-range_with_len, get_or-range_with_len}}
use Rattle.std.specs.List.{range_with_len}
use Rattle.lam_geom.specs.declared.boxes.Axis.{Axis}
use Rattle.rule_table.specs.declared.technology.Tech.{Tech}
use Rattle.cons_graph.specs.declared.edges.Edge.{Edge}
use Rattle.sym_items.specs.{declared.items.{Item.Item, Coords.Coords}, Layouts.layout_at}
use Rattle.expand.specs.{declared.master.Master.Master, Laws.IsLawful}
use Rattle.pair_rules.specs.{declared.pairs.Pair.Pair, Kept.kept_of}
use Rattle.pitch_join.specs.{Masters.{master_at, master_numbers}, Joined.{own_variables, shifted, space_edge}}
use Rattle.pitch_join.specs.{Joined.kept_edges_at, Spaces.EndsBelow}
use Rattle.shadow_prune.specs.{declared.keeping.KeptFault.KeptFault, KeptFaults.RefusesKept}
use Rattle.pass_run.specs.{declared.finding.Found.{Found, TheVariants.{Edges, TooMany}}, Found.{IsFound, AreFound}}
use Rattle.pass_run.specs.{Alike.most_edges, Laid.{IsLaidOut, AreLaidOut}, Passes.kept_count}
use Rattle.pass_run.{specs.OneMaster.own_kept_edges, proofs.Lists.{map_twice, first_numbers}}
use Rattle.shadow_prune.specs.declared.keeping.KeptFault.TheVariants as faults

-- what the code has of master m is laid out
pub own_laid : (tech : Tech) (masters : List Master) (layouts : List Coords) (m : ℕ) (master : Master) (c : Coords)
    → AreLaidOut tech masters layouts → m < length masters
    → master ≡ master_at masters m → c ≡ layout_at layouts m → IsLaidOut tech master c
own_laid tech masters layouts m master c laid lt is at = rw (is, at) (laid.each m lt)

-- the joint variables of its items are small
pub own_below : (axis : Axis) (tech : Tech) (base : ℕ) (master : Master) → IsLawful tech master
    → base + own_variables axis master ≤ 2 ^ 17 → All (EndsBelow base axis) master.items.list
own_below axis tech base master lawful few = λ k d lt.
    let lies = lawful.lie axis k d lt in
    let low = lies.low_among.among in
    let high = lies.high_among.among in
    record { low = omega arith; high = omega arith }

-- the inequalities of its kept pairs, one by one
pub own_edges : (axis : Axis) (tech : Tech) (base : ℕ) (master : Master) (c : Coords) (items : List Item)
    (pairs : List Pair) (edges : List Edge) → items ≡ master.items.list → pairs ≡ kept_of axis tech c items
    → edges ≡ map (λ p. shifted base (space_edge axis items p)) pairs
    → edges ≡ own_kept_edges axis tech base master c
own_edges axis tech base master c items pairs edges are kept is =
    let of : List Item → List Pair → List Edge = λ it ps. map (shifted base) (map (space_edge axis it) ps) in
    is ∙ (map_twice (shifted base) (space_edge axis items) pairs
    ∙ (ap (of items) kept ∙ ap (λ it. of it (kept_of axis tech c it)) are))

-- there are as many of them as kept pairs
pub edges_counted : (axis : Axis) (tech : Tech) (masters : List Master) (layouts : List Coords) (m : ℕ)
    → length (kept_edges_at axis tech masters layouts m) ≡ kept_count axis tech masters layouts m
edges_counted axis tech masters layouts m = length-map _ _ ∙ length-map _ _

-- the pieces of the first numbers, and of the next one, are not more than those of all
pieces_within : {A : Type 0} (piece : ℕ → List A) (m n : ℕ) → m < n
    → length (flat_map piece (range_with_len 0 m)) + length (piece m) ≤ length (flat_map piece (range_with_len 0 n))
pieces_within piece m n lt =
    let numbers : List ℕ = range_with_len 0 n in
    let numbered : length numbers ≡ n = length-range_with_len 0 n in
    let whole = length-flat_map-take piece numbers m 0 (omega arith) in
    let firsts = ap (λ ns. length (flat_map piece ns)) (first_numbers m n (omega arith)) in
    let e : 0 + m ≡ m = omega arith in
    let own = ap (λ k. length (piece k)) (get_or-range_with_len 0 n m 0 lt ∙ e) in
    omega (arith, whole, firsts, own)

-- more are refused, too
refused_more : (limit m n : ℕ) (fault : KeptFault) → m ≤ n → RefusesKept limit m fault → RefusesKept limit n fault
refused_more limit m n faults.TooMany le refused = omega (arith, le, refused)
refused_more limit m n faults.OutOfMemory le refused = tt

-- what was found of master m, and what was added before
module _ (axis : Axis) (tech : Tech) (masters : List Master) (layouts : List Coords) (found : List Found) (m : ℕ)
    (one : Found) (are : AreFound axis tech masters layouts found) (lt : m < length found)
    (is : one ≡ get_or found m one) where
  abbrev piece : ℕ → List Edge
  piece = kept_edges_at axis tech masters layouts

  among : m < length masters
  among = let one_each = are.one_each in omega (arith, one_each, lt)

  own : IsFound (piece m) one
  own = subst (IsFound (piece m)) (sym is) (are.each m one among)

  -- the inequalities of its kept pairs, if they were not too many
  pub found_edges : (edges : Vec Edge Global) → one ≡ Edges edges → edges.items ≡ piece m
  found_edges edges at = subst (IsFound (piece m)) at own

  module _ (old : List Edge) where
    -- where they were, all are
    pub refused_alone : one ≡ TooMany → most_edges < length (old ++ flat_map piece (master_numbers masters))
    refused_alone at =
        let many : most_edges < length (piece m) = subst (IsFound (piece m)) at own in
        let within = pieces_within piece m (length masters) among in
        let all = length-append old (flat_map piece (master_numbers masters)) in
        omega (arith, many, within, all)

    -- and where they are with those that were added before
    pub refused_so_far : (now edges : List Edge) (fault : KeptFault) → now ≡ old ++ flat_map piece (range_with_len 0 m)
        → edges ≡ piece m → RefusesKept most_edges (length now + length edges) fault
        → RefusesKept most_edges (length (old ++ flat_map piece (master_numbers masters))) fault
    refused_so_far now edges fault was same refused =
        let within = pieces_within piece m (length masters) among in
        let so_far = ap (λ es. length es) was ∙ length-append old (flat_map piece (range_with_len 0 m)) in
        let more = ap (λ es. length es) same in
        let all = length-append old (flat_map piece (master_numbers masters)) in
        refused_more most_edges _ _ fault (omega (arith, within, so_far, more, all)) refused
