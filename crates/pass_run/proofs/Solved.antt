-- What the rounds over the list of a pass say of the pass.
use Rattle.std.proofs.Common.{◌≡◌, ℕ, ◌+◌, ◌<◌, ◌≤◌, ℤ, Some, List, [], ◌∷◌, length, map, refl, sym, ap, ◌∙◌, subst}
use Rattle.std.proofs.Common.{arith, Bool, false, ◌++◌, reverse, append-nil, Contains, slice_index, IsTrue, All, Any}
use Rattle.std.proofs.{Common.get_or, lemmas.List.{get_or-map, get_or_default, length-map, Elements.All-map}}
use Rattle.std.proofs.lemmas.List.Elements.{All-weaker, All-contains, Contains-get_or}
use Rattle.lam_geom.specs.declared.boxes.Axis.{Axis}
use Rattle.rule_table.specs.declared.technology.Tech.{Tech}
use Rattle.cons_graph.specs.{declared.edges.Edge.Edge, Constraints.{Constraints, IsConstraintGraph}}
use Rattle.cons_graph.specs.{EdgeNumbers.edge_at, SimpleWalks.{edges_of, heads_of, length_of, HasNoRepeat, WalksFromTo}}
use Rattle.cons_graph.specs.{SimpleWalks.IsSimplePositiveCycle, Solutions.{IsSolution, IsLeastSolution, value_of}}
use Rattle.cons_graph.{specs.Walks.HasPositiveCycle, proofs.CycleTest.few_without_repeat}
use Rattle.round_log.specs.{declared.log.{Log.Log, Entry.Entry}, Logs.{raises_in, IsEndedLog}, Told.TellAlike}
use Rattle.round_log.specs.{Looks.{label, backward_numbers, latest, chain}, Orders.IsOrder}
use Rattle.round_log.proofs.{Alike.same_walk, Chains.chain-zero, Ends.numbers, Walks.{IsCriticalWalk, back_at_origin}}
use Rattle.liao_wong.{specs.declared.solving.Solved.Solved, proofs.InOrder.sorted_is_order}
use Rattle.sym_items.specs.declared.items.Coords.{Coords}
use Rattle.expand.specs.{declared.master.Master.Master, Laws.IsLawful}
use Rattle.plan_model.specs.declared.plan.Plan.{Plan}
use Rattle.pitch_join.specs.{Masters.ArePlanned, Names.system_names, Joined.{base_of, bases_of, far_of}}
use Rattle.pitch_join.specs.Joined.{system_variables, full_system, pruned_system}
use Rattle.pitch_join.proofs.{Bases.{bases_counted, planned_joined, var_within}, Listed.far_is}
use Rattle.pass_run.specs.declared.{edges.Listed.Listed, step.{Walk.Walk, Step.Step}, pass.Made.Made}
use Rattle.pass_run.specs.{Alike.HaveSameSolutions, Laid.{AreLaidOut, AreSettled}, Layouts.{system_values, moved_by}}
use Rattle.pass_run.specs.{Layouts.with_values, OneStep.{walk_to, walks_to, step_of, HasPath, IsListedMost}}
use Rattle.pass_run.specs.{OneStep.{IsOrderAlong, IsSolvedPass, IsStoppedPass, ReachFar}, PassFaults.IsCyclicOver}
use Rattle.pass_run.specs.{Passes.{far_walk, IsRecorded}, Report.{cycle_text, walk_at, pass_text}}
use Rattle.pass_run.specs.{Theorems.{IsCriticalPath, HasCriticalPath, IsSoundPass}, OnePass.{IsFirstOn, IsPassMade}}
use Rattle.pass_run.{specs.{Told.IsTightMost, Least.StaySettled}, proofs.Pruning.{listed_among, solutions_kept}}
use Rattle.pass_run.proofs.{Pruning.least_alike, Values.{system_length, system_above}, Reach.reach_far}
use Rattle.slack_pack.{specs.Most.{HasWalk, IsMost, IsAttained}, proofs.Walks.stands}
use Rattle.pair_rules.proofs.BoundItems.{same_some}
use Rattle.pass_run.proofs.Settled as settling

-- ---- walks

pub walk_more : (some all : List Edge) (a b : ℕ) (long : ℤ) → All (Contains all) some → HasWalk some a b long
    → HasWalk all a b long
walk_more some all a b long among h = record {
  walk = h.walk;
  of_these = All-weaker (Contains some) (Contains all) (λ e here. All-contains (Contains all) some e among here)
      h.walk h.of_these;
  leads = h.leads;
  as_long = h.as_long;
}

pub attained_more : (some all : List Edge) (fars : List ℕ) (x : ℕ → ℤ) (v : ℕ) (value : ℤ) → All (Contains all) some
    → IsAttained some fars x v value → IsAttained all fars x v value
attained_more some all fars x v value among h =
    record {
      end = h.end;
      is_far = h.is_far;
      long = h.long;
      walk = walk_more some all v h.end h.long among h.walk;
      is = h.is;
    }

-- the walk that a log of ended rounds has to a variable is as long as its value
pub reached : (g : Constraints) (log : Log) (x : ℕ → ℤ) (v : ℕ) → IsConstraintGraph g → IsEndedLog g log → v < g.vars
    → label (raises_in log) v ≡ Some (x v) → HasWalk g.edges 0 v (x v)
reached g log x v shape ended lt is =
    let raises : List Entry = raises_in log in
    let back : List ℕ = numbers (chain raises (latest raises v)) in
    let none : back ++ numbers (chain raises 0) ≡ back = ap (λ es. back ++ numbers es) (chain-zero raises)
    ∙ append-nil back in
    let w : IsCriticalWalk g log v (reverse back) = back_at_origin g log v 0 back shape ended lt (omega arith) none in
    record {
      walk = edges_of g.edges (reverse back);
      of_these = All-map (Contains g.edges) (edge_at g.edges) (reverse back)
          (λ k d among. Contains-get_or g.edges _ _ (w.passes.in_range k d among));
      leads = w.passes.follows;
      as_long = same_some _ _ (sym w.as_long ∙ is);
    }

-- ---- the greatest values

-- those over some inequalities are those over others with the same solutions
pub most_alike : (vars : ℕ) (some all : List Edge) (fars : List ℕ) (x y : ℕ → ℤ) → HaveSameSolutions some all
    → IsMost vars some fars x y → IsMost vars all fars x y
most_alike vars some all fars x y same most = record {
  is_held = record { solves = (same y).0 most.is_held.solves; held = most.is_held.held };
  above = λ z h v lt. most.above z (record { solves = (same z).1 h.solves; held = h.held }) v lt;
}

-- some far border is a variable, if there is another variable than the origin
pub some_far : (vars : ℕ) (edges : List Edge) (fars : List ℕ) (v : ℕ) → ReachFar vars edges fars
    → All (λ far. far < vars) fars → 1 ≤ v → v < vars → Any (λ far. far < vars) fars
some_far vars edges fars v reach within from lt =
    let far = reach v from lt in
    (far.1.0, far.0, far.1.1, far.1.2, All-contains (λ f. f < vars) fars far.0 within far.1)

-- ---- the order

-- the variables sorted by their values are an order, as no value is below the origin's
pub order_of : (axis : Axis) (tech : Tech) (plan : Plan) (masters : List Master) (before : List Coords) (vars : ℕ)
    (order : List ℕ)
    → ArePlanned tech plan masters → AreLaidOut tech masters before → vars ≡ system_variables axis masters
    → IsOrderAlong axis before order → IsOrder vars order
order_of axis tech plan masters before vars order planned laid v along =
    let count : length (system_values axis before) ≡ vars = system_length axis tech masters before laid ∙ sym v in
    sorted_is_order vars (value_of (system_values axis before)) order (omega (arith, v)) (rw count at along.names)
    along.in_order refl
    (λ u lt. system_above axis tech masters before u (planned_joined tech plan masters planned) laid
    (omega (arith, v, lt)))

-- ---- walks of listed inequalities

-- each edge of a walk of listed inequalities is one of the system's
walk_among : (axis : Axis) (tech : Tech) (plan : Plan) (masters : List Master) (before : List Coords) (walk : List ℕ)
    → All (λ k. k < length (pruned_system axis tech plan masters before)) walk
    → All (Contains (full_system axis tech plan masters before))
    (edges_of (pruned_system axis tech plan masters before) walk)
walk_among axis tech plan masters before walk in_range =
    let listed : List Edge = pruned_system axis tech plan masters before in
    let C : Edge → Type 0 = Contains (full_system axis tech plan masters before) in
    All-map C (edge_at listed) walk (λ k d lt. listed_among axis tech plan masters before _ _ (in_range k d lt))

-- so a positive cycle of these is one of the system
cycle_among : (axis : Axis) (tech : Tech) (plan : Plan) (masters : List Master) (before : List Coords)
    → HasPositiveCycle (pruned_system axis tech plan masters before)
    → HasPositiveCycle (full_system axis tech plan masters before)
cycle_among axis tech plan masters before cycle =
    let listed : List Edge = pruned_system axis tech plan masters before in
    let system : List Edge = full_system axis tech plan masters before in (
      cycle.0,
      record {
        of_these = All-weaker (Contains listed) (Contains system)
            (λ e among. All-contains (Contains system) listed e (listed_among axis tech plan masters before) among)
            cycle.0 cycle.1.of_these;
        closed = cycle.1.closed;
        positive = cycle.1.positive;
      },
    )

-- a cycle that meets no variable twice is short
pub cycle_few : (g : Constraints) (cycle : List ℕ) → IsConstraintGraph g → IsSimplePositiveCycle g.edges cycle
    → length cycle ≤ 131072
cycle_few g cycle shape passes =
    let few = shape.few_vars in
    omega (arith, few_without_repeat g cycle shape passes.in_range passes.no_repeat, few)

-- ---- the far borders

pub fars_within : (axis : Axis) (masters : List Master) (bases : List ℕ) (vars : ℕ) → bases ≡ bases_of axis masters
    → vars ≡ system_variables axis masters → All (λ far. far < vars) bases
fars_within axis masters bases vars e v =
    let all : List ℕ = bases_of axis masters in
    let count = bases_counted axis masters all refl in
    rw e (λ k d lt.
    let among : k < length masters = omega arith in
    let here : get_or all k d ≡ far_of axis masters k = get_or_default all k d 0 lt
    ∙ far_is axis masters all k refl among in
    let within = var_within axis masters k 1 among (omega arith) in
    omega arith)

walks_are : (axis : Axis) (masters : List Master) (log : Log) (raises : List Entry) (numbers : List ℕ)
    → TellAlike (raises_in log) raises
    → map (walk_to log) (map (base_of axis masters) numbers) ≡ map (far_walk axis masters raises) numbers
walks_are axis masters log raises [] alike = refl
walks_are axis masters log raises (m ∷ more) alike =
    let add : base_of axis masters m ≡ base_of axis masters m + 0 = omega arith in
    let W : List ℕ → Walk = λ edges. record { edges = edges } in
    let one : walk_to log (base_of axis masters m) ≡ far_walk axis masters raises m = ap (walk_to log) add
    ∙ ap W (same_walk (raises_in log) raises (base_of axis masters m + 0) alike) in
    ap (λ w. w ∷ map (walk_to log) (map (base_of axis masters) more)) one
    ∙ ap (λ ws. far_walk axis masters raises m ∷ ws) (walks_are axis masters log raises more alike)

-- the walk that the code has read is the log's
pub path_of : (edges : List Edge) (log : Log) (far : ℕ) (walk : List ℕ) → walk ≡ (walk_to log far).edges
    → WalksFromTo edges 0 walk far → HasNoRepeat (0 ∷ heads_of edges walk)
    → label (raises_in log) far ≡ Some (length_of edges walk) → HasPath edges log far
path_of edges log far walk is passes simple as_long = record {
  passes = rw is at passes;
  simple = rw is at simple;
  as_long = rw is at as_long;
}

-- the inequalities of walks are listed
pub walks_listed : (edges : List Edge) (log : Log) (fars : List ℕ) (walks : List Walk) → walks ≡ walks_to log fars
    → All (HasPath edges log) fars
    → All (λ (walk : Walk). All (λ k. k < length edges) walk.edges) walks
walks_listed edges log fars walks are paths =
    rw are (All-map (λ (walk : Walk). All (λ k. k < length edges) walk.edges) (walk_to log) fars
    (λ k d lt. (paths k d lt).passes.in_range))

-- ---- a solved pass

module _ {axis : Axis} {tech : Tech} {plan : Plan} {masters : List Master} {before : List Coords} {listed : Listed}
    {solved : Solved} (planned : ArePlanned tech plan masters) (lawful : All (IsLawful tech) masters)
    (laid : AreLaidOut tech masters before) (run : IsSolvedPass axis tech plan masters before listed solved) where
  abbrev now : Step
  now = step_of axis listed solved

  abbrev listed_edges : List Edge
  listed_edges = pruned_system axis tech plan masters before

  abbrev system : List Edge
  system = full_system axis tech plan masters before

  abbrev vars : ℕ
  vars = system_variables axis masters

  -- the log of its rounds is one of ended rounds
  pub ended : IsEndedLog listed.graph solved.log
  ended = record {
    order = run.order;
    rounds = solved.rounds;
    is_order = order_of axis tech plan masters before listed.graph.vars run.order planned laid run.is_list.vars
        run.along;
    of_rounds = run.of_rounds;
  }

  pub far_reached : ReachFar listed.graph.vars listed.graph.edges listed.base
  far_reached = rw (run.is_list.vars, run.is_list.edges, run.is_list.bases)
      (reach_far axis tech plan masters before planned)

  same : HaveSameSolutions listed_edges system
  same = solutions_kept tech plan masters lawful axis before (settling.boxes_of tech masters before laid)

  -- the least solution of the list is that of the system
  solved_least : IsLeastSolution vars system (value_of solved.x)
  solved_least = least_alike vars listed_edges system (value_of solved.x) same
      (rw (run.is_list.vars, run.is_list.edges) at run.least)

  recorded : IsRecorded tech plan masters before now
  recorded = record {
    kept = run.is_list.kept;
    edges = ap length run.is_list.edges;
    few = run.is_list.few;
    order = run.order;
    each_once = rw (system_length axis tech masters before laid) at run.along.names;
    in_order = run.along.in_order;
    backward = run.backward ∙ ap (λ es. length (backward_numbers es run.order)) run.is_list.edges;
    raises = run.of_rounds.raises;
    ended = rw run.is_list.edges at run.of_rounds.ended;
    walks = ap (walks_to solved.log) run.is_list.bases ∙ walks_are axis masters solved.log run.of_rounds.raises _
        run.of_rounds.alike;
  }

  -- the values after the pass solve its list, so another may be made over the layouts
  solves : settling.SolvesPass axis tech plan masters before solved.x
  solves = record {
    counted = run.one_each ∙ run.is_list.vars;
    small = run.small;
    solves = rw run.is_list.edges at run.least.solves;
  }

  settled : StaySettled tech plan masters before axis (moved_by masters before now)
  settled = settling.settles planned lawful laid solves

  critical : All (HasPath listed.graph.edges solved.log) listed.base → (m : ℕ) → m < length masters
      → HasCriticalPath tech plan masters before now m
  critical paths m lt =
      let far : ℕ = far_of axis masters m in
      let count = bases_counted axis masters listed.base run.is_list.bases in
      let far_at : slice_index listed.base m ≡ far = far_is axis masters listed.base m run.is_list.bases lt in
      let F : ℕ → Type 0 = HasPath listed.graph.edges solved.log in
      let path : HasPath listed_edges solved.log far = rw run.is_list.edges at
      (subst F far_at (paths m 0 (omega arith))) in
      let at = path.as_long in
      let v = run.is_list.vars in
      let within = var_within axis masters m 1 lt (omega arith) in
      let there : label (raises_in solved.log) far ≡ Some (value_of solved.x far) = run.labels far (omega arith) in
      let read : walk_at now m ≡ walk_to solved.log (slice_index listed.base m) =
      get_or-map (walk_to solved.log) listed.base m 0 (record { edges = [] }) (omega arith) in
      let walk_is : walk_at now m ≡ walk_to solved.log far = read ∙ ap (walk_to solved.log) far_at in
      let W : Walk → Type 0 = λ walk. IsCriticalPath listed_edges system far walk (value_of solved.x far) in
      subst W (sym walk_is) (record {
        passes = path.passes;
        of_system = walk_among axis tech plan masters before (walk_to solved.log far).edges path.passes.in_range;
        simple = path.simple;
        as_long = cc;
      })

  sound : All (HasPath listed.graph.edges solved.log) listed.base → (had : List Axis)
      → AreSettled tech plan masters had before → IsSoundPass tech plan masters had before now
  sound paths had so_far =
      let x : ℕ → ℤ = value_of (system_values axis before) in
      let stays : Contains had axis → IsSolution system x = λ among. settling.stays_solved planned lawful laid so_far
      among in
      record {
        one_each = length-map listed.base (walk_to solved.log)
            ∙ bases_counted axis masters listed.base run.is_list.bases;
        paths = critical paths;
        solved_before = stays;
        none_grows = λ among v lt. solved_least.below x (stays among) v lt;
        placed = settling.placed_of tech plan masters (moved_by masters before now) (axis ∷ had) settled.laid
            (settled.settled had so_far);
      }

  -- the greatest values over the list are those over the system, and the variables that cannot move are those on its
  -- critical walks
  tight_most : (values : List ℤ) → IsListedMost listed.graph.vars listed.graph.edges listed.base solved.x values
      → IsTightMost tech plan masters before now values
  tight_most values found =
      let fars : List ℕ = bases_of axis masters in
      let x : ℕ → ℤ = value_of solved.x in
      let own : IsListedMost vars listed_edges fars solved.x values = rw
      (run.is_list.bases, run.is_list.edges, run.is_list.vars) at found in
      let most : IsMost vars system fars x (value_of values) = most_alike vars listed_edges system fars x
      (value_of values) same own.most in
      let among = listed_among axis tech plan masters before in
      let walks : (v : ℕ) → v < vars → HasWalk listed_edges 0 v (x v) = λ v lt.
      let count = run.is_list.vars in
      let within : v < listed.graph.vars = omega arith in
      rw run.is_list.edges at (reached listed.graph solved.log x v run.is_list.shape ended within
      (run.labels v within)) in
      let within = fars_within axis masters fars vars refl refl in
      record {
        most = record { one_each = own.one_each; most = most };
        tight = λ v from lt. stands vars system fars x (value_of values) (record {
          solves = (same x).0 solves.solves;
          reached = λ u below. walk_more listed_edges system 0 u (x u) among (walks u below);
          some_far = some_far vars listed_edges fars v (reach_far axis tech plan masters before planned) within from lt;
          most = most;
          attained = λ u above below. attained_more listed_edges system fars x u (value_of values u) among
              (own.attained u above below);
        }) v lt;
      }

  -- so the pass is made
  pub pass_made : (pass : ℕ) (told : Bool) (made : Made) (x : List ℤ)
      → All (HasPath listed.graph.edges solved.log) listed.base → made.step ≡ now → x ≡ made.step.x
      → made.layouts.items ≡ with_values axis masters before x
      → made.text.items ≡ pass_text masters listed.graph.edges pass made.step
      → (IsTrue told → IsListedMost listed.graph.vars listed.graph.edges listed.base x made.most)
      → (told ≡ false → made.most ≡ []) → IsPassMade tech plan masters before pass told made
  pass_made pass told made x paths is x_is layouts text most none =
      let on : x ≡ solved.x = x_is ∙ ap (λ (s : Step). s.x) is in
      let P : Step → Type 0 = λ s. IsPassMade tech plan masters before pass told (record made { step = s }) in
      subst P (sym is) (record {
        least = record { one_each = solves.counted; least = solved_least };
        recorded = recorded;
        sound = sound paths;
        layouts = layouts ∙ ap (with_values axis masters before) on;
        stays = settled;
        text = text ∙ (ap (pass_text masters listed.graph.edges pass) is
            ∙ ap (λ es. pass_text masters es pass now) run.is_list.edges);
        most = λ asked. tight_most made.most (rw on at (most asked));
        none = none;
      })

-- ---- a pass without a solution

module _ {axis : Axis} {tech : Tech} {plan : Plan} {masters : List Master} {before : List Coords} {listed : Listed}
    {cycle : List ℕ} (laid : AreLaidOut tech masters before)
    (run : IsStoppedPass axis tech plan masters before listed cycle) where
  stopped_cycle : HasPositiveCycle (full_system axis tech plan masters before)
  stopped_cycle = cycle_among axis tech plan masters before (rw run.is_list.edges at run.cyclic)

  pub stopped : (pass : ℕ) (text : List ℕ) → text ≡ cycle_text listed.names listed.graph.edges pass axis cycle
      → IsCyclicOver tech plan masters before pass axis text
  stopped pass text says =
      let edges = run.is_list.edges in
      let simple : IsSimplePositiveCycle (pruned_system axis tech plan masters before) cycle = rw edges at run.simple in
      record {
        few = rw edges at run.is_list.few;
        cyclic = stopped_cycle;
        order = run.order;
        each_once = rw (system_length axis tech masters before laid) at run.along.names;
        in_order = run.along.in_order;
        cycle = cycle;
        stops = rw edges at run.stops;
        simple = simple;
        of_system = walk_among axis tech plan masters before cycle simple.in_range;
        says = says ∙ (ap (λ names. cycle_text names listed.graph.edges pass axis cycle) run.is_list.names
            ∙ ap (λ es. cycle_text (system_names axis masters) es pass axis cycle) edges);
      }

  -- this comes only where the axis has had no pass
  pub stopped_first : ArePlanned tech plan masters → All (IsLawful tech) masters
      → IsFirstOn tech plan masters before axis
  stopped_first planned lawful had settled among = settling.no_cycle_again planned lawful laid settled among
      stopped_cycle
