-- Nets that are one are so either way round.
use Rattle.std.proofs.Common.{ℕ, List}
use Rattle.cell_model.specs.declared.cell.{CellPort.CellPort, Nets.Nets}
use Rattle.plan_model.specs.GridNets.{net_of_port, IsOneNet, the_same, met_before, met_after}
use Rattle.plan_model.specs.Instances.{InstancePlace, master_at_spot}

pub one_net_then : (ports : List (List CellPort)) (nets : ℕ → Nets) (grids : List (List (List ℕ))) (p : InstancePlace)
    (n : ℕ) (q : InstancePlace) (m : ℕ) (r : InstancePlace) (k : ℕ)
    → IsOneNet ports nets grids p n q m → IsOneNet ports nets grids q m r k → IsOneNet ports nets grids p n r k
one_net_then ports nets grids p n q m r k h the_same = h
one_net_then ports nets grids p n q m r k h (met_before axis t u a b chain met) =
    met_before axis t u a b
    (one_net_then ports nets grids p n q m t (net_of_port nets (master_at_spot grids t) a) h chain) met
one_net_then ports nets grids p n q m r k h (met_after axis t u a b chain met) =
    met_after axis t u a b
    (one_net_then ports nets grids p n q m u (net_of_port nets (master_at_spot grids u) b) h chain) met

pub one_net_back : (ports : List (List CellPort)) (nets : ℕ → Nets) (grids : List (List (List ℕ))) (p : InstancePlace)
    (n : ℕ) (q : InstancePlace) (m : ℕ) → IsOneNet ports nets grids p n q m → IsOneNet ports nets grids q m p n
one_net_back ports nets grids p n q m the_same = the_same
one_net_back ports nets grids p n q m (met_before axis t u a b chain met) =
    let at : ℕ = net_of_port nets (master_at_spot grids t) a in
    one_net_then ports nets grids u (net_of_port nets (master_at_spot grids u) b) t at p n
    (met_after axis t u a b the_same met) (one_net_back ports nets grids p n t at chain)
one_net_back ports nets grids p n q m (met_after axis t u a b chain met) =
    let at : ℕ = net_of_port nets (master_at_spot grids u) b in
    one_net_then ports nets grids t (net_of_port nets (master_at_spot grids t) a) u at p n
    (met_before axis t u a b the_same met) (one_net_back ports nets grids p n u at chain)
