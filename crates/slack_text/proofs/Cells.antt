-- The text of each master among those of all.
use Rattle.std.proofs.Common.{◌≡◌, ℕ, suc, ◌+◌, ◌<◌, ◌≤◌, ℤ, List, [], ◌∷◌, ◌++◌, length, get_or, map, sym, ap, ◌∙◌}
use Rattle.std.proofs.{Common.{append_assoc, append-nil, arith}, lemmas.List.{get_or_default, length-map}}
use Rattle.std.{proofs.lemmas.List.Sums.sum_by-cons, specs.{Prelude.drop, List.{flat_map, range_with_len}}}
use Rattle.lam_geom.specs.declared.boxes.Axis.{Axis}
use Rattle.cons_graph.specs.Solutions.{value_of}
use Rattle.cell_model.specs.declared.cell.{Cell.Cell, Node.Node}
use Rattle.expand.specs.declared.master.Master.{Master}
use Rattle.pitch_join.specs.{Masters.{master_at, no_master}, Joined.{own_variables, base_of, far_of, system_variables}}
use Rattle.pitch_join.specs.Names.{within_cell, cross_name, own_names}
use Rattle.pitch_join.proofs.{Bases.{base_next, base_within}, NamesCounted.names_counted}
use Rattle.slack_text.{specs.Slack.{size_line, slack_lines, master_slack}, proofs.Adding.slack_lines-append}

-- there is a name for each variable of a master
own_counted : (axis : Axis) (master : Master) → length (own_names axis master.cell) ≡ own_variables axis master
own_counted axis master =
    let names : List (List ℕ) = own_names axis master.cell in
    let all : suc (length (names ++ [])) ≡ system_variables axis (master ∷ []) = names_counted axis (master ∷ []) in
    let alone : length (names ++ []) ≡ length names = ap length (append-nil names) in
    let total : system_variables axis (master ∷ []) ≡ 1 + (own_variables axis master + 0) =
    ap (λ n. 1 + n) (sum_by-cons (own_variables axis) master []) in
    omega arith

-- that of the master that a loop reads
pub master_read : (masters : List Master) (m : ℕ) (master : Master) → m < length masters
    → master ≡ get_or masters m master → master ≡ master_at masters m
master_read masters m master lt at = at ∙ get_or_default masters m master no_master lt

pub names_within : (axis : Axis) (masters : List Master) (m far : ℕ) (master : Master) → m < length masters
    → master ≡ master_at masters m → far ≡ base_of axis masters m
    → far + length (own_names axis master.cell) ≤ system_variables axis masters
names_within axis masters m far master lt is begins =
    let own = own_counted axis master in
    let same : own_variables axis master ≡ own_variables axis (master_at masters m) = ap (own_variables axis) is in
    let within = base_within axis masters m lt in
    omega arith

pub names_end : (axis : Axis) (masters : List Master) (m far next : ℕ) (master : Master) → m < length masters
    → master ≡ master_at masters m → far ≡ base_of axis masters m
    → next ≡ far + length (own_names axis master.cell) → next ≡ base_of axis masters (m + 1)
names_end axis masters m far next master lt is begins ends =
    let own = own_counted axis master in
    let same : own_variables axis master ≡ own_variables axis (master_at masters m) = ap (own_variables axis) is in
    let after = base_next axis masters m lt in
    omega arith

-- the text of a cell: its size, its nodes and its wires
pub cell_added : (axis : Axis) (cell : Cell) (far w : ℕ) (least most : List ℤ) (start one two three : List ℕ)
    → w ≡ far + 1 + length cell.nodes
    → one ≡ start ++ size_line cell.name (value_of least far)
    → two ≡ one ++ slack_lines (map (λ (node : Node). within_cell cell node.name) cell.nodes) (far + 1) least most
    → three ≡ two ++ slack_lines (flat_map (cross_name axis cell) (range_with_len 0 (length cell.wires))) w least most
    → three ≡ start
    ++ (size_line cell.name (value_of least far) ++ slack_lines (drop 1 (own_names axis cell)) (far + 1) least
    most)
cell_added axis cell far w least most start one two three e is_one is_two is_three =
    let size : List ℕ = size_line cell.name (value_of least far) in
    let nodes : List (List ℕ) = map (λ (node : Node). within_cell cell node.name) cell.nodes in
    let wires : List (List ℕ) = flat_map (cross_name axis cell) (range_with_len 0 (length cell.wires)) in
    let a : List ℕ = slack_lines nodes (far + 1) least most in
    let b : List ℕ = slack_lines wires w least most in
    let count : length nodes ≡ length cell.nodes =
    length-map cell.nodes (λ (node : Node). within_cell cell node.name) in
    let lines : slack_lines (nodes ++ wires) (far + 1) least most ≡ a ++ b =
    slack_lines-append nodes wires (far + 1) w least most (omega arith) in
    let all : three ≡ ((start ++ size) ++ a) ++ b = is_three
    ∙ ap (λ ns. ns ++ b) (is_two ∙ ap (λ ns. ns ++ a) is_one) in
    all ∙ (append_assoc (start ++ size) a b
    ∙ (append_assoc start size (a ++ b) ∙ ap (λ ns. start ++ (size ++ ns)) (sym lines)))

-- the text of a master, from that of its cell
pub master_added : (axis : Axis) (masters : List Master) (least most : List ℤ) (m far : ℕ) (master : Master)
    (old new : List ℕ) → master ≡ master_at masters m → far ≡ base_of axis masters m
    → new ≡ old
    ++ (size_line master.cell.name (value_of least far) ++ slack_lines (drop 1 (own_names axis master.cell))
    (far + 1) least most) → new ≡ old ++ master_slack axis masters least most m
master_added axis masters least most m far master old new is begins said =
    let T : Master → ℕ → ℕ → List ℕ = λ x border first.
    old ++ (size_line x.cell.name (value_of least border) ++ slack_lines (drop 1 (own_names axis x.cell)) first
    least most) in
    let border : far ≡ far_of axis masters m = omega arith in
    let first : far + 1 ≡ suc (base_of axis masters m) = omega arith in
    said
    ∙ (ap (λ x. T x far (far + 1)) is
    ∙ (ap (λ b. T (master_at masters m) b (far + 1)) border
    ∙ ap (λ k. T (master_at masters m) (far_of axis masters m) k) first))
