use Rattle.std.proofs.{Common.{◌≡◌, ℕ, ap, ◌∙◌, arith, string_bytes}, lemmas.Result.IfOk-weaker}
use Rattle.cell_model.specs.declared.cell.NodeNets.{NodeNets}
use Rattle.expand.specs.Items.{nets_at}
use Rattle.net_list.specs.Lines.{terminal_words}
use Rattle.design_nets.specs.{Connections.number_in, Instances.master_no, Joining.own_net, NamedLines.terminals_of}
use Rattle.design_nets.{specs.Nets.nets_no, proofs.Numbered.fet_read}
use Rattle.design_nets.proofs.named_lines.fet_terminals.Goals as goal

pub bounds-as_slice-fet : goal.bounds-as_slice-fet
bounds-as_slice-fet c =
    (fet_read c.args.masters.now c.args.sticks.now c.requires.numbered c.args.fet c.index.result.now
    c.index-2.result.now c.as_slice.result.now c.requires.fet c.index.ensures c.index-2.ensures
    c.as_slice.ensures).long

pub offset_bounds-as_slice-fet : goal.offset_bounds-as_slice-fet
offset_bounds-as_slice-fet c =
    let lt =
    (fet_read c.args.masters.now c.args.sticks.now c.requires.numbered c.args.fet c.index.result.now
    c.index-2.result.now c.as_slice.result.now c.requires.fet c.index.ensures c.index-2.ensures
    c.as_slice.ensures).long in
    omega (arith, lt)

pub number_in-gate-requires-clause-net : goal.number_in-gate-requires-clause-net
number_in-gate-requires-clause-net c =
    (fet_read c.args.masters.now c.args.sticks.now c.requires.numbered c.args.fet c.index.result.now
    c.index-2.result.now c.as_slice.result.now c.requires.fet c.index.ensures c.index-2.ensures
    c.as_slice.ensures).main _

pub number_in-low-requires-clause-net : goal.number_in-low-requires-clause-net
number_in-low-requires-clause-net c =
    (fet_read c.args.masters.now c.args.sticks.now c.requires.numbered c.args.fet c.index.result.now
    c.index-2.result.now c.as_slice.result.now c.requires.fet c.index.ensures c.index-2.ensures
    c.as_slice.ensures).low _

pub number_in-high-requires-clause-net : goal.number_in-high-requires-clause-net
number_in-high-requires-clause-net c =
    (fet_read c.args.masters.now c.args.sticks.now c.requires.numbered c.args.fet c.index.result.now
    c.index-2.result.now c.as_slice.result.now c.requires.fet c.index.ensures c.index-2.ensures
    c.as_slice.ensures).high _

pub returns : goal.returns
returns c =
    let sticks = c.args.sticks.now in
    let fet = c.args.fet in
    let own : NodeNets = nets_at (nets_no sticks.nets.items (master_no sticks.instances.items fet.instance)).node
    fet.node in
    let read =
    (fet_read c.args.masters.now c.args.sticks.now c.requires.numbered c.args.fet c.index.result.now
    c.index-2.result.now c.as_slice.result.now c.requires.fet c.index.ensures c.index-2.ensures
    c.as_slice.ensures).read
    (record { main = 0; low = 0; high = 0 }) in
    let number : ℕ → ℕ = λ net. number_in sticks.numbers (own_net fet.instance net) in
    let gate = c.number_in-gate.ensures ∙ ap (λ (n : NodeNets). number n.main) read in
    let low = c.number_in-low.ensures ∙ ap (λ (n : NodeNets). number n.low) read in
    let high = c.number_in-high.ensures ∙ ap (λ (n : NodeNets). number n.high) read in
    let words : terminal_words c.number_in-gate.result c.number_in-low.result c.number_in-high.result
    ≡ terminals_of c.args.masters.now sticks fet =
    ap (λ (n : ℕ). terminal_words n c.number_in-low.result c.number_in-high.result) gate
    ∙ (ap (λ (n : ℕ). terminal_words (number own.main) n c.number_in-high.result) low
    ∙ ap (λ (n : ℕ). terminal_words (number own.main) (number own.low) n) high) in
    IfOk-weaker c.terminal_words.result
    (λ w. string_bytes w ≡ terminal_words c.number_in-gate.result c.number_in-low.result c.number_in-high.result)
    (λ w. string_bytes w ≡ terminals_of c.args.masters.now sticks fet)
    (λ w e. e ∙ words) c.terminal_words.ensures
