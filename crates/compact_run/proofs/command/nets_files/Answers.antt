use Rattle.std.proofs.{lemmas.Result.err_from_is_err_and, Common.{sym, subst}}
use Rattle.design_nets.specs.NamedNets.{IsNamedText}
use Rattle.design_commands.specs.Nets.{names_of_grids}
use Rattle.command_files.proofs.Coming.{unread, read_on, stopped, all_done, no_memory}
use Rattle.compact_run.proofs.Coming.{made_on}
use Rattle.compact_run.proofs.command.nets_files.Goals as goal

pub returns-in_err-technology : goal.returns-in_err-technology
returns-in_err-technology g c =
    let p = err_from_is_err_and c.from_residual.result c.from_residual.ensures.1 in
    let e = c.in_err-technology.ensures in
    rw p.1 (rw p.2 (unread e.refused e.refusal e.over e.asked e.counted e.counts))

pub returns-in_err-sticks : goal.returns-in_err-sticks
returns-in_err-sticks g c =
    let p = err_from_is_err_and c.from_residual-in_err-sticks.result c.from_residual-in_err-sticks.ensures.1 in
    let t = c.in_ok-technology.ensures in
    let e = c.in_err-sticks.ensures in
    rw p.1 (rw p.2
    (read_on t.technology t.asked t.counts (unread e.refused e.refusal e.over e.asked e.counted e.counts)))

pub returns-in_err-text : goal.returns-in_err-text
returns-in_err-text g c =
    let p = err_from_is_err_and c.from_residual-in_err-text.result c.from_residual-in_err-text.ensures.1 in
    let t = c.in_ok-technology.ensures in
    let d = c.in_ok-sticks.ensures in
    rw p.1 (rw p.2
    (read_on t.technology t.asked t.counts
    (read_on d.design d.asked d.counts (stopped c.in_err-text.ensures.refused))))

pub returns-in_err-in_one_chunk : goal.returns-in_err-in_one_chunk
returns-in_err-in_one_chunk g c =
    let p = err_from_is_err_and c.from_residual-in_err-in_one_chunk.result
    c.from_residual-in_err-in_one_chunk.ensures.1 in
    let t = c.in_ok-technology.ensures in
    let d = c.in_ok-sticks.ensures in
    rw p.1 (rw p.2 (read_on t.technology t.asked t.counts (read_on d.design d.asked d.counts (no_memory))))

pub returns : goal.returns
returns g c =
    let t = c.in_ok-technology.ensures in
    let d = c.in_ok-sticks.ensures in
    let n = c.in_ok-text.ensures.done in
    let nets = subst (IsNamedText (names_of_grids c.in_ok-sticks.sticks.grids) n.plan n.masters)
    (sym c.in_ok-in_one_chunk.ensures.text) n.named in
    read_on t.technology t.asked t.counts
    (read_on d.design d.asked d.counts
    (made_on n.plan n.masters n.are_masters (all_done (nets, c.in_ok-in_one_chunk.ensures.report))))
