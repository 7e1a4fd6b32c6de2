use Rattle.std.proofs.Common.{◌≡◌, ◌-◌, ℕ, List, length, drop, sym, ap, ◌∙◌, arith}
use Rattle.round_log.specs.{declared.log.Entry.Entry, Logs.{raises_in, up_to_entry}}
use Rattle.round_log.specs.WalksBack as back
use Rattle.liao_wong.proofs.Outputs.{stop_looks, cycle_is}
use Rattle.liao_wong.proofs.solving.cycle_at.Goals as goal

pub cycle_of-requires-clause-log : goal.cycle_of-requires-clause-log
cycle_of-requires-clause-log c =
    stop_looks c.args.g.now c.args.order.now.variables.now c.args.raises c.into_log-log.result c.requires.vars
    c.requires.stopped.at_raise c.into_log-log.ensures.raises c.into_log-log.ensures.holds

-- the raises up to the newest entry are all
up_to_newest : (raises : List Entry) (n : ℕ) → n ≡ length raises → up_to_entry raises n ≡ raises
up_to_newest raises n e = ap (λ k. drop k raises) (let z : length raises - n ≡ 0 = omega arith in z)

pub returns-in-Ok-clause-stopped : goal.returns-in-Ok-clause-stopped
returns-in-Ok-clause-stopped c =
    let edges = c.args.g.now.edges in
    let raises : List Entry = raises_in c.into_log-log.result in
    let same : raises ≡ c.args.raises.raises = c.into_log-log.ensures.raises in
    let newest : up_to_entry raises c.len-entry.result ≡ raises =
    up_to_newest raises c.len-entry.result (c.len-entry.ensures ∙ ap length (sym same)) in
    cycle_is c.args.g.now c.args.order.now.variables.now c.args.raises.raises c.from_vec.result c.requires.stopped
    (c.from_vec.ensures ∙ c.in-Ok.ensures.value ∙ ap (back.cycle_of edges) (newest ∙ same))
