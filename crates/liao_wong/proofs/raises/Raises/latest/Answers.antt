use Rattle.std.proofs.Common.{◌≤◌, List, length, ap, subst, arith}
use Rattle.round_log.specs.{declared.log.Entry.Entry, Logs.raises_of}
use Rattle.liao_wong.proofs.Arrays.{latest_low}
use Rattle.liao_wong.proofs.raises.Raises.latest.Goals as goal

pub returns-clause-in_log : goal.returns-clause-in_log
returns-clause-in_log c =
    let a = c.self.inside in
    let vars = ap (λ h. h.vars) c.self.view_is in
    let P : List Entry → Type 0 = λ rs. c.index.result.now ≤ length rs in
    subst P (ap (λ h. h.raises) c.self.view_is)
    (latest_low (length a.last.items) a.entries.items a.last.items (raises_of a.entries.items) c.args.v
    c.index.result.now c.self.invariant.arrays (omega (arith, vars, c.requires)) c.index.ensures)
