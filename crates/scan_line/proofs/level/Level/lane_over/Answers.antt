use Rattle.std.proofs.Common.{ap, ◌∙◌, rules, ℕ, ◌<◌, length, Vec, Global}
use Rattle.scan_line.proofs.Lists.{list_read}
use Rattle.scan_line.proofs.level.Level.lane_over.Goals as goal

pub returns : goal.returns
returns c =
    let level = c.args.self.now in
    let lane : ℕ = c.number_of-lane.result in
    let lt : lane < length level.lists.items = search rules in
    record {
      lane = lane;
      among = lt;
      list_is = c.as_slice.ensures.value
          ∙ (ap (λ (v : Vec ℕ Global). v.items) c.index.ensures ∙ list_read level.lists.items lane _ lt);
      low_in = search rules;
      high_in = search rules;
    }
