use Rattle.std.proofs.Common.{pos}
use Rattle.box_tree.proofs.Within.{encloses_past}
use Rattle.box_tree.proofs.bounds.joined.Goals as goal

pub returns-clause-first : goal.returns-clause-first
returns-clause-first c = λ entry h. record {
  outer = encloses_past c.enclosing.result c.args.a.now.outer entry.area (pos 0) c.enclosing.ensures.first h.outer;
  inner = c.common.ensures.first entry.area h.inner;
  tag = c.one_tag.ensures.first entry.tag h.tag;
}

pub returns-clause-second : goal.returns-clause-second
returns-clause-second c = λ entry h. record {
  outer = encloses_past c.enclosing.result c.args.b.now.outer entry.area (pos 0) c.enclosing.ensures.second h.outer;
  inner = c.common.ensures.second entry.area h.inner;
  tag = c.one_tag.ensures.second entry.tag h.tag;
}
