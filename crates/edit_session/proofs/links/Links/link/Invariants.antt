use Rattle.std.proofs.Common.{◌≡◌, ℕ, ◌<◌, length, get_or}
use Rattle.edit_session.specs.Links.{AreLinksUpTo}
use Rattle.edit_session.proofs.links.Links.link.Given as goal

abbrev pub invariant-loop-v : goal.invariant-loop-v
invariant-loop-v l = record {
  one_each : length l.self.latest.items ≡ length l.fn.self.latest.items;
  same : l.self.before ≡ l.fn.self.before;
  empty : (v : ℕ) → v < l.v → get_or l.self.latest.items v 0 ≡ 0;
}

abbrev pub invariant-loop-k : goal.invariant-loop-k
invariant-loop-k l = AreLinksUpTo (length l.fn.self.latest.items) l.edges l.k l.self.latest.items l.self.before.items
