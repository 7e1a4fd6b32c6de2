use Rattle.std.proofs.Common.{◌≡◌, ◌≤◌, ◌++◌, map, take, drop}
use Rattle.box_tree.{specs.Retagged.{AreAlikeFrom, with_tag}, proofs.OtherTags.HaveTag}
use Rattle.box_tree.proofs.retagging.retag_entries.Given as goal

abbrev pub invariant-loop-place : goal.invariant-loop-place
invariant-loop-place l =
    let old = l.fn.entries.items in let new = map (with_tag l.tags) old in
    record {
      entries : l.entries.items ≡ map (with_tag l.tags) (take l.place old) ++ drop l.place old;
      firsts : AreAlikeFrom new l.place l.firsts.items;
      before : l.first ≤ l.place;
      same : HaveTag new l.first l.place l.tag;
    }
