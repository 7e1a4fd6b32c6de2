use Rattle.std.proofs.Common.{◌≡◌, ◌<◌, ℕ, length, List, sym, subst, ap, ◌∙◌, get_or}
use Rattle.bar_rows.specs.declared.bars.Bar.{Bar}
use Rattle.bar_tree.specs.{declared.{tree.{Level.Level, Tree.Tree}}, Trees.{IsLevelOf, IsTreeOf}}
use Rattle.bar_tree.proofs.Levels.{started_among}
use Rattle.bar_tree.proofs.tree.Tree.past.Goals as goal

-- a level that is read in the list of a tree
a_level : (bars : List Bar) (tree : Tree) (levels : List Level) (level : Level) (k : ℕ) → IsTreeOf bars tree
    → levels ≡ tree.levels.items → level ≡ get_or levels k level → k < length levels
    → IsLevelOf bars tree.started.items level
a_level bars tree levels level k is same read lt =
    let P : Level → Type 0 = IsLevelOf bars tree.started.items in
    let read : level ≡ get_or tree.levels.items k level = read ∙ ap (λ (ls : List Level). get_or ls k level) same in
    subst P (sym read) (is.levels k level (subst (λ (ls : List Level). k < length ls) same lt))

pub loop-level-preserved : goal.loop-level-preserved
loop-level-preserved c =
    let tree = c.args.self.now in
    let is = a_level c.args.bars.now tree c.as_slice-levels.result.now c.level-item.result c.loop-level.level-index
    c.requires.tree c.as_slice-levels.ensures.value c.level-item.is c.loop-level-test.true in
    record {
      after = c.past-next.ensures.after;
      none = λ p le below asked. c.past-next.ensures.none tree.started.items is.covers p le below
          (started_among tree.started.items (length c.args.bars.now) p c.requires.tree.places asked.0) asked.0 asked.1;
    }
