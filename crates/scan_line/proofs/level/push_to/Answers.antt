use Rattle.std.proofs.Common.{ℕ, List, ◌∷◌, [], ◌++◌, Vec, Global, ap, ◌∙◌}
use Rattle.scan_line.proofs.Lists.{list_here, list_other, list_read}
use Rattle.scan_line.proofs.level.push_to.Goals as goal

pub returns-clause-grown : goal.returns-clause-grown
returns-clause-grown c =
    let lists = c.args.lists.now.items in
    list_here lists c.args.t c.push.new.self c.requires
    ∙ (c.in_ok-push.ensures.items
    ∙ (ap (λ (v : Vec ℕ Global). v.items ++ c.args.item ∷ []) c.index_mut-list.ensures.value
    ∙ ap (λ (l : List ℕ). l ++ c.args.item ∷ []) (list_read lists c.args.t c.index_mut-list.result.now c.requires)))

pub returns-clause-kept : goal.returns-clause-kept
returns-clause-kept c = λ u ne. list_other c.args.lists.now.items c.args.t u c.push.new.self ne
