use Rattle.std.proofs.{Common.{◌∷◌, [], ◌++◌, List, ℕ, ap, ◌∙◌, arith}, lemmas.Result.err_from_is_err_and}
use Rattle.cons_graph.proofs.NamesKept.{names_kept, name_added}
use Rattle.cons_graph.proofs.names.Names.push.Goals as goal

pub returns-in_err-push-clause-err : goal.returns-in_err-push-clause-err
returns-in_err-push-clause-err c =
    let p = err_from_is_err_and c.from_residual-in_err-push.result c.from_residual-in_err-push.ensures.1 in
    let kept =
    names_kept c.self.inside.bytes.items c.extend_from_slice.new.self.items _ c.self.inside.places.items
    c.in_ok-extend_from_slice.ensures.items c.self.invariant in
    rw (p.1, c.in_err-push.ensures.items) (kept ∙ c.self.view_is)

pub returns-clause-ok : goal.returns-clause-ok
returns-clause-ok c =
    name_added c.self.inside.bytes.items c.extend_from_slice.new.self.items _ c.self.inside.places.items _ _
    c.in_ok-extend_from_slice.ensures.items c.self.invariant c.in_ok-push.ensures.items (omega arith) (omega arith)
    ∙ ap (λ (names : List (List ℕ)). names ++ c.args.name.now ∷ []) c.self.view_is
