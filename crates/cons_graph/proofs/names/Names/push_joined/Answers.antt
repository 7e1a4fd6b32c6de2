use Rattle.std.proofs.Common.{◌≡◌, ◌∷◌, [], ◌++◌, List, ℕ, ap, ◌∙◌, arith, append_assoc}
use Rattle.std.proofs.lemmas.Result.{err_from_is_err_and}
use Rattle.cons_graph.proofs.NamesKept.{names_kept, name_added}
use Rattle.cons_graph.proofs.names.Names.push_joined.Goals as goal

two_added : (bytes one two first : List ℕ) (between : ℕ) → one ≡ bytes ++ first → two ≡ one ++ between ∷ []
    → two ≡ bytes ++ (first ++ between ∷ [])
two_added bytes one two first between e f = rw (f, e) (append_assoc bytes first (between ∷ []))

three_added : (bytes one two now first last : List ℕ) (between : ℕ) → one ≡ bytes ++ first
    → two ≡ one ++ between ∷ [] → now ≡ two ++ last → now ≡ bytes ++ (first ++ between ∷ last)
three_added bytes one two now first last between e f g = rw (g, f, e) (simp append_assoc)

pub returns-in_err-push-clause-err : goal.returns-in_err-push-clause-err
returns-in_err-push-clause-err c =
    let p = err_from_is_err_and c.from_residual-in_err-push.result c.from_residual-in_err-push.ensures.1 in
    let kept =
    names_kept c.self.inside.bytes.items c.extend_from_slice.new.self.items _ c.self.inside.places.items
    c.in_ok-extend_from_slice.ensures.items c.self.invariant in
    rw (p.1, c.in_err-push.ensures.items) (kept ∙ c.self.view_is)

pub returns-in_err-extend_from_slice-2-clause-err : goal.returns-in_err-extend_from_slice-2-clause-err
returns-in_err-extend_from_slice-2-clause-err c =
    let r = c.from_residual-in_err-extend_from_slice-2 in
    let p = err_from_is_err_and r.result r.ensures.1 in
    let two =
    two_added c.self.inside.bytes.items c.extend_from_slice.new.self.items c.push.new.self.items c.args.first.now
    c.args.between c.in_ok-extend_from_slice.ensures.items c.in_ok-push.ensures.items in
    let kept =
    names_kept c.self.inside.bytes.items c.push.new.self.items _ c.self.inside.places.items two c.self.invariant in
    rw (p.1, c.in_err-extend_from_slice-2.ensures.items) (kept ∙ c.self.view_is)

pub returns-in_err-push-2-clause-err : goal.returns-in_err-push-2-clause-err
returns-in_err-push-2-clause-err c =
    let p = err_from_is_err_and c.from_residual-in_err-push-2.result c.from_residual-in_err-push-2.ensures.1 in
    let three =
    three_added c.self.inside.bytes.items c.extend_from_slice.new.self.items c.push.new.self.items
    c.extend_from_slice-2.new.self.items c.args.first.now c.args.last.now c.args.between
    c.in_ok-extend_from_slice.ensures.items c.in_ok-push.ensures.items c.in_ok-extend_from_slice-2.ensures.items in
    let kept =
    names_kept c.self.inside.bytes.items c.extend_from_slice-2.new.self.items _ c.self.inside.places.items three
    c.self.invariant in
    rw (p.1, c.in_err-push-2.ensures.items) (kept ∙ c.self.view_is)

pub returns-clause-ok : goal.returns-clause-ok
returns-clause-ok c =
    let three =
    three_added c.self.inside.bytes.items c.extend_from_slice.new.self.items c.push.new.self.items
    c.extend_from_slice-2.new.self.items c.args.first.now c.args.last.now c.args.between
    c.in_ok-extend_from_slice.ensures.items c.in_ok-push.ensures.items c.in_ok-extend_from_slice-2.ensures.items in
    name_added c.self.inside.bytes.items c.extend_from_slice-2.new.self.items _ c.self.inside.places.items _ _ three
    c.self.invariant c.in_ok-push-2.ensures.items (omega arith) (omega arith)
    ∙ ap (λ (names : List (List ℕ)). names ++ (c.args.first.now ++ c.args.between ∷ c.args.last.now) ∷ [])
    c.self.view_is
