use Rattle.std.proofs.{Common.{List, Ok, sym, ap, ◌∙◌, arith, ℕ}, lemmas.{List.length-map, Result.err_from_is_err_and}}
use Rattle.stick_text.specs.Forms.{names_of}
use Rattle.stick_words.specs.WordViews.{view, views}
use Rattle.stick_parse.proofs.Names.{goes_on, stops, is_done, left_words}
use Rattle.stick_parse.proofs.forms.names_of.Goals as goal

pub returns-in_err-name : goal.returns-in_err-name
returns-in_err-name c =
    let p = err_from_is_err_and c.from_residual.result c.from_residual.ensures.1 in
    let words = c.args.words.now in
    rw (p.1, p.2)
    (stops (views words) c.loop-i.names.items c.loop-i.i c.in_err-name.field-0.0 (names_of (views words))
    (omega (arith, length-map words view)) (rw (left_words words c.loop-i.i) at c.in_err-name.ensures)
    c.loop-i.invariant)

pub loop-i-preserved : goal.loop-i-preserved
loop-i-preserved c =
    let words = c.args.words.now in
    let on = goes_on (views words) c.loop-i.names.items c.loop-i.i c.in_ok-name.name.now _ (names_of (views words))
    (omega (arith, length-map words view)) (rw (left_words words c.loop-i.i) at c.in_ok-name.ensures)
    c.loop-i.invariant in
    rw (c.in_ok-push.ensures.items, c.in_ok-new.ensures) on

pub returns : goal.returns
returns c =
    let words = c.args.words.now in
    is_done (views words) c.loop-i.names.items c.loop-i.i (names_of (views words))
    (omega (arith, length-map words view)) c.loop-i.invariant
    ∙ ap (λ (names : List (List ℕ)). Ok names) (sym c.from_vec.ensures)
