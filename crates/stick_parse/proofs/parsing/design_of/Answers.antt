use Rattle.std.proofs.{Common.{Ok, sym, subst, ◌∙◌}, lemmas.Result.err_from_is_err_and}
use Rattle.stick_text.{specs.{Reading.Fails, Order.design_in}, proofs.Failing.fails_on}
use Rattle.stick_parse.proofs.Together.{from_head, whole_design, fails_in_cells, fails_in_grids}
use Rattle.stick_parse.proofs.parsing.design_of.Goals as goal

pub returns-in_err-version : goal.returns-in_err-version
returns-in_err-version g c =
    let p = err_from_is_err_and c.from_residual.result c.from_residual.ensures.1 in
    let all = from_head c.args.text.now c.in-Ok.lines c.in-Ok.ensures.number c.in-Ok.ensures.said in
    rw p.1 (rw p.2
    (subst (Fails _) (sym all) (fails_on _ _ (λ rest. Ok (design_in rest)) c.in_err-version.ensures.fault)))

pub returns-in_err-cells : goal.returns-in_err-cells
returns-in_err-cells g c =
    let p = err_from_is_err_and c.from_residual-in_err-cells.result c.from_residual-in_err-cells.ensures.1 in
    let all = from_head c.args.text.now c.in-Ok.lines c.in-Ok.ensures.number c.in-Ok.ensures.said in
    rw p.1 (rw p.2
    (subst (Fails _) (sym all)
    (fails_in_cells _ c.in_ok-version.version _ _ c.in_ok-version.ensures.rest c.in_err-cells.ensures.fault)))

pub returns-in_err-grids : goal.returns-in_err-grids
returns-in_err-grids g c =
    let p = err_from_is_err_and c.from_residual-in_err-grids.result c.from_residual-in_err-grids.ensures.1 in
    let all = from_head c.args.text.now c.in-Ok.lines c.in-Ok.ensures.number c.in-Ok.ensures.said in
    rw p.1 (rw p.2
    (subst (Fails _) (sym all)
    (fails_in_grids _ c.in_ok-version.version c.in_ok-cells.cells c.in_ok-cells.line c.in_ok-cells.name _ _ _
    c.in_ok-version.ensures.rest c.in_ok-cells.ensures.cells c.in_err-grids.ensures.fault)))

pub returns : goal.returns
returns g c =
    let all = from_head c.args.text.now c.in-Ok.lines c.in-Ok.ensures.number c.in-Ok.ensures.said in
    all ∙ whole_design c.in_ok-version.version c.in_ok-cells.cells c.in_ok-cells.line c.in_ok-cells.name
    c.in_ok-grids.grids _ _ _ c.in_ok-version.ensures.rest c.in_ok-cells.ensures.cells c.in_ok-grids.ensures.grids
