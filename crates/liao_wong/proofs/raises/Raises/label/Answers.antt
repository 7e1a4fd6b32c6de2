use Rattle.std.proofs.Common.{◌≡◌, List, w64, FitsSigned, Some, None, length, rules, ap, subst, ◌∙◌, arith}
use Rattle.std.proofs.lemmas.Int.{to_z-of_z}
use Rattle.round_log.specs.{declared.log.Entry.Entry, Looks.label, Logs.raises_of}
use Rattle.liao_wong.proofs.Arrays.{label_missing, label_read}
use Rattle.liao_wong.proofs.raises.Raises.label.Goals.{else-n-eq0-via-then-n-eq0+else-v-ne0, else-n-eq0-via-else-n-eq0}
use Rattle.liao_wong.proofs.raises.Raises.label.Goals as goal

pub returns-then-v-ne0 : goal.returns-then-v-ne0
returns-then-v-ne0 c =
    let a = c.self.inside in
    let vars = ap (λ h. h.vars) c.self.view_is in
    let P : List Entry → Type 0 = λ rs. None ≡ label rs c.args.v in
    subst P (ap (λ h. h.raises) c.self.view_is)
    (label_missing (length a.last.items) a.entries.items a.last.items (raises_of a.entries.items) c.args.v
    c.index-n.result.now c.self.invariant.arrays (omega (arith, vars, c.requires)) c.index-n.ensures c.if-n-eq0.true
    c.if-v-ne0.true)

pub returns : goal.returns
returns c =
    let a = c.self.inside in
    let vars = ap (λ h. h.vars) c.self.view_is in
    let P : List Entry → Type 0 = λ rs. Some c.index.result.now ≡ label rs c.args.v in
    let z : c.index-n.result.now ≡ 0 → c.args.v ≡ 0 = λ e. elim c.else-n-eq0.branch as (λ _. c.args.v ≡ 0) [
      | else-n-eq0-via-then-n-eq0+else-v-ne0 w ↦ w.if-v-ne0.false
      | else-n-eq0-via-else-n-eq0 w ↦ absurd (w.if-n-eq0.false e)
    ] in
    let fits : FitsSigned w64 c.index.result.now = search rules in
    ap (λ x. Some x) (to_z-of_z w64 c.index.result.now fits)
    ∙ subst P (ap (λ h. h.raises) c.self.view_is)
    (label_read a.entries.items a.last.items a.values.items (raises_of a.entries.items) c.args.v
    c.index-n.result.now c.index.result.now c.self.invariant (omega (arith, vars, c.requires)) c.index-n.ensures z
    c.index.ensures)
