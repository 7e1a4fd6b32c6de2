use Rattle.std.proofs.{Common.{ℕ, List, length, refl, ap, ◌∙◌, arith, slice_index}, lemmas.List.get_or_default}
use Rattle.pitch_join.{specs.Masters.no_master, proofs.{Bases.bases_counted, Listed.far_is}}
use Rattle.pass_run.proofs.Texts.{master_said}
use Rattle.pass_run.proofs.text.push_master.Goals as goal

pub bounds-as_slice-m : goal.bounds-as_slice-m
bounds-as_slice-m c =
    let count = bases_counted c.args.step.now.axis c.args.masters.now c.args.listed.now.base c.requires.bases in
    let base = ap (λ (ns : List ℕ). length ns) c.as_slice.ensures in
    let lt = c.requires.among in
    omega arith

pub returns : goal.returns
returns c =
    let masters = c.args.masters.now in
    let step = c.args.step.now in
    let m = c.args.m in
    let lt = c.requires.among in
    let base = ap (λ (ns : List ℕ). slice_index ns m) c.as_slice.ensures in
    master_said masters c.args.listed.now.graph.edges step m _ c.index-masters-m.result _ _ c.args.listed.now.names
    c.walk_at.result.now c.bytes.result.now c.args.text.now.items
    c.push_size.new.text.items c.extend_from_slice.new.self.items
    (c.index-masters-m.is ∙ get_or_default masters m _ no_master lt)
    (base ∙ far_is step.axis masters c.args.listed.now.base m c.requires.bases lt) refl refl c.requires.names
    c.walk_at.ensures (c.bytes.ensures ∙ c.in_ok-lines.ensures)
    c.in_ok-push_size.ensures c.in_ok-extend_from_slice.ensures.items
