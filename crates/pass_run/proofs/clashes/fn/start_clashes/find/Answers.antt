use Rattle.std.proofs.Common.{◌≡◌, List, length, get_or, ap, ◌∙◌, sym, subst, arith, IfOk}
use Rattle.std.proofs.lemmas.List.{get_or-map, get_or_default, length-map}
use Rattle.sym_items.specs.declared.items.Coords.{Coords}
use Rattle.expand.specs.{declared.master.Master.Master, Masters.IsMaster}
use Rattle.pitch_join.specs.Masters.{master_at, no_master}
use Rattle.pass_run.specs.{Clashes.IsStartClash, Layouts.start_of_master}
use Rattle.pass_run.proofs.clashes.fn.start_clashes.find.Goals.{After-index-starts-m}
use Rattle.pass_run.proofs.clashes.fn.start_clashes.find.Goals as goal

-- what the code reads is master m and its start layout
master_is : (c : After-index-starts-m) → c.index-masters-m.result ≡ master_at c.captures.masters.now c.args.m.now
master_is c = c.index-masters-m.is ∙ get_or_default c.captures.masters.now c.args.m.now _ no_master c.requires.0

start_is : (c : After-index-starts-m)
    → c.index-starts-m.result ≡ start_of_master c.captures.tech.now c.index-masters-m.result
start_is c =
    let start : Master → Coords = start_of_master c.captures.tech.now in
    let m = c.args.m.now in
    let read : Coords = c.index-starts-m.result in
    c.index-starts-m.is
    ∙ (ap (λ (cs : List Coords). get_or cs m read) c.requires.2
    ∙ (get_or-map start c.captures.masters.now m c.index-masters-m.result read c.requires.0
    ∙ ap start (sym c.index-masters-m.is)))

pub bounds-starts-m : goal.bounds-starts-m
bounds-starts-m c =
    let masters = c.captures.masters.now in
    let count = ap (λ (cs : List Coords). length cs) c.requires.2
    ∙ length-map masters (start_of_master c.captures.tech.now) in
    let lt = c.requires.0 in
    omega arith

pub start_clash-requires : goal.start_clash-requires
start_clash-requires c =
    let at = (goal.at.start_clash-requires c).After-index-starts-m in
    let M : Master → Type 0 = IsMaster c.captures.tech.now in
    record {
      master = subst M (sym (master_is at)) (c.requires.1 c.args.m.now no_master c.requires.0);
      start = start_is at;
    }

pub returns : goal.returns
returns c =
    let at = (goal.at.returns c).After-index-starts-m in
    let M : Master → Type 0 = λ master. IfOk c.start_clash.result (IsStartClash c.captures.tech.now master) in
    subst M (master_is at) c.start_clash.ensures
