use Rattle.std.{proofs.Common.{◌∙◌}, proofs.lemmas.List.get_or_default}
use Rattle.net_extract.{specs.Lists.no_run, proofs.Runs.list_read}
use Rattle.net_extract.proofs.lists.list_of.Goals as goal

pub returns-then-run : goal.returns-then-run
returns-then-run c =
    let lists = c.args.lists.now in
    let run = c.index-run.result.now in
    let read = list_read lists c.args.a run c.deref.result.now
    (c.index-run.ensures ∙ get_or_default lists.runs.items c.args.a run no_run c.requires.in_range) c.if-run.true
    c.deref.ensures.value c.requires.within in
    (read.0, read.1.0, read.1.1)
