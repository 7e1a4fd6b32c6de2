use Rattle.compact_run.proofs.cif.output_text.Goals as goal

pub returns-in-Extract-clause-output : goal.returns-in-Extract-clause-output
returns-in-Extract-clause-output g c = rw c.in-Extract.is c.netlist_of.ensures.netlist

pub returns-in-Check-clause-output : goal.returns-in-Check-clause-output
returns-in-Check-clause-output g c = rw c.in-Check.is c.verdict_of.ensures.verdict

pub returns-in-Breaks-clause-output : goal.returns-in-Breaks-clause-output
returns-in-Breaks-clause-output g c = rw c.in-Breaks.is c.breaks_of.ensures.breaks
