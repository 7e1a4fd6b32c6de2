use Rattle.std.{proofs.Common.{◌≡◌, ◌++◌}, specs.{Prelude.{codes, flat_map}, List.range_with_len}}
use Rattle.edit_command.specs.Edits.{size_word}
use Rattle.edit_command.proofs.edit.done_word.Given as goal

abbrev pub invariant-loop-m : goal.invariant-loop-m
invariant-loop-m l = l.word.items ≡ codes "done" ++ flat_map (size_word l.masters l.layouts) (range_with_len 0 l.m)
