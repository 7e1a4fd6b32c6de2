use Rattle.std.proofs.Common.{◌≡◌, drop}
use Rattle.stick_text.specs.Forms.{names_of}
use Rattle.stick_words.specs.WordViews.{views}
use Rattle.stick_parse.proofs.Names.{with_prefix}
use Rattle.stick_parse.proofs.forms.names_of.Given as goal

abbrev pub invariant-loop-i : goal.invariant-loop-i
invariant-loop-i l = with_prefix l.names.items (names_of (drop l.i (views l.words))) ≡ names_of (views l.words)
