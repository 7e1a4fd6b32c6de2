use Rattle.std.proofs.Common.{◌≡◌, map, take}
use Rattle.stick_text.specs.Words.{word_of}
use Rattle.stick_words.specs.WordViews.{views}
use Rattle.stick_words.proofs.words.words_of.Given as goal

abbrev pub invariant-loop-token : goal.invariant-loop-token
invariant-loop-token l = views l.words.items ≡ map (word_of l.line) (take l.token-index l.tokens)
