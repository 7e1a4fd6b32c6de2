-- The words as the code keeps them.
use Rattle.std.specs.Prelude.{List, map}
use Rattle.stick_words.specs.declared.words.Word.{Word}
use Rattle.stick_words.specs.declared.words.Word.TheVariants as word
use Rattle.stick_text.specs.Words as said

-- a word without where it lies in memory
abbrev pub view : Word → said.Word
view (word.Path path) = said.Path path.now
view (word.Number n) = said.Number n
view word.AtMost = said.AtMost
view word.AtLeast = said.AtLeast

abbrev pub views : List Word → List said.Word
views words = map view words
