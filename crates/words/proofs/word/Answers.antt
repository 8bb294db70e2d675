use mathlib.Core.Path.{refl}
use Rattle.words.specs.Word.{word_of}
use Rattle.words.proofs.word.Goals as goal

pub returns : goal.returns
unfolding word_of
returns c = rw (c.from.ensures, c.from-2.ensures, c.from-3.ensures, c.from-4.ensures) refl
