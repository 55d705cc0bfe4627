use Rattle.vc_script.proofs.OneLine.{number_is_word}
use Rattle.vc_script.proofs.laws.numbers_are_words.Goals as goal

pub returns : goal.returns
returns c = number_is_word
