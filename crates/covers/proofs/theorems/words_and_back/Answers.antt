use Rattle.covers.proofs.RowWords.{symbols_back, value_word_fits, care_word_fits, words_back, words_take}
use Rattle.covers.proofs.theorems.words_and_back.Goals as goal

pub returns : goal.returns
returns c = record { holds = record { symbols_back = symbols_back; value_fits = value_word_fits; care_fits = care_word_fits; words_back = words_back; takes_by_mask = words_take } }
