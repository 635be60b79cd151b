use Rattle.heesch_words.proofs.Forms.{one_request}
use Rattle.heesch_words.proofs.laws.words_ask_for_one_thing.Goals as goal

pub returns : goal.returns
returns c = one_request
