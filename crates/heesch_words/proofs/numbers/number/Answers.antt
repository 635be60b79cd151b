use Rattle.std.proofs.Common.{◌≡◌, Ok, true, decimal, ap, sym, ◌∙◌, arith}
use Rattle.heesch_words.proofs.Digits.{parses, same_passes}
use Rattle.heesch_words.proofs.numbers.number.Goals as goal

-- it was parsed as this number, and the text of it is the word
pub returns-in_default-clause-usage : goal.returns-in_default-clause-usage
returns-in_default-clause-usage c = λ n low high is.
    let parsed : c.parse.result ≡ Ok n = parses n c.args.word.now c.parse.result (omega arith) is c.parse.ensures.value.0 in
    let same : c.in-Ok.n ≡ n = cc in
    let text : c.format.result.now ≡ c.args.word.now = c.format.ensures.text ∙ ap decimal same ∙ sym is in
    let passes : c.eq.result ≡ true = c.eq.ensures ∙ same_passes _ _ text in
    cc

pub returns-in_default-2-clause-usage : goal.returns-in_default-2-clause-usage
returns-in_default-2-clause-usage c = λ n low high is.
    let parsed : c.parse.result ≡ Ok n = parses n c.args.word.now c.parse.result (omega arith) is c.parse.ensures.value.0 in
    let same : c.in-Ok.n ≡ n = cc in
    omega arith

pub returns-in_default-3-clause-usage : goal.returns-in_default-3-clause-usage
returns-in_default-3-clause-usage c = λ n low high is.
    let parsed : c.parse.result ≡ Ok n = parses n c.args.word.now c.parse.result (omega arith) is c.parse.ensures.value.0 in
    let same : c.in-Ok.n ≡ n = cc in
    omega arith

pub returns-in_default-4-clause-usage : goal.returns-in_default-4-clause-usage
returns-in_default-4-clause-usage c = λ n low high is.
    let parsed : c.parse.result ≡ Ok n = parses n c.args.word.now c.parse.result (omega arith) is c.parse.ensures.value.0 in
    cc
