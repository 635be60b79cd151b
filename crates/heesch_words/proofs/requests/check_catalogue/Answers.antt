use Rattle.std.proofs.Common.{ℕ, map, string_bytes, rules}
use Rattle.heesch_words.specs.Requests.{HasCheckForm}
use Rattle.heesch_words.proofs.Forms.{check_not_alone}
use Rattle.heesch_words.proofs.requests.check_catalogue.Goals as goal

pub returns-in_err-options-clause-usage : goal.returns-in_err-options-clause-usage
returns-in_err-options-clause-usage c =
    let refused : (workers : ℕ) → ¬ HasCheckForm (map string_bytes c.args.words.now) workers =
    λ workers has. c.in_err-options.ensures.usage has.options has.given in
    search rules

pub returns-in_err-workers-clause-usage : goal.returns-in_err-workers-clause-usage
returns-in_err-workers-clause-usage c =
    let refused : (workers : ℕ) → ¬ HasCheckForm (map string_bytes c.args.words.now) workers =
    check_not_alone (map string_bytes c.args.words.now) c.in_ok-options.options c.in_ok-options.ensures.ok c.in_err-workers.ensures.usage in
    search rules
