use Rattle.std.proofs.Common.{ℕ, map, string_bytes, ◌∙◌, sym, rules}
use Rattle.std.proofs.lemmas.Result.{on_err_weaker}
use Rattle.heesch_words.specs.Requests.{HasCheckForm}
use Rattle.heesch_words.proofs.Forms.{outer_no_options, outer_refused}
use Rattle.heesch_words.proofs.requests.check.Goals as goal

pub returns-in-outer-clause-usage : goal.returns-in-outer-clause-usage
returns-in-outer-clause-usage c =
    let refused : (workers : ℕ) → ¬ HasCheckForm (map string_bytes c.args.words.now) workers =
    outer_no_options string_bytes c.args.words.now c.form-item.result c.in-len1-up.len_at_least c.form-item.is (sym c.as_str.ensures.value ∙ c.in-outer.is) in
    search rules

pub returns-in-outer-clause-no_outer : goal.returns-in-outer-clause-no_outer
returns-in-outer-clause-no_outer c =
    on_err_weaker c.check_outer.result (outer_refused string_bytes c.args.words.now) c.check_outer.ensures.usage
