use Rattle.std.proofs.Common.{ℕ, map, string_bytes, refl, rules}
use Rattle.heesch_grid.specs.declared.GridName.{GridName}
use Rattle.heesch_words.specs.Requests.{HasListForm}
use Rattle.heesch_words.proofs.Forms.{no_options, list_not_alone}
use Rattle.heesch_words.proofs.shared_forms.list_form.Goals as goal

pub returns-in_err-options-clause-usage : goal.returns-in_err-options-clause-usage
returns-in_err-options-clause-usage c =
    let refused : (grid : GridName) (n workers : ℕ) → ¬ HasListForm (map string_bytes c.args.words.now) grid n workers =
    λ grid n workers has. no_options string_bytes c.args.words.now 2 _ has.options refl c.in_err-options.ensures.usage has.have in
    search rules

pub returns-in_err-workers-clause-usage : goal.returns-in_err-workers-clause-usage
returns-in_err-workers-clause-usage c =
    let refused : (grid : GridName) (n workers : ℕ) → ¬ HasListForm (map string_bytes c.args.words.now) grid n workers =
    list_not_alone string_bytes c.args.words.now c.in_ok-options.options c.in_ok-options.ensures.ok c.in_err-workers.ensures.usage in
    search rules
