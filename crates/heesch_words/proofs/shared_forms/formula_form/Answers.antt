use Rattle.std.proofs.Common.{◌≡◌, ◌∙◌, ℕ, ap, sym, map, string_bytes, refl, rules}
use Rattle.heesch_cert.specs.declared.limits.Limits.{Limits}
use Rattle.heesch_cert.specs.Sizes.{HasGrid}
use Rattle.heesch_cnf.specs.declared.version.Version.{Version}
use Rattle.heesch_grid.specs.declared.GridName.{GridName}
use Rattle.heesch_grid.specs.Names.{grid_word}
use Rattle.heesch_words.specs.Options.{limits_of}
use Rattle.heesch_words.specs.Requests.{HasFormulaForm}
use Rattle.heesch_words.proofs.Forms.{no_options, formula_not_alone, formula_no_grid}
use Rattle.heesch_words.proofs.shared_forms.formula_form.Goals as goal

pub returns-in_err-options-clause-usage : goal.returns-in_err-options-clause-usage
returns-in_err-options-clause-usage c =
    let refused : (grid : GridName) (level size : ℕ) (version : Version) → ¬ HasFormulaForm (map string_bytes c.args.words.now) grid level size version =
    λ grid level size version has. no_options string_bytes c.args.words.now 2 _ has.options refl c.in_err-options.ensures.usage has.have in
    search rules

pub returns-in_err-limits-clause-usage : goal.returns-in_err-limits-clause-usage
returns-in_err-limits-clause-usage c =
    let refused : (grid : GridName) (level size : ℕ) (version : Version) → ¬ HasFormulaForm (map string_bytes c.args.words.now) grid level size version =
    formula_not_alone string_bytes c.args.words.now c.in_ok-options.options c.in_ok-options.ensures.ok c.in_err-limits.ensures.usage in
    search rules

pub returns-then-not-has_grid-clause-usage : goal.returns-then-not-has_grid-clause-usage
returns-then-not-has_grid-clause-usage c =
    let named : string_bytes c.grid-item.result ≡ grid_word c.in_ok-grid.grid = sym c.as_str.ensures.value ∙ c.in_ok-grid.ensures.ok in
    let version : c.in_ok-limits.limits.version ≡ (limits_of c.in_ok-options.options).version = ap (λ (l : Limits). l.version) c.in_ok-limits.ensures.ok.1 in
    let tested = c.if-not-has_grid.ensures in
    let none : ¬ HasGrid c.in_ok-limits.limits.version c.in_ok-grid.grid = λ h. let known = tested.1 h in absurd cc in
    formula_no_grid string_bytes c.args.words.now c.grid-item.result c.in_ok-options.options c.in_ok-limits.limits.version c.in_ok-grid.grid
    c.in-len2-up.len_at_least c.grid-item.is named version c.in_ok-options.ensures.ok none
