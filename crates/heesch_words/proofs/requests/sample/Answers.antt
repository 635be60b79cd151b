use Rattle.std.proofs.Common.{◌≡◌, ◌∙◌, ℕ, ap, sym, map, string_bytes, refl, rules}
use Rattle.heesch_cert.specs.declared.limits.Limits.{Limits}
use Rattle.heesch_cert.specs.Sizes.{HasGrid}
use Rattle.heesch_grid.specs.declared.GridName.{GridName}
use Rattle.heesch_grid.specs.Names.{grid_word}
use Rattle.heesch_words.specs.Options.{limits_of}
use Rattle.heesch_words.specs.Requests.{HasSampleForm}
use Rattle.heesch_words.proofs.Forms.{no_full_options, sample_no_grid}
use Rattle.heesch_words.proofs.requests.sample.Goals as goal

pub returns-in_err-options-clause-usage : goal.returns-in_err-options-clause-usage
returns-in_err-options-clause-usage c =
    let refused : (grid : GridName) (n count seed : ℕ) (limits : Limits) (workers : ℕ) → ¬ HasSampleForm (map string_bytes c.args.words.now) grid n count seed limits workers =
    λ grid n count seed limits workers has. no_full_options string_bytes c.args.words.now 4 _ has.options refl c.in_err-options.ensures.usage has.have has.not_brief in
    search rules

pub returns-then-not-has_grid-clause-usage : goal.returns-then-not-has_grid-clause-usage
returns-then-not-has_grid-clause-usage c =
    let named : string_bytes c.grid-item.result ≡ grid_word c.in_ok-grid.grid = sym c.as_str.ensures.value ∙ c.in_ok-grid.ensures.ok in
    let version : c.limits-limits.result.version ≡ (limits_of c.in_ok-options.options).version = ap (λ (l : Limits). l.version) c.limits-limits.ensures in
    let tested = c.if-not-has_grid.ensures in
    let none : ¬ HasGrid c.limits-limits.result.version c.in_ok-grid.grid = λ h. let known = tested.1 h in absurd cc in
    sample_no_grid string_bytes c.args.words.now c.grid-item.result c.in_ok-options.options c.limits-limits.result.version c.in_ok-grid.grid
    c.in-len4-up.len_at_least c.grid-item.is named version c.in_ok-options.ensures.ok none
