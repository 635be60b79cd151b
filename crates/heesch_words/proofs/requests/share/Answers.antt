use Rattle.std.proofs.Common.{◌≡◌, ◌≢◌, ◌≤◌, ◌∙◌, ℕ, ap, sym, map, string_bytes, decimal, refl, rules, arith}
use Rattle.heesch_cert.specs.Sizes.{most_cells}
use Rattle.heesch_cert.specs.declared.limits.Limits.{Limits}
use Rattle.heesch_grid.specs.declared.GridName.{GridName}
use Rattle.heesch_grid.specs.Names.{grid_word}
use Rattle.heesch_words.specs.Options.{limits_of}
use Rattle.heesch_words.specs.Requests.{HasShareForm}
use Rattle.heesch_words.proofs.Forms.{no_full_options, share_number_refused, share_size_refused}
use Rattle.heesch_words.proofs.requests.share.Goals as goal

pub returns-in_err-options-clause-usage : goal.returns-in_err-options-clause-usage
returns-in_err-options-clause-usage c =
    let refused : (grid : GridName) (n i k : ℕ) (limits : Limits) (workers : ℕ) → ¬ HasShareForm (map string_bytes c.args.words.now) grid n i k limits workers =
    λ grid n i k limits workers has. no_full_options string_bytes c.args.words.now 4 _ has.options refl c.in_err-options.ensures.usage has.have has.not_brief in
    search rules

pub returns-in_err-i-clause-usage : goal.returns-in_err-i-clause-usage
returns-in_err-i-clause-usage c =
    let named : string_bytes c.k-item.result ≡ decimal c.in_ok-k.field-0 = sym c.as_str-2.ensures.value ∙ c.in_ok-k.ensures.ok.0 in
    let none : (m : ℕ) → 1 ≤ m → m ≤ c.in_ok-k.field-0 → string_bytes c.i-item.result ≢ decimal m =
    λ m low high is.
    let few = c.in_ok-k.ensures.ok.2 in
    let most = c.from.ensures in
    c.in_err-i.ensures.usage m low (omega (arith, high, few, most)) (c.as_str-3.ensures.value ∙ is) in
    let refused : (grid : GridName) (n i k : ℕ) (limits : Limits) (workers : ℕ) → ¬ HasShareForm (map string_bytes c.args.words.now) grid n i k limits workers =
    share_number_refused string_bytes c.args.words.now c.i-item.result c.k-item.result c.in_ok-k.field-0 c.in-len4-up.len_at_least c.i-item.is c.k-item.is named c.in_ok-k.ensures.ok.2 none in
    search rules

pub returns-in_err-n-clause-usage : goal.returns-in_err-n-clause-usage
returns-in_err-n-clause-usage c =
    let named : string_bytes c.grid-item.result ≡ grid_word c.in_ok-grid.grid = sym c.as_str.ensures.value ∙ c.in_ok-grid.ensures.ok in
    let version : c.limits-limits.result.version ≡ (limits_of c.in_ok-options.options).version = ap (λ (l : Limits). l.version) c.limits-limits.ensures in
    let none : (m : ℕ) → 1 ≤ m → m ≤ most_cells c.limits-limits.result.version c.in_ok-grid.grid → string_bytes c.n-item.result ≢ decimal m =
    λ m low high is.
    let most = c.from-2.ensures in
    let cells = c.most_cells.ensures in
    c.in_err-n.ensures.usage m low (omega (arith, high, most, cells)) (c.as_str-4.ensures.value ∙ is) in
    let refused : (grid : GridName) (n i k : ℕ) (limits : Limits) (workers : ℕ) → ¬ HasShareForm (map string_bytes c.args.words.now) grid n i k limits workers =
    share_size_refused string_bytes c.args.words.now c.grid-item.result c.n-item.result c.in_ok-options.options c.limits-limits.result.version c.in_ok-grid.grid c.in-len4-up.len_at_least c.grid-item.is c.n-item.is named version c.in_ok-options.ensures.ok none in
    search rules
