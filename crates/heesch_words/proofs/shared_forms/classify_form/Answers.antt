use Rattle.std.proofs.Common.{◌≡◌, ◌≢◌, ◌∙◌, ℕ, Bool, ap, map, refl, rules, string_bytes, sym}
use Rattle.heesch_cert.specs.declared.header.Subject.{Subject}
use Rattle.heesch_cert.specs.declared.limits.Limits.{Limits}
use Rattle.heesch_grid.specs.declared.GridName.{GridName}
use Rattle.heesch_grid.specs.Names.{grid_word}
use Rattle.heesch_cert.specs.Sizes.{IsSubject, subject_word}
use Rattle.heesch_words.specs.Options.{limits_of}
use Rattle.heesch_words.specs.Requests.{HasClassifyForm}
use Rattle.heesch_words.proofs.Forms.{no_options, subject_refused}
use Rattle.heesch_words.proofs.shared_forms.classify_form.Goals as goal

pub returns-in_err-options-clause-usage : goal.returns-in_err-options-clause-usage
returns-in_err-options-clause-usage c =
    let refused : (grid : GridName) (subject : Subject) (limits : Limits) (workers : ℕ) (brief : Bool) → ¬ HasClassifyForm (map string_bytes c.args.words.now) grid subject limits workers brief =
    λ grid subject limits workers brief has. no_options string_bytes c.args.words.now 2 _ has.options refl c.in_err-options.ensures.usage has.have in
    search rules

pub returns-in_err-subject-clause-usage : goal.returns-in_err-subject-clause-usage
returns-in_err-subject-clause-usage c =
    let named : string_bytes c.grid-item.result ≡ grid_word c.in_ok-grid.grid = sym c.as_str.ensures.value ∙ c.in_ok-grid.ensures.ok in
    let version : c.limits-limits.result.version ≡ (limits_of c.in_ok-options.options).version = ap (λ (l : Limits). l.version) c.limits-limits.ensures in
    let no_subject : (subject : Subject) → IsSubject c.limits-limits.result.version c.in_ok-grid.grid subject → string_bytes c.subject-item.result ≢ subject_word subject =
    λ subject in_range is. c.in_err-subject.ensures.usage subject in_range (c.as_str-2.ensures.value ∙ is) in
    let refused : (grid : GridName) (subject : Subject) (limits : Limits) (workers : ℕ) (brief : Bool) → ¬ HasClassifyForm (map string_bytes c.args.words.now) grid subject limits workers brief =
    subject_refused string_bytes c.args.words.now c.grid-item.result c.subject-item.result c.in_ok-options.options c.limits-limits.result.version c.in_ok-grid.grid
    c.in-len2-up.len_at_least c.grid-item.is c.subject-item.is named version c.in_ok-options.ensures.ok no_subject in
    search rules
