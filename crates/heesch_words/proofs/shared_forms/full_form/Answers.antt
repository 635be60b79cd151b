use Rattle.std.proofs.Common.{ℕ, false, map, string_bytes, rules}
use Rattle.heesch_cert.specs.declared.header.Subject.{Subject}
use Rattle.heesch_cert.specs.declared.limits.Limits.{Limits}
use Rattle.heesch_grid.specs.declared.GridName.{GridName}
use Rattle.heesch_words.specs.Requests.{HasClassifyForm}
use Rattle.heesch_words.proofs.Forms.{brief_not_full}
use Rattle.heesch_words.proofs.shared_forms.full_form.Goals as goal

pub returns-in_err-form-clause-usage : goal.returns-in_err-form-clause-usage
returns-in_err-form-clause-usage c =
    let refused : (grid : GridName) (subject : Subject) (limits : Limits) (workers : ℕ) → ¬ HasClassifyForm (map string_bytes c.args.words.now) grid subject limits workers false =
    λ grid subject limits workers has. c.in_err-form.ensures.usage grid subject limits workers false has in
    search rules

pub returns-then-form-clause-usage : goal.returns-then-form-clause-usage
returns-then-form-clause-usage c =
    let form = c.in_ok-form.form in
    λ grid subject limits workers.
    brief_not_full (map string_bytes c.args.words.now) form.grid grid form.subject subject form.limits limits form.workers workers form.brief c.in_ok-form.ensures.ok c.if-form.true
