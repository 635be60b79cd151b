use Rattle.std.proofs.Common.{◌≡◌, ◌≢◌, false, map, string_bytes, subst, rules}
use Rattle.heesch_words.specs.declared.options.Options.{Options}
use Rattle.heesch_words.specs.Options.{AreOptions}
use Rattle.heesch_words.proofs.Settings.{one_reading}
use Rattle.heesch_words.proofs.options.Options.read_full.Goals as goal

pub returns-in_err-options-clause-usage : goal.returns-in_err-options-clause-usage
returns-in_err-options-clause-usage c =
    let refused : (options : Options) → AreOptions (map string_bytes c.args.words.now) options → options.brief ≢ false =
    λ options given. absurd (c.in_err-options.ensures.usage options given) in
    search rules

pub returns-then-options-clause-usage : goal.returns-then-options-clause-usage
returns-then-options-clause-usage c = λ options given full.
    let same : options ≡ c.in_ok-options.options = one_reading (map string_bytes c.args.words.now) options c.in_ok-options.options given c.in_ok-options.ensures.ok in
    let both : c.in_ok-options.options.brief ≡ false = subst (λ (o : Options). o.brief ≡ false) same full in
    cc
