use Rattle.std.proofs.Common.{map, string_bytes, rules}
use Rattle.heesch_words.specs.declared.options.Options.{Options}
use Rattle.heesch_words.specs.Options.{AreOptions}
use Rattle.heesch_words.proofs.Settings.{none_follows}
use Rattle.heesch_words.proofs.options.Options.read.Goals as goal

pub returns-in_err-rest-clause-usage : goal.returns-in_err-rest-clause-usage
returns-in_err-rest-clause-usage c =
    let words = map string_bytes c.args.words.now in
    let refused : (options : Options) → ¬ AreOptions words options =
    λ options. none_follows string_bytes words c.loop-rest.options options c.loop-rest.rest.now c.name-item.result _ c.loop-rest.invariant
    c.in-len1-up.len_at_least c.name-item.is c.as_str.ensures.value c.in_err-rest.ensures.usage in
    search rules
