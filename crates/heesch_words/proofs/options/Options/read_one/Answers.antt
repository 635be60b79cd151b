use Rattle.std.proofs.Common.{map, string_bytes}
use Rattle.heesch_words.specs.Options.{Workers, Turns, Levels, Domain, Size, Version}
use Rattle.heesch_words.proofs.OptionRows.{number_taken, brief_read, brief_refused}
use Rattle.heesch_words.proofs.options.Options.read_one.Goals as goal

pub returns-in-text : goal.returns-in-text
returns-in-text c = number_taken Workers c.read_once.result _ _ _ _ _ c.in-text.is c.read_once.ensures.ok c.read_once.ensures.usage

pub returns-in-text-2 : goal.returns-in-text-2
returns-in-text-2 c = number_taken Turns c.read_once-in-text-2.result _ _ _ _ _ c.in-text-2.is c.read_once-in-text-2.ensures.ok c.read_once-in-text-2.ensures.usage

pub returns-in-text-3 : goal.returns-in-text-3
returns-in-text-3 c = number_taken Levels c.read_once-in-text-3.result _ _ _ _ _ c.in-text-3.is c.read_once-in-text-3.ensures.ok c.read_once-in-text-3.ensures.usage

pub returns-in-text-4 : goal.returns-in-text-4
returns-in-text-4 c = number_taken Domain c.read_once-in-text-4.result _ _ _ _ _ c.in-text-4.is c.read_once-in-text-4.ensures.ok c.read_once-in-text-4.ensures.usage

pub returns-in-text-5 : goal.returns-in-text-5
returns-in-text-5 c = number_taken Size c.read_once-in-text-5.result _ _ _ _ _ c.in-text-5.is c.read_once-in-text-5.ensures.ok c.read_once-in-text-5.ensures.usage

pub returns-in-text-6 : goal.returns-in-text-6
returns-in-text-6 c = number_taken Version c.read_once-in-text-6.result _ _ _ _ _ c.in-text-6.is c.read_once-in-text-6.ensures.ok c.read_once-in-text-6.ensures.usage

pub returns-in-text-7-clause-ok : goal.returns-in-text-7-clause-ok
returns-in-text-7-clause-ok c =
    brief_read c.set_once.result (λ others. map string_bytes others.now) c.args.name.now (map string_bytes c.args.words.now) c.args.self.now c.set_once.new.place
    c.in-text-7.is c.set_once.ensures.ok

pub returns-in-text-7-clause-usage : goal.returns-in-text-7-clause-usage
returns-in-text-7-clause-usage c =
    brief_refused c.set_once.result c.args.name.now (map string_bytes c.args.words.now) c.args.self.now c.in-text-7.is c.set_once.ensures.usage
