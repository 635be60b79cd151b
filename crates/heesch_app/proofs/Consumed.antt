-- What is read of a source.
use Rattle.std.proofs.Common.{ℕ, List, [], ◌++◌, Option}
use Rattle.std.proofs.KnownBytes.{Consumes-kept}
use Rattle.std.specs.Io.KnownBytes.{Consumes, Keeps}
use Rattle.heesch_io.specs.Input.{ReadsNoFurther}
use Rattle.heesch_io.proofs.KnownBytes.{consumes_both, consumes_none}
use Rattle.heesch_app.specs.Inputs.{ConsumesSome}

pub none_consumed : (left : Option (List ℕ)) → ConsumesSome left left
none_consumed left = ([], consumes_none left)

pub kept_consumed : (first before now : Option (List ℕ)) (bytes : List ℕ) → Consumes first before bytes → Keeps before now → ConsumesSome first now
kept_consumed first before now bytes c k = (bytes, Consumes-kept first before now bytes c k)

pub more_consumed : (first before now : Option (List ℕ)) (bytes more : List ℕ) → Consumes first before bytes → Consumes before now more → ConsumesSome first now
more_consumed first before now bytes more c d = (bytes ++ more, consumes_both first before now bytes more c d)

pub further_consumes : (decides_nothing : List ℕ → Type 0) (first now : Option (List ℕ)) → ReadsNoFurther decides_nothing first now → ConsumesSome first now
further_consumes decides_nothing first now n = (n.bytes ++ n.last, n.consumed)
