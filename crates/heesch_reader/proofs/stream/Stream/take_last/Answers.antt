use Rattle.std.proofs.Common.{◌≡◌, refl, ap, subst, ◌∙◌, arith}
use Rattle.heesch_reader.specs.Taking.{Streamed, TellsTooLong}
use Rattle.heesch_io.proofs.KnownBytes.{one_byte}
use Rattle.heesch_reader.proofs.Reading.{too_long}
use Rattle.heesch_reader.proofs.stream.Stream.take_last.Goals as goal

pub returns-then-branch-gt0-clause-taken : goal.returns-then-branch-gt0-clause-taken
returns-then-branch-gt0-clause-taken g c =
    let b = one_byte (g.R.Source.left c.args.source.now) (g.R.Source.left c.read.new.self) c.in_ok-read.field-0 c.read.new.into c.read.auto.into (omega (arith, c.in_ok-read.ensures.bound, c.read.auto.into)) c.if-branch-gt0.true c.in_ok-read.ensures.bytes.0 in
    let most : c.self.inside.count ≡ 1099511627776 = ap (λ (s : Streamed). s.count) c.self.view_is ∙ c.requires.all in
    subst (λ (s : Streamed). TellsTooLong (g.R.Source.left c.args.source.now) s s c.args.items.now c.args.items.now c.self.inside.line) c.self.view_is
    (too_long (g.R.Source.left c.args.source.now) (g.R.Source.left c.read.new.self) (record { kept = c.self.inside.reader; count = c.self.inside.count; line = c.self.inside.line }) (record { kept = c.self.inside.reader; count = c.self.inside.count; line = c.self.inside.line }) c.args.items.now b.0 refl b.1 most)
