use Rattle.std.proofs.Common.{◌≤◌, ◌<◌, ◌-◌, length, take, ap, ◌∙◌, arith}
use Rattle.std.specs.Prelude.{sum}
use Rattle.std.proofs.lemmas.List.{get_or_default}
use Rattle.heesch_numbers.proofs.Counting.{start-sum, length-gaps}
use Rattle.heesch_numbers.proofs.prefix.Prefix.start.Goals as goal

pub index-requires : goal.index-requires
index-requires c =
    let v = ap length c.self.view_is in
    let long = length-gaps 0 c.self.inside.ends.items in
    let le = c.requires in
    omega (arith, v, long, c.if-part-eq0.false, le, c.self.inside.ends.ok)

pub returns-else-part-eq0 : goal.returns-else-part-eq0
returns-else-part-eq0 c =
    let v = ap length c.self.view_is in
    let long = length-gaps 0 c.self.inside.ends.items in
    let le : c.args.part ≤ length c.self.inside.ends.items = let r = c.requires in omega (arith, v, long, r) in
    let less : c.args.part - 1 < length c.self.inside.ends.items = omega (arith, le, c.if-part-eq0.false) in
    c.index.ensures ∙ get_or_default c.self.inside.ends.items (c.args.part - 1) c.index.result.now 0 less ∙ start-sum c.self.inside.ends.items c.self.inside.total c.args.part c.self.invariant le c.if-part-eq0.false ∙ ap (λ g. sum (take c.args.part g)) c.self.view_is
