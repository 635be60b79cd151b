use Rattle.std.proofs.Common.{◌-◌, All, drop, take, sym, ap, subst, ◌∙◌}
use Rattle.std.specs.List.{Contains}
use Rattle.std.proofs.lemmas.List.Elements.{All-take, All-drop, All-contains_itself}
use Rattle.heesch_cdcl.specs.Covers.{Scope}
use Rattle.heesch_cdcl.proofs.covers.Covers.guarded_by.Goals as goal

pub returns : goal.returns
returns c =
    let b = c.bounds-start.result in
    let numbers = c.args.self.now.numbers in
    let same = c.deref-2.ensures.value ∙ ap (λ (s : Scope). s.numbers) c.self.view_is in
    subst (λ ns. All (Contains numbers) (take (b.1 - b.0) (drop b.0 ns))) (sym same)
    (All-take (Contains numbers) (b.1 - b.0) (drop b.0 numbers) (All-drop (Contains numbers) b.0 numbers (All-contains_itself numbers)))
