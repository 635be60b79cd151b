use Rattle.std.proofs.Common.{◌≡◌, ◌≤◌, ◌+◌, ◌-◌, sym, subst, ℕ, false, arith, length, refl, ◌∙◌}
use Rattle.std.specs.Prelude.{Some}
use Rattle.heesch_cert.specs.declared.entry.Bare.{Bare}
use Rattle.heesch_levels.specs.Answer.{IsLevelAnswer, SpellsCoronas}
use Rattle.heesch_verdict.specs.Ends.{IsLevelEnd, IsOpenEnd}
use Rattle.heesch_verdict.proofs.Coronas.{ends_refuted, ends_spent, ends_large, ends_open, level_end, open_shows}
use Rattle.heesch_verdict.proofs.subject.Subject.holes_allowed.Goals as goal
use Rattle.heesch_verdict.proofs.subject.Subject.holes_allowed.Goals.{in-Refuted, in-Spent, in-TooLarge}

pub loop-m-init : goal.loop-m-init
loop-m-init g c =
    let same : c.args.h + 1 ≡ c.args.h + 2 - 1 = omega arith in
    subst (λ (n : ℕ). SpellsCoronas g.G.Grid.geometry c.args.self.now.shape.now n false c.args.holed) same c.requires.holed

pub loop-m-preserved : goal.loop-m-preserved
loop-m-preserved g c =
    let m = c.loop-m.m in
    let same : m ≡ m + 1 - 1 = omega arith in
    let found = subst (IsLevelAnswer c.args.self.now.limits.version g.G.Grid.geometry c.args.self.now.shape.now m false c.args.self.now.limits.turns c.args.self.now.limits.size) c.in-Coronas.is c.in_ok-answer.ensures.answer in
    subst (λ (n : ℕ). SpellsCoronas g.G.Grid.geometry c.args.self.now.shape.now n false c.in-Coronas.layers) same found

pub returns-in-loop-m : goal.returns-in-loop-m
returns-in-loop-m g c =
    let geometry = g.G.Grid.geometry in
    let limits = c.args.self.now.limits in
    let shape = c.args.self.now.shape.now in
    let h = c.args.h in
    let m = c.loop-m.m in
    let wider = c.loop-m.wider in
    let above : h + 2 ≤ m = omega arith in
    let below : m ≤ limits.levels = omega arith in
    let ends = level_end geometry limits shape h m wider above below c.loop-m.invariant in
    let shows = open_shows geometry shape (m - 1) wider c.loop-m.invariant in
    let At : Bare → Type 0 = λ b. IsOpenEnd geometry limits shape h (record { m = m; bare = b; wider = Some wider }) in
    let Says = IsLevelAnswer limits.version geometry shape m false limits.turns limits.size in
    elim c.match-answer.branch [
      | in-Refuted w ↦ subst At (sym w.bare-is) (ends_refuted geometry limits shape h m (Some wider) ends shows w.in-Refuted.proof (subst Says w.in-Refuted.is c.in_ok-answer.ensures.answer))
      | in-Spent w ↦ subst At (sym w.bare-is) (ends_spent geometry limits shape h m (Some wider) ends shows w.in-Spent.proof (subst Says w.in-Spent.is c.in_ok-answer.ensures.answer))
      | in-TooLarge w ↦ subst At (sym w.bare-is) (ends_large geometry limits shape h m (Some wider) ends shows (subst Says w.in-TooLarge.is c.in_ok-answer.ensures.answer))
    ]

pub returns : goal.returns
returns g c =
    let limits = c.args.self.now.limits in
    let below = c.requires.below in
    let e : c.loop-m.m - 1 ≡ limits.levels = omega (arith, below) in
    let found = subst (λ (n : ℕ). SpellsCoronas g.G.Grid.geometry c.args.self.now.shape.now n false c.loop-m.wider) e c.loop-m.invariant in
    ends_open g.G.Grid.geometry limits c.args.self.now.shape.now c.args.h c.loop-m.wider below found
