use Rattle.std.proofs.Common.{◌≡◌, ◌≤◌, false, true, length, arith, rules}
use Rattle.std.proofs.lemmas.Result.{IfOk-weaker}
use Rattle.heesch_judge.proofs.Inner.{by_all, by_inner, by_neither, by_none}
use Rattle.heesch_judge.proofs.coronas.are_coronas_up_to.Goals as goal

pub returns-then-len-free_levels : goal.returns-then-len-free_levels
returns-then-len-free_levels g c =
    let layers = c.args.layers.now.layers in
    let few : length layers ≤ c.args.free_levels = omega arith in
    IfOk-weaker c.are_coronas.result _ _ (λ told tells. by_all g.G.Grid.geometry c.args.shape.now layers c.args.free_levels told few tells) c.are_coronas.ensures

pub returns-then-not-whole : goal.returns-then-not-whole
returns-then-not-whole g c =
    let fails : c.in_ok-whole.whole ≡ false = search rules in
    by_neither g.G.Grid.geometry c.args.shape.now c.args.layers.now.layers c.args.free_levels c.in_ok-whole.whole fails c.in_ok-whole.ensures

pub returns-then-free_levels-eq0 : goal.returns-then-free_levels-eq0
returns-then-free_levels-eq0 g c =
    let holds : c.in_ok-whole.whole ≡ true = search rules in
    let none : c.args.free_levels ≡ 0 = omega arith in
    by_none g.G.Grid.geometry c.args.shape.now c.args.layers.now.layers c.args.free_levels c.in_ok-whole.whole holds none c.in_ok-whole.ensures

pub returns : goal.returns
returns g c =
    let holds : c.in_ok-whole.whole ≡ true = search rules in
    IfOk-weaker c.are_coronas-3.result _ _ (λ told tells. by_inner g.G.Grid.geometry c.args.shape.now c.args.layers.now.layers c.args.free_levels c.in_ok-whole.whole c.in_ok-inner.inner.layers told holds c.in_ok-inner.ensures c.in_ok-whole.ensures tells) c.are_coronas-3.ensures
