use Rattle.std.proofs.Common.{◌≡◌, ◌↔◌, ◌-◌, ◌<◌, ◌≤◌, ℕ, Bool, true, List, length, subst, sym, ◌∙◌, true≢false}
use Rattle.heesch_grid.specs.declared.Cell.{Cell}
use Rattle.heesch_grid.specs.declared.isometries.Iso.{Iso}
use Rattle.heesch_grid.specs.Geometry.{Geometry}
use Rattle.heesch_corona.specs.declared.check.CoronaAnswer.{CoronaAnswer}
use Rattle.heesch_corona.specs.declared.check.CoronaAnswer.TheVariants.{Meets, Loose, Uncovered, Hole, Holds}
use Rattle.heesch_corona.specs.Searches.{IsWhole, IsFirstHole}
use Rattle.heesch_corona.specs.Tiles.{AreTilesOf}
use Rattle.heesch_corona.specs.Answer.{IsAnswer, AreAsked}
use Rattle.heesch_corona.proofs.Answering.{answered, held, ends_few, ends_within, tiles_close, meets_case, loose_case, gap_case, hole_case, holds_case, at_some, at_none}
use Rattle.heesch_corona.proofs.check.check_coronas.Given as given
use Rattle.heesch_corona.proofs.check.check_coronas.Goals as goal
use Rattle.heesch_corona.proofs.check.check_coronas.Goals.{In_ok-patches, then-hole_free+in_ok-level+in_default-2, else-hole_free}

pub first_loose-requires-clause-ends : goal.first_loose-requires-clause-ends
first_loose-requires-clause-ends g c =
    ends_within g.G.Grid.geometry g.met.G.Grid.laws c.args.shape.now c.args.layers.now.layers c.in_ok-patches.patches.index c.in_ok-patches.patches.ends.items c.in_ok-patches.ensures c.args.hole_free c.deref.result.now c.deref.ensures.value

pub first_gap-requires-clause-ends : goal.first_gap-requires-clause-ends
first_gap-requires-clause-ends g c =
    ends_within g.G.Grid.geometry g.met.G.Grid.laws c.args.shape.now c.args.layers.now.layers c.in_ok-patches.patches.index c.in_ok-patches.patches.ends.items c.in_ok-patches.ensures c.args.hole_free c.deref-2.result.now c.deref-2.ensures.value

pub first_gap-requires-clause-few : goal.first_gap-requires-clause-few
first_gap-requires-clause-few g c =
    ends_few g.G.Grid.geometry g.met.G.Grid.laws c.args.shape.now c.args.layers.now.layers c.in_ok-patches.patches.index c.in_ok-patches.patches.ends.items c.in_ok-patches.ensures c.args.hole_free c.requires.few c.deref-2.result.now c.deref-2.ensures.value

pub first_hole-requires-clause-close : goal.first_hole-requires-clause-close
first_hole-requires-clause-close g c =
    tiles_close g.G.Grid.geometry g.met.G.Grid.laws c.args.shape.now c.args.layers.now.layers c.in_ok-patches.patches.index c.in_ok-patches.patches.ends.items c.in_ok-patches.ensures c.args.hole_free c.requires.few c.deref.result.now c.deref.ensures.value c.in_default-first_loose.ensures

pub first_hole-requires-clause-ends : goal.first_hole-requires-clause-ends
first_hole-requires-clause-ends g c =
    ends_within g.G.Grid.geometry g.met.G.Grid.laws c.args.shape.now c.args.layers.now.layers c.in_ok-patches.patches.index c.in_ok-patches.patches.ends.items c.in_ok-patches.ensures c.args.hole_free c.deref-then-hole_free.result.now c.deref-then-hole_free.ensures.value

pub first_hole-requires-clause-few : goal.first_hole-requires-clause-few
first_hole-requires-clause-few g c =
    ends_few g.G.Grid.geometry g.met.G.Grid.laws c.args.shape.now c.args.layers.now.layers c.in_ok-patches.patches.index c.in_ok-patches.patches.ends.items c.in_ok-patches.ensures c.args.hole_free c.requires.few c.deref-then-hole_free.result.now c.deref-then-hole_free.ensures.value

-- what an answer for the tiles that were built says of those of the layers
abbrev Says : Geometry → List Cell → List (List Iso) → Bool → CoronaAnswer → Type 0
Says g shape layers hole_free answer =
    ((tiles : List (List (List Cell))) × AreTilesOf g shape layers tiles)
    × ((tiles : List (List (List Cell))) → AreTilesOf g shape layers tiles → IsAnswer g shape tiles hole_free answer)
    × ((tiles : List (List (List Cell))) → AreTilesOf g shape layers tiles → (answer ≡ Holds) ↔ AreAsked g shape hole_free tiles)

says : (g : given.Over) (c : In_ok-patches g) (answer : CoronaAnswer) → IsAnswer g.G.Grid.geometry c.args.shape.now c.in_ok-patches.ensures.tiles c.args.hole_free answer → Says g.G.Grid.geometry c.args.shape.now c.args.layers.now.layers c.args.hole_free answer
says g c answer is =
    let geometry = g.G.Grid.geometry in
    let shape = c.args.shape.now in
    let layers = c.args.layers.now.layers in
    let sets = c.in_ok-patches.patches.index in
    let ends = c.in_ok-patches.patches.ends.items in
    let built = c.in_ok-patches.ensures in (
      (built.tiles, built.are_given),
      answered geometry g.met.G.Grid.laws shape layers c.requires.isometries sets ends built c.args.hole_free answer is,
      held geometry g.met.G.Grid.laws shape layers c.requires.isometries sets ends built c.args.hole_free answer is,
    )

pub returns-in-Some : goal.returns-in-Some
returns-in-Some g c =
    let s = says g (goal.at.returns-in-Some g c).In_ok-patches (Meets (c.in-Some.first - 1) (c.in-Some.second - 1)) (meets_case g.G.Grid.geometry g.met.G.Grid.laws c.args.shape.now c.args.layers.now.layers c.in_ok-patches.patches.index c.in_ok-patches.patches.ends.items c.in_ok-patches.ensures c.args.hole_free c.in-Some.first c.in-Some.second c.in-Some.ensures) in
    record { tiles = s.0; answer = s.1; holds = s.2 }

pub returns-in-Some-first_loose : goal.returns-in-Some-first_loose
returns-in-Some-first_loose g c =
    let n = c.in-Some-first_loose.number in
    let s = says g (goal.at.returns-in-Some-first_loose g c).In_ok-patches (Loose (n - 1)) (loose_case g.G.Grid.geometry g.met.G.Grid.laws c.args.shape.now c.args.layers.now.layers c.in_ok-patches.patches.index c.in_ok-patches.patches.ends.items c.in_ok-patches.ensures c.args.hole_free c.in_default.ensures c.deref.result.now c.deref.ensures.value n c.in-Some-first_loose.ensures) in
    record { tiles = s.0; answer = s.1; holds = s.2 }

pub returns-in-Some-first_gap : goal.returns-in-Some-first_gap
returns-in-Some-first_gap g c =
    let level = c.in-Some-first_gap.level in
    let d = c.in-Some-first_gap.cell in
    let s = says g (goal.at.returns-in-Some-first_gap g c).In_ok-patches (Uncovered level d)
    (gap_case g.G.Grid.geometry g.met.G.Grid.laws c.args.shape.now c.args.layers.now.layers c.in_ok-patches.patches.index c.in_ok-patches.patches.ends.items c.in_ok-patches.ensures c.args.hole_free c.in_default.ensures c.deref.result.now c.deref.ensures.value c.in_default-first_loose.ensures c.deref-2.result.now c.deref-2.ensures.value level d c.in-Some-first_gap.ensures) in
    record { tiles = s.0; answer = s.1; holds = s.2 }

pub returns-in-Some-2 : goal.returns-in-Some-2
returns-in-Some-2 g c =
    let geometry = g.G.Grid.geometry in
    let sets = c.in_ok-patches.patches.index in
    let hs = c.deref-then-hole_free.result.now in
    let level = c.in-Some-2.level in
    let cells = c.in-Some-2.cells in
    let found = at_some ((level : ℕ) → 1 ≤ level → level < length hs → IsWhole geometry sets hs level) (IsFirstHole geometry sets hs) c.in_ok-level.field-0 (level, cells) c.in-Some-2.is c.in_ok-level.ensures in
    let s = says g (goal.at.returns-in-Some-2 g c).In_ok-patches (Hole level cells)
    (hole_case g.G.Grid.geometry g.met.G.Grid.laws c.args.shape.now c.args.layers.now.layers c.in_ok-patches.patches.index c.in_ok-patches.patches.ends.items c.in_ok-patches.ensures c.args.hole_free c.in_default.ensures c.deref.result.now c.deref.ensures.value c.in_default-first_loose.ensures c.deref-2.result.now c.deref-2.ensures.value c.in_default-first_gap.ensures c.if-hole_free.true hs c.deref-then-hole_free.ensures.value level cells found) in
    record { tiles = s.0; answer = s.1; holds = s.2 }

pub returns : goal.returns
returns g c =
    let geometry = g.G.Grid.geometry in
    let sets = c.in_ok-patches.patches.index in
    let whole : c.args.hole_free ≡ true → (level : ℕ) → 1 ≤ level → level < length c.in_ok-patches.patches.ends.items → IsWhole geometry sets c.in_ok-patches.patches.ends.items level = λ asked.
    elim c.if-hole_free.branch [
      | then-hole_free+in_ok-level+in_default-2 b ↦
          let hs = b.deref-then-hole_free.result.now in
          subst (λ xs. (level : ℕ) → 1 ≤ level → level < length xs → IsWhole geometry sets xs level) b.deref-then-hole_free.ensures.value (at_none ((level : ℕ) → 1 ≤ level → level < length hs → IsWhole geometry sets hs level) (IsFirstHole geometry sets hs) b.in_ok-level.field-0 b.in_default-2.is b.in_ok-level.ensures)
      | else-hole_free b ↦ absurd (true≢false (sym asked ∙ b.if-hole_free.false))
    ] in
    let s = says g (goal.at.returns g c).In_ok-patches Holds
    (holds_case g.G.Grid.geometry g.met.G.Grid.laws c.args.shape.now c.args.layers.now.layers c.in_ok-patches.patches.index c.in_ok-patches.patches.ends.items c.in_ok-patches.ensures c.args.hole_free c.in_default.ensures c.deref.result.now c.deref.ensures.value c.in_default-first_loose.ensures c.deref-2.result.now c.deref-2.ensures.value c.in_default-first_gap.ensures whole) in
    record { tiles = s.0; answer = s.1; holds = s.2 }
