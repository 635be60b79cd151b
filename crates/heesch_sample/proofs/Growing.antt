-- Polyforms that are grown one after the other.
use Rattle.std.proofs.Common.{◌≡◌, ℕ, zero, suc, ◌+◌, ◌*◌, ◌-◌, List, [], ◌∷◌, ◌++◌, length, length-append, sym, ap, ◌∙◌, subst, arith, add-one, zero-add}
use Rattle.std.specs.Prelude.{All}
use Rattle.std.proofs.Math.Nat.{suc-add}
use Rattle.std.proofs.lemmas.List.Elements.{All-nil, All-push}
use Rattle.heesch_grid.specs.declared.Cell.{Cell}
use Rattle.heesch_grid.specs.Geometry.{Geometry, IsGrid}
use Rattle.heesch_grid.specs.Polyform.{IsCanonicalListOf}
use Rattle.heesch_grid.proofs.GrowthOfLists.{canonical_of_image}
use Rattle.heesch_grow.specs.Generator.{IsGrownBy, state_after, next_state}
use Rattle.heesch_grow.proofs.Generated.{grown_are_polyforms}
use Rattle.heesch_sample.specs.Samples.{IsGrownForm, AreGrown}

-- the draws of two runs, one after the other
states_add : (a b seed : ℕ) → state_after a (state_after b seed) ≡ state_after (a + b) seed
states_add zero b seed = sym (ap (λ k. state_after k seed) (zero-add b))
states_add (suc a) b seed = ap next_state (states_add a b seed) ∙ sym (ap (λ k. state_after k seed) (suc-add a b))

-- the shapes that were grown, and the state that they left
pub record AreGrownSoFar (g : Geometry) (n seed made : ℕ) (shapes : List (List Cell)) (state : ℕ) : Type 0 where
  pub grown : AreGrown g n seed made shapes
  pub state_is : state ≡ state_after (made * (n - 1)) seed

pub grown_next : (g : Geometry) (n seed made : ℕ) (shapes more : List (List Cell)) (state next : ℕ) (cells shape : List Cell)
    → AreGrownSoFar g n seed made shapes state → IsGrownBy g state (n - 1) cells → next ≡ state_after (n - 1) state → IsCanonicalListOf g cells shape → more ≡ shapes ++ shape ∷ []
    → AreGrownSoFar g n seed (made + 1) more next
grown_next g n seed made shapes more state next cells shape so_far grown left canonical is =
    let form : IsGrownForm g n (state_after (made * (n - 1)) seed) shape = record { cells = cells; grown = subst (λ s. IsGrownBy g s (n - 1) cells) so_far.state_is grown; canonical = canonical } in
    record {
      grown = subst (λ k. AreGrown g n seed k more) (sym (add-one made)) (shapes, shape, so_far.grown, form, is);
      state_is = left ∙ ap (state_after (n - 1)) so_far.state_is ∙ states_add (n - 1) (made * (n - 1)) seed ∙ ap (λ k. state_after k seed) (once_more made (n - 1));
    }
  where
    once_more : (times m : ℕ) → m + times * m ≡ (times + 1) * m
    once_more times m = omega arith

-- there are as many as were grown
pub grown_length : (g : Geometry) (n seed count : ℕ) (shapes : List (List Cell)) → AreGrown g n seed count shapes → length shapes ≡ count
grown_length g n seed zero shapes grown = ap length grown
grown_length g n seed (suc earlier) shapes (before, last, all, form, is) =
    omega (arith, ap length is, length-append before (last ∷ []), grown_length g n seed earlier before all)

-- each is its own canonical list
pub grown_are_canonical : (g : Geometry) → IsGrid g → (n seed count : ℕ) (shapes : List (List Cell)) → AreGrown g n seed count shapes → All (λ s. IsCanonicalListOf g s s) shapes
grown_are_canonical g law n seed zero shapes grown = subst (λ ss. All (λ s. IsCanonicalListOf g s s) ss) (sym grown) (All-nil (λ s. IsCanonicalListOf g s s))
grown_are_canonical g law n seed (suc earlier) shapes (before, last, all, form, is) =
    let polyform = (grown_are_polyforms g (state_after (earlier * (n - 1)) seed) (n - 1) form.cells law form.grown).0 in
    let itself : IsCanonicalListOf g last last = canonical_of_image g law form.cells last last polyform.is_set.rising form.canonical.is_image form.canonical in
    subst (λ ss. All (λ s. IsCanonicalListOf g s s) ss) (sym is) (All-push (λ s. IsCanonicalListOf g s s) before last (grown_are_canonical g law n seed earlier before all) itself)
