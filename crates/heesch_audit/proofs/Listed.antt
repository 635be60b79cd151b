-- The triples that are written are those of the domains, and each has a domain.
use Rattle.std.proofs.Common.{◌≡◌, sym, subst, ℕ, ◌≤◌, List, [], ◌∷◌, map, All, arith}
use Rattle.std.specs.Prelude.{◌↔◌}
use Rattle.std.proofs.lemmas.List.Elements.{All-nil, All-cons, All-head, All-tail}
use Rattle.heesch_grid.specs.Geometry.{Geometry}
use Rattle.heesch_grid.specs.Lattice.{Triple}
use Rattle.heesch_grid.specs.Listing.{ListsExactly}
use Rattle.heesch_grid.proofs.ListFacts.{same_listing}
use Rattle.heesch_cert.specs.declared.entry.TripleProof.{TripleProof}
use Rattle.heesch_cert.specs.TrueEntry.{area_before}
use Rattle.heesch_torus.specs.Domain.{HasDomain}
use Rattle.heesch_torus.specs.Domains.{IsTripleUpTo}
use Rattle.heesch_torus.proofs.Listed.{area_before-irreflexive, area_before-asymmetric}

-- the triples that are written are all, exactly where they are these
pub are_all : (P : Triple → Type 0) (all written : List Triple) → ListsExactly area_before P all → (written ≡ all) ↔ ListsExactly area_before P written
are_all P all written l = (
  (λ e. subst (ListsExactly area_before P) (sym e) l),
  (λ w. same_listing area_before area_before-irreflexive area_before-asymmetric P written all w l),
)

-- each of them has a domain
pub have_domains : (g : Geometry) (n most : ℕ) → most ≤ 12 → (written : List TripleProof) → All (IsTripleUpTo g n most) (map (λ (x : TripleProof). x.triple) written) → All (λ (x : TripleProof). HasDomain g n x.triple) written
have_domains g n most few [] a = All-nil (λ (x : TripleProof). HasDomain g n x.triple)
have_domains g n most few (x ∷ xs) a =
    let here = All-head (IsTripleUpTo g n most) x.triple (map (λ (y : TripleProof). y.triple) xs) a in
    let low = here.1 in
    let high = here.2 in
    All-cons (λ (y : TripleProof). HasDomain g n y.triple) x xs (record { tiles = here.0; some = omega (arith, low); few = omega (arith, high, few); of_domain = here.3 }) (have_domains g n most few xs (All-tail (IsTripleUpTo g n most) x.triple (map (λ (y : TripleProof). y.triple) xs) a))
