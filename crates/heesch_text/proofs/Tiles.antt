-- A loop that writes tile lines.
use Rattle.std.proofs.Common.{◌≡◌, ℕ, ◌+◌, ◌<◌, ◌≤◌, min, List, [], ◌∷◌, ◌++◌, map, length, take, get_or, sym, ap, ◌∙◌, append_assoc, arith}
use Rattle.std.proofs.lemmas.List.{take_more, append-nil, take_all, map_push}
use Rattle.std.proofs.lemmas.List.Concat.{flat_map-append}
use Rattle.std.proofs.lemmas.Slice.Zip.{get_or-zip, length-zip}
use Rattle.std.specs.List.{zip, AllByRecursion}
use Rattle.heesch_grid.specs.declared.isometries.Iso.{Iso}
use Rattle.heesch_grid.specs.Symmetry.{Member}
use Rattle.heesch_text.specs.declared.line.Line.TheVariants as lines
use Rattle.heesch_text.specs.Lines.{line_text, text_of}
use Rattle.heesch_text.specs.Naturals.{HasNaturals}
use Rattle.heesch_text.specs.Catalogue.{tile_lines, tile_line}
use Rattle.heesch_text.proofs.Items.{all_map, all_more, all_of_all}
use Rattle.heesch_text.proofs.Kept.{kept_through}

-- the first i tiles were written, and the natural numbers of their lines fit 32 bits
pub record Writes (old out : List ℕ) (i : ℕ) (places : List Iso) (members : List Member) : Type 0 where
  pub written : out ≡ old ++ text_of (map tile_line (take i (zip places members)))
  pub naturals : AllByRecursion (λ (t : Iso × Member). HasNaturals (tile_line t)) (take i (zip places members))

pub starts : (old : List ℕ) (places : List Iso) (members : List Member) → Writes old old 0 places members
starts old places members = record { written = sym (append-nil old); naturals = tt }

pub goes_on : (old out new : List ℕ) (i : ℕ) (places : List Iso) (members : List Member) (p : Iso) (m : Member)
    → i < length places → i < length members → p ≡ get_or places i p → m ≡ get_or members i m
    → Writes old out i places members → new ≡ out ++ line_text (lines.Tile p m) → HasNaturals (lines.Tile p m) → Writes old new (i + 1) places members
goes_on old out new i places members p m lp lm ep em so_far e natural =
    let pairs = zip places members in
    let short : i < length pairs = omega (arith, length-zip places members) in
    let at : get_or pairs i (p, m) ≡ (p, m) = get_or-zip places members i (p, m) lp lm ∙ sym (ap (λ (q : Iso). (q, get_or members i m)) ep) ∙ sym (ap (λ (n : Member). (p, n)) em) in
    let more : take (i + 1) pairs ≡ take i pairs ++ (p, m) ∷ [] = take_more pairs i (p, m) short ∙ ap (λ (t : Iso × Member). take i pairs ++ t ∷ []) at in
    let split : text_of (map tile_line (take (i + 1) pairs)) ≡ text_of (map tile_line (take i pairs)) ++ (line_text (lines.Tile p m) ++ []) =
    ap (λ (ts : List (Iso × Member)). text_of (map tile_line ts)) more ∙ ap text_of (map_push tile_line (take i pairs) (p, m)) ∙ flat_map-append line_text (map tile_line (take i pairs)) (tile_line (p, m) ∷ []) in
    let whole : new ≡ old ++ (text_of (map tile_line (take i pairs)) ++ line_text (lines.Tile p m)) = e ∙ ap (λ (x : List ℕ). x ++ line_text (lines.Tile p m)) so_far.written ∙ append_assoc old (text_of (map tile_line (take i pairs))) (line_text (lines.Tile p m)) in
    record { written = whole ∙ ap (λ (x : List ℕ). old ++ (text_of (map tile_line (take i pairs)) ++ x)) (sym (append-nil (line_text (lines.Tile p m)))) ∙ ap (λ (x : List ℕ). old ++ x) (sym split); naturals = all_more (λ (t : Iso × Member). HasNaturals (tile_line t)) pairs i (p, m) short (sym at) so_far.naturals natural }

pub ends : (old out : List ℕ) (i : ℕ) (places : List Iso) (members : List Member) → min (length places) (length members) ≤ i
    → Writes old out i places members → out ≡ old ++ text_of (tile_lines places members)
ends old out i places members le so_far =
    so_far.written ∙ ap (λ (ts : List (Iso × Member)). old ++ text_of (map tile_line ts)) (take_all i (zip places members) (omega (arith, length-zip places members)))

pub natural : (old out : List ℕ) (i : ℕ) (places : List Iso) (members : List Member) → min (length places) (length members) ≤ i
    → Writes old out i places members → AllByRecursion HasNaturals (tile_lines places members)
natural old out i places members le so_far =
    all_map HasNaturals tile_line (zip places members) (all_of_all (λ (t : Iso × Member). HasNaturals (tile_line t)) (zip places members) i (omega (arith, length-zip places members)) so_far.naturals)

pub keeps : (old out new : List ℕ) (i : ℕ) (places : List Iso) (members : List Member) → Writes old out i places members → take (length out) new ≡ out → take (length old) new ≡ old
keeps old out new i places members so_far k = kept_through old _ out new so_far.written k
