-- How the line of a share and its catalogue text follow one another.
use Rattle.std.proofs.Common.{◌≡◌, ℕ, List, [], ◌++◌, length, refl, subst, inl, inr, append-nil}
use Rattle.std.specs.Prelude.{Option, slice_range}
use Rattle.std.specs.Io.KnownBytes.{Appends}
use Rattle.heesch_io.specs.Contents.{AppendsPrefix}
use Rattle.heesch_io.proofs.Appending.{appends_nothing, appends_both, appends_then_keeps, appends_then_prefix}
use Rattle.heesch_grid.specs.declared.Cell.{Cell}
use Rattle.heesch_grid.specs.Geometry.{Geometry}
use Rattle.heesch_cert.specs.declared.header.Header.{Header}
use Rattle.heesch_text.specs.Catalogue.{begun_text}
use Rattle.heesch_catalogue.specs.Catalogues.{IsBegunCatalogue, IsCatalogue}
use Rattle.heesch_catalogue.specs.Rounds.{BeginsOne, WritesOne}
use Rattle.heesch_catalogue.proofs.EntryLists.{no_entries}
use Rattle.heesch_catalogue.proofs.RoundTexts.{whole_prefix}
use Rattle.heesch_parts.specs.declared.places.Span.{Span}
use Rattle.heesch_parts.specs.Shares.{share_line}
use Rattle.heesch_parts.specs.Spans.{span_of}
use Rattle.heesch_parts.specs.Written.{IsShare, IsBegunShare, shapes_of_share}

module _ (g : Geometry) (header : Header) (i k : ℕ) (shapes : List (List Cell)) where
  abbrev part : List (List Cell)
  part = shapes_of_share i k shapes

  -- a beginning with no entry
  nothing_begun : (begun : List ℕ) × IsBegunCatalogue g header part begun
  nothing_begun = (begun_text header (length part) [], (0, [], no_entries g header.limits, refl))

  -- the line is begun
  pub line_begun : (a b : Option (List ℕ)) → AppendsPrefix a b (share_line i k) → BeginsOne (IsBegunShare g header i k shapes) a b
  line_begun a b prefix =
      inr (share_line i k ++ nothing_begun.0, (nothing_begun.0, nothing_begun.1, refl), appends_then_prefix a a b [] (share_line i k) nothing_begun.0 (appends_nothing a) prefix)

  -- the catalogue is begun behind the line
  begun_behind : (a b c : Option (List ℕ)) → Appends a b (share_line i k) → BeginsOne (IsBegunCatalogue g header part) b c → BeginsOne (IsBegunShare g header i k shapes) a c
  begun_behind a b c first (inl keeps) = line_begun a c (whole_prefix a c (share_line i k) (appends_then_keeps a b c (share_line i k) first keeps))
  begun_behind a b c first (inr (begun, is, prefix)) =
      inr (share_line i k ++ begun, (begun, is, refl), subst (λ (l : List ℕ). AppendsPrefix a c (share_line i k ++ l)) (append-nil begun) (appends_then_prefix a b c (share_line i k) begun [] first prefix))

  -- behind the line, the catalogue of the shapes at these places makes the share, and a beginning of it one of the share
  pub share_behind : (places : Span) → places ≡ span_of (length shapes) i k → (a b c : Option (List ℕ)) → Appends a b (share_line i k)
      → (WritesOne (IsCatalogue g header (slice_range shapes places.from places.until)) b c → WritesOne (IsShare g header i k shapes) a c)
      × (BeginsOne (IsBegunCatalogue g header (slice_range shapes places.from places.until)) b c → BeginsOne (IsBegunShare g header i k shapes) a c)
  share_behind places are a b c first = (written, λ begun. begun_behind a b c first (subst (λ (p : Span). BeginsOne (IsBegunCatalogue g header (slice_range shapes p.from p.until)) b c) are begun))
    where
      written : WritesOne (IsCatalogue g header (slice_range shapes places.from places.until)) b c → WritesOne (IsShare g header i k shapes) a c
      written writes =
          let (catalogue, is, next) = subst (λ (p : Span). WritesOne (IsCatalogue g header (slice_range shapes p.from p.until)) b c) are writes in
          (share_line i k ++ catalogue, (catalogue, is, refl), appends_both a b c (share_line i k) catalogue first next)
