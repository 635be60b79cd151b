-- How `classify`, `share` and `outer` end.
use Rattle.std.proofs.Common.{◌≡◌, ℕ, List, refl, sym, subst, inl, inr}
use Rattle.std.specs.Prelude.{false, Option, Result, Ok, Err, IfOk, IfErr, OnOk, OnErr}
use Rattle.heesch_io.specs.declared.fault.IoStop.{IoStop}
use Rattle.heesch_catalogue.specs.Catalogues.{IsBegunCatalogue, IsBegunCatalogueOfSize, IsCatalogue, IsCatalogueOfSize}
use Rattle.heesch_catalogue.specs.Rounds.{BeginsOne, WritesOne}
use Rattle.heesch_cert.specs.declared.header.Header.{Header}
use Rattle.heesch_cert.specs.declared.header.Subject.{Subject}
use Rattle.heesch_cert.specs.declared.header.Subject.TheVariants.{Size, Given}
use Rattle.heesch_cert.specs.declared.limits.Limits.{Limits}
use Rattle.heesch_line.specs.declared.stops.InputStop.TheVariants.{Fault}
use Rattle.heesch_given.specs.Given.{GivesFault, GivesShapes}
use Rattle.heesch_grid.specs.declared.Cell.{Cell}
use Rattle.heesch_grid.specs.declared.GridName.{GridName}
use Rattle.heesch_grid.specs.Geometry.{Geometry}
use Rattle.heesch_grid.specs.Names.{geometry_of}
use Rattle.heesch_outer.specs.Outers.{IsBegunOuters, IsBegunOutersOfSize, IsOuters, IsOutersOfSize}
use Rattle.heesch_parts.specs.Written.{IsBegunShareOfSize, IsShareOfSize}
use Rattle.heesch_reader.specs.Taking.{input_max}
use Rattle.heesch_words.specs.declared.requests.Request.{Request}
use Rattle.heesch_words.specs.declared.requests.Request.TheVariants.{Share as ShareRequest, Outer as OuterRequest}
use Rattle.heesch_app.specs.declared.reply.Reply.{Reply}
use Rattle.heesch_app.specs.declared.status.Status.{Status}
use Rattle.heesch_app.specs.declared.status.Status.TheVariants.{BadInput}
use Rattle.heesch_app.specs.Endings.{EndsAs, IsPut, read_status, written_status}
use Rattle.heesch_app.specs.Inputs.{bad_input_text}
use Rattle.heesch_app.specs.Outputs.{IsOutput, IsBegunOutput, IsBegunGivenAnswer, IsGivenAnswer, OfInput, classify_of, header_of}
use Rattle.heesch_app.proofs.Endings.{IsWhole, reply_ends, whole_if, writing_ends}

-- ---- of given shapes

abbrev pub GivenWhole : Geometry → (List (List Cell) → List ℕ → Type 0) → Option (List ℕ) → Status → List ℕ → Type 0
GivenWhole g One left status output = OfInput left (IsGivenAnswer g One status output)

abbrev pub GivenBegun : Geometry → (List (List Cell) → List ℕ → Type 0) → Option (List ℕ) → List ℕ → Type 0
GivenBegun g Part left output = OfInput left (IsBegunGivenAnswer g Part output)

-- the text of the shapes was written, or begun
pub listed_ends : {A : Type 0} (g : Geometry) (One Part : List (List Cell) → List ℕ → Type 0) (left old new : Option (List ℕ)) (shapes : List (List Cell)) (written : Result A IoStop)
    (result : Status) → GivesShapes input_max g left shapes → OnOk written (WritesOne (One shapes) old new) → OnErr written (BeginsOne (Part shapes) old new)
    → result ≡ written_status written → EndsAs (GivenWhole g One left) (GivenBegun g Part left) old new result
listed_ends {A} g One Part left old new shapes written result (input, all, given) ok err same =
    writing_ends (GivenWhole g One left) (GivenBegun g Part left) (One shapes) (Part shapes) old new written result
    (λ output is. (input, all, inl (refl, (shapes, given, is)))) (λ output is. (input, all, inl (shapes, given, is))) ok err same

-- the first fault of the text was told
pub told_ends : (g : Geometry) (One Part : List (List Cell) → List ℕ → Type 0) (left : Option (List ℕ)) (line number : ℕ) (S : Type 0) (held : S → Option (List ℕ)) (old new : S) (before now : ℕ)
    (reply : Result Reply IoStop) (result : Status) → GivesFault input_max g left (Fault line number)
    → IfOk reply (λ r. r.status ≡ BadInput) → IfOk reply (λ r. r.text.items ≡ bad_input_text line number)
    → IfOk reply (λ r. IsPut r.text.items r.status result (held old) (held new) before now) → IfErr reply (λ stop. (result ≡ read_status stop) × (new ≡ old))
    → EndsAs (GivenWhole g One left) (GivenBegun g Part left) (held old) (held new) result
told_ends g One Part left line number S held old new before now reply result (input, all, fault) bad text put stops =
    reply_ends (GivenWhole g One left) (GivenBegun g Part left) S held old new before now reply result (comes_whole reply bad) (tells reply bad text) (begins reply text) put stops
  where
    comes_whole : (reply : Result Reply IoStop) → IfOk reply (λ r. r.status ≡ BadInput) → IfOk reply (λ r. IsWhole r.status)
    comes_whole (Ok r) bad = whole_if r.status BadInput bad tt
    comes_whole (Err stop) bad = tt

    tells : (reply : Result Reply IoStop) → IfOk reply (λ r. r.status ≡ BadInput) → IfOk reply (λ r. r.text.items ≡ bad_input_text line number)
        → IfOk reply (λ r. GivenWhole g One left r.status r.text.items)
    tells (Ok r) bad text = (input, all, inr (bad, (line, number, fault, text)))
    tells (Err stop) bad text = tt

    begins : (reply : Result Reply IoStop) → IfOk reply (λ r. r.text.items ≡ bad_input_text line number) → IfOk reply (λ r. GivenBegun g Part left r.text.items)
    begins (Ok r) text = (input, all, inr (line, number, fault, text))
    begins (Err stop) text = tt

-- ---- of a request

-- the request is to classify the shapes of a size
pub size_ends : {A : Type 0} (header : Header) (workers n : ℕ) (left old new : Option (List ℕ)) (written : Result A IoStop) (result : Status) → header.subject ≡ Size n
    → OnOk written (WritesOne (IsCatalogueOfSize (geometry_of header.grid) header n) old new)
    → OnErr written (BeginsOne (IsBegunCatalogueOfSize (geometry_of header.grid) header n) old new)
    → result ≡ written_status written → EndsAs (IsOutput (classify_of header workers) left) (IsBegunOutput (classify_of header workers) left) old new result
size_ends {A} header workers n left old new written result size ok err same =
    let g = geometry_of header.grid in
    let of_subject : Subject → Header = λ s. header_of header.grid s header.limits header.brief in
    let asked : Subject → Request = λ s. classify_of (of_subject s) workers in
    let ends : EndsAs (IsOutput (asked (Size n)) left) (IsBegunOutput (asked (Size n)) left) old new result =
    writing_ends (IsOutput (asked (Size n)) left) (IsBegunOutput (asked (Size n)) left) (IsCatalogueOfSize g (of_subject (Size n)) n) (IsBegunCatalogueOfSize g (of_subject (Size n)) n) old new
    written result (λ output whole. (refl, whole)) (λ output begun. begun)
    (subst (λ s. OnOk written (WritesOne (IsCatalogueOfSize g (of_subject s) n) old new)) size ok)
    (subst (λ s. OnErr written (BeginsOne (IsBegunCatalogueOfSize g (of_subject s) n) old new)) size err) same
    in
    subst (λ s. EndsAs (IsOutput (asked s) left) (IsBegunOutput (asked s) left) old new result) (sym size) ends

-- the request is to classify given shapes
pub given_ends : (header : Header) (workers : ℕ) (left old new : Option (List ℕ)) (result : Status) → header.subject ≡ Given
    → EndsAs (GivenWhole (geometry_of header.grid) (IsCatalogue (geometry_of header.grid) header) left)
    (GivenBegun (geometry_of header.grid) (IsBegunCatalogue (geometry_of header.grid) header) left) old new result
    → EndsAs (IsOutput (classify_of header workers) left) (IsBegunOutput (classify_of header workers) left) old new result
given_ends header workers left old new result given ends =
    let g = geometry_of header.grid in
    let of_subject : Subject → Header = λ s. header_of header.grid s header.limits header.brief in
    let asked : Subject → Request = λ s. classify_of (of_subject s) workers in
    let of_given : EndsAs (IsOutput (asked Given) left) (IsBegunOutput (asked Given) left) old new result =
    subst (λ s. EndsAs (GivenWhole g (IsCatalogue g (of_subject s)) left) (GivenBegun g (IsBegunCatalogue g (of_subject s)) left) old new result) given ends
    in
    subst (λ s. EndsAs (IsOutput (asked s) left) (IsBegunOutput (asked s) left) old new result) (sym given) of_given

-- the request is for a share of the catalogue of a size
pub share_ends : {A : Type 0} (request : Request) (grid : GridName) (n i k : ℕ) (limits : Limits) (workers : ℕ) (left old new : Option (List ℕ))
    (written : Result A IoStop) (result : Status) → request ≡ ShareRequest grid n i k limits workers
    → OnOk written (WritesOne (IsShareOfSize (geometry_of grid) (header_of grid (Size n) limits false) n i k) old new)
    → OnErr written (BeginsOne (IsBegunShareOfSize (geometry_of grid) (header_of grid (Size n) limits false) n i k) old new)
    → result ≡ written_status written → EndsAs (IsOutput request left) (IsBegunOutput request left) old new result
share_ends {A} request grid n i k limits workers left old new written result is ok err same =
    let g = geometry_of grid in
    let header = header_of grid (Size n) limits false in
    let asked = ShareRequest grid n i k limits workers in
    let ends : EndsAs (IsOutput asked left) (IsBegunOutput asked left) old new result =
    writing_ends (IsOutput asked left) (IsBegunOutput asked left) (IsShareOfSize g header n i k) (IsBegunShareOfSize g header n i k) old new written result
    (λ output whole. (refl, whole)) (λ output begun. begun) ok err same
    in
    subst (λ r. EndsAs (IsOutput r left) (IsBegunOutput r left) old new result) (sym is) ends

-- the request is for the outer text of a size
pub outer_size_ends : {A : Type 0} (grid : GridName) (subject : Subject) (limits : Limits) (workers n : ℕ) (left old new : Option (List ℕ)) (written : Result A IoStop) (result : Status)
    → subject ≡ Size n → OnOk written (WritesOne (IsOutersOfSize (geometry_of grid) limits n) old new) → OnErr written (BeginsOne (IsBegunOutersOfSize (geometry_of grid) limits n) old new)
    → result ≡ written_status written
    → EndsAs (IsOutput (OuterRequest grid subject limits workers) left) (IsBegunOutput (OuterRequest grid subject limits workers) left) old new result
outer_size_ends {A} grid subject limits workers n left old new written result size ok err same =
    let g = geometry_of grid in
    let asked = OuterRequest grid (Size n) limits workers in
    let ends : EndsAs (IsOutput asked left) (IsBegunOutput asked left) old new result =
    writing_ends (IsOutput asked left) (IsBegunOutput asked left) (IsOutersOfSize g limits n) (IsBegunOutersOfSize g limits n) old new written result
    (λ output whole. (refl, whole)) (λ output begun. begun) ok err same
    in
    subst (λ s. EndsAs (IsOutput (OuterRequest grid s limits workers) left) (IsBegunOutput (OuterRequest grid s limits workers) left) old new result) (sym size) ends

-- the request is for the outer text of given shapes
pub outer_given_ends : (grid : GridName) (subject : Subject) (limits : Limits) (workers : ℕ) (left old new : Option (List ℕ)) (result : Status) → subject ≡ Given
    → EndsAs (GivenWhole (geometry_of grid) (IsOuters (geometry_of grid) limits) left) (GivenBegun (geometry_of grid) (IsBegunOuters (geometry_of grid) limits) left) old new result
    → EndsAs (IsOutput (OuterRequest grid subject limits workers) left) (IsBegunOutput (OuterRequest grid subject limits workers) left) old new result
outer_given_ends grid subject limits workers left old new result given ends =
    let asked = OuterRequest grid Given limits workers in
    let of_given : EndsAs (IsOutput asked left) (IsBegunOutput asked left) old new result = ends in
    subst (λ s. EndsAs (IsOutput (OuterRequest grid s limits workers) left) (IsBegunOutput (OuterRequest grid s limits workers) left) old new result) (sym given) of_given

-- the request is this one
pub asked_ends : (request asked : Request) (left old new : Option (List ℕ)) (result : Status) → request ≡ asked
    → EndsAs (IsOutput asked left) (IsBegunOutput asked left) old new result → EndsAs (IsOutput request left) (IsBegunOutput request left) old new result
asked_ends request asked left old new result is ends = subst (λ r. EndsAs (IsOutput r left) (IsBegunOutput r left) old new result) (sym is) ends
