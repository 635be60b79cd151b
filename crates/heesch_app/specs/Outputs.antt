-- What a run writes, by its words.
use Rattle.std.specs.Prelude.{◌≡◌, ◌≤◌, ℕ, Bool, false, List, length, map, Option, ◌⊎◌, All, ⊤}
use Rattle.std.specs.Io.KnownBytes.{Appends, Keeps}
use Rattle.heesch_io.specs.Contents.{AppendsPrefix}
use Rattle.heesch_cert.specs.declared.entry.Entry.{Entry}
use Rattle.heesch_cert.specs.declared.header.Header.{Header}
use Rattle.heesch_cert.specs.declared.header.Subject.{Subject}
use Rattle.heesch_cert.specs.declared.header.Subject.TheVariants.{Size, Given}
use Rattle.heesch_cert.specs.declared.limits.Limits.{Limits}
use Rattle.heesch_cert.specs.RightVerdict.{HasRightVerdict}
use Rattle.heesch_cert.specs.TrueEntry.{IsTrueEntry}
use Rattle.heesch_grid.specs.declared.Cell.{Cell}
use Rattle.heesch_grid.specs.declared.GridName.{GridName}
use Rattle.heesch_grid.specs.Geometry.{Geometry}
use Rattle.heesch_grid.specs.Names.{geometry_of}
use Rattle.heesch_grid.specs.Polyform.{IsFreeList}
use Rattle.heesch_text.specs.Catalogue.{catalogue_text}
use Rattle.heesch_app.specs.Plains.{plain_list_text}
use Rattle.heesch_text.specs.Shapes.{list_text}
use Rattle.heesch_tiling.specs.declared.found.Plain.{Plain}
use Rattle.heesch_words.specs.declared.requests.Request.{Request}
use Rattle.heesch_words.specs.declared.requests.Request.TheVariants.{List as ListRequest, Plain as PlainRequest, Classify as ClassifyRequest, Check as CheckRequest, CheckOuter as CheckOuterRequest, Table as TableRequest, Sample as SampleRequest, Formula as FormulaRequest, Answer as AnswerRequest, Share as ShareRequest, Join as JoinRequest, Outer as OuterRequest}
use Rattle.heesch_words.specs.Requests.{Asks}
use Rattle.heesch_app.specs.declared.listing.ListForm.{ListForm}
use Rattle.heesch_app.specs.declared.listing.ListForm.TheVariants.{Cells, Tilings}
use Rattle.heesch_app.specs.declared.status.Status.{Status}
use Rattle.heesch_app.specs.declared.status.Status.TheVariants.{Done, BadInput}
use Rattle.heesch_catalogue.specs.Catalogues.{IsCatalogue, IsBegunCatalogue, IsCatalogueOfSize, IsBegunCatalogueOfSize}
use Rattle.heesch_given.specs.Given.{AreGiven, HasFault}
use Rattle.heesch_app.specs.Inputs.{bad_input_text}
use Rattle.heesch_app.specs.Checks.{check_status, check_text}
use Rattle.heesch_app.specs.Exchanges.{IsFormulaAnswer, IsModelAnswer}
use Rattle.heesch_app.specs.Tables.{table_status, table_text}
use Rattle.heesch_app.specs.Tilings.{ArePlain}
use Rattle.heesch_check.specs.Answers.{IsChecked, IsValid}
use Rattle.heesch_check.specs.declared.answers.Checked.{Checked}
use Rattle.heesch_outer.specs.Outers.{IsOuters, IsBegunOuters, IsOutersOfSize, IsBegunOutersOfSize}
use Rattle.heesch_outer_check.specs.Answers.{IsOutersChecked, IsValidOuters}
use Rattle.heesch_sample.specs.Samples.{IsSample}
use Rattle.heesch_parts.specs.Written.{IsShareOfSize, IsBegunShareOfSize}
use Rattle.heesch_parts.specs.Joined.{IsJoined}
use Rattle.heesch_parts.specs.Faults.{HasFault as HasJoinFault}
use Rattle.heesch_io.specs.Input.{IsAllOf}
use Rattle.heesch_reader.specs.Taking.{input_max}
use Rattle.heesch_table.specs.declared.answers.Tabulated.{Tabulated}
use Rattle.heesch_table.specs.Tabulating.{IsTabulated}

-- The words have one of the forms.
abbrev pub IsAccepted : List (List ℕ) → Type 0
IsAccepted words = (request : Request) × Asks words request

-- the output is the text of the free list of the grid's polyforms of n cells
abbrev pub IsListing : Geometry → ℕ → List ℕ → Type 0
IsListing g n output = (shapes : List (List Cell)) × IsFreeList g n shapes × (output ≡ list_text shapes)

-- the output is the text of that list, each shape with its plain tiling
abbrev pub IsPlainListing : Geometry → ℕ → List ℕ → Type 0
IsPlainListing g n output = (shapes : List (List Cell)) × (tilings : List (Option Plain)) × IsFreeList g n shapes × ArePlain g shapes tilings × (output ≡ plain_list_text shapes tilings)

-- the output is the text of that list, in this form
abbrev pub IsListText : ListForm → Geometry → ℕ → List ℕ → Type 0
IsListText Cells g n output = IsListing g n output
IsListText Tilings g n output = IsPlainListing g n output

-- the header of a request's catalogue
abbrev pub header_of : GridName → Subject → Limits → Bool → Header
header_of grid subject limits brief = record { brief = brief; grid = grid; subject = subject; limits = limits }

-- the request for the catalogue with this header
abbrev pub classify_of : Header → ℕ → Request
classify_of header workers = ClassifyRequest header.grid header.subject header.limits workers header.brief

-- the request reads what the source has left
abbrev pub Reads : Request → Type 0
Reads (ClassifyRequest grid Given limits workers brief) = ⊤
Reads (CheckRequest workers) = ⊤
Reads (CheckOuterRequest grid subject limits workers) = ⊤
Reads TableRequest = ⊤
Reads (FormulaRequest grid level size version) = ⊤
Reads (AnswerRequest grid level size version) = ⊤
Reads JoinRequest = ⊤
Reads (OuterRequest grid Given limits workers) = ⊤
Reads _ = ⊥

-- the request reads to the end what the source has left, as each that reads does but `check`
abbrev pub ReadsToEnd : Request → Type 0
ReadsToEnd (CheckRequest workers) = ⊥
ReadsToEnd request = Reads request

-- what the request asks for is one text, which is put at once; a catalogue, a share of one and an outer text are written as they are made
abbrev pub HasOneText : Request → Type 0
HasOneText (ClassifyRequest grid subject limits workers brief) = ⊥
HasOneText (ShareRequest grid n i k limits workers) = ⊥
HasOneText (OuterRequest grid subject limits workers) = ⊥
HasOneText _ = ⊤

-- this holds of the bytes that the source had left, or of some bytes where it doesn't tell them
abbrev pub OfInput : Option (List ℕ) → (List ℕ → Type 0) → Type 0
OfInput left P = (input : List ℕ) × IsAllOf left input × P input

-- what is answered of a list text: a text of its shapes, which is a catalogue or an outer text, or its first fault
abbrev pub IsGivenAnswer : Geometry → (List (List Cell) → List ℕ → Type 0) → Status → List ℕ → List ℕ → Type 0
IsGivenAnswer g IsTextOf status output input =
    ((status ≡ Done) × ((shapes : List (List Cell)) × AreGiven input_max g input shapes × IsTextOf shapes output))
    ⊎ ((status ≡ BadInput) × ((line : ℕ) × (number : ℕ) × HasFault input_max g input line number × (output ≡ bad_input_text line number)))

-- the same of a beginning: of the text of the shapes as much as some first entries decide
abbrev pub IsBegunGivenAnswer : Geometry → (List (List Cell) → List ℕ → Type 0) → List ℕ → List ℕ → Type 0
IsBegunGivenAnswer g IsBegunTextOf output input =
    ((shapes : List (List Cell)) × AreGiven input_max g input shapes × IsBegunTextOf shapes output)
    ⊎ ((line : ℕ) × (number : ℕ) × HasFault input_max g input line number × (output ≡ bad_input_text line number))

-- what is answered to `check` of the bytes: that they are a valid catalogue, or their first invalid part
abbrev pub IsCheckAnswer : Status → List ℕ → List ℕ → Type 0
IsCheckAnswer status output input = (checked : Checked) × IsChecked input checked × (status ≡ check_status checked) × (output ≡ check_text checked)

-- what is answered to `check outer` of the bytes: that they are a valid outer text of the header's subject under its limits, or their first invalid part
abbrev pub IsOuterCheckAnswer : Header → Status → List ℕ → List ℕ → Type 0
IsOuterCheckAnswer header status output input = (checked : Checked) × IsOutersChecked header input checked × (status ≡ check_status checked) × (output ≡ check_text checked)

-- what is answered to `table` of the bytes that the source had left: the tally of a catalogue, or the first fault
abbrev pub IsTableAnswer : Option (List ℕ) → Status → List ℕ → Type 0
IsTableAnswer left status output = (told : Tabulated) × IsTabulated left told × (status ≡ table_status told) × (output ≡ table_text told)

-- what is answered to `join` of share texts: the catalogue text that they are joined to, or the first fault
abbrev pub IsJoinAnswer : Status → List ℕ → List ℕ → Type 0
IsJoinAnswer status output input =
    ((status ≡ Done) × (length input ≤ input_max) × IsJoined input output)
    ⊎ ((status ≡ BadInput) × ((line : ℕ) × (number : ℕ) × HasJoinFault input_max input line number × (output ≡ bad_input_text line number)))

-- the status and the output are what the request asks for, over a source that has these bytes left
abbrev pub IsOutput : Request → Option (List ℕ) → Status → List ℕ → Type 0
IsOutput (ListRequest grid n workers) left status output = (status ≡ Done) × IsListing (geometry_of grid) n output
IsOutput (PlainRequest grid n workers) left status output = (status ≡ Done) × IsPlainListing (geometry_of grid) n output
IsOutput (ClassifyRequest grid (Size n) limits workers brief) left status output =
    (status ≡ Done) × IsCatalogueOfSize (geometry_of grid) (header_of grid (Size n) limits brief) n output
IsOutput (ClassifyRequest grid Given limits workers brief) left status output = OfInput left (IsGivenAnswer (geometry_of grid) (IsCatalogue (geometry_of grid) (header_of grid Given limits brief)) status output)
IsOutput (CheckRequest workers) left status output = OfInput left (IsCheckAnswer status output)
IsOutput (CheckOuterRequest grid subject limits workers) left status output = OfInput left (IsOuterCheckAnswer (header_of grid subject limits false) status output)
IsOutput TableRequest left status output = IsTableAnswer left status output
IsOutput (SampleRequest grid n count seed limits workers) left status output = (status ≡ Done) × IsSample (geometry_of grid) n count seed limits output
IsOutput (FormulaRequest grid level size version) left status output = OfInput left (IsFormulaAnswer version (geometry_of grid) level size status output)
IsOutput (AnswerRequest grid level size version) left status output = OfInput left (IsModelAnswer version (geometry_of grid) level size status output)
IsOutput (ShareRequest grid n i k limits workers) left status output =
    (status ≡ Done) × IsShareOfSize (geometry_of grid) (header_of grid (Size n) limits false) n i k output
IsOutput JoinRequest left status output = OfInput left (IsJoinAnswer status output)
IsOutput (OuterRequest grid (Size n) limits workers) left status output = (status ≡ Done) × IsOutersOfSize (geometry_of grid) limits n output
IsOutput (OuterRequest grid Given limits workers) left status output = OfInput left (IsGivenAnswer (geometry_of grid) (IsOuters (geometry_of grid) limits) status output)

-- the output is what the request asks to be written, or for a catalogue or an outer text as much of it as some first entries decide
abbrev pub IsBegunOutput : Request → Option (List ℕ) → List ℕ → Type 0
IsBegunOutput (ClassifyRequest grid (Size n) limits workers brief) left output = IsBegunCatalogueOfSize (geometry_of grid) (header_of grid (Size n) limits brief) n output
IsBegunOutput (ClassifyRequest grid Given limits workers brief) left output = OfInput left (IsBegunGivenAnswer (geometry_of grid) (IsBegunCatalogue (geometry_of grid) (header_of grid Given limits brief)) output)
IsBegunOutput (ShareRequest grid n i k limits workers) left output = IsBegunShareOfSize (geometry_of grid) (header_of grid (Size n) limits false) n i k output
IsBegunOutput (OuterRequest grid (Size n) limits workers) left output = IsBegunOutersOfSize (geometry_of grid) limits n output
IsBegunOutput (OuterRequest grid Given limits workers) left output = OfInput left (IsBegunGivenAnswer (geometry_of grid) (IsBegunOuters (geometry_of grid) limits) output)
IsBegunOutput request left output = (status : Status) × IsOutput request left status output

-- the words ask for something that reads
abbrev pub AreReading : List (List ℕ) → Type 0
AreReading words = (request : Request) × Asks words request × Reads request

-- the status and the output are what the words ask for
abbrev pub IsAnswer : List (List ℕ) → Option (List ℕ) → Status → List ℕ → Type 0
IsAnswer words left status output = (request : Request) × Asks words request × IsOutput request left status output

-- the same of a beginning
abbrev pub IsBegunAnswer : List (List ℕ) → Option (List ℕ) → List ℕ → Type 0
IsBegunAnswer words left output = (request : Request) × Asks words request × IsBegunOutput request left output

-- Known bytes grow by what the words ask for, and this is the status.
abbrev pub Writes : List (List ℕ) → Option (List ℕ) → Status → Option (List ℕ) → Option (List ℕ) → Type 0
Writes words left status old new = (output : List ℕ) × IsAnswer words left status output × Appends old new output

-- Known bytes stay as they were, or grow by a prefix of what the words ask for, in which no entry is asked of a shape that wasn't classified.
abbrev pub WritesPrefix : List (List ℕ) → Option (List ℕ) → Option (List ℕ) → Option (List ℕ) → Type 0
WritesPrefix words left old new = Keeps old new ⊎ ((output : List ℕ) × IsBegunAnswer words left output × AppendsPrefix old new output)

-- ---- the headline

-- Known bytes grow by the catalogue text, under the header, of entries: their shapes are every free polyform of n cells, each once and in order, and each entry is true under the grid and the limits, with a right verdict.
pub record IsCatalogued (grid : GridName) (n : ℕ) (limits : Limits) (old new : Option (List ℕ)) : Type 0 where
  pub entries : List Entry
  pub every_shape : IsFreeList (geometry_of grid) n (map (λ (e : Entry). e.cells) entries)
  pub are_true : All (IsTrueEntry (geometry_of grid) limits) entries
  pub are_right : All (HasRightVerdict (geometry_of grid) limits) entries
  pub written : Appends old new (catalogue_text (header_of grid (Size n) limits false) entries)

-- the words ask for the full catalogue of a size, by so many workers
abbrev pub AsksForCatalogue : List (List ℕ) → GridName → ℕ → Limits → ℕ → Type 0
AsksForCatalogue words grid n limits workers = Asks words (ClassifyRequest grid (Size n) limits workers false)

-- ---- what is written can be checked

-- Known bytes grow by a valid catalogue, in the words of `check`.
abbrev pub WritesValid : Option (List ℕ) → Option (List ℕ) → Type 0
WritesValid old new = (text : List ℕ) × (count : ℕ) × IsValid text count × Appends old new text

-- Known bytes grow by a valid outer text of the header's subject under its limits, in the words of `check outer`.
abbrev pub WritesValidOuters : Header → Option (List ℕ) → Option (List ℕ) → Type 0
WritesValidOuters header old new = (text : List ℕ) × (count : ℕ) × IsValidOuters header text count × Appends old new text
