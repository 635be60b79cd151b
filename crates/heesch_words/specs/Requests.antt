-- What the words of a command line ask for.
use Rattle.std.specs.Prelude.{◌≡◌, ◌≤◌, ℕ, Bool, false, ⊤, List, [], ◌∷◌, ◌++◌, codes, decimal}
use Rattle.heesch_cert.specs.declared.header.Subject.{Subject}
use Rattle.heesch_cert.specs.declared.header.Subject.TheVariants.{Size}
use Rattle.heesch_cert.specs.declared.limits.Limits.{Limits}
use Rattle.heesch_cert.specs.Limits.{AreLimits}
use Rattle.heesch_cert.specs.Sizes.{most_cells, HasGrid, IsSubject, subject_word}
use Rattle.heesch_cnf.specs.declared.version.Version.{Version}
use Rattle.heesch_cnf.specs.declared.version.Version.TheVariants.{Two}
use Rattle.heesch_grid.specs.declared.GridName.{GridName}
use Rattle.heesch_grid.specs.Names.{grid_word}
use Rattle.heesch_words.specs.declared.options.Options.{Options}
use Rattle.heesch_words.specs.declared.requests.Request.{Request}
use Rattle.heesch_words.specs.declared.requests.Request.TheVariants.{List as ListRequest, Plain as PlainRequest, Classify as ClassifyRequest, Check as CheckRequest, CheckOuter as CheckOuterRequest, Table as TableRequest, Sample as SampleRequest, Formula as FormulaRequest, Answer as AnswerRequest, Share as ShareRequest, Join as JoinRequest, Outer as OuterRequest}
use Rattle.heesch_words.specs.Options.{AreOptions, HasWorkersAlone, HasSizeAndVersionAlone, workers_of, limits_of}

-- the shapes of so many cells are listed: version 2 has the larger ranges
abbrev pub IsSize : GridName → ℕ → Type 0
IsSize grid n = (1 ≤ n) × (n ≤ most_cells Two grid)

-- the numbers of a sample: cells, shapes and seed
pub record IsSample (n count seed : ℕ) : Type 0 where
  pub cells : (1 ≤ n) × (n ≤ 32)
  pub shapes : (1 ≤ count) × (count ≤ 1000)
  pub seed_range : seed ≤ 18446744073709551615

-- one of so many shares, by its number
pub record IsShare (i k : ℕ) : Type 0 where
  pub number : (1 ≤ i) × (i ≤ k)
  pub most : k ≤ 1000

-- a formula is asked for at this level, with at most so many literals
pub record IsFormulaInRange (level size : ℕ) : Type 0 where
  pub level_range : (1 ≤ level) × (level ≤ 6)
  pub size_range : (1 ≤ size) × (size ≤ 60000000)

-- the words are the first ones, and options after them
pub record HaveOptions (first words : List (List ℕ)) (options : Options) : Type 0 where
  pub others : List (List ℕ)
  pub spelled : words ≡ first ++ others
  pub given : AreOptions others options

-- GRID N, and `--workers` where it is wanted
pub record HasListForm (words : List (List ℕ)) (grid : GridName) (n workers : ℕ) : Type 0 where
  pub options : Options
  pub have : HaveOptions (grid_word grid ∷ decimal n ∷ []) words options
  pub size : IsSize grid n
  pub alone : HasWorkersAlone options
  pub workers_is : workers ≡ workers_of options

-- GRID N or GRID `given`, and the options that are wanted
pub record HasClassifyForm (words : List (List ℕ)) (grid : GridName) (subject : Subject) (limits : Limits) (workers : ℕ) (brief : Bool) : Type 0 where
  pub options : Options
  pub have : HaveOptions (grid_word grid ∷ subject_word subject ∷ []) words options
  pub in_range : IsSubject limits.version grid subject
  pub limits_is : limits ≡ limits_of options
  pub workers_is : workers ≡ workers_of options
  pub brief_is : brief ≡ options.brief

-- `--workers` where it is wanted
pub record HasCheckForm (words : List (List ℕ)) (workers : ℕ) : Type 0 where
  pub options : Options
  pub given : AreOptions words options
  pub alone : HasWorkersAlone options
  pub workers_is : workers ≡ workers_of options

-- `outer`, then GRID N or GRID `given`, and the options that are wanted, but for `--brief`
pub record HasCheckOuterForm (words : List (List ℕ)) (grid : GridName) (subject : Subject) (limits : Limits) (workers : ℕ) : Type 0 where
  pub others : List (List ℕ)
  pub spelled : words ≡ codes "outer" ∷ others
  pub has : HasClassifyForm others grid subject limits workers false

-- GRID N COUNT SEED, and the options that are wanted, but for `--brief`
pub record HasSampleForm (words : List (List ℕ)) (grid : GridName) (n count seed : ℕ) (limits : Limits) (workers : ℕ) : Type 0 where
  pub options : Options
  pub have : HaveOptions (grid_word grid ∷ decimal n ∷ decimal count ∷ decimal seed ∷ []) words options
  pub in_range : IsSample n count seed
  pub has_grid : HasGrid limits.version grid
  pub not_brief : options.brief ≡ false
  pub limits_is : limits ≡ limits_of options
  pub workers_is : workers ≡ workers_of options

-- GRID N I K, and the options that are wanted, but for `--brief`
pub record HasShareForm (words : List (List ℕ)) (grid : GridName) (n i k : ℕ) (limits : Limits) (workers : ℕ) : Type 0 where
  pub options : Options
  pub have : HaveOptions (grid_word grid ∷ decimal n ∷ decimal i ∷ decimal k ∷ []) words options
  pub in_range : IsSubject limits.version grid (Size n)
  pub share : IsShare i k
  pub not_brief : options.brief ≡ false
  pub limits_is : limits ≡ limits_of options
  pub workers_is : workers ≡ workers_of options

-- GRID J, and `--size` and `--version` where they are wanted
pub record HasFormulaForm (words : List (List ℕ)) (grid : GridName) (level size : ℕ) (version : Version) : Type 0 where
  pub options : Options
  pub have : HaveOptions (grid_word grid ∷ decimal level ∷ []) words options
  pub level_range : (1 ≤ level) × (level ≤ 6)
  pub has_grid : HasGrid version grid
  pub alone : HasSizeAndVersionAlone options
  pub size_is : size ≡ (limits_of options).size
  pub version_is : version ≡ (limits_of options).version

-- the first word of a request's form
abbrev pub form_word : Request → List ℕ
form_word (ListRequest grid n workers) = codes "list"
form_word (PlainRequest grid n workers) = codes "plain"
form_word (ClassifyRequest grid subject limits workers brief) = codes "classify"
form_word (CheckRequest workers) = codes "check"
form_word (CheckOuterRequest grid subject limits workers) = codes "check"
form_word TableRequest = codes "table"
form_word (SampleRequest grid n count seed limits workers) = codes "sample"
form_word (FormulaRequest grid level size version) = codes "formula"
form_word (AnswerRequest grid level size version) = codes "answer"
form_word (ShareRequest grid n i k limits workers) = codes "share"
form_word JoinRequest = codes "join"
form_word (OuterRequest grid subject limits workers) = codes "outer"

-- The words after the first one have the form of the request, with its values.
abbrev pub HasForm : List (List ℕ) → Request → Type 0
HasForm words (ListRequest grid n workers) = HasListForm words grid n workers
HasForm words (PlainRequest grid n workers) = HasListForm words grid n workers
HasForm words (ClassifyRequest grid subject limits workers brief) = HasClassifyForm words grid subject limits workers brief
HasForm words (CheckRequest workers) = HasCheckForm words workers
HasForm words (CheckOuterRequest grid subject limits workers) = HasCheckOuterForm words grid subject limits workers
HasForm words TableRequest = words ≡ []
HasForm words (SampleRequest grid n count seed limits workers) = HasSampleForm words grid n count seed limits workers
HasForm words (FormulaRequest grid level size version) = HasFormulaForm words grid level size version
HasForm words (AnswerRequest grid level size version) = HasFormulaForm words grid level size version
HasForm words (ShareRequest grid n i k limits workers) = HasShareForm words grid n i k limits workers
HasForm words JoinRequest = words ≡ []
HasForm words (OuterRequest grid subject limits workers) = HasClassifyForm words grid subject limits workers false

-- The words ask for this: they have the request's form, with its values.
pub record Asks (words : List (List ℕ)) (request : Request) : Type 0 where
  pub others : List (List ℕ)
  pub spelled : words ≡ form_word request ∷ others
  pub has : HasForm others request

-- The request's numbers lie in their ranges.
abbrev pub IsInRange : Request → Type 0
IsInRange (ListRequest grid n workers) = IsSize grid n × (1 ≤ workers) × (workers ≤ 64)
IsInRange (PlainRequest grid n workers) = IsSize grid n × (1 ≤ workers) × (workers ≤ 64)
IsInRange (ClassifyRequest grid subject limits workers brief) = IsSubject limits.version grid subject × AreLimits limits × (1 ≤ workers) × (workers ≤ 64)
IsInRange (CheckRequest workers) = (1 ≤ workers) × (workers ≤ 64)
IsInRange (CheckOuterRequest grid subject limits workers) = IsSubject limits.version grid subject × AreLimits limits × (1 ≤ workers) × (workers ≤ 64)
IsInRange TableRequest = ⊤
IsInRange (SampleRequest grid n count seed limits workers) = IsSample n count seed × HasGrid limits.version grid × AreLimits limits × (1 ≤ workers) × (workers ≤ 64)
IsInRange (FormulaRequest grid level size version) = IsFormulaInRange level size × HasGrid version grid
IsInRange (AnswerRequest grid level size version) = IsFormulaInRange level size × HasGrid version grid
IsInRange (ShareRequest grid n i k limits workers) = IsSubject limits.version grid (Size n) × IsShare i k × AreLimits limits × (1 ≤ workers) × (workers ≤ 64)
IsInRange JoinRequest = ⊤
IsInRange (OuterRequest grid subject limits workers) = IsSubject limits.version grid subject × AreLimits limits × (1 ≤ workers) × (workers ≤ 64)
