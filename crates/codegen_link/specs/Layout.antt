-- The image and the certificate of a program: functions one after another in order of numbers, behind the end stub;
-- a frame is its function's weight, its variables lie from 0 upward in order, and the return address lies in its
-- last word.
use Rattle.std.specs.Prelude.{ℕ, zero, suc, ◌≡◌, ◌+◌, ◌-◌, ◌*◌, List, [], ◌∷◌, ◌++◌, length, map, flat_map, replicate, sum_by, take, slice_index}
use Rattle.std.specs.List.{range_with_len}
use Rattle.std.specs.List.Sorted.{IsPermutation, IsStrictlyIncreasing}
use Rattle.rv_code.specs.declared.instructions.Instr.{Instr}
use Rattle.rv_code.specs.Table.{encoding}
use Rattle.flat_code.specs.declared.functions.FlatFunction.{FlatFunction}
use Rattle.flat_code.specs.Codes.{FlatCode, function_at}
use Rattle.flat_code.specs.Weight.{weight_of}
use Rattle.checkpoint_place.specs.declared.plans.Plan.{Plan}
use Rattle.stack_image.specs.Addresses.{code_start}
use Rattle.stack_image.specs.declared.images.Image.{Image}
use Rattle.stack_certificate.specs.declared.certificates.Certificate.{Certificate}
use Rattle.stack_certificate.specs.declared.functions.FunctionFact.{FunctionFact}
use Rattle.stack_certificate.specs.Certificates.{fact_at}
use Rattle.stack_certificate.specs.Templates.{size, end_stub, prologue, template}
use Rattle.codegen_link.specs.declared.options.Options.{Options}
use Rattle.codegen_link.specs.Links.{link, site_facts}

-- the places of variables with these numbers of words, the first at a place
abbrev pub places_from : ℕ → List ℕ → List ℕ
places_from place [] = []
places_from place (words ∷ sizes) = place ∷ places_from (place + 4 * words) sizes

-- the number of words of a function's code: its prologue and its operations
abbrev pub function_words : FlatCode → Plan → FlatFunction → ℕ
function_words code plan function = 2 + function.params + sum_by (λ op. size function.sizes (link code plan op) op) function.ops

-- the number of words before function f, including the end stub; for the number of functions, all words
abbrev pub words_to : FlatCode → Plan → ℕ → ℕ
words_to code plan f = 2 + sum_by (function_words code plan) (take f code.functions)

abbrev pub code_words : FlatCode → Plan → ℕ
code_words code plan = words_to code plan (length code.functions)

-- the fact of function f in the certificate
abbrev pub fact_of : FlatCode → Plan → ℕ → FunctionFact
fact_of code plan f = record {
  entry = code_start + 4 * words_to code plan f;
  words = function_words code plan (function_at code f);
  frame = weight_of (function_at code f).sizes;
  ra = weight_of (function_at code f).sizes - 4;
  bound = slice_index plan.bounds f;
  places = places_from 0 (function_at code f).sizes;
}

-- the certificate has this fact of each function, and the link kind of each site, in order of numbers
pub record HasFacts (code : FlatCode) (plan : Plan) (certificate : Certificate) : Type 0 where
  pub functions : certificate.functions ≡ map (fact_of code plan) (range_with_len 0 (length code.functions))
  pub sites : IsPermutation (site_facts code plan) certificate.sites
  pub rising : IsStrictlyIncreasing (map (λ fact. fact.number) certificate.sites)

-- the certificate of a program, by a plan, for these sizes of chunk and path
pub record IsCertificateOf (code : FlatCode) (plan : Plan) (options : Options) (certificate : Certificate) : Type 0 where
  pub chunk : certificate.chunk ≡ options.chunk
  pub max_path : certificate.max_path ≡ options.max_path
  pub facts : HasFacts code plan certificate

-- the instructions of the operations of function f before operation i
abbrev pub operations_before : FlatCode → Certificate → ℕ → ℕ → List Instr
operations_before code certificate f zero = []
operations_before code certificate f (suc i) = operations_before code certificate f i ++ template code certificate f i

-- the instructions of function f
abbrev pub function_code : FlatCode → Certificate → ℕ → List Instr
function_code code certificate f =
    prologue (fact_at certificate f) (function_at code f).params ++ operations_before code certificate f (length (function_at code f).ops)

-- the end stub and the instructions of the functions before function f
abbrev pub functions_before : FlatCode → Certificate → ℕ → List Instr
functions_before code certificate zero = end_stub
functions_before code certificate (suc f) = functions_before code certificate f ++ function_code code certificate f

-- the image of a program under a certificate: its code, the initial words of its globals, the entries of its tables'
-- members, and of its functions
pub record IsImageOf (code : FlatCode) (certificate : Certificate) (image : Image) : Type 0 where
  pub words : image.code ≡ map encoding (functions_before code certificate (length code.functions))
  pub globals : image.globals ≡ flat_map (λ g. replicate g.words g.start) code.globals
  pub tables : image.tables ≡ flat_map (map (λ f. (fact_at certificate f).entry)) code.tables
  pub entries : image.entries ≡ map (λ fact. fact.entry) certificate.functions
