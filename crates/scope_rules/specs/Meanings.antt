-- The permitted uses of each kind of name.
use Rattle.std.specs.Prelude.{ℕ, Bool, true, false, not, nat_eq, ◌&&◌, Option, Some, None}
use Rattle.cap_word.specs.ModelledCalls.{parameters_of, gives_result}
use Rattle.scope_rules.specs.declared.meanings.Meaning.{Meaning}
use Rattle.scope_rules.specs.declared.meanings.Variable.{Variable}
use Rattle.scope_rules.specs.declared.meanings.Callee.{Callee}
use Rattle.scope_rules.specs.declared.meanings.Found.{Found}

-- a variable or a global without an index
abbrev pub is_scalar : Meaning → Bool
is_scalar (Meaning.Local x array) = not array
is_scalar (Meaning.Global g array) = not array
is_scalar (Meaning.Table t) = false
is_scalar (Meaning.Function f gives params defined) = false
is_scalar (Meaning.Modelled m) = false
is_scalar Meaning.Spawn = false

-- a variable or a global with one
abbrev pub is_array : Meaning → Bool
is_array (Meaning.Local x array) = array
is_array (Meaning.Global g array) = array
is_array (Meaning.Table t) = false
is_array (Meaning.Function f gives params defined) = false
is_array (Meaning.Modelled m) = false
is_array Meaning.Spawn = false

-- a call with an index
abbrev pub is_table : Meaning → Bool
is_table (Meaning.Local x array) = false
is_table (Meaning.Global g array) = false
is_table (Meaning.Table t) = true
is_table (Meaning.Function f gives params defined) = false
is_table (Meaning.Modelled m) = false
is_table Meaning.Spawn = false

-- a call without one
abbrev pub is_callable : Meaning → Bool
is_callable (Meaning.Local x array) = false
is_callable (Meaning.Global g array) = false
is_callable (Meaning.Table t) = false
is_callable (Meaning.Function f gives params defined) = true
is_callable (Meaning.Modelled m) = true
is_callable Meaning.Spawn = true

-- a modelled call, whose name can't be declared
abbrev pub is_modelled : Meaning → Bool
is_modelled (Meaning.Local x array) = false
is_modelled (Meaning.Global g array) = false
is_modelled (Meaning.Table t) = false
is_modelled (Meaning.Function f gives params defined) = false
is_modelled (Meaning.Modelled m) = true
is_modelled Meaning.Spawn = true

-- the first argument of spawn: a function with one parameter
abbrev pub is_spawnable : Meaning → Bool
is_spawnable (Meaning.Local x array) = false
is_spawnable (Meaning.Global g array) = false
is_spawnable (Meaning.Table t) = false
is_spawnable (Meaning.Function f gives params defined) = nat_eq params 1
is_spawnable (Meaning.Modelled m) = false
is_spawnable Meaning.Spawn = false

-- a member of a table: an int function with one parameter
abbrev pub is_member : Meaning → Bool
is_member (Meaning.Local x array) = false
is_member (Meaning.Global g array) = false
is_member (Meaning.Table t) = false
is_member (Meaning.Function f gives params defined) = gives && nat_eq params 1
is_member (Meaning.Modelled m) = false
is_member Meaning.Spawn = false

-- a call of it gives no result
abbrev pub is_void : Meaning → Bool
is_void (Meaning.Local x array) = false
is_void (Meaning.Global g array) = false
is_void (Meaning.Table t) = false
is_void (Meaning.Function f gives params defined) = not gives
is_void (Meaning.Modelled m) = not (gives_result m)
is_void Meaning.Spawn = false

-- the number of arguments of a call, without an index; one for a table
abbrev pub takes : Meaning → Option ℕ
takes (Meaning.Local x array) = None
takes (Meaning.Global g array) = None
takes (Meaning.Table t) = Some 1
takes (Meaning.Function f gives params defined) = Some params
takes (Meaning.Modelled m) = Some (parameters_of m)
takes Meaning.Spawn = Some 2

-- whether a number of arguments differs from that
abbrev pub is_wrong_count : Option ℕ → ℕ → Bool
is_wrong_count None k = false
is_wrong_count (Some n) k = not (nat_eq n k)

-- the variable or global that a name stands for; if it stands for none, a rule is broken, and the value isn't used
abbrev pub variable_in : Meaning → Variable
variable_in (Meaning.Local x array) = Variable.Local x
variable_in (Meaning.Global g array) = Variable.Global g
variable_in (Meaning.Table t) = Variable.Local 0
variable_in (Meaning.Function f gives params defined) = Variable.Local 0
variable_in (Meaning.Modelled m) = Variable.Local 0
variable_in Meaning.Spawn = Variable.Local 0

abbrev pub variable_of : Option Found → Variable
variable_of None = Variable.Local 0
variable_of (Some f) = variable_in f.meaning

-- the table that a name stands for, likewise
abbrev pub table_in : Meaning → ℕ
table_in (Meaning.Local x array) = 0
table_in (Meaning.Global g array) = 0
table_in (Meaning.Table t) = t
table_in (Meaning.Function f gives params defined) = 0
table_in (Meaning.Modelled m) = 0
table_in Meaning.Spawn = 0

abbrev pub table_of : Option Found → ℕ
table_of None = 0
table_of (Some f) = table_in f.meaning

-- the function that a name stands for, likewise
abbrev pub function_in : Meaning → ℕ
function_in (Meaning.Local x array) = 0
function_in (Meaning.Global g array) = 0
function_in (Meaning.Table t) = 0
function_in (Meaning.Function f gives params defined) = f
function_in (Meaning.Modelled m) = 0
function_in Meaning.Spawn = 0

abbrev pub function_of : Option Found → ℕ
function_of None = 0
function_of (Some f) = function_in f.meaning

-- the callee of a call of a name, likewise
abbrev pub callee_in : Meaning → Callee
callee_in (Meaning.Local x array) = Callee.Function 0
callee_in (Meaning.Global g array) = Callee.Function 0
callee_in (Meaning.Table t) = Callee.Function 0
callee_in (Meaning.Function f gives params defined) = Callee.Function f
callee_in (Meaning.Modelled m) = Callee.Modelled m
callee_in Meaning.Spawn = Callee.Spawn

abbrev pub callee_of : Option Found → Callee
callee_of None = Callee.Function 0
callee_of (Some f) = callee_in f.meaning
