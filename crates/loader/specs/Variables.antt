-- What parameters and locals differ in.
use Rattle.std.specs.Prelude.{ℕ, ◌+◌, Bool, false, eqb}
use Rattle.model.specs.Answer.{Answer}
use Rattle.model.specs.Tables.{most_arguments, most_locals}
use Rattle.model.specs.Loading.{Loading, param_record, local_record}
use Rattle.loader.specs.declared.kind.Kind.{Kind}
use Rattle.loader.specs.declared.kind.Kind.TheVariants.{Parameter as ParameterKind, Local as LocalKind}
use Rattle.loader.specs.declared.variable.Variable.{Variable}
use Rattle.loader.specs.declared.variable.Variable.TheVariants.{Parameter, Local}

abbrev pub kind_of : Variable → Kind
kind_of Parameter = ParameterKind
kind_of Local = LocalKind

-- the column that counts them
abbrev pub count_of : Variable → ℕ
count_of Parameter = 28
count_of Local = 29

-- the column of the one behind the first n
abbrev pub column_of : Variable → ℕ → ℕ
column_of Parameter n = n
column_of Local n = 8 + n

abbrev pub most_of : Variable → ℕ
most_of Parameter = most_arguments
most_of Local = most_locals

-- a method of an initialiser's sort byte has no parameters
abbrev pub barred : Variable → ℕ → Bool
barred Parameter sort = eqb sort 4
barred Local sort = false

-- the model's record
abbrev pub variable_record : Variable → Loading → ℕ → Answer ℕ Loading
variable_record Parameter = param_record
variable_record Local = local_record
