-- The codes of the Application Interface Specification that the service answers: the standard's table.
use Rattle.std.specs.Prelude.{ℕ, List, codes}
use Rattle.ckpt_types.specs.declared.ais_error.AisError.{AisError}
use Rattle.ckpt_types.specs.declared.ais_error.AisError.TheVariants as errors

-- the standard's number
abbrev pub code_of : AisError → ℕ
code_of errors.Ok = 1
code_of errors.Version = 3
code_of errors.Init = 4
code_of errors.Timeout = 5
code_of errors.TryAgain = 6
code_of errors.InvalidParam = 7
code_of errors.NoMemory = 8
code_of errors.BadHandle = 9
code_of errors.Access = 11
code_of errors.NotExist = 12
code_of errors.Exist = 14
code_of errors.NoSpace = 15
code_of errors.NoResources = 18
code_of errors.BadOperation = 20
code_of errors.BadFlags = 25
code_of errors.NoSections = 27

-- the standard's word, as a result line prints it
abbrev pub error_text : AisError → List ℕ
error_text errors.Ok = codes "OK"
error_text errors.Version = codes "VERSION"
error_text errors.Init = codes "INIT"
error_text errors.Timeout = codes "TIMEOUT"
error_text errors.TryAgain = codes "TRY_AGAIN"
error_text errors.InvalidParam = codes "INVALID_PARAM"
error_text errors.NoMemory = codes "NO_MEMORY"
error_text errors.BadHandle = codes "BAD_HANDLE"
error_text errors.Access = codes "ACCESS"
error_text errors.NotExist = codes "NOT_EXIST"
error_text errors.Exist = codes "EXIST"
error_text errors.NoSpace = codes "NO_SPACE"
error_text errors.NoResources = codes "NO_RESOURCES"
error_text errors.BadOperation = codes "BAD_OPERATION"
error_text errors.BadFlags = codes "BAD_FLAGS"
error_text errors.NoSections = codes "NO_SECTIONS"
