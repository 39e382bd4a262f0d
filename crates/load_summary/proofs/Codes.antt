-- The numbers of codes.
use Rattle.std.proofs.Common.{◌<◌, arith}
use Rattle.ckpt_types.specs.AisError.{code_of}
use Rattle.ckpt_types.specs.declared.ais_error.AisError.{AisError}
use Rattle.ckpt_types.specs.declared.ais_error.AisError.TheVariants as errors

-- the standard's numbers end at 27
pub small_code : (error : AisError) → code_of error < 28
small_code errors.Ok = omega arith
small_code errors.Version = omega arith
small_code errors.Init = omega arith
small_code errors.Timeout = omega arith
small_code errors.TryAgain = omega arith
small_code errors.InvalidParam = omega arith
small_code errors.NoMemory = omega arith
small_code errors.BadHandle = omega arith
small_code errors.Access = omega arith
small_code errors.NotExist = omega arith
small_code errors.Exist = omega arith
small_code errors.NoSpace = omega arith
small_code errors.NoResources = omega arith
small_code errors.BadOperation = omega arith
small_code errors.BadFlags = omega arith
small_code errors.NoSections = omega arith
