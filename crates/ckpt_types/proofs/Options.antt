-- Of options of any kind.
use Rattle.std.proofs.Common.{◌≡◌, Option, Some, None, false, refl}
use Rattle.std.specs.Prelude.{is_some}

-- what is not some is none
pub none_of : {X : Type 0} (o : Option X) → is_some o ≡ false → o ≡ None
none_of None is = refl
none_of (Some x) is = absurd (cc is)
