-- An identifier beside its key.
use Rattle.std.specs.Prelude.{◌≡◌}
use Rattle.section_store.specs.Keys.{key_of, AreBytes}
use Rattle.section_store.specs.declared.keyed.Keyed.TheInside.{Inside}

-- the key is that of the identifier
pub record IsKeyed (k : Inside) : Type 0 where
  pub key : k.key ≡ key_of k.id
  pub bytes : AreBytes k.id
