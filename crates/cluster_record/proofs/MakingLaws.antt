-- A making of a client's call ends as that client's own.
use Rattle.std.proofs.Common.{◌≡◌, ℕ, sym, subst}
use Rattle.std.specs.Prelude.{Option, Some, None, IsSomeAnd}
use Rattle.ckpt_types.specs.declared.identities.CallId.{CallId}
use Rattle.cluster_record.specs.declared.entries.Entry.{Entry}
use Rattle.cluster_record.specs.Calls.{client_of}
use Rattle.cluster_record.specs.Makings.{making_call, IsOf}

-- an entry that is in the making by a call is of that call's client
pub making-own : (o : Option Entry) (call : CallId) (c : ℕ) → c ≡ client_of call → IsSomeAnd o (λ e. e.making ≡ Some call) → IsOf c (making_call o)
making-own None call c same made = absurd made
making-own (Some e) call c same made = subst (IsOf c) (sym made) (sym same)
