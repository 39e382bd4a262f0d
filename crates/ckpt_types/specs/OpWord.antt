-- The first words of call lines.
use Rattle.std.specs.Prelude.{ℕ, List, Bool, true, false, codes, if◌then◌else◌}
use Rattle.ckpt_types.specs.declared.identities.CallId.{CallId}
use Rattle.ckpt_types.specs.declared.identities.Who.{Who}
use Rattle.ckpt_types.specs.declared.identities.Who.TheVariants.{Actor, Call}
use Rattle.ckpt_types.specs.declared.operation.Op.{Op}
use Rattle.ckpt_types.specs.declared.operation.Op.TheVariants as ops
use Rattle.ckpt_types.specs.declared.words.OpWord.{OpWord}
use Rattle.ckpt_types.specs.declared.words.OpWord.TheVariants as words

-- the first word of the line that asks for a call
abbrev pub word_of_op : Op → OpWord
word_of_op (ops.Client node version callbacks) = words.Client
word_of_op ops.Finalize = words.Finalize
word_of_op (ops.Open place name flags timeout attributes) = words.Open
word_of_op (ops.OpenAsync place invocation name flags attributes) = words.OpenAsync
word_of_op (ops.Close place) = words.Close
word_of_op (ops.Unlink name) = words.Unlink
word_of_op (ops.Retain place duration) = words.Retain
word_of_op (ops.Active place) = words.Active
word_of_op (ops.Status place) = words.Status
word_of_op (ops.Create place update) = words.Create
word_of_op (ops.Delete place update) = words.Delete
word_of_op (ops.Expire place update) = words.Expire
word_of_op (ops.Iter iteration place choice time) = words.Iter
word_of_op (ops.Next iteration) = words.Next
word_of_op (ops.EndIter iteration) = words.EndIter
word_of_op (ops.Write place update) = words.Write
word_of_op (ops.Over place update) = words.Over
word_of_op (ops.Read place elements) = words.Read
word_of_op (ops.Sync place timeout) = words.Sync
word_of_op (ops.SyncAsync place invocation) = words.SyncAsync
word_of_op (ops.Dispatch flags) = words.Dispatch
word_of_op ops.Copy = words.Copy

-- an asynchronous call goes on by itself, under its own name
abbrev pub is_async : OpWord → Bool
is_async words.OpenAsync = true
is_async words.SyncAsync = true
is_async word = false

-- by whose name a call is stepped: an asynchronous one by its own, any other by its actor's
abbrev pub stepped_as : CallId → OpWord → Who
stepped_as call word = if is_async word then Call call else Actor call.actor

-- how a first word is spelled
abbrev pub op_text : OpWord → List ℕ
op_text words.Client = codes "client"
op_text words.Finalize = codes "finalize"
op_text words.Open = codes "open"
op_text words.OpenAsync = codes "openasync"
op_text words.Close = codes "close"
op_text words.Unlink = codes "unlink"
op_text words.Retain = codes "retain"
op_text words.Active = codes "active"
op_text words.Status = codes "status"
op_text words.Create = codes "create"
op_text words.Delete = codes "delete"
op_text words.Expire = codes "expire"
op_text words.Iter = codes "iter"
op_text words.Next = codes "next"
op_text words.EndIter = codes "enditer"
op_text words.Write = codes "write"
op_text words.Over = codes "over"
op_text words.Read = codes "read"
op_text words.Sync = codes "sync"
op_text words.SyncAsync = codes "syncasync"
op_text words.Dispatch = codes "dispatch"
op_text words.Copy = codes "copy"
