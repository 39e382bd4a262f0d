-- A call that is answered at its beginning.
use Rattle.std.specs.Prelude.{◌≡◌, ℕ, ◌<◌, length, Option, Some, None, slice_get}
use Rattle.ckpt_types.specs.declared.answers.Outcome.{Outcome}
use Rattle.ckpt_types.specs.declared.identities.ActorName.TheVariants.{Client}
use Rattle.ckpt_types.specs.declared.identities.CallId.{CallId}
use Rattle.ckpt_types.specs.declared.identities.Who.TheVariants.{Actor}
use Rattle.ckpt_types.specs.declared.operation.Op.{Op}
use Rattle.ckpt_types.specs.Asks.{MayAsk, asked, IsBuilt}
use Rattle.ckpt_types.specs.Limits.{client_numbers}
use Rattle.client_handles.specs.declared.handle_view.HandleView.{HandleView}
use Rattle.cluster_record.specs.RecordState.{is_live_client}
use Rattle.ckpt_machine.specs.Beginning.{begin_end}
use Rattle.ckpt_machine.specs.Due.{MayBegin, IsBeginEnd}
use Rattle.ckpt_machine.specs.Tables.{handle_asked}
use Rattle.world_core.specs.declared.world.World.{World}
use Rattle.world_core.specs.HandsState.{hand_at}
use Rattle.world_core.specs.TablesState.{standing_in, kept_by}
use Rattle.client_calls.specs.TableState.{next_in}

-- the next call of a client, which has none in hand, with the handle of its place, may begin with this answer, or with none
pub record IsNextBegun (w : World) (c : ℕ) (call : CallId) (op : Op) (h : Option HandleView) (end : Option Outcome) : Type 0 where
  pub client : c < client_numbers
  pub table : c < length w.tables
  pub built : IsBuilt op
  pub none : hand_at w.hands (Actor (Client c)) ≡ None
  pub asker : MayAsk (Client c) (asked op)
  pub may : MayBegin w.cluster (Client c) (asked op)
  pub call_is : call ≡ record { actor = Client c; number = next_in (slice_get w.tables c) }
  pub handle : h ≡ handle_asked (asked op) (kept_by w.tables c)
  pub end_is : IsBeginEnd (asked op) (begin_end (standing_in (is_live_client c w.cluster) h c w.tables) (asked op)) end

-- it may be answered at once
abbrev pub IsAnsweredAtOnce : World → ℕ → CallId → Op → Option HandleView → Outcome → Type 0
IsAnsweredAtOnce w c call op h end = IsNextBegun w c call op h (Some end)
