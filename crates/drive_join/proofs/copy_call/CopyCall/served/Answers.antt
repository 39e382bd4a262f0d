use Rattle.std.proofs.Common.{ap, ◌∙◌}
use Rattle.std.specs.Prelude.{Option}
use Rattle.cluster_record.specs.declared.copying.Copying.{Copying}
use Rattle.cluster_record.specs.DueCopy.{CopyState, copy_next, copy_taken}
use Rattle.cluster_record.specs.DueUpdate.{UpdateState}
use Rattle.cluster_record.specs.Ends.{served_done}
use Rattle.cluster_record.proofs.CopyStaging.{neither-staging, staging_told, told-staging}
use Rattle.drive_join.proofs.copy_call.CopyCall.served.Goals as goal

pub returns-in_default : goal.returns-in_default
returns-in_default g c =
    let R = c.args.seen.now in
    let request = c.args.request.now in
    let reply = c.args.reply.now in
    let s : CopyState = record { call = c.self.inside.call; node = c.self.inside.node; copying = c.self.inside.copying; staging = g.H.Staging.staging c.self.inside.staging } in
    let of = neither-staging request c.in_default.not-Reserve c.in_default.not-Pull in
    ap (λ (at : Option Copying). record s { copying = at; staging = g.H.Staging.staging c.take.new.self }) c.being_staged-self-inside.ensures
    ∙ ap (λ (u : UpdateState). staging_told s u) c.take.ensures.new
    ∙ told-staging R reply s c.args.r request (ap (copy_next R) c.self.view_is ∙ c.requires) of
    ∙ ap (copy_taken (served_done R request c.args.r reply)) c.self.view_is
