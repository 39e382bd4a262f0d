use Rattle.std.proofs.Common.{rules, w64, ◌++◌, [], ◌∷◌, refl, sym, ap, subst, ◌∙◌}
use Rattle.std.proofs.lemmas.Int.{to_z-of_z}
use Rattle.std.specs.Int.RustNames.{FitsSigned}
use Rattle.std.specs.Prelude.{None}
use Rattle.run_labels.specs.declared.labels.Label.{Label}
use Rattle.run_labels.specs.declared.labels.Label.TheVariants as labels
use Rattle.run_labels.specs.declared.labels.PullReply.TheVariants as pulls
use Rattle.run_labels.specs.declared.labels.PutReply.TheVariants as puts
use Rattle.script_lines.specs.declared.lines.Line.{Line}
use Rattle.cluster_record.specs.RecordState.{is_up}
use Rattle.ckpt_machine.specs.Machine.{Machine}
use Rattle.ckpt_machine.specs.NodeJoins.{join_answer}
use Rattle.ckpt_machine.specs.Runs.{last}
use Rattle.session_run.specs.Follows.{AnswersLine}
use Rattle.session_run.specs.Growing.{GrowsTowards}
use Rattle.session_run.proofs.Following.{OnOk-map, listing_alone}
use Rattle.session_run.proofs.Putting.{pull_alone, put_before}
use Rattle.session_run.proofs.Fronts.{towards_label, towards_begun, fault_leaves}
use Rattle.session_run.proofs.playing.play_line.Goals as goal

pub returns-in-Nodes-clause-front : goal.returns-in-Nodes-clause-front
returns-in-Nodes-clause-front g c =
    let old = c.args.log.now.labels in
    let label = labels.Nodes c.in-Nodes.count in
    subst (λ (line : Line). GrowsTowards old c.event.new.log.labels (AnswersLine (last old) line)) (sym c.in-Nodes.is)
    (towards_label _ c.event.result old c.event.new.log.labels label refl
    (OnOk-map c.event.result c.event.ensures.happens (λ h. h.grows ∙ ap (λ (l : Label). old ++ l ∷ []) h.answers.0)) c.event.ensures.err)

pub returns-in-Call-clause-front : goal.returns-in-Call-clause-front
returns-in-Call-clause-front g c =
    let old = c.args.log.now.labels in
    subst (λ (line : Line). GrowsTowards old c.play_call.new.log.labels (AnswersLine (last old) line)) (sym c.in-Call.is) c.play_call.ensures.front

pub returns-in-At-clause-front : goal.returns-in-At-clause-front
returns-in-At-clause-front g c =
    let old = c.args.log.now.labels in
    let label = labels.Moved c.in-At.t in
    let fits : FitsSigned w64 c.in-At.t = search rules in
    let grows = OnOk-map c.event-in-At.result c.event-in-At.ensures.happens (λ h. h.grows ∙ ap (λ (l : Label). old ++ l ∷ []) h.answers.0) in
    subst (λ (line : Line). GrowsTowards old c.event-in-At.new.log.labels (AnswersLine (last old) line)) (sym c.in-At.is)
    (towards_label _ c.event-in-At.result old c.event-in-At.new.log.labels label refl (simp to_z-of_z at grows) c.event-in-At.ensures.err)

pub returns-in-Fail-clause-front : goal.returns-in-Fail-clause-front
returns-in-Fail-clause-front g c =
    let old = c.args.log.now.labels in
    let r = c.in-Fail.node in
    subst (λ (line : Line). GrowsTowards old c.event-in-Fail.new.log.labels (AnswersLine (last old) line)) (sym c.in-Fail.is)
    (towards_label _ c.event-in-Fail.result old c.event-in-Fail.new.log.labels (labels.Failed r (is_up r (last old).cluster)) refl
    (OnOk-map c.event-in-Fail.result c.event-in-Fail.ensures.happens (λ h. h.grows ∙ ap (λ (l : Label). old ++ l ∷ []) (h.answers.0 ∙ ap (λ (m : Machine). labels.Failed r (is_up r m.cluster)) (sym c.requires.run.shows.same)))) c.event-in-Fail.ensures.err)

pub returns-in-Join-clause-front : goal.returns-in-Join-clause-front
returns-in-Join-clause-front g c =
    let old = c.args.log.now.labels in
    let r = c.in-Join.node in
    subst (λ (line : Line). GrowsTowards old c.event-in-Join.new.log.labels (AnswersLine (last old) line)) (sym c.in-Join.is)
    (towards_label _ c.event-in-Join.result old c.event-in-Join.new.log.labels (labels.Joined r (join_answer r (last old).cluster)) refl
    (OnOk-map c.event-in-Join.result c.event-in-Join.ensures.happens (λ h. h.grows ∙ ap (λ (l : Label). old ++ l ∷ []) (h.answers.0 ∙ ap (λ (m : Machine). labels.Joined r (join_answer r m.cluster)) (sym c.requires.run.shows.same)))) c.event-in-Join.ensures.err)

pub returns-in-Begin-clause-front : goal.returns-in-Begin-clause-front
returns-in-Begin-clause-front g c =
    let old = c.args.log.now.labels in
    subst (λ (line : Line). GrowsTowards old c.begin_of.new.log.labels (AnswersLine (last old) line)) (sym c.in-Begin.is) c.begin_of.ensures.front

pub returns-in-Show-clause-front : goal.returns-in-Show-clause-front
returns-in-Show-clause-front g c =
    let old = c.args.log.now.labels in
    let k = c.in-Show.ckpt in
    subst (λ (line : Line). GrowsTowards old c.event-in-Show.new.log.labels (AnswersLine (last old) line)) (sym c.in-Show.is)
    (towards_begun c.event-in-Show.result old c.event-in-Show.new.log.labels (labels.Shown k None) (refl, refl) (fault_leaves _ _ c.event-in-Show.result c.event-in-Show.ensures.err)
    (OnOk-map c.event-in-Show.result c.event-in-Show.ensures.happens (λ h. (h.label ∷ [], h.grows, listing_alone k h.label h.answers.0))))

pub returns-in-Pull-clause-front : goal.returns-in-Pull-clause-front
returns-in-Pull-clause-front g c =
    let old = c.args.log.now.labels in
    let k = c.in-Pull.ckpt in
    subst (λ (line : Line). GrowsTowards old c.event-in-Pull.new.log.labels (AnswersLine (last old) line)) (sym c.in-Pull.is)
    (towards_begun c.event-in-Pull.result old c.event-in-Pull.new.log.labels (labels.Pulled k pulls.Nothing) (refl, refl) (fault_leaves _ _ c.event-in-Pull.result c.event-in-Pull.ensures.err)
    (OnOk-map c.event-in-Pull.result c.event-in-Pull.ensures.happens (λ h. (h.label ∷ [], h.grows, pull_alone k h.label h.answers.0))))

pub returns-in-Put-clause-front : goal.returns-in-Put-clause-front
returns-in-Put-clause-front g c =
    let old = c.args.log.now.labels in
    let k = c.in-Put.ckpt in
    let r = c.in-Put.node in
    subst (λ (line : Line). GrowsTowards old c.event-in-Put.new.log.labels (AnswersLine (last old) line)) (sym c.in-Put.is)
    (towards_begun c.event-in-Put.result old c.event-in-Put.new.log.labels (labels.Put k r puts.Nothing) (refl, refl, refl) (fault_leaves _ _ c.event-in-Put.result c.event-in-Put.ensures.err)
    (OnOk-map c.event-in-Put.result c.event-in-Put.ensures.happens (λ h. (h.label ∷ [], h.grows, put_before k r [] h.label [] h.answers.0 refl))))

pub returns-in-Propagate-clause-front : goal.returns-in-Propagate-clause-front
returns-in-Propagate-clause-front g c =
    let old = c.args.log.now.labels in
    subst (λ (line : Line). GrowsTowards old c.propagate.new.log.labels (AnswersLine (last old) line)) (sym c.in-Propagate.is) c.propagate.ensures.front

pub returns-in-Copy-clause-front : goal.returns-in-Copy-clause-front
returns-in-Copy-clause-front g c =
    let old = c.args.log.now.labels in
    subst (λ (line : Line). GrowsTowards old c.play_copy.new.log.labels (AnswersLine (last old) line)) (sym c.in-Copy.is) c.play_copy.ensures.front
