-- Which label is the last step of a call.
use Rattle.std.specs.Prelude.{◌≡◌, Some}
use Rattle.ckpt_types.specs.declared.identities.CallId.{CallId}
use Rattle.run_labels.specs.declared.labels.Label.{Label}
use Rattle.run_labels.specs.declared.labels.Label.TheVariants as labels

-- the label is the last step of the call; one that ends at its beginning takes no step, and has no effect
abbrev pub IsLastStep : Label → CallId → Type 0
IsLastStep (labels.Stepped call word verb k r reply (Some end) details) c = call ≡ c
IsLastStep label c = ⊥
