-- How a plan is kept: there is room for each update of at most 64 elements.
use Rattle.std.specs.Prelude.{◌≤◌, length, vec_capacity}
use Rattle.ckpt_types.specs.Limits.{vector_max}
use Rattle.section_store.specs.declared.plan.Plan.TheInside.{Inside}

-- there is room for as many entries as a write may have elements
pub record HasRoom (plan : Inside) : Type 0 where
  pub few : length plan.entries.items ≤ vector_max
  pub room : vector_max ≤ vec_capacity plan.entries
