-- How a client keeps its handles: in a slab, where each place has the key and the number of one; and its
-- iterations: in a list, where each place has the number of one.
use Rattle.std.specs.Prelude.{◌≡◌, ℕ, ◌≤◌, length, map, Option, Some, None, vec_capacity}
use Rattle.ckpt_types.specs.Limits.{handles_max, places_max, iterations_max}
use Rattle.slab.specs.Slab.{slab_len}
use Rattle.client_handles.specs.ClientState.{ClientState, HasIterations}
use Rattle.client_handles.specs.Kept.{handles_up_to, AreNumbered, HaveKeys}
use Rattle.client_handles.specs.declared.kept.Bound.{Bound}
use Rattle.client_handles.specs.declared.client.Client.TheInside.{Inside}

-- the number to which a place was set, or 0
abbrev pub bound_number : Option Bound → ℕ
bound_number None = 0
bound_number (Some set) = set.number

-- the client as contracts see it
abbrev pub client_shown : Inside → ClientState
client_shown c = record {
  callbacks = c.callbacks;
  last_number = c.last_number;
  handles = handles_up_to c.last_number c.handles.slots;
  places = map bound_number c.places;
  last_iteration = c.last_iteration;
  iterations = c.iterations.items;
  iteration_places = c.iteration_places;
}

-- there is room for all handles and iterations that a client may have, and handles and places have their numbers and keys
pub record IsSound (c : Inside) : Type 0 where
  pub room : handles_max ≤ c.handles.capacity
  pub few : slab_len c.handles ≤ handles_max
  pub counted : slab_len c.handles ≡ length (handles_up_to c.last_number c.handles.slots)
  pub numbers : AreNumbered c.last_number c.handles
  pub keys : HaveKeys c.last_number c.handles c.places
  pub places : length c.places ≡ places_max
  pub iteration_room : iterations_max ≤ vec_capacity c.iterations
  pub iterations : HasIterations (client_shown c)
