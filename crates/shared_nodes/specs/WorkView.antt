-- How what a call takes is kept.
use Rattle.std.specs.Prelude.{◌≡◌, All, vec_len}
use Rattle.ckpt_types.specs.Asks.{update_of, elements_of}
use Rattle.shared_nodes.specs.declared.work.Work.TheInside.{Inside}
use Rattle.shared_nodes.specs.Works.{KeptWork, id_buffer, read_buffer}

-- how many there are of each
abbrev pub work_shown : Inside → KeptWork
work_shown w = record {
  op = w.op;
  updates = vec_len w.updates;
  ids = vec_len w.ids;
  elements = vec_len w.elements;
  reads = vec_len w.reads;
  status = w.status;
  section = w.section;
}

-- all are of the operation: the shares of its update and of its elements, and the buffers, which are empty
pub record IsOfItsOp (w : Inside) : Type 0 where
  pub updates : All (λ update. update ≡ update_of w.op) w.updates.items
  pub ids : All (λ buffer. buffer ≡ id_buffer w.op) w.ids.items
  pub elements : All (λ elements. elements ≡ elements_of w.op) w.elements.items
  pub reads : All (λ buffer. buffer ≡ read_buffer w.op) w.reads.items
